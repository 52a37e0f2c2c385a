-- `Headed::level_end` meets its contract: the loop keeps that each state passed has the depth.
use Rattle.std.proofs.Common.{◌≡◌, ℕ, ◌<◌, ◌≤◌}
use Rattle.automaton.specs.Sound.{depth_word}
use Rattle.words.proofs.sound_words.Headed.level_end.Given as goal

abbrev pub invariant-loop-end : goal.invariant-loop-end
invariant-loop-end l = (q : ℕ) → q < l.end → l.from ≤ q → depth_word l.self.words.all.now q ≡ l.depth
