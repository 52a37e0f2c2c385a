-- `Headed::pass_in_levels` meets its contract: the loop keeps that the states before the level are sound and those of the level have its depth.
-- The measure is the number of the states that are left.
use Rattle.std.proofs.Common.{◌≡◌, ℕ, ◌-◌, ◌<◌, ◌≤◌, true}
use Rattle.automaton.specs.Sound.{state_count, depth_word, sound_state}
use Rattle.words.proofs.sound_words.Headed.pass_in_levels.Given as goal

abbrev pub invariant-loop-from : goal.invariant-loop-from
invariant-loop-from l = (l.from ≤ l.low)
    × (l.low ≤ state_count l.self.words.all.now)
    × (l.depth ≤ 9)
    × ((q : ℕ) → q < l.low → l.from ≤ q → depth_word l.self.words.all.now q ≡ l.depth)
    × ((q : ℕ) → q < l.low → l.from ≤ q → (q ≡ 0 → l.depth ≡ 0) × (1 ≤ q → 1 ≤ l.depth))
    × ((q : ℕ) → q < l.from → sound_state l.self.words.all.now q ≡ true)

abbrev pub decreases-loop-from : goal.decreases-loop-from
decreases-loop-from l = state_count l.self.words.all.now - l.from
