-- `Headed::row_within` meets its contract: the loop keeps that the words joined so far are 0 just where each target before has passed.
use Rattle.std.proofs.Common.{◌≡◌, ℕ, ◌+◌, Bool, ◌&&◌, eqb, ltb, leb, List}
use Rattle.lists.specs.Decide.{for_below, implies}
use Rattle.meaning.specs.Block.{at}
use Rattle.automaton.specs.Sound.{used}
use Rattle.words.proofs.sound_words.Headed.row_within.Given as goal

-- the test of the target at a place
abbrev pub test : List ℕ → ℕ → ℕ → ℕ → ℕ → Bool
test w from low high k = implies (used (at w (from + k))) (leb low (at w (from + k)) && ltb (at w (from + k)) high)

abbrev pub invariant-loop-word : goal.invariant-loop-word
invariant-loop-word l = eqb l.astray 0 ≡ for_below l.word-index (test l.self.words.all.now l.from l.low l.high)
