-- `only_sums` meets its contract: the loop keeps that each entry before is a sum.
use Rattle.std.proofs.Common.{◌≡◌, ℕ, ◌+◌, ◌*◌, Bool, true, eqb, List}
use Rattle.lists.specs.Decide.{for_below}
use Rattle.meaning.specs.Block.{at, entry_size}
use Rattle.words.proofs.sound_words.only_sums.Given as goal

abbrev pub is_sum : List ℕ → ℕ → Bool
is_sum b j = eqb (at b (3 + entry_size * j)) 0

abbrev pub invariant-loop-entry : goal.invariant-loop-entry
invariant-loop-entry l = for_below l.entry (is_sum l.block) ≡ true
