-- `uses::left_to_default` meets its contract: the loop keeps that what the rules so far took and what is left make up what was consumed.
-- Too many for one rule are too many in the whole sum.
use mathlib.Core.List.{List}
use mathlib.Core.Path.{◌≡◌}
use Prim.Native.Nat.{ℕ, ◌+◌, ◌*◌}
use Rattle.lists.specs.Lists.{sum_below}
use Rattle.meaning.specs.Block.{at}
use Rattle.automaton.specs.Sound.{block_at}
use Rattle.session.proofs.uses.left_to_default.Given as goal

-- what rule g took, and what the first n rules took
abbrev pub took : List ℕ → List ℕ → ℕ → ℕ
took words uses g = at uses g * at (block_at words g) 0

abbrev pub taken : List ℕ → List ℕ → ℕ → ℕ
taken words uses n = sum_below n (took words uses)

abbrev pub invariant-loop-rule : goal.invariant-loop-rule
invariant-loop-rule l = taken l.machine.words.all.now l.uses l.rule + l.left ≡ l.consumed
