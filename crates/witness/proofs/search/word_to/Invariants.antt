-- `search::word_to` meets its contract. The invariant: the word so far leads from the state at hand, and the states below are left to look at.
-- Assumes nothing.
use mathlib.Core.List.{List}
use mathlib.Core.Path.{◌≡◌}
use Prim.Native.Nat.{ℕ}
use lib.ListN.{length}
use Rattle.lists.specs.Lists.{pad}
use Rattle.witness.proofs.Laws.Search.{Back}
use Rattle.witness.proofs.search.word_to.Given as goal

abbrev pub invariant-loop-number : goal.invariant-loop-number
invariant-loop-number l = (v : List ℕ) × (l.places ≡ pad 9 v) × (l.length ≡ length v) × Back l.machine.words.all.now l.initial.to.0 l.number l.to.0 v
