-- `prepared::fill_classes` meets its contract. The invariant: the classes of the first characters stand at their places, and the next class starts behind.
-- Assumes nothing.
use mathlib.Core.Path.{◌≡◌}
use Prim.Native.Nat.{ℕ, ◌+◌, ◌≤◌, ◌<◌}
use lib.ListN.{get_or}
use Rattle.meaning.specs.Block.{at}
use Rattle.automaton.specs.Layout.{classes_from}
use Rattle.automaton.specs.Sound.{class_count}
use Rattle.session.proofs.Laws.Reading.{class_in}
use Rattle.session.proofs.prepared.fill_classes.Given as goal

abbrev pub invariant-loop-class : goal.invariant-loop-class
invariant-loop-class l = (l.from ≤ l.most)
    × (l.from < l.most → (l.class < class_count l.machine.words.all.now) × (at l.machine.words.all.now (classes_from + l.class) ≡ l.from))
    × ((i : ℕ) → i < l.from → get_or l.classes i 0 ≡ class_in l.machine.words.all.now i)
