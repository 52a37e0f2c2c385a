-- `states::note_classes` meets its contract. The invariant: the targets of the classes so far are noted.
-- Assumes nothing.
use Prim.Native.Nat.{suc}
use Rattle.machine.specs.bridge.Tables.{bare_table}
use Rattle.automaton.specs.bridge.Noted.{NotedAt, Kept}
use Rattle.machine.proofs.states.note_classes.Given as goal

abbrev pub invariant-loop-class : goal.invariant-loop-class
invariant-loop-class l = Kept l.initial.words l.words × NotedAt (bare_table l.table) l.table.rules (suc l.state.0) l.state.0 l.class l.words l.met.sets l.met.count
