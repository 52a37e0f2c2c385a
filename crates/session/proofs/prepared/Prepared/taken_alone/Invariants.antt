-- `prepared::Prepared::taken_alone` meets its contract. The invariant: the default takes each of the characters read alone, since none has a target and, under the
-- mark, none is a first unit. Assumes nothing.
use mathlib.Core.Bool.{not}
use lib.Dec.{eqb}
use Rattle.session.specs.bridge.Running.{TakenAlone}
use Rattle.session.proofs.prepared.Prepared.taken_alone.Given as goal

abbrev pub invariant-loop-size : goal.invariant-loop-size
invariant-loop-size g l = TakenAlone l.self.machine.words.all.now (not (eqb g.row.MARKED 0)) l.part l.size
