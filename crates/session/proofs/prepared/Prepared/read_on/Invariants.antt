-- `prepared::Prepared::read_on` meets its contract. The invariant: any run in the first state at the part's start reads on to the state, past the
-- characters read. Assumes nothing.
use Prim.Native.Nat.{◌+◌}
use Rattle.session.specs.bridge.Running.{whole}
use Rattle.session.proofs.Laws.Reading.{Reaches}
use Rattle.session.proofs.prepared.Prepared.read_on.Given as goal

abbrev pub invariant-loop-read : goal.invariant-loop-read
invariant-loop-read l = Reaches l.self.machine.words.all.now (whole l.text) l.initial.state l.from l.state (l.from + l.read)
