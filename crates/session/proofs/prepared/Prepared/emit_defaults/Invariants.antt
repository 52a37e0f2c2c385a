-- `prepared::Prepared::emit_defaults` meets its contract. The invariant: any run with an empty store at the part's start emits defaults for the characters
-- read, under the mark none of which is a first unit. Assumes nothing.
use Prim.Native.Nat.{◌+◌, ◌*◌}
use Rattle.session.specs.bridge.Running.{whole}
use Rattle.session.proofs.Laws.Reading.{Defaulted}
use Rattle.session.proofs.prepared.Prepared.emit_defaults.Given as goal

abbrev pub invariant-loop-read : goal.invariant-loop-read
invariant-loop-read g l = Defaulted l.self.machine.words.all.now (whole l.text) l.from l.initial.count l.steps l.initial.output (l.from + l.read) l.count (l.steps + 3 * l.read) l.output
