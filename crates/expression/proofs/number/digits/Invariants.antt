-- The invariant: the number so far, read on, is the number.
use Rattle.std.proofs.Common.{◌≡◌, ◌≤◌, drop}
use Rattle.expression.specs.bridge.Text.{digits}
use Rattle.expression.proofs.number.digits.Given as goal

abbrev pub invariant-loop-i : goal.invariant-loop-i
invariant-loop-i l = record { bound : l.v ≤ 65535; same : digits l.v (drop l.i l.s) ≡ digits 0 (drop l.at l.s) }
