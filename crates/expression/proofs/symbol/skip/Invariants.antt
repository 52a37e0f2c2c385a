-- The invariant: what is left from the place has the same next symbol.
use Rattle.std.proofs.Common.{◌≡◌, drop}
use Rattle.expression.specs.bridge.Text.{skip}
use Rattle.expression.proofs.symbol.skip.Given as goal

abbrev pub invariant-loop-i : goal.invariant-loop-i
invariant-loop-i l = skip (drop l.i l.s) ≡ skip (drop l.at l.s)
