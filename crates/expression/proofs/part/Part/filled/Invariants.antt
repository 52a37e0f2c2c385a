-- The invariant: the numbers before k are small, and are what f gave.
use Rattle.std.proofs.Common.{Some}
use Rattle.expression.proofs.Laws.Numbers.{Filled}
use Rattle.expression.proofs.part.Part.filled.Given as goal

abbrev pub invariant-loop-k : goal.invariant-loop-k
invariant-loop-k g l = Filled (λ j v. goal.F-post g l.f j (Some v)) l.k l.numbers
