-- What is returned is the numbers that f gave, or none where it gave none for one of them.
-- Where f gives the small ones of some numbers, that is those numbers, checked.
use Rattle.std.proofs.Common.{ap, ◌∙◌}
use Rattle.expression.specs.bridge.Answers.{kept}
use Rattle.expression.proofs.Laws.Numbers.{gives_none, gives_all}
use Rattle.expression.proofs.part.Part.filled.Goals as goal

pub returns-in_err-numbers : goal.returns-in_err-numbers
returns-in_err-numbers g c ns n h = ap kept c.from_residual.ensures ∙ gives_none _ ns n h c.loop-k.k c.loop-k-test.true c.in_err-numbers.ensures

pub returns : goal.returns
returns g c ns n h = gives_all _ ns n h c.loop-k.k c.loop-k.numbers c.loop-k-test.false c.loop-k.invariant
