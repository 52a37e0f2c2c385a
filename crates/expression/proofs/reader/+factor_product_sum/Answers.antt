-- The product and sum that are read are those of the definitions: by a turn of a chain and its end.
-- What is read behind an operator is joined, and the chain goes on from there as it did.
use Rattle.std.proofs.Common.{refl}
use Rattle.expression.specs.Parts.{parts}
use Rattle.expression.specs.bridge.Text.{within}
use Rattle.expression.proofs.Laws.Chains.{factor_shrinks, product_shrinks, within_shrinks}
use Rattle.expression.proofs.Laws.Steps.{refuses, turn, turn_refused, ending}
use Rattle.expression.proofs.reader.+factor_product_sum.Goals as goal

pub product-returns-in_err-right : goal.product-returns-in_err-right
product-returns-in_err-right t c =
    let n = c.args.depth in
    let o = c.in-Some in
    refuses c.from_residual-in_err-right.ensures (turn_refused (factor_shrinks parts (within parts n) (within_shrinks parts n)) c.loop-operation.invariant o.operation refl o.ensures c.in_err-right.ensures)

pub product-loop-operation-preserved : goal.product-loop-operation-preserved
product-loop-operation-preserved t c =
    let n = c.args.depth in
    let o = c.in-Some in
    turn (factor_shrinks parts (within parts n) (within_shrinks parts n)) c.loop-operation.invariant o.operation refl o.ensures c.in_ok-right.ensures c.joined-part.ensures

pub product-returns : goal.product-returns
product-returns t c =
    let n = c.args.depth in
    ending (factor_shrinks parts (within parts n) (within_shrinks parts n)) c.loop-operation.invariant c.in_default.ensures

pub sum-returns-in_err-right : goal.sum-returns-in_err-right
sum-returns-in_err-right t c =
    let n = c.args.depth in
    let o = c.in-Some in
    refuses c.from_residual-in_err-right.ensures (turn_refused (product_shrinks parts (within parts n) (within_shrinks parts n)) c.loop-operation.invariant o.operation refl o.ensures c.in_err-right.ensures)

pub sum-loop-operation-preserved : goal.sum-loop-operation-preserved
sum-loop-operation-preserved t c =
    let n = c.args.depth in
    let o = c.in-Some in
    turn (product_shrinks parts (within parts n) (within_shrinks parts n)) c.loop-operation.invariant o.operation refl o.ensures c.in_ok-right.ensures c.joined-part.ensures

pub sum-returns : goal.sum-returns
sum-returns t c =
    let n = c.args.depth in
    ending (product_shrinks parts (within parts n) (within_shrinks parts n)) c.loop-operation.invariant c.in_default.ensures
