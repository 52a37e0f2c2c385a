-- `feeding::convert_input` meets its contract: a piece's turn is added to the list, and while the session waits the counts are small.
-- A turn that leaves its session waiting has received more, within what refusal 14 allows. Assumes nothing.
use Rattle.std.proofs.Common.{arith}
use Rattle.program.proofs.Laws.Turns.{come_first, come_bounded, come_next, come_less}
use Rattle.program.proofs.feeding.convert_input.Goals as goal

pub loop-ending-init : goal.loop-ending-init
loop-ending-init c = come_first _ _ c.fresh.ensures

pub overflow_add-ending : goal.overflow_add-ending
overflow_add-ending c =
    let few = come_bounded _ c.loop-ending.ending c.loop-ending.invariant c.loop-ending-test.true in
    let taken = c.in-Ok.ensures in
    omega (arith, taken.reads, taken.turn.short)

pub overflow_add-ending-in-Ok : goal.overflow_add-ending-in-Ok
overflow_add-ending-in-Ok c =
    let few = come_bounded _ c.loop-ending.ending c.loop-ending.invariant c.loop-ending-test.true in
    omega (arith, c.in-Ok.ensures.few)

pub loop-ending-smaller : goal.loop-ending-smaller
loop-ending-smaller c =
    come_less _ c.loop-ending.ending c.loop-ending.invariant c.loop-ending-test.true c.in-Ok.piece c.in-Ok.ensures c.if-not-ending.true

pub loop-ending-preserved : goal.loop-ending-preserved
loop-ending-preserved c = come_next _ c.loop-ending.ending c.loop-ending.invariant c.loop-ending-test.true c.in-Ok.piece c.in-Ok.ensures
