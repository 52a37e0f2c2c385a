-- `expansion` meets its contract: after each group the greatest count so far is that of the groups passed.
-- Assumes nothing.
use Rattle.std.proofs.Common.{refl, add-one}
use Rattle.meaning.specs.bridge.Flat.{expansion_from}
use Rattle.rules.proofs.convert.expansion.Goals as goal

pub loop-group-init : goal.loop-group-init
unfolding expansion_from
loop-group-init c = refl

pub loop-group-preserved : goal.loop-group-preserved
unfolding expansion_from
loop-group-preserved c = rw (add-one, c.max-most.ensures, c.from.ensures, c.loop-group.invariant)
