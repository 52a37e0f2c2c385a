-- `compile::longest_of` meets its contract: after each group the greatest length so far is that of the groups passed.
-- Assumes nothing.
use Rattle.std.proofs.Common.{rules, add-one}
use Rattle.machine.specs.bridge.Building.{longest_at}
use Rattle.machine.proofs.compile.longest_of.Goals as goal

pub loop-group-init : goal.loop-group-init
unfolding longest_at
loop-group-init c = search rules

pub loop-group-preserved : goal.loop-group-preserved
unfolding longest_at
loop-group-preserved c = rw add-one (search rules)
