-- `compile::longest_of` meets its contract: after each group the greatest length so far is that of the groups passed.
-- Assumes nothing.
use mathlib.Core.Path.{◌≡◌}
use Rattle.machine.specs.bridge.Building.{longest_at}
use Rattle.machine.proofs.compile.longest_of.Given as goal

abbrev pub invariant-loop-group : goal.invariant-loop-group
invariant-loop-group l = l.most ≡ longest_at l.table.words.now l.group
