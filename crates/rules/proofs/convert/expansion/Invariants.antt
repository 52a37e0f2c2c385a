-- `expansion` meets its contract: after each group the greatest count so far is that of the groups passed.
-- Assumes nothing.
use Rattle.std.proofs.Common.{◌≡◌}
use Rattle.meaning.specs.bridge.Flat.{expansion_from}
use Rattle.rules.proofs.convert.expansion.Given as goal

abbrev pub invariant-loop-group : goal.invariant-loop-group
invariant-loop-group l = l.most ≡ expansion_from l.blocks l.group l.initial.most
