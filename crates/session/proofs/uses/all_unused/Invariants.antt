-- `uses::all_unused` meets its contract: the loop keeps that the counts joined so far and those not yet joined decide.
-- Numbers joined bit by bit are 0 just where both are.
use mathlib.Core.Bool.{◌&&◌}
use mathlib.Core.Path.{◌≡◌}
use lib.Dec.{eqb}
use lib.ListN.{drop}
use Rattle.lists.specs.Lists.{all}
use Rattle.session.proofs.uses.all_unused.Given as goal

abbrev pub invariant-loop-times : goal.invariant-loop-times
invariant-loop-times l = all (eqb 0) l.others ≡ eqb l.joined 0 && all (eqb 0) (drop l.times-index l.others)
