-- `call::copy_uses` meets its contract: the loop keeps that the first counts are copied.
-- Assumes nothing.
use mathlib.Core.Path.{◌≡◌}
use lib.ListN.{length, take}
use Rattle.session.proofs.call.copy_uses.Given as goal

abbrev pub invariant-loop-i : goal.invariant-loop-i
invariant-loop-i l = (length l.later ≡ 34) × (take l.i l.later ≡ take l.i l.uses)
