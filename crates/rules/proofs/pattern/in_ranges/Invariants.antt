-- `in_ranges` meets its contract. The invariant: the character lies in the ranges where it lies in those from number k on.
-- Assumes nothing.
use Rattle.std.proofs.Common.{◌≡◌}
use Rattle.meaning.specs.Table.{in_ranges}
use Rattle.meaning.specs.bridge.Flat.{ranges_at}
use Rattle.meaning.proofs.Laws.Choosing.{in_from}
use Rattle.rules.proofs.pattern.in_ranges.Given as goal

abbrev pub invariant-loop-k : goal.invariant-loop-k
invariant-loop-k l = in_ranges (ranges_at l.loaded l.place) l.c ≡ in_from l.loaded l.place l.c l.k
