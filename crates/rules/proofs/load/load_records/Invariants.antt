-- `rules::load::load_records` meets its contract. The invariant: the records before this one are taken, and leave the work that is left.
-- Assumes nothing.
use Rattle.std.proofs.Common.{◌*◌}
use Rattle.rules.proofs.Laws.Loading.{Passed}
use Rattle.rules.proofs.load.load_records.Given as goal

abbrev pub invariant-loop-bytes : goal.invariant-loop-bytes
invariant-loop-bytes l = Passed l.initial.so_far l.table l.initial.loaded l.loaded l.so_far (8 * l.bytes-index)
