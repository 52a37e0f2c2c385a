-- `table::read_to_end` meets its contract. The invariant: the size is within the table.
-- The measure is the room left.
use Rattle.std.proofs.Common.{length, ◌-◌, ◌≤◌}
use Rattle.program.proofs.table.read_to_end.Given as goal

abbrev pub invariant-loop-size : goal.invariant-loop-size
invariant-loop-size l = l.size ≤ length l.table

abbrev pub decreases-loop-size : goal.decreases-loop-size
decreases-loop-size l = length l.initial.table - l.size
