-- `rules::output::write_group` meets its contract. The invariant: the output has the first j characters that the group writes, from the count on.
-- Assumes nothing.
use Rattle.std.proofs.Common.{◌≡◌, take}
use lib.Seq.{paste}
use Rattle.meaning.specs.Block.{at, block_output}
use Rattle.rules.proofs.output.write_group.Given as goal

abbrev pub invariant-loop-j : goal.invariant-loop-j
invariant-loop-j l = l.output ≡ paste l.initial.output l.count (block_output l.block (take (at l.block 0) l.input)) l.j
