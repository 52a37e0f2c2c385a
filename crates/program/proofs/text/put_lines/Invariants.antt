-- `text::put_lines` meets its contract. The invariant: the lines of the characters so far were put.
-- Assumes nothing.
use Rattle.std.proofs.Common.{take, ◌≡◌, ◌+◌, ◌*◌, ◌++◌}
use Rattle.arrayvec.specs.ArrayVec.{array_vec_len}
use Rattle.program.specs.Text.{hex_lines}
use Rattle.program.proofs.text.put_lines.Given as goal

abbrev pub invariant-loop-c : goal.invariant-loop-c
invariant-loop-c g l = record {
  lines : l.text.items ≡ l.initial.text.items ++ hex_lines (take l.c-index l.characters);
  size : array_vec_len l.text ≡ array_vec_len l.initial.text + 5 * l.c-index;
}
