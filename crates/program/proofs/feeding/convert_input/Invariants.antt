-- `feeding::convert_input` meets its contract. The invariant: the turns so far lead to the last piece.
-- The measure is what refusal 14 lets be read yet, and nothing where no other piece is read. Assumes nothing.
use Rattle.program.proofs.Laws.Turns.{Come, left}
use Rattle.program.proofs.feeding.convert_input.Given as goal

abbrev pub invariant-loop-ending : goal.invariant-loop-ending
invariant-loop-ending l = Come l.fn.words l.ending

abbrev pub decreases-loop-ending : goal.decreases-loop-ending
decreases-loop-ending l = left l.ending
