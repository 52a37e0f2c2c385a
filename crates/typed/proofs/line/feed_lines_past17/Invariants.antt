-- A text's lines are read, and their records are fed. The invariant: what is read so far, and then any number of lines, is the whole text.
-- The measure is what is unread. Assumes nothing.
use Prim.Native.Nat.{◌-◌}
use lib.ListN.{length}
use Rattle.typed.specs.bridge.Reader.{line_of, ends_text}
use Rattle.typed.specs.bridge.Stream.{feed_line_past17}
use Rattle.typed.specs.bridge.Answers.{state_of, SameLoans}
use Rattle.typed.proofs.Laws.Turns.{Onward, fed_all}
use Rattle.typed.proofs.line.feed_lines_past17.Given as goal

abbrev pub invariant-loop-records : goal.invariant-loop-records
invariant-loop-records l = record { read : Onward l.s 0 (fed_all line_of ends_text feed_line_past17) (fed_all line_of ends_text feed_line_past17 (state_of l.initial.records) l.s) l.at l.records; same_loans : SameLoans l.fn.records l.records }

abbrev pub decreases-loop-records : goal.decreases-loop-records
decreases-loop-records l = length l.s - l.at
