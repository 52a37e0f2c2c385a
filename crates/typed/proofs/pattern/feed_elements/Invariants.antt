-- `typed::pattern::feed_elements` meets its contract. The invariant: what is read so far, and then any number of elements, is the whole bracket.
-- The measure is what is unread. Assumes nothing.
use Prim.Native.Nat.{◌-◌}
use lib.ListN.{length, drop}
use Rattle.typed.specs.bridge.Reader.{element, ends_bracket}
use Rattle.typed.specs.bridge.Stream.{feed_range}
use Rattle.typed.specs.bridge.Answers.{state_of, SameLoans}
use Rattle.typed.proofs.Laws.Brackets.{fed_elements}
use Rattle.typed.proofs.Laws.Turns.{Onward, fed_all}
use Rattle.typed.proofs.pattern.feed_elements.Given as goal

abbrev pub invariant-loop-records : goal.invariant-loop-records
invariant-loop-records l = record { read : Onward l.s l.at (fed_all element ends_bracket (feed_range l.position)) (fed_elements l.position (state_of l.fn.records) (drop l.at l.s)) l.next l.records; same_loans : SameLoans l.fn.records l.records }

abbrev pub decreases-loop-records : goal.decreases-loop-records
decreases-loop-records l = length l.s - l.next
