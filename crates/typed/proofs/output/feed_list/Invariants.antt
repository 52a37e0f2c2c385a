-- Expressions with commas between are read, and their records are fed. The invariant: what is read so far, and the expressions behind it, are the whole list.
-- The measure is what is unread. Assumes nothing.
use Prim.Native.Nat.{◌-◌}
use lib.ListN.{length, drop}
use Rattle.expression.specs.bridge.Text.{map_read, items, expression_of}
use Rattle.typed.specs.bridge.Stream.{feed_tree, feed_outputs}
use Rattle.typed.specs.bridge.Answers.{state_of, SameLoans}
use Rattle.typed.proofs.Laws.Commas.{left_more}
use Rattle.typed.proofs.Laws.Turns.{Onward}
use Rattle.typed.proofs.output.feed_list.Given as goal

abbrev pub invariant-loop-more : goal.invariant-loop-more
invariant-loop-more l = record { read : Onward l.s l.at (left_more feed_tree) (map_read (λ ts. feed_outputs ts (state_of l.fn.records)) (items expression_of (drop l.at l.s))) l.next l.records; same_loans : SameLoans l.fn.records l.records }

abbrev pub decreases-loop-more : goal.decreases-loop-more
decreases-loop-more l = length l.s - l.next
