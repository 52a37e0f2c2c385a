-- `typed::pattern::feed_items` meets its contract. The invariant: what is read so far, and then the items that are left, is the whole of them.
-- Assumes nothing.
use Prim.Native.Nat.{◌-◌}
use lib.ListN.{drop}
use Rattle.typed.specs.bridge.Answers.{state_of, SameLoans}
use Rattle.typed.proofs.Laws.Turns.{Onward}
use Rattle.typed.proofs.Laws.Items.{items_left}
use Rattle.typed.proofs.pattern.feed_items.Given as goal

abbrev pub invariant-loop-items : goal.invariant-loop-items
invariant-loop-items l = record { read : Onward l.s l.at (items_left (9 - l.items) l.items) (items_left 9 0 (state_of l.initial.records) (drop l.at l.s)) l.next l.records; same_loans : SameLoans l.fn.records l.records }
