-- `typed::pattern::feed_items` meets its contract. The invariant: what is read so far, and then the items that are left, is the whole of them.
-- Assumes nothing.
use mathlib.Core.Bool.{true}
use mathlib.Core.List.{List}
use mathlib.Core.Path.{◌≡◌, sym, subst, ◌∙◌}
use Prim.Native.Nat.{ℕ, ◌-◌, ◌+◌, ◌≤◌}
use native.Mathlib.Nat.{le_refl}
use native.Mathlib.Omega.{arith}
use lib.ListN.{drop}
use Rattle.expression.specs.bridge.Text.{map_read}
use Rattle.typed.specs.declared.sink.Records.{Records}
use Rattle.typed.specs.bridge.Reader.{then_read, several, item, ends_items}
use Rattle.typed.specs.bridge.Stream.{State}
use Rattle.typed.specs.bridge.Answers.{state_of, counting}
use Rattle.typed.proofs.Laws.Loans.{loans_on}
use Rattle.typed.proofs.Laws.Readings.{Gets, place_none, place_some, no_value, value, gets_as}
use Rattle.typed.proofs.Laws.Turns.{Onward, onward_turn, onward_refused, onward_end}
use Rattle.typed.proofs.Laws.Items.{items_left, one_item, items_none, items_turn, items_full, count_from}
use Rattle.typed.proofs.pattern.feed_items.Goals as goal
use Rattle.typed.proofs.pattern.feed_items.Goals.{Else-ends_items, After-loop-items}

-- the items end behind n of them
ended : {s : List ℕ} {at next n : ℕ} (st : State) {k : Records} → Onward s at (items_left (9 - n) n) (items_left 9 0 st (drop at s)) next k → n ≤ 8 → ends_items (drop next s) ≡ true →
    Gets s at (map_read (counting st) (several item ends_items 9 (drop at s))) (state_of k, n) next
ended {s} {at} {next} {n} st {k} on l e =
    gets_as (le_refl _) (λ h. sym (count_from st (drop at s)) ∙ h) (onward_end on (items_none (9 - n) n (omega arith) (state_of k) (drop next s) e))

pub returns-then-ends_items-clause-read : goal.returns-then-ends_items-clause-read
returns-then-ends_items-clause-read c = value (ended _ c.loop-items.invariant.read (omega (arith, c.loop-items-test.true)) (sym c.ends_items.ensures ∙ c.if-ends_items.true))

-- a turn reads an item, and then what is left
turn : (c : Else-ends_items) → (let i = c.loop-items in let t = drop i.next c.args.s.now in
    items_left (9 - i.items) i.items (state_of i.records) t ≡ then_read (one_item i.items (state_of i.records) t) (items_left (9 - (i.items + 1)) (i.items + 1)))
turn c =
    let i = c.loop-items in
    items_turn i.items c.loop-items-test.true (state_of i.records) (drop i.next c.args.s.now) (sym c.ends_items.ensures ∙ c.if-ends_items.false)

pub returns-in_err-next-clause-read : goal.returns-in_err-next-clause-read
returns-in_err-next-clause-read c =
    let a = c.args in
    rw c.from_residual.ensures
    (no_value (sym (count_from (state_of a.records.now) (drop a.at a.s.now))
    ∙ onward_refused _ c.loop-items.invariant.read (turn (goal.at.returns-in_err-next-clause-read c).Else-ends_items) (place_none c.feed_item.ensures.read c.in_err-next.was)))

pub loop-items-preserved : goal.loop-items-preserved
loop-items-preserved c =
    record {
      read = onward_turn _ c.loop-items.invariant.read (turn (goal.at.loop-items-preserved c).Else-ends_items) (place_some c.feed_item.ensures.read c.in_ok-next.was);
      same_loans = loans_on c.loop-items.invariant.same_loans c.feed_item.ensures.same_loans;
    }

-- behind the loop there are 8
eight : (c : After-loop-items) → (let i = c.loop-items in Onward c.args.s.now c.args.at (items_left 1 8) (items_left 9 0 (state_of c.args.records.now) (drop c.args.at c.args.s.now)) i.next i.records)
eight c =
    let i = c.loop-items in
    let e : i.items ≡ 8 = omega (arith, c.loop-items-test.false) in
    subst (λ n. Onward c.args.s.now c.args.at (items_left (9 - n) n) (items_left 9 0 (state_of c.args.records.now) (drop c.args.at c.args.s.now)) i.next i.records) e i.invariant.read

pub returns-then-ends_items-2-clause-read : goal.returns-then-ends_items-2-clause-read
returns-then-ends_items-2-clause-read c = value (ended _ (eight (goal.at.returns-then-ends_items-2-clause-read c).After-loop-items) (omega arith) (sym c.ends_items-2.ensures ∙ c.if-ends_items-2.true))

pub returns-else-ends_items-2-clause-read : goal.returns-else-ends_items-2-clause-read
returns-else-ends_items-2-clause-read c =
    let a = c.args in
    let i = c.loop-items in
    no_value (sym (count_from (state_of a.records.now) (drop a.at a.s.now)) ∙ sym (eight (goal.at.returns-else-ends_items-2-clause-read c).After-loop-items).same
    ∙ items_full (state_of i.records) (drop i.next a.s.now) (sym c.ends_items-2.ensures ∙ c.if-ends_items-2.false))
