-- `typed::pattern::feed_elements` meets its contract. The invariant: what is read so far, and then any number of elements, is the whole bracket.
-- The measure is what is unread. Assumes nothing.
use mathlib.Core.Path.{◌≡◌, refl, sym, ◌∙◌}
use native.Mathlib.Nat.{le_refl}
use native.Mathlib.Omega.{arith}
use borrow.Author.Tests.{eq-eqb, ne_eqb}
use lib.ListN.{drop}
use Rattle.expression.specs.bridge.Text.{map_read, first}
use Rattle.typed.specs.bridge.Reader.{then_read, element, ends_bracket}
use Rattle.typed.specs.bridge.Stream.{feed_range}
use Rattle.typed.specs.bridge.Answers.{state_of}
use Rattle.typed.proofs.Laws.Loans.{loans_on}
use Rattle.typed.proofs.Laws.Patterns.{element_strict}
use Rattle.typed.proofs.Laws.Readings.{place_none, place_some, no_place, place, gets_as}
use Rattle.typed.proofs.Laws.Turns.{onward_first, onward_turn, onward_refused, onward_end, fed_all, none_left, one_more, advances}
use Rattle.typed.proofs.Laws.Brackets.{elements_fed, elements_refused, elements_none, past_closed}
use Rattle.typed.proofs.pattern.feed_elements.Goals as goal
use Rattle.typed.proofs.pattern.feed_elements.Goals.{In-loop-records}

pub returns-in_err-next-clause-read : goal.returns-in_err-next-clause-read
returns-in_err-next-clause-read c =
    let a = c.args in
    rw c.from_residual.ensures (no_place (elements_none a.position (state_of a.records.now) (drop a.at a.s.now) (place_none c.feed_element.ensures.read c.in_err-next.was)))

pub loop-records-init : goal.loop-records-init
loop-records-init c =
    record {
      read = onward_first (fed_all element ends_bracket (feed_range c.args.position)) refl (place_some c.feed_element.ensures.read c.in_ok-next.was);
      same_loans = c.feed_element.ensures.same_loans;
    }

-- a turn reads an element, and then what is left
turn : (c : In-loop-records) → (let i = c.loop-records in let left = fed_all element ends_bracket (feed_range c.args.position) in
    left (state_of i.records) (drop i.next c.args.s.now) ≡ then_read (map_read (λ x. feed_range c.args.position x (state_of i.records)) (element (drop i.next c.args.s.now))) left)
turn c =
    let i = c.loop-records in
    let t = drop i.next c.args.s.now in
    one_more element ends_bracket (feed_range c.args.position) element_strict (state_of i.records) t (ne_eqb (first t) 93 (λ z. c.loop-records-test.true (c.code_at.ensures ∙ z)))

pub returns-in_err-next-2-clause-read : goal.returns-in_err-next-2-clause-read
returns-in_err-next-2-clause-read c =
    let a = c.args in
    rw c.from_residual-in_err-next-2.ensures
    (no_place (elements_refused a.position (state_of a.records.now) (drop a.at a.s.now)
    (onward_refused _ c.loop-records.invariant.read (turn (goal.at.returns-in_err-next-2-clause-read c).In-loop-records) (place_none c.feed_element-in-loop-records.ensures.read c.in_err-next-2.was))))

pub loop-records-smaller : goal.loop-records-smaller
loop-records-smaller c =
    let g = place_some c.feed_element-in-loop-records.ensures.read c.in_ok-next-2.was in
    let l = advances element element_strict _ g in
    let to = g.to in
    omega arith

pub loop-records-preserved : goal.loop-records-preserved
loop-records-preserved c =
    record {
      read = onward_turn _ c.loop-records.invariant.read (turn (goal.at.loop-records-preserved c).In-loop-records) (place_some c.feed_element-in-loop-records.ensures.read c.in_ok-next-2.was);
      same_loans = loans_on c.loop-records.invariant.same_loans c.feed_element-in-loop-records.ensures.same_loans;
    }

pub returns-clause-read : goal.returns-clause-read
returns-clause-read c =
    let a = c.args in
    let i = c.loop-records in
    let t = drop i.next a.s.now in
    let closes : first t ≡ 93 = sym c.code_at.ensures ∙ c.loop-records-test.false in
    let end = onward_end i.invariant.read (none_left element ends_bracket (feed_range a.position) (state_of i.records) t (eq-eqb (first t) 93 closes)) in
    place (gets_as (le_refl _) (λ e. elements_fed a.position (state_of a.records.now) (drop a.at a.s.now) ∙ e) (past_closed closes end))
