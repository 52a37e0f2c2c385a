-- Expressions with commas between are read, and their records are fed. The invariant: what is read so far, and the expressions behind it, are the whole list.
-- The measure is what is unread. Assumes nothing.
use mathlib.Core.Path.{◌≡◌, sym, ap, ◌∙◌}
use native.Mathlib.Omega.{arith}
use borrow.Author.Tests.{eq-eqb, ne_eqb}
use lib.ListN.{drop}
use Rattle.expression.specs.bridge.Text.{map_read, skip, first, expression_of}
use Rattle.typed.specs.bridge.Reader.{then_read}
use Rattle.typed.specs.bridge.Stream.{feed_tree}
use Rattle.typed.specs.bridge.Answers.{state_of}
use Rattle.typed.proofs.Laws.Readings.{place_none, place_some, no_place, place, gets_as}
use Rattle.typed.proofs.Laws.Stages.{first_refused}
use Rattle.typed.proofs.Laws.Turns.{onward_first, onward_turn, onward_refused, onward_end}
use Rattle.typed.proofs.Laws.Loans.{loans_on}
use Rattle.typed.proofs.Laws.Commas.{left_more, first_fed, comma_fed, comma_none}
use Rattle.typed.proofs.output.feed_list.Goals as goal
use Rattle.typed.proofs.output.feed_list.Goals.{In-Some}

pub returns-in_err-next-clause-read : goal.returns-in_err-next-clause-read
returns-in_err-next-clause-read c =
    let a = c.args in
    rw c.from_residual.ensures (no_place (first_refused (left_more feed_tree) (first_fed feed_tree (state_of a.records.now) (drop a.at a.s.now)) (place_none c.feed_expression.ensures.read c.in_err-next.was)))

pub loop-more-init : goal.loop-more-init
loop-more-init c =
    let a = c.args in
    record {
      read = onward_first (left_more feed_tree) (first_fed feed_tree (state_of a.records.now) (drop a.at a.s.now)) (place_some c.feed_expression.ensures.read c.in_ok-next.was);
      same_loans = c.feed_expression.ensures.same_loans;
    }

-- behind a comma an expression is read, and then what is left
turn : (c : In-Some) → (let i = c.loop-more in
    left_more feed_tree (state_of i.records) (drop i.next c.args.s.now) ≡ then_read (map_read (λ t. feed_tree t (state_of i.records)) (expression_of (drop c.in-Some.more c.args.s.now))) (left_more feed_tree))
turn c =
    let i = c.loop-more in
    let t = drop i.next c.args.s.now in
    let p = c.in-Some.ensures in
    comma_fed feed_tree (state_of i.records) t (eq-eqb (first (skip t)) 44 p.0)
    ∙ ap (λ u. then_read (map_read (λ t. feed_tree t (state_of i.records)) (expression_of u)) (left_more feed_tree)) (sym p.1.same)

pub returns-in_err-next-2-clause-read : goal.returns-in_err-next-2-clause-read
returns-in_err-next-2-clause-read c =
    rw c.from_residual-in_err-next-2.ensures
    (no_place (onward_refused (left_more feed_tree) c.loop-more.invariant.read (turn (goal.at.returns-in_err-next-2-clause-read c).In-Some) (place_none c.feed_expression-in-Some.ensures.read c.in_err-next-2.was)))

pub loop-more-preserved : goal.loop-more-preserved
loop-more-preserved c =
    let f = c.in-Some.ensures.1.from in
    record {
      read = onward_turn (left_more feed_tree) c.loop-more.invariant.read (turn (goal.at.loop-more-preserved c).In-Some)
          (gets_as (omega arith) (λ h. h) (place_some c.feed_expression-in-Some.ensures.read c.in_ok-next-2.was));
      same_loans = loans_on c.loop-more.invariant.same_loans c.feed_expression-in-Some.ensures.same_loans;
    }

pub returns-clause-read : goal.returns-clause-read
returns-clause-read c =
    let i = c.loop-more in
    let t = drop i.next c.args.s.now in
    place (onward_end i.invariant.read (comma_none feed_tree (state_of i.records) t (ne_eqb (first (skip t)) 44 c.in_default.ensures)))
