-- Output expressions in square brackets are read, or none, and their records are fed.
-- The three ways through brackets. Assumes nothing.
use mathlib.Core.Path.{◌≡◌, refl, sym, ap, ◌∙◌}
use native.Mathlib.Omega.{arith}
use lib.ListN.{drop}
use Rattle.expression.specs.bridge.Text.{got, map_read, skip, closed_by, expression_of, items, bracketed}
use Rattle.expression.proofs.Laws.Places.{closed_refused}
use Rattle.typed.specs.bridge.Stream.{feed_tree_past17, feed_outputs_past17}
use Rattle.typed.specs.bridge.Answers.{state_of}
use Rattle.typed.proofs.Laws.Readings.{place_none, place_some, no_place, place, placed_as}
use Rattle.typed.proofs.Laws.Commas.{brackets_not, brackets_none, brackets_some}
use Rattle.typed.proofs.Laws.Words.{closed_follows}
use Rattle.typed.proofs.output.feed_outputs_past17.Goals as goal
use Rattle.typed.proofs.output.feed_outputs_past17.Goals.{After-feed_list_past17}

pub returns-in_err-inside-clause-read : goal.returns-in_err-inside-clause-read
returns-in_err-inside-clause-read c =
    let a = c.args in
    rw c.from_residual.ensures (no_place (brackets_not feed_tree_past17 (state_of a.records.now) (drop a.at a.s.now) _ refl c.in_err-inside.ensures))

pub returns-in-Some-clause-read : goal.returns-in-Some-clause-read
returns-in-Some-clause-read c =
    let a = c.args in
    let p = c.in_ok-inside.ensures in
    let q = c.in-Some.ensures in
    let f = p.1.from in
    let g = q.1.from in
    place (record {
      from = omega arith;
      to = q.1.to;
      is = brackets_none feed_tree_past17 (state_of a.records.now) (drop a.at a.s.now) _ refl _ p.0 (ap skip (sym p.1.same)) q.0 ∙ ap (got (state_of a.records.now)) (sym q.1.same);
    })

-- there is an expression, and what closes the list behind them
listed : (c : After-feed_list_past17) → (let st = state_of c.args.records.now in
    map_read (λ ts. feed_outputs_past17 ts st) (bracketed expression_of (drop c.args.at c.args.s.now))
    ≡ closed_by 93 (map_read (λ ts. feed_outputs_past17 ts st) (items expression_of (drop c.in_ok-inside.inside c.args.s.now))))
listed c =
    let a = c.args in
    let st = state_of a.records.now in
    let p = c.in_ok-inside.ensures in
    brackets_some feed_tree_past17 st (drop a.at a.s.now) _ refl _ p.0 (ap skip (sym p.1.same)) c.in_default.ensures
    ∙ ap (λ u. closed_by 93 (map_read (λ ts. feed_outputs_past17 ts st) (items expression_of u))) (sym p.1.same)

pub returns-in_err-listed-clause-read : goal.returns-in_err-listed-clause-read
returns-in_err-listed-clause-read c =
    rw c.from_residual-in_err-listed.ensures
    (no_place (listed (goal.at.returns-in_err-listed-clause-read c).After-feed_list_past17 ∙ ap (closed_by 93) (place_none c.feed_list_past17.ensures.read c.in_err-listed.was) ∙ closed_refused 93))

pub returns-clause-read : goal.returns-clause-read
returns-clause-read c =
    let f = c.in_ok-inside.ensures.1.from in
    placed_as (closed_follows 93 c.behind-3.result (place_some c.feed_list_past17.ensures.read c.in_ok-listed.was) c.behind-3.ensures) (omega arith) (sym (listed (goal.at.returns-clause-read c).After-feed_list_past17))
