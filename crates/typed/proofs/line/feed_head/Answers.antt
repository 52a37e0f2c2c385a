-- What stands before `==>` is read, a pattern or `else`, and its records are fed.
-- A quotation mark behind the blanks begins a pattern. Assumes nothing.
use mathlib.Core.Path.{refl, sym, ap, ◌∙◌}
use native.Mathlib.Omega.{arith}
use lib.ListN.{drop}
use Rattle.expression.specs.bridge.Text.{map_read}
use Rattle.typed.specs.bridge.Reader.{pattern_of}
use Rattle.typed.specs.bridge.Stream.{feed, feed_pattern}
use Rattle.typed.specs.bridge.Answers.{state_of}
use Rattle.typed.proofs.Laws.Readings.{place_none, place_some, no_place, place, placed_as, fed_none, fed_one}
use Rattle.typed.proofs.Laws.Stages.{head_pattern, head_default}
use Rattle.typed.proofs.line.feed_head.Goals as goal

pub returns-in-Some-clause-read : goal.returns-in-Some-clause-read
returns-in-Some-clause-read c =
    let a = c.args in
    let st = state_of a.records.now in
    let p = c.in-Some.ensures in
    let f = p.1.from in
    placed_as c.feed_pattern.ensures.read (omega arith)
    (ap (λ u. map_read (λ q. feed_pattern q st) (pattern_of u)) p.1.same ∙ sym (head_pattern st (drop a.at a.s.now) _ refl p.0))

pub returns-in_err-next-clause-read : goal.returns-in_err-next-clause-read
returns-in_err-next-clause-read c =
    let a = c.args in
    rw c.from_residual.ensures
    (no_place (head_default (state_of a.records.now) (drop a.at a.s.now) _ refl c.in_default.ensures ∙ fed_none _ (place_none c.word.ensures c.in_err-next.was)))

pub returns-clause-read : goal.returns-clause-read
returns-clause-read c =
    let a = c.args in
    let st = state_of a.records.now in
    let g = place_some c.word.ensures c.in_ok-next.was in
    place (record {
      from = g.from;
      to = g.to;
      is = head_default st (drop a.at a.s.now) _ refl c.in_default.ensures ∙ fed_one _ g.is (c.feed.ensures.state ∙ ap (λ b. feed b st) c.default_record.ensures);
    })
