-- `typed::pattern::feed_item` meets its contract: behind `[` a bracket is fed, else a character, as a range of one.
-- Assumes nothing.
use mathlib.Core.Path.{refl, sym, ap, ◌∙◌}
use native.Mathlib.Omega.{arith}
use lib.ListN.{drop}
use Rattle.expression.specs.bridge.Text.{map_read}
use Rattle.expression.proofs.Laws.Places.{behind_at}
use Rattle.typed.specs.bridge.Reader.{elements, alone}
use Rattle.typed.specs.bridge.Stream.{feed, feed_ranges}
use Rattle.typed.specs.bridge.Answers.{state_of}
use Rattle.typed.proofs.Laws.Readings.{read_none, read_some, no_place, place, placed_as, fed_none, fed_one}
use Rattle.typed.proofs.Laws.Ends.{item_bracket, item_character}
use Rattle.typed.proofs.Laws.Words.{stands}
use Rattle.typed.proofs.pattern.feed_item.Goals as goal

pub feed_elements-requires : goal.feed_elements-requires
feed_elements-requires c =
    let l = stands c.args.s.now c.args.at 91 _ (λ z. omega arith) c.code_at.ensures c.if-code_at-eq-OPEN.true in
    omega arith

pub returns-then-code_at-eq-OPEN-clause-read : goal.returns-then-code_at-eq-OPEN-clause-read
returns-then-code_at-eq-OPEN-clause-read c =
    let a = c.args in
    let feeding = map_read (λ x. feed_ranges a.position x (state_of a.records.now)) in
    placed_as c.feed_elements.ensures.read (omega arith)
    (ap (λ t. feeding (elements t)) (behind_at a.s.now a.at)
    ∙ ap feeding (sym (item_bracket (drop a.at a.s.now) (sym c.code_at.ensures ∙ c.if-code_at-eq-OPEN.true))))

pub returns-in_err-c-clause-read : goal.returns-in_err-c-clause-read
returns-in_err-c-clause-read c =
    rw c.from_residual.ensures (no_place (fed_none _ (item_character (drop c.args.at c.args.s.now) (λ z. c.if-code_at-eq-OPEN.false (c.code_at.ensures ∙ z))
    ∙ fed_none alone (read_none c.plain.ensures c.in_err-c.was))))

pub returns-clause-read : goal.returns-clause-read
returns-clause-read c =
    let a = c.args in
    let g = read_some c.plain.ensures c.in_ok-c.was in
    place (record {
      from = g.from;
      to = g.to;
      is = fed_one _ (item_character (drop a.at a.s.now) (λ z. c.if-code_at-eq-OPEN.false (c.code_at.ensures ∙ z)) ∙ fed_one alone g.is refl)
          (c.feed.ensures.state ∙ ap (λ b. feed b (state_of a.records.now)) c.range_record.ensures);
    })
