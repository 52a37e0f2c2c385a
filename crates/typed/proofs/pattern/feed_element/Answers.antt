-- `typed::pattern::feed_element` meets its contract: the element's range is fed by its record.
-- Assumes nothing.
use mathlib.Core.Path.{ap, ◌∙◌}
use Rattle.typed.specs.bridge.Stream.{feed}
use Rattle.typed.specs.bridge.Answers.{state_of}
use Rattle.typed.proofs.Laws.Readings.{read_none, read_some, no_place, place, fed_none, fed_one}
use Rattle.typed.proofs.pattern.feed_element.Goals as goal

pub returns-in_err-between-clause-read : goal.returns-in_err-between-clause-read
returns-in_err-between-clause-read c = rw c.from_residual.ensures (no_place (fed_none _ (read_none c.element.ensures c.in_err-between.was)))

pub returns-clause-read : goal.returns-clause-read
returns-clause-read c =
    let g = read_some c.element.ensures c.in_ok-between.was in
    place (record { from = g.from; to = g.to; is = fed_one _ g.is (c.feed.ensures.state ∙ ap (λ b. feed b (state_of c.args.records.now)) c.range_record.ensures) })
