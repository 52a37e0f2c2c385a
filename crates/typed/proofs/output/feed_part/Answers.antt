-- The records of an output character are fed: its constant, then its terms; or refusal 17 ends the check.
-- The part is within refusal 17's limits or not. Assumes nothing.
use mathlib.Core.Path.{sym, ap, ◌∙◌}
use lib.IntN.{pos}
use lib.ListN.{get_or}
use Rattle.std.specs.Prelude.{Some}
use Rattle.expression.specs.bridge.Answers.{kept}
use Rattle.expression.proofs.Laws.Numbers.{back}
use Rattle.typed.specs.Records.{within17}
use Rattle.typed.specs.bridge.Stream.{feed_part}
use Rattle.typed.specs.bridge.Answers.{state_of}
use Rattle.typed.proofs.Laws.Terms.{part_beyond, part_fed}
use Rattle.typed.proofs.Laws.Shorts.{within_none}
use Rattle.typed.proofs.output.feed_part.Goals as goal
use Rattle.typed.proofs.output.feed_part.Goals.{in_default-via-in-Some+else-within17, in_default-via-in_default}

pub feed_terms-requires : goal.feed_terms-requires
feed_terms-requires c = sym c.within17.ensures ∙ c.if-within17.true

pub returns-in-Some-clause-state : goal.returns-in-Some-clause-state
returns-in-Some-clause-state c =
    let st = state_of c.args.records.now in
    let part = c.in-Some.part in
    let h = part.small.each 0 in
    part_fed (Some part.numbers) st (sym c.within17.ensures ∙ c.if-within17.true) (back (get_or part.numbers 0 (pos 0)) h) c.output_record.ensures c.feed.ensures.state c.feed_terms.ensures.state
    ∙ sym (ap (λ p. feed_part (kept p) st) c.in-Some.is)

pub returns-in_default-clause-state : goal.returns-in_default-clause-state
returns-in_default-clause-state c =
    part_beyond (kept c.args.part.now) (state_of c.args.records.now) (elim c.in_default.branch [
      | in_default-via-in-Some+else-within17 w ↦ ap (λ p. within17 (kept p)) w.in-Some.is ∙ sym w.within17.ensures ∙ w.if-within17.false
      | in_default-via-in_default w ↦ ap (λ p. within17 (kept p)) w.in_default.is ∙ within_none
    ])
