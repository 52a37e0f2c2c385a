-- `Course::convert_rest` meets its contract: a refusal of the feed ends it, and else the finish goes on from where the feed has led.
-- Assumes nothing.
use mathlib.Core.Path.{refl, ◌∙◌}
use Rattle.std.proofs.lemmas.Result.{err_from_is_err_and}
use Rattle.station.specs.Two.{finish_on, rest_of}
use Rattle.station.proofs.Laws.Calls.{ends_here, goes_on}
use Rattle.station.proofs.course.Course.convert_rest.Goals as goal

pub returns-in_err-feed-clause-output_after : goal.returns-in_err-feed-clause-output_after
unfolding rest_of
returns-in_err-feed-clause-output_after c =
    let p = err_from_is_err_and c.from_residual.result c.from_residual.ensures.1 in
    rw (p.1, p.2) (ends_here _ _ (finish_on c.args.words.now) _ c.in_err-feed.ensures.output_after refl)

pub returns-clause-output_after : goal.returns-clause-output_after
unfolding rest_of
returns-clause-output_after c =
    c.finish.ensures.output_after ∙ goes_on _ _ (finish_on c.args.words.now) c.in_ok-feed.ensures.output_after refl
