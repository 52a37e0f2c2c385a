-- `Course::feed` meets its contract: the call was lent the rest of the output, which comes back to its place.
-- Assumes nothing.
use mathlib.Core.Path.{ap}
use Rattle.reckoning.specs.Reckoning.{of_feed}
use Rattle.session.specs.Keeping.{session_of}
use Rattle.session.specs.Promised.{outcome_of}
use Rattle.station.specs.Two.{feed_on}
use Rattle.station.proofs.Laws.Calls.{fits, turned}
use Rattle.station.proofs.course.Course.feed.Goals as goal

pub reach-requires : goal.reach-requires
reach-requires c =
    let k = c.args.self.now in
    let called = c.feed-answer in
    let came = outcome_of called.result called.new.session called.new.output in
    fits k.written k.output.now c.args.words.now (session_of k.session) (of_feed c.args.piece.now) came called.ensures k.within called.auto.output

pub returns-clause-output_after : goal.returns-clause-output_after
unfolding feed_on
returns-clause-output_after c =
    let k = c.args.self.now in
    let called = c.feed-answer in
    let came = outcome_of called.result called.new.session called.new.output in
    turned k.written k.output.now c.args.words.now (session_of k.session) (of_feed c.args.piece.now) came called.ensures k.within called.auto.output _ _
    c.reach.ensures.turn (ap (λ x. x.now) c.reach.ensures.output)
