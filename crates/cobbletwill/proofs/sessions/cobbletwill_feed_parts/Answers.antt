-- `cobbletwill_feed_parts` meets its contract. Numbers with a status above 2 are refused by what `no_session` answers; of others `feed_kept` comes to
-- what feed of their session comes to, and `hand_over` hands that over.
use mathlib.Core.Path.{◌∙◌}
use Rattle.reckoning.specs.Session.{Session}
use Rattle.reckoning.specs.Calls as Call
use Rattle.reckoning.specs.Calls.{CallOutcome}
use Rattle.cobbletwill.specs.Sessions.{feed}
use Rattle.cobbletwill.proofs.Laws.Sessions.{refused_numbers, handed_over}
use Rattle.cobbletwill.proofs.sessions.cobbletwill_feed_parts.Goals as goal
use Rattle.cobbletwill.proofs.sessions.cobbletwill_feed_parts.Goals.{Start}

-- a feed of a session, with what was lent
abbrev call : Start → Session → CallOutcome
call c s = Call.feed c.args.words.now s c.args.piece.now c.args.output.now

pub returns-in_default : goal.returns-in_default
unfolding feed
returns-in_default c =
    refused_numbers (call (goal.at.returns-in_default c).Start) c.args.words.now c.args.session.now c.args.uses.now c.args.output.now c.args.written.now
    c.from.result c.in_default.ensures (c.from.ensures ∙ c.number.ensures ∙ c.no_session.ensures)

pub returns : goal.returns
unfolding feed
returns c =
    let k = c.in-Some in
    let h = c.hand_over.ensures in
    handed_over c.args.session.now k.kept k.ensures.0 k.ensures.1 c.feed_kept-called.result (call (goal.at.returns c).Start) c.args.words.now
    c.args.uses.now c.args.output.now c.args.written.now _ _ _ _ _ c.feed_kept-called.ensures.feeds h.answer h.session h.written
