-- `cobbletwill_chain_finish_parts` meets its contract. Numbers with a status above 2 are refused by what `no_chain` answers; of others `finish_kept` comes to
-- what finish of their chain comes to, and `hand_over` hands that over.
use mathlib.Core.Path.{◌∙◌}
use Rattle.reckoning.specs.Reckoning.{Call, of_finish}
use Rattle.cobbletwill.specs.Chains.{finish}
use Rattle.cobbletwill.proofs.Laws.Chains.{refused_first, refused_second, handed_over}
use Rattle.cobbletwill.proofs.chains.cobbletwill_chain_finish_parts.Goals as goal
use Rattle.cobbletwill.proofs.chains.cobbletwill_chain_finish_parts.Goals.{Start}

-- the call that is made
abbrev call : Start → Call
call c = of_finish c.args.output.now

pub returns-in_default : goal.returns-in_default
unfolding finish
returns-in_default c =
    let a = c.args in
    refused_first a.first_words.now a.first.now a.first_uses.now a.second_words.now a.second.now a.second_uses.now (call (goal.at.returns-in_default c).Start)
    a.middle.now a.written.now a.first_status.now c.from.result (c.from.ensures ∙ c.number.ensures ∙ c.no_chain.ensures) c.in_default.ensures

pub returns-in_default-kept : goal.returns-in_default-kept
unfolding finish
returns-in_default-kept c =
    let a = c.args in
    refused_second a.first_words.now a.first.now a.first_uses.now a.second_words.now a.second.now a.second_uses.now (call (goal.at.returns-in_default-kept c).Start)
    a.middle.now a.written.now a.first_status.now c.from-in_default-kept.result
    (c.from-in_default-kept.ensures ∙ c.number-in_default-kept.ensures ∙ c.no_chain-in_default-kept.ensures) c.in-Some.ensures.0 c.in_default-kept.ensures

pub returns : goal.returns
unfolding finish
returns c =
    let a = c.args in
    let one = c.in-Some in
    let other = c.in-Some-kept in
    let h = c.hand_over.ensures in
    handed_over a.first_words.now a.first.now a.first_uses.now a.second_words.now a.second.now a.second_uses.now (call (goal.at.returns c).Start)
    a.middle.now a.written.now a.first_status.now one.one other.other one.ensures.0 other.ensures.0 one.ensures.1 other.ensures.1
    c.finish_kept-called.result _ _ _ _ _ _ _ _ _ c.finish_kept-called.ensures.finishes h.answer h.sessions h.written h.status
