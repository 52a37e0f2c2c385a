-- `cobbletwill_preview_parts` meets its contract. Numbers with a status above 2 are refused by what `no_session` answers; of others `preview_kept` comes to
-- what a preview of their session comes to, and `hand_over` hands that over.
use mathlib.Core.Path.{◌∙◌}
use Rattle.cobbletwill.proofs.Laws.Sessions.{refused_preview, foreseen}
use Rattle.cobbletwill.proofs.sessions.cobbletwill_preview_parts.Goals as goal

pub returns-in_default : goal.returns-in_default
returns-in_default c =
    let a = c.args in
    refused_preview a.words.now a.session.now a.uses.now a.piece.now a.later.now a.counts.now a.written.now c.from.result c.in_default.ensures
    (c.from.ensures ∙ c.number.ensures ∙ c.no_session.ensures)

pub returns : goal.returns
returns c =
    let a = c.args in
    let k = c.in-Some in
    let h = c.hand_over.ensures in
    let p = c.preview_kept-called.ensures in
    foreseen a.words.now a.session.now k.kept a.uses.now a.piece.now a.later.now a.counts.now a.written.now c.preview_kept-called.result _ _ _ _
    k.ensures.0 k.ensures.1 p.unchanged p.previews h.answer h.session h.written
