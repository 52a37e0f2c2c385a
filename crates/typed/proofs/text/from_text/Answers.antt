-- `text::from_text` meets its contract: the first pass refuses, or the records don't fit, or the second pass writes them.
-- By what both passes answer and leave, which meets the contract. Assumes nothing.
use mathlib.Core.Path.{sym, ap, ◌∙◌}
use Rattle.std.proofs.lemmas.Result.{err_from_is_err_and}
use Rattle.rules.specs.Answers.{number_of, outcome_of}
use Rattle.typed.proofs.Laws.Passes.{comes_refused, comes_unfit, comes_accepted}
use Rattle.typed.proofs.Laws.Promised.{meets}
use Rattle.typed.proofs.text.from_text.Goals as goal

pub returns-in_err-size : goal.returns-in_err-size
returns-in_err-size c =
    let a = c.args in
    let p = err_from_is_err_and c.from_residual.result c.from_residual.ensures.1 in
    rw (p.1, p.2) (meets a.text.now a.table.now (comes_refused a.text.now a.table.now (number_of c.in_err-size.field-0.0) (sym (ap outcome_of c.in_err-size.was) ∙ c.survey.ensures)))

pub returns-then-table-size : goal.returns-then-table-size
returns-then-table-size c =
    let a = c.args in
    meets a.text.now a.table.now (comes_unfit a.text.now a.table.now c.in_ok-size.size (sym (ap outcome_of c.in_ok-size.was) ∙ c.survey.ensures) c.if-table-size.true)

pub returns : goal.returns
returns c =
    let a = c.args in
    meets a.text.now a.table.now
    (comes_accepted a.text.now a.table.now c.in_ok-size.size (sym (ap outcome_of c.in_ok-size.was) ∙ c.survey.ensures) c.if-table-size.false c.write.ensures)
