-- `cobbletwill_witness` meets its contract: of a dead rule the answer tells that all ten numbers are 0.
-- Assumes nothing.
use mathlib.Core.Path.{sym, ap, ◌∙◌}
use Rattle.std.specs.Prelude.{None, Ok}
use Rattle.rules.specs.Answers.{outcome_of}
use Rattle.cobbletwill.proofs.Laws.Witness.{answer_told}
use Rattle.cobbletwill.proofs.cobbletwill_witness.Goals as goal

pub returns-in-Ok-None : goal.returns-in-Ok-None
returns-in-Ok-None c =
    let w = c.witness.ensures in
    let t = answer_told c.args.input.now w.0 (Ok None) (sym (ap outcome_of (c.in-Ok-None.is ∙ ap Ok c.in-Ok-None.field-0-is)) ∙ w.2) in
    record { outcome = w.0; checked = w.1; code = t.0; left = t.1 }
