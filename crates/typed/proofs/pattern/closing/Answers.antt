-- `typed::pattern::closing` meets its contract: the ways through it are those through the definition.
-- Assumes nothing.
use mathlib.Core.Path.{sym, ap, ◌∙◌}
use native.Mathlib.Omega.{arith}
use lib.ListN.{drop}
use Rattle.expression.specs.bridge.Text.{got}
use Rattle.expression.proofs.Laws.Places.{behind_at}
use Rattle.typed.proofs.Laws.Readings.{no_value, value}
use Rattle.typed.proofs.Laws.Ends.{closing_empty, closing_mark, closing_other}
use Rattle.typed.proofs.Laws.Words.{stands}
use Rattle.typed.proofs.pattern.closing.Goals as goal
use Rattle.typed.proofs.pattern.closing.Goals.{then-items-eq0-via-then-items-eq0, then-items-eq0-via-else-items-eq0+then-code_at-ne-QUOTE}

pub returns-then-items-eq0 : goal.returns-then-items-eq0
returns-then-items-eq0 c =
    let a = c.args in
    let t = drop a.at a.s.now in
    no_value (elim c.then-items-eq0.branch [
      | then-items-eq0-via-then-items-eq0 w ↦ closing_empty a.items a.anchored t w.if-items-eq0.true
      | then-items-eq0-via-else-items-eq0+then-code_at-ne-QUOTE w ↦
          closing_other a.items a.anchored t w.if-items-eq0.false (λ z. w.if-code_at-ne-QUOTE.true (w.code_at.ensures ∙ z))
    ])

pub returns : goal.returns
returns c =
    let a = c.args in
    let s = a.s.now in
    let l = stands s a.at 34 _ (λ z. omega arith) c.code_at.ensures c.if-code_at-ne-QUOTE.false in
    value (record {
      from = omega arith;
      to = omega arith;
      is = closing_mark a.items a.anchored (drop a.at s) c.if-items-eq0.false (sym c.code_at.ensures ∙ c.if-code_at-ne-QUOTE.false) ∙ ap (got a.anchored) (sym (behind_at s a.at));
    })
