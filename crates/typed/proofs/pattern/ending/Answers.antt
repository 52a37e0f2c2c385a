-- `typed::pattern::ending` meets its contract: behind `$`, or at once, the end is what closes the pattern.
-- Assumes nothing.
use mathlib.Core.Path.{sym, ap, ◌∙◌}
use mathlib.Core.Bool.{true}
use native.Mathlib.Omega.{arith}
use lib.ListN.{drop}
use Rattle.expression.proofs.Laws.Places.{behind_at}
use Rattle.expression.proofs.Laws.Steps.{further}
use Rattle.typed.specs.bridge.Answers.{closing_of}
use Rattle.typed.proofs.Laws.Ends.{ending_anchored, ending_plain}
use Rattle.typed.proofs.Laws.Words.{stands}
use Rattle.typed.proofs.pattern.ending.Goals as goal

pub closing-requires : goal.closing-requires
closing-requires c =
    let l = stands c.args.s.now c.args.at 36 _ (λ z. omega arith) c.code_at.ensures c.if-code_at-eq-DOLLAR.true in
    omega arith

pub returns-then-code_at-eq-DOLLAR : goal.returns-then-code_at-eq-DOLLAR
returns-then-code_at-eq-DOLLAR c =
    let a = c.args in
    further (omega arith) c.closing.ensures
    (ap (closing_of a.items true) (behind_at a.s.now a.at) ∙ sym (ending_anchored a.items (drop a.at a.s.now) (sym c.code_at.ensures ∙ c.if-code_at-eq-DOLLAR.true)))

pub returns : goal.returns
returns c =
    let a = c.args in
    further (omega arith) c.closing-2.ensures (sym (ending_plain a.items (drop a.at a.s.now) (λ z. c.if-code_at-eq-DOLLAR.false (c.code_at.ensures ∙ z))))
