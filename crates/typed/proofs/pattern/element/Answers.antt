-- `typed::pattern::element` meets its contract: a character, and behind `-` another.
-- Assumes nothing.
use mathlib.Core.Path.{refl, sym, ap, ◌∙◌}
use native.Mathlib.Omega.{arith}
use Rattle.expression.proofs.Laws.Places.{behind_at}
use Rattle.typed.specs.Grammar.{range, in_brackets}
use Rattle.typed.specs.bridge.Reader.{plain}
use Rattle.typed.proofs.Laws.Readings.{read_none, read_some, no_value, value, fed_none, fed_one, element_none, element_range, element_single}
use Rattle.typed.proofs.Laws.Words.{stands}
use Rattle.typed.proofs.pattern.element.Goals as goal

pub returns-in_err-lowest : goal.returns-in_err-lowest
returns-in_err-lowest c = rw c.from_residual.ensures (no_value (element_none _ (read_none c.plain.ensures c.in_err-lowest.was)))

pub returns-then-code_at-ne-DASH : goal.returns-then-code_at-ne-DASH
returns-then-code_at-ne-DASH c =
    let g = read_some c.plain.ensures c.in_ok-lowest.was in
    value (record { from = g.from; to = g.to; is = element_single _ _ _ g.is (λ z. c.if-code_at-ne-DASH.true (c.code_at.ensures ∙ z)) })

pub plain-requires-2 : goal.plain-requires-2
plain-requires-2 c =
    let l = stands c.args.s.now c.in_ok-lowest.next 45 _ (λ z. omega arith) c.code_at.ensures c.if-code_at-ne-DASH.false in
    omega arith

pub returns-in_err-highest : goal.returns-in_err-highest
returns-in_err-highest c =
    let g = read_some c.plain.ensures c.in_ok-lowest.was in
    rw c.from_residual-in_err-highest.ensures
    (no_value (element_range _ _ _ g.is (sym c.code_at.ensures ∙ c.if-code_at-ne-DASH.false)
    ∙ fed_none (range c.in_ok-lowest.lowest) (ap (plain in_brackets) (sym (behind_at c.args.s.now c.in_ok-lowest.next)) ∙ read_none c.plain-2.ensures c.in_err-highest.was)))

pub returns : goal.returns
returns c =
    let g = read_some c.plain.ensures c.in_ok-lowest.was in
    let h = read_some c.plain-2.ensures c.in_ok-highest.was in
    let f = g.from in
    let k = h.from in
    value (record {
      from = omega arith;
      to = h.to;
      is = element_range _ _ _ g.is (sym c.code_at.ensures ∙ c.if-code_at-ne-DASH.false)
          ∙ fed_one (range c.in_ok-lowest.lowest) (ap (plain in_brackets) (sym (behind_at c.args.s.now c.in_ok-lowest.next)) ∙ h.is) refl;
    })
