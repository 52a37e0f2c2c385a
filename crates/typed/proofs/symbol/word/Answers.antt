-- `typed::symbol::word` meets its contract. The invariant: what is left of the word, at the place reached, is what is left of the symbol.
-- Assumes nothing.
use mathlib.Core.Path.{sym, ap, ◌∙◌}
use Prim.Native.Nat.{◌<◌}
use native.Mathlib.Omega.{arith}
use lib.ListN.{length}
use Rattle.typed.specs.bridge.Reader.{letters, symbol}
use Rattle.typed.proofs.Laws.Readings.{no_place, place}
use Rattle.typed.proofs.Laws.Words.{stands, letter_there, letter_other, letter_is, letters_end}
use Rattle.typed.proofs.symbol.word.Goals as goal
use Rattle.typed.proofs.symbol.word.Goals.{Else-code_at-from}

pub loop-c-init : goal.loop-c-init
unfolding symbol
loop-c-init c = (c.skip-next.ensures.from, c.skip-next.ensures.to, ap (letters c.args.letters.now) c.skip-next.ensures.same)

pub returns-then-code_at-from : goal.returns-then-code_at-from
returns-then-code_at-from c =
    let i = c.loop-c in
    no_place (sym i.invariant.2 ∙ letter_other c.args.letters.now c.args.s.now i.c-index i.next c.loop-c-test.true (λ z. c.if-code_at-from.true (c.code_at.ensures ∙ z ∙ sym c.from.ensures)))

inside : (c : Else-code_at-from) → c.loop-c.next < length c.args.s.now
inside c =
    let i = c.loop-c in
    stands c.args.s.now i.next _ _ (letter_there c.args.letters.now i.c-index c.requires.no_zero c.loop-c-test.true) c.code_at.ensures (c.if-code_at-from.false ∙ c.from.ensures)

pub loop-c-preserved : goal.loop-c-preserved
loop-c-preserved c =
    let l = inside c in
    let i = c.loop-c in
    let f = i.invariant.0 in (
      omega arith,
      omega arith,
      sym (letter_is c.args.letters.now c.args.s.now i.c-index i.next c.loop-c-test.true (sym c.code_at.ensures ∙ c.if-code_at-from.false ∙ c.from.ensures)) ∙ i.invariant.2,
    )

pub returns : goal.returns
returns c =
    let i = c.loop-c in
    place (record { from = i.invariant.0; to = i.invariant.1; is = sym i.invariant.2 ∙ letters_end c.args.letters.now c.args.s.now i.c-index i.next c.loop-c-test.false })
