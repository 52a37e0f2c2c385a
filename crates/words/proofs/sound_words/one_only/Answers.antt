-- `one_only` meets its contract: the loop keeps the total of the coefficients so far, which is at most 1.
use Rattle.std.proofs.Common.{◌≡◌, suc, ◌+◌, eqb, length, take, sym, ap, ◌∙◌, arith}
use lib.Seq.{take-length}
use Rattle.automaton.proofs.Laws.OneOnly.{total, one_total, total_next, more_total}
use Rattle.words.proofs.sound_words.one_only.Goals as goal

pub returns-then-total-gt1 : goal.returns-then-total-gt1
returns-then-total-gt1 c =
    let ks = c.args.coefficients.now in
    let p = c.loop-coefficient.coefficient-index in
    sym (more_total (suc p) ks (omega (arith, total_next p ks, c.loop-coefficient.invariant.1, c.if-total-gt1.true, c.from-total.ensures)))

pub loop-coefficient-preserved : goal.loop-coefficient-preserved
loop-coefficient-preserved c =
    let ks = c.args.coefficients.now in
    let p = c.loop-coefficient.coefficient-index in
    let next : p + 1 ≡ suc p = omega arith in
    (omega arith, omega (arith, total_next p ks, c.loop-coefficient.invariant.1, c.from-total.ensures) ∙ ap (λ n. total (take n ks)) (sym next))

pub returns : goal.returns
returns c =
    let ks = c.args.coefficients.now in
    let all : c.loop-coefficient.coefficient-index ≡ length ks = omega (arith, c.loop-coefficient.auto.coefficient-index-end) in
    ap (λ n. eqb n 1) (c.loop-coefficient.invariant.1 ∙ ap (λ n. total (take n ks)) all ∙ ap total (take-length ks)) ∙ sym (one_total ks)
