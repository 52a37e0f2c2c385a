-- `rules::output::sum_at` meets its contract. The invariant: the sum asked is what is left of it after i coefficients, from the sum so far.
-- Assumes nothing.
use Rattle.std.proofs.Common.{◌≡◌, ◌+◌, ◌*◌, ◌<◌, length, sym, ap, ◌∙◌, arith}
use native.Mathlib.Nat.{add-mod-mod}
use Rattle.meaning.specs.Block.{at}
use Rattle.meaning.proofs.Laws.Writing.{sum_left, sum_starts, sum_goes_on, sum_ends}
use Rattle.rules.proofs.output.sum_at.Goals as goal

pub loop-i-preserved : goal.loop-i-preserved
loop-i-preserved c =
    let a = c.args in
    let b = a.block.now in
    let w = a.word.now in
    let i = c.loop-i.i in
    let sum = c.loop-i.sum in
    let inside : i < length w = omega (arith, c.min-size.ensures) in
    c.loop-i.invariant ∙ sum_goes_on b a.from w i sum c.requires.0 inside
    ∙ ap (sum_left b a.from w (i + 1)) (sym (add-mod-mod sum (at b (a.from + i) * at w i) 65536))

pub returns : goal.returns
returns c =
    let a = c.args in
    let b = a.block.now in
    let w = a.word.now in
    let e : c.loop-i.i ≡ length w = omega (arith, c.min-size.ensures) in
    sym
    (sum_starts b a.from w 0
    ∙ c.loop-i.invariant
    ∙ ap (λ n. sum_left b a.from w n c.loop-i.sum) e
    ∙ sum_ends b a.from w c.loop-i.sum)
