-- `uses::all_unused` meets its contract: the loop keeps that the counts joined so far and those not yet joined decide.
-- Numbers joined bit by bit are 0 just where both are.
use mathlib.Core.Bool.{◌&&◌}
use mathlib.Core.Path.{◌≡◌, sym, ap, ◌∙◌}
use Prim.Native.Nat.{◌+◌, suc}
use native.Mathlib.Omega.{arith}
use lib.Bits.{bit_or}
use lib.Dec.{eqb}
use lib.ListN.{get_or, drop}
use lib.Seq.{drop-cons}
use Rattle.lists.specs.Lists.{all}
use Rattle.lists.proofs.Laws.Tests.{and_assoc, joined_none}
use Rattle.session.proofs.uses.all_unused.Goals as goal

pub loop-times-preserved : goal.loop-times-preserved
loop-times-preserved c =
    let others = c.args.others.now in
    let i = c.loop-times.times-index in
    let joined = c.loop-times.joined in
    let n : suc i ≡ i + 1 = omega arith in
    c.loop-times.invariant
    ∙ ap (λ xs. eqb joined 0 && all (eqb 0) xs) (drop-cons others i 0 c.loop-times-test.true)
    ∙ sym (and_assoc (eqb joined 0) (eqb 0 (get_or others i 0)) (all (eqb 0) (drop (suc i) others)))
    ∙ ap (λ b. b && all (eqb 0) (drop (suc i) others)) (joined_none joined (get_or others i 0))
    ∙ ap (λ k. eqb (bit_or joined (get_or others i 0)) 0 && all (eqb 0) (drop k others)) n
