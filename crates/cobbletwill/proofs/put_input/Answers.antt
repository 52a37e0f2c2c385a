-- `put_input` meets its contract: the length stands before the nine places.
-- Assumes nothing.
use Rattle.std.proofs.Common.{rules}
use Rattle.std.proofs.lemmas.Slice.{take-put_mid}
use mathlib.Core.List.{[], ◌∷◌, ◌++◌}
use mathlib.Core.Path.{◌≡◌, sym, ap, ◌∙◌}
use native.Mathlib.Omega.{arith}
use borrow.Rule.Slice.PartMut.{put_mid, same_len_mid}
use lib.ListN.{length, set, length-set}
use lib.Seq.{take_all, take-suc, get_or-set_same}
use Rattle.cobbletwill.proofs.put_input.Goals as goal
use Rattle.cobbletwill.proofs.put_input.Goals.{Start}

nine : (s : Start) → length s.args.input.characters ≡ 9
nine s = search rules

pub returns : goal.returns
returns c =
    let a = c.args in
    let xs = set a.numbers.now 0 a.input.length in
    let ys = c.copy_from_slice.new.self in
    let k = c.copy_from_slice.ensures in
    let n : length xs ≡ 10 = length-set a.numbers.now 0 a.input.length ∙ c.told-numbers in
    let m : length (put_mid 1 9 xs ys) ≡ 10 = same_len_mid 1 9 xs ys k.len ∙ n in
    let y : length ys ≡ 9 = ap length k.after ∙ nine (goal.at.returns c).Start in
    sym (take_all 10 (put_mid 1 9 xs ys) (omega (arith, m)))
    ∙ take-put_mid 1 9 xs ys 10 (omega (arith, y)) (omega (arith, n))
    ∙ (λ i. (take-suc xs 0 0 (omega (arith, n)) ∙ ap (λ v. v ∷ []) (get_or-set_same a.numbers.now 0 a.input.length 0 (omega (arith, c.told-numbers)))) i ++ k.after i)
