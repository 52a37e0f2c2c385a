-- A tree's constant and coefficients have its value at every word.
-- By recursion on the tree: sums, differences and multiples of lists of numbers have the sums, differences and multiples of their values. Assumes nothing.
use mathlib.Core.Path.{◌≡◌, refl, sym, ap, ◌∙◌}
use mathlib.Core.Bool.{Bool, true, false, cond}
use mathlib.Core.List.{List, [], ◌∷◌, map}
use Prim.Native.Nat.{ℕ, zero, suc, ◌+◌, ◌<◌}
use native.Mathlib.Nat.{mul-one}
use native.Mathlib.Numerals.{add-one}
use native.Mathlib.Omega.{arith}
use borrow.Author.Tests.{eqb-true}
use lib.IntN.{ℤ, pos, negsuc, neg_ℤ, ◌+ℤ◌, ◌-ℤ◌, ◌*ℤ◌, +ℤ_idl, +ℤ_idr, zero-*ℤ, *ℤ_comm, *ℤ-one, one, neg_ℤ-+ℤ}
use lib.ListN.{length, get_or, set, replicate, length-set}
use Rattle.std.proofs.lemmas.List.{length-map}
use Rattle.meaning.proofs.Laws.Seven.{sum_swap}
use Rattle.expression.specs.Grammar.{Tree, number, place, plus, minus, times, fold}
use Rattle.std.specs.Prelude.{Some, None, is_some}
use Rattle.lists.specs.Lists.{all}
use Rattle.expression.specs.Parts.{Part, numbers, parts, number_part, place_part, plus_part, minus_part, times_part, both, product_of, checked, scaled, zip, small, is_zero, flat}
use Rattle.meaning.specs.Value.{dot}
use Rattle.expression.specs.Value.{numbers_at, value_at}
use Rattle.expression.specs.bridge.Forms.{Proper, affine_at}
use Rattle.expression.proofs.Laws.Chains.{by_cond}
use Rattle.expression.proofs.Laws.Numbers.{and_left, and_right, zip_length}
use Rattle.expression.proofs.Laws.Integers.{*-over-+, *-over--, *-last-two}

dot_plus : (a b : List ℤ) (w : List ℕ) → length a ≡ length b → dot (zip ◌+ℤ◌ a b) w ≡ dot a w +ℤ dot b w
unfolding dot zip
dot_plus [] [] w h = refl
dot_plus [] (y ∷ b) w h = absurd (omega arith)
dot_plus (x ∷ a) [] w h = absurd (omega arith)
dot_plus (x ∷ a) (y ∷ b) [] h = refl
dot_plus (x ∷ a) (y ∷ b) (c ∷ w) h =
    ap (λ d. (x +ℤ y) *ℤ pos c +ℤ d) (dot_plus a b w (omega arith))
    ∙ ap (λ d. d +ℤ (dot a w +ℤ dot b w)) (*-over-+ x y (pos c))
    ∙ sum_swap (x *ℤ pos c) (dot a w) (y *ℤ pos c) (dot b w)

dot_minus : (a b : List ℤ) (w : List ℕ) → length a ≡ length b → dot (zip ◌-ℤ◌ a b) w ≡ dot a w -ℤ dot b w
unfolding dot zip
dot_minus [] [] w h = refl
dot_minus [] (y ∷ b) w h = absurd (omega arith)
dot_minus (x ∷ a) [] w h = absurd (omega arith)
dot_minus (x ∷ a) (y ∷ b) [] h = refl
dot_minus (x ∷ a) (y ∷ b) (c ∷ w) h =
    ap (λ d. (x -ℤ y) *ℤ pos c +ℤ d) (dot_minus a b w (omega arith))
    ∙ ap (λ d. d +ℤ (dot a w -ℤ dot b w)) (*-over-- x y (pos c))
    ∙ sum_swap (x *ℤ pos c) (dot a w) (neg_ℤ (y *ℤ pos c)) (neg_ℤ (dot b w))
    ∙ ap (λ d. (x *ℤ pos c +ℤ dot a w) +ℤ d) (sym (neg_ℤ-+ℤ (y *ℤ pos c) (dot b w)))

dot_scaled : (a : List ℤ) (k : ℤ) (w : List ℕ) → dot (map (λ z. z *ℤ k) a) w ≡ dot a w *ℤ k
unfolding dot
dot_scaled [] k w = sym (zero-*ℤ k)
dot_scaled (x ∷ a) k [] = sym (zero-*ℤ k)
dot_scaled (x ∷ a) k (c ∷ w) =
    ap (λ d. (x *ℤ k) *ℤ pos c +ℤ d) (dot_scaled a k w)
    ∙ ap (λ d. d +ℤ dot a w *ℤ k) (*-last-two x k (pos c))
    ∙ sym (*-over-+ (x *ℤ pos c) (dot a w) k)

pub dot_zeros : (n : ℕ) (w : List ℕ) → dot (replicate n (pos 0)) w ≡ pos 0
unfolding dot
dot_zeros zero w = refl
dot_zeros (suc n) [] = refl
dot_zeros (suc n) (c ∷ w) = ap (λ d. d +ℤ dot (replicate n (pos 0)) w) (zero-*ℤ (pos c)) ∙ +ℤ_idl (dot (replicate n (pos 0)) w) ∙ dot_zeros n w

zero_is : (z : ℤ) → is_zero z ≡ true → z ≡ pos 0
zero_is (pos n) e = ap pos (eqb-true n 0 e)
zero_is (negsuc n) e = let q : ◌≡◌ {A = ℕ} 0 1 = ap (λ x. cond x 1 0) e in absurd (omega arith)

dot_flat : (ks : List ℤ) (w : List ℕ) → all is_zero ks ≡ true → dot ks w ≡ pos 0
unfolding dot
dot_flat [] w e = refl
dot_flat (k ∷ ks) [] e = refl
dot_flat (k ∷ ks) (c ∷ w) e =
    ap (λ d. d *ℤ pos c +ℤ dot ks w) (zero_is k (and_left (is_zero k) (all is_zero ks) e))
    ∙ ap (λ d. d +ℤ dot ks w) (zero-*ℤ (pos c))
    ∙ +ℤ_idl (dot ks w)
    ∙ dot_flat ks w (and_right (is_zero k) (all is_zero ks) e)

one_times : (n : ℕ) → pos 1 *ℤ pos n ≡ pos n
one_times n = *ℤ_comm (pos 1) (pos n) ∙ ap pos (mul-one n)

dot_unit : (n k : ℕ) (w : List ℕ) → k < n → dot (set (replicate n (pos 0)) k (pos 1)) w ≡ pos (get_or w k 0)
unfolding dot
dot_unit zero k w h = absurd (omega arith)
dot_unit (suc n) zero [] h = refl
dot_unit (suc n) zero (c ∷ w) h = ap (λ d. pos 1 *ℤ pos c +ℤ d) (dot_zeros n w) ∙ +ℤ_idr (pos 1 *ℤ pos c) ∙ one_times c
dot_unit (suc n) (suc k) [] h = refl
dot_unit (suc n) (suc k) (c ∷ w) h =
    ap (λ d. d +ℤ dot (set (replicate n (pos 0)) k (pos 1)) w) (zero-*ℤ (pos c))
    ∙ +ℤ_idl (dot (set (replicate n (pos 0)) k (pos 1)) w)
    ∙ dot_unit n k w (omega arith)

-- the constant is a coefficient of a character 1 before the word
pub affine_dot : (ns : List ℤ) (w : List ℕ) → affine_at w ns ≡ dot ns (1 ∷ w)
unfolding affine_at dot
affine_dot [] w = refl
affine_dot (c ∷ ks) w = ap (λ d. d +ℤ dot ks w) (sym (times_one c))
  where
    times_one : (c : ℤ) → c *ℤ pos 1 ≡ c
    times_one c = unfold one in *ℤ-one c

-- a part that refusal 17 does not meet was checked, and kept as it was
checked_kept : (ns : List ℤ) → is_some (checked ns) ≡ true → numbers (checked ns) ≡ ns
unfolding checked
checked_kept ns e = by (all small ns) e
  where
    by : (b : Bool) → is_some (cond b (Some ns) None) ≡ true → numbers (cond b (Some ns) None) ≡ ns
    by true h = refl
    by false h = let z : ◌≡◌ {A = ℕ} 0 1 = ap (λ x. cond x 1 0) h in absurd (omega arith)

both_kept : (f : List ℤ → List ℤ → Part) (a b : Part) → is_some (both f a b) ≡ true
    → (is_some a ≡ true) × (is_some b ≡ true) × (both f a b ≡ f (numbers a) (numbers b))
unfolding both
both_kept f None b e = let z : ◌≡◌ {A = ℕ} 0 1 = ap (λ x. cond x 1 0) e in absurd (omega arith)
both_kept f (Some x) None e = let z : ◌≡◌ {A = ℕ} 0 1 = ap (λ x. cond x 1 0) e in absurd (omega arith)
both_kept f (Some x) (Some y) e = (refl, refl, refl)

zip_kept : (f : ℤ → ℤ → ℤ) (a b : Part) → is_some (both (λ x y. checked (zip f x y)) a b) ≡ true
    → (is_some a ≡ true) × (is_some b ≡ true) × (numbers (both (λ x y. checked (zip f x y)) a b) ≡ zip f (numbers a) (numbers b))
zip_kept f a b e =
    let k = both_kept (λ x y. checked (zip f x y)) a b e in
    (k.0, k.1, ap numbers k.2 ∙ checked_kept (zip f (numbers a) (numbers b)) (ap is_some (sym k.2) ∙ e))

checked_count : (ns : List ℤ) → length ns ≡ 9 → length (numbers (checked ns)) ≡ 9
unfolding checked
checked_count ns h = by_cond (λ (p : Part). length (numbers p) ≡ 9) (all small ns) _ _ h refl

scaled_count : (ns : List ℤ) (k : ℤ) → length ns ≡ 9 → length (numbers (scaled ns k)) ≡ 9
unfolding scaled
scaled_count ns k h = checked_count (map (λ z. z *ℤ k) ns) (length-map ns (λ z. z *ℤ k) ∙ h)

both_count : (f : List ℤ → List ℤ → Part) → ((x y : List ℤ) → length x ≡ 9 → length y ≡ 9 → length (numbers (f x y)) ≡ 9)
    → (a b : Part) → length (numbers a) ≡ 9 → length (numbers b) ≡ 9 → length (numbers (both f a b)) ≡ 9
unfolding both
both_count f each None b h k = refl
both_count f each (Some x) None h k = refl
both_count f each (Some x) (Some y) h k = each x y h k

zip_count : (f : ℤ → ℤ → ℤ) (x y : List ℤ) → length x ≡ 9 → length y ≡ 9 → length (numbers (checked (zip f x y))) ≡ 9
zip_count f x y h k = checked_count (zip f x y) (zip_length f x y (omega arith) ∙ h)

product_count : (x y : List ℤ) → length x ≡ 9 → length y ≡ 9 → length (numbers (product_of x y)) ≡ 9
unfolding product_of
product_count x y h k =
    by_cond (λ (p : Part). length (numbers p) ≡ 9) (flat y) _ _ (scaled_count x (get_or y 0 (pos 0)) h)
    (by_cond (λ (p : Part). length (numbers p) ≡ 9) (flat x) _ _ (scaled_count y (get_or x 0 (pos 0)) k) refl)

pub tree_count : (t : Tree) → length (numbers (fold parts t)) ≡ 9
unfolding fold number_part place_part plus_part minus_part times_part
tree_count (number v) = refl
tree_count (place k) = length-set (replicate 9 (pos 0)) (k + 1) (pos 1)
tree_count (plus a b) = both_count _ (zip_count ◌+ℤ◌) (fold parts a) (fold parts b) (tree_count a) (tree_count b)
tree_count (minus a b) = both_count _ (zip_count ◌-ℤ◌) (fold parts a) (fold parts b) (tree_count a) (tree_count b)
tree_count (times a b) = both_count product_of product_count (fold parts a) (fold parts b) (tree_count a) (tree_count b)

affine_cons : (c : ℤ) (ks : List ℤ) (w : List ℕ) → affine_at w (c ∷ ks) ≡ c +ℤ dot ks w
unfolding affine_at
affine_cons c ks w = refl

dot_cons : (a : ℤ) (ks : List ℤ) (c : ℕ) (w : List ℕ) → dot (a ∷ ks) (c ∷ w) ≡ a *ℤ pos c +ℤ dot ks w
unfolding dot
dot_cons a ks c w = refl

-- a part with no coefficient other than 0 is its constant
flat_value : (ns : List ℤ) (w : List ℕ) → flat ns ≡ true → dot ns (1 ∷ w) ≡ get_or ns 0 (pos 0)
unfolding flat
flat_value ns w e = sym (affine_dot ns w) ∙ by ns e
  where
    by : (ns : List ℤ) → flat ns ≡ true → affine_at w ns ≡ get_or ns 0 (pos 0)
    by [] e = unfold affine_at dot in refl
    by (c ∷ ks) e = affine_cons c ks w ∙ ap (λ d. c +ℤ d) (dot_flat ks w e) ∙ +ℤ_idr c

module _ (w : List ℕ) where
  abbrev at : List ℤ → ℤ
  at ns = dot ns (1 ∷ w)

  scaled_value : (ns : List ℤ) (k : ℤ) → is_some (scaled ns k) ≡ true → at (numbers (scaled ns k)) ≡ at ns *ℤ k
  unfolding scaled
  scaled_value ns k e = ap at (checked_kept (map (λ z. z *ℤ k) ns) e) ∙ dot_scaled ns k (1 ∷ w)

  product_value : (x y : List ℤ) → is_some (product_of x y) ≡ true → at (numbers (product_of x y)) ≡ at x *ℤ at y
  unfolding product_of
  product_value x y e = by (flat y) refl (flat x) refl e
    where
      Y : Part
      Y = scaled x (get_or y 0 (pos 0))

      X : Part
      X = scaled y (get_or x 0 (pos 0))

      by : (b : Bool) → flat y ≡ b → (c : Bool) → flat x ≡ c → is_some (cond b Y (cond c X None)) ≡ true → at (numbers (cond b Y (cond c X None))) ≡ at x *ℤ at y
      by true q c r h = scaled_value x (get_or y 0 (pos 0)) h ∙ ap (λ z. at x *ℤ z) (sym (flat_value y w q))
      by false q true r h = scaled_value y (get_or x 0 (pos 0)) h ∙ ap (λ z. at y *ℤ z) (sym (flat_value x w r)) ∙ *ℤ_comm (at y) (at x)
      by false q false r h = let z : ◌≡◌ {A = ℕ} 0 1 = ap (λ x. cond x 1 0) h in absurd (omega arith)

  tree_value : (t : Tree) → Proper t → is_some (fold parts t) ≡ true → at (numbers (fold parts t)) ≡ fold (numbers_at w) t
  unfolding fold Proper number_part place_part plus_part minus_part times_part
  tree_value (number v) p e =
      dot_cons (pos v) (replicate 8 (pos 0)) 1 w ∙ ap (λ d. pos v *ℤ pos 1 +ℤ d) (dot_zeros 8 w) ∙ +ℤ_idr (pos v *ℤ pos 1) ∙ ap pos (mul-one v)
  tree_value (place k) p e = dot_unit 9 (k + 1) (1 ∷ w) (omega arith) ∙ ap (λ n. pos (get_or (1 ∷ w) n 0)) (add-one k)
  tree_value (plus a b) p e =
      let x = fold parts a in
      let y = fold parts b in
      let h = zip_kept ◌+ℤ◌ x y e in
      ap at h.2
      ∙ dot_plus (numbers x) (numbers y) (1 ∷ w) (tree_count a ∙ sym (tree_count b))
      ∙ ap (λ z. z +ℤ at (numbers y)) (tree_value a p.0 h.0)
      ∙ ap (λ z. fold (numbers_at w) a +ℤ z) (tree_value b p.1 h.1)
  tree_value (minus a b) p e =
      let x = fold parts a in
      let y = fold parts b in
      let h = zip_kept ◌-ℤ◌ x y e in
      ap at h.2
      ∙ dot_minus (numbers x) (numbers y) (1 ∷ w) (tree_count a ∙ sym (tree_count b))
      ∙ ap (λ z. z -ℤ at (numbers y)) (tree_value a p.0 h.0)
      ∙ ap (λ z. fold (numbers_at w) a -ℤ z) (tree_value b p.1 h.1)
  tree_value (times a b) p e =
      let x = fold parts a in
      let y = fold parts b in
      let h = both_kept product_of x y e in
      ap (λ z. at (numbers z)) h.2
      ∙ product_value (numbers x) (numbers y) (ap is_some (sym h.2) ∙ e)
      ∙ ap (λ z. z *ℤ at (numbers y)) (tree_value a p.0 h.0)
      ∙ ap (λ z. fold (numbers_at w) a *ℤ z) (tree_value b p.1 h.1)

-- "expressions read over whole numbers": a tree that refusal 17 does not meet has, at every word, the value of its constant and coefficients
pub affine_value : (t : Tree) → Proper t → is_some (fold parts t) ≡ true → (w : List ℕ) → affine_at w (numbers (fold parts t)) ≡ value_at w t
unfolding value_at
affine_value t p e w = affine_dot (numbers (fold parts t)) w ∙ tree_value w t p e
