-- Signed numbers in 32 bits, and sums, differences and products of parts, which are in them.
-- By recursion on the numbers. Assumes nothing.
use mathlib.Core.Path.{◌≡◌, refl, sym, ap, subst, ◌∙◌}
use mathlib.Core.Bool.{Bool, true, false, ◌&&◌, cond}
use mathlib.Core.List.{List, [], ◌∷◌, map}
use Prim.Native.Nat.{ℕ, zero, suc, ◌+◌, ◌≤◌, ◌<◌}
use native.Mathlib.Decide.{ℕ_discrete}
use native.Mathlib.Omega.{arith}
use lib.Dec.{lit<, eqb, leb}
use Rattle.lists.specs.Lists.{all}
use lib.IntN.{ℤ, pos, negsuc, ◌+ℤ◌, ◌-ℤ◌, ◌*ℤ◌}
use lib.Signed.{mag}
use mir.Syntax.{w32}
use mir.Val.{to_z, of_z}
use mir.Facts.{to_z-of_z}
use borrow.Author.Tests.{leb-true, leb-false, ltb-true, le-ltb, lt-ltb, ne_eqb}
use lib.ListN.{length, get_or, drop, replicate, set, length-set, length-drop}
use borrow.Rule.Slice.PartMut.{mid_of}
use Rattle.std.proofs.lemmas.List.{length-map, get_or_past, get_or-map, take_all}
use lib.Seq.{get_or-drop, get_or-set_same, get_or-set_other, ext_get_or}
use Rattle.std.specs.Prelude.{Option, Some, None, SomeIff, FitsSigned}
use Rattle.expression.specs.Parts.{Part, numbers, number_part, place_part, both, product_of, zip, small, checked, is_zero, flat, scaled, plus_part, minus_part, times_part}
use Rattle.expression.specs.bridge.Forms.{Small}
use Rattle.expression.specs.bridge.Answers.{Gives}
use Rattle.expression.proofs.Laws.Chains.{by_cond}

pub and_left : (a b : Bool) → a && b ≡ true → a ≡ true
and_left true b e = refl
and_left false b e = e

pub and_right : (a b : Bool) → a && b ≡ true → b ≡ true
and_right true b e = e
and_right false b e = let z : ◌≡◌ {A = ℕ} 0 1 = ap (λ x. cond x 1 0) e in absurd (omega arith)

pub zeros_each : (n i : ℕ) → get_or (replicate n (pos 0)) i (pos 0) ≡ pos 0
zeros_each zero zero = refl
zeros_each zero (suc i) = refl
zeros_each (suc n) zero = refl
zeros_each (suc n) (suc i) = zeros_each n i

small_zeros : Small (replicate 9 (pos 0))
small_zeros = record { count = refl; each = λ i. rw (zeros_each 9 i) (lit< tt) }

pub small_number : (v : ℕ) → v ≤ 65535 → Small (numbers (number_part v))
unfolding number_part
small_number v h = record { count = refl; each = by }
  where
    by : (i : ℕ) → mag (get_or (set (replicate 9 (pos 0)) 0 (pos v)) i (pos 0)) < 2147483648
    by zero = omega arith
    by (suc i) = rw (zeros_each 8 i) (lit< tt)

pub small_place : (k : ℕ) → k < 8 → Small (numbers (place_part k))
unfolding place_part
small_place k h = record { count = length-set (replicate 9 (pos 0)) (k + 1) (pos 1); each = λ i. by i (ℕ_discrete i (k + 1)) }
  where
    by : (i : ℕ) → Dec (i ≡ k + 1) → mag (get_or (set (replicate 9 (pos 0)) (k + 1) (pos 1)) i (pos 0)) < 2147483648
    by i (yes e) = rw (e, get_or-set_same (replicate 9 (pos 0)) (k + 1) (pos 1) (pos 0) (omega arith)) (lit< tt)
    by i (no e) = rw (get_or-set_other (replicate 9 (pos 0)) (k + 1) i (pos 1) (pos 0) e, zeros_each 9 i) (lit< tt)

module _ (f : ℤ → ℤ → ℤ) where
  pub zip_length : (a b : List ℤ) → length a ≡ length b → length (zip f a b) ≡ length a
  unfolding zip
  zip_length [] b h = refl
  zip_length (x ∷ a) [] h = absurd (omega arith)
  zip_length (x ∷ a) (y ∷ b) h = ap suc (zip_length a b (omega arith))

  pub zip_at : (a b : List ℤ) (k : ℕ) → k < length a → k < length b → get_or (zip f a b) k (pos 0) ≡ f (get_or a k (pos 0)) (get_or b k (pos 0))
  unfolding zip
  zip_at [] b k h l = absurd (omega arith)
  zip_at (x ∷ a) [] k h l = absurd (omega arith)
  zip_at (x ∷ a) (y ∷ b) zero h l = refl
  zip_at (x ∷ a) (y ∷ b) (suc k) h l = zip_at a b k (omega arith) (omega arith)

-- a number of 32 bits, written as bits and read again
pub back : (z : ℤ) → mag z < 2147483648 → to_z w32 (of_z w32 z) ≡ z
back z h = to_z-of_z {w = w32} {z = z} (record { sfits = h })

pub all_small_no : (ns : List ℤ) (i : ℕ) → i < length ns → small (get_or ns i (pos 0)) ≡ false → all small ns ≡ false
all_small_no [] i h e = absurd (omega arith)
all_small_no (z ∷ ns) zero h e = rw e
all_small_no (z ∷ ns) (suc i) h e = by (small z) (all_small_no ns i (omega arith) e)
  where
    by : (b : Bool) → all small ns ≡ false → b && all small ns ≡ false
    by true k = k
    by false k = refl

pub all_small_yes : (ns : List ℤ) → ((i : ℕ) → i < length ns → mag (get_or ns i (pos 0)) < 2147483648) → all small ns ≡ true
all_small_yes [] h = refl
all_small_yes (z ∷ ns) h = rw (lt-ltb (mag z) 2147483648 (h 0 (omega arith))) (all_small_yes ns (λ i l. h (suc i) (omega arith)))

pub checked_large : (ns : List ℤ) → all small ns ≡ false → None ≡ checked ns
unfolding checked
checked_large ns e = rw e

pub checked_fine : (ns : List ℤ) → all small ns ≡ true → Some ns ≡ checked ns
unfolding checked
checked_fine ns e = rw e

-- a number is 0 if its bits are
pub zero_bits : (z : ℤ) → mag z < 2147483648 → of_z w32 z ≡ 0 → z ≡ pos 0
zero_bits z h e = sym (back z h) ∙ ap (to_z w32) e

pub other_bits : (z : ℤ) → (of_z w32 z ≡ 0 → ⊥) → is_zero z ≡ false
other_bits (pos n) h = ne_eqb n 0 h
other_bits (negsuc n) h = refl

zero_test : (z : ℤ) → mag z < 2147483648 → eqb (of_z w32 z) 0 ≡ is_zero z
zero_test (pos n) h = refl
zero_test (negsuc n) h = ne_eqb _ 0 (λ e. absurd (omega arith))

-- what is checked is small
pub small_checked : (ns : List ℤ) → length ns ≡ 9 → Small (numbers (checked ns))
small_checked ns l = by (all small ns) refl
  where
    fits : (zs : List ℤ) → all small zs ≡ true → (i : ℕ) → mag (get_or zs i (pos 0)) < 2147483648
    fits [] e i = lit< tt
    fits (z ∷ zs) e zero = ltb-true (mag z) 2147483648 (and_left (small z) (all small zs) e)
    fits (z ∷ zs) e (suc i) = fits zs (and_right (small z) (all small zs) e) i

    by : (b : Bool) → all small ns ≡ b → Small (numbers (checked ns))
    by true e = unfold checked in rw e (record { count = l; each = fits ns e })
    by false e = unfold checked in rw e small_zeros

-- the ways through a product
module _ (x y : List ℤ) where
  pub times_right : flat y ≡ true → scaled x (get_or y 0 (pos 0)) ≡ times_part (Some x) (Some y)
  unfolding times_part both product_of
  times_right e = rw e

  pub times_left : flat y ≡ false → flat x ≡ true → scaled y (get_or x 0 (pos 0)) ≡ times_part (Some x) (Some y)
  unfolding times_part both product_of
  times_left e f = rw (e, f)

  pub times_none : flat y ≡ false → flat x ≡ false → None ≡ times_part (Some x) (Some y)
  unfolding times_part both product_of
  times_none e f = rw (e, f)

-- sums, differences and products of small parts are small
small_both : (f : List ℤ → List ℤ → Part) → ((x y : List ℤ) → Small x → Small y → Small (numbers (f x y)))
    → (a b : Part) → Small (numbers a) → Small (numbers b) → Small (numbers (both f a b))
unfolding both
small_both f each None b h k = small_zeros
small_both f each (Some x) None h k = small_zeros
small_both f each (Some x) (Some y) h k = each x y h k

small_zip : (f : ℤ → ℤ → ℤ) (x y : List ℤ) → Small x → Small y → Small (numbers (checked (zip f x y)))
small_zip f x y h k = let m = h.count in let n = k.count in small_checked (zip f x y) (zip_length f x y (omega arith) ∙ m)

small_scaled : (ns : List ℤ) (z : ℤ) → length ns ≡ 9 → Small (numbers (scaled ns z))
unfolding scaled
small_scaled ns z l = small_checked (map (λ x. x *ℤ z) ns) (length-map ns (λ x. x *ℤ z) ∙ l)

small_product : (x y : List ℤ) → Small x → Small y → Small (numbers (product_of x y))
unfolding product_of
small_product x y h k =
    by_cond (λ (p : Part). Small (numbers p)) (flat y) _ _ (small_scaled x (get_or y 0 (pos 0)) h.count)
    (by_cond (λ (p : Part). Small (numbers p)) (flat x) _ _ (small_scaled y (get_or x 0 (pos 0)) k.count) small_zeros)

pub small_plus : (a b : Part) → Small (numbers a) → Small (numbers b) → Small (numbers (plus_part a b))
unfolding plus_part
small_plus a b = small_both _ (small_zip ◌+ℤ◌) a b

pub small_minus : (a b : Part) → Small (numbers a) → Small (numbers b) → Small (numbers (minus_part a b))
unfolding minus_part
small_minus a b = small_both _ (small_zip ◌-ℤ◌) a b

pub small_times : (a b : Part) → Small (numbers a) → Small (numbers b) → Small (numbers (times_part a b))
unfolding times_part
small_times a b = small_both product_of small_product a b

-- an array of nine numbers whose first k are small, and are what P says
pub record Filled (P : ℕ → ℤ → Type 0) (k : ℕ) (ns : List ℤ) : Type 0 where
  pub count : length ns ≡ 9
  pub small : (j : ℕ) → j < k → mag (get_or ns j (pos 0)) < 2147483648
  pub each : (j : ℕ) → j < k → P j (get_or ns j (pos 0))

pub filled_more : (P : ℕ → ℤ → Type 0) (k : ℕ) (ns : List ℤ) (v : ℤ) → k < 9 → mag v < 2147483648 → P k v → Filled P k ns → Filled P (k + 1) (set ns k (to_z w32 (of_z w32 v)))
filled_more P k ns v h s p f =
    record { count = length-set ns k w ∙ f.count; small = λ j l. at (λ j z. mag z < 2147483648) s f.small j l (ℕ_discrete j k); each = λ j l. at P p f.each j l (ℕ_discrete j k) }
  where
    w : ℤ
    w = to_z w32 (of_z w32 v)

    at : (Q : ℕ → ℤ → Type 0) → Q k v → ((j : ℕ) → j < k → Q j (get_or ns j (pos 0))) → (j : ℕ) → j < k + 1 → Dec (j ≡ k) → Q j (get_or (set ns k w) j (pos 0))
    at Q q each j l (yes e) = let n = f.count in rw (e, get_or-set_same ns k w (pos 0) (omega arith), back v s) q
    at Q q each j l (no e) = rw (get_or-set_other ns k j w (pos 0) e) (each j (omega arith))

pub filled_small : {P : ℕ → ℤ → Type 0} {k : ℕ} {ns : List ℤ} → 9 ≤ k → Filled P k ns → Small ns
filled_small {k = k} {ns = ns} h f = record { count = f.count; each = λ i. by i (leb i 8) refl }
  where
    by : (i : ℕ) (b : Bool) → leb i 8 ≡ b → mag (get_or ns i (pos 0)) < 2147483648
    by i true e = let l = leb-true i 8 e in f.small i (omega arith)
    by i false e = let l = leb-false i 8 e in let n = f.count in rw (get_or_past ns i (pos 0) (omega arith)) (lit< tt)

-- where Q gives the small ones of the numbers ns, what is filled by it is ns, checked
module _ (Q : ℕ → Option ℤ → Type 0) (ns : List ℤ) (count : length ns ≡ 9) (gives : Gives Q ns) where
  pub gives_none : (k : ℕ) → k < 9 → Q k None → None ≡ checked ns
  gives_none k h q = checked_large ns (all_small_no ns k (omega arith) (le-ltb _ _ (let n = gives k None h q in omega arith)))

  pub gives_all : (k : ℕ) (ms : List ℤ) → 9 ≤ k → Filled (λ j v. Q j (Some v)) k ms → Some ms ≡ checked ns
  gives_all k ms h f =
      let n = f.count in
      ap Some (ext_get_or (pos 0) ms ns (omega arith) λ j l. (gives j (Some (get_or ms j (pos 0))) (omega arith) (f.each j (omega arith))).1)
      ∙ checked_fine ns (all_small_yes ns (λ j l. (gives j (Some (get_or ms j (pos 0))) (omega arith) (f.each j (omega arith))).0))

-- the code's test of the coefficients
pub flat_test : (ns : List ℤ) → Small ns → all (λ z. eqb (of_z w32 z) 0) (mid_of 1 8 ns) ≡ flat ns
unfolding flat
flat_test ns h = ap (all (λ z. eqb (of_z w32 z) 0)) whole ∙ each (drop 1 ns) (λ i. rw (get_or-drop 1 ns i (pos 0)) (h.each (1 + i)))
  where
    whole : mid_of 1 8 ns ≡ drop 1 ns
    whole = let n = h.count in take_all 8 (drop 1 ns) (let d = length-drop 1 ns in omega arith)

    each : (zs : List ℤ) → ((i : ℕ) → mag (get_or zs i (pos 0)) < 2147483648) → all (λ z. eqb (of_z w32 z) 0) zs ≡ all is_zero zs
    each [] s = refl
    each (z ∷ zs) s = rw (zero_test z (s 0)) (ap (λ b. is_zero z && b) (each zs (λ i. s (suc i))))

-- what the checked operations of the code give, of numbers that are read
read : (ns : List ℤ) → Small ns → (k : ℕ) → to_z w32 (of_z w32 (get_or ns k (pos 0))) ≡ get_or ns k (pos 0)
read ns s k = back (get_or ns k (pos 0)) (s.each k)

fits_same : (r : Option ℤ) {a b : ℤ} → a ≡ b → SomeIff r (FitsSigned w32 a) a → SomeIff r (mag b < 2147483648) b
fits_same None e n = λ l. n (record { sfits = subst (λ (z : ℤ). mag z < 2147483648) (sym e) l })
fits_same (Some v) e p = (subst (λ (z : ℤ). mag z < 2147483648) e p.0.sfits, p.1 ∙ e)

pub zip_given : (f : ℤ → ℤ → ℤ) (x y : List ℤ) → Small x → Small y → (k : ℕ) → k < 9 → (r : Option ℤ)
    → (let a = to_z w32 (of_z w32 (get_or x k (pos 0))) in let b = to_z w32 (of_z w32 (get_or y k (pos 0))) in SomeIff r (FitsSigned w32 (f a b)) (f a b))
    → SomeIff r (mag (get_or (zip f x y) k (pos 0)) < 2147483648) (get_or (zip f x y) k (pos 0))
zip_given f x y h g k l r p =
    let m = h.count in
    let n = g.count in
    fits_same r (ap (λ a. f a (to_z w32 (of_z w32 (get_or y k (pos 0))))) (read x h k) ∙ ap (f (get_or x k (pos 0))) (read y g k) ∙ sym (zip_at f x y k (omega arith) (omega arith))) p

pub map_given : (x : List ℤ) → Small x → (c : ℤ) → mag c < 2147483648 → (k : ℕ) → k < 9 → (r : Option ℤ)
    → (let z = to_z w32 (of_z w32 (get_or x k (pos 0))) *ℤ to_z w32 (of_z w32 c) in SomeIff r (FitsSigned w32 z) z)
    → SomeIff r (mag (get_or (map (λ z. z *ℤ c) x) k (pos 0)) < 2147483648) (get_or (map (λ z. z *ℤ c) x) k (pos 0))
map_given x h c m k l r p =
    let n = h.count in
    fits_same r (ap (λ a. a *ℤ to_z w32 (of_z w32 c)) (read x h k) ∙ ap (λ b. get_or x k (pos 0) *ℤ b) (back c m) ∙ sym (get_or-map (λ z. z *ℤ c) x k (pos 0) (pos 0) (omega arith))) p

-- what the sum and difference of two parts use
pub ruleset sums = (zip_given, zip_length)

-- what the product of two parts uses
pub ruleset products = (back, times_right, times_left, times_none)
