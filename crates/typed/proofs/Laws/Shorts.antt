-- Coefficients in signed 16 bits, and when refusal 17 meets nothing in a part.
-- A test on all of a list is one on each place. Assumes nothing.
use mathlib.Core.Path.{◌≡◌, refl, sym, ap, subst, ◌∙◌}
use mathlib.Core.Bool.{Bool, true, false, not, ◌&&◌, and-true}
use mathlib.Core.List.{List, [], ◌∷◌}
use Prim.Native.Nat.{ℕ, zero, suc, ◌+◌, ◌<◌}
use native.Mathlib.Omega.{arith}
use borrow.Author.Tests.{ltb-true, ltb-false, lt-ltb, le-ltb}
use borrow.Rule.Slice.PartMut.{mid_of}
use lib.Dec.{lit<, ltb}
use lib.IntN.{ℤ, pos, negsuc}
use lib.ListN.{length, get_or, drop, length-drop}
use lib.Seq.{get_or-drop}
use lib.Signed.{mag, lt_z}
use mir.Facts.{to_z-of_z}
use mir.Syntax.{w16, w32}
use mir.Val.{to_z, of_z}
use Rattle.std.proofs.lemmas.List.{take_all}
use Rattle.expression.specs.bridge.Forms.{Small}
use Rattle.expression.proofs.Laws.Numbers.{back}
use Rattle.lists.specs.Lists.{all}
use Rattle.lists.proofs.Laws.Each.{each_anywhere, all_each}
use Rattle.lists.proofs.Laws.Tests.{to_T, of_T}
use Rattle.std.specs.Prelude.{Some, None}
use Rattle.typed.specs.Records.{short, within17}

-- the number behind the constant that belongs to a position
pub short_at : (ns : List ℤ) (p : ℕ) → ((i : ℕ) → mag (get_or (drop 1 ns) i (pos 0)) < 32768) → mag (get_or ns (p + 1) (pos 0)) < 32768
short_at ns p h =
    let e = get_or-drop 1 ns p (pos 0) in
    let k : 1 + p ≡ p + 1 = omega arith in
    subst (λ (z : ℤ). mag z < 32768) (e ∙ ap (λ j. get_or ns j (pos 0)) k) (h p)

-- cut to 16 bits, it is the same
pub cut : (z : ℤ) → mag z < 32768 → to_z w16 (of_z w16 (to_z w32 (of_z w32 z))) ≡ z
cut z h = ap (λ x. to_z w16 (of_z w16 x)) (back z (omega arith)) ∙ to_z-of_z {w = w16} {z = z} (record { sfits = h })

-- one that fails
pub all_fails : {A : Type 0} (p : A → Bool) (xs : List A) (i : ℕ) (d : A) → i < length xs → p (get_or xs i d) ≡ false → all p xs ≡ false
all_fails p [] i d h e = absurd (omega arith)
all_fails p (x ∷ xs) zero d h e = rw e
all_fails p (x ∷ xs) (suc i) d h e = by (p x) (all_fails p xs i d (omega arith) e)
  where
    by : (b : Bool) → all p xs ≡ false → b && all p xs ≡ false
    by true k = k
    by false k = refl

-- a part with numbers meets nothing of refusal 17 if its coefficients are in 16 bits
pub within_each : (ns : List ℤ) → within17 (Some ns) ≡ true → (i : ℕ) → mag (get_or (drop 1 ns) i (pos 0)) < 32768
unfolding within17
within_each ns e i =
    each_anywhere (λ z. mag z < 32768) (drop 1 ns) i (pos 0)
    (all_each short (drop 1 ns) (λ z t. ltb-true (mag z) 32768 (of_T (short z) t)) (to_T (all short (drop 1 ns)) e))
    (lit< tt)

-- the code's test of them, against the ends of 16 bits
abbrev pub between : ℤ → Bool
between z = not (lt_z (to_z w32 (of_z w32 z)) (negsuc 32767)) && not (lt_z (pos 32767) (to_z w32 (of_z w32 z)))

at_most : (n : ℕ) → not (ltb 32767 n) ≡ ltb n 32768
at_most n = by (ltb 32767 n) refl
  where
    by : (b : Bool) → ltb 32767 n ≡ b → not b ≡ ltb n 32768
    by true e = let l = ltb-true 32767 n e in sym (le-ltb n 32768 (omega arith))
    by false e = let l = ltb-false 32767 n e in sym (lt-ltb n 32768 (omega arith))

between_short : (z : ℤ) → mag z < 2147483648 → between z ≡ short z
between_short z h = ap (λ x. not (lt_z x (negsuc 32767)) && not (lt_z (pos 32767) x)) (back z h) ∙ by z
  where
    by : (z : ℤ) → not (lt_z z (negsuc 32767)) && not (lt_z (pos 32767) z) ≡ short z
    by (pos n) = at_most n
    by (negsuc n) = and-true (not (ltb 32767 n)) ∙ at_most n

pub short_test : (ns : List ℤ) → Small ns → all between (mid_of 1 8 ns) ≡ within17 (Some ns)
unfolding within17
short_test ns h = ap (all between) whole ∙ each (drop 1 ns) (λ i. rw (get_or-drop 1 ns i (pos 0)) (h.each (1 + i)))
  where
    whole : mid_of 1 8 ns ≡ drop 1 ns
    whole = let n = h.count in take_all 8 (drop 1 ns) (let d = length-drop 1 ns in omega arith)

    each : (zs : List ℤ) → ((i : ℕ) → mag (get_or zs i (pos 0)) < 2147483648) → all between zs ≡ all short zs
    each [] s = refl
    each (z ∷ zs) s = rw (between_short z (s 0)) (ap (λ b. short z && b) (each zs (λ i. s (suc i))))

-- and one without meets it
pub within_none : within17 None ≡ false
unfolding within17
within_none = refl
