-- The least and the greatest value of an output character, added up from the last position to the first as a difference of two natural numbers.
-- By one step of the definitions for each position, and the laws of sums over ℤ.
use mathlib.Core.Bool.{Bool, true, false, not, cond, beq}
use mathlib.Core.List.{List, [], ◌∷◌, map}
use mathlib.Core.Path.{◌≡◌, refl, sym, ap, ap₂, ◌∙◌, subst}
use Prim.Native.Nat.{ℕ, suc, ◌+◌, ◌*◌, ◌-◌, min, max, ◌≤◌, ◌<◌}
use native.Mathlib.Omega.{arith}
use native.Mathlib.Numerals.{add-one}
use borrow.Author.Tests.{not-true, not-false}
use lib.Dec.{T}
use lib.IntN.{ℤ, pos, ◌+ℤ◌, ◌*ℤ◌}
use lib.ListN.{length, take, drop}
use lib.Seq.{drop-cons}
use lib.Signed.{le_z, non_neg}
use Rattle.lists.specs.Lists.{tab_from}
use Rattle.lists.specs.Decide.{for_below}
use Rattle.lists.proofs.Laws.Tests.{test_eq, below}
use Rattle.meaning.specs.Table.{Range, sum}
use Rattle.meaning.specs.Block.{at, block_size, entry_size}
use Rattle.meaning.specs.Reader.{signed}
use Rattle.meaning.specs.Value.{dot, lowest_of, highest_of, extreme, value, safe_output}
use Rattle.meaning.specs.bridge.Flat.{ranges_at, pattern_at}

-- a table from a number on: at its end, one before, and from 0
tab_last : {A : Type 0} (f : ℕ → A) (n : ℕ) → 0 < n → tab_from (n - 1) (n - (n - 1)) f ≡ f (n - 1) ∷ []
tab_last f n h = let e : n - (n - 1) ≡ 1 = omega arith in rw e refl

tab_before : {A : Type 0} (f : ℕ → A) (k n : ℕ) → 0 < k → k ≤ n → tab_from (k - 1) (n - (k - 1)) f ≡ f (k - 1) ∷ tab_from k (n - k) f
tab_before f k n h l =
    let e : n - (k - 1) ≡ suc (n - k) = omega arith in
    let d : suc (k - 1) ≡ k = omega arith in
    ap (λ m. tab_from (k - 1) m f) e ∙ ap (λ m. f (k - 1) ∷ tab_from m (n - k) f) d

pub tab_whole : {A : Type 0} (f : ℕ → A) (k n : ℕ) → k ≤ 0 → tab_from k (n - k) f ≡ tab_from 0 n f
tab_whole f k n h =
    let e : k ≡ 0 = omega arith in
    let d : n - k ≡ n = omega arith in
    ap (λ m. tab_from k m f) d ∙ ap (λ m. tab_from m n f) e

-- the lowest or the highest character of a list of ranges, taken from the last range to the first
abbrev pub end_of : Bool → List Range → ℕ
end_of lowest rs = cond lowest (lowest_of rs) (highest_of rs)

abbrev range_end : Bool → Range → ℕ
range_end lowest r = cond lowest r.lowest r.highest

abbrev outer : Bool → ℕ → ℕ → ℕ
outer lowest a b = cond lowest (min a b) (max a b)

module _ (f : ℕ → Range) (n : ℕ) where
  pub end_none : (lowest : Bool) → n ≡ 0 → 0 ≡ end_of lowest (tab_from 0 n f)
  unfolding lowest_of highest_of
  end_none true e = rw e refl
  end_none false e = rw e refl

  pub end_last : (lowest : Bool) → 0 < n → {x : ℕ} → x ≡ range_end lowest (f (n - 1)) → x ≡ end_of lowest (tab_from (n - 1) (n - (n - 1)) f)
  unfolding lowest_of highest_of
  end_last true h e = e ∙ sym (ap lowest_of (tab_last f n h))
  end_last false h e = e ∙ sym (ap highest_of (tab_last f n h))

  pub end_before : (lowest : Bool) (k : ℕ) → 0 < k → k < n → {x y z : ℕ} → x ≡ outer lowest y z → y ≡ range_end lowest (f (k - 1)) →
      z ≡ end_of lowest (tab_from k (n - k) f) → x ≡ end_of lowest (tab_from (k - 1) (n - (k - 1)) f)
  unfolding lowest_of highest_of
  end_before lowest k h l {x} {y} {z} p q r = p ∙ ap₂ (outer lowest) q r ∙ by_end lowest
    where
      rest : tab_from (k - 1) (n - (k - 1)) f ≡ f (k - 1) ∷ (f k ∷ tab_from (suc k) (n - suc k) f)
      rest =
          let e : n - k ≡ suc (n - suc k) = omega arith in tab_before f k n h (omega arith) ∙ ap (λ m. f (k - 1) ∷ tab_from k m f) e

      later : tab_from k (n - k) f ≡ f k ∷ tab_from (suc k) (n - suc k) f
      later = let e : n - k ≡ suc (n - suc k) = omega arith in ap (λ m. tab_from k m f) e

      by_end : (b : Bool) → outer b (range_end b (f (k - 1))) (end_of b (tab_from k (n - k) f)) ≡ end_of b (tab_from (k - 1) (n - (k - 1)) f)
      by_end true = rw (rest, later) refl
      by_end false = rw (rest, later) refl

-- The sum over the positions from k on of output character j of group g: over none, with one before, and over all.

abbrev pub coefficients_from : List ℕ → ℕ → ℕ → ℕ → List ℤ
coefficients_from loaded g j k = map (signed 16) (take (at loaded (block_size * g) - k) (drop (block_size * g + 5 + entry_size * j + k) loaded))

abbrev pub sum_from : Bool → List ℕ → ℕ → ℕ → ℕ → ℤ
sum_from sign loaded g j k =
    dot (coefficients_from loaded g j k)
    (extreme sign (coefficients_from loaded g j k) (tab_from k (at loaded (block_size * g) - k) (λ p. ranges_at loaded (8 * g + p))))

module _ (sign : Bool) (loaded : List ℕ) (g j : ℕ) where
  pub sum_last : sum_from sign loaded g j (at loaded (block_size * g)) ≡ pos 0
  unfolding dot
  sum_last = let e : at loaded (block_size * g) - at loaded (block_size * g) ≡ 0 = omega arith in rw e refl

  pub sum_before : (k : ℕ) → 0 < k → k ≤ at loaded (block_size * g) → block_size * g + 5 + entry_size * j + at loaded (block_size * g) ≤ length loaded →
      let a = signed 16 (at loaded (block_size * g + 5 + entry_size * j + (k - 1))) in
      let rs = ranges_at loaded (8 * g + (k - 1)) in
      sum_from sign loaded g j (k - 1)
      ≡ a *ℤ pos (cond (beq (non_neg a) sign) (lowest_of rs) (highest_of rs)) +ℤ sum_from sign loaded g j k
  unfolding dot extreme
  sum_before k h l fit =
      let base = block_size * g + 5 + entry_size * j in
      let n = at loaded (block_size * g) in
      let e : n - (k - 1) ≡ suc (n - k) = omega arith in
      let d : suc (base + (k - 1)) ≡ base + k = omega arith in
      let i : base + (k - 1) < length loaded = omega arith in
      let row : take (n - (k - 1)) (drop (base + (k - 1)) loaded) ≡ at loaded (base + (k - 1)) ∷ take (n - k) (drop (base + k) loaded)
      = rw (e, drop-cons loaded (base + (k - 1)) 0 i, d) refl in
      rw (row, tab_before (λ p. ranges_at loaded (8 * g + p)) k n h l) refl

  pub sum_whole : (k : ℕ) → k ≤ 0 →
      let ks = map (signed 16) (take (at loaded (block_size * g)) (drop (block_size * g + 5 + entry_size * j) loaded)) in
      sum_from sign loaded g j k ≡ dot ks (extreme sign ks (pattern_at loaded g (at loaded (block_size * g))))
  unfolding pattern_at
  sum_whole k h =
      let n = at loaded (block_size * g) in
      let e : n - k ≡ n = omega arith in
      let d : block_size * g + 5 + entry_size * j + k ≡ block_size * g + 5 + entry_size * j = omega arith in
      let ks : coefficients_from loaded g j k ≡ map (signed 16) (take n (drop (block_size * g + 5 + entry_size * j) loaded)) = rw (e, d) refl in
      rw (ks, tab_whole (λ p. ranges_at loaded (8 * g + p)) k n h) refl

-- refusal 7's test of an output character by its least and its greatest value
module _ (ps : List (List Range)) (c : ℤ) (ks : List ℤ) {x : ℤ} (least : x ≡ c +ℤ dot ks (extreme true ks ps)) where
  pub unsafe_low : le_z (pos 0) x ≡ false → safe_output ps (sum c ks) ≡ false
  unfolding safe_output value
  unsafe_low e = rw (← least, e) refl

  pub safe_high : {y : ℤ} → y ≡ c +ℤ dot ks (extreme false ks ps) → le_z (pos 0) x ≡ true → safe_output ps (sum c ks) ≡ le_z y (pos 65535)
  unfolding safe_output value
  safe_high greatest e = rw (← least, e, ← greatest) refl

-- a test at each number below n, one after another, by the answer r at k
module _ (p : ℕ → Bool) where
  pub none_below : for_below 0 p ≡ true
  unfolding for_below
  none_below = refl

  pub below_again : (k : ℕ) → for_below k p ≡ true → {r : Bool} → r ≡ p k → not r ≡ false → for_below (k + 1) p ≡ true
  unfolding for_below
  below_again k h {r} e t = rw (add-one, h, ← e) (not-false r t)

  pub below_fails : (n k : ℕ) → k < n → {r : Bool} → r ≡ p k → not r ≡ true → for_below n p ≡ false
  below_fails n k h {r} e t =
      let f : p k ≡ false = sym e ∙ not-true r t in
      test_eq (for_below n p) false (λ u. subst T f (below n p u k h)) (λ u. absurd u)
