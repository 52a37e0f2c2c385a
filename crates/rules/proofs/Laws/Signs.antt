-- Signed numbers of the machine: words as the definitions sign them, and sums of products that stay within 64 bits.
-- By the cases of a sign, and bounds on absolute values.
use Rattle.std.proofs.Common.{◌≡◌, ℕ, ◌+◌, ◌*◌, ◌^◌, ◌<◌, ◌≤◌, not, ℤ, pos, negsuc, ◌+ℤ◌, ◌*ℤ◌, refl, ◌∙◌, arith}
use Rattle.std.proofs.lemmas.Int.{ints, to_z-of_z, unsigned_abs-mul, fits_signed_from_abs}
use Rattle.std.specs.Int.RustNames.{unsigned_abs}
use native.Mathlib.Nat.{mul-le-mul}
use borrow.Author.Tests.{lt-ltb, le-ltb}
use lib.IntN.{+ℤ_comm}
use lib.Signed.{lt_z, non_neg}
use mir.Syntax.{w16, w32, w64}
use mir.Val.{SFits, of_z, to_z}
use Rattle.meaning.specs.Reader.{signed}

-- a word of 16 bits, and a number of 32

signed_word : (a : ℕ) → a < 2 ^ 16 → to_z w16 a ≡ signed 16 a
unfolding signed
signed_word a h = rw (lt-ltb a (2 ^ 16) h) refl

signed_number : (a : ℕ) → a < 2 ^ 32 → to_z w32 a ≡ signed 32 a
unfolding signed
signed_number a h = rw (lt-ltb a (2 ^ 32) h) refl

abs_word : (a : ℕ) → a < 2 ^ 16 → unsigned_abs (signed 16 a) ≤ 2 ^ 15
abs_word a h = rw (← signed_word a h) (omega (arith, ints))

abs_number : (a : ℕ) → a < 2 ^ 32 → unsigned_abs (signed 32 a) ≤ 2 ^ 31
abs_number a h = rw (← signed_number a h) (omega (arith, ints))

pub by_sign : (z : ℤ) → non_neg z ≡ not (lt_z z (pos 0))
by_sign (pos n) = rw (le-ltb n 0 (omega arith)) refl
by_sign (negsuc n) = refl

abs_add : (a b : ℤ) → unsigned_abs (a +ℤ b) ≤ unsigned_abs a + unsigned_abs b
abs_add a b = omega (arith, ints)

fits_small : (z : ℤ) → unsigned_abs z ≤ 2 ^ 36 → SFits w64 z
fits_small z h = fits_signed_from_abs w64 z (omega arith)

-- either, widened to 64 bits

pub word_widened : (a : ℕ) → a < 2 ^ 16 → {z f : ℤ} → SFits w16 z → z ≡ to_z w16 a → f ≡ to_z w16 (of_z w16 z) → to_z w64 (of_z w64 f) ≡ signed 16 a
word_widened a h {z} {f} fits e d =
    let is : f ≡ signed 16 a = d ∙ to_z-of_z w16 z fits ∙ e ∙ signed_word a h in
    rw is (to_z-of_z w64 (signed 16 a) (fits_small (signed 16 a) (omega (arith, abs_word a h))))

pub number_widened : (a : ℕ) → a < 2 ^ 32 → {z f : ℤ} → SFits w32 z → z ≡ to_z w32 a → f ≡ to_z w32 (of_z w32 z) → to_z w64 (of_z w64 f) ≡ signed 32 a
number_widened a h {z} {f} fits e d =
    let is : f ≡ signed 32 a = d ∙ to_z-of_z w32 z fits ∙ e ∙ signed_number a h in
    rw is (to_z-of_z w64 (signed 32 a) (fits_small (signed 32 a) (omega (arith, abs_number a h))))

-- a sum with a word times a character added
module _ (s : ℤ) (a x : ℕ) (small : unsigned_abs s ≤ 2 ^ 35) (word : a < 2 ^ 16) (character : x < 2 ^ 16) where
  product_small : unsigned_abs (signed 16 a *ℤ pos x) ≤ 2 ^ 31
  product_small =
      let k : x ≤ 2 ^ 16 = omega arith in
      let p : unsigned_abs (signed 16 a) * x ≤ 2 ^ 15 * 2 ^ 16 = mul-le-mul (abs_word a word) k in
      rw (unsigned_abs-mul (signed 16 a) (pos x)) (omega arith)

  pub product_added : (f : ℤ) {g : ℤ} → to_z w64 (of_z w64 f) ≡ signed 16 a → g ≡ pos x →
      to_z w64 (of_z w64 (s +ℤ to_z w64 (of_z w64 (to_z w64 (of_z w64 f) *ℤ to_z w64 (of_z w64 g))))) ≡ signed 16 a *ℤ pos x +ℤ s
  product_added f e d =
      let p = product_small in
      rw (
        e,
        d,
        to_z-of_z w64 (pos x) (fits_small (pos x) (omega arith)),
        to_z-of_z w64 (signed 16 a *ℤ pos x) (fits_small (signed 16 a *ℤ pos x) (omega (arith, p))),
        to_z-of_z w64 (s +ℤ signed 16 a *ℤ pos x) (fits_small (s +ℤ signed 16 a *ℤ pos x) (omega (arith, p, abs_add s (signed 16 a *ℤ pos x)))),
      )
      (+ℤ_comm s (signed 16 a *ℤ pos x))

  pub product_bound : unsigned_abs (signed 16 a *ℤ pos x +ℤ s) ≤ unsigned_abs s + 2 ^ 31
  product_bound = omega (arith, product_small, abs_add (signed 16 a *ℤ pos x) s)

-- and a sum added to a number of 32 bits
pub number_added : (a : ℕ) (s : ℤ) → a < 2 ^ 32 → unsigned_abs s ≤ 2 ^ 35 → (f : ℤ) → to_z w64 (of_z w64 f) ≡ signed 32 a →
    to_z w64 (of_z w64 (to_z w64 (of_z w64 f) +ℤ to_z w64 (of_z w64 s))) ≡ signed 32 a +ℤ s
number_added a s h k f e =
    rw (
      e,
      to_z-of_z w64 s (fits_small s (omega arith)),
      to_z-of_z w64 (signed 32 a +ℤ s) (fits_small (signed 32 a +ℤ s) (omega (arith, abs_number a h, abs_add (signed 32 a) s))),
    )
