-- Blanks, digits and symbols at a place of a text.
-- By recursion on the text, and by the tests of the definitions. Assumes nothing.
use mathlib.Core.Path.{◌≡◌, refl, ap}
use mathlib.Core.Bool.{true, false}
use mathlib.Core.List.{List, [], ◌∷◌}
use Prim.Native.Nat.{ℕ, ◌+◌, ◌-◌, ◌*◌, ◌≤◌, ◌<◌}
use native.Mathlib.Numerals.{add-one}
use native.Mathlib.Nat.{le_refl}
use native.Mathlib.Omega.{arith}
use borrow.Author.Tests.{eq-eqb, ne_eqb, le-leb, lt-leb}
use lib.ListN.{length, drop, get_or, drop_of_length-le}
use lib.Seq.{drop-cons}
use Rattle.expression.specs.Grammar.{is_blank, is_digit, Algebra}
use Rattle.expression.proofs.Laws.Places.{there, behind_at}
use Rattle.expression.specs.bridge.Text.{refused, got, skip, first, behind, digits, place_digit, map_read, atom}

-- past the end nothing stands
pub drop_past : (s : List ℕ) (i : ℕ) → length s ≤ i → drop i s ≡ []
drop_past s i h = drop_of_length-le s h

module _ (s : List ℕ) (i : ℕ) where
  -- the character at a place and the text behind it
  pub at-cons : i < length s → drop i s ≡ get_or s i 0 ∷ drop (i + 1) s
  at-cons h = rw (add-one i) (drop-cons s i 0 h)

  pub skip_blank : i < length s → is_blank (get_or s i 0) ≡ true → skip (drop (i + 1) s) ≡ skip (drop i s)
  unfolding skip
  skip_blank h e = rw (at-cons h, e)

  pub skip_stop : i < length s → is_blank (get_or s i 0) ≡ false → drop i s ≡ skip (drop i s)
  unfolding skip
  skip_stop h e = rw (at-cons h, e)

  pub skip_end : length s ≤ i → drop (length s) s ≡ skip (drop i s)
  unfolding skip
  skip_end h = rw (drop_past s i h) (drop_past s (length s) (le_refl _))

  pub digits_end : (v : ℕ) → length s ≤ i → got v (drop (length s) s) ≡ digits v (drop i s)
  unfolding digits
  digits_end v h = rw (drop_past s i h) (ap (got v) (drop_past s (length s) (le_refl _)))

  pub digits_stop : (v : ℕ) → i < length s → is_digit (get_or s i 0) ≡ false → got v (drop i s) ≡ digits v (drop i s)
  unfolding digits
  digits_stop v h e = rw (at-cons h, e)

  pub digits_more : (v : ℕ) → i < length s → is_digit (get_or s i 0) ≡ true → v * 10 + (get_or s i 0 - 48) ≤ 65535
      → digits (v * 10 + (get_or s i 0 - 48)) (drop (i + 1) s) ≡ digits v (drop i s)
  unfolding digits
  digits_more v h e l = rw (at-cons h, e, le-leb (v * 10 + (get_or s i 0 - 48)) 65535 l)

  pub digits_over : (v : ℕ) → i < length s → is_digit (get_or s i 0) ≡ true → 65535 < v * 10 + (get_or s i 0 - 48) → refused ≡ digits v (drop i s)
  unfolding digits
  digits_over v h e l = rw (at-cons h, e, lt-leb (v * 10 + (get_or s i 0 - 48)) 65535 l)

pub digit_high : (c : ℕ) → 57 < c → is_digit c ≡ false
digit_high c h = rw (le-leb 48 c (omega arith), lt-leb c 57 h)

module _ (t : List ℕ) where
  pub place_low : first t < 48 → refused ≡ place_digit t
  place_low h = by t h
    where
      by : (t : List ℕ) → first t < 48 → refused ≡ place_digit t
      by [] h = unfold place_digit in refl
      by (c ∷ t) h = unfold place_digit in rw (lt-leb 48 c h)

  pub place_high : 55 < first t → refused ≡ place_digit t
  place_high h = by t h
    where
      by : (t : List ℕ) → 55 < first t → refused ≡ place_digit t
      by [] h = absurd (omega arith)
      by (c ∷ t) h = unfold place_digit in rw (le-leb 48 c (omega arith), lt-leb c 55 h)

  pub place_yes : 48 ≤ first t → first t ≤ 55 → place_digit t ≡ got (first t - 48) (behind t)
  place_yes h k = by t h k
    where
      by : (t : List ℕ) → 48 ≤ first t → first t ≤ 55 → place_digit t ≡ got (first t - 48) (behind t)
      by [] h k = absurd (omega arith)
      by (c ∷ t) h k = unfold place_digit in rw (le-leb 48 c h, le-leb c 55 k)

module _ {A : Type 0} (g : Algebra A) (u : List ℕ) where
  pub atom_place : first u ≡ 120 → atom g u ≡ map_read g.place (place_digit (behind u))
  unfolding atom
  atom_place e = rw (digit_high (first u) (omega arith), eq-eqb (first u) 120 e)

  pub atom_number : is_digit (first u) ≡ true → atom g u ≡ map_read g.number (digits 0 u)
  unfolding atom
  atom_number e = rw e

  pub atom_other : is_digit (first u) ≡ false → (first u ≡ 120 → ⊥) → atom g u ≡ refused
  unfolding atom
  atom_other e n = rw (e, ne_eqb (first u) 120 n)

-- what the reader of a position uses
pub ruleset positions = (there, behind_at, place_yes, place_low, place_high)

-- a turn of the loop over blanks, and of the one over digits, and their ends
pub ruleset skips = (skip_blank, skip_stop, skip_end)

pub ruleset numbers = (digits_end, digits_stop, digits_more, digits_over)
