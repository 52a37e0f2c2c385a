-- Places in a text and what stands there; the ways through a factor.
-- By recursion on the text, and by the tests that each way passes. Assumes nothing.
use mathlib.Core.Path.{◌≡◌, refl}
use mathlib.Core.List.{List, [], ◌∷◌}
use Prim.Native.Nat.{ℕ, zero, suc, ◌+◌, ◌-◌, ◌<◌}
use native.Mathlib.Numerals.{add-one, sub-one}
use native.Mathlib.Omega.{arith}
use borrow.Author.Tests.{eq-eqb, ne_eqb}
use lib.ListN.{length, drop}
use Rattle.expression.specs.Grammar.{Algebra}
use Rattle.expression.specs.bridge.Text.{Read, refused, got, skip, first, behind, closed, closed_by, atom, factor, sum, within}

pub behind_at : (s : List ℕ) (j : ℕ) → drop (j + 1) s ≡ behind (drop j s)
behind_at s j = rw (add-one j) (by s j)
  where
    by : (s : List ℕ) (j : ℕ) → drop (suc j) s ≡ behind (drop j s)
    by [] zero = refl
    by [] (suc j) = refl
    by (c ∷ s) zero = refl
    by (c ∷ s) (suc j) = by s j

-- a character stands there
pub there : (s : List ℕ) (j : ℕ) → (first (drop j s) ≡ 0 → ⊥) → j < length s
there [] zero h = absurd (h refl)
there [] (suc j) h = absurd (h refl)
there (c ∷ s) zero h = omega arith
there (c ∷ s) (suc j) h = let r = there s j h in omega arith

pub closed_refused : {A : Type 0} (z : ℕ) → closed_by {A = A} z refused ≡ refused
unfolding closed_by
closed_refused z = refl

module _ {A : Type 0} (g : Algebra A) where
  pub factor_open : (inner : List ℕ → Read A) (t u : List ℕ) → u ≡ skip t → first u ≡ 40 → factor g inner t ≡ closed (inner (behind u))
  unfolding factor
  factor_open inner t u e h = rw (← e, eq-eqb (first u) 40 h)

  pub factor_other : (inner : List ℕ → Read A) (t u : List ℕ) → u ≡ skip t → (first u ≡ 40 → ⊥) → factor g inner t ≡ atom g u
  unfolding factor
  factor_other inner t u e h = rw (← e, ne_eqb (first u) 40 h)

  pub within_none : (n : ℕ) (t : List ℕ) → n ≡ 0 → within g n t ≡ refused
  unfolding within
  within_none zero t h = refl
  within_none (suc n) t h = absurd (omega arith)

  pub within_deeper : (n : ℕ) (t : List ℕ) → (n ≡ 0 → ⊥) → within g n t ≡ sum g (within g (n - 1)) t
  unfolding within
  within_deeper zero t h = absurd (h refl)
  within_deeper (suc n) t h = rw (sub-one (suc n))

pub closed_yes : {A : Type 0} (z : ℕ) (a : A) (t u : List ℕ) → u ≡ skip t → first u ≡ z → closed_by z (got a t) ≡ got a (behind u)
unfolding closed_by
closed_yes z a t u e h = rw (← e, eq-eqb (first u) z h)

pub closed_no : {A : Type 0} (z : ℕ) (a : A) (t u : List ℕ) → u ≡ skip t → (first u ≡ z → ⊥) → closed_by z (got a t) ≡ refused
unfolding closed_by
closed_no z a t u e h = rw (← e, ne_eqb (first u) z h)

-- a character that stands at a place, and what stands behind it
pub ruleset places = (there, behind_at)
