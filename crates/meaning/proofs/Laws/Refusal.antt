-- How a proof tells outcomes apart, and takes apart what goes on only if it was accepted.
-- By cases on the outcome.
use mathlib.Core.List.{List}
use mathlib.Core.Path.{◌≡◌, refl, sym}
use Prim.Native.Nat.{ℕ}
use native.Mathlib.Omega.{arith}
use lib.Dec.{T, eqb}
use Rattle.lists.specs.Lists.{any}
use Rattle.meaning.specs.Refusal.{Outcome, refused, accepted, and_then}

pub by_then : {A B : Type 0} (P : Outcome B → Type 0) (o : Outcome A) (f : A → Outcome B) →
    ((n : ℕ) → o ≡ refused n → P (refused n)) → ((a : A) → o ≡ accepted a → P (f a)) → P (and_then o f)
unfolding and_then
by_then P (refused n) f h k = h n refl
by_then P (accepted a) f h k = k a refl

pub accepted_not : {A : Type 0} (a : A) (n : ℕ) → accepted a ≡ refused n → ⊥
accepted_not a n e = let z : ◌≡◌ {A = ℕ} 0 1 = cc in omega arith

pub refused_not : {A : Type 0} (n : ℕ) (a : A) → refused n ≡ accepted a → ⊥
refused_not n a e = accepted_not a n (sym e)

pub accepted_same : {A : Type 0} (x y : A) → accepted x ≡ accepted y → x ≡ y
accepted_same x y e = cc

pub refused_same : {A : Type 0} (m n : ℕ) → ◌≡◌ {A = Outcome A} (refused m) (refused n) → m ≡ n
refused_same m n e = cc

-- refused by one of the numbers, or P of what was accepted
abbrev pub Says : {A : Type 0} → List ℕ → (A → Type 0) → Outcome A → Type 0
Says numbers P (refused n) = T (any (eqb n) numbers)
Says numbers P (accepted a) = P a
