-- The last element of a list: what it is, and what changing it leaves.
-- By recursion on the list.
use mathlib.Core.List.{List, [], ◌∷◌, ◌++◌}
use mathlib.Core.Path.{◌≡◌, refl, sym, ap}
use Prim.Native.Nat.{◌≤◌}
use native.Mathlib.Omega.{arith}
use lib.ListN.{length}
use Rattle.lists.specs.Lists.{at_last, last_d}

pub last_d_snoc : {A : Type 0} (d : A) (xs : List A) (x : A) → last_d d (xs ++ (x ∷ [])) ≡ x
last_d_snoc d [] x = refl
last_d_snoc d (y ∷ xs) x = last_d_snoc y xs x

pub last_at_last : {A : Type 0} (f : A → A) (d : A) (xs : List A) → 1 ≤ length xs → last_d d (at_last f xs) ≡ f (last_d d xs)
last_at_last f d [] h = absurd (omega arith)
last_at_last f d (x ∷ []) h = refl
last_at_last f d (x ∷ (y ∷ ys)) h = last_at_last f x (y ∷ ys) (omega arith)

-- also where there is none, if the change leaves what stands for it
pub last_changed : {A : Type 0} (f : A → A) (d : A) → f d ≡ d → (xs : List A) → last_d d (at_last f xs) ≡ f (last_d d xs)
last_changed f d e [] = sym e
last_changed f d e (x ∷ xs) = last_at_last f d (x ∷ xs) (omega arith)

pub at_last_none : {A : Type 0} (f : A → A) (d : A) (xs : List A) → f (last_d d xs) ≡ last_d d xs → at_last f xs ≡ xs
at_last_none f d [] e = refl
at_last_none f d (x ∷ []) e = ap (λ y. y ∷ []) e
at_last_none f d (x ∷ (y ∷ ys)) e = ap (λ l. x ∷ l) (at_last_none f x (y ∷ ys) e)

pub at_last_comm : {A : Type 0} (f g : A → A) → ((x : A) → f (g x) ≡ g (f x)) → (xs : List A) → at_last f (at_last g xs) ≡ at_last g (at_last f xs)
at_last_comm f g h [] = refl
at_last_comm f g h (x ∷ []) = ap (λ y. y ∷ []) (h x)
at_last_comm f g h (x ∷ (y ∷ [])) = ap (λ z. x ∷ z ∷ []) (h y)
at_last_comm f g h (x ∷ (y ∷ (z ∷ zs))) = ap (λ l. x ∷ l) (at_last_comm f g h (y ∷ (z ∷ zs)))
