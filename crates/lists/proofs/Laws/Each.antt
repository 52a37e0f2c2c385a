-- Statements and tests on all of a list: through appending, mapping, filtering, reading an element and changing the last.
-- By recursion on the list.
use mathlib.Core.Bool.{Bool, true, false, cond}
use mathlib.Core.List.{List, [], ◌∷◌, ◌++◌, map, Memᴰ}
use mathlib.Core.Path.{sym, subst}
use Prim.Native.Nat.{ℕ, zero, suc, ◌<◌}
use native.Mathlib.Omega.{arith}
use lib.Dec.{T}
use lib.ListN.{length, get_or}
use Rattle.lists.specs.Lists.{all, Each, filter, flat_map, at_last}
use Rattle.lists.proofs.Laws.Tests.{and_left, and_right, both}

pub each_append : {A : Type 0} (P : A → Type 0) (xs ys : List A) → Each P xs → Each P ys → Each P (xs ++ ys)
each_append P [] ys a b = b
each_append P (x ∷ xs) ys a b = (a.0, each_append P xs ys a.1 b)

pub each_front : {A : Type 0} (P : A → Type 0) (xs ys : List A) → Each P (xs ++ ys) → Each P xs
each_front P [] ys a = tt
each_front P (x ∷ xs) ys a = (a.0, each_front P xs ys a.1)

pub each_back : {A : Type 0} (P : A → Type 0) (xs ys : List A) → Each P (xs ++ ys) → Each P ys
each_back P [] ys a = a
each_back P (x ∷ xs) ys a = each_back P xs ys a.1

pub each_weaken : {A : Type 0} (P Q : A → Type 0) (xs : List A) → ((x : A) → P x → Q x) → Each P xs → Each Q xs
each_weaken P Q [] f a = tt
each_weaken P Q (x ∷ xs) f a = (f x a.0, each_weaken P Q xs f a.1)

pub each_at : {A : Type 0} (P : A → Type 0) {x : A} {xs : List A} → Each P xs → Memᴰ x xs → P x
each_at P a (Memᴰ.head e) = subst P (sym e) a.0
each_at P a (Memᴰ.tail m) = each_at P a.1 m

pub each_get_d : {A : Type 0} (P : A → Type 0) (xs : List A) (k : ℕ) (d : A) → Each P xs → k < length xs → P (get_or xs k d)
each_get_d P [] k d a h = absurd (omega arith)
each_get_d P (x ∷ xs) zero d a h = a.0
each_get_d P (x ∷ xs) (suc k) d a h = each_get_d P xs k d a.1 (omega arith)

pub each_places : {A : Type 0} (P : A → Type 0) (xs : List A) (d : A) → ((k : ℕ) → k < length xs → P (get_or xs k d)) → Each P xs
each_places P [] d h = tt
each_places P (x ∷ xs) d h = (h 0 (omega arith), each_places P xs d (λ k l. h (suc k) (omega arith)))

-- what holds of the default too holds at every place
pub each_anywhere : {A : Type 0} (P : A → Type 0) (xs : List A) (k : ℕ) (d : A) → Each P xs → P d → P (get_or xs k d)
each_anywhere P [] k d a h = h
each_anywhere P (x ∷ xs) zero d a h = a.0
each_anywhere P (x ∷ xs) (suc k) d a h = each_anywhere P xs k d a.1 h

pub each_both : {A : Type 0} (P Q : A → Type 0) (xs : List A) → Each P xs → Each Q xs → Each (λ x. P x × Q x) xs
each_both P Q [] p q = tt
each_both P Q (x ∷ xs) p q = ((p.0, q.0), each_both P Q xs p.1 q.1)

pub each_map : {A B : Type 0} (P : B → Type 0) (f : A → B) (xs : List A) → ((x : A) → P (f x)) → Each P (map f xs)
each_map P f [] h = tt
each_map P f (x ∷ xs) h = (h x, each_map P f xs h)

pub each_flat_map : {A B : Type 0} (P : B → Type 0) (f : A → List B) (xs : List A) → Each P (flat_map f xs) → Each (λ x. Each P (f x)) xs
each_flat_map P f [] a = tt
each_flat_map P f (x ∷ xs) a = (each_front P (f x) (flat_map f xs) a, each_flat_map P f xs (each_back P (f x) (flat_map f xs) a))

pub each_filter : {A : Type 0} (P : A → Type 0) (p : A → Bool) (xs : List A) → Each P xs → Each P (filter p xs)
each_filter P p [] a = tt
each_filter P p (x ∷ xs) a = pick (p x) (each_filter P p xs a.1)
  where
    pick : (b : Bool) → Each P (filter p xs) → Each P (cond b (x ∷ filter p xs) (filter p xs))
    pick true r = (a.0, r)
    pick false r = r

module _ {A : Type 0} (p : A → Bool) where
  pub all_each : {P : A → Type 0} (xs : List A) → ((x : A) → T (p x) → P x) → T (all p xs) → Each P xs
  all_each [] h t = tt
  all_each (x ∷ xs) h t = (h x (and_left (p x) (all p xs) t), all_each xs h (and_right (p x) (all p xs) t))

  pub each_all : {P : A → Type 0} (xs : List A) → ((x : A) → P x → T (p x)) → Each P xs → T (all p xs)
  each_all [] h t = tt
  each_all (x ∷ xs) h t = both (p x) (all p xs) (h x t.0) (each_all xs h t.1)

pub each_at_last : {A : Type 0} (P : A → Type 0) (f : A → A) (xs : List A) → ((x : A) → P x → P (f x)) → Each P xs → Each P (at_last f xs)
each_at_last P f [] h a = tt
each_at_last P f (x ∷ []) h a = (h x a.0, tt)
each_at_last P f (x ∷ (y ∷ ys)) h a = (a.0, each_at_last P f (y ∷ ys) h a.1)
