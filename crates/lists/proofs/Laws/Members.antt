-- Membership in filtered, mapped and joined lists and at a place, and the test that two lists are equal.
-- By recursion on the list or on the membership.
use mathlib.Core.Bool.{Bool, cond}
use mathlib.Core.List.Memᴰ
use mathlib.Core.List.{List, [], ◌∷◌, map, Memᴰ}
use mathlib.Core.Logic.{⊎_elim}
use mathlib.Core.Path.{◌≡◌, refl, ap, ap₂, subst}
use Prim.Native.Nat.{ℕ, zero, suc, ◌<◌}
use native.Mathlib.Omega.{arith}
use lib.Dec.{T, T_not, eqb, eqb→eq, eqb_refl}
use lib.ListN.{length, get_or}
use Rattle.lists.specs.Lists.{filter, flat_map, same_list}
use Rattle.lists.proofs.Laws.Tests.{either, and_left, and_right, both}

pub mem_filter : {A : Type 0} (f : A → Bool) (xs : List A) {a : A} → T (f a) → Memᴰ a xs → Memᴰ a (filter f xs)
mem_filter f [] t m = absurd (Memᴰ.not-nil m)
mem_filter f (x ∷ xs) {a} t m =
    let goal : Bool → Type 0 = λ b. Memᴰ a (cond b (x ∷ filter f xs) (filter f xs)) in
    ⊎_elim
    (λ e. either goal (f x) (λ _. Memᴰ.head e) (λ n. absurd (T_not (f x) n (subst (λ y. T (f y)) e t))))
    (λ r. either goal (f x) (λ _. Memᴰ.tail (mem_filter f xs t r)) (λ _. mem_filter f xs t r))
    (Memᴰ.cases_cons m)

pub mem_map : {A B : Type 0} (f : A → B) (xs : List A) {a : A} → Memᴰ a xs → Memᴰ (f a) (map f xs)
mem_map f [] m = absurd (Memᴰ.not-nil m)
mem_map f (x ∷ xs) m = ⊎_elim (λ e. Memᴰ.head (ap f e)) (λ r. Memᴰ.tail (mem_map f xs r)) (Memᴰ.cases_cons m)

pub mem_flat_map : {A B : Type 0} (f : A → List B) (xs : List A) {a : A} {b : B} → Memᴰ a xs → Memᴰ b (f a) → Memᴰ b (flat_map f xs)
mem_flat_map f [] m k = absurd (Memᴰ.not-nil m)
mem_flat_map f (x ∷ xs) {a} {b} m k =
    ⊎_elim (λ e. Memᴰ.append_left (flat_map f xs) (subst (λ y. Memᴰ b (f y)) e k)) (λ r. Memᴰ.append_right (f x) (mem_flat_map f xs r k)) (Memᴰ.cases_cons m)

pub mem_get_d : {A : Type 0} (xs : List A) (k : ℕ) (d : A) → k < length xs → Memᴰ (get_or xs k d) xs
mem_get_d [] k d h = absurd (omega arith)
mem_get_d (x ∷ xs) zero d h = Memᴰ.head refl
mem_get_d (x ∷ xs) (suc k) d h = Memᴰ.tail (mem_get_d xs k d (omega arith))

pub same_list_lem : (xs ys : List ℕ) → T (same_list xs ys) → xs ≡ ys
same_list_lem [] [] t = refl
same_list_lem [] (y ∷ ys) t = absurd t
same_list_lem (x ∷ xs) [] t = absurd t
same_list_lem (x ∷ xs) (y ∷ ys) t =
    ap₂ ◌∷◌ (eqb→eq x y (and_left (eqb x y) (same_list xs ys) t)) (same_list_lem xs ys (and_right (eqb x y) (same_list xs ys) t))

pub list_same : (xs : List ℕ) → T (same_list xs xs)
list_same [] = tt
list_same (x ∷ xs) = both (eqb x x) (same_list xs xs) (eqb_refl x) (list_same xs)
