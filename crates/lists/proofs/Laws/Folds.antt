-- Elements taken in one after another, and the lists of elements joined, through appending and joining.
-- By recursion on the list.
use mathlib.Core.List.{List, [], ◌∷◌, ◌++◌, append_assoc}
use mathlib.Core.Path.{◌≡◌, refl, sym, ap, ◌∙◌}
use Rattle.lists.specs.Lists.{fold_left, flat_map}

pub fold_left_append : {A B : Type 0} (f : A → B → B) (xs ys : List A) (b : B) → fold_left f (xs ++ ys) b ≡ fold_left f ys (fold_left f xs b)
fold_left_append f [] ys b = refl
fold_left_append f (x ∷ xs) ys b = fold_left_append f xs ys (f x b)

-- elements that are taken in by taking in a list for each
pub fold_left_flat_map : {A B C : Type 0} (f : B → C → C) (h : A → List B) (xs : List A) (c : C) → fold_left (λ x. fold_left f (h x)) xs c ≡ fold_left f (flat_map h xs) c
fold_left_flat_map f h [] c = refl
fold_left_flat_map f h (x ∷ xs) c = fold_left_flat_map f h xs (fold_left f (h x) c) ∙ sym (fold_left_append f (h x) (flat_map h xs) c)

pub flat_map_append : {A B : Type 0} (f : A → List B) (xs ys : List A) → flat_map f (xs ++ ys) ≡ flat_map f xs ++ flat_map f ys
flat_map_append f [] ys = refl
flat_map_append f (x ∷ xs) ys = ap (λ l. f x ++ l) (flat_map_append f xs ys) ∙ sym (append_assoc (f x) (flat_map f xs) (flat_map f ys))

pub flat_map_flat_map : {A B C : Type 0} (f : B → List C) (h : A → List B) (xs : List A) → flat_map f (flat_map h xs) ≡ flat_map (λ x. flat_map f (h x)) xs
flat_map_flat_map f h [] = refl
flat_map_flat_map f h (x ∷ xs) = flat_map_append f (h x) (flat_map h xs) ∙ ap (λ l. flat_map f (h x) ++ l) (flat_map_flat_map f h xs)
