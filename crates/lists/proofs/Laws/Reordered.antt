-- Lists in another order: what holds of each element still does, the lists may change sides, and the last element may come first.
-- By the ways in which a list is reordered.
use mathlib.Core.List.{List, [], ◌∷◌, ◌++◌}
use Rattle.lists.specs.Lists.{Each}
use Rattle.lists.specs.Reordered.{Reordered, none, kept, swapped, joined, InAnyOrder}

pub reordered_same : {A : Type 0} {P : A → Type 0} (xs : List A) → Reordered P xs xs
reordered_same [] = none
reordered_same (x ∷ xs) = kept (reordered_same xs)

pub reordered_sym : {A : Type 0} {P : A → Type 0} {xs ys : List A} → Reordered P xs ys → Reordered P ys xs
reordered_sym none = none
reordered_sym (kept r) = kept (reordered_sym r)
reordered_sym (swapped p q) = swapped q p
reordered_sym (joined r s) = joined (reordered_sym s) (reordered_sym r)

pub reordered_each : {A : Type 0} {P : A → Type 0} {xs ys : List A} (Q : A → Type 0) → Reordered P xs ys → Each Q xs → Each Q ys
reordered_each Q none a = a
reordered_each Q (kept r) a = (a.0, reordered_each Q r a.1)
reordered_each Q (swapped p q) a = (a.1.0, (a.0, a.1.1))
reordered_each Q (joined r s) a = reordered_each Q s (reordered_each Q r a)

pub last_first : {A : Type 0} (xs : List A) (x : A) → InAnyOrder (xs ++ (x ∷ [])) (x ∷ xs)
last_first [] x = kept none
last_first (y ∷ xs) x = joined (kept (last_first xs x)) (swapped tt tt)
