-- A list's elements in another order.
use Rattle.std.specs.Prelude.{List, [], ◌∷◌}

-- The same elements, but that neighbours of which P holds may have changed places, any number of times.
pub data Reordered {A : Type 0} (P : A → Type 0) : List A → List A → Type 0 where
  none : Reordered P [] []
  kept : {x : A} {xs ys : List A} → Reordered P xs ys → Reordered P (x ∷ xs) (x ∷ ys)
  swapped : {x y : A} {xs : List A} → P x → P y → Reordered P (x ∷ y ∷ xs) (y ∷ x ∷ xs)
  joined : {xs ys zs : List A} → Reordered P xs ys → Reordered P ys zs → Reordered P xs zs

abbrev pub InAnyOrder : {A : Type 0} → List A → List A → Type 0
InAnyOrder xs ys = Reordered (λ _. Unit {0}) xs ys
