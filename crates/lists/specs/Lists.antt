-- Tests over lists, searches and folds: what the kit's libraries leave out.
use Rattle.std.specs.Prelude.{Bool, true, false, ◌&&◌, ◌||◌, cond, List, [], ◌∷◌, ◌++◌, ℕ, zero, suc, ◌+◌, max, eqb}
use Rattle.std.specs.Prelude.{Option, None, Some}

abbrev pub all : {A : Type 0} → (A → Bool) → List A → Bool
all p [] = true
all p (x ∷ xs) = p x && all p xs

abbrev pub any : {A : Type 0} → (A → Bool) → List A → Bool
any p [] = false
any p (x ∷ xs) = p x || any p xs

-- P holds of each element
abbrev pub Each : {A : Type 0} → (A → Type 0) → List A → Type 0
Each P [] = Unit {0}
Each P (x ∷ xs) = P x × Each P xs

abbrev pub filter : {A : Type 0} → (A → Bool) → List A → List A
filter p [] = []
filter p (x ∷ xs) = let rest = filter p xs in cond (p x) (x ∷ rest) rest

abbrev pub count : {A : Type 0} → (A → Bool) → List A → ℕ
count p [] = 0
count p (x ∷ xs) = cond (p x) 1 0 + count p xs

abbrev pub fold : {A B : Type 0} → (A → B → B) → B → List A → B
fold f b [] = b
fold f b (x ∷ xs) = f x (fold f b xs)

-- the elements taken in one after another, the first of them first
abbrev pub fold_left : {A B : Type 0} → (A → B → B) → List A → B → B
fold_left f [] b = b
fold_left f (x ∷ xs) b = fold_left f xs (f x b)

abbrev pub greatest : {A : Type 0} → (A → ℕ) → List A → ℕ
greatest f xs = fold (λ x m. max (f x) m) 0 xs

abbrev pub flat_map : {A B : Type 0} → (A → List B) → List A → List B
flat_map f [] = []
flat_map f (x ∷ xs) = f x ++ flat_map f xs

-- f 0 + .. + f (n - 1)
unfoldable pub sum_below : ℕ → (ℕ → ℕ) → ℕ
sum_below zero f = 0
sum_below (suc n) f = sum_below n f + f n

-- the list with f done to its last element
abbrev pub at_last : {A : Type 0} → (A → A) → List A → List A
at_last f [] = []
at_last f (x ∷ []) = f x ∷ []
at_last f (x ∷ (y ∷ ys)) = x ∷ at_last f (y ∷ ys)

abbrev pub last_d : {A : Type 0} → A → List A → A
last_d d [] = d
last_d d (x ∷ xs) = last_d x xs

-- the first number, counted from i, at whose element the test passes
abbrev pub find_from : {A : Type 0} → ℕ → (A → Bool) → List A → Option ℕ
find_from i p [] = None
find_from i p (x ∷ xs) = elim (p x) [ true ↦ Some i | false ↦ find_from (suc i) p xs ]

abbrev pub same_list : List ℕ → List ℕ → Bool
same_list [] [] = true
same_list [] (y ∷ ys) = false
same_list (x ∷ xs) [] = false
same_list (x ∷ xs) (y ∷ ys) = eqb x y && same_list xs ys

-- f i ∷ f (i + 1) ∷ .., n elements
abbrev pub tab_from : {A : Type 0} → ℕ → ℕ → (ℕ → A) → List A
tab_from i zero f = []
tab_from i (suc n) f = f i ∷ tab_from (suc i) n f

-- 0 ∷ 1 ∷ .., n elements
abbrev pub up_to : ℕ → List ℕ
up_to n = tab_from 0 n (λ i. i)

-- the list cut, or filled up with zeros, to n
unfoldable pub pad : ℕ → List ℕ → List ℕ
pad zero xs = []
pad (suc n) [] = 0 ∷ pad n []
pad (suc n) (x ∷ xs) = x ∷ pad n xs

abbrev pub is_empty : {A : Type 0} → List A → Bool
is_empty [] = true
is_empty (x ∷ xs) = false

abbrev pub is_some : {A : Type 0} → Option A → Bool
is_some None = false
is_some (Some a) = true

abbrev pub or_else : {A : Type 0} → A → Option A → A
or_else a None = a
or_else a (Some b) = b

abbrev pub optional : {A : Type 0} → Option A → List A
optional None = []
optional (Some a) = a ∷ []
