-- A padded list, and what stands at a place of it, of rows of one length, and of parts joined.
-- By recursion on the list of elements, rows or parts.
use mathlib.Core.List.{List, [], ◌∷◌, ◌++◌, append_assoc}
use mathlib.Core.Path.{◌≡◌, refl, sym, ap, ◌∙◌}
use Prim.Native.Nat.{ℕ, zero, suc, ◌+◌, ◌*◌, ◌≤◌, ◌<◌}
use native.Mathlib.Nat.{mul-zero, mul-suc, zero-add}
use native.Mathlib.Numerals.{add-one}
use native.Mathlib.Omega.{arith}
use lib.Dec.{T, eqb}
use lib.ListN.{length, get_or, set, take, drop, length-append, get_or-append}
use lib.Seq.{get_or-append-add, take-suc, take-suc-set}
use Rattle.lists.specs.Lists.{all, flat_map, pad}

pub length_pad : (n : ℕ) (xs : List ℕ) → length (pad n xs) ≡ n
unfolding pad
length_pad zero xs = refl
length_pad (suc n) [] = ap suc (length_pad n [])
length_pad (suc n) (x ∷ xs) = ap suc (length_pad n xs)

pub get_d_pad : (n : ℕ) (xs : List ℕ) (i : ℕ) → i < n → get_or (pad n xs) i 0 ≡ get_or xs i 0
unfolding pad
get_d_pad zero xs i h = absurd (omega arith)
get_d_pad (suc n) [] zero h = refl
get_d_pad (suc n) [] (suc i) h = get_d_pad n [] i (omega arith)
get_d_pad (suc n) (x ∷ xs) zero h = refl
get_d_pad (suc n) (x ∷ xs) (suc i) h = get_d_pad n xs i (omega arith)

-- rows of one length m, joined
pub get_d_rows : {A : Type 0} (f : A → List ℕ) (m : ℕ) → ((x : A) → length (f x) ≡ m) → (xs : List A) (i j : ℕ) (d : A) →
    i < length xs → j < m → get_or (flat_map f xs) (m * i + j) 0 ≡ get_or (f (get_or xs i d)) j 0
get_d_rows f m e [] i j d h k = absurd (omega arith)
get_d_rows f m e (x ∷ xs) zero j d h k = rw (mul-zero, zero-add) (get_or-append (f x) (flat_map f xs) 0 j (omega (arith, e x)))
get_d_rows f m e (x ∷ xs) (suc i) j d h k =
    ap (λ a. get_or (f x ++ flat_map f xs) a 0) (omega (arith, mul-suc m i, e x))
    ∙ get_or-append-add (f x) (flat_map f xs) (m * i + j) 0
    ∙ get_d_rows f m e xs i j d (omega arith) k

pub take_pad : (n : ℕ) (xs : List ℕ) → length xs ≤ n → take (length xs) (pad n xs) ≡ xs
unfolding pad
take_pad n [] h = refl
take_pad zero (x ∷ xs) h = absurd (omega arith)
take_pad (suc n) (x ∷ xs) h = ap (λ ys. x ∷ ys) (take_pad n xs (omega arith))

pub pad_zeros : (n : ℕ) (xs : List ℕ) → T (all (eqb 0) (drop (length xs) (pad n xs)))
unfolding pad
pad_zeros zero [] = tt
pad_zeros zero (x ∷ xs) = tt
pad_zeros (suc n) [] = pad_zeros n []
pad_zeros (suc n) (x ∷ xs) = pad_zeros n xs

-- parts joined
abbrev pub flat : List (List ℕ) → List ℕ
flat ps = flat_map (λ p. p) ps

-- part number j, which begins where the parts before it end
pub get_d_part : (ps : List (List ℕ)) (rest : List ℕ) (j i : ℕ) → i < length (get_or ps j []) →
    get_or (flat ps ++ rest) (length (flat (take j ps)) + i) 0 ≡ get_or (get_or ps j []) i 0
get_d_part [] rest j i h = absurd (omega arith)
get_d_part (p ∷ ps) rest zero i h = rw (append_assoc, zero-add) (get_or-append p (flat ps ++ rest) 0 i h)
get_d_part (p ∷ ps) rest (suc j) i h =
    rw append_assoc (
    ap (λ a. get_or (p ++ (flat ps ++ rest)) a 0) (omega (arith, length-append p (flat (take j ps))))
    ∙ get_or-append-add p (flat ps ++ rest) (length (flat (take j ps)) + i) 0
    ∙ get_d_part ps rest j i h)

-- an element that is there does not depend on the default
pub get_d_there : {A : Type 0} (xs : List A) (i : ℕ) (a b : A) → i < length xs → get_or xs i a ≡ get_or xs i b
get_d_there [] i a b h = absurd (omega arith)
get_d_there (x ∷ xs) zero a b h = refl
get_d_there (x ∷ xs) (suc i) a b h = get_d_there xs i a b (omega arith)

-- one more element of a copied list
pub copy_next : (source copy : List ℕ) (i : ℕ) → i < length source → i < length copy → take i copy ≡ take i source →
    take (i + 1) (set copy i (get_or source i 0)) ≡ take (i + 1) source
copy_next source copy i h k e =
    let x = get_or source i 0 in
    let one : i + 1 ≡ suc i = add-one i in
    ap (λ j. take j (set copy i x)) one
    ∙ take-suc-set copy i x k
    ∙ ap (λ l. l ++ x ∷ []) e
    ∙ sym (take-suc source i 0 h)
    ∙ ap (λ j. take j source) (sym one)

-- a list of length 0
pub no_elements : (xs : List ℕ) → length xs ≡ 0 → xs ≡ []
no_elements [] e = refl
no_elements (x ∷ xs) e = absurd (omega arith)
