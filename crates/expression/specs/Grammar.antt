-- Which text is which expression: the grammar as a relation, free of any reader.
use Rattle.std.specs.Prelude.{◌≡◌, Bool, true, ◌&&◌, ◌||◌, List, [], ◌∷◌, ◌++◌, ℕ, suc, ◌+◌, ◌-◌, ◌*◌, ◌≤◌, ◌<◌, eqb, leb}

-- an expression: "a factor is a decimal number .., `x` with a digit .., or an expression in parentheses"
pub data Tree : Type 0 where
  number : ℕ → Tree
  place : ℕ → Tree
  plus : Tree → Tree → Tree
  minus : Tree → Tree → Tree
  times : Tree → Tree → Tree

-- how parts are put together
pub record Algebra (A : Type 0) : Type 0 where
  pub number : ℕ → A
  pub place : ℕ → A
  pub plus : A → A → A
  pub minus : A → A → A
  pub times : A → A → A

-- a tree brought to anything that its parts are put together in
unfoldable pub fold : {A : Type 0} → Algebra A → Tree → A
fold g (number v) = g.number v
fold g (place k) = g.place k
fold g (plus a b) = g.plus (fold g a) (fold g b)
fold g (minus a b) = g.minus (fold g a) (fold g b)
fold g (times a b) = g.times (fold g a) (fold g b)

-- "Blanks (32) and line ends (10, 13)"
abbrev pub is_blank : ℕ → Bool
is_blank c = eqb c 32 || (eqb c 10 || eqb c 13)

-- they "count for nothing between symbols"
pub data Blanks : List ℕ → Type 0 where
  no_blanks : Blanks []
  a_blank : {c : ℕ} {b : List ℕ} → is_blank c ≡ true → Blanks b → Blanks (c ∷ b)

abbrev pub is_digit : ℕ → Bool
is_digit c = leb 48 c && leb c 57

pub data Digits : List ℕ → Type 0 where
  no_digits : Digits []
  a_digit : {c : ℕ} {ds : List ℕ} → is_digit c ≡ true → Digits ds → Digits (c ∷ ds)

-- the number that digits make, written behind the number v
unfoldable pub decimal : ℕ → List ℕ → ℕ
decimal v [] = v
decimal v (c ∷ ds) = decimal (v * 10 + (c - 48)) ds

pub data Level : Type 0 where
  a_sum : Level
  a_product : Level
  a_factor : Level

-- `Reads l n u t`: the text u is the tree t, at the level l, with parentheses nested at most n deep. Each symbol has the blanks before it;
-- "a sum or difference of products (`*`), read from the left".
pub data Reads : Level → ℕ → List ℕ → Tree → Type 0 where
  reads_number : {n : ℕ} {b : List ℕ} {c : ℕ} {ds : List ℕ} → Blanks b → Digits (c ∷ ds) → decimal 0 (c ∷ ds) ≤ 65535
      → Reads a_factor n (b ++ (c ∷ ds)) (number (decimal 0 (c ∷ ds)))
  reads_place : {n : ℕ} {b : List ℕ} {k : ℕ} → Blanks b → k < 8 → Reads a_factor n (b ++ (120 ∷ ((48 + k) ∷ []))) (place k)
  reads_parentheses : {n : ℕ} {b u e : List ℕ} {t : Tree} → Blanks b → Reads a_sum n u t → Blanks e
      → Reads a_factor (suc n) (b ++ (40 ∷ (u ++ (e ++ (41 ∷ []))))) t
  reads_one : {n : ℕ} {u : List ℕ} {t : Tree} → Reads a_factor n u t → Reads a_product n u t
  reads_times : {n : ℕ} {u b v : List ℕ} {s t : Tree} → Reads a_product n u s → Blanks b → Reads a_factor n v t
      → Reads a_product n (u ++ (b ++ (42 ∷ v))) (times s t)
  reads_alone : {n : ℕ} {u : List ℕ} {t : Tree} → Reads a_product n u t → Reads a_sum n u t
  reads_plus : {n : ℕ} {u b v : List ℕ} {s t : Tree} → Reads a_sum n u s → Blanks b → Reads a_product n v t → Reads a_sum n (u ++ (b ++ (43 ∷ v))) (plus s t)
  reads_minus : {n : ℕ} {u b v : List ℕ} {s t : Tree} → Reads a_sum n u s → Blanks b → Reads a_product n v t → Reads a_sum n (u ++ (b ++ (45 ∷ v))) (minus s t)

-- "an expression in parentheses, nested at most 16 deep"
abbrev pub Expression : List ℕ → Tree → Type 0
Expression u t = Reads a_sum 16 u t
