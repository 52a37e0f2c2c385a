-- Tests taken together, and decisions by the first test that passes.
use Rattle.std.specs.Prelude.{Bool, true, false, ◌&&◌, List, [], ◌∷◌, ℕ, zero, suc}

-- every test passes
unfoldable pub all_of : List Bool → Bool
all_of [] = true
all_of (b ∷ bs) = b && all_of bs

-- the test passes at each number below n
unfoldable pub for_below : ℕ → (ℕ → Bool) → Bool
for_below zero p = true
for_below (suc n) p = for_below n p && p n

-- the second test passes where the first does
abbrev pub implies : Bool → Bool → Bool
implies true b = b
implies false b = true

-- the value beside the first test that passes, or the last value
unfoldable pub select : {A : Type 0} → List (Bool × A) → A → A
select [] a = a
select (c ∷ cs) a = elim c.0 [ true ↦ c.1 | false ↦ select cs a ]
