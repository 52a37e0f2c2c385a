-- A part brought to its constant and coefficients.
use Rattle.std.specs.Prelude.{Bool, false, cond, List, [], ◌∷◌, map, ℕ, ◌+◌, eqb, ltb, ℤ, pos, negsuc, ◌+ℤ◌, ◌-ℤ◌, ◌*ℤ◌, get_or, drop, replicate, set, Option, Some, None}
use Rattle.std.specs.Int.Signed.{mag}
use Rattle.lists.specs.Lists.{all}
use Rattle.expression.specs.Grammar.{Algebra}

-- the constant and the coefficients by position, or none where refusal 17 was met
abbrev pub Part : Type 0
Part = Option (List ℤ)

-- its numbers, which say nothing where refusal 17 was met
abbrev pub numbers : Part → List ℤ
numbers None = replicate 9 (pos 0)
numbers (Some ns) = ns

-- in signed 32 bits; `mag` is n for n and for -(n + 1)
abbrev pub small : ℤ → Bool
small z = ltb (mag z) 2147483648

-- "a constant or coefficient of any part outside signed 32 bits"
unfoldable pub checked : List ℤ → Part
checked ns = cond (all small ns) (Some ns) None

unfoldable pub number_part : ℕ → Part
number_part v = Some (set (replicate 9 (pos 0)) 0 (pos v))

unfoldable pub place_part : ℕ → Part
place_part k = Some (set (replicate 9 (pos 0)) (k + 1) (pos 1))

-- what two parts make, if refusal 17 met neither
unfoldable pub both : (List ℤ → List ℤ → Part) → Part → Part → Part
both f None b = None
both f (Some a) None = None
both f (Some a) (Some b) = f a b

unfoldable pub zip : (ℤ → ℤ → ℤ) → List ℤ → List ℤ → List ℤ
zip f [] bs = []
zip f (a ∷ as') [] = []
zip f (a ∷ as') (b ∷ bs) = f a b ∷ zip f as' bs

abbrev pub is_zero : ℤ → Bool
is_zero (pos n) = eqb n 0
is_zero (negsuc n) = false

-- no coefficient other than 0
unfoldable pub flat : List ℤ → Bool
flat ns = all is_zero (drop 1 ns)

unfoldable pub scaled : List ℤ → ℤ → Part
scaled ns k = checked (map (λ z. z *ℤ k) ns)

unfoldable pub plus_part : Part → Part → Part
plus_part a b = both (λ x y. checked (zip ◌+ℤ◌ x y)) a b

unfoldable pub minus_part : Part → Part → Part
minus_part a b = both (λ x y. checked (zip ◌-ℤ◌ x y)) a b

-- "a product both of whose factors then have a coefficient other than 0"
unfoldable pub product_of : List ℤ → List ℤ → Part
product_of x y = cond (flat y) (scaled x (get_or y 0 (pos 0))) (cond (flat x) (scaled y (get_or x 0 (pos 0))) None)

unfoldable pub times_part : Part → Part → Part
times_part a b = both product_of a b

abbrev pub parts : Algebra Part
parts = record { number = number_part; place = place_part; plus = plus_part; minus = minus_part; times = times_part }
