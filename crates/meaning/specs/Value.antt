-- "An output character's value", and what refusal 7 asks of it.
use Rattle.std.specs.Prelude.{Bool, true, false, ◌&&◌, cond, List, [], ◌∷◌, ℕ, ◌+◌, ◌/◌, ◌%◌, ◌^◌, min, max, T, ltb, ℤ, pos, ◌+ℤ◌, ◌*ℤ◌, get_or, ◌≤ℤ◌}
use Rattle.std.specs.Bool.{beq}
use Rattle.std.specs.Int.Signed.{le_z, non_neg}
use Rattle.lists.specs.Lists.{all, Each}
use Rattle.meaning.specs.Table.{Range, Output, sum, digit, Table, in_ranges, groups}

-- each coefficient times the character at its position
unfoldable pub dot : List ℤ → List ℕ → ℤ
dot [] w = pos 0
dot (a ∷ ks) [] = pos 0
dot (a ∷ ks) (c ∷ w) = a *ℤ pos c +ℤ dot ks w

-- "v is the character divided by 2 to that shift, rounded down, modulo 16"
unfoldable pub nibble : ℕ → ℕ → ℕ
nibble shift c = c / 2 ^ shift % 16

-- "48 + v when v is below 10, and 55 + v from 10 to 15"
unfoldable pub hex_digit : ℕ → ℕ
hex_digit v = cond (ltb v 10) (48 + v) (55 + v)

-- "its constant plus each coefficient times the character at that position"; a digit's is that of the character at its position
unfoldable pub value : Output → List ℕ → ℤ
value (sum c ks) w = c +ℤ dot ks w
value (digit p shift) w = pos (hex_digit (nibble shift (get_or w p 0)))

-- the word has a character in the ranges of each position, and no more
unfoldable pub fits_word : List (List Range) → List ℕ → Bool
fits_word [] [] = true
fits_word [] (c ∷ w) = false
fits_word (rs ∷ ps) [] = false
fits_word (rs ∷ ps) (c ∷ w) = in_ranges rs c && fits_word ps w

-- "must lie in 0 to 65535"
pub record IsCharacter (z : ℤ) : Type 0 where
  pub low : pos 0 ≤ℤ z
  pub high : z ≤ℤ pos 65535

-- "for every word that fits the group, other rules disregarded"
unfoldable pub SafeOutput : List (List Range) → Output → Type 0
SafeOutput ps o = (w : List ℕ) → T (fits_word ps w) → IsCharacter (value o w)

unfoldable pub SafeTable : Table → Type 0
SafeTable t = Each (λ g. Each (SafeOutput g.ranges) g.outputs) (groups t)

-- The same as a test that can be run: the value at the word that fits and makes it least, and at the one that makes it greatest. A digit is a
-- character at every word.

unfoldable pub lowest_of : List Range → ℕ
lowest_of [] = 0
lowest_of (r ∷ []) = r.lowest
lowest_of (r ∷ (s ∷ rs)) = min r.lowest (lowest_of (s ∷ rs))

unfoldable pub highest_of : List Range → ℕ
highest_of [] = 0
highest_of (r ∷ []) = r.highest
highest_of (r ∷ (s ∷ rs)) = max r.highest (highest_of (s ∷ rs))

-- at each position the lowest character where the coefficient's sign is `sign` (true: not negative), else the highest
unfoldable pub extreme : Bool → List ℤ → List (List Range) → List ℕ
extreme sign ks [] = []
extreme sign [] (rs ∷ ps) = lowest_of rs ∷ extreme sign [] ps
extreme sign (a ∷ ks) (rs ∷ ps) = cond (beq (non_neg a) sign) (lowest_of rs) (highest_of rs) ∷ extreme sign ks ps

unfoldable pub safe_output : List (List Range) → Output → Bool
safe_output ps (sum c ks) = le_z (pos 0) (value (sum c ks) (extreme true ks ps)) && le_z (value (sum c ks) (extreme false ks ps)) (pos 65535)
safe_output ps (digit p shift) = true

unfoldable pub safe : Table → Bool
safe t = all (λ g. all (safe_output g.ranges) g.outputs) (groups t)
