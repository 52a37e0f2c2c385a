-- What the laws and contracts of expressions ask: numbers of 32 bits, positions below 8, a text in which no expression goes on, and the value of
-- a constant with coefficients.
use Rattle.std.specs.Prelude.{false, List, ◌≡◌, ℕ, ◌<◌, ℤ, pos, ◌+ℤ◌, length, get_or, drop}
use Rattle.std.specs.Int.Signed.{mag}
use Rattle.meaning.specs.Value.{dot}
use Rattle.expression.specs.Grammar.{is_digit, Tree, number, place, plus, minus, times}
use Rattle.expression.specs.bridge.Text.{is_star, is_sign, first, skip}

-- each number in signed 32 bits
pub record Small (ns : List ℤ) : Type 0 where
  pub count : length ns ≡ 9
  pub each : (i : ℕ) → mag (get_or ns i (pos 0)) < 2147483648

-- each position is below 8
unfoldable pub Proper : Tree → Type 0
Proper (number v) = Unit {0}
Proper (place k) = k < 8
Proper (plus a b) = Proper a × Proper b
Proper (minus a b) = Proper a × Proper b
Proper (times a b) = Proper a × Proper b

-- no expression goes on in the text r: no digit begins it, and its next symbol is no operator
pub record Ends (r : List ℕ) : Type 0 where
  pub digit : is_digit (first r) ≡ false
  pub star : is_star (first (skip r)) ≡ false
  pub sign : is_sign (first (skip r)) ≡ false

-- the constant plus each coefficient times the character at that position
unfoldable pub affine_at : List ℕ → List ℤ → ℤ
affine_at w ns = get_or ns 0 (pos 0) +ℤ dot (drop 1 ns) w
