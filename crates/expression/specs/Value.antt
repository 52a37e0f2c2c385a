-- "expressions read over whole numbers": the value of an expression at the characters matched.
use Rattle.std.specs.Prelude.{List, ℕ, ℤ, pos, ◌+ℤ◌, ◌-ℤ◌, ◌*ℤ◌, get_or}
use Rattle.expression.specs.Grammar.{Algebra, Tree, fold}

-- the value at a word: `x` with a digit is the character at that position
abbrev pub numbers_at : List ℕ → Algebra ℤ
numbers_at w = record { number = pos; place = λ k. pos (get_or w k 0); plus = ◌+ℤ◌; minus = ◌-ℤ◌; times = ◌*ℤ◌ }

unfoldable pub value_at : List ℕ → Tree → ℤ
value_at w t = fold (numbers_at w) t
