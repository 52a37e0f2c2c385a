-- Where a class start goes, and the range whose edges are met.
use Rattle.std.specs.Prelude.{cond, List, [], ◌∷◌, ℕ, suc, ◌+◌, ltb}
use Rattle.std.specs.Prelude.{Option}
use Rattle.lists.specs.Lists.{or_else}
use Rattle.meaning.specs.Table.{Range}
use Rattle.meaning.specs.Block.{at}

-- how many numbers stand before the first that is not below x: x's place in a rising list
abbrev pub place_in : ℕ → List ℕ → ℕ
place_in x [] = 0
place_in x (y ∷ ys) = cond (ltb y x) (suc (place_in x ys)) 0

-- the range whose two numbers start at i
abbrev pub range_from : List ℕ → ℕ → Range
range_from ranges i = record { lowest = at ranges i; highest = at ranges (i + 1) }

-- how many starts are held, where 65 stands for more than 64: what the compiler's count, or none, means
abbrev pub counted : Option ℕ → ℕ
counted n = or_else 65 n
