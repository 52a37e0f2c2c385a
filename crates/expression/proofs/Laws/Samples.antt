-- Worked examples: what eight texts are read to.
-- By computation. Assumes nothing.
use mathlib.Core.Path.{◌≡◌, refl}
use mathlib.Core.List.{List, [], ◌∷◌, ◌++◌}
use Prim.Native.Nat.{ℕ}
use lib.ListN.{replicate}
use Rattle.expression.specs.Grammar.{Tree, number, place, plus, minus, times}
use Rattle.expression.specs.bridge.Text.{Read, refused, got, map_read, skip, digits, place_digit, closed_by, joined, chain, chained, atom, factor, product, sum, within, trees}

abbrev read : List ℕ → Read Tree
read t = sum trees (within trees 16) t

-- `1-2-3*4`
left : read (49 ∷ 45 ∷ 50 ∷ 45 ∷ 51 ∷ 42 ∷ 52 ∷ []) ≡ got (minus (minus (number 1) (number 2)) (times (number 3) (number 4))) []
unfolding map_read skip digits place_digit closed_by joined chain chained atom factor product sum within
left = refl

-- `10 * x2 + x3 - 528`, and a comma
t1 : read (49 ∷ 48 ∷ 32 ∷ 42 ∷ 32 ∷ 120 ∷ 50 ∷ 32 ∷ 43 ∷ 32 ∷ 120 ∷ 51 ∷ 32 ∷ 45 ∷ 32 ∷ 53 ∷ 50 ∷ 56 ∷ 44 ∷ [])
    ≡ got (minus (plus (times (number 10) (place 2)) (place 3)) (number 528)) (44 ∷ [])
unfolding map_read skip digits place_digit closed_by joined chain chained atom factor product sum within
t1 = refl

-- `x 1`, `x8`, `65536`, `00065535`
apart : read (120 ∷ 32 ∷ 49 ∷ []) ≡ refused
unfolding map_read skip digits place_digit closed_by joined chain chained atom factor product sum within
apart = refl

eight : read (120 ∷ 56 ∷ []) ≡ refused
unfolding map_read skip digits place_digit closed_by joined chain chained atom factor product sum within
eight = refl

large : read (54 ∷ 53 ∷ 53 ∷ 51 ∷ 54 ∷ []) ≡ refused
unfolding map_read skip digits place_digit closed_by joined chain chained atom factor product sum within
large = refl

zeros : read (48 ∷ 48 ∷ 48 ∷ 54 ∷ 53 ∷ 53 ∷ 51 ∷ 53 ∷ []) ≡ got (number 65535) []
unfolding map_read skip digits place_digit closed_by joined chain chained atom factor product sum within
zeros = refl

-- sixteen and seventeen parentheses
deep : read (replicate 16 40 ++ (49 ∷ replicate 16 41)) ≡ got (number 1) []
unfolding map_read skip digits place_digit closed_by joined chain chained atom factor product sum within
deep = refl

deeper : read (replicate 17 40 ++ (49 ∷ replicate 17 41)) ≡ refused
unfolding map_read skip digits place_digit closed_by joined chain chained atom factor product sum within
deeper = refl
