-- A sum modulo 65536 may be begun at 0 and its constant added last.
-- Adding the constant at the start or at the end differs by whole multiples of 65536 only.
use mathlib.Core.List.{List, [], ◌∷◌}
use mathlib.Core.Path.{◌≡◌, sym, ap, ◌∙◌}
use Prim.Native.Nat.{ℕ, ◌+◌, ◌*◌, ◌%◌, ◌<◌}
use native.Mathlib.Nat.{zero-add}
use native.Mathlib.Omega.{arith}
use Rattle.meaning.specs.Block.{word_sum}

added : (s v x : ℕ) → (s + (v + x) % 65536) % 65536 ≡ ((s + x % 65536) % 65536 + v) % 65536
added s v x = omega arith

pub sum_from_lem : (v : ℕ) (ks w : List ℕ) → v < 65536 → word_sum v ks w ≡ (word_sum 0 ks w + v) % 65536
unfolding word_sum
sum_from_lem v [] w h = omega arith
sum_from_lem v (a ∷ ks) [] h = omega arith
sum_from_lem v (a ∷ ks) (c ∷ w) h =
    sum_from_lem ((v + a * c) % 65536) ks w (omega arith)
    ∙ added (word_sum 0 ks w) v (a * c)
    ∙ ap (λ s. (s + v) % 65536) (sym (sum_from_lem (a * c % 65536) ks w (omega arith)) ∙ ap (λ n. word_sum (n % 65536) ks w) (sym (zero-add (a * c))))
