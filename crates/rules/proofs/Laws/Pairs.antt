-- Pairs in an input: both units put into an output.
-- By the two units next, one by one.
use Rattle.std.proofs.Common.{◌≡◌, ℕ, suc, ◌+◌, ◌≤◌, List, [], ◌∷◌, ◌++◌, length, take, drop, set, refl, ap, ◌∙◌, add-one, arith, drop-cons}
use lib.Seq.{sets-eq}
use Rattle.meaning.specs.Block.{at}

-- the two units at a place
two_next : (u : List ℕ) (a : ℕ) → a + 2 ≤ length u → drop a u ≡ at u a ∷ at u (a + 1) ∷ drop (a + 2) u
two_next u a h =
    drop-cons u a 0 (omega arith)
    ∙ ap (λ l. at u a ∷ l) (drop-cons u (suc a) 0 (omega arith))
    ∙ (λ i. at u a ∷ at u (one i) ∷ drop (two i) u)
  where
    one : suc a ≡ a + 1
    one = omega arith

    two : suc (suc a) ≡ a + 2
    two = omega arith

-- both put into an output
pub pair_put : (u o : List ℕ) (a n : ℕ) → a + 2 ≤ length u → n + 2 ≤ length o →
    set (set o n (at u a)) (n + 1) (at u (a + 1)) ≡ take n o ++ take 2 (drop a u) ++ drop (n + 2) o
pair_put u o a n h k =
    ap (λ i. set (set o n (at u a)) i (at u (a + 1))) (add-one n)
    ∙ sets-eq (at u a ∷ at u (a + 1) ∷ []) o n k
    ∙ rw (two_next u a h) refl
