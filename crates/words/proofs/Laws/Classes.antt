-- The class starts rise strictly just where the library's test of neighbours says so.
-- By the places of the starts in the words.
use Rattle.std.proofs.Common.{◌≡◌, ℕ, pred, ◌+◌, ◌<◌, ◌≤◌, true, false, Bool, ltb, List, length, take, drop, sym, refl, ap, ◌∙◌, ap₂, arith, length-take-le, length-drop, get_or-take, get_or-drop}
use Rattle.std.specs.List.{IsAllAdjacentAnswer}
use Rattle.lists.proofs.Laws.Tests.{to_T, of_T, to_below}
use Rattle.lists.specs.Decide.{for_below}
use Rattle.meaning.proofs.Laws.Extremes.{below_fails}
use Rattle.meaning.specs.Block.{at}
use Rattle.automaton.specs.Layout.{classes_from}

-- the starts of some classes rise just where each is below the next
module _ (w : List ℕ) (n : ℕ) (long : classes_from + n ≤ length w) where
  abbrev some : List ℕ
  some = take n (drop classes_from w)

  abbrev rises : ℕ → Bool
  rises k = ltb (at w (classes_from + k)) (at w (classes_from + 1 + k))

  some_size : length some ≡ n
  some_size = length-take-le n (drop classes_from w) (omega (arith, length-drop classes_from w))

  some_at : (k : ℕ) → k < n → at some k ≡ at w (classes_from + k)
  some_at k l = get_or-take n (drop classes_from w) k 0 l ∙ get_or-drop classes_from w k 0

  rise : (k : ℕ) → k + 1 < n → ltb (at some k) (at some (k + 1)) ≡ rises k
  rise k l = let e : classes_from + (k + 1) ≡ classes_from + 1 + k = omega arith in ap₂ ltb (some_at k (omega arith)) (some_at (k + 1) l ∙ ap (at w) e)

  pub starts_tested : (r : Bool) → IsAllAdjacentAnswer (λ x y b. b ≡ ltb x y) some r → r ≡ for_below (pred n) rises
  starts_tested true each =
      sym (of_T (for_below (pred n) rises) (to_below (pred n) rises (λ k l. to_T (rises k) (sym (each k 0 (omega (arith, some_size)) ∙ rise k (omega arith))))))
  starts_tested false one =
      let k = one.0 in
      let h : k + 1 < n = omega (arith, one.1, some_size) in
      sym (below_fails rises (pred n) k (omega arith) (one.2 0 ∙ rise k h) refl)
