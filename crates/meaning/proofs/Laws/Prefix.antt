-- A word that fits the first positions of a pattern, and how that test goes on by one character.
-- It is `fits_word_lem` stopped at the word's end.
use mathlib.Core.Bool.{Bool, true, false, ◌&&◌}
use mathlib.Core.List.{List, [], ◌∷◌, ◌++◌}
use mathlib.Core.Path.{◌≡◌, refl, sym, ap, subst, ◌∙◌}
use Prim.Native.Nat.{ℕ, suc, ◌≤◌}
use native.Mathlib.Omega.{arith}
use lib.Dec.{T, ltb, leb-zero, leb-suc-suc}
use lib.ListN.{length, get_or}
use Rattle.lists.proofs.Laws.Tests.{and_left, and_right, both, and-true, and_assoc}
use Rattle.meaning.specs.Table.{Range, in_ranges}
use Rattle.meaning.specs.Value.{fits_word}

unfoldable pub fits_prefix : List (List Range) → List ℕ → Bool
fits_prefix ps [] = true
fits_prefix [] (c ∷ w) = false
fits_prefix (rs ∷ ps) (c ∷ w) = in_ranges rs c && fits_prefix ps w

pub fits_prefix_nil : (ps : List (List Range)) → T (fits_prefix ps [])
unfolding fits_prefix
fits_prefix_nil ps = tt

pub fits_prefix_front : (ps : List (List Range)) (w v : List ℕ) → T (fits_prefix ps (w ++ v)) → T (fits_prefix ps w)
unfolding fits_prefix
fits_prefix_front ps [] v t = tt
fits_prefix_front [] (c ∷ w) v t = t
fits_prefix_front (rs ∷ ps) (c ∷ w) v t =
    both (in_ranges rs c) (fits_prefix ps w) (and_left (in_ranges rs c) (fits_prefix ps (w ++ v)) t)
    (fits_prefix_front ps w v (and_right (in_ranges rs c) (fits_prefix ps (w ++ v)) t))

pub fits_prefix_snoc : (ps : List (List Range)) (w : List ℕ) (x : ℕ) →
    fits_prefix ps (w ++ x ∷ []) ≡ fits_prefix ps w && (ltb (length w) (length ps) && in_ranges (get_or ps (length w) []) x)
unfolding fits_prefix
fits_prefix_snoc [] [] x = refl
fits_prefix_snoc (rs ∷ ps) [] x = and-true (in_ranges rs x) ∙ sym (ap (λ b. b && in_ranges rs x) (leb-suc-suc 0 (length ps) ∙ leb-zero (length ps)))
fits_prefix_snoc [] (c ∷ w) x = refl
fits_prefix_snoc (rs ∷ ps) (c ∷ w) x =
    ap (λ b. in_ranges rs c && b) (fits_prefix_snoc ps w x)
    ∙ sym (and_assoc (in_ranges rs c) (fits_prefix ps w) (ltb (length w) (length ps) && in_ranges (get_or ps (length w) []) x))
    ∙ sym (ap (λ b. (in_ranges rs c && fits_prefix ps w) && (b && in_ranges (get_or ps (length w) []) x)) (leb-suc-suc (suc (length w)) (length ps)))

pub fits_prefix_length : (ps : List (List Range)) (w : List ℕ) → T (fits_prefix ps w) → length w ≤ length ps
unfolding fits_prefix
fits_prefix_length ps [] t = omega arith
fits_prefix_length [] (c ∷ w) t = absurd t
fits_prefix_length (rs ∷ ps) (c ∷ w) t = let h : length w ≤ length ps = fits_prefix_length ps w (and_right (in_ranges rs c) (fits_prefix ps w) t) in omega arith

-- a word as long as the pattern fits whole where it fits at all
pub fits_prefix_whole : (ps : List (List Range)) (w : List ℕ) → length ps ≡ length w → fits_word ps w ≡ fits_prefix ps w
unfolding fits_prefix fits_word
fits_prefix_whole [] [] e = refl
fits_prefix_whole [] (c ∷ w) e = absurd (omega arith)
fits_prefix_whole (rs ∷ ps) [] e = absurd (omega arith)
fits_prefix_whole (rs ∷ ps) (c ∷ w) e = ap (λ b. in_ranges rs c && b) (fits_prefix_whole ps w (omega arith))

pub fits_word_length : (ps : List (List Range)) (w : List ℕ) → T (fits_word ps w) → length ps ≡ length w
unfolding fits_word
fits_word_length [] [] t = refl
fits_word_length [] (c ∷ w) t = absurd t
fits_word_length (rs ∷ ps) [] t = absurd t
fits_word_length (rs ∷ ps) (c ∷ w) t = ap suc (fits_word_length ps w (and_right (in_ranges rs c) (fits_word ps w) t))

pub fits_word_prefix : (ps : List (List Range)) (w : List ℕ) → T (fits_word ps w) → T (fits_prefix ps w)
fits_word_prefix ps w t = subst T (fits_prefix_whole ps w (fits_word_length ps w t)) t
