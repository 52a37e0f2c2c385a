-- The search over words for a state that tells a rule, and for a word that leads to a state.
use Rattle.std.specs.Prelude.{Bool, ◌||◌, cond, List, [], ◌∷◌, ◌++◌, ℕ, zero, suc, ◌+◌, eqb, option_map}
use Rattle.std.specs.Prelude.{Option, None, Some}
use Rattle.meaning.specs.Block.{at}
use Rattle.automaton.specs.Layout.{classes_from}
use Rattle.automaton.specs.Sound.{state_count, class_count, accept_at_end_word, accept_word, target_word}

-- of n numbers from i on the first at which the test passes
abbrev pub first_from : ℕ → ℕ → (ℕ → Bool) → Option ℕ
first_from i zero p = None
first_from i (suc n) p = cond (p i) (Some i) (first_from (suc i) n p)

abbrev pub first_below : ℕ → (ℕ → Bool) → Option ℕ
first_below n p = first_from 0 n p

module _ (w : List ℕ) where
  -- rule r is the end or the go of state s
  abbrev pub telling : ℕ → ℕ → Bool
  telling r s = eqb (accept_at_end_word w s) (suc r) || eqb (accept_word w s) (suc r)

  -- class k leads from state p to state s
  abbrev pub leading : ℕ → ℕ → ℕ → Bool
  leading p s k = eqb (target_word w p k) s

  -- the first class that leads from state p to state s
  abbrev pub class_leading : ℕ → ℕ → Option ℕ
  class_leading p s = first_below (class_count w) (leading p s)

  -- Where `word` leads from state s, a word that leads there from a state below n that has a class to s, and so on back.
  unfoldable pub word_back : ℕ → ℕ → List ℕ → List ℕ
  word_back zero s word = word
  word_back (suc p) s word =
      elim (class_leading p s) [ Some k ↦ word_back p p (at w (classes_from + k) ∷ word) | None ↦ word_back p s word ]

  abbrev pub word_to : ℕ → List ℕ
  word_to s = word_back s s []

  -- the word of a state that tells rule r, and a character more where the state's end is another rule
  abbrev pub input_at : ℕ → ℕ → List ℕ
  input_at r s = word_to s ++ cond (eqb (accept_at_end_word w s) (suc r)) [] (0 ∷ [])

  -- the first state that tells rule r
  abbrev pub state_telling : ℕ → Option ℕ
  state_telling r = first_below (state_count w) (telling r)

  unfoldable pub searched : ℕ → Option (List ℕ)
  searched r = option_map (input_at r) (state_telling r)
