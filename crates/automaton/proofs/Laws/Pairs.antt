-- What request [8] says of machine words.
use mathlib.Core.List.{List, [], ◌∷◌}
use mathlib.Core.Path.{◌≡◌, refl, sym, ap, subst, ◌∙◌}
use Prim.Native.Nat.{ℕ, ◌≤◌}
use native.Mathlib.Omega.{arith}
use Rattle.meaning.specs.Table.{Mode, Absent, Single, Paired, least, pair_number}
use Rattle.automaton.specs.Layout.{mode_word}
use Rattle.automaton.specs.Sound.{word_mode, expansion_word}
use Rattle.automaton.specs.Automaton.{from_words}
use Rattle.automaton.specs.Pairs.{PairWords}
use Rattle.automaton.proofs.Laws.Places.{layout_default}
use Rattle.automaton.proofs.Laws.Words.{sound_header_lem}

marked_word : (m : Mode) → mode_word m ≡ 2 → m ≡ Paired
marked_word Absent e = absurd (omega arith)
marked_word Single e = absurd (omega arith)
marked_word Paired e = refl

unchanged : (w : List ℕ) (x y : ℕ) → (from_words w).write pair_number (x ∷ y ∷ []) ≡ x ∷ y ∷ []
unfolding from_words
unchanged w x y = refl

pub pair_words : PairWords
pair_words =
    record {
      header = λ t rest. (λ e. marked_word _ (sym (layout_default t rest) ∙ e), λ m. layout_default t rest ∙ ap mode_word m);
      modes = λ w W. (sound_header_lem w W).default;
      at_least = λ w W e. subst (λ n. least (word_mode n) ≤ expansion_word w) e (sound_header_lem w W).at_least;
      unchanged = unchanged;
    }
