-- What the check answers after compiling is as the check is asked to answer: compiling's refusal, or the verdict of the search over its words.
-- An accepted table keeps the rules for compiling, and its words are sound.
use mathlib.Core.List.{List, ◌++◌}
use mathlib.Core.Path.{◌≡◌, refl, sym, ap, subst, ◌∙◌}
use Prim.Native.Nat.{ℕ, ◌≤◌}
use lib.Dec.{T}
use lib.ListN.{length, drop}
use Rattle.meaning.specs.Refusal.{Outcome, refused, accepted}
use Rattle.meaning.specs.Table.{Table}
use Rattle.meaning.specs.Records.{Bytes}
use Rattle.meaning.specs.Choices.{Verdict}
use Rattle.meaning.proofs.Laws.Refusal.{accepted_not, refused_same}
use Rattle.meaning.proofs.Laws.Described.{well_formed_shaped}
use Rattle.automaton.specs.Layout.{word_count, words}
use Rattle.automaton.specs.Sound.{sound}
use Rattle.automaton.specs.Compile.{compilable, compile_by, compile}
use Rattle.automaton.specs.Claims.{KeepsCompiling}
use Rattle.automaton.specs.Witness.{Answers, Checked}
use Rattle.automaton.proofs.Laws.Compile.{keeping_compilable, compile_accepts}
use Rattle.automaton.proofs.Laws.Sound.{compiled_sound}
use Rattle.witness.specs.bridge.Search.{searched}
use Rattle.witness.proofs.Laws.Search.{search_right}

module _ (b buffer later : List ℕ) (left : later ≡ (compile b buffer).words) where
  module _ (bytes : Bytes b) (e : (compile b buffer).answer ≡ accepted tt) where
    abbrev kept : (t : Table) × KeepsCompiling b t × (word_count ≤ length buffer)
    kept = (compile_accepts b buffer).accepting bytes e

    abbrev t : Table
    t = kept.0

    abbrev rest : List ℕ
    rest = drop word_count buffer

    later_words : later ≡ words t ++ rest
    later_words = left ∙ ((compile_accepts b buffer).keeping t kept.1 kept.2).1

    sound_words : T (sound (words t ++ rest))
    sound_words = compiled_sound t rest (well_formed_shaped t kept.1.keeps.well_formed) kept.1.classes kept.1.states

    pub later_sound : T (sound later)
    later_sound = subst (λ w. T (sound w)) (sym later_words) sound_words

    pub accepted_checked : (r : ℕ) → Checked b buffer r (accepted (searched later r)) later
    accepted_checked r = record {
      answer = subst (λ o. Answers o r (accepted (searched later r))) (sym (keeping_compilable b (length buffer) t kept.1 kept.2)) (
        searched later r,
        refl,
        subst (λ w. Verdict t r (searched w r)) (sym later_words)
            (search_right t kept.1.keeps.well_formed kept.1.classes kept.1.states rest sound_words r),
      );
      words = left;
    }

  pub refused_checked : (r n : ℕ) → (compile b buffer).answer ≡ refused n → Checked b buffer r (refused n) later
  unfolding compile
  refused_checked r n e = record { answer = go (compilable b (length buffer)) e; words = left }
    where
      go : (o : Outcome Table) → (compile_by o buffer).answer ≡ refused n → Answers o r (refused n)
      go (refused m) q = ap refused (sym (refused_same m n q))
      go (accepted t) q = absurd (accepted_not tt n q)
