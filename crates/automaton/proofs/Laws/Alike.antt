-- Automata that do the same along words, by a relation between their states; such are the one read from a table's words and the table's own.
-- Every word that the first reads is the number that the other computes, and the classes are the same, so that states have the same numbers.
use mathlib.Core.List.{List, [], ◌∷◌, ◌++◌}
use mathlib.Core.Logic.{◌≢◌}
use mathlib.Core.Path.{◌≡◌, refl, sym, ap, subst, ◌∙◌}
use Prim.Native.Nat.{ℕ, ◌≤◌, ◌<◌}
use lib.ListN.{length}
use Rattle.lists.proofs.Laws.Each.{each_append}
use Rattle.meaning.specs.Table.{Characters, Mode, Absent, Single, Paired, Table, mode}
use Rattle.automaton.specs.Classes.{starts, class_of}
use Rattle.automaton.specs.States.{states}
use Rattle.automaton.specs.Layout.{mode_word, words}
use Rattle.automaton.specs.Sound.{word_mode, target_word}
use Rattle.automaton.specs.Automaton.{Automaton, from_table, from_words, after, Leads}
use Rattle.automaton.proofs.Laws.Good.{after_snoc, leads_snoc, Good, Agreeing, Alike, Bisimulation, SameNumbers}
use Rattle.automaton.proofs.Laws.Classes.{classed}
use Rattle.automaton.proofs.Laws.Places.{layout_starts, layout_accept, layout_accept_at_end, layout_target, layout_default}

-- a bisimulation holds along every word
module _ (A B : Automaton) (R : ℕ → ℕ → Type 0) (S : Bisimulation A B R) where
  bisimulates : (p q : ℕ) (u : List ℕ) → R p q → Characters u → Leads A p u → Leads B q u × Agreeing A B (after A p u) (after B q u)
  unfolding after
  bisimulates p q [] r c l = (tt, S.same p q r)
  bisimulates p q (x ∷ u) r c l =
      let next = bisimulates (A.target p x) (B.target q x) u (S.onward p q x r c.0 l.0) c.1 l.1 in
      ((((S.same p q r).takes x c.0).0 l.0, next.0), next.1)

  pub bisimulation_alike : A.default ≡ B.default → Alike A B
  bisimulation_alike d = record { along = λ u c l. bisimulates 0 0 u S.first c l; defaults = d }

-- and automata that are alike are so by what they reach
pub record Reached (A B : Automaton) (p q : ℕ) : Type 0 where
  pub word : List ℕ
  pub characters : Characters word
  pub leads : Leads A 0 word
  pub ours : p ≡ after A 0 word
  pub theirs : q ≡ after B 0 word

pub alike_bisimulation : (A B : Automaton) → Alike A B → Bisimulation A B (Reached A B)
unfolding after
alike_bisimulation A B S = record {
  first = record { word = []; characters = tt; leads = tt; ours = refl; theirs = refl };
  same = λ p q r. rw (r.ours, r.theirs) (S.along r.word r.characters r.leads).1;
  onward = λ p q x r h k. record {
    word = r.word ++ x ∷ [];
    characters = each_append (λ c. c < 65536) r.word (x ∷ []) r.characters (h, tt);
    leads = leads_snoc A 0 r.word x r.leads (subst (λ z. A.target z x ≢ 0) r.ours k);
    ours = ap (λ z. A.target z x) r.ours ∙ sym (after_snoc A 0 r.word x);
    theirs = ap (λ z. B.target z x) r.theirs ∙ sym (after_snoc B 0 r.word x);
  };
}

-- automata that do the same by the same numbers are alike, and reach the same numbers
module _ (A B : Automaton) (L n : ℕ) (G : Good A L n) (S : SameNumbers A B n) where
  pub numbers_alike : Alike A B
  numbers_alike =
      bisimulation_alike A B (λ p q. (p < n) × (p ≡ q)) (record {
        first = (G.some_state, refl);
        same = λ p q r. subst (λ z. Agreeing A B p z) r.1 (record {
          go = S.accepts p r.0;
          end = S.ends p r.0;
          takes = λ x h. (λ k e. k (S.targets p x r.0 h ∙ e), λ k e. k (sym (S.targets p x r.0 h) ∙ e));
        });
        onward = λ p q x r h k. (G.inside p x r.0, S.targets p x r.0 h ∙ ap (λ z. B.target z x) r.1);
      }) S.defaults

  pub numbers_after : (q : ℕ) (u : List ℕ) → q < n → Characters u → after A q u ≡ after B q u
  unfolding after
  numbers_after q [] h c = refl
  numbers_after q (x ∷ u) h c =
      numbers_after (A.target q x) u (G.inside q x h) c.1 ∙ ap (λ z. after B z u) (S.targets q x h c.0)

pub mode_read : (m : Mode) → word_mode (mode_word m) ≡ m
mode_read Absent = refl
mode_read Single = refl
mode_read Paired = refl

-- a table's words
pub words_numbers : (t : Table) (rest : List ℕ) → length (starts t) ≤ 64 → length (states t) ≤ 256 →
    SameNumbers (from_table t) (from_words (words t ++ rest)) (length (states t))
unfolding from_table from_words
words_numbers t rest narrow few =
    let w = words t ++ rest in
    record {
      targets = λ q x b c.
          sym (
          ap (λ ss. target_word w q (class_of ss x)) (layout_starts t rest narrow)
          ∙ layout_target t rest few q b narrow (class_of (starts t) x) ((classed t).class_below x));
      accepts = λ q b. sym (layout_accept t rest few q b);
      ends = λ q b. sym (layout_accept_at_end t rest few q b);
      defaults = sym (ap word_mode (layout_default t rest) ∙ mode_read (mode t));
    }
