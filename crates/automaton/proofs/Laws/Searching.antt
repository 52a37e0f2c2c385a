-- What the words of a table hold of its states: a way back from each but the first, and what shows a rule, or that it is dead.
-- The words hold the ends, goes, targets and class starts that the laws of states speak of.
use mathlib.Core.List.{List, [], ◌∷◌, ◌++◌}
use mathlib.Core.Logic.{◌≢◌, ⊎_elim}
use mathlib.Core.Path.{◌≡◌, sym, subst, ◌∙◌}
use Prim.Native.Nat.{ℕ, suc, ◌+◌, ◌≤◌, ◌<◌}
use native.Mathlib.Omega.{arith}
use lib.ListN.{length}
use Rattle.meaning.specs.Table.{Table}
use Rattle.meaning.specs.WellFormed.{WellFormed}
use Rattle.meaning.specs.Block.{at}
use Rattle.meaning.specs.Choices.{Dead, Shows}
use Rattle.meaning.proofs.Laws.Shape.{Shaped}
use Rattle.meaning.proofs.Laws.Described.{well_formed_shaped}
use Rattle.automaton.specs.Classes.{starts}
use Rattle.automaton.specs.States.{states}
use Rattle.automaton.specs.Layout.{words, classes_from}
use Rattle.automaton.specs.Sound.{state_count, class_count, accept_at_end_word, accept_word, target_word}
use Rattle.automaton.specs.Automaton.{from_table}
use Rattle.automaton.proofs.Laws.Places.{layout_states, layout_classes, layout_start, layout_accept_at_end, layout_accept, layout_target}
use Rattle.automaton.proofs.Laws.Parents.{Parent, parent, Onto, Reached, onto_back}
use Rattle.automaton.proofs.Laws.Witness.{end_shows, go_shows, none_dead}

module _ (t : Table) (W : WellFormed t) (narrow : length (starts t) ≤ 64) (few : length (states t) ≤ 256) (rest : List ℕ) where
  abbrev w : List ℕ
  w = words t ++ rest

  shaped : Shaped t
  shaped = well_formed_shaped t W

  inside : (s : ℕ) → s < state_count w → s < length (states t)
  inside s h = subst (λ n. s < n) (layout_states t rest) h

  -- back by a target
  pub words_back : (p c q s : ℕ) (v : List ℕ) → p < state_count w → c < class_count w → target_word w p c ≡ q → q ≢ 0 → Onto t q s v →
      Onto t p s (at w (classes_from + c) ∷ v)
  words_back p c q s v h i f z o =
      let j : c < length (starts t) = subst (λ n. c < n) (layout_classes t rest) i in
      subst (λ x. Onto t p s (x ∷ v)) (sym (layout_start t rest c (omega arith)))
      (onto_back t W p c q s v j (sym (layout_target t rest few p (inside p h) narrow c j) ∙ f) z o)

  -- there is a way back from every state but the first
  pub words_parent : (s : ℕ) → 0 < s → s < state_count w → (p : ℕ) × (c : ℕ) × (p < state_count w) × (c < class_count w) × (target_word w p c ≡ s)
  words_parent s z h =
      let P : Parent t s = parent t s z (inside s h) in (
        P.state,
        P.class,
        subst (λ n. P.state < n) (sym (layout_states t rest)) P.state_there,
        subst (λ n. P.class < n) (sym (layout_classes t rest)) P.class_there,
        layout_target t rest few P.state P.state_there narrow P.class P.class_there ∙ P.leads,
      )

  -- a state's end shows its rule by a word that leads to it, its go by one character more
  pub words_end : (s r : ℕ) (v : List ℕ) → s < state_count w → accept_at_end_word w s ≡ suc r → Reached t s v → Shows t r v
  unfolding from_table
  words_end s r v h f o = end_shows t shaped s v o r (inside s h) (sym (layout_accept_at_end t rest few s (inside s h)) ∙ f)

  pub words_go : (s r x : ℕ) (v : List ℕ) → s < state_count w → accept_word w s ≡ suc r → x < 65536 → Reached t s v → Shows t r (v ++ x ∷ [])
  unfolding from_table
  words_go s r x v h f i o = go_shows t shaped s v o r (inside s h) x i (sym (layout_accept t rest few s (inside s h)) ∙ f)

  -- a rule that no state tells is dead
  pub words_dead : (r : ℕ) → ((s : ℕ) → s < state_count w → (accept_at_end_word w s ≢ suc r) × (accept_word w s ≢ suc r)) → Dead t r
  unfolding from_table
  words_dead r f =
      none_dead t shaped r (λ s h a.
      let n = f s (subst (λ n. s < n) (sym (layout_states t rest)) h) in
      ⊎_elim (λ p. n.0 (layout_accept_at_end t rest few s h ∙ p)) (λ p. n.1 (layout_accept t rest few s h ∙ p)) a)
