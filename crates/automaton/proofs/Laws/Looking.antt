-- A state looked for among those that the words and the sets hold: its number in their list, and what that says.
-- The number is that of the first state that is like it, or the count where none is; equal sets are equal numbers.
use mathlib.Core.Bool.{Bool, true, false, ◌&&◌}
use mathlib.Core.List.{List, [], ◌∷◌}
use mathlib.Core.Logic.{◌≢◌}
use Rattle.std.specs.Prelude.{Option, None, Some}
use mathlib.Core.Path.{◌≡◌, refl, sym, ap, subst, ◌∙◌}
use Prim.Native.Nat.{ℕ, zero, suc, ◌+◌, ◌-◌, ◌^◌, ◌≤◌, ◌<◌}
use native.Mathlib.Decide.{ℕ_discrete, dec_lt}
use native.Mathlib.Numerals.{add-one}
use native.Mathlib.Omega.{arith}
use borrow.Author.Tests.{eq-eqb, ne_eqb}
use lib.Dec.{eqb}
use lib.ListN.{length}
use Rattle.lists.specs.Lists.{find_from, tab_from, or_else}
use Rattle.lists.proofs.Laws.Tests.{either}
use Rattle.lists.proofs.Laws.Sets.{length_tab, tab_next, tab_end, tab_start}
use Rattle.meaning.specs.Block.{at}
use Rattle.automaton.specs.States.{State, same_state}
use Rattle.automaton.specs.Sound.{depth_word}
use Rattle.automaton.specs.bridge.Build.{state_of, number_in, states_at}
use Rattle.automaton.proofs.Laws.Sets.{same_set}

-- state i is not the one looked for
abbrev Unlike : List ℕ → List ℕ → ℕ → ℕ → ℕ → Type 0
Unlike w sets depth x i = at sets i ≡ x → depth_word w i ≡ depth → ⊥

-- none of those from i on is
abbrev pub Passed : List ℕ → List ℕ → ℕ → ℕ → ℕ → ℕ → Type 0
Passed w sets count depth x i = (j : ℕ) → i ≤ j → j < count → Unlike w sets depth x j

pub passed_down : (w sets : List ℕ) (count depth x i : ℕ) → Passed w sets count depth x i → Unlike w sets depth x (i - 1) → Passed w sets count depth x (i - 1)
passed_down w sets count depth x i g u j h l =
    elim (dec_lt j i) [ yes p ↦ let e : i - 1 ≡ j = omega arith in subst (Unlike w sets depth x) e u | no p ↦ g j (omega arith) l ]

-- a state looked for among those that the words and the sets hold
module _ (w sets : List ℕ) (count depth x n : ℕ) (f : (j : ℕ) → j < count → at sets j < 2 ^ n) (h : x < 2 ^ n) where
  abbrev among : ℕ → State
  among i = state_of n (depth_word w i) (at sets i)

  abbrev number : ℕ
  number = number_in (state_of n depth x) (states_at w sets n count)

  -- its number is that found from state i on
  abbrev Looked : ℕ → Type 0
  Looked i = number ≡ or_else count (find_from i (same_state (state_of n depth x)) (tab_from i (count - i) among))

  looked_start : Looked 0
  unfolding number_in states_at
  looked_start =
      ap (λ l. or_else l (find_from 0 (same_state (state_of n depth x)) (tab_from 0 count among))) (length_tab among 0 count)
      ∙ ap (λ qs. or_else count (find_from 0 (same_state (state_of n depth x)) qs)) (tab_start among count)

  -- the test of state i decides
  looked_at : (i : ℕ) (b : Bool) → Looked i → i < count → (eqb depth (depth_word w i) && eqb x (at sets i)) ≡ b →
      number ≡ or_else count (elim b [ true ↦ Some i | false ↦ find_from (suc i) (same_state (state_of n depth x)) (tab_from (i + 1) (count - (i + 1)) among) ])
  looked_at i b l k e =
      l
      ∙ ap (λ qs. or_else count (find_from i (same_state (state_of n depth x)) qs)) (tab_next among count i k)
      ∙ ap (λ c. or_else count (elim c [ true ↦ Some i | false ↦ find_from (suc i) (same_state (state_of n depth x)) (tab_from (i + 1) (count - (i + 1)) among) ]))
      (same_set n depth (depth_word w i) x (at sets i) h (f i k) ∙ e)

  looked_from : (i : ℕ) → i ≤ count → ((j : ℕ) → j < i → Unlike w sets depth x j) → Looked i
  looked_from zero k g = looked_start
  looked_from (suc i) k g =
      looked_at i false (looked_from i (omega arith) (λ j l. g j (omega arith))) k test
      ∙ ap (λ j. or_else count (find_from (suc i) (same_state (state_of n depth x)) (tab_from j (count - j) among))) (add-one i)
    where
      test : (eqb depth (depth_word w i) && eqb x (at sets i)) ≡ false
      test =
          elim (ℕ_discrete depth (depth_word w i)) [
            | yes p ↦ rw (eq-eqb depth (depth_word w i) p) (ne_eqb x (at sets i) (λ q. g i (omega arith) (sym q) (sym p)))
            | no p ↦ rw (ne_eqb depth (depth_word w i) p)
          ]

  pub looked_found : (i : ℕ) → i < count → ((j : ℕ) → j < i → Unlike w sets depth x j) → at sets i ≡ x → depth_word w i ≡ depth → number ≡ i
  looked_found i k g p q =
      looked_at i true (looked_from i (omega arith) g) k (rw (eq-eqb depth (depth_word w i) (sym q), eq-eqb x (at sets i) (sym p)))

  pub looked_none : ((j : ℕ) → j < count → Unlike w sets depth x j) → number ≡ count
  looked_none g =
      looked_from count (omega arith) g
      ∙ ap (λ qs. or_else count (find_from count (same_state (state_of n depth x)) qs)) (tab_end among count count (omega arith))

-- a number found is that of an element

find_below : {A : Type 0} (p : A → Bool) (i n : ℕ) (xs : List A) → find_from i p xs ≡ Some n → n < i + length xs
find_below p i n [] = λ e. let z : ◌≡◌ {A = ℕ} 0 1 = cc in omega arith
find_below p i n (x ∷ xs) =
    either (λ b. elim b [ true ↦ Some i | false ↦ find_from (suc i) p xs ] ≡ Some n → n < i + suc (length xs)) (p x)
    (λ _ e. let z : i ≡ n = cc in omega arith)
    (λ _ e. let z : n < suc i + length xs = find_below p (suc i) n xs e in omega arith)

module _ (q : State) (qs : List State) where
  pub found_some : number_in q qs ≢ length qs → find_from 0 (same_state q) qs ≡ Some (number_in q qs)
  unfolding number_in
  found_some h = by (find_from 0 (same_state q) qs) h
    where
      by : (o : Option ℕ) → or_else (length qs) o ≢ length qs → o ≡ Some (or_else (length qs) o)
      by None g = absurd (g refl)
      by (Some n) g = refl

  pub found_none : number_in q qs ≡ length qs → find_from 0 (same_state q) qs ≡ None
  unfolding number_in
  found_none h = by (find_from 0 (same_state q) qs) refl h
    where
      by : (o : Option ℕ) → find_from 0 (same_state q) qs ≡ o → or_else (length qs) o ≡ length qs → o ≡ None
      by None e g = refl
      by (Some n) e g = let z : n < 0 + length qs = find_below (same_state q) 0 n qs e in absurd (omega arith)
