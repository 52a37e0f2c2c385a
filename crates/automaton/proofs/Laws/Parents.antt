-- Every state but the first is the target of a class of some state; and by a class back from a state, a word that leads on from it grows.
-- A state is met first as such a target; a class start is the start of its own class, so it leads where the class does.
use mathlib.Core.List.{List, [], ◌∷◌, ◌++◌}
use mathlib.Core.Logic.{◌≢◌}
use Rattle.std.specs.Prelude.{Option, None, Some}
use mathlib.Core.Path.{◌≡◌, refl, sym, ap, subst, ◌∙◌}
use Prim.Native.Nat.{ℕ, zero, suc, ◌+◌, ◌≤◌, ◌<◌}
use native.Mathlib.Decide.{ℕ_discrete}
use native.Mathlib.Omega.{arith}
use lib.Dec.{T}
use lib.ListN.{length, get_or, length-append}
use Rattle.lists.specs.Lists.{find_from}
use Rattle.lists.proofs.Laws.Tests.{split}
use Rattle.lists.proofs.Laws.Each.{each_get_d}
use Rattle.meaning.specs.Table.{Characters, Table}
use Rattle.meaning.specs.WellFormed.{WellFormed}
use Rattle.meaning.proofs.Laws.Shape.{Shaped}
use Rattle.automaton.specs.Classes.{starts}
use Rattle.automaton.specs.States.{State, same_state, inhabited, states, target_of}
use Rattle.automaton.specs.Automaton.{after, Leads, from_table}
use Rattle.automaton.specs.bridge.Noted.{reached_at}
use Rattle.automaton.proofs.Laws.Good.{state_at}
use Rattle.automaton.proofs.Laws.Classes.{start_own}
use Rattle.automaton.proofs.Laws.Exploring.{met_at, target_at, reached_start, reached_row, reached_end, met_none, met_there, met_new}
use Rattle.automaton.proofs.Laws.States.{state_after_lem}
use Rattle.automaton.proofs.Laws.Reached.{Small, starts_small}

-- class k of state p leads to state s
pub record Parent (t : Table) (s : ℕ) : Type 0 where
  pub state : ℕ
  pub class : ℕ
  pub state_there : state < length (states t)
  pub class_there : class < length (starts t)
  pub leads : target_at t state class ≡ s

module _ (t : Table) where
  -- each state of a list on the way but the first has a parent
  abbrev Parented : List State → Type 0
  Parented qs = (i : ℕ) → 0 < i → i < length qs → Parent t i

  row_parented : (s : ℕ) → s < length (states t) → Parented (reached_at t s 0) → (k : ℕ) → k ≤ length (starts t) → Parented (reached_at t s k)
  row_parented s h f zero j = f
  row_parented s h f (suc k) j =
      let before = row_parented s h f k (omega arith) in
      split (inhabited (met_at t s k))
      (λ i. met i before (find_from 0 (same_state (met_at t s k)) (reached_at t s k)) refl)
      (λ n. subst Parented (sym (met_none t s h k j n).0) before)
    where
      met : T (inhabited (met_at t s k)) → Parented (reached_at t s k) → (o : Option ℕ) → find_from 0 (same_state (met_at t s k)) (reached_at t s k) ≡ o →
          Parented (reached_at t s (suc k))
      met i f (Some n) e = subst Parented (sym (met_there t s h k j n i e).0) f
      met i f None e =
          subst Parented (sym (met_new t s h k j i e).0) (λ m z l.
          let len : length (reached_at t s k ++ met_at t s k ∷ []) ≡ length (reached_at t s k) + 1 = length-append (reached_at t s k) (met_at t s k ∷ []) in
          elim (ℕ_discrete m (length (reached_at t s k))) [
            | yes p ↦ record { state = s; class = k; state_there = h; class_there = j; leads = (met_new t s h k j i e).1 ∙ sym p }
            | no p ↦ f m z (omega arith)
          ])

  rows_parented : (s : ℕ) → s ≤ length (states t) → Parented (reached_at t s 0)
  rows_parented zero h = subst Parented (sym (reached_start t)) (λ i z l. absurd (omega arith))
  rows_parented (suc s) h =
      subst Parented (sym (reached_row t s)) (row_parented s h (rows_parented s (omega arith)) (length (starts t)) (omega arith))

  -- EVERY STATE BUT THE FIRST IS THE TARGET OF A CLASS OF SOME STATE.
  pub parent : (s : ℕ) → 0 < s → s < length (states t) → Parent t s
  parent s z h = subst Parented (reached_end t) (rows_parented (length (states t)) (omega arith)) s z h

-- a word leads from state p to state s
pub record Onto (t : Table) (p s : ℕ) (w : List ℕ) : Type 0 where
  pub characters : Characters w
  pub leads : Leads (from_table t) p w
  pub there : after (from_table t) p w ≡ s

abbrev pub Reached : Table → ℕ → List ℕ → Type 0
Reached t s w = Onto t 0 s w

pub onto_here : (t : Table) (s : ℕ) → Onto t s s []
unfolding after
onto_here t s = record { characters = tt; leads = tt; there = refl }

-- one class back
pub onto_back : (t : Table) → WellFormed t → (p k q s : ℕ) (w : List ℕ) → k < length (starts t) → target_at t p k ≡ q → q ≢ 0 → Onto t q s w →
    Onto t p s (get_or (starts t) k 0 ∷ w)
unfolding from_table after
onto_back t W p k q s w i e z h =
    let x : ℕ = get_or (starts t) k 0 in
    let to : (from_table t).target p x ≡ q = ap (target_of t (states t) (state_at t p)) (start_own t k i) ∙ e in
    record {
      characters = (each_get_d Small (starts t) k 0 (starts_small t W) i, h.characters);
      leads = (λ n. z (sym to ∙ n), subst (λ q. Leads (from_table t) q w) (sym to) h.leads);
      there = ap (λ q. after (from_table t) q w) to ∙ h.there;
    }

-- a word that leads to a state is as long as the state is deep
pub onto_length : (t : Table) → Shaped t → (s : ℕ) (w : List ℕ) → Reached t s w → length w ≡ (state_at t s).depth
onto_length t S s w h =
    ap (λ (q : State). q.depth) (sym (state_after_lem t S w h.characters h.leads) ∙ ap (state_at t) h.there)
