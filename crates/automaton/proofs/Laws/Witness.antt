-- A rule is chosen somewhere exactly when it is some state's end or go, and the word of such a state shows it.
-- No rule that fits is shorter than a word that leads on, so the state after the word tells the choice; and every choice is told so.
use mathlib.Core.List.{List, [], ◌∷◌, ◌++◌, append-nil}
use mathlib.Core.Logic.{◌⊎◌}
use Rattle.std.specs.Prelude.{Option, Some}
use mathlib.Core.Path.{◌≡◌, ap, subst, ◌∙◌}
use Prim.Native.Nat.{ℕ, suc, ◌+◌, ◌≤◌, ◌<◌}
use native.Mathlib.Omega.{arith}
use lib.ListN.{length, length-append}
use Rattle.lists.proofs.Laws.Each.{each_append}
use Rattle.meaning.specs.Table.{Characters, Table, longest}
use Rattle.meaning.specs.Choices.{the_rule, chosen_at, Dead, Shows}
use Rattle.meaning.proofs.Laws.Shape.{Shaped}
use Rattle.meaning.proofs.Laws.Groups.{longest_small}
use Rattle.meaning.proofs.Laws.Choice.{Chosen}
use Rattle.meaning.proofs.Laws.Choices.{choice_by, first_choice, live_chosen}
use Rattle.automaton.specs.States.{states}
use Rattle.automaton.specs.Automaton.{Automaton, from_table}
use Rattle.automaton.proofs.Laws.Good.{after, Good, Least, Done, Free, state_at}
use Rattle.automaton.proofs.Laws.Levels.{numbered}
use Rattle.automaton.proofs.Laws.States.{table_good, table_reads}
use Rattle.automaton.proofs.Laws.Fitting.{NoShorter, end_chosen, free_chosen, short_along, told_by}
use Rattle.automaton.proofs.Laws.Parents.{Reached, onto_length}

-- the choice at the first place, by the rules that fit
pub at_first : (t : Table) → Shaped t → (z : List ℕ) (o : Option ℕ) → 0 < length z → Chosen t (length t.rules) z o → chosen_at t z 0 ≡ Some (choice_by t z o)
at_first t S [] o h c = absurd (omega arith)
at_first t S (x ∷ u) o h c = first_choice t S x u o c

module _ (t : Table) (S : Shaped t) where
  abbrev A : Automaton
  A = from_table t

  abbrev good : Good A (longest t) (length (states t))
  good = table_good t S

  pub short_of : (s : ℕ) (w u : List ℕ) → Reached t s w → Characters u → NoShorter t (w ++ u) w
  short_of s w u R c = short_along A (longest t) (length (states t)) good t S (table_reads t S) w u (each_append (λ x. x < 65536) w u R.characters c) R.leads

  module _ (s : ℕ) (w : List ℕ) (R : Reached t s w) (r : ℕ) where
    -- a state with an end is not the first
    pub end_some : A.accept_at_end s ≡ suc r → 0 < length w
    unfolding after
    end_some e = go w R.there
      where
        go : (w : List ℕ) → after A 0 w ≡ s → 0 < length w
        go [] p = let y : A.accept_at_end 0 ≡ suc r = ap (λ q. A.accept_at_end q) p ∙ e in let z : A.accept_at_end 0 ≡ 0 = good.end_0 in absurd (omega arith)
        go (x ∷ w) p = omega arith

    -- where the input ends there, the state's end is the first choice
    pub end_first : A.accept_at_end s ≡ suc r → chosen_at t w 0 ≡ Some (the_rule r)
    end_first e =
        at_first t S w (Some r) (end_some e)
        (subst (λ z. Chosen t (length t.rules) z (Some r)) (append-nil w)
        (end_chosen t S w r (subst (Least (Done t w)) (ap (λ q. A.accept_at_end q) R.there ∙ e) ((table_reads t S).end_is w R.characters R.leads)) (short_of s w [] R tt)))

    -- where a character follows, its go is
    pub go_first : (x : ℕ) → x < 65536 → A.accept s ≡ suc r → chosen_at t (w ++ x ∷ []) 0 ≡ Some (the_rule r)
    go_first x h e =
        let len : length (w ++ x ∷ []) ≡ length w + 1 = length-append w (x ∷ []) in
        at_first t S (w ++ x ∷ []) (Some r) (omega arith)
        (free_chosen t S w x [] r (subst (Least (Free t w)) (ap (λ q. A.accept q) R.there ∙ e) ((table_reads t S).accept_is w R.characters R.leads))
        (short_of s w (x ∷ []) R (h, tt)))

    few_characters : s < length (states t) → length w ≤ 8
    few_characters h =
        let l : length w ≡ (state_at t s).depth = onto_length t S s w R in
        let d : (state_at t s).depth ≤ longest t = (numbered t).depths s h in
        let k : longest t ≤ 8 = longest_small t S in
        omega arith

    pub end_shows : s < length (states t) → A.accept_at_end s ≡ suc r → Shows t r w
    end_shows h e = record {
      some_character = end_some e;
      few = let l = few_characters h in omega arith;
      characters = R.characters;
      first = end_first e;
    }

    pub go_shows : s < length (states t) → (x : ℕ) → x < 65536 → A.accept s ≡ suc r → Shows t r (w ++ x ∷ [])
    go_shows h x i e =
        let len : length (w ++ x ∷ []) ≡ length w + 1 = length-append w (x ∷ []) in
        record {
          some_character = omega arith;
          few = let l = few_characters h in omega arith;
          characters = each_append (λ c. c < 65536) w (x ∷ []) R.characters (i, tt);
          first = go_first x i e;
        }

  -- NO STATE, NO INPUT.
  pub none_dead : (r : ℕ) → ((s : ℕ) → s < length (states t) → (A.accept_at_end s ≡ suc r) ⊎ (A.accept s ≡ suc r) → ⊥) → Dead t r
  none_dead r f l =
      let c = live_chosen t r l in
      let a = told_by A (longest t) (length (states t)) good t S (table_reads t S) r c.0 c.1 c.2 in
      f a.0 a.1 a.2
