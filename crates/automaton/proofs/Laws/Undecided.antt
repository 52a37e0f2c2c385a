-- After a word that leads on to a state whose go is not its end, two ways for the input to go on make different first choices.
-- An end and another go differ before a next character; so does an end without a go, whose rule needs the input's end; with neither, some rule
-- of the state can be completed.
use mathlib.Core.Bool.{Bool, true, false, cond}
use mathlib.Core.List.{List, [], ◌∷◌, ◌++◌, append-nil}
use mathlib.Core.Logic.{◌≢◌}
use Rattle.std.specs.Prelude.{Option, None, Some}
use mathlib.Core.Path.{◌≡◌, refl, sym, ap, subst, ◌∙◌}
use Prim.Native.Nat.{ℕ, zero, suc, ◌<◌}
use native.Mathlib.Decide.{ℕ_discrete}
use native.Mathlib.Omega.{arith}
use lib.Dec.{T}
use lib.ListN.{length, get_or, length-append}
use lib.Seq.{take_all}
use Rattle.lists.specs.Lists.{up_to}
use Rattle.lists.proofs.Laws.Each.{each_get_d}
use Rattle.lists.proofs.Laws.Sets.{filter_some, each_up_to}
use Rattle.meaning.specs.Table.{Characters, Mode, Absent, Single, Paired, Table, mode, every_character, rule_at, longest}
use Rattle.meaning.specs.WellFormed.{WellFormedRule, WellFormed}
use Rattle.meaning.specs.Value.{fits_word}
use Rattle.meaning.specs.Meaning.{starts_pair, best}
use Rattle.meaning.specs.Choices.{the_rule, the_default, the_pair, chosen_at, Undecided}
use Rattle.meaning.proofs.Laws.Shape.{Shaped}
use Rattle.meaning.proofs.Laws.Groups.{rule_shaped}
use Rattle.meaning.proofs.Laws.Prefix.{fits_prefix, fits_word_length}
use Rattle.meaning.proofs.Laws.Completing.{Completed, complete}
use Rattle.meaning.proofs.Laws.Described.{well_formed_shaped}
use Rattle.meaning.proofs.Laws.Choice.{Chosen, best_chosen}
use Rattle.meaning.proofs.Laws.Choices.{fallen, choice_by}
use Rattle.automaton.specs.Classes.{starts}
use Rattle.automaton.specs.States.{State, initial, inhabited, states, target_of}
use Rattle.automaton.specs.Automaton.{Automaton, after, Leads, from_table}
use Rattle.automaton.proofs.Laws.Good.{after_inside, state_at, Least, Done, Free}
use Rattle.automaton.proofs.Laws.States.{state_after_lem, table_good, table_reads}
use Rattle.automaton.proofs.Laws.Fitting.{end_none, free_of}
use Rattle.automaton.proofs.Laws.Levels.{target_found, numbered}
use Rattle.automaton.proofs.Laws.Reached.{target_inhabited}
use Rattle.automaton.proofs.Laws.Parents.{Parent, parent, Reached, onto_length}
use Rattle.automaton.proofs.Laws.Witness.{at_first, short_of, end_first, go_first}

-- choices that differ

rule_same : (i k : ℕ) → the_rule i ≡ the_rule k → i ≡ k
rule_same i k e = cc

no_rule : (t : Table) (u : List ℕ) (k : ℕ) → choice_by t u None ≡ the_rule k → ⊥
no_rule t u k = go (mode t)
  where
    pick : (b : Bool) → cond b the_pair the_default ≡ the_rule k → ⊥
    pick true e = let z : ◌≡◌ {A = ℕ} 0 1 = cc in omega arith
    pick false e = let z : ◌≡◌ {A = ℕ} 0 1 = cc in omega arith

    go : (m : Mode) → fallen m u ≡ the_rule k → ⊥
    go Absent e = let z : ◌≡◌ {A = ℕ} 0 1 = cc in omega arith
    go Single e = pick false e
    go Paired e = pick (starts_pair u) e

-- a word that leads on fits some rule so far

state_inhabited : (t : Table) (s : ℕ) → 0 < s → s < length (states t) → T (inhabited (state_at t s))
state_inhabited t s z h =
    let P : Parent t s = parent t s z h in
    let q : State = state_at t P.state in
    let c : ℕ = get_or (starts t) P.class 0 in
    let n : target_of t (states t) q c ≢ 0 = λ e. let y : s ≡ 0 = sym P.leads ∙ e in omega arith in
    subst (λ p. T (inhabited p)) (sym (target_found t (states t) q c (initial t) n).1 ∙ ap (state_at t) P.leads) (target_inhabited t (states t) q c n)

leads_fits : (t : Table) → Shaped t → (w : List ℕ) → 0 < length w → Characters w → Leads (from_table t) 0 w →
    (r : ℕ) × (r < length t.rules) × T (fits_prefix (rule_at t r).ranges w)
unfolding initial
leads_fits t S w z c l =
    let q : ℕ = after (from_table t) 0 w in
    let d : length w ≡ (state_at t q).depth = onto_length t S q w (record { characters = c; leads = l; there = refl }) in
    let i : q < length (states t) = after_inside (from_table t) (longest t) (length (states t)) (table_good t S) 0 w (numbered t).some_state in
    let k : 0 < q = elim (ℕ_discrete q 0) [
      | yes p ↦ let y : (state_at t q).depth ≡ 0 = ap (λ s. (state_at t s).depth) p ∙ ap (λ (p : State). p.depth) (numbered t).first in absurd (omega arith)
      | no p ↦ omega arith
    ] in
    filter_some (λ r. r < length t.rules) (λ r. fits_prefix (rule_at t r).ranges w) (up_to (length t.rules)) (each_up_to (length t.rules))
    (subst (λ p. T (inhabited p)) (state_after_lem t S w c l) (state_inhabited t q k i))

module _ (t : Table) (W : WellFormed t) where
  abbrev S : Shaped t
  S = well_formed_shaped t W

  abbrev A : Automaton
  A = from_table t

  -- the choice among the rules at the first place
  abbrev chosen_rule : List ℕ → Option ℕ
  chosen_rule z = best t (length t.rules) z

  is_chosen : (z : List ℕ) → Chosen t (length t.rules) z (chosen_rule z)
  is_chosen z = best_chosen t (length t.rules) z

  first_is : (z : List ℕ) → 0 < length z → chosen_at t z 0 ≡ Some (choice_by t z (chosen_rule z))
  first_is z h = at_first t S z (chosen_rule z) h (is_chosen z)

  -- The word h is held, in state q.
  module _ (h : List ℕ) (some-held : 0 < length h) (c : Characters h) (l : Leads A 0 h) where
    abbrev q : ℕ
    q = after A 0 h

    there : Reached t q h
    there = record { characters = c; leads = l; there = refl }

    longer : (v : List ℕ) → 0 < length (h ++ v)
    longer v = omega (arith, length-append h v)

    free_is : Least (Free t h) (A.accept q)
    free_is = (table_reads t S).accept_is h c l

    done_is : Least (Done t h) (A.accept_at_end q)
    done_is = (table_reads t S).end_is h c l

    -- an end and another go
    both_set : (e g : ℕ) → A.accept_at_end q ≡ suc e → A.accept q ≡ suc g → e ≢ g → Undecided t h 0
    both_set e g pe pg n = record {
      one = [];
      other = 0 ∷ [];
      one_characters = tt;
      other_characters = (omega arith, tt);
      one_choice = the_rule e;
      other_choice = the_rule g;
      one_chosen = rw (append-nil h) (end_first t S q h there e pe);
      other_chosen = go_first t S q h there g 0 (omega arith) pg;
      differ = λ z. n (rule_same e g z);
    }

    -- an end and no go: the rule must be at the input's end
    end_only : (e : ℕ) → A.accept_at_end q ≡ suc e → A.accept q ≡ 0 → Undecided t h 0
    end_only e pe pg = record {
      one = [];
      other = 0 ∷ [];
      one_characters = tt;
      other_characters = (omega arith, tt);
      one_choice = the_rule e;
      other_choice = choice_by t (h ++ 0 ∷ []) (chosen_rule (h ++ 0 ∷ []));
      one_chosen = rw (append-nil h) (end_first t S q h there e pe);
      other_chosen = first_is (h ++ 0 ∷ []) (longer (0 ∷ []));
      differ = go (chosen_rule (h ++ 0 ∷ [])) (is_chosen (h ++ 0 ∷ []));
    }
      where
        size : (rule_at t e).size ≡ length h
        size = (subst (Least (Done t h)) pe done_is).0.size

        go : (o : Option ℕ) → Chosen t (length t.rules) (h ++ 0 ∷ []) o → the_rule e ≢ choice_by t (h ++ 0 ∷ []) o
        go None k z = no_rule t (h ++ 0 ∷ []) e (sym z)
        go (Some i) k z =
            let p : e ≡ i = rule_same e i z in
            subst (Least (Free t h)) pg free_is i (free_of t S h 0 [] i k.0 (ap (λ j. (rule_at t j).size) (sym p) ∙ size) k.1)

    -- neither: a rule that fits so far can be completed
    neither : A.accept_at_end q ≡ 0 → A.accept q ≡ 0 → Undecided t h 0
    neither pe pg =
        let f = leads_fits t S h some-held c l in
        let r = f.0 in
        let k : Completed (rule_at t r).ranges h =
        complete (rule_at t r).ranges h (each_get_d WellFormedRule t.rules r (every_character []) W.rules f.1).positions f.2 in
        record {
          one = [];
          other = k.more;
          one_characters = tt;
          other_characters = k.characters;
          one_choice = choice_by t h (chosen_rule h);
          other_choice = choice_by t (h ++ k.more) (chosen_rule (h ++ k.more));
          one_chosen = rw (append-nil h) (first_is h some-held);
          other_chosen = first_is (h ++ k.more) (longer k.more);
          differ = go r f.1 k.more k.fits (chosen_rule h) (is_chosen h) (chosen_rule (h ++ k.more)) (is_chosen (h ++ k.more));
        }
      where
        none_at_end : Chosen t (length t.rules) h None
        none_at_end =
            subst (λ z. Chosen t (length t.rules) z None) (append-nil h)
            (end_none t S h (subst (Least (Done t h)) pe done_is) (short_of t S q h [] there tt))

        go : (r : ℕ) → r < length t.rules → (v : List ℕ) → T (fits_word (rule_at t r).ranges (h ++ v)) →
            (o : Option ℕ) → Chosen t (length t.rules) h o → (o' : Option ℕ) → Chosen t (length t.rules) (h ++ v) o' → choice_by t h o ≢ choice_by t (h ++ v) o'
        go r i v f (Some j) k o' k' z = none_at_end j k.0 k.1
        go r i v f None k (Some j) k' z = no_rule t h j z
        go r i v f None k None k' z =
            let n : length (rule_at t r).ranges ≡ (rule_at t r).size = (rule_shaped t S r i).places in
            let m : length (rule_at t r).ranges ≡ length (h ++ v) = fits_word_length (rule_at t r).ranges (h ++ v) f in
            k' r i (record { match = rw (take_all (rule_at t r).size (h ++ v) (omega arith)) f; at-end = λ _. omega arith })

    -- TWO WAYS ON FROM A STATE WHOSE GO IS NOT ITS END.
    pub two_ways : ((r : ℕ) → A.accept q ≡ suc r → A.accept_at_end q ≡ suc r → ⊥) → Undecided t h 0
    two_ways n = go (A.accept q) (A.accept_at_end q) refl refl
      where
        go : (g e : ℕ) → A.accept q ≡ g → A.accept_at_end q ≡ e → Undecided t h 0
        go zero zero pg pe = neither pe pg
        go zero (suc e) pg pe = end_only e pe pg
        go (suc g) zero pg pe = absurd (subst (Least (Done t h)) pe done_is g (subst (Least (Free t h)) pg free_is).0.done)
        go (suc g) (suc e) pg pe = both_set e g pe pg (λ p. n g pg (pe ∙ ap suc p))
