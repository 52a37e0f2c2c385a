-- T3's second rule is dead, and its first is not, from the table's bytes.
-- None of T3's states has the second rule as its end or go, which is computed; "ab" is an input on which the first is chosen.
use mathlib.Core.Bool.{not, ◌||◌}
use mathlib.Core.Logic.{⊎_elim}
use mathlib.Core.Path.{refl, subst}
use Prim.Native.Nat.{ℕ, suc}
use native.Mathlib.Omega.{arith}
use lib.Dec.{T, T_not, eqb}
use lib.ListN.{length}
use Rattle.lists.specs.Decide.{for_below}
use Rattle.lists.proofs.Laws.Tests.{below, or_left, or_right, eq→eqb}
use Rattle.meaning.specs.Refusal.{Outcome, refused, accepted}
use Rattle.meaning.specs.Table.{Table}
use Rattle.meaning.specs.Reader.{read_table}
use Rattle.meaning.specs.Choices.{choice_of, chosen_in, chosen_at, Live, Dead}
use Rattle.meaning.specs.Samples.{characters, t3}
use Rattle.meaning.proofs.Laws.Opened.{rules_opened}
use Rattle.meaning.proofs.Laws.Shape.{Shaped}
use Rattle.meaning.proofs.Laws.Described.{well_formed_shaped}
use Rattle.meaning.proofs.Laws.Direct.{keeps_read}
use Rattle.automaton.specs.States.{states}
use Rattle.automaton.specs.Automaton.{from_table}
use Rattle.automaton.specs.Witness.{SecondOfT3}
use Rattle.automaton.proofs.Laws.Opened.{machine_opened}
use Rattle.automaton.proofs.Laws.Witness.{none_dead}

-- by a test of each state
untold_dead : (t : Table) → Shaped t → (r : ℕ) →
    T (for_below (length (states t)) (λ s. not (eqb ((from_table t).accept_at_end s) (suc r) || eqb ((from_table t).accept s) (suc r)))) → Dead t r
untold_dead t S r h =
    none_dead t S r (λ s i a.
    let end = eqb ((from_table t).accept_at_end s) (suc r) in
    let go = eqb ((from_table t).accept s) (suc r) in
    T_not (end || go) (below (length (states t)) (λ s. not (eqb ((from_table t).accept_at_end s) (suc r) || eqb ((from_table t).accept s) (suc r))) h s i)
    (⊎_elim (λ e. or_left end go (eq→eqb ((from_table t).accept_at_end s) (suc r) e)) (λ e. or_right end go (eq→eqb ((from_table t).accept s) (suc r) e)) a))

-- of what is read
abbrev Of : Outcome Table → Type 0
Of (refused n) = ⊥
Of (accepted t) = Shaped t → Live t 0 × Dead t 1

of_t3 : Of (read_table t3)
unfolding rules_opened machine_opened choice_of chosen_in chosen_at
of_t3 S = (record { input = characters "ab"; characters = (omega arith, (omega arith, tt)); place = 0; chosen = refl }, untold_dead _ S 1 tt)

pub second_of_t3 : SecondOfT3
unfolding SecondOfT3
second_of_t3 t k = subst Of (keeps_read t3 t k) of_t3 (well_formed_shaped t k.well_formed)
