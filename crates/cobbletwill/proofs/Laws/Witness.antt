-- Request [6] as C sees it: the numbers tell what the check came to, and what holds of every check holds of them.
-- No refusal has the number of another answer; the input's length is told before its places.
use mathlib.Core.List.{List, [], ◌∷◌}
use mathlib.Core.Logic.{◌≢◌}
use Rattle.std.specs.Prelude.{Option, None, Some, Result, Ok, Err}
use mathlib.Core.Path.{◌≡◌, refl, sym, ap, subst, ◌∙◌}
use Prim.Native.Nat.{ℕ, ◌≤◌}
use native.Mathlib.Omega.{arith}
use lib.Dec.{T, eqb}
use lib.ListN.{length, replicate, take, drop}
use Rattle.lists.specs.Lists.{any, pad}
use Rattle.lists.proofs.Laws.Tests.{or_right}
use Rattle.lists.proofs.Laws.Parts.{take_pad}
use Rattle.meaning.specs.Refusal.{Outcome, refused, accepted, RefusedBy}
use Rattle.meaning.specs.Table.{Table}
use Rattle.meaning.specs.Block.{at}
use Rattle.meaning.specs.Choices.{Shows}
use Rattle.automaton.specs.Witness.{Exact, RuleChecked, RulesChecked}
use Rattle.automaton.proofs.Laws.Compile.{compile_answers}
use Rattle.automaton.proofs.Laws.Judging.{rules_checked}
use Rattle.rules.specs.Answers.{number_of, outcome_of}
use Rattle.rules.specs.declared.refusal.Refusal.{Refusal}
use Rattle.witness.specs.Judged.{judged}
use Rattle.witness.specs.declared.check.Input.{Input}
use Rattle.cobbletwill.specs.Witness.{witness_code, input_after, Witnessed, WitnessAnswers, WitnessTells, WitnessesTell}

checked_as : RulesChecked → (b buffer : List ℕ) (r : ℕ) (found : List ℕ) (answer : ℕ) (later input : List ℕ) (w : Witnessed b buffer r found answer later input) →
    RuleChecked b buffer r w.outcome
unfolding RulesChecked
checked_as h b buffer r found answer later input w = h b buffer r w.outcome later w.checked

module _ (b buffer : List ℕ) (r : ℕ) (found : List ℕ) (answer : ℕ) (later input : List ℕ) (w : Witnessed b buffer r found answer later input) where
  checks : RuleChecked b buffer r w.outcome
  checks = checked_as rules_checked b buffer r found answer later input w

  -- compiling's numbers, and the other two
  abbrev refusals : List ℕ
  refusals = 10 ∷ 1 ∷ 2 ∷ 3 ∷ 4 ∷ 5 ∷ 6 ∷ 7 ∷ 8 ∷ 9 ∷ []

  refused_numbered : (n : ℕ) → w.outcome ≡ refused n → T (any (eqb n) refusals)
  refused_numbered n e = subst (RefusedBy refusals) ((checks.refusals n).0 e) (compile_answers b buffer).numbered

  code_numbered : (o : Outcome (Option (List ℕ))) → w.outcome ≡ o → T (any (eqb (witness_code o)) (0 ∷ 66 ∷ refusals))
  code_numbered (refused n) e = or_right (eqb n 0) _ (or_right (eqb n 66) _ (refused_numbered n e))
  code_numbered (accepted None) e = tt
  code_numbered (accepted (Some v)) e = tt

  -- what an answer tells of the outcome

  code_refused : (o : Outcome (Option (List ℕ))) (n : ℕ) → n ≢ 0 → n ≢ 66 → witness_code o ≡ n → o ≡ refused n
  code_refused (refused m) n z y e = ap refused e
  code_refused (accepted None) n z y e = absurd (y (sym e))
  code_refused (accepted (Some v)) n z y e = absurd (z (sym e))

  code_dead : (o : Outcome (Option (List ℕ))) → w.outcome ≡ o → witness_code o ≡ 66 → o ≡ accepted None
  code_dead (refused n) e q = absurd (subst (λ m. T (any (eqb m) refusals)) q (refused_numbered n e))
  code_dead (accepted None) e q = refl
  code_dead (accepted (Some v)) e q = absurd (omega arith)

  code_live : (o : Outcome (Option (List ℕ))) → w.outcome ≡ o → witness_code o ≡ 0 → (v : List ℕ) × (o ≡ accepted (Some v))
  code_live (refused n) e q = absurd (subst (λ m. T (any (eqb m) refusals)) q (refused_numbered n e))
  code_live (accepted None) e q = absurd (omega arith)
  code_live (accepted (Some v)) e q = (v, refl)

  dead_outcome : answer ≡ 66 → w.outcome ≡ accepted None
  dead_outcome e = code_dead w.outcome refl (sym w.code ∙ e)

  live_outcome : answer ≡ 0 → (v : List ℕ) × (w.outcome ≡ accepted (Some v))
  live_outcome e = code_live w.outcome refl (sym w.code ∙ e)

  answers : WitnessAnswers b buffer found answer later input
  answers = record {
    numbered = subst (λ n. T (any (eqb n) (0 ∷ 66 ∷ refusals))) (sym w.code) (code_numbered w.outcome refl);
    refusals = λ n z y. (
      λ e. (checks.refusals n).0 (code_refused w.outcome n z y (sym w.code ∙ e)),
      λ e. w.code ∙ ap witness_code ((checks.refusals n).1 e),
    );
    words = w.checked.words;
    unchanged = λ z y. w.left ∙ ap (λ o. input_after o found) (code_refused w.outcome answer z y (sym w.code));
    zeros = λ e. w.left ∙ ap (λ o. input_after o found) (dead_outcome e);
  }

  -- an accepted table

  module _ (t : Table) (E : Exact t r w.outcome) where
    -- where the input is told, its places are the input and zeros
    told : (v : List ℕ) → w.outcome ≡ accepted (Some v) → (take (at input 0) (drop 1 input) ≡ v) × (drop 1 input ≡ pad 9 v)
    told v e =
        let i : input ≡ length v ∷ pad 9 v = w.left ∙ ap (λ o. input_after o found) e in
        let few : length v ≤ 9 = (E.shown v e).few in
        (ap (λ l. take (at l 0) (drop 1 l)) i ∙ take_pad 9 v few, ap (drop 1) i)

    tells : WitnessTells t r answer input
    tells = record {
      dead = (λ e. E.dead.0 (dead_outcome e), λ d. w.code ∙ ap witness_code (E.dead.1 d));
      live = (λ e. E.live.1 (live_outcome e), λ l. w.code ∙ ap witness_code (E.live.0 l).1);
      shown = λ e. let v = live_outcome e in subst (Shows t r) (sym (told v.0 v.1).0) (E.shown v.0 v.1);
      behind = λ e. let v = live_outcome e in (told v.0 v.1).1 ∙ ap (pad 9) (sym (told v.0 v.1).0);
    }

pub witnesses_tell : WitnessesTell
unfolding WitnessesTell
witnesses_tell b buffer r found answer later input w =
    (answers b buffer r found answer later input w, λ t k h. tells b buffer r found answer later input w t ((checks b buffer r found answer later input w).exact t k h))

-- what the code's check answers: its number, and the input that it leaves where the input found was this

abbrev pub code_by : Result (Option Input) Refusal → ℕ
code_by (Ok (Some v)) = 0
code_by (Ok None) = 66
code_by (Err r) = number_of r

abbrev pub left_by : Result (Option Input) Refusal → List ℕ → List ℕ
left_by (Ok (Some v)) found = v.length ∷ v.characters
left_by (Ok None) found = replicate 10 0
left_by (Err r) found = found

-- the same by what it means
abbrev code_of : Outcome (Option Input) → ℕ
code_of (refused n) = n
code_of (accepted None) = 66
code_of (accepted (Some v)) = 0

abbrev left_of : Outcome (Option Input) → List ℕ → List ℕ
left_of (refused n) found = found
left_of (accepted None) found = replicate 10 0
left_of (accepted (Some v)) found = v.length ∷ v.characters

module _ (found : List ℕ) where
  told_code : (a : Result (Option Input) Refusal) → code_by a ≡ code_of (outcome_of a)
  told_code (Ok (Some v)) = refl
  told_code (Ok None) = refl
  told_code (Err r) = refl

  told_left : (a : Result (Option Input) Refusal) → left_by a found ≡ left_of (outcome_of a) found
  told_left (Ok (Some v)) = refl
  told_left (Ok None) = refl
  told_left (Err r) = refl

  judged_code : (o : Outcome (Option (List ℕ))) → code_of (judged o) ≡ witness_code o
  judged_code (refused n) = refl
  judged_code (accepted None) = refl
  judged_code (accepted (Some v)) = refl

  judged_left : (o : Outcome (Option (List ℕ))) → left_of (judged o) found ≡ input_after o found
  unfolding pad
  judged_left (refused n) = refl
  judged_left (accepted None) = refl
  judged_left (accepted (Some v)) = refl

  pub answer_told : (o : Outcome (Option (List ℕ))) (a : Result (Option Input) Refusal) → outcome_of a ≡ judged o →
      (code_by a ≡ witness_code o) × (left_by a found ≡ input_after o found)
  answer_told o a e = (told_code a ∙ ap code_of e ∙ judged_code o, told_left a ∙ ap (λ x. left_of x found) e ∙ judged_left o)
