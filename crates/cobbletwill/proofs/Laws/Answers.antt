-- Demands 1 and 2 in C's numbers, for the table check, direct conversion and compiling: the numbers tell the outcome, and what holds of every
-- outcome holds of them. No refusal has the number of another answer.
use mathlib.Core.Bool.{Bool, true, false, cond}
use mathlib.Core.List.{List, [], ◌∷◌}
use mathlib.Core.Logic.{◌≢◌}
use mathlib.Core.Path.{◌≡◌, refl, sym, ap, subst, ◌∙◌}
use Prim.Native.Nat.{ℕ}
use native.Mathlib.Omega.{arith}
use lib.Dec.{T, eqb}
use lib.ListN.{drop}
use Rattle.lists.specs.Lists.{any}
use Rattle.lists.proofs.Laws.Tests.{or_right, one_of}
use Rattle.meaning.specs.Refusal.{Outcome, refused, accepted, and_then, RefusedBy}
use Rattle.meaning.specs.Table.{Table}
use Rattle.meaning.specs.Reader.{read_table}
use Rattle.meaning.specs.Direct.{Converted, DirectOutcome, checked, direct}
use Rattle.meaning.proofs.Laws.Refusal.{by_then, accepted_not, refused_same}
use Rattle.meaning.proofs.Laws.Direct.{table_refusals, keeps_read, read_keeps, table_refused, direct_answers, direct_accepts}
use Rattle.automaton.specs.Compile.{compile}
use Rattle.automaton.proofs.Laws.Compile.{compile_answers, compile_accepts}
use Rattle.cobbletwill.specs.Face.{check_code, code_of, place_of, written_of}
use Rattle.cobbletwill.specs.Answers.{ChecksAnswer, ConvertFace, ConvertsAnswer, CompileFace, CompilesAnswer}

-- what the number of an outcome tells

code_refused : (o : Outcome (Unit {0})) (n : ℕ) → n ≢ 0 → check_code o ≡ n → o ≡ refused n
code_refused (refused m) n z e = ap refused e
code_refused (accepted u) n z e = absurd (z (sym e))

module _ (ks : List ℕ) where
  code_numbered : (o : Outcome (Unit {0})) → RefusedBy ks o → T (any (eqb (check_code o)) (0 ∷ ks))
  code_numbered (refused n) h = or_right (eqb n 0) _ h
  code_numbered (accepted u) h = tt

  code_accepted : (T (any (eqb 0) ks) → ⊥) → (o : Outcome (Unit {0})) → RefusedBy ks o → check_code o ≡ 0 → o ≡ accepted tt
  code_accepted none (refused n) h e = absurd (none (subst (λ m. T (any (eqb m) ks)) e h))
  code_accepted none (accepted u) h e = refl

-- THE TABLE CHECK

-- the check's answer, of a table that was read or refused
abbrev verdict : Outcome Table → Outcome (Unit {0})
verdict o = and_then o (λ t. accepted tt)

then_refused : (o : Outcome Table) (n : ℕ) → verdict o ≡ refused n → o ≡ refused n
unfolding and_then
then_refused (refused m) n e = ap refused (refused_same m n e)
then_refused (accepted t) n e = absurd (accepted_not tt n e)

then_accepted : (o : Outcome Table) → verdict o ≡ accepted tt → (t : Table) × (o ≡ accepted t)
unfolding and_then
then_accepted (refused m) e = absurd (accepted_not tt m (sym e))
then_accepted (accepted t) e = (t, refl)

pub checks_answer : ChecksAnswer
unfolding ChecksAnswer and_then
checks_answer b answer code =
    let numbered : RefusedBy table_refusals (checked b) =
    by_then (RefusedBy table_refusals) (read_table b) (λ t. accepted tt) (table_refused b) (λ t e. tt) in
    record {
      numbered = rw code (code_numbered table_refusals (checked b) numbered);
      refusals = λ n z. (
        λ e. then_refused (read_table b) n (code_refused (checked b) n z (sym code ∙ e)),
        λ e. code ∙ ap (λ o. check_code (verdict o)) e,
      );
      keeping = λ t k. code ∙ ap (λ o. check_code (verdict o)) (keeps_read b t k);
      accepting = λ y e.
          let r = then_accepted (read_table b) (code_accepted table_refusals (λ f. f) (checked b) numbered (sym code ∙ e)) in
          (r.0, read_keeps b r.0 y r.1);
    }

-- DIRECT CONVERSION

abbrev direct_refusals : List ℕ
direct_refusals = 1 ∷ 2 ∷ 3 ∷ 4 ∷ 5 ∷ 6 ∷ 7 ∷ 14 ∷ 15 ∷ []

ended_numbered : (closed : Bool) (ks : List ℕ) → T (any (eqb (cond closed 0 64)) (0 ∷ 64 ∷ ks))
ended_numbered true ks = tt
ended_numbered false ks = tt

ended_code : (closed : Bool) → ◌≢◌ {A = ℕ} (cond closed 0 64) 0 → ◌≢◌ {A = ℕ} (cond closed 0 64) 64 → ⊥
ended_code true z s = z refl
ended_code false z s = s refl

converted_numbered : (o : Outcome Converted) → RefusedBy direct_refusals o → T (any (eqb (code_of o)) (0 ∷ 64 ∷ direct_refusals))
converted_numbered (refused n) h = or_right (eqb n 0) _ (or_right (eqb n 64) _ h)
converted_numbered (accepted a) h = ended_numbered a.closed direct_refusals

-- neither 0 nor 64 is a refusal's
converted_accepted : (o : Outcome Converted) → RefusedBy direct_refusals o → T (any (eqb (code_of o)) (0 ∷ 64 ∷ [])) → (a : Converted) × (o ≡ accepted a)
converted_accepted (refused n) h e = absurd (one_of (λ m. T (any (eqb m) direct_refusals) → ⊥) (0 ∷ 64 ∷ []) (λ f. f, (λ f. f, tt)) n e h)
converted_accepted (accepted a) h e = (a, refl)

module _ (b input buffer : List ℕ) (place written : ℕ) where
  abbrev outcome : DirectOutcome
  outcome = direct b input buffer

  as_found : (o : Outcome Converted) → outcome.answer ≡ o → code_of o ≢ 0 → code_of o ≢ 64 →
      (outcome.output ≡ buffer) × (place_of o place ≡ place) × (written_of o written ≡ written)
  as_found (refused n) e z s = ((direct_answers b input buffer).unchanged n e, refl, refl)
  as_found (accepted a) e z s = absurd (ended_code a.closed z s)

  beyond : (o : Outcome Converted) → outcome.answer ≡ o → drop (written_of o written) outcome.output ≡ drop (written_of o written) buffer
  beyond (refused n) e = ap (drop written) ((direct_answers b input buffer).unchanged n e)
  beyond (accepted a) e = (direct_answers b input buffer).beyond a e

  converts_face : ConvertFace b input buffer place written (code_of outcome.answer) outcome.output (place_of outcome.answer place)
      (written_of outcome.answer written)
  converts_face = record {
    numbered = converted_numbered outcome.answer (direct_answers b input buffer).numbered;
    unchanged = as_found outcome.answer refl;
    beyond = beyond outcome.answer refl;
    whole = (direct_answers b input buffer).whole;
    converts = λ t k l.
        let c = (direct_accepts b input buffer).keeping t k l in
        rw c.answer (refl, refl, c.text);
    accepting = λ y e.
        let a = converted_accepted outcome.answer (direct_answers b input buffer).numbered e in
        (direct_accepts b input buffer).accepting y a.0 a.1;
  }

pub converts_answer : ConvertsAnswer
unfolding ConvertsAnswer
converts_answer b input buffer place written answer output reached count k =
    rw (k.code, k.text, k.ended, k.counted) (converts_face b input buffer place written)

-- COMPILING

abbrev compile_refusals : List ℕ
compile_refusals = 10 ∷ 1 ∷ 2 ∷ 3 ∷ 4 ∷ 5 ∷ 6 ∷ 7 ∷ 8 ∷ 9 ∷ []

module _ (b buffer : List ℕ) where
  compiles_face : CompileFace b buffer (check_code (compile b buffer).answer) (compile b buffer).words
  compiles_face =
      let o = (compile b buffer).answer in
      let answers = compile_answers b buffer in
      record {
        numbered = code_numbered compile_refusals o answers.numbered;
        zeros = λ z t. answers.zeros (check_code o) (code_refused o (check_code o) z refl) t;
        unchanged = λ e. answers.unchanged (code_refused o 10 (λ q. omega arith) e);
        beyond = answers.beyond;
        keeping = λ t k h. let c = (compile_accepts b buffer).keeping t k h in (ap check_code c.0, c.1);
        accepting = λ y e. (compile_accepts b buffer).accepting y (code_accepted compile_refusals (λ f. f) o answers.numbered e);
      }

pub compiles_answer : CompilesAnswer
unfolding CompilesAnswer
compiles_answer b buffer answer words k = rw (k.code, k.left) (compiles_face b buffer)
