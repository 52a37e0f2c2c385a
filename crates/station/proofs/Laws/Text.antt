-- A conversion in two pieces is Definition 7's of the pieces joined.
-- A call refused by 13 found a trace that is over, which is the trace of every longer input; so the plain machine's run is that of all the input.
use mathlib.Core.Bool.{Bool, true, false, cond}
use mathlib.Core.List.{List, [], ◌∷◌, ◌++◌, append-nil}
use mathlib.Core.Logic.{◌≢◌}
use mathlib.Core.Path.{◌≡◌, refl, sym, ap, subst, ◌∙◌}
use Prim.Native.Nat.{ℕ, ◌<◌}
use native.Mathlib.Omega.{arith}
use lib.Dec.{T, eqb, eqb→eq}
use lib.ListN.{length}
use Rattle.lists.proofs.Laws.Tests.{not_not, by_cases}
use Rattle.lists.proofs.Laws.Each.{each_append}
use Rattle.meaning.specs.Refusal.{Outcome, refused, accepted}
use Rattle.meaning.specs.Table.{Table}
use Rattle.meaning.specs.Meaning.{text_of, covered, convert}
use Rattle.meaning.proofs.Laws.Refusal.{accepted_not}
use Rattle.meaning.proofs.Laws.Shape.{Shaped}
use Rattle.meaning.proofs.Laws.Described.{well_formed_shaped}
use Rattle.automaton.specs.Compile.{compile}
use Rattle.automaton.specs.Automaton.{Automaton, from_table}
use Rattle.automaton.proofs.Laws.Compile.{compile_accepts}
use Rattle.reckoning.specs.Machine.{Open, Closed}
use Rattle.reckoning.specs.Session.{fresh, is_open}
use Rattle.reckoning.specs.Calls.{Answer}
use Rattle.reckoning.specs.Reckoning.{Call, of_feed, of_finish, piece, ends, unserved, called, serve, Input, no_input, ran, reckoned, answer_by, input_by, reckon_call, reckon}
use Rattle.reckoning.specs.Claims.{is_stopped}
use Rattle.reckoning.proofs.Laws.Trace.{Trace, trace, log_of, status_of, graft}
use Rattle.reckoning.proofs.Laws.Rounds.{NotOpen, trace_graft, graft_stopped, trace_ended}
use Rattle.reckoning.proofs.Laws.Meaning.{ending}
use Rattle.reckoning.proofs.Laws.Whole.{run_is, meaning_is}
use Rattle.station.specs.Two.{Turn, passed_by, feed_on, finish_on, pieces, if_compiled, in_two}
use Rattle.station.specs.Claims.{rest_from, after_first, after_second, calls_of, InTwo, TextInTwo}
use Rattle.station.proofs.Laws.InTwo.{all_passed, in_two_lem}
use Rattle.station.proofs.Laws.Room.{open_is, not_open}

-- accepted, or refused by 13
abbrev Passing : {A : Type 0} → Outcome A → Type 0
Passing (refused n) = n ≡ 13
Passing (accepted a) = Unit {0}

passing : (a : Outcome Answer) → passed_by a ≡ accepted tt → Passing a
passing (accepted a) e = tt
passing (refused n) e = by (eqb n 13) refl e
  where
    by : (b : Bool) → eqb n 13 ≡ b → ◌≡◌ {A = Outcome (Unit {0})} (cond b (accepted tt) (refused n)) (accepted tt) → n ≡ 13
    by true p q = eqb→eq n 13 (subst T (sym p) tt)
    by false p q = absurd (accepted_not tt n (sym q))

closed_is : (b : Bool) → ending b ≡ Closed → b ≡ true
closed_is true e = refl
closed_is false e = absurd (subst (λ z. T (is_stopped z)) e tt)

module _ (t : Table) (s : Shaped t) where
  abbrev A : Automaton
  A = from_table t

  -- the trace of the reckoning's input
  abbrev trace_of : Input → Trace
  trace_of i = trace A i.ended 0 i.characters

  -- with more characters a trace goes on where it waits
  grown : (u done p : List ℕ) (e : Bool) → trace A false 0 u ≡ trace A false 0 done → trace A e 0 (u ++ p) ≡ trace A e 0 (done ++ p)
  grown u done p e same =
      trace_graft A e p 0 u (omega arith)
      ∙ ap (λ x. graft x (λ h. trace A e 0 (h ++ p))) same
      ∙ sym (trace_graft A e p 0 done (omega arith))

  -- one that is over stays
  stays : (done p : List ℕ) (e : Bool) → status_of (trace A false 0 done) ≢ Open → trace A false 0 done ≡ trace A e 0 (done ++ p)
  stays done p e over =
      sym (trace_graft A e p 0 done (omega arith) ∙ graft_stopped (trace A false 0 done) (λ h. trace A e 0 (h ++ p)) over)

  -- a call that is accepted or refused by 13, after those that passed what is done
  module _ (i : Input) (done : List ℕ) (c : Call) (same : trace_of i ≡ trace A false 0 done) where
    taken : (e : Bool) → i.ended ≡ e → status_of (trace_of i) ≡ Open → trace A (ends c) 0 (i.characters ++ piece c) ≡ trace A (ends c) 0 (done ++ piece c)
    taken true p o =
        absurd (subst NotOpen (subst (λ e. status_of (trace A e 0 i.characters) ≡ Open) p o) (trace_ended A 0 i.characters))
    taken false p o = grown i.characters done (piece c) (ends c) (subst (λ e. trace A e 0 i.characters ≡ trace A false 0 done) p same)

    abbrev Goes : Outcome (Unit {0}) → Type 0
    Goes o = Passing o → trace_of (input_by t o i c) ≡ trace A (ends c) 0 (done ++ piece c)

    goes : Goes (reckoned t (ran t i.characters i.ended) (length i.characters) c)
    unfolding reckoned
    goes =
        let r = ran t i.characters i.ended in
        let status : r.status ≡ status_of (trace_of i) = (run_is t s i.characters i.ended).status in
        by_cases Goes _ (accepted tt) (
          λ x _. same ∙ stays done (piece c) (ends c) (λ o. not_open r.status x (status ∙ ap status_of same ∙ o)),
          λ x. (
            λ _ h. absurd (omega (arith, h)),
            λ _. (
              λ _ h. absurd (omega (arith, h)),
              λ _ _. taken i.ended refl (sym status ∙ open_is r.status (not_not (is_open r.status) x)),
            ),
          ),
        )

  -- the reckoning's answer to a call
  abbrev answer_for : Outcome (Unit {0}) → Input → Call → Outcome Answer
  answer_for (refused n) i c = refused n
  answer_for (accepted u) i c = accepted (answer_by t (ran t i.characters i.ended) (ran t (i.characters ++ piece c) (ends c)))

  answers_by : (o : Outcome (Unit {0})) (i : Input) (c : Call) → (input_by t o i c).answers ≡ i.answers ++ (answer_for o i c ∷ [])
  answers_by (refused n) i c = refl
  answers_by (accepted u) i c = refl

  passing_for : (o : Outcome (Unit {0})) (i : Input) (c : Call) → Passing (answer_for o i c) → Passing o
  passing_for (refused n) i c h = h
  passing_for (accepted u) i c h = tt

  abbrev outcome_of : Input → Call → Outcome (Unit {0})
  outcome_of i c = reckoned t (ran t i.characters i.ended) (length i.characters) c

  -- three calls
  module _ (c₁ c₂ c₃ : Call) where
    abbrev i₁ : Input
    i₁ = reckon_call t no_input c₁

    abbrev i₂ : Input
    i₂ = reckon_call t i₁ c₂

    abbrev i₃ : Input
    i₃ = reckon_call t i₂ c₃

    abbrev b₁ : Outcome Answer
    b₁ = answer_for (outcome_of no_input c₁) no_input c₁

    abbrev b₂ : Outcome Answer
    b₂ = answer_for (outcome_of i₁ c₂) i₁ c₂

    abbrev b₃ : Outcome Answer
    b₃ = answer_for (outcome_of i₂ c₃) i₂ c₃

    answers_are : i₃.answers ≡ b₁ ∷ b₂ ∷ b₃ ∷ []
    answers_are =
        answers_by (outcome_of i₂ c₃) i₂ c₃
        ∙ ap (λ l. l ++ (b₃ ∷ [])) (answers_by (outcome_of i₁ c₂) i₁ c₂ ∙ ap (λ l. l ++ (b₂ ∷ [])) (answers_by (outcome_of no_input c₁) no_input c₁))

    all_taken : ends c₁ ≡ false → ends c₂ ≡ false → Passing b₁ → Passing b₂ → Passing b₃ →
        trace_of i₃ ≡ trace A (ends c₃) 0 ((piece c₁ ++ piece c₂) ++ piece c₃)
    all_taken e₁ e₂ p₁ p₂ p₃ =
        let g₁ = goes no_input [] c₁ refl (passing_for (outcome_of no_input c₁) no_input c₁ p₁) in
        let h₁ : trace_of i₁ ≡ trace A false 0 (piece c₁) = subst (λ e. trace_of i₁ ≡ trace A e 0 (piece c₁)) e₁ g₁ in
        let g₂ = goes i₁ (piece c₁) c₂ h₁ (passing_for (outcome_of i₁ c₂) i₁ c₂ p₂) in
        let h₂ : trace_of i₂ ≡ trace A false 0 (piece c₁ ++ piece c₂) = subst (λ e. trace_of i₂ ≡ trace A e 0 (piece c₁ ++ piece c₂)) e₂ g₂ in
        goes i₂ (piece c₁ ++ piece c₂) c₃ h₂ (passing_for (outcome_of i₂ c₃) i₂ c₃ p₃)

-- three answers, compared
module _ {a₁ a₂ a₃ b₁ b₂ b₃ : Outcome Answer} (e : a₁ ∷ a₂ ∷ a₃ ∷ [] ≡ b₁ ∷ b₂ ∷ b₃ ∷ []) where
  one_same : a₁ ≡ b₁
  one_same = cc

  two_same : a₂ ≡ b₂
  two_same = cc

  three_same : a₃ ≡ b₃
  three_same = cc

module _ (w first second buffer : List ℕ) (a : (pieces w first second buffer).0.answer ≡ accepted tt) where
  -- the plain machine's run over the reckoning's input is that over all of it
  whole : (t : Table) → Shaped t →
      (let cs = calls_of w first second buffer in let i = reckon t cs no_input in
      (serve w cs unserved).answers ≡ i.answers → trace (from_table t) i.ended 0 i.characters ≡ trace (from_table t) true 0 (first ++ second))
  unfolding calls_of serve reckon feed_on finish_on
  whole t s same =
      let x₁ = after_first w first buffer in
      let x₂ = after_second w first second buffer in
      let passed = all_passed w first second buffer a in
      let c₁ = of_feed first buffer in
      let c₂ = of_feed second (rest_from x₁) in
      let c₃ = of_finish (rest_from x₂) in
      let e = same ∙ answers_are t s c₁ c₂ c₃ in
      let p₁ = subst Passing (one_same e) (passing (called w fresh c₁).answer passed.0) in
      let p₂ = subst Passing (two_same e) (passing (called w x₁.0.session c₂).answer passed.1) in
      let p₃ = subst Passing (three_same e) (passing (called w x₂.0.session c₃).answer passed.2) in
      all_taken t s c₁ c₂ c₃ refl refl p₁ p₂ p₃ ∙ ap (trace (from_table t) true 0) (append-nil (first ++ second))

-- DEFINITION 7, of an input in two pieces
pub text_in_two : TextInTwo
unfolding TextInTwo InTwo in_two from_table
text_in_two table first second buffer output t keeps enough one two a =
    let w = (compile table buffer).words in
    let cs = calls_of w first second output in
    let i = reckon t cs no_input in
    let s = well_formed_shaped t keeps.keeps.well_formed in
    let v = in_two table first second buffer output in
    let u = first ++ second in
    let accepts : (compile table buffer).answer ≡ accepted tt = ((compile_accepts table buffer).keeping t keeps enough).0 in
    let done : v ≡ pieces w first second output = ap (λ o. if_compiled o output (pieces w first second output)) accepts in
    let g = in_two_lem table first second buffer output t keeps enough one two a in
    let same = whole w first second output (ap (λ (x : Turn × List ℕ). x.0.answer) (sym done) ∙ a) t s g.answers in
    let tells = run_is t s i.characters i.ended in
    let D = meaning_is t s u (each_append (λ z. z < 65536) first second one two) in
    let log : (ran t i.characters i.ended).final.log ≡ (convert t u).log = tells.log ∙ ap log_of same ∙ D.0 in
    let status : v.0.session.status ≡ ending (convert t u).closed = g.status ∙ tells.status ∙ ap status_of same ∙ D.1 in
    record {
      text = g.output ∙ ap (text_of (from_table t).write) log;
      closed = (λ e. closed_is (convert t u).closed (sym status ∙ e), λ e. status ∙ ap ending e);
      stopped = λ e. status ∙ ap ending e;
      place = g.consumes ∙ ap covered log;
    }
