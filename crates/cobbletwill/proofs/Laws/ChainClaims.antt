-- A chain's calls as C makes them: demand 1, and which refusal numbers get that are no session's.
-- By the tests of the two statuses, and of a call by cases on its answer, from what the claim about sessions says of it.
use mathlib.Core.Bool.{Bool, true, false, ◌&&◌, ◌||◌}
use mathlib.Core.List.{List, [], ◌∷◌}
use mathlib.Core.Path.{◌≡◌, refl, sym, ap, ◌∙◌}
use Prim.Native.Nat.{ℕ, ◌≤◌}
use native.Mathlib.Omega.{arith}
use lib.Dec.{T, eqb, ltb}
use lib.ListN.{drop}
use borrow.Author.Tests.{ltb-false}
use Rattle.lists.specs.Lists.{any}
use Rattle.lists.proofs.Laws.Tests.{of_T, or_right, one_of}
use Rattle.meaning.specs.Refusal.{Outcome, refused, accepted}
use Rattle.automaton.specs.Sound.{sound}
use Rattle.reckoning.specs.Machine.{Status, Open, Closed, Stopped}
use Rattle.reckoning.specs.Reckoning.{Call, buffer_of}
use Rattle.reckoning.specs.Chain.{ChainCall, ChainAnswer, ChainOutcome, chained, chain_refusals, ChainAnswers, ChainCallsAnswer}
use Rattle.reckoning.proofs.Laws.Chained.{chain_calls_answer}
use Rattle.cobbletwill.specs.Sessions.{status_code, session_from, numbers_of, no_session}
use Rattle.cobbletwill.specs.Chains.{answer_code, written_after, first_after, left, face_of, called_by}
use Rattle.cobbletwill.specs.ChainClaims.{ChainFaceAnswers, ChainsAnswer, ChainStatuses}
use Rattle.cobbletwill.specs.declared.sessions.SessionNumbers.{SessionNumbers}
use Rattle.cobbletwill.proofs.Laws.Claims.{status_same, numbers_same, no_session_refused}

-- every answer is of the list
abbrev Numbered : ℕ → Type 0
Numbered answer = T (any (eqb answer) (0 ∷ 64 ∷ 65 ∷ chain_refusals))

refusal_numbered : (n : ℕ) → T (any (eqb n) chain_refusals) → Numbered n
refusal_numbered n h = or_right (eqb n 0) _ (or_right (eqb n 64) _ (or_right (eqb n 65) _ h))

status_numbered : (s : Status) → Numbered (status_code s)
status_numbered Open = tt
status_numbered Closed = tt
status_numbered Stopped = tt

-- a refusal's number is no status's
refusal_no_status : (n : ℕ) → T (any (eqb n) chain_refusals) → T (any (eqb n) (0 ∷ 64 ∷ 65 ∷ [])) → ⊥
refusal_no_status n h = one_of (λ k. T (any (eqb k) (0 ∷ 64 ∷ 65 ∷ [])) → ⊥) chain_refusals (λ k. k, (λ k. k, (λ k. k, (λ k. k, (λ k. k, (λ k. k, tt)))))) n h

-- an accepted call's answer is no refusal's
not_refused : (s : Status) → 11 ≤ status_code s → status_code s ≤ 18 → ⊥
not_refused Open low high = omega arith
not_refused Closed low high = omega arith
not_refused Stopped low high = omega arith

module _ (w₁ : List ℕ) (n₁ : SessionNumbers) (uses₁ w₂ : List ℕ) (n₂ : SessionNumbers) (uses₂ : List ℕ) (call : Call) (middle : List ℕ) (written status₁ : ℕ) where
  abbrev made : ChainCall
  made = record { call = call; middle = middle }

  abbrev Answered : ChainOutcome → Type 0
  Answered o = ChainAnswers (session_from n₁ uses₁) (session_from n₂ uses₂) made o

  handed : (o : ChainOutcome) → n₁.status ≤ 2 → n₂.status ≤ 2 → Answered o → (a : Outcome ChainAnswer) → o.answer ≡ a →
      ChainFaceAnswers n₁ uses₁ n₂ uses₂ middle (buffer_of call) written status₁ (face_of o written status₁)
  handed o small₁ small₂ h (refused k) e =
      let same = h.unchanged k e in
      record {
        numbered = rw e (refusal_numbered k (rw e at h.numbered));
        unchanged =
            λ low high i.
            left (answer_code o.answer) ((ap numbers_of same.0 ∙ numbers_same n₁ uses₁ small₁) i) (same.0 i).uses
            ((ap numbers_of same.1 ∙ numbers_same n₂ uses₂ small₂) i) (same.1 i).uses (same.2 i) (same.3 i) (written_after (e i) written)
            (first_after (e i) status₁);
        answered = λ t. absurd (refusal_no_status k (rw e at h.numbered) (rw e at t));
        beyond = rw e (ap (drop written) same.3);
        beyond_middle = h.beyond_middle;
        whole = h.whole;
        whole_middle = h.whole_middle;
      }
  handed o small₁ small₂ h (accepted a) e =
      record {
        numbered = rw e (status_numbered a.second);
        unchanged = λ low high. absurd (not_refused a.second (rw e at low) (rw e at high));
        answered = λ k.
            let told = h.answered a e in (
              rw e told.0,
              rw e (ap status_code (told.1 ∙ sym (status_same o.first.status))),
              rw e (ap status_code (told.2 ∙ sym (status_same o.second.status))),
            );
        beyond = rw e (h.beyond a e);
        beyond_middle = h.beyond_middle;
        whole = h.whole;
        whole_middle = h.whole_middle;
      }

  -- numbers that are no session's are refused by 11 or 12, and nothing is changed
  refuses : ChainFaceAnswers n₁ uses₁ n₂ uses₂ middle (buffer_of call) written status₁
      (left (no_session (sound w₁ && sound w₂)) n₁ uses₁ n₂ uses₂ middle (buffer_of call) written status₁)
  refuses = record {
    numbered = refusal_numbered (no_session (sound w₁ && sound w₂)) (no_session_refused (sound w₁ && sound w₂) (13 ∷ 14 ∷ 18 ∷ 15 ∷ []));
    unchanged = λ low high. refl;
    answered = λ k. absurd (refusal_no_status (no_session (sound w₁ && sound w₂)) (no_session_refused (sound w₁ && sound w₂) (13 ∷ 14 ∷ 18 ∷ 15 ∷ [])) k);
    beyond = refl;
    beyond_middle = λ k e. refl;
    whole = refl;
    whole_middle = refl;
  }

  answers_by : (above₁ above₂ : Bool) → ltb 2 n₁.status ≡ above₁ → ltb 2 n₂.status ≡ above₂ →
      Answered (chained w₁ w₂ (session_from n₁ uses₁) (session_from n₂ uses₂) made) →
      ChainFaceAnswers n₁ uses₁ n₂ uses₂ middle (buffer_of call) written status₁ (called_by w₁ n₁ uses₁ w₂ n₂ uses₂ call middle written status₁)
  answers_by true above₂ e₁ e₂ h = rw e₁ refuses
  answers_by false true e₁ e₂ h = rw (e₁, e₂) refuses
  answers_by false false e₁ e₂ h = rw (e₁, e₂) (handed _ (ltb-false 2 n₁.status e₁) (ltb-false 2 n₂.status e₂) h _ refl)

-- DEMAND 1, for a chain through the C face

pub chains_answer : ChainsAnswer
unfolding ChainsAnswer ChainCallsAnswer
chains_answer w₁ n₁ uses₁ w₂ n₂ uses₂ call middle written status₁ =
    answers_by w₁ n₁ uses₁ w₂ n₂ uses₂ call middle written status₁ _ _ refl refl (chain_calls_answer w₁ w₂ (session_from n₁ uses₁) (session_from n₂ uses₂) (record { call = call; middle = middle }))

-- NUMBERS THAT ARE NO SESSION'S: 11 of either before 12 of either

pub chain_statuses : ChainStatuses
unfolding ChainStatuses
chain_statuses w₁ n₁ uses₁ w₂ n₂ uses₂ call middle written status₁ above =
    rw (of_T (ltb 2 n₁.status || ltb 2 n₂.status) above) (record { unsound = λ e. rw e refl; sound = λ e. rw e refl })
