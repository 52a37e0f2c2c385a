-- Request [10] of the C face: what holds of every list of a chain's calls holds of its functions in C.
-- Answers and sessions come back whole from their numbers, so a contract tells its call's outcome.
use mathlib.Core.List.{List}
use mathlib.Core.Path.{◌≡◌, refl, ap, ◌∙◌}
use Prim.Native.Nat.{ℕ, ◌≤◌}
use lib.Dec.{T, eqb}
use borrow.Author.Tests.{le-ltb}
use Rattle.lists.specs.Lists.{any}
use Rattle.lists.proofs.Laws.Tests.{one_of}
use Rattle.meaning.specs.Refusal.{Outcome, refused, accepted, RefusedBy}
use Rattle.reckoning.specs.Machine.{Status, Open, Closed, Stopped}
use Rattle.reckoning.specs.Session.{Session}
use Rattle.reckoning.specs.Reckoning.{Call, of_feed, of_finish}
use Rattle.reckoning.specs.Chain.{ChainCall, ChainAnswer, chained, chain_refusals, ChainCallsAnswer}
use Rattle.reckoning.specs.ChainServes.{ChainServes}
use Rattle.reckoning.proofs.Laws.Chained.{chain_calls_answer}
use Rattle.reckoning.proofs.Laws.ChainServes.{TellsChain, chain_serves}
use Rattle.cobbletwill.specs.Sessions.{status_code, session_from}
use Rattle.cobbletwill.specs.Chains.{answer_code, written_after, first_after, face_of, feed, finish}
use Rattle.cobbletwill.specs.ChainCaller.{Made, MeetsContract, status_of, answer_from, outcome_from, caller}
use Rattle.cobbletwill.specs.declared.sessions.SessionNumbers.{SessionNumbers}
use Rattle.cobbletwill.proofs.Laws.Claims.{faithful}
use Rattle.cobbletwill.proofs.Laws.Caller.{status_small}

-- a refusal's number is no status's
refusal_back : (k written status₁ : ℕ) → T (any (eqb k) chain_refusals) → answer_from k written status₁ ≡ refused k
unfolding answer_from
refusal_back k written status₁ h =
    one_of (λ k. answer_from k written status₁ ≡ refused k) chain_refusals (refl, (refl, (refl, (refl, (refl, (refl, tt)))))) k h

status_same : (s : Status) → status_of (status_code s) ≡ s
status_same Open = refl
status_same Closed = refl
status_same Stopped = refl

statuses_back : (count : ℕ) (first second : Status) →
    answer_from (status_code second) count (status_code first) ≡ accepted (record { count = count; first = first; second = second })
unfolding answer_from
statuses_back count first Open = ap (λ s. accepted (record { count = count; first = s; second = Open })) (status_same first)
statuses_back count first Closed = ap (λ s. accepted (record { count = count; first = s; second = Closed })) (status_same first)
statuses_back count first Stopped = ap (λ s. accepted (record { count = count; first = s; second = Stopped })) (status_same first)

-- an answer comes back from its number, the number written and the first's status
answer_back : (o : Outcome ChainAnswer) (written status₁ : ℕ) → RefusedBy chain_refusals o →
    answer_from (answer_code o) (written_after o written) (first_after o status₁) ≡ o
answer_back (refused k) written status₁ h = refusal_back k written status₁ h
answer_back (accepted a) written status₁ h = statuses_back a.count a.first a.second

-- and a call's outcome from its face
outcome_back : (w₁ w₂ : List ℕ) (s₁ s₂ : Session) (c : ChainCall) (written status₁ : ℕ) →
    outcome_from (face_of (chained w₁ w₂ s₁ s₂ c) written status₁) ≡ chained w₁ w₂ s₁ s₂ c
unfolding ChainCallsAnswer
outcome_back w₁ w₂ s₁ s₂ c written status₁ =
    let o = chained w₁ w₂ s₁ s₂ c in
    let answer = answer_back o.answer written status₁ (chain_calls_answer w₁ w₂ s₁ s₂ c).numbered in
    λ i. record {
      answer = answer i;
      first = faithful.sessions o.first i;
      second = faithful.sessions o.second i;
      middle = o.middle;
      output = o.output;
    }

-- one call of numbers that are two sessions': what came back is the face of its outcome
module _ (w₁ w₂ : List ℕ) (n₁ n₂ : SessionNumbers × List ℕ) (small₁ : n₁.0.status ≤ 2) (small₂ : n₂.0.status ≤ 2) where
  kept_face : (c : Call) (m : Made) → MeetsContract w₁ w₂ n₁ n₂ c m →
      m.back
      ≡ face_of (chained w₁ w₂ (session_from n₁.0 n₁.1) (session_from n₂.0 n₂.1) (record { call = c; middle = m.middle })) m.written m.status₁
  unfolding feed finish
  kept_face (of_feed p buffer) m k = rw (le-ltb 2 n₁.0.status small₁, le-ltb 2 n₂.0.status small₂) at k
  kept_face (of_finish buffer) m k = rw (le-ltb 2 n₁.0.status small₁, le-ltb 2 n₂.0.status small₂) at k

  -- a call leaves the numbers of two sessions
  later_small : (m : Made) → MeetsContract w₁ w₂ n₁ n₂ m.call m → (m.back.first.status ≤ 2) × (m.back.second.status ≤ 2)
  later_small m k =
      let o = chained w₁ w₂ (session_from n₁.0 n₁.1) (session_from n₂.0 n₂.1) (record { call = m.call; middle = m.middle }) in
      rw (kept_face m.call m k) (status_small o.first.status, status_small o.second.status)

tells : TellsChain caller
tells w₁ w₂ = record {
  came = λ held s m is met.
      let c : ChainCall = record { call = m.call; middle = m.middle } in
      ap outcome_from (kept_face w₁ w₂ held.0 held.1 is.0.0 is.1.0 m.call m met)
      ∙ outcome_back w₁ w₂ (session_from held.0.0 held.0.1) (session_from held.1.0 held.1.1) c m.written m.status₁
      ∙ (λ i. chained w₁ w₂ (is.0.1 i) (is.1.1 i) c);
  leaves = λ held s m is met.
      let small = later_small w₁ w₂ held.0 held.1 is.0.0 is.1.0 m met in ((small.0, refl), (small.1, refl));
}

-- REQUEST [10]
pub face_chain_serves : ChainServes caller
face_chain_serves = chain_serves caller tells
