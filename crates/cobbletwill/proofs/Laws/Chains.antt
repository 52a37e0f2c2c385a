-- What a chain's calls over numbers come to, as defined: a refusal where either's numbers are no session's, or what the chain's call comes to.
-- By the tests of the two statuses, and then by cases on the call's answer.
use mathlib.Core.Bool.{◌&&◌}
use mathlib.Core.List.{List}
use mathlib.Core.Path.{◌≡◌, refl, sym, ap, ◌∙◌}
use Prim.Native.Nat.{ℕ, ◌≤◌, ◌<◌}
use borrow.Author.Tests.{lt-ltb, le-ltb}
use Rattle.std.specs.Prelude.{Result, Ok, Err}
use Rattle.automaton.specs.Sound.{sound}
use Rattle.reckoning.specs.Reckoning.{Call, buffer_of}
use Rattle.reckoning.specs.Chain.{chained}
use Rattle.session.specs.Keeping.{together, session_of}
use Rattle.session.specs.declared.kept.Kept.{Kept}
use Rattle.rules.specs.Answers.{number_of}
use Rattle.rules.specs.declared.refusal.Refusal.{Refusal}
use Rattle.chain.specs.Promised.{answer_of, outcome_of, written_of, first_of, second_of}
use Rattle.chain.specs.declared.call.Went.{Went}
use Rattle.cobbletwill.specs.Sessions.{numbers_of, no_session}
use Rattle.cobbletwill.specs.Chains.{answer_code, written_after, first_after, left, face_of, called_by}
use Rattle.cobbletwill.specs.bridge.Lent.{Keeps}
use Rattle.cobbletwill.specs.bridge.Chained.{sessions_after}
use Rattle.cobbletwill.specs.declared.sessions.SessionNumbers.{SessionNumbers}
use Rattle.cobbletwill.proofs.Laws.Claims.{numbers_same}

module _ (w₁ : List ℕ) (n₁ : SessionNumbers) (uses₁ w₂ : List ℕ) (n₂ : SessionNumbers) (uses₂ : List ℕ) (call : Call) (middle : List ℕ) (written status₁ : ℕ) where
  -- numbers with a status above 2 are refused, and nothing is changed
  module _ (answer : ℕ) (e : answer ≡ no_session (sound w₁ && sound w₂)) where
    as_found :
        left answer n₁ uses₁ n₂ uses₂ middle (buffer_of call) written status₁
        ≡ left (no_session (sound w₁ && sound w₂)) n₁ uses₁ n₂ uses₂ middle (buffer_of call) written status₁
    as_found = ap (λ a. left a n₁ uses₁ n₂ uses₂ middle (buffer_of call) written status₁) e

    pub refused_first : 2 < n₁.status →
        left answer n₁ uses₁ n₂ uses₂ middle (buffer_of call) written status₁ ≡ called_by w₁ n₁ uses₁ w₂ n₂ uses₂ call middle written status₁
    refused_first above = rw (lt-ltb 2 n₁.status above) as_found

    pub refused_second : n₁.status ≤ 2 → 2 < n₂.status →
        left answer n₁ uses₁ n₂ uses₂ middle (buffer_of call) written status₁ ≡ called_by w₁ n₁ uses₁ w₂ n₂ uses₂ call middle written status₁
    refused_second small above = rw (le-ltb 2 n₁.status small, lt-ltb 2 n₂.status above) as_found

  module _ (first second : Kept) (small₁ : n₁.status ≤ 2) (small₂ : n₂.status ≤ 2) (meant₁ : Keeps n₁ first) (meant₂ : Keeps n₂ second) where
    -- what C gets of a call is the face of its outcome
    face : (r : Result (Went Kept) Refusal) (later₁ later₂ between output : List ℕ) →
        left (answer_code (answer_of (written_of r))) (sessions_after r n₁ n₂).0 later₁ (sessions_after r n₁ n₂).1 later₂ between output
        (written_after (answer_of (written_of r)) written) (first_after (answer_of (written_of r)) status₁)
        ≡ face_of (outcome_of (written_of r) (together (first_of first r) later₁) (together (second_of second r) later₂) between output) written status₁
    face (Ok went) later₁ later₂ between output = refl
    face (Err q) later₁ later₂ between output =
        let e₁ = sym (ap numbers_of (meant₁ later₁) ∙ numbers_same n₁ later₁ small₁) in
        let e₂ = sym (ap numbers_of (meant₂ later₂) ∙ numbers_same n₂ later₂ small₂) in
        λ i. left (number_of q) (e₁ i) later₁ (e₂ i) later₂ between output written status₁

    -- of other numbers, what a call of their sessions came to is handed over
    pub handed_over : (r : Result (Went Kept) Refusal) (answer count reached : ℕ) (session₁ session₂ : SessionNumbers) (later₁ later₂ between output : List ℕ) →
        outcome_of (written_of r) (together (first_of first r) later₁) (together (second_of second r) later₂) between output
        ≡ chained w₁ w₂ (session_of (together first uses₁)) (session_of (together second uses₂)) (record { call = call; middle = middle }) →
        answer ≡ answer_code (answer_of (written_of r)) → (session₁, session₂) ≡ sessions_after r n₁ n₂ →
        count ≡ written_after (answer_of (written_of r)) written → reached ≡ first_after (answer_of (written_of r)) status₁ →
        left answer session₁ later₁ session₂ later₂ between output count reached ≡ called_by w₁ n₁ uses₁ w₂ n₂ uses₂ call middle written status₁
    handed_over r answer count reached session₁ session₂ later₁ later₂ between output came answered kept counted told =
        rw (le-ltb 2 n₁.status small₁, le-ltb 2 n₂.status small₂)
        ((λ i. left (answered i) (kept i).0 later₁ (kept i).1 later₂ between output (counted i) (told i))
        ∙ face r later₁ later₂ between output
        ∙ ap (λ x. face_of x written status₁) (came ∙ (λ i. chained w₁ w₂ (meant₁ uses₁ i) (meant₂ uses₂ i) (record { call = call; middle = middle }))))
