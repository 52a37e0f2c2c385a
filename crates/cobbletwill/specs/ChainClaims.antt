-- What holds of a chain's calls as C makes them (request [10]): demand 1, and which refusal numbers get that are no session's.
use Rattle.std.specs.Prelude.{true, false, ◌&&◌, ◌||◌, List, [], ◌∷◌, ◌≡◌, ℕ, ◌+◌, ◌≤◌, T, eqb, ltb, length, drop}
use Rattle.lists.specs.Lists.{any}
use Rattle.automaton.specs.Sound.{sound}
use Rattle.reckoning.specs.Reckoning.{Call, buffer_of}
use Rattle.reckoning.specs.Chain.{chain_refusals}
use Rattle.cobbletwill.specs.Sessions.{status_from, status_code}
use Rattle.cobbletwill.specs.Chains.{ChainFace, left, called_by}
use Rattle.cobbletwill.specs.declared.sessions.SessionNumbers.{SessionNumbers}

-- Demand 1 for a call that was lent a middle buffer and an output buffer, found the two sessions in their parts, the number written and the first's
-- status, and came to o: "an accepted answer or one of the numbered refusals"; "every other refusal changes nothing. Words beyond those written stay
-- as found."
pub record ChainFaceAnswers (n₁ : SessionNumbers) (uses₁ : List ℕ) (n₂ : SessionNumbers) (uses₂ middle buffer : List ℕ) (written status₁ : ℕ) (o : ChainFace) : Type 0 where
  pub numbered : T (any (eqb o.answer) (0 ∷ 64 ∷ 65 ∷ chain_refusals))
  pub unchanged : 11 ≤ o.answer → o.answer ≤ 18 → o ≡ left o.answer n₁ uses₁ n₂ uses₂ middle buffer written status₁
  -- "each call answers the second's output count and both statuses", which are those of the sessions that it leaves
  pub answered : T (any (eqb o.answer) (0 ∷ 64 ∷ 65 ∷ [])) →
      (o.second.tally.produced ≡ n₂.tally.produced + o.written)
      × (o.status₁ ≡ status_code (status_from o.first.status))
      × (o.answer ≡ status_code (status_from o.second.status))
  pub beyond : drop o.written o.output ≡ drop o.written buffer
  -- the middle buffer, behind the k characters that the first wrote
  pub beyond_middle : (k : ℕ) → o.first.tally.produced ≡ n₁.tally.produced + k → drop k o.middle ≡ drop k middle
  pub whole : length o.output ≡ length buffer
  pub whole_middle : length o.middle ≡ length middle

unfoldable pub ChainsAnswer : Type 0
ChainsAnswer =
    (w₁ : List ℕ) (n₁ : SessionNumbers) (uses₁ w₂ : List ℕ) (n₂ : SessionNumbers) (uses₂ : List ℕ) (call : Call) (middle : List ℕ) (written status₁ : ℕ) →
    ChainFaceAnswers n₁ uses₁ n₂ uses₂ middle (buffer_of call) written status₁ (called_by w₁ n₁ uses₁ w₂ n₂ uses₂ call middle written status₁)

-- "Each of 11 to 14 is tested for the first, then the second", also of numbers with a status above 2, which are no session's: 11 of either comes
-- before 12 of either.
pub record NoChain (w₁ w₂ : List ℕ) (answer : ℕ) : Type 0 where
  pub unsound : (sound w₁ && sound w₂) ≡ false → answer ≡ 11
  pub sound : (sound w₁ && sound w₂) ≡ true → answer ≡ 12

unfoldable pub ChainStatuses : Type 0
ChainStatuses =
    (w₁ : List ℕ) (n₁ : SessionNumbers) (uses₁ w₂ : List ℕ) (n₂ : SessionNumbers) (uses₂ : List ℕ) (call : Call) (middle : List ℕ) (written status₁ : ℕ) →
    T (ltb 2 n₁.status || ltb 2 n₂.status) → NoChain w₁ w₂ (called_by w₁ n₁ uses₁ w₂ n₂ uses₂ call middle written status₁).answer
