-- Request [10] as C calls it: what feed and finish of a chain answer and leave, of two sessions as C holds them.
use Rattle.std.specs.Prelude.{◌&&◌, ◌||◌, cond, List, ℕ, ltb}
use Rattle.meaning.specs.Refusal.{Outcome, refused, accepted}
use Rattle.automaton.specs.Sound.{sound}
use Rattle.reckoning.specs.Reckoning.{Call, of_feed, of_finish, buffer_of}
use Rattle.reckoning.specs.Chain.{ChainAnswer, ChainOutcome, chained}
use Rattle.cobbletwill.specs.Sessions.{session_from, numbers_of, status_code, no_session}
use Rattle.cobbletwill.specs.declared.sessions.SessionNumbers.{SessionNumbers}

-- "each call answers the second's output count and both statuses": the second's status is the answer; "A refusal answers its number"
abbrev pub answer_code : Outcome ChainAnswer → ℕ
answer_code (refused n) = n
answer_code (accepted a) = status_code a.second

-- the second's output count, or what was found: "every other refusal changes nothing"
abbrev pub written_after : Outcome ChainAnswer → ℕ → ℕ
written_after (refused n) found = found
written_after (accepted a) found = a.count

-- the first's status, likewise
abbrev pub first_after : Outcome ChainAnswer → ℕ → ℕ
first_after (refused n) found = found
first_after (accepted a) found = status_code a.first

-- what a call answers and leaves
pub record ChainFace : Type 0 where
  pub answer : ℕ
  pub first : SessionNumbers
  pub uses₁ : List ℕ
  pub second : SessionNumbers
  pub uses₂ : List ℕ
  pub middle : List ℕ
  pub output : List ℕ
  pub written : ℕ
  pub status₁ : ℕ

abbrev pub left : ℕ → SessionNumbers → List ℕ → SessionNumbers → List ℕ → List ℕ → List ℕ → ℕ → ℕ → ChainFace
left answer first uses₁ second uses₂ middle output written status₁ =
    record {
      answer = answer;
      first = first;
      uses₁ = uses₁;
      second = second;
      uses₂ = uses₂;
      middle = middle;
      output = output;
      written = written;
      status₁ = status₁;
    }

-- a call's outcome, where the number written and the first's status were found so
abbrev pub face_of : ChainOutcome → ℕ → ℕ → ChainFace
face_of o written status₁ =
    left (answer_code o.answer) (numbers_of o.first) o.first.uses (numbers_of o.second) o.second.uses o.middle o.output
    (written_after o.answer written) (first_after o.answer status₁)

-- a call of the sessions that the numbers and the counts of uses are, with the middle buffer, the number written and the first's status as found.
-- Numbers with a status above 2 are no session's: "12 session not sound", after 11 of both, and nothing is changed.
abbrev pub called_by : List ℕ → SessionNumbers → List ℕ → List ℕ → SessionNumbers → List ℕ → Call → List ℕ → ℕ → ℕ → ChainFace
called_by w₁ n₁ uses₁ w₂ n₂ uses₂ call middle written status₁ =
    cond (ltb 2 n₁.status || ltb 2 n₂.status)
    (left (no_session (sound w₁ && sound w₂)) n₁ uses₁ n₂ uses₂ middle (buffer_of call) written status₁)
    (face_of (chained w₁ w₂ (session_from n₁ uses₁) (session_from n₂ uses₂) (record { call = call; middle = middle })) written status₁)

-- words and session in its two parts of the first, then of the second, piece, middle buffer, output buffer, number written and first's status as found
unfoldable pub feed : List ℕ → SessionNumbers → List ℕ → List ℕ → SessionNumbers → List ℕ → List ℕ → List ℕ → List ℕ → ℕ → ℕ → ChainFace
feed w₁ n₁ uses₁ w₂ n₂ uses₂ piece middle buffer written status₁ = called_by w₁ n₁ uses₁ w₂ n₂ uses₂ (of_feed piece buffer) middle written status₁

unfoldable pub finish : List ℕ → SessionNumbers → List ℕ → List ℕ → SessionNumbers → List ℕ → List ℕ → List ℕ → ℕ → ℕ → ChainFace
finish w₁ n₁ uses₁ w₂ n₂ uses₂ middle buffer written status₁ = called_by w₁ n₁ uses₁ w₂ n₂ uses₂ (of_finish buffer) middle written status₁
