-- Sessions as C holds them, and what feed, finish and preview answer and leave there.
use Rattle.std.specs.Prelude.{Bool, cond, List, ℕ, eqb, ltb}
use Rattle.meaning.specs.Refusal.{Outcome, refused, accepted}
use Rattle.automaton.specs.Sound.{sound}
use Rattle.reckoning.specs.Machine.{Status, Open, Closed, Stopped}
use Rattle.reckoning.specs.Session.{Session}
use Rattle.reckoning.specs.Calls as Call
use Rattle.reckoning.specs.Calls.{Answer, CallOutcome}
use Rattle.reckoning.specs.Preview as Preview
use Rattle.reckoning.specs.Preview.{Seen}
use Rattle.cobbletwill.specs.declared.sessions.SessionNumbers.{SessionNumbers}

-- "a status (open, closed, stopped)" as it is kept
abbrev pub status_number : Status → ℕ
status_number Open = 0
status_number Closed = 1
status_number Stopped = 2

-- the status of a number up to 2
abbrev pub status_from : ℕ → Status
status_from n = cond (eqb n 0) Open (cond (eqb n 1) Closed Stopped)

-- the session that numbers with a status up to 2 and counts of uses are
abbrev pub session_from : SessionNumbers → List ℕ → Session
session_from n uses =
    record {
      status = status_from n.status;
      state = n.state;
      held = n.held;
      count = n.held_count;
      received = n.received;
      produced = n.tally.produced;
      steps = n.tally.steps;
      uses = uses;
    }

-- a session's numbers without its counts of uses, which are lent by themselves
abbrev pub numbers_of : Session → SessionNumbers
numbers_of s =
    record {
      received = s.received;
      tally = record { produced = s.produced; steps = s.steps };
      status = status_number s.status;
      state = s.state;
      held_count = s.count;
      held = s.held;
    }

-- "answer its count and the status": 0 and 64 as direct conversion answers them, 65 for a session that waits for more
abbrev pub status_code : Status → ℕ
status_code Open = 65
status_code Closed = 0
status_code Stopped = 64

-- "A refusal answers its number"
abbrev pub answer_code : Outcome Answer → ℕ
answer_code (refused n) = n
answer_code (accepted a) = status_code a.status

-- "its count", or what was found: "every other refusal changes nothing"
abbrev pub written_after : Outcome Answer → ℕ → ℕ
written_after (refused n) found = found
written_after (accepted a) found = a.count

-- what a call answers and leaves
pub record CalledFace : Type 0 where
  pub answer : ℕ
  pub session : SessionNumbers
  pub uses : List ℕ
  pub output : List ℕ
  pub written : ℕ

abbrev pub left : ℕ → SessionNumbers → List ℕ → List ℕ → ℕ → CalledFace
left answer session uses output written = record { answer = answer; session = session; uses = uses; output = output; written = written }

-- a call's outcome, where the number written was found so
abbrev pub face_of : CallOutcome → ℕ → CalledFace
face_of o found = left (answer_code o.answer) (numbers_of o.session) o.session.uses o.output (written_after o.answer found)

-- numbers with a status above 2 are no session's: "12 session not sound", after "11 under 19,961 words or not sound"
abbrev pub no_session : Bool → ℕ
no_session sound_words = cond sound_words 12 11

-- a call of the session that the numbers and the counts of uses are; where they are none's, a refusal that changes nothing
abbrev pub called_by : (Session → CallOutcome) → List ℕ → SessionNumbers → List ℕ → List ℕ → ℕ → CalledFace
called_by call w n uses buffer found =
    cond (ltb 2 n.status) (left (no_session (sound w)) n uses buffer found) (face_of (call (session_from n uses)) found)

-- words, session in its two parts, piece, output buffer and number written as found
unfoldable pub feed : List ℕ → SessionNumbers → List ℕ → List ℕ → List ℕ → ℕ → CalledFace
feed w n uses piece buffer found = called_by (λ s. Call.feed w s piece buffer) w n uses buffer found

unfoldable pub finish : List ℕ → SessionNumbers → List ℕ → List ℕ → ℕ → CalledFace
finish w n uses buffer found = called_by (λ s. Call.finish w s buffer) w n uses buffer found

-- what a preview answers and leaves: the later session in its two parts, and the number that a feed would write (request [5])
pub record PreviewedFace : Type 0 where
  pub answer : ℕ
  pub later : SessionNumbers
  pub uses : List ℕ
  pub written : ℕ

abbrev pub previewed : ℕ → SessionNumbers → List ℕ → ℕ → PreviewedFace
previewed answer later uses written = record { answer = answer; later = later; uses = uses; written = written }

-- a preview's outcome, where these were found so: "It is refused as feed is", and then changes nothing
abbrev pub preview_face : Outcome Seen → SessionNumbers → List ℕ → ℕ → PreviewedFace
preview_face (refused k) later uses found = previewed k later uses found
preview_face (accepted s) later uses found = previewed (status_code s.status) (numbers_of s.session) s.session.uses s.count

-- words, session in its two parts, piece; the later session in its two parts and the number written as found
unfoldable pub preview : List ℕ → SessionNumbers → List ℕ → List ℕ → SessionNumbers → List ℕ → ℕ → PreviewedFace
preview w n uses piece later later_uses found =
    cond (ltb 2 n.status) (previewed (no_session (sound w)) later later_uses found)
    (preview_face (Preview.preview w (session_from n uses) piece) later later_uses found)
