-- What the contracts of feed, finish and preview say: the code's answer, session and buffer are those of the outcome functions.
use Rattle.std.specs.Prelude.{List, ◌≡◌, ℕ, Result, Ok, Err}
use Rattle.meaning.specs.Refusal.{Outcome}
use Rattle.rules.specs.Answers.{outcome_by}
use Rattle.rules.specs.declared.refusal.Refusal.{Refusal}
use Rattle.reckoning.specs.Calls as Spec
use Rattle.reckoning.specs.Calls.{CallOutcome, feed, finish}
use Rattle.reckoning.specs.Preview.{seen_by, preview}
use Rattle.session.specs.Keeping.{meant_status, session_of}
use Rattle.session.specs.declared.kept.Session.{Session}
use Rattle.session.specs.declared.call.Written.{Written}
use Rattle.session.specs.declared.call.Went.{Went}

-- "answer its count and the status"
abbrev pub meant_written : Written → Spec.Answer
meant_written x = record { count = x.count; status = meant_status x.status }

-- "A refusal answers its number"
abbrev pub answer_of : Result Written Refusal → Outcome Spec.Answer
answer_of a = outcome_by meant_written a

-- the code's answer, and the session and the buffer as the call left them
abbrev pub outcome_of : Result Written Refusal → Session → List ℕ → CallOutcome
outcome_of a s buffer = record { answer = answer_of a; session = session_of s; output = buffer }

-- The contract of feed: words, session, piece and buffer as found; answer, session and buffer as left.
abbrev pub Feeds : List ℕ → Session → List ℕ → List ℕ → Result Written Refusal → Session → List ℕ → Type 0
Feeds w s piece buffer a later output = outcome_of a later output ≡ feed w (session_of s) piece buffer

-- The contract of finish, likewise.
abbrev pub Finishes : List ℕ → Session → List ℕ → Result Written Refusal → Session → List ℕ → Type 0
Finishes w s buffer a later output = outcome_of a later output ≡ finish w (session_of s) buffer

-- The contract of preview: words, session and piece as found; the answer and, where it is accepted, the later session.
abbrev pub Previews : List ℕ → Session → List ℕ → Result Written Refusal → Session → Type 0
Previews w s piece a later = seen_by (answer_of a) (session_of later) ≡ preview w (session_of s) piece

-- A call may answer besides what it leaves of the session, all of it or what is kept of the machine: its answer ..
abbrev pub written_of : {L : Type 0} → Result (Went L) Refusal → Result Written Refusal
written_of (Ok x) = Ok x.written
written_of (Err r) = Err r

-- .. and what it leaves, which is what it found where it is refused
abbrev pub left_of : {L : Type 0} → L → Result (Went L) Refusal → L
left_of found (Ok x) = x.left
left_of found (Err r) = found
