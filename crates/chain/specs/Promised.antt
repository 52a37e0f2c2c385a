-- What the contracts of a chain's feed and finish say (request [10]): the code's answer, sessions and buffers are those of the outcome function.
use Rattle.std.specs.Prelude.{List, ◌≡◌, ℕ, Result, Ok, Err}
use Rattle.meaning.specs.Refusal.{Outcome}
use Rattle.rules.specs.Answers.{outcome_by}
use Rattle.rules.specs.declared.refusal.Refusal.{Refusal}
use Rattle.reckoning.specs.Reckoning.{of_feed, of_finish}
use Rattle.reckoning.specs.Chain.{ChainAnswer, ChainOutcome, chained}
use Rattle.session.specs.Keeping.{meant_status, session_of}
use Rattle.session.specs.declared.kept.Session.{Session}
use Rattle.chain.specs.declared.call.Written.{Written}
use Rattle.chain.specs.declared.call.Went.{Went}

-- "each call answers the second's output count and both statuses"
abbrev pub meant_written : Written → ChainAnswer
meant_written x = record { count = x.count; first = meant_status x.first; second = meant_status x.second }

-- "A refusal answers its number"
abbrev pub answer_of : Result Written Refusal → Outcome ChainAnswer
answer_of a = outcome_by meant_written a

-- the code's answer, and both sessions, the middle buffer and the output buffer as the call left them
abbrev pub outcome_of : Result Written Refusal → Session → Session → List ℕ → List ℕ → ChainOutcome
outcome_of a first second middle output =
    record { answer = answer_of a; first = session_of first; second = session_of second; middle = middle; output = output }

-- The contract of feed: both words, both sessions, piece, middle buffer and output buffer as found; what it came to.
abbrev pub Feeds : List ℕ → List ℕ → Session → Session → List ℕ → List ℕ → List ℕ → ChainOutcome → Type 0
Feeds w₁ w₂ s₁ s₂ piece middle buffer o = o ≡ chained w₁ w₂ (session_of s₁) (session_of s₂) (record { call = of_feed piece buffer; middle = middle })

-- The contract of finish, likewise.
abbrev pub Finishes : List ℕ → List ℕ → Session → Session → List ℕ → List ℕ → ChainOutcome → Type 0
Finishes w₁ w₂ s₁ s₂ middle buffer o = o ≡ chained w₁ w₂ (session_of s₁) (session_of s₂) (record { call = of_finish buffer; middle = middle })

-- A call may answer besides what it leaves of both sessions, all of them or what is kept of the machines: its answer ..
abbrev pub written_of : {L : Type 0} → Result (Went L) Refusal → Result Written Refusal
written_of (Ok x) = Ok x.written
written_of (Err r) = Err r

-- .. and what it leaves, which is what it found where it is refused
abbrev pub first_of : {L : Type 0} → L → Result (Went L) Refusal → L
first_of found (Ok x) = x.first
first_of found (Err r) = found

abbrev pub second_of : {L : Type 0} → L → Result (Went L) Refusal → L
second_of found (Ok x) = x.second
second_of found (Err r) = found
