-- What the code's progress means.
use Rattle.std.specs.Prelude.{Result, ℕ}
use Rattle.rules.specs.Answers.{outcome_of}
use Rattle.rules.specs.declared.refusal.Refusal.{Refusal}
use Rattle.session.specs.Keeping.{session_of}
use Rattle.session.specs.declared.kept.Session.{Session}
use Rattle.station.specs.Two.{Turn}
use Rattle.station.specs.declared.two.Progress.{Progress}

-- what the calls so far answer, the session that they left, and how many characters of the output are written
abbrev pub turn_at : Result (Unit {0}) Refusal → Session → ℕ → Turn
turn_at a s k = record { answer = outcome_of a; session = session_of s; written = k }

abbrev pub turn_of : Progress → Turn
turn_of p = turn_at p.answer p.session p.written
