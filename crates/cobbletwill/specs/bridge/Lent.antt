-- What is kept, as numbers, and what C holds of a session after a call.
use Rattle.std.specs.Prelude.{List, [], ◌≡◌, ℕ, Result, Ok, Err}
use Rattle.rules.specs.declared.refusal.Refusal.{Refusal}
use Rattle.session.specs.Keeping.{together, session_of}
use Rattle.session.specs.declared.kept.Kept.{Kept}
use Rattle.session.specs.declared.call.Went.{Went}
use Rattle.cobbletwill.specs.Sessions.{session_from, numbers_of}
use Rattle.cobbletwill.specs.declared.sessions.SessionNumbers.{SessionNumbers}

-- what is kept is what the numbers say, whatever the counts of uses
abbrev pub Keeps : SessionNumbers → Kept → Type 0
Keeps n kept = (uses : List ℕ) → session_of (together kept uses) ≡ session_from n uses

-- the numbers of the session that the call leaves, and where it is refused, those found
abbrev pub session_after : Result (Went Kept) Refusal → SessionNumbers → SessionNumbers
session_after (Ok x) found = numbers_of (session_of (together x.left []))
session_after (Err r) found = found
