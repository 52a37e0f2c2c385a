-- What C holds of both sessions of a chain after a call.
use Rattle.std.specs.Prelude.{[], Result, Ok, Err}
use Rattle.rules.specs.declared.refusal.Refusal.{Refusal}
use Rattle.session.specs.Keeping.{together, session_of}
use Rattle.session.specs.declared.kept.Kept.{Kept}
use Rattle.chain.specs.declared.call.Went.{Went}
use Rattle.cobbletwill.specs.Sessions.{numbers_of}
use Rattle.cobbletwill.specs.declared.sessions.SessionNumbers.{SessionNumbers}

-- the numbers of those that the call leaves, and where it is refused, those found
abbrev pub sessions_after : Result (Went Kept) Refusal → SessionNumbers → SessionNumbers → SessionNumbers × SessionNumbers
sessions_after (Ok x) found₁ found₂ = (numbers_of (session_of (together x.first [])), numbers_of (session_of (together x.second [])))
sessions_after (Err r) found₁ found₂ = (found₁, found₂)
