-- What a call of the session leaves for the program to print.
use Rattle.std.specs.Prelude.{Result, Ok, Err, ℕ, ◌≤◌}
use Rattle.rules.specs.declared.refusal.Refusal.{Refusal}
use Rattle.session.specs.declared.call.Written.{Written}

-- the characters that the call wrote lie within a buffer of so much room
abbrev pub Counted : Result Written Refusal → ℕ → Type 0
Counted (Ok x) room = x.count ≤ room
Counted (Err r) room = Unit {0}
