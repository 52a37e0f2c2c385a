-- What the check's answer means: for a live rule the input, and none for a dead one; places that are not in use are 0.
use Rattle.std.specs.Prelude.{List, ℕ, length, option_map}
use Rattle.std.specs.Prelude.{Option}
use Rattle.lists.specs.Lists.{pad}
use Rattle.meaning.specs.Refusal.{Outcome, refused, accepted}
use Rattle.witness.specs.declared.check.Input.{Input}

-- an input's length and its nine places
abbrev pub input_of : List ℕ → Input
input_of v = record { length = length v; characters = pad 9 v }

abbrev pub judged : Outcome (Option (List ℕ)) → Outcome (Option Input)
judged (refused n) = refused n
judged (accepted v) = accepted (option_map input_of v)
