-- What the program printed by demand 3, once its session is closed or stopped: Definition 7's text of the bytes that were read.
use Rattle.std.specs.Prelude.{Bool, true, List, ◌++◌, ◌≢◌, ◌↔◌, ◌≡◌, ℕ}
use Rattle.meaning.specs.Table.{Characters, Table}
use Rattle.meaning.specs.Meaning.{convert, meaning_text, meaning_place}
use Rattle.automaton.specs.Claims.{Compiled}
use Rattle.reckoning.specs.Machine.{Open, Closed}
use Rattle.reckoning.specs.Session.{Session}
use Rattle.reckoning.specs.Reckoning.{ran}
use Rattle.program.specs.Text.{hex_lines, StatusLine}
use Rattle.program.specs.Turns.{Turns}

-- "prints each output character as four upper-case hexadecimal digits on a line, then on one line, with single blanks, `end` or `stop`, consumed,
-- steps": of Definition 7's text and place, and the plain machine's steps, for the whole input
pub record Prints (t : Table) (input printed : List ℕ) (s : Session) : Type 0 where
  -- `end` exactly when the definition reaches the input's end
  pub closed : (s.status ≡ Closed) ↔ ((convert t input).closed ≡ true)
  pub line : List ℕ
  pub last : StatusLine s.status (meaning_place t input) (ran t input true).final.steps line
  pub text : printed ≡ hex_lines (meaning_text t input) ++ line

-- of every table that keeps the rules for compiling, and every list of turns under its words
unfoldable pub PrintsMeaning : Type 0
PrintsMeaning =
    (t : Table) (w : List ℕ) → Compiled t w →
    (input printed : List ℕ) (s : Session) (going : Bool) → Characters input → Turns w input printed s going →
    s.status ≢ Open → Prints t input printed s
