-- What the program prints, as bytes.
use Rattle.std.specs.Prelude.{cond, List, [], ◌∷◌, ◌++◌, ◌≡◌, ℕ, ◌+◌, ◌/◌, ◌%◌, ltb, take}
use Rattle.io.specs.Digits.{last_digits, IsDigitCount}
use Rattle.lists.specs.Lists.{flat_map}
use Rattle.meaning.specs.Refusal.{Outcome, refused, accepted}
use Rattle.reckoning.specs.Machine.{Status, Open, Closed, Stopped}
use Rattle.reckoning.specs.Session.{Session, consumed}
use Rattle.reckoning.specs.Calls.{Answer, CallOutcome}

-- the code of a digit below 16: `0` to `9`, then `A` to `F`
abbrev pub hex_digit : ℕ → ℕ
hex_digit d = cond (ltb d 10) (48 + d) (55 + d)

-- "four upper-case hexadecimal digits on a line"
abbrev pub hex_line : ℕ → List ℕ
hex_line c = hex_digit (c / 4096) ∷ hex_digit (c / 256 % 16) ∷ hex_digit (c / 16 % 16) ∷ hex_digit (c % 16) ∷ 10 ∷ []

-- "prints each output character"
unfoldable pub hex_lines : List ℕ → List ℕ
hex_lines cs = flat_map hex_line cs

-- the number in decimal, without needless zeros
pub record Decimal (n : ℕ) (text : List ℕ) : Type 0 where
  pub places : ℕ
  pub fewest : IsDigitCount 10 1 n places
  pub spelled : text ≡ last_digits 10 places n

-- "with single blanks": a text, a blank and the number
pub record Numbered (before : List ℕ) (n : ℕ) (after : List ℕ) : Type 0 where
  pub number : List ℕ
  pub decimal : Decimal n number
  pub text : after ≡ before ++ 32 ∷ number

-- "on one line, with single blanks," a word, "consumed, steps"
pub record EndLine (word : List ℕ) (consumed steps : ℕ) (line : List ℕ) : Type 0 where
  pub first : List ℕ
  pub consumes : Numbered word consumed first
  pub second : List ℕ
  pub takes : Numbered first steps second
  pub text : line ≡ second ++ 10 ∷ []

-- the last line, which a session that is still open doesn't have: `end` for a closed one, `stop` for a stopped one
abbrev pub StatusLine : Status → ℕ → ℕ → List ℕ → Type 0
StatusLine Open consumed steps line = line ≡ []
StatusLine Closed consumed steps line = EndLine (101 ∷ 110 ∷ 100 ∷ []) consumed steps line
StatusLine Stopped consumed steps line = EndLine (115 ∷ 116 ∷ 111 ∷ 112 ∷ []) consumed steps line

-- "likewise, `refused` and the number"
pub record RefusalLine (number : ℕ) (line : List ℕ) : Type 0 where
  pub first : List ℕ
  pub refuses : Numbered (114 ∷ 101 ∷ 102 ∷ 117 ∷ 115 ∷ 101 ∷ 100 ∷ []) number first
  pub text : line ≡ first ++ 10 ∷ []

-- what is printed for an accepted call: the lines of the characters that it wrote, then the last line, and nothing behind
pub record AcceptedLines (characters : List ℕ) (status : Status) (consumed steps : ℕ) (printed : List ℕ) : Type 0 where
  pub line : List ℕ
  pub last : StatusLine status consumed steps line
  pub text : printed ≡ hex_lines characters ++ line

-- what is printed for an answer, with the session and the buffer that the call left
abbrev pub PrintedFor : Outcome Answer → Session → List ℕ → List ℕ → Type 0
PrintedFor (accepted a) session output printed =
    AcceptedLines (take a.count output) a.status (consumed session) session.steps printed
PrintedFor (refused n) session output printed = RefusalLine n printed

-- what is printed for a feed or a finish
abbrev pub Printed : CallOutcome → List ℕ → Type 0
Printed o printed = PrintedFor o.answer o.session o.output printed
