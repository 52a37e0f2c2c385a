-- What the C functions answer and leave for each outcome of the table check, compiling, direct conversion and the test of words.
use Rattle.std.specs.Prelude.{Bool, cond, ℕ}
use Rattle.meaning.specs.Refusal.{Outcome, refused, accepted}
use Rattle.meaning.specs.Direct.{Converted}

-- 0 for a table that the check or compiling accepts; "A refusal answers its number"
abbrev pub check_code : Outcome (Unit {0}) → ℕ
check_code (refused n) = n
check_code (accepted u) = 0

-- "answers closed or stopped": 0 for closed, 64, which no refusal has, for stopped; "A refusal answers its number"
abbrev pub code_of : Outcome Converted → ℕ
code_of (refused n) = n
code_of (accepted c) = cond c.closed 0 64

-- "the place", or what was found: "every other refusal changes nothing"
abbrev pub place_of : Outcome Converted → ℕ → ℕ
place_of (refused n) found = found
place_of (accepted c) found = c.place

-- "the output count", or what was found
abbrev pub written_of : Outcome Converted → ℕ → ℕ
written_of (refused n) found = found
written_of (accepted c) found = c.count

-- 0 for a typed text that is accepted; "A refusal answers its number"
abbrev pub typed_code : Outcome ℕ → ℕ
typed_code (refused n) = n
typed_code (accepted size) = 0

-- "the answer is their length in bytes", or what was found
abbrev pub length_of : Outcome ℕ → ℕ → ℕ
length_of (refused n) found = found
length_of (accepted size) found = size

-- 1 for "Sound words", 0 for words that are not
abbrev pub sound_code : Bool → ℕ
sound_code sound = cond sound 1 0
