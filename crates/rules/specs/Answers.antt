-- What the code's answers mean: the paper's number and values for each case.
use Rattle.std.specs.Prelude.{ℕ, Bool, true, false, Result, Ok, Err}
use Rattle.meaning.specs.Refusal.{Outcome, refused, accepted}
use Rattle.meaning.specs.Direct.{Converted}
use Rattle.rules.specs.declared.convert.Conversion.{Conversion}
use Rattle.rules.specs.declared.convert.End.{End}
use Rattle.rules.specs.declared.refusal.Refusal.{Refusal}
use Rattle.rules.specs.declared.refusal.Refusal.TheVariants.{TableLength, Field, Place, Unfilled, NoRule, TooMany, Value, Classes, States, ShortWords, UnsoundWords, UnsoundSession, Ended, TooLong, ShortOutput, Grammar, Expression, ShortMiddle}

-- the number of a refusal in document 01 and in the requests
abbrev pub number_of : Refusal → ℕ
number_of TableLength = 1
number_of Field = 2
number_of Place = 3
number_of Unfilled = 4
number_of NoRule = 5
number_of TooMany = 6
number_of Value = 7
number_of Classes = 8
number_of States = 9
number_of ShortWords = 10
number_of UnsoundWords = 11
number_of UnsoundSession = 12
number_of Ended = 13
number_of TooLong = 14
number_of ShortOutput = 15
number_of Grammar = 16
number_of Expression = 17
number_of ShortMiddle = 18

-- "A refusal answers its number"; what was asked for is read by the given meaning
abbrev pub outcome_by : {A B : Type 0} → (A → B) → Result A Refusal → Outcome B
outcome_by mean (Ok a) = accepted (mean a)
outcome_by mean (Err r) = refused (number_of r)

-- the same where it needs no reading
abbrev pub outcome_of : {A : Type 0} → Result A Refusal → Outcome A
outcome_of (Ok a) = accepted a
outcome_of (Err r) = refused (number_of r)

-- "answers closed or stopped, the place and the output count"
abbrev pub is_closed : End → Bool
is_closed End.Closed = true
is_closed End.Stopped = false

abbrev pub converted_of : Conversion → Converted
converted_of c = record { closed = is_closed c.end; place = c.place; count = c.count }

abbrev pub conversion_of : Result Conversion Refusal → Outcome Converted
conversion_of = outcome_by converted_of

abbrev pub check_of : Result (Unit {0}) Refusal → Outcome (Unit {0})
check_of = outcome_of
