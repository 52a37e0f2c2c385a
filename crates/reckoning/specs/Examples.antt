-- "Examples": the eleven lines marked P, and two of request [1], as rows, and the test of a row.
use Rattle.std.specs.Prelude.{Bool, true, false, List, [], ◌∷◌, ℕ, ◌*◌, eqb, length}
use Prim.Native.String.{String}
use Rattle.lists.specs.Lists.{same_list}
use Rattle.lists.specs.Decide.{all_of}
use Rattle.meaning.specs.Refusal.{Outcome, refused, accepted}
use Rattle.meaning.specs.Table.{Table}
use Rattle.meaning.specs.Meaning.{text_of, covered, convert, meaning_text, meaning_place}
use Rattle.meaning.specs.Samples.{characters, t1, t1_with, t2, t3, t3_with, default_of, two_digits, four_digits}
use Rattle.automaton.specs.Classes.{starts}
use Rattle.automaton.specs.States.{states}
use Rattle.automaton.specs.Layout.{word_count, words}
use Rattle.automaton.specs.Compile.{compilable}
use Rattle.automaton.specs.Automaton.{Automaton, from_table, from_words}
use Rattle.reckoning.specs.Machine.{Status, Open, Closed, Stopped, start, run}

-- what a line says of an accepted table: its records, classes and states, and what becomes of an input
pub record Report : Type 0 where
  pub records : ℕ
  pub classes : ℕ
  pub states : ℕ
  pub text : String
  pub status : Status
  pub place : ℕ
  pub steps : ℕ

pub record Row : Type 0 where
  pub table : List ℕ
  pub input : String
  pub report : Outcome Report

unfoldable pub same_status : Status → Status → Bool
same_status Open s = false
same_status Closed Open = false
same_status Closed Closed = true
same_status Closed Stopped = false
same_status Stopped Open = false
same_status Stopped Closed = false
same_status Stopped Stopped = true

abbrev ending : Bool → Status
ending true = Closed
ending false = Stopped

module _ (input : List ℕ) (r : Report) where
  -- the machine over an automaton
  unfoldable pub runs_to : Automaton → Bool
  runs_to m =
      let e = run m true (start [] input 0) in
      all_of (
      same_list (text_of m.write e.final.log) (characters r.text)
      ∷ same_status e.status r.status
      ∷ eqb (covered e.final.log) r.place
      ∷ eqb e.final.steps r.steps
      ∷ [])

  -- Definition 7
  unfoldable pub converts_to : Table → Bool
  converts_to t =
      all_of (
      same_list (meaning_text t input) (characters r.text)
      ∷ same_status (ending (convert t input).closed) r.status
      ∷ eqb (meaning_place t input) r.place
      ∷ [])

  unfoldable pub reports : List ℕ → Table → Bool
  reports b t =
      all_of (
      eqb (length b) (8 * r.records)
      ∷ eqb (length (starts t)) r.classes
      ∷ eqb (length (states t)) r.states
      ∷ converts_to t
      ∷ runs_to (from_table t)
      ∷ runs_to (from_words (words t))
      ∷ [])

-- the table is refused by the row's number, or what becomes of the input is what the row reports
unfoldable pub holds : Row → Bool
holds row =
    elim row.report [
      | refused n ↦ elim (compilable row.table word_count) [ refused k ↦ eqb n k | accepted t ↦ false ]
      | accepted r ↦ elim (compilable row.table word_count) [ refused k ↦ false | accepted t ↦ reports (characters row.input) r row.table t ]
    ]

-- table, input; records, classes, states; text, status, place, steps
abbrev line : List ℕ → String → ℕ → ℕ → ℕ → String → Status → ℕ → ℕ → Row
line b input n c s out status place steps =
    record { table = b; input = input; report = accepted (record { records = n; classes = c; states = s; text = out; status = status; place = place; steps = steps }) }

abbrev refusal : List ℕ → ℕ → Row
refusal b n = record { table = b; input = ""; report = refused n }

unfoldable pub rows : List Row
rows =
    line t1 "&&#00;&#38;&#" 28 10 9 "&&#00;&&#" Closed 13 20
    ∷ line t1 "" 28 10 9 "" Closed 0 1
    ∷ line t1 "&#" 28 10 9 "&#" Closed 2 4
    ∷ line t1 "&#4" 28 10 9 "&#4" Closed 3 13
    ∷ line t2 "a" 6 3 2 "X" Closed 1 3
    ∷ line t2 "aa" 6 3 2 "YX" Closed 2 5
    ∷ line t2 "ab" 6 3 2 "Y" Stopped 1 4
    ∷ line t3 "aba" 12 4 3 "1a" Closed 3 8
    ∷ refusal (t1_with 529) 7
    ∷ line (t3_with (default_of 65535 65535)) "" 12 4 3 "" Closed 0 1
    ∷ refusal (t3_with (default_of 1 1)) 7
    ∷ line two_digits "IJ©ª" 4 2 2 "494AA9AA" Closed 4 9
    ∷ line four_digits "骩ꦚ" 6 1 2 "9AA9A99A" Closed 2 5
    ∷ []
