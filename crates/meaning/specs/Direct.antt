-- "Direct conversion": what it answers and leaves.
use Rattle.std.specs.Prelude.{Bool, List, [], ◌∷◌, ◌++◌, ℕ, ◌*◌, ◌^◌, ltb, length, drop}
use Rattle.lists.specs.Decide.{select}
use Rattle.meaning.specs.Refusal.{Outcome, refused, accepted, and_then}
use Rattle.meaning.specs.Table.{Table, expansion}
use Rattle.meaning.specs.Reader.{read_table}
use Rattle.meaning.specs.Meaning.{convert, meaning_text, meaning_place}

-- the most characters that one conversion takes: 1,099,511,627,776
abbrev pub limit : ℕ
limit = 2 ^ 40

-- "answers closed or stopped, the place and the output count"
pub record Converted : Type 0 where
  pub closed : Bool
  pub place : ℕ
  pub count : ℕ

pub record DirectOutcome : Type 0 where
  pub answer : Outcome Converted
  pub output : List ℕ

-- the text at the buffer's start; what is beyond stays as found
abbrev pub over : List ℕ → List ℕ → List ℕ
over text buffer = text ++ drop (length text) buffer

-- "Direct 1 to 7, 14, 15": the table, or the refusal
unfoldable pub admitted : List ℕ → ℕ → ℕ → Outcome Table
admitted b n room =
    and_then (read_table b) (λ t. select ((ltb limit n, refused 14) ∷ (ltb room (expansion t * n), refused 15) ∷ []) (accepted t))

abbrev pub direct_by : Outcome Table → List ℕ → List ℕ → DirectOutcome
direct_by (refused n) input buffer = record { answer = refused n; output = buffer }
direct_by (accepted t) input buffer =
    let text = meaning_text t input in
    record {
      answer = accepted (record { closed = (convert t input).closed; place = meaning_place t input; count = length text });
      output = over text buffer;
    }

-- the table check alone
abbrev pub checked : List ℕ → Outcome (Unit {0})
checked b = and_then (read_table b) (λ t. accepted tt)

-- table, input, output buffer as found
unfoldable pub direct : List ℕ → List ℕ → List ℕ → DirectOutcome
direct b input buffer = direct_by (admitted b (length input) (length buffer)) input buffer
