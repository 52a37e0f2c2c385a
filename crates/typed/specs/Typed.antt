-- Request [4] of document 02, "Rules typed at the station": what the unit answers for a text and leaves in a lent buffer, one field a sentence.
use Rattle.std.specs.Prelude.{true, false, List, ◌↔◌, ◌≡◌, ℕ, ◌≤◌, ◌<◌, length}
use Rattle.meaning.specs.Refusal.{Outcome, refused, accepted}
use Rattle.meaning.specs.Table.{Table}
use Rattle.meaning.specs.Reader.{read_table}
use Rattle.meaning.specs.Direct.{over}
use Rattle.typed.specs.Grammar.{Line, TypedText}
use Rattle.typed.specs.Records.{lines_within17, records}

-- the text's lines, with no expression that 17 refuses
pub record Reckoned (text : List ℕ) (ls : List Line) : Type 0 where
  pub grammar : TypedText text ls
  pub within : lines_within17 ls ≡ true

-- what a lent buffer is asked besides
pub record Accepted (text buffer : List ℕ) (ls : List Line) (t : Table) : Type 0 where
  pub lines : Reckoned text ls
  pub check : read_table (records ls) ≡ accepted t
  pub room : length (records ls) ≤ length buffer

-- "16: text outside this grammar, found first. 17: .. Then 2 to 7, then 15": each answer says what it should, and nothing else is so answered.
pub record AnswersTyped (text buffer : List ℕ) (answer : Outcome ℕ) : Type 0 where
  pub outside : (answer ≡ refused 16) ↔ ((ls : List Line) → TypedText text ls → ⊥)
  pub beyond : (answer ≡ refused 17) ↔ ((ls : List Line) × TypedText text ls × (lines_within17 ls ≡ false))
  pub table : (n : ℕ) → n ≤ 7 → (answer ≡ refused n) ↔ ((ls : List Line) × Reckoned text ls × (read_table (records ls) ≡ refused n))
  pub no_room : (answer ≡ refused 15)
      ↔ ((ls : List Line) × (t : Table) × Reckoned text ls × (read_table (records ls) ≡ accepted t) × (length buffer < length (records ls)))
  -- "the answer is their length in bytes"
  pub taken : (n : ℕ) → (answer ≡ accepted n) ↔ ((ls : List Line) × (t : Table) × Accepted text buffer ls t × (n ≡ length (records ls)))

-- "a refused text writes nothing"; an accepted one the records, and what is beyond stays as found
pub record WritesTyped (text buffer : List ℕ) (answer : Outcome ℕ) (later : List ℕ) : Type 0 where
  pub unchanged : (n : ℕ) → answer ≡ refused n → later ≡ buffer
  pub written : (n : ℕ) (ls : List Line) → answer ≡ accepted n → TypedText text ls → later ≡ over (records ls) buffer

-- of text and buffer as found, the answer and the buffer left
pub record FromText (text buffer : List ℕ) (answer : Outcome ℕ) (later : List ℕ) : Type 0 where
  pub answers : AnswersTyped text buffer answer
  pub writes : WritesTyped text buffer answer later
