-- Request [4] of document 02, "Rules typed at the station": what holds of every text, every lent buffer, and what the unit answers and leaves.
use Rattle.std.specs.Prelude.{List, [], ◌∷◌, ◌≡◌, ℕ, length, take}
use Rattle.lists.specs.Lists.{Each}
use Rattle.meaning.specs.Refusal.{Outcome, accepted, RefusedBy}
use Rattle.meaning.specs.Table.{Characters, Table}
use Rattle.meaning.specs.Value.{IsCharacter}
use Rattle.meaning.specs.Meaning.{convert, meaning_text, meaning_place}
use Rattle.meaning.specs.Claims.{Keeps}
use Rattle.expression.specs.Value.{value_at}
use Rattle.typed.specs.Grammar.{Line, TypedText}
use Rattle.typed.specs.Meaning.{expressions, choices, typed_text, typed_place}
use Rattle.typed.specs.Typed.{FromText}

-- For every text and buffer there is one answer and one buffer left, and no other.
pub record Determined (text buffer : List ℕ) : Type 0 where
  pub answer : Outcome ℕ
  pub later : List ℕ
  pub meets : FromText text buffer answer later
  pub alone : (a : Outcome ℕ) (l : List ℕ) → FromText text buffer a l → (a ≡ answer) × (l ≡ later)

-- "Converting under those records is what the text means, with expressions read over whole numbers": for every input, the text and the place where
-- the conversion ended, closed or stopped; the values written are the expressions' own
pub record Converted (ls : List Line) (t : Table) (input : List ℕ) : Type 0 where
  pub text : meaning_text t input ≡ typed_text ls input
  pub place : meaning_place t input ≡ typed_place ls input
  pub closed : (convert t input).closed ≡ (choices ls input).closed
  pub values : Characters input → Each (λ e. Each (λ x. IsCharacter (value_at e.word x)) (expressions ls e.group)) (choices ls input).log

pub record Follows (text buffer : List ℕ) (answer : Outcome ℕ) (later : List ℕ) : Type 0 where
  -- of 1 to 7, 1 and 4 never come of a text
  pub numbered : Characters text → RefusedBy (2 ∷ 3 ∷ 5 ∷ 6 ∷ 7 ∷ 15 ∷ 16 ∷ 17 ∷ []) answer
  pub whole : length later ≡ length buffer
  -- the records that were written are those of a table that keeps the rules of document 01, and converts as the text means
  pub meant : Characters text → (n : ℕ) (ls : List Line) → answer ≡ accepted n → TypedText text ls →
      (t : Table) × Keeps (take n later) t × ((input : List ℕ) → Converted ls t input)

pub record TypedRules : Type 0 where
  -- the grammar gives a text no two lists of lines
  pub one_reading : (text : List ℕ) (ls ms : List Line) → TypedText text ls → TypedText text ms → ls ≡ ms
  pub determined : (text buffer : List ℕ) → Determined text buffer
  pub follows : (text buffer : List ℕ) (answer : Outcome ℕ) (later : List ℕ) → FromText text buffer answer later → Follows text buffer answer later
