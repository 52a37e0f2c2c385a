-- Demands 1 and 2 in C's numbers, for the table check, direct conversion and compiling, each known by its contract alone, one field a sentence.
use Rattle.std.specs.Prelude.{cond, List, [], ◌∷◌, ◌++◌, ◌≢◌, ◌↔◌, ◌≡◌, ℕ, ◌≤◌, T, eqb, length, take, drop}
use Rattle.lists.specs.Lists.{any, pad}
use Rattle.meaning.specs.Refusal.{refused}
use Rattle.meaning.specs.Table.{Table}
use Rattle.meaning.specs.Reader.{read_table}
use Rattle.meaning.specs.Records.{Bytes}
use Rattle.meaning.specs.Meaning.{convert, meaning_text, meaning_place}
use Rattle.meaning.specs.Claims.{Keeps, Lengths}
use Rattle.automaton.specs.Layout as Layout
use Rattle.automaton.specs.Layout.{word_count}
use Rattle.automaton.specs.Claims.{KeepsCompiling}
use Rattle.cobbletwill.specs.Promised.{Checks, Converts, Compiles}

-- the table check
pub record CheckFace (table : List ℕ) (answer : ℕ) : Type 0 where
  -- "an accepted answer or one of the numbered refusals"
  pub numbered : T (any (eqb answer) (0 ∷ 1 ∷ 2 ∷ 3 ∷ 4 ∷ 5 ∷ 6 ∷ 7 ∷ []))
  -- "A refusal answers its number."
  pub refusals : (n : ℕ) → n ≢ 0 → (answer ≡ n) ↔ (read_table table ≡ refused n)
  -- "a table is accepted ... exactly when it keeps the rules set there"
  pub keeping : (t : Table) → Keeps table t → answer ≡ 0
  pub accepting : Bytes table → answer ≡ 0 → (t : Table) × Keeps table t

unfoldable pub ChecksAnswer : Type 0
ChecksAnswer = (table : List ℕ) (answer : ℕ) → Checks table answer → CheckFace table answer

-- direct conversion, which found these in the buffer, the place and the number written, and left the others
pub record ConvertFace (table input buffer : List ℕ) (place written answer : ℕ) (output : List ℕ) (reached count : ℕ) : Type 0 where
  pub numbered : T (any (eqb answer) (0 ∷ 64 ∷ 1 ∷ 2 ∷ 3 ∷ 4 ∷ 5 ∷ 6 ∷ 7 ∷ 14 ∷ 15 ∷ []))
  -- "every other refusal changes nothing"
  pub unchanged : answer ≢ 0 → answer ≢ 64 → (output ≡ buffer) × (reached ≡ place) × (count ≡ written)
  -- "Words beyond those written stay as found."
  pub beyond : drop count output ≡ drop count buffer
  pub whole : length output ≡ length buffer
  -- "Direct conversion of an input under an accepted table then gives the text, and the stopping place if it stops, of Definition 7"
  pub converts : (t : Table) → Keeps table t → Lengths t input buffer →
      (answer ≡ cond (convert t input).closed 0 64) × (reached ≡ meaning_place t input) × (take count output ≡ meaning_text t input)
  pub accepting : Bytes table → T (any (eqb answer) (0 ∷ 64 ∷ [])) → (t : Table) × Keeps table t × Lengths t input buffer

unfoldable pub ConvertsAnswer : Type 0
ConvertsAnswer =
    (table input buffer : List ℕ) (place written answer : ℕ) (output : List ℕ) (reached count : ℕ) →
    Converts table input buffer place written answer output reached count → ConvertFace table input buffer place written answer output reached count

-- compiling, which found the buffer and left the words
pub record CompileFace (table buffer : List ℕ) (answer : ℕ) (words : List ℕ) : Type 0 where
  pub numbered : T (any (eqb answer) (0 ∷ 10 ∷ 1 ∷ 2 ∷ 3 ∷ 4 ∷ 5 ∷ 6 ∷ 7 ∷ 8 ∷ 9 ∷ []))
  -- "Compiling refused by 1 to 9 leaves its 19,961 words zero; every other refusal changes nothing. Words beyond those written stay as found."
  pub zeros : answer ≢ 0 → answer ≢ 10 → words ≡ pad word_count [] ++ drop word_count buffer
  pub unchanged : answer ≡ 10 → words ≡ buffer
  pub beyond : drop word_count words ≡ drop word_count buffer
  -- "a table is accepted, for compiling ..., exactly when it keeps the rules set there for that use"
  pub keeping : (t : Table) → KeepsCompiling table t → word_count ≤ length buffer →
      (answer ≡ 0) × (words ≡ Layout.words t ++ drop word_count buffer)
  pub accepting : Bytes table → answer ≡ 0 → (t : Table) × KeepsCompiling table t × (word_count ≤ length buffer)

unfoldable pub CompilesAnswer : Type 0
CompilesAnswer =
    (table buffer : List ℕ) (answer : ℕ) (words : List ℕ) → Compiles table buffer answer words → CompileFace table buffer answer words
