-- Demands 1 and 2 for the table check and for direct conversion, one field a sentence.
use Rattle.std.specs.Prelude.{List, [], ◌∷◌, ◌++◌, ◌≢◌, ◌↔◌, ◌≡◌, ℕ, ◌*◌, ◌%◌, ◌≤◌, ◌<◌, T, eqb, length, get_or, take, drop}
use Rattle.lists.specs.Lists.{any}
use Rattle.meaning.specs.Refusal.{refused, accepted, RefusedBy}
use Rattle.meaning.specs.Table.{Table, expansion}
use Rattle.meaning.specs.Value.{SafeTable, safe}
use Rattle.meaning.specs.Reader.{read_table}
use Rattle.meaning.specs.WellFormed.{WellFormed}
use Rattle.meaning.specs.Records.{Bytes, Records, Known, record_at}
use Rattle.meaning.specs.Meaning.{convert, meaning_text, meaning_place}
use Rattle.meaning.specs.Direct.{limit, Converted, direct}

-- "keeps the rules set there": the bytes are the records of a table, which is as document 01 asks, and every output value is a character for
-- every word that fits its group
pub record Keeps (b : List ℕ) (t : Table) : Type 0 where
  pub records : Records b t
  pub well_formed : WellFormed t
  pub values : SafeTable t

-- the bytes keep the rules but for an output value that may leave 0 to 65535
pub record Leaves (b : List ℕ) (t : Table) : Type 0 where
  pub records : Records b t
  pub well_formed : WellFormed t
  pub unsafe : SafeTable t → ⊥

-- Demand 2: "a table is accepted ... exactly when it keeps the rules set there". The bytes of a lent table are below 256 by their type.
pub record CheckAccepts (b : List ℕ) : Type 0 where
  pub keeping : (t : Table) → Keeps b t → read_table b ≡ accepted t
  pub accepting : Bytes b → (t : Table) → read_table b ≡ accepted t → Keeps b t
  -- and bytes are the records of one table only
  pub one_table : (t u : Table) → Keeps b t → Keeps b u → t ≡ u

-- what each refusal of the table's author says
pub record CheckRefuses (b : List ℕ) : Type 0 where
  -- 1 to 6: the bytes are the records of no table that is as document 01 asks
  pub records : (n : ℕ) → read_table b ≡ refused n → n ≤ 6 → (t : Table) → Records b t → WellFormed t → ⊥
  -- 2, 3 and 6, which are found at a record: nor are they with more records behind
  pub for_good : (n : ℕ) → read_table b ≡ refused n → T (any (eqb n) (2 ∷ 3 ∷ 6 ∷ [])) → (more : List ℕ) (t : Table) → Records (b ++ more) t → WellFormed t → ⊥
  -- 1: "length no multiple of 8"
  pub whole : (read_table b ≡ refused 1) ↔ (length b % 8 ≢ 0)
  -- 2: a record is of no kind
  pub unknown : read_table b ≡ refused 2 → (i : ℕ) × (8 * i < length b) × (Known (record_at b i) → ⊥)
  -- 5: "no rule"
  pub no_rule : Bytes b → read_table b ≡ refused 5 → (i : ℕ) → 8 * i < length b → get_or (record_at b i) 0 0 ≢ 1
  -- 7: the bytes are those of one with an output value that may leave 0 to 65535
  pub values : Bytes b → read_table b ≡ refused 7 → (t : Table) × Leaves b t

-- 7, "for every word that fits the group": the test that is run, of two words for each value, asks just that of every table that has records.
unfoldable pub ValuesTested : Type 0
ValuesTested = (b : List ℕ) (t : Table) → Records b t → WellFormed t → T (safe t) ↔ SafeTable t

-- Demand 1: "an accepted answer or one of the numbered refusals of document 01 ..., and the refusal has the effect on every buffer that the
-- paper gives". "Words beyond those written stay as found."
pub record DirectAnswers (b input buffer : List ℕ) : Type 0 where
  pub numbered : RefusedBy (1 ∷ 2 ∷ 3 ∷ 4 ∷ 5 ∷ 6 ∷ 7 ∷ 14 ∷ 15 ∷ []) (direct b input buffer).answer
  pub unchanged : (n : ℕ) → (direct b input buffer).answer ≡ refused n → (direct b input buffer).output ≡ buffer
  pub beyond : (a : Converted) → (direct b input buffer).answer ≡ accepted a → drop a.count (direct b input buffer).output ≡ drop a.count buffer
  pub whole : length (direct b input buffer).output ≡ length buffer

-- "Buffers and input being of the lengths document 01 asks": 14 and 15
pub record Lengths (t : Table) (input buffer : List ℕ) : Type 0 where
  pub short : length input ≤ limit
  pub room : expansion t * length input ≤ length buffer

-- Demand 2: "Direct conversion of an input under an accepted table then gives the text, and the stopping place if it stops, of Definition 7"
pub record Converts (t : Table) (b input buffer : List ℕ) : Type 0 where
  pub count : ℕ
  pub answer : (direct b input buffer).answer ≡ accepted (record { closed = (convert t input).closed; place = meaning_place t input; count = count })
  pub counted : count ≡ length (meaning_text t input)
  pub text : take count (direct b input buffer).output ≡ meaning_text t input

-- "Buffers and input being of the lengths document 01 asks, a table is accepted ... exactly when it keeps the rules set there for that use."
pub record DirectAccepts (b input buffer : List ℕ) : Type 0 where
  pub keeping : (t : Table) → Keeps b t → Lengths t input buffer → Converts t b input buffer
  pub accepting : Bytes b → (a : Converted) → (direct b input buffer).answer ≡ accepted a → (t : Table) × Keeps b t × Lengths t input buffer

-- 1 to 7 are the table check's; 14 and 15 speak of the lengths
pub record DirectRefuses (b input buffer : List ℕ) : Type 0 where
  pub table : (n : ℕ) → (direct b input buffer).answer ≡ refused n → n ≤ 7 → read_table b ≡ refused n
  pub long : (direct b input buffer).answer ≡ refused 14 → limit < length input
  pub room : Bytes b → (direct b input buffer).answer ≡ refused 15 → (t : Table) × Keeps b t × (length buffer < expansion t * length input)
