-- Request [1] of document 02, "Hexadecimal digits out", for machine words: an entry's words, the sizes, sound entries and what they write, one
-- field a sentence.
use Rattle.std.specs.Prelude.{List, [], ◌++◌, ◌≢◌, ◌≡◌, ℕ, ◌+◌, ◌*◌, ◌%◌, ◌≤◌, ◌<◌, T, pos, length, get_or}
use Rattle.std.specs.Prelude.{Some}
use Rattle.meaning.specs.Table.{Output, sum, digit, Group, Table, rule_at, default_number}
use Rattle.meaning.specs.WellFormed.{WellFormed}
use Rattle.meaning.specs.Value.{value}
use Rattle.meaning.specs.Block.{word, block, at, entry_value, entry_size}
use Rattle.automaton.specs.Layout.{word_count, words}
use Rattle.automaton.specs.Sound.{rule_count, block_at, sound_entry, sound}

-- in the words b from a block on, of its entry j: the first word, the constant and the coefficient of position i; K is word 0
module _ (b : List ℕ) (j : ℕ) where
  abbrev pub sort_at : ℕ
  sort_at = at b (3 + entry_size * j)

  abbrev pub constant_at : ℕ
  constant_at = at b (4 + entry_size * j)

  abbrev pub coefficient_at : ℕ → ℕ
  coefficient_at i = at b (5 + entry_size * j + i)

  -- "1 for a digit. A digit keeps its shift as constant and 1 at its position's coefficient": no other coefficient below K
  pub record DigitEntry (p shift : ℕ) : Type 0 where
    pub sort : sort_at ≡ 1
    pub constant : constant_at ≡ shift
    pub one : coefficient_at p ≡ 1
    pub others : (i : ℕ) → i < at b 0 → i ≢ p → coefficient_at i ≡ 0

  -- the entry of an output character: "0 for a sum", with its constant and its coefficients modulo 65536, "and 1 for a digit"
  abbrev pub EntryOf : Output → Type 0
  EntryOf (sum c ks) = (sort_at ≡ 0) × (constant_at ≡ word c) × ((i : ℕ) → i < at b 0 → coefficient_at i ≡ word (get_or ks i (pos 0)))
  EntryOf (digit p shift) = DigitEntry p shift

  -- "a known sort, and a digit entry has one of the four shifts and just one coefficient, of 1, below K"
  pub record KnownEntry : Type 0 where
    pub sort : sort_at ≤ 1
    pub shift : sort_at ≡ 1 → (constant_at ≤ 12) × (constant_at % 4 ≡ 0)
    pub coefficient : sort_at ≡ 1 → (p : ℕ) × (p < at b 0) × DigitEntry p constant_at

abbrev output_at : Group → ℕ → Output
output_at g j = get_or g.outputs j (sum (pos 0) [])

pub record DigitWords : Type 0 where
  -- "Blocks become 83 words and the machine 19,961, wherever 19,697 stood"
  pub block_size_lem : (g : Group) → length (block g) ≡ 83
  pub machine_size : (word_count ≡ 19961) × ((t : Table) → length (words t) ≡ 19961)
  -- "In a block each output entry gains a first word, 0 for a sum and 1 for a digit. A digit keeps its shift as constant and 1 at its position's
  -- coefficient.": in the words of every table, whatever follows them, the blocks of its rules and of its default
  pub rule_entries : (t : Table) (rest : List ℕ) → WellFormed t → (r j : ℕ) → r < length t.rules → j < length (rule_at t r).outputs →
      EntryOf (block_at (words t ++ rest) r) j (output_at (rule_at t r) j)
  pub default_entries : (t : Table) (rest : List ℕ) → WellFormed t → (g : Group) → t.default ≡ Some g → (j : ℕ) → j < length g.outputs →
      EntryOf (block_at (words t ++ rest) default_number) j (output_at g j)
  -- "Sound words have a known sort, and a digit entry has one of the four shifts and just one coefficient, of 1, below K": each entry in use
  pub sound_rules : (w : List ℕ) → T (sound w) → (r j : ℕ) → r < rule_count w → j < at (block_at w r) 2 → KnownEntry (block_at w r) j
  pub sound_default : (w : List ℕ) → T (sound w) → at w 5 ≢ 0 → (j : ℕ) → j < at (block_at w default_number) 2 → KnownEntry (block_at w default_number) j
  -- and the test asks no more of an entry
  pub no_more : (b : List ℕ) (j : ℕ) → KnownEntry b j → T (sound_entry b j)
  -- such an entry writes the digit of the character at its position
  pub writes : (b : List ℕ) (j p : ℕ) → KnownEntry b j → DigitEntry b j p (constant_at b j) → (u : List ℕ) → length u ≡ at b 0 →
      pos (entry_value b j u) ≡ value (digit p (constant_at b j)) u
