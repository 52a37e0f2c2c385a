-- "Table records": when bytes are the records of a table, kind by kind and in their order.
use Rattle.std.specs.Prelude.{Bool, cond, List, [], ◌∷◌, ◌++◌, ◌≢◌, ◌≡◌, ℕ, zero, suc, ◌-◌, ◌/◌, ◌%◌, ◌^◌, ◌*◌, ◌≤◌, ◌<◌, T, ℤ, pos, negsuc, take, drop}
use Rattle.lists.specs.Lists.{Each, flat_map, optional}
use Rattle.lists.specs.Reordered.{InAnyOrder}
use Rattle.meaning.specs.Table.{Range, Output, sum, digit, Group, Mark, unmarked, marked, Table, is_shift}
use Rattle.meaning.specs.WellFormed.{WellFormedRange, Signed}

-- a table is lent as bytes
abbrev pub Bytes : List ℕ → Type 0
Bytes b = Each (λ x. x < 256) b

-- "Numbers of several bytes are little-endian": n bytes
unfoldable pub little_endian : ℕ → ℕ → List ℕ
little_endian zero x = []
little_endian (suc n) x = x % 256 ∷ little_endian n (x / 256)

-- "signed ones two's complement": the number of n bits that stands for z
unfoldable pub twos_complement : ℕ → ℤ → ℕ
twos_complement n (pos x) = x
twos_complement n (negsuc x) = 2 ^ n - suc x

-- "records of 8 bytes", "Byte 0 is the kind", "Bytes not named are zero"

-- "1, rule: byte 1 is its length K, 1 to 8; byte 2 is 1 for a pattern that must end at the input's end (anchored), else 0"
abbrev pub rule_record : ℕ → Bool → List ℕ
rule_record k anchored = 1 ∷ k ∷ cond anchored 1 0 ∷ 0 ∷ 0 ∷ 0 ∷ 0 ∷ 0 ∷ []

-- "2, range: byte 1 position 0 to 7; bytes 4-5 lowest, 6-7 highest character"
abbrev pub range_record : ℕ → Range → List ℕ
range_record p r = 2 ∷ p ∷ 0 ∷ 0 ∷ (little_endian 2 r.lowest ++ little_endian 2 r.highest)

-- "3, output character: bytes 4-7 a signed constant"
abbrev pub output_record : ℤ → List ℕ
output_record c = 3 ∷ 0 ∷ 0 ∷ 0 ∷ little_endian 4 (twos_complement 32 c)

-- a coefficient and the position that it belongs to
pub record Term : Type 0 where
  pub position : ℕ
  pub coefficient : ℤ

-- "4, term: byte 1 position 0 to 7; bytes 4-5 a signed coefficient, not 0"
abbrev pub term_record : Term → List ℕ
term_record x = 4 ∷ x.position ∷ 0 ∷ 0 ∷ (little_endian 2 (twos_complement 16 x.coefficient) ++ (0 ∷ 0 ∷ []))

-- "A default record may carry 1 in byte 1"
abbrev pub mark_byte : Mark → ℕ
mark_byte unmarked = 0
mark_byte marked = 1

-- "5, default"
abbrev pub default_record : Mark → List ℕ
default_record m = 5 ∷ mark_byte m ∷ 0 ∷ 0 ∷ 0 ∷ 0 ∷ 0 ∷ 0 ∷ []

-- "A new record, kind 6": "Byte 1 is a position and byte 2 a shift of 0, 4, 8 or 12"
abbrev pub digit_record : ℕ → ℕ → List ℕ
digit_record p shift = 6 ∷ p ∷ shift ∷ 0 ∷ 0 ∷ 0 ∷ 0 ∷ 0 ∷ []

-- the bytes are those of each element, one after another
abbrev pub Joined : {A : Type 0} → (A → List ℕ → Type 0) → List A → List ℕ → Type 0
Joined R [] b = b ≡ []
Joined R (x ∷ xs) b = (first : List ℕ) × (rest : List ℕ) × R x first × Joined R xs rest × (b ≡ first ++ rest)

-- "Ranges rise by position": those of the positions from p on
abbrev pub range_records : ℕ → List (List Range) → List ℕ
range_records p [] = []
range_records p (rs ∷ ps) = flat_map (range_record p) rs ++ range_records (suc p) ps

-- a term for each coefficient that is not 0, from position p on
abbrev pub terms : ℕ → List ℤ → List Term
terms p [] = []
terms p (pos zero ∷ ks) = terms (suc p) ks
terms p (pos (suc a) ∷ ks) = record { position = p; coefficient = pos (suc a) } ∷ terms (suc p) ks
terms p (negsuc a ∷ ks) = record { position = p; coefficient = negsuc a } ∷ terms (suc p) ks

-- "Terms of one output character may now come in any order of position, though a position still occurs once"
abbrev pub Listed : List ℤ → List Term → Type 0
Listed ks xs = InAnyOrder xs (terms 0 ks)

-- "its output characters, each followed by its terms"; a digit "stands wherever kind 3 may and takes no terms"
abbrev pub OutputRecords : Output → List ℕ → Type 0
OutputRecords (sum c ks) b = (xs : List Term) × Listed ks xs × (b ≡ output_record c ++ flat_map term_record xs)
OutputRecords (digit p shift) b = b ≡ digit_record p shift

-- "A rule's group is kind 1, its ranges, its output characters"
pub record RuleRecords (g : Group) (b : List ℕ) : Type 0 where
  pub written : List ℕ
  pub outputs : Joined OutputRecords g.outputs written
  pub bytes : b ≡ rule_record g.size g.anchored ++ range_records 0 g.ranges ++ written

-- "A default group has no ranges"
pub record DefaultRecords (m : Mark) (g : Group) (b : List ℕ) : Type 0 where
  pub written : List ℕ
  pub outputs : Joined OutputRecords g.outputs written
  pub bytes : b ≡ default_record m ++ written

-- the rules by number; a default "comes last"
pub record Records (b : List ℕ) (t : Table) : Type 0 where
  pub first : List ℕ
  pub last : List ℕ
  pub rules : Joined RuleRecords t.rules first
  pub default : Joined (DefaultRecords t.mark) (optional t.default) last
  pub bytes : b ≡ first ++ last

-- Eight bytes that are a record of one of the kinds, each field within its own range: 2 refuses others, "unknown kind, a field outside its own
-- range, a byte that must be zero and isn't, lowest above highest".
pub data Known : List ℕ → Type 0 where
  rule : (k : ℕ) (anchored : Bool) → 1 ≤ k → k ≤ 8 → Known (rule_record k anchored)
  range : (p : ℕ) (r : Range) → p ≤ 7 → WellFormedRange r → Known (range_record p r)
  output : (c : ℤ) → Signed 32 c → Known (output_record c)
  term : (x : Term) → x.position ≤ 7 → Signed 16 x.coefficient → x.coefficient ≢ pos 0 → Known (term_record x)
  default : (m : Mark) → Known (default_record m)
  hexadecimal : (p shift : ℕ) → p ≤ 7 → T (is_shift shift) → Known (digit_record p shift)

-- record number i
abbrev pub record_at : List ℕ → ℕ → List ℕ
record_at b i = take 8 (drop (8 * i) b)
