-- Request [1] of document 02, "Hexadecimal digits out": its record, its values and its refusals, one field a sentence.
use Rattle.std.specs.Prelude.{List, [], ◌∷◌, ◌++◌, ◌↔◌, ◌≡◌, ℕ, ◌+◌, ◌/◌, ◌%◌, ◌^◌, ◌≤◌, ◌<◌, T, ℤ, pos, length, get_or}
use Rattle.lists.specs.Lists.{Each}
use Rattle.meaning.specs.Refusal.{refused}
use Rattle.meaning.specs.Table.{Range, sum, digit, Group, is_shift}
use Rattle.meaning.specs.Value.{SafeOutput}
use Rattle.meaning.specs.WellFormed.{Signed}
use Rattle.meaning.specs.Record.{decode}
use Rattle.meaning.specs.Records.{Bytes, output_record, Term, term_record, digit_record, Known}
use Rattle.meaning.specs.Reader.{Reading, latest, read_one, LeadTo, read_table}
use Rattle.meaning.specs.Meaning.{written}

-- output character j of the group is a digit of the character at position p
abbrev pub DigitAt : Group → ℕ → ℕ → ℕ → Type 0
DigitAt g j p shift = get_or g.outputs j (sum (pos 0) []) ≡ digit p shift

pub record DigitsOut : Type 0 where
  -- "Byte 1 is a position and byte 2 a shift of 0, 4, 8 or 12", and "Bytes not named are zero": a record of kind 6 is refused by 2 exactly if
  -- it is not so
  pub bytes : (s : Reading) (p shift : ℕ) (rest : List ℕ) →
      (read_one s (decode (6 ∷ p ∷ shift ∷ rest)) ≡ refused 2) ↔ ((p ≤ 7) × T (is_shift shift) × Each (λ x. x ≡ 0) rest → ⊥)
  -- "stands wherever kind 3 may", "Refusals 4 and 6 treat it as kind 3": with a position below K it is refused, by any number, exactly if a
  -- record of kind 3 in its place is
  pub stands : (s : Reading) (p shift : ℕ) (c : ℤ) (n : ℕ) → p ≤ 7 → T (is_shift shift) → Signed 32 c → p < (latest s).size →
      (read_one s (decode (digit_record p shift)) ≡ refused n) ↔ (read_one s (decode (output_record c)) ≡ refused n)
  -- "Positions are below K": another is refused by 3
  pub position : (s : Reading) (p shift : ℕ) → p ≤ 7 → T (is_shift shift) → (latest s).size ≤ p → read_one s (decode (digit_record p shift)) ≡ refused 3
  -- taken in, it is the next output character of the group
  pub next_output : (b : List ℕ) (p shift : ℕ) (s s' : Reading) → Bytes b → LeadTo b s → LeadTo (b ++ digit_record p shift) s' →
      (latest s').outputs ≡ (latest s).outputs ++ (digit p shift ∷ [])
  -- "takes no terms (one is refused by 3)": a term behind it, whatever the records before and after
  pub no_terms : (b : List ℕ) (p shift : ℕ) (s : Reading) → LeadTo (b ++ digit_record p shift) s →
      (x : Term) → Known (term_record x) → (more : List ℕ) → length more % 8 ≡ 0 →
      read_table (b ++ digit_record p shift ++ term_record x ++ more) ≡ refused 3
  -- "Its value v is the character divided by 2 to that shift, rounded down, modulo 16. The output is 48 + v when v is below 10": what a group
  -- writes there, for every word
  pub below_10 : (g : Group) (j p shift : ℕ) → DigitAt g j p shift → (w : List ℕ) (v : ℕ) → v ≡ get_or w p 0 / 2 ^ shift % 16 →
      v < 10 → get_or (written g w) j 0 ≡ 48 + v
  -- "and 55 + v from 10 to 15"
  pub from_10 : (g : Group) (j p shift : ℕ) → DigitAt g j p shift → (w : List ℕ) (v : ℕ) → v ≡ get_or w p 0 / 2 ^ shift % 16 →
      10 ≤ v → (v ≤ 15) × (get_or (written g w) j 0 ≡ 55 + v)
  -- so it is a character for every word that fits, and 7 never comes of it
  pub never_7 : (ps : List (List Range)) (p shift : ℕ) → SafeOutput ps (digit p shift)
