-- Request [7] of document 02, "Terms in any order": which tables differ only there, and that they are alike, one field a sentence.
use Rattle.std.specs.Prelude.{List, ◌++◌, ◌↔◌, ◌≡◌, ℕ, ◌/◌, ◌<◌, T, eqb, ℤ, length, get_or}
use Rattle.lists.specs.Lists.{any, flat_map, tab_from}
use Rattle.lists.specs.Reordered.{Reordered}
use Rattle.meaning.specs.Refusal.{refused, accepted}
use Rattle.meaning.specs.Table.{Table}
use Rattle.meaning.specs.Record.{decode}
use Rattle.meaning.specs.Records.{Bytes, output_record, Term, term_record, Known, record_at}
use Rattle.meaning.specs.Reader.{Reading, latest, read_one, LeadTo, read_table}
use Rattle.meaning.specs.Direct.{Converted, direct}
use Rattle.meaning.specs.Samples.{t1, t1_turned, t1_twice}

-- a table's records, by number
abbrev pub records : List ℕ → List (List ℕ)
records b = tab_from 0 (length b / 8) (record_at b)

-- a record of kind 4
abbrev pub IsTerm : List ℕ → Type 0
IsTerm x = get_or x 0 0 ≡ 4

-- "Two tables that differ only here": the records are the same but for the order of terms. Terms that no other record parts are those of one
-- output character.
pub record DifferInTerms (b c : List ℕ) : Type 0 where
  pub lengths : length b ≡ length c
  pub terms : Reordered IsTerm (records b) (records c)

-- what is alike where two tables differ only so
pub record ReadAlike (b c : List ℕ) : Type 0 where
  -- they "are accepted alike", and as the same table, with the meaning of Definition 7
  pub table : (t : Table) → (read_table b ≡ accepted t) ↔ (read_table c ≡ accepted t)
  -- also by direct conversion, which then answers and writes the same for every input; refused, it writes nothing under either
  pub answer : (input buffer : List ℕ) (a : Converted) → ((direct b input buffer).answer ≡ accepted a) ↔ ((direct c input buffer).answer ≡ accepted a)
  pub output : (input buffer : List ℕ) → (direct b input buffer).output ≡ (direct c input buffer).output

pub record TermsInAnyOrder : Type 0 where
  -- "Terms of one output character may now come in any order of position, though a position still occurs once"; "Refusal 3 no longer covers
  -- falling positions of terms, only repeated ones": behind an output character and its terms so far, one more with a position below K is
  -- refused exactly if one of these has its position, and then by 3
  pub only_repeated : (b : List ℕ) (c : ℤ) (xs : List Term) (s : Reading) →
      Bytes (b ++ output_record c ++ flat_map term_record xs) → LeadTo (b ++ output_record c ++ flat_map term_record xs) s →
      (x : Term) → Known (term_record x) → x.position < (latest s).size → (n : ℕ) →
      (read_one s (decode (term_record x)) ≡ refused n) ↔ ((n ≡ 3) × T (any (λ y. eqb y.position x.position) xs))
  -- "Two tables that differ only here ... are accepted alike."
  pub alike : (b c : List ℕ) → Bytes b → Bytes c → DifferInTerms b c → ReadAlike b c
  -- T1 with its terms turned round is read to T1's table; with a position twice, another between, it is refused by 3
  pub turned : read_table t1_turned ≡ read_table t1
  pub twice : read_table t1_twice ≡ refused 3
