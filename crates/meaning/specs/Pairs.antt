-- Request [8] of document 02, "Pairs outside the basic plane": its record, what Definition 7 so amended chooses and writes, and E, one field a
-- sentence.
use Rattle.std.specs.Prelude.{List, [], ◌∷◌, ◌++◌, ◌≢◌, ◌≡◌, ℕ, ◌≤◌, ◌<◌, T, length}
use Rattle.std.specs.Prelude.{Some}
use Rattle.meaning.specs.Refusal.{refused}
use Rattle.meaning.specs.Table.{Mark, Paired, Table, mode, is_first, is_second, rule_at, group, default_number, pair_number, expansion}
use Rattle.meaning.specs.WellFormed.{WellFormed}
use Rattle.meaning.specs.Record.{default, decode}
use Rattle.meaning.specs.Records.{default_record}
use Rattle.meaning.specs.Reader.{Reading, read_one}
use Rattle.meaning.specs.Meaning.{fits, choose, written, chosen, convert, meaning_text}

-- eight bytes of kind 5 with m in byte 1
abbrev pub default_with : ℕ → List ℕ
default_with m = 5 ∷ m ∷ 0 ∷ 0 ∷ 0 ∷ 0 ∷ 0 ∷ 0 ∷ []

-- "no rule fits" what is next
abbrev pub NoneFits : Table → List ℕ → Type 0
NoneFits t rest = (r : ℕ) → r < length t.rules → T (fits (rule_at t r) rest) → ⊥

-- x is not the first unit of a pair: it is last, or it is no first unit, or no second unit comes next
abbrev pub Alone : ℕ → List ℕ → Type 0
Alone x rest = (y : ℕ) (more : List ℕ) → rest ≡ y ∷ more → T (is_first x) → T (is_second y) → ⊥

-- the text, and the choice that it begins with, of an input whose first word is written as out
pub record Writes (t : Table) (n : ℕ) (word out rest : List ℕ) : Type 0 where
  pub choice : convert t (word ++ rest) ≡ chosen (record { group = n; word = word }) (convert t rest)
  pub text : meaning_text t (word ++ rest) ≡ out ++ meaning_text t rest

pub record PairsMeant : Type 0 where
  -- "A default record may carry 1 in byte 1.": 0 and 1 are read, each as what it says, and another byte is refused by 2
  pub carries : (m : Mark) → decode (default_record m) ≡ Some (default m)
  pub no_other : (s : Reading) (m : ℕ) → 1 < m → read_one s (decode (default_with m)) ≡ refused 2
  -- "a first unit 55296 to 56319 and a second 56320 to 57343": none is both, so a text has one reading
  pub apart : (x : ℕ) → T (is_first x) → T (is_second x) → ⊥
  -- "where no rule fits": a rule that fits goes first, also one that takes a first unit alone
  pub rules_first : (t : Table) (rest : List ℕ) (r : ℕ) → r < length t.rules → T (fits (rule_at t r) rest) →
      (n : ℕ) × (choose t rest ≡ Some n) × (n < length t.rules)
  -- "Under that mark, where no rule fits and the next two characters are such a pair, the default takes both and writes both unchanged."
  pub both : (t : Table) → mode t ≡ Paired → (x y : ℕ) (rest : List ℕ) → T (is_first x) → T (is_second y) → NoneFits t (x ∷ y ∷ rest) →
      Writes t pair_number (x ∷ y ∷ []) (x ∷ y ∷ []) rest
  -- where they are none, also of a first unit "at the input's end", one "is treated alone", as the default's group says
  pub alone : (t : Table) → WellFormed t → mode t ≡ Paired → (x : ℕ) (rest : List ℕ) → Alone x rest → NoneFits t (x ∷ rest) →
      Writes t default_number (x ∷ []) (written (group t default_number) (x ∷ [])) rest
  -- without the mark no pair is chosen
  pub unmarked : (t : Table) → WellFormed t → mode t ≢ Paired → (rest : List ℕ) → choose t rest ≢ Some pair_number
  -- "E is then at least 1"
  pub at_least : (t : Table) → mode t ≡ Paired → 1 ≤ expansion t
