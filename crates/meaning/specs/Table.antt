-- "Table records": a table of rules as data.
use Rattle.std.specs.Prelude.{Bool, true, false, ◌&&◌, cond, List, [], ◌∷◌, ◌++◌, ℕ, max, ◌<◌, leb, eqb, ℤ, pos, length, get_or}
use Rattle.std.specs.Prelude.{Option, None, Some}
use Rattle.lists.specs.Lists.{any, Each, greatest, or_else, optional}

-- "A character is a number 0 to 65535"
abbrev pub Characters : List ℕ → Type 0
Characters u = Each (λ c. c < 65536) u

-- the characters from lowest to highest
pub record Range : Type 0 where
  pub lowest : ℕ
  pub highest : ℕ

-- An output character: the sum of a constant and, for each position from 0, a coefficient (0 where no term names the position) times the
-- character there; or a hexadecimal digit of the character at a position, with a shift that says which.
pub data Output : Type 0 where
  sum : ℤ → List ℤ → Output
  digit : ℕ → ℕ → Output

-- "a shift of 0, 4, 8 or 12"
abbrev pub is_shift : ℕ → Bool
is_shift n = any (eqb n) (0 ∷ 4 ∷ 8 ∷ 12 ∷ [])

-- a rule or the default: its length K, whether it is anchored, the ranges of each position, its output characters
pub record Group : Type 0 where
  pub size : ℕ
  pub anchored : Bool
  pub ranges : List (List Range)
  pub outputs : List Output

-- whether the default's record "may carry 1 in byte 1"
pub data Mark : Type 0 where
  unmarked marked : Mark

pub record Table : Type 0 where
  pub rules : List Group
  pub default : Option Group
  -- says nothing where there is no default
  pub mark : Mark

-- what is done where no rule fits: nothing; one unit; one unit, or a pair where one comes next
pub data Mode : Type 0 where
  Absent Single Paired : Mode

abbrev pub mode_of : Option Group → Mark → Mode
mode_of None k = Absent
mode_of (Some g) unmarked = Single
mode_of (Some g) marked = Paired

abbrev pub mode : Table → Mode
mode t = mode_of t.default t.mark

-- there is a default
abbrev pub present : Mode → Bool
present Absent = false
present Single = true
present Paired = true

-- "E is then at least 1"
abbrev pub least : Mode → ℕ
least Absent = 0
least Single = 0
least Paired = 1

-- the character lies in the ranges
abbrev pub within : ℕ → Range → Bool
within c r = leb r.lowest c && leb c r.highest

abbrev pub in_ranges : List Range → ℕ → Bool
in_ranges rs c = any (within c) rs

-- "default: acts as a group with K = 1 whose position 0 takes every character"
abbrev pub every_character : List Output → Group
every_character os = record { size = 1; anchored = false; ranges = (record { lowest = 0; highest = 65535 } ∷ []) ∷ []; outputs = os }

-- "as RFC 2781 defines UTF-16: a first unit 55296 to 56319 and a second 56320 to 57343"
abbrev pub first_units : Range
first_units = record { lowest = 55296; highest = 56319 }

abbrev pub second_units : Range
second_units = record { lowest = 56320; highest = 57343 }

abbrev pub is_first : ℕ → Bool
is_first c = within c first_units

abbrev pub is_second : ℕ → Bool
is_second c = within c second_units

-- "such a pair"
abbrev pub is_pair : ℕ → ℕ → Bool
is_pair x y = is_first x && is_second y

-- "the default takes both and writes both unchanged": as a group with K = 2
abbrev pub pair_group : Group
pair_group =
    record {
      size = 2;
      anchored = false;
      ranges = (first_units ∷ []) ∷ (second_units ∷ []) ∷ [];
      outputs = sum (pos 0) (pos 1 ∷ []) ∷ sum (pos 0) (pos 0 ∷ pos 1 ∷ []) ∷ [];
    }

-- the rules, then the default
abbrev pub groups : Table → List Group
groups t = t.rules ++ optional t.default

-- rules are numbered from 0
abbrev pub rule_at : Table → ℕ → Group
rule_at t r = get_or t.rules r (every_character [])

-- the default's number, above those of the 32 rules that there may be
abbrev pub default_number : ℕ
default_number = 32

-- the number under which a marked default's pairs are emitted and counted
abbrev pub pair_number : ℕ
pair_number = 33

-- the group of a number
unfoldable pub group : Table → ℕ → Group
group t n = cond (eqb n pair_number) pair_group (cond (eqb n default_number) (or_else (every_character []) t.default) (rule_at t n))

-- L, "the greatest K of the rules"
unfoldable pub longest : Table → ℕ
longest t = greatest (λ g. g.size) t.rules

-- E, "the greatest number of output characters in a group, default included", and under the mark "at least 1"
unfoldable pub expansion : Table → ℕ
expansion t = max (least (mode t)) (greatest (λ g. length g.outputs) (groups t))
