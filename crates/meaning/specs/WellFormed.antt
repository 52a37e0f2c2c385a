-- "Table records": what document 01 asks of the table that the records hold, one field a sentence.
use Rattle.std.specs.Prelude.{List, [], ◌∷◌, ◌≢◌, ◌≡◌, ℕ, ◌-◌, ◌^◌, ◌≤◌, ◌<◌, ℤ, pos, negsuc, length, T}
use Rattle.std.specs.Prelude.{None}
use Rattle.lists.specs.Lists.{Each, last_d, optional}
use Rattle.meaning.specs.Table.{Range, Output, sum, digit, Group, unmarked, Table, every_character, is_shift}

-- "lowest at most highest", both of them characters
pub record WellFormedRange (r : Range) : Type 0 where
  pub ordered : r.lowest ≤ r.highest
  pub character : r.highest < 65536

-- "within one, each starts above the last's end"
abbrev pub Rising : List Range → Type 0
Rising [] = Unit {0}
Rising (r ∷ []) = Unit {0}
Rising (r ∷ (s ∷ rs)) = (r.highest < s.lowest) × Rising (s ∷ rs)

-- "Every position has 1 to 4 ranges"
pub record WellFormedPosition (rs : List Range) : Type 0 where
  pub some_range : 1 ≤ length rs
  pub few_ranges : length rs ≤ 4
  pub ranges : Each WellFormedRange rs
  pub rising : Rising rs

-- a signed number of n bits: -(2 ^ (n - 1)) to 2 ^ (n - 1) - 1, where `negsuc x` is -(x + 1)
abbrev pub Signed : ℕ → ℤ → Type 0
Signed n (pos x) = x < 2 ^ (n - 1)
Signed n (negsuc x) = x < 2 ^ (n - 1)

-- "bytes 4-7 a signed constant", "bytes 4-5 a signed coefficient, not 0", "Positions are below K": coefficients by position, up to the highest
-- that a term names
pub record WellFormedSum (k : ℕ) (c : ℤ) (ks : List ℤ) : Type 0 where
  pub constant : Signed 32 c
  pub coefficients : Each (Signed 16) ks
  pub below : length ks ≤ k
  pub last_named : last_d (pos 1) ks ≢ pos 0

-- "Byte 1 is a position and byte 2 a shift of 0, 4, 8 or 12", "Positions are below K"
pub record WellFormedDigit (k p shift : ℕ) : Type 0 where
  pub below : p < k
  pub shifts : T (is_shift shift)

-- an output character in a group of size k
abbrev pub WellFormedOutput : ℕ → Output → Type 0
WellFormedOutput k (sum c ks) = WellFormedSum k c ks
WellFormedOutput k (digit p shift) = WellFormedDigit k p shift

-- "its length K, 1 to 8", "Every position has" its ranges, "0 to 8 output characters in a group"
pub record WellFormedRule (g : Group) : Type 0 where
  pub long : 1 ≤ g.size
  pub short : g.size ≤ 8
  pub places : length g.ranges ≡ g.size
  pub positions : Each WellFormedPosition g.ranges
  pub few_outputs : length g.outputs ≤ 8
  pub outputs : Each (WellFormedOutput g.size) g.outputs

-- "default: acts as a group with K = 1 whose position 0 takes every character"
pub record WellFormedDefault (g : Group) : Type 0 where
  pub acts : g ≡ every_character g.outputs
  pub few_outputs : length g.outputs ≤ 8
  pub outputs : Each (WellFormedOutput 1) g.outputs

-- "There are 1 to 32 rules", the default "is optional"
pub record WellFormed (t : Table) : Type 0 where
  pub some_rule : 1 ≤ length t.rules
  pub few_rules : length t.rules ≤ 32
  pub rules : Each WellFormedRule t.rules
  pub default : Each WellFormedDefault (optional t.default)
  -- the mark is a default record's: without one there is none
  pub no_mark : t.default ≡ None → t.mark ≡ unmarked
