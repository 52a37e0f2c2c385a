-- What the table check leaves true of an accepted table: lengths within their limits, every position filled.
-- The laws of the layers above take it as their hypothesis; `Reading` shows it of every table that is read.
use mathlib.Core.Bool.{false}
use mathlib.Core.List.{[]}
use mathlib.Core.Path.{◌≡◌}
use Prim.Native.Nat.{ℕ, ◌≤◌, ◌<◌}
use lib.Dec.{T}
use lib.ListN.{length}
use Rattle.lists.specs.Lists.{Each, optional}
use Rattle.meaning.specs.Table.{Output, sum, digit, Group, Table, every_character, is_shift}

-- an output character of a group of size k: coefficients for its positions alone, or a digit of one of them by a known shift
abbrev pub Within : ℕ → Output → Type 0
Within k (sum c ks) = length ks ≤ k
Within k (digit p shift) = (p < k) × T (is_shift shift)

-- a sum takes terms, a digit none
abbrev pub IsSum : Output → Type 0
IsSum (sum c ks) = Unit {0}
IsSum (digit p shift) = ⊥

pub record ShapedGroup (g : Group) : Type 0 where
  pub positive : 1 ≤ g.size
  pub small : g.size ≤ 8
  pub places : length g.ranges ≡ g.size
  pub outputs : length g.outputs ≤ 8
  pub reaches : Each (Within g.size) g.outputs

pub record ShapedDefault (g : Group) : Type 0 where
  pub size : g.size ≡ 1
  pub anchored : g.anchored ≡ false
  pub ranges : g.ranges ≡ (every_character []).ranges
  pub outputs : length g.outputs ≤ 8
  pub reaches : Each (Within 1) g.outputs

pub record Shaped (t : Table) : Type 0 where
  pub some_rule : 1 ≤ length t.rules
  pub few_rules : length t.rules ≤ 32
  pub rules : Each ShapedGroup t.rules
  pub default : Each ShapedDefault (optional t.default)
