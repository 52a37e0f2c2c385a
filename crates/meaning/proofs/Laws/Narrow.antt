-- What reading leaves true of an accepted table beyond its shape: at most four ranges a position, numbers of 32 and 16 bits.
-- The laws of the loaded array take it as their hypothesis; `Flattened` shows it of every table that is read.
use mathlib.Core.Path.{◌≡◌}
use Prim.Native.Nat.{ℕ, ◌≤◌, ◌<◌, ◌^◌}
use lib.IntN.{ℤ}
use lib.ListN.{length}
use Rattle.lists.specs.Lists.{Each}
use Rattle.meaning.specs.Table.{Output, sum, digit, Group, Table, groups}
use Rattle.meaning.specs.Reader.{signed}

-- a number that n bits hold
pub record Bits (n : ℕ) (z : ℤ) : Type 0 where
  pub number : ℕ
  pub below : number < 2 ^ n
  pub same : z ≡ signed n number

abbrev pub NarrowOutput : Output → Type 0
NarrowOutput (sum c ks) = Bits 32 c × Each (Bits 16) ks
NarrowOutput (digit p shift) = Unit {0}

pub record NarrowGroup (g : Group) : Type 0 where
  pub few : Each (λ rs. length rs ≤ 4) g.ranges
  pub narrow : Each NarrowOutput g.outputs

abbrev pub Narrow : Table → Type 0
Narrow t = Each NarrowGroup (groups t)
