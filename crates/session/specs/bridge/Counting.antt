-- The counts of a session and of a run, as the code adds them up and takes them away.
use Rattle.std.specs.Prelude.{cond, List, ◌≡◌, ℕ, ◌+◌, ◌-◌, ◌≤◌, ◌<◌, leb, length, get_or, set}
use Rattle.std.specs.Prelude.{Option, None, Some}
use Rattle.meaning.specs.Direct.{limit}
use Rattle.reckoning.specs.Uses.{use_counts}
use Rattle.session.specs.declared.run.Ran.{Ran}
use Rattle.session.specs.declared.tally.Tally.{Tally}

abbrev pub plus : Tally → Tally → Tally
plus a b = record { produced = a.produced + b.produced; steps = a.steps + b.steps }

abbrev pub counted_by : Ran → Tally
counted_by ran = record { produced = ran.count; steps = ran.steps }

-- no sum of two counts overflows
pub record Addable (a b : Tally) : Type 0 where
  pub produced : a.produced + b.produced < 18446744073709551616
  pub steps : a.steps + b.steps < 18446744073709551616

-- the counts of uses with n more for group g
abbrev pub bumped : List ℕ → ℕ → ℕ → List ℕ
bumped uses g n = set uses g (get_or uses g 0 + n)

-- the counts of uses are as many as they should be, and none is above those of a sound session and the characters covered since
pub record Counted (uses : List ℕ) (covered : ℕ) : Type 0 where
  pub whole : length uses ≡ use_counts
  pub few : (g : ℕ) → get_or uses g 0 ≤ limit + covered

-- m less n, where that is a number
abbrev pub less : ℕ → ℕ → Option ℕ
less m n = cond (leb n m) (Some (m - n)) None
