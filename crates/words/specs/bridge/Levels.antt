-- States in levels: what the quick test of a state's targets asks and decides.
use Rattle.std.specs.Prelude.{◌≡◌, ℕ, suc, ◌<◌, ◌≤◌, Bool, cond, ◌&&◌, List, ◌==◌, ◌≢◌, nat_le, nat_lt}
use Rattle.lists.specs.Decide.{for_below, implies}
use Rattle.automaton.specs.Sound.{state_count, longest_word, depth_word, target_word, between, used}

-- the states from `from` on and below `end` have this depth, and the next one has not
pub record Level (w : List ℕ) (depth from end : ℕ) : Type 0 where
  pub begun : from ≤ end
  pub inside : end ≤ state_count w
  pub level : (q : ℕ) → q < end → from ≤ q → depth_word w q ≡ depth
  pub whole : end < state_count w → depth_word w end ≢ depth

-- state s stands before the states from `low` on and below `high`, which are one deeper
pub record Above (w : List ℕ) (s low high : ℕ) : Type 0 where
  pub before : s < low
  pub begun : low ≤ high
  pub inside : high ≤ state_count w
  pub deeper : (q : ℕ) → q < high → low ≤ q → depth_word w q ≡ suc (depth_word w s)

-- each of the first `wide` targets of a state is 0 or in the interval
unfoldable pub row_within : List ℕ → ℕ → ℕ → ℕ → ℕ → Bool
row_within w s wide low high = for_below wide (λ k. implies (used (target_word w s k)) (nat_le low (target_word w s k) && nat_lt (target_word w s k) high))

-- "state 0 has depth 0, others 1 to L"
unfoldable pub sound_depth : List ℕ → ℕ → Bool
sound_depth w s = cond (s == 0) (depth_word w s == 0) (between 1 (longest_word w) (depth_word w s))
