-- "How often each rule was used" (request [2]): "33 counts, one a rule and one for the default", and one more for pairs (request [8]); and when
-- they are sound.
use Rattle.std.specs.Prelude.{Bool, not, List, [], ◌∷◌, ℕ, suc, ◌+◌, ◌*◌, eqb, take, drop}
use Rattle.lists.specs.Lists.{all, count, sum_below, tab_from}
use Rattle.lists.specs.Decide.{all_of, implies}
use Rattle.meaning.specs.Table.{default_number, pair_number}
use Rattle.meaning.specs.Block.{at}
use Rattle.meaning.specs.Meaning.{Emission}
use Rattle.automaton.specs.Sound.{rule_count, block_at, used}

-- a rule's count stands at its number, the default's at 32; "pairs have a count of their own", at 33
abbrev pub use_counts : ℕ
use_counts = suc pair_number

-- "the number of the plain machine's emits that wrote that group's output", of group g
abbrev pub emits_of : ℕ → List Emission → ℕ
emits_of g log = count (λ e. eqb e.group g) log

-- the counts of a log
abbrev pub uses_of : List Emission → List ℕ
uses_of log = tab_from 0 use_counts (λ g. emits_of g log)

-- the counts after a log, where they were so before it
abbrev pub uses_after : List ℕ → List Emission → List ℕ
uses_after uses log = tab_from 0 use_counts (λ g. at uses g + emits_of g log)

module _ (w uses : List ℕ) where
  -- "the sum over rules of count times K, plus the default's count"; "A pair adds 2 to the consumed total that the use counts sum to"
  unfoldable pub characters_used : ℕ
  characters_used = sum_below (rule_count w) (λ g. at uses g * at (block_at w g) 0) + at uses default_number + 2 * at uses pair_number

  -- that sum "is the consumed total", and the "counts of rules or a default that the machine lacks" are 0; that of pairs is "0 without the mark"
  unfoldable pub sound_uses : ℕ → Bool
  sound_uses consumed =
      all_of (
      eqb characters_used consumed
      ∷ all (eqb 0) (drop (rule_count w) (take default_number uses))
      ∷ implies (not (used (at w 5))) (eqb (at uses default_number) 0)
      ∷ implies (not (eqb (at w 5) 2)) (eqb (at uses pair_number) 0)
      ∷ [])
