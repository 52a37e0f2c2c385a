-- `gather::gather_rule` meets its contract. The invariant: the ranges of the first p positions are met.
-- Assumes nothing.
use mathlib.Core.List.{List}
use mathlib.Core.Path.{◌≡◌}
use Prim.Native.Nat.{ℕ, ◌≤◌, ◌+◌, ◌*◌}
use lib.ListN.{length}
use Rattle.lists.specs.Lists.{tab_from}
use Rattle.meaning.specs.Table.{Range}
use Rattle.meaning.specs.bridge.Flat.{ranges_at}
use Rattle.automaton.specs.Starts.{pattern_ranges, holding, meet_ranges}
use Rattle.machine.proofs.gather.gather_rule.Given as goal

-- the ranges of each position
abbrev pub ranges : List ℕ → ℕ → ℕ → List Range
ranges loaded group p = ranges_at loaded (8 * group + p)

abbrev pub invariant-loop-p : goal.invariant-loop-p
invariant-loop-p l = (l.met ≤ 64) × (length l.words ≡ length l.initial.words)
    × (holding l.words l.met ≡ meet_ranges (pattern_ranges (tab_from 0 l.p (ranges l.table.words.now l.group))) (holding l.initial.words l.count))
