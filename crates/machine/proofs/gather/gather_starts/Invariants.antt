-- `gather::gather_starts` meets its contract. The invariant: the ranges of the rules before this one are met.
-- Assumes nothing.
use mathlib.Core.List.{List}
use mathlib.Core.Path.{◌≡◌}
use Prim.Native.Nat.{◌≤◌}
use lib.ListN.{length}
use Rattle.lists.specs.Lists.{flat_map, tab_from}
use Rattle.meaning.specs.bridge.Flat.{group_at}
use Rattle.meaning.specs.Table.{Range, Group}
use Rattle.automaton.specs.Starts.{pattern_ranges, holding, meet_ranges}
use Rattle.machine.proofs.gather.gather_starts.Given as goal

abbrev pub pattern : Group → List Range
pattern g = pattern_ranges g.ranges

abbrev pub invariant-loop-rule : goal.invariant-loop-rule
invariant-loop-rule l = (l.met ≤ 64) × (length l.words ≡ length l.initial.words)
    × (holding l.words l.met ≡ meet_ranges (flat_map pattern (tab_from 0 l.rule (group_at l.table.words.now))) (holding l.initial.words 1))
