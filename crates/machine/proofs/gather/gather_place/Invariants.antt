-- `gather::gather_place` meets its contract. The invariant: the first k ranges are met.
-- Assumes nothing.
use mathlib.Core.Path.{◌≡◌}
use Prim.Native.Nat.{◌≤◌}
use lib.ListN.{length}
use Rattle.lists.specs.Lists.{tab_from}
use Rattle.meaning.specs.bridge.Flat.{range_at}
use Rattle.automaton.specs.Starts.{holding, meet_ranges}
use Rattle.machine.proofs.gather.gather_place.Given as goal

abbrev pub invariant-loop-k : goal.invariant-loop-k
invariant-loop-k l = (l.met ≤ 64) × (length l.words ≡ length l.initial.words) × (holding l.words l.met ≡ meet_ranges (tab_from 0 l.k (range_at l.loaded l.place)) (holding l.initial.words l.count))
