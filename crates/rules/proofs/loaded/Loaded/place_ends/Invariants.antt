-- `place_ends` meets its contract: the loop goes from the last range to the first, and keeps the lowest and the highest character of those passed.
-- Assumes nothing.
use Rattle.std.proofs.Common.{◌≡◌, ◌-◌}
use Rattle.lists.specs.Lists.{tab_from}
use Rattle.meaning.specs.Value.{lowest_of, highest_of}
use Rattle.meaning.specs.bridge.Flat.{range_at}
use Rattle.rules.proofs.loaded.Loaded.place_ends.Given as goal

abbrev pub invariant-loop-k : goal.invariant-loop-k
invariant-loop-k l =
    let passed = tab_from l.k (l.count - l.k) (range_at l.self.words.now l.place) in
    record { lowest : l.ends.lowest ≡ lowest_of passed; highest : l.ends.highest ≡ highest_of passed }
