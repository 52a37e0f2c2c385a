-- `all_safe` meets its contract: the loop keeps that each rule before has passed, and the default is tested last.
-- Assumes nothing.
use Rattle.std.proofs.Common.{◌≡◌, true}
use Rattle.lists.specs.Decide.{for_below}
use Rattle.meaning.specs.bridge.Flat.{safe_group_at}
use Rattle.rules.proofs.loaded.Loaded.all_safe.Given as goal

abbrev pub invariant-loop-group : goal.invariant-loop-group
invariant-loop-group l = for_below l.group (safe_group_at l.self.words.now) ≡ true
