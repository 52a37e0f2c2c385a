-- `group_safe` meets its contract: the loop keeps that each output character before has passed.
-- Assumes nothing.
use Rattle.std.proofs.Common.{◌≡◌, true}
use Rattle.lists.specs.Decide.{for_below}
use Rattle.meaning.specs.bridge.Flat.{safe_output_at}
use Rattle.rules.proofs.loaded.Loaded.group_safe.Given as goal

abbrev pub invariant-loop-number : goal.invariant-loop-number
invariant-loop-number l = for_below l.number (safe_output_at l.self.words.now l.group) ≡ true
