-- `sets::lowest` meets its contract. The invariant: the first rule that passes is the first of those left.
-- Assumes nothing.
use Rattle.std.proofs.Common.{◌≡◌, ◌<◌, ℕ, Bool}
use Rattle.lists.specs.Lists.{filter}
use Rattle.automaton.specs.States.{first_number}
use Rattle.automaton.specs.bridge.Build.{members_from}
use Rattle.machine.proofs.sets.lowest.Given as goal

abbrev pub invariant-loop-rule : goal.invariant-loop-rule
invariant-loop-rule g l = (p : ℕ → Bool) → ((r : _) (b : _) → r.0 < 32 → goal.F-post g l.passes r b → b ≡ p r.0) →
    first_number (filter p (members_from 0 32 l.fn.set)) ≡ first_number (filter p (members_from 0 32 l.rule-iterator.0))
