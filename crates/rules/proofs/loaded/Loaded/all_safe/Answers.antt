-- `all_safe` meets its contract: the loop keeps that each rule before has passed, and the default is tested last.
-- Assumes nothing.
use Rattle.std.proofs.Common.{◌≡◌, ℕ, Bool, refl, arith, not, ap}
use Rattle.meaning.specs.bridge.Flat.{safe_group_at, safe_at}
use Rattle.meaning.proofs.Laws.Extremes.{none_below, below_again, below_fails}
use Rattle.rules.proofs.loaded.Loaded.all_safe.Goals as goal
use Rattle.rules.proofs.loaded.Loaded.all_safe.Goals.{Start}

-- the test of one group, by the arguments
abbrev tested : Start → ℕ → Bool
tested s = safe_group_at s.args.self.now.words.now

pub loop-group-init : goal.loop-group-init
loop-group-init c = none_below (tested (goal.at.loop-group-init c).Start)

pub returns-then-not-group_safe : goal.returns-then-not-group_safe
unfolding safe_at
returns-then-not-group_safe c = rw (below_fails (tested (goal.at.returns-then-not-group_safe c).Start) c.args.self.now.rules c.loop-group.group (omega arith) c.group_safe.ensures (ap not c.if-not-group_safe.true)) refl

pub loop-group-preserved : goal.loop-group-preserved
loop-group-preserved c =
    below_again (tested (goal.at.loop-group-preserved c).Start) c.loop-group.group c.loop-group.invariant c.group_safe.ensures (ap not c.if-not-group_safe.false)

pub returns-then-not-is_present : goal.returns-then-not-is_present
unfolding safe_at
returns-then-not-is_present c =
    let rules : c.loop-group.group ≡ c.args.self.now.rules = omega arith in
    rw (← rules, c.loop-group.invariant, ← c.is_present.ensures, c.if-not-is_present.true)

pub returns-else-not-is_present : goal.returns-else-not-is_present
unfolding safe_at
returns-else-not-is_present c =
    let rules : c.loop-group.group ≡ c.args.self.now.rules = omega arith in
    rw (← rules, c.loop-group.invariant, ← c.is_present.ensures, c.if-not-is_present.false) c.group_safe-else-not-is_present.ensures
