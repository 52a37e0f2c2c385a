-- `group_safe` meets its contract: the loop keeps that each output character before has passed.
-- Assumes nothing.
use Rattle.std.proofs.Common.{◌≡◌, ℕ, ◌+◌, ◌*◌, ◌<◌, Bool, sym, ap, arith, not}
use Rattle.meaning.specs.Block.{at, block_size}
use Rattle.meaning.specs.bridge.Flat.{safe_output_at, safe_group_at}
use Rattle.meaning.proofs.Laws.Extremes.{none_below, below_again, below_fails}
use Rattle.rules.proofs.loaded.Loaded.group_safe.Goals as goal
use Rattle.rules.proofs.loaded.Loaded.group_safe.Goals.{Start}

-- the test of one output character, by the arguments
abbrev tested : Start → ℕ → Bool
tested s = let a = s.args in safe_output_at a.self.now.words.now a.group

pub loop-number-init : goal.loop-number-init
loop-number-init c = none_below (tested (goal.at.loop-number-init c).Start)

pub returns-then-not-output_safe : goal.returns-then-not-output_safe
unfolding safe_group_at
returns-then-not-output_safe c =
    let a = c.args in
    let inside : c.loop-number.number < at a.self.now.words.now (block_size * a.group + 2) = omega (arith, c.from-outputs.ensures) in
    sym (below_fails (tested (goal.at.returns-then-not-output_safe c).Start) (at a.self.now.words.now (block_size * a.group + 2)) c.loop-number.number inside c.output_safe.ensures (ap not c.if-not-output_safe.true))

pub loop-number-preserved : goal.loop-number-preserved
loop-number-preserved c =
    below_again (tested (goal.at.loop-number-preserved c).Start) c.loop-number.number c.loop-number.invariant c.output_safe.ensures (ap not c.if-not-output_safe.false)

pub returns : goal.returns
unfolding safe_group_at
returns c =
    let e : c.loop-number.number ≡ at c.args.self.now.words.now (block_size * c.args.group + 2) = omega (arith, c.from-outputs.ensures) in
    sym (rw e at c.loop-number.invariant)
