-- `is_plain` meets its contract. The invariant: no rule before takes the character at its first position.
-- Assumes nothing.
use Rattle.std.proofs.Common.{◌≡◌, ℕ, Bool, not, sym, refl, ap, arith}
use Rattle.meaning.proofs.Laws.Extremes.{none_below, below_again, below_fails}
use Rattle.rules.specs.bridge.Plain.{passes_by, is_plain}
use Rattle.rules.proofs.loaded.Loaded.is_plain.Goals as goal
use Rattle.rules.proofs.loaded.Loaded.is_plain.Goals.{Start}

-- the test of one rule, by the arguments
abbrev tested : Start → ℕ → Bool
tested s = let a = s.args in passes_by a.self.now.words.now a.c

pub loop-rule-init : goal.loop-rule-init
loop-rule-init c = none_below (tested (goal.at.loop-rule-init c).Start)

pub returns-then-in_ranges : goal.returns-then-in_ranges
unfolding is_plain
returns-then-in_ranges c =
    sym (below_fails (tested (goal.at.returns-then-in_ranges c).Start) c.args.self.now.rules c.loop-rule.rule (omega arith) (ap not c.in_ranges.ensures) (rw c.if-in_ranges.true refl))

pub loop-rule-preserved : goal.loop-rule-preserved
loop-rule-preserved c =
    below_again (tested (goal.at.loop-rule-preserved c).Start) c.loop-rule.rule c.loop-rule.invariant (ap not c.in_ranges.ensures) (rw c.if-in_ranges.false refl)

pub returns : goal.returns
unfolding is_plain
returns c =
    let e : c.loop-rule.rule ≡ c.args.self.now.rules = omega arith in
    sym (rw e at c.loop-rule.invariant)
