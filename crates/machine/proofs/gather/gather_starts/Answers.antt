-- `gather::gather_starts` meets its contract. The invariant: the ranges of the rules before this one are met.
-- Assumes nothing.
use Rattle.std.proofs.Common.{rules, arith, ◌<◌, ◌≡◌, length, ap, ◌∙◌}
use Rattle.meaning.specs.bridge.Flat.{table_at, group_at}
use Rattle.automaton.specs.Layout.{states_from}
use Rattle.automaton.specs.Starts.{holding}
use Rattle.automaton.specs.bridge.Gathered.{counted}
use Rattle.automaton.proofs.Laws.Gathering.{ranges_next, ranges_full}
use Rattle.machine.proofs.gather.gather_starts.Invariants.{pattern}
use Rattle.machine.proofs.gather.gather_starts.Goals as goal

pub returns-in_err-met-clause-met : goal.returns-in_err-met-clause-met
unfolding table_at group_at
returns-in_err-met-clause-met c =
    let a = c.args in
    let w = c.gather_rule.new.words in
    let room : states_from < length w = omega (arith, c.gather_rule.auto.words) in
    ap (λ n. holding w (counted n)) c.from_residual.ensures
    ∙ ranges_full w room pattern (group_at a.table.now.words.now) (holding a.words.now 1) c.loop-rule.rule a.table.now.rules c.loop-rule-test.true c.loop-rule.invariant.2 c.in_err-met.ensures.met

pub loop-rule-preserved : goal.loop-rule-preserved
unfolding group_at
loop-rule-preserved c =
    let a = c.args in
    (c.in_ok-met.ensures.few, search rules, ranges_next pattern (group_at a.table.now.words.now) c.loop-rule.rule (holding a.words.now 1) c.loop-rule.invariant.2 c.in_ok-met.ensures.met)

pub returns-clause-met : goal.returns-clause-met
unfolding table_at
returns-clause-met c =
    let a = c.args in
    let e : c.loop-rule.rule ≡ a.table.now.rules = search rules in
    rw e at c.loop-rule.invariant.2
