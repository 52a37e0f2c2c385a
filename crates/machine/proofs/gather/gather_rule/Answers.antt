-- `gather::gather_rule` meets its contract. The invariant: the ranges of the first p positions are met.
-- Assumes nothing.
use Rattle.std.proofs.Common.{rules, arith, ◌<◌, ◌≡◌, ◌*◌, length, ap, ◌∙◌}
use Rattle.meaning.specs.Block.{at, block_size}
use Rattle.meaning.specs.bridge.Flat.{pattern_at}
use Rattle.automaton.specs.Layout.{states_from}
use Rattle.automaton.specs.Starts.{pattern_ranges, holding}
use Rattle.automaton.specs.bridge.Gathered.{counted}
use Rattle.automaton.proofs.Laws.Gathering.{ranges_next, ranges_full, ranges_stay}
use Rattle.machine.proofs.gather.gather_rule.Invariants.{ranges}
use Rattle.machine.proofs.gather.gather_rule.Goals as goal

pub returns-then-count-gt64-clause-met : goal.returns-then-count-gt64-clause-met
returns-then-count-gt64-clause-met c =
    let a = c.args in
    let w = a.table.now.words.now in
    let n : a.count ≡ 65 = omega (arith, c.requires.word_count_in_bounds.1, c.if-count-gt64.true) in
    let room : states_from < length a.words.now = omega (arith, c.requires.word_count_in_bounds.0) in
    rw n (ranges_stay a.words.now room (pattern_ranges (pattern_at w a.rule.0 (at w (block_size * a.rule.0)))))

pub returns-in_err-met-clause-met : goal.returns-in_err-met-clause-met
unfolding pattern_at
returns-in_err-met-clause-met c =
    let a = c.args in
    let w = c.gather_place.new.words in
    let room : states_from < length w = omega (arith, c.gather_place.auto.words) in
    ap (λ n. holding w (counted n)) c.from_residual.ensures
    ∙ ranges_full w room (λ rs. rs) (ranges a.table.now.words.now a.rule.0) (holding a.words.now a.count) c.loop-p.p (at a.table.now.words.now (block_size * a.rule.0)) c.loop-p-test.true c.loop-p.invariant.2 c.in_err-met.ensures.met

pub loop-p-preserved : goal.loop-p-preserved
loop-p-preserved c =
    let a = c.args in
    (c.in_ok-met.ensures.few, search rules, ranges_next (λ rs. rs) (ranges a.table.now.words.now a.rule.0) c.loop-p.p (holding a.words.now a.count) c.loop-p.invariant.2 c.in_ok-met.ensures.met)

pub returns-clause-met : goal.returns-clause-met
unfolding pattern_at
returns-clause-met c =
    let a = c.args in
    let e : c.loop-p.p ≡ at a.table.now.words.now (block_size * a.rule.0) = search rules in
    rw e at c.loop-p.invariant.2
