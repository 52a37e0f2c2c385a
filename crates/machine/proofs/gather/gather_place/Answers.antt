-- `gather::gather_place` meets its contract. The invariant: the first k ranges are met.
-- Assumes nothing.
use Rattle.std.proofs.Common.{rules, arith, ◌+◌, ◌<◌, ◌≡◌, length, ap, ◌∙◌}
use Rattle.meaning.specs.Block.{at}
use Rattle.meaning.specs.bridge.Flat.{slots_from, range_at, ranges_at}
use Rattle.automaton.specs.Layout.{states_from}
use Rattle.automaton.specs.Starts.{holding}
use Rattle.automaton.specs.bridge.Gathered.{counted}
use Rattle.automaton.proofs.Laws.Gathering.{range_next, range_full, ranges_stay}
use Rattle.machine.proofs.gather.gather_place.Goals as goal

pub returns-then-count-gt64-clause-met : goal.returns-then-count-gt64-clause-met
returns-then-count-gt64-clause-met c =
    let a = c.args in
    let n : a.count ≡ 65 = omega (arith, c.requires.word_count_in_bounds.1, c.if-count-gt64.true) in
    let room : states_from < length a.words.now = omega (arith, c.requires.word_count_in_bounds.0) in
    rw n (ranges_stay a.words.now room (ranges_at a.loaded.now a.place))

pub returns-in_err-met-clause-met : goal.returns-in_err-met-clause-met
unfolding ranges_at
returns-in_err-met-clause-met c =
    let a = c.args in
    let w = c.gather_range.new.words in
    let room : states_from < length w = omega (arith, c.gather_range.auto.words) in
    ap (λ n. holding w (counted n)) c.from_residual.ensures
    ∙ range_full w room (range_at a.loaded.now a.place) (holding a.words.now a.count) c.loop-k.k (at a.loaded.now (slots_from + a.place)) c.loop-k-test.true c.loop-k.invariant.2 c.in_err-met.ensures.met

pub loop-k-preserved : goal.loop-k-preserved
loop-k-preserved c =
    let a = c.args in
    (c.in_ok-met.ensures.few, search rules, range_next (range_at a.loaded.now a.place) c.loop-k.k (holding a.words.now a.count) c.loop-k.invariant.2 c.in_ok-met.ensures.met)

pub returns-clause-met : goal.returns-clause-met
unfolding ranges_at
returns-clause-met c =
    let a = c.args in
    let e : c.loop-k.k ≡ at a.loaded.now (slots_from + a.place) = search rules in
    rw e at c.loop-k.invariant.2
