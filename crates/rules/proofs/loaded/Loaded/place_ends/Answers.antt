-- `place_ends` meets its contract: the loop goes from the last range to the first, and keeps the lowest and the highest character of those passed.
-- Assumes nothing.
use Rattle.std.proofs.Common.{◌≡◌, ◌+◌, ◌-◌, Bool, true, false, sym, ◌∙◌, arith}
use Rattle.meaning.specs.Block.{at}
use Rattle.meaning.specs.bridge.Flat.{slots_from, range_at, ranges_at}
use Rattle.meaning.proofs.Laws.Extremes.{tab_whole, end_none, end_last, end_before}
use Rattle.lists.specs.Lists.{tab_from}
use Rattle.rules.proofs.loaded.Loaded.place_ends.Goals as goal
use Rattle.rules.proofs.loaded.Loaded.place_ends.Goals.{After-loop-k}

pub returns-then-count-eq0 : goal.returns-then-count-eq0
unfolding ranges_at
returns-then-count-eq0 c =
    let a = c.args in
    let none = λ (lowest : Bool). end_none (range_at a.self.now.words.now a.place) (at a.self.now.words.now (slots_from + a.place)) lowest (sym c.from-count.ensures ∙ c.if-count-eq0.true) in
    record { lowest = none true; highest = none false }

pub loop-k-init : goal.loop-k-init
loop-k-init c =
    let f = range_at c.args.self.now.words.now c.args.place in
    let n = c.from-count.result in
    let last = c.range-ends.ensures in
    record { lowest = end_last f n true (omega arith) last.lowest; highest = end_last f n false (omega arith) last.highest }

pub loop-k-preserved : goal.loop-k-preserved
loop-k-preserved c =
    let f = range_at c.args.self.now.words.now c.args.place in
    let n = c.from-count.result in
    let here = c.loop-k in
    let more = c.range-range.ensures in
    record {
      lowest = end_before f n true here.k (omega arith) (omega arith) c.min.ensures more.lowest here.invariant.lowest;
      highest = end_before f n false here.k (omega arith) (omega arith) c.max.ensures more.highest here.invariant.highest;
    }

-- the ranges passed are all
whole : (c : After-loop-k) → tab_from c.loop-k.k (c.from-count.result - c.loop-k.k) (range_at c.args.self.now.words.now c.args.place) ≡ ranges_at c.args.self.now.words.now c.args.place
unfolding ranges_at
whole c = tab_whole (range_at c.args.self.now.words.now c.args.place) c.loop-k.k c.from-count.result (omega arith) ∙ rw c.from-count.ensures

pub returns : goal.returns
returns c =
    let e = whole (goal.at.returns c).After-loop-k in
    record { lowest = rw e at c.loop-k.invariant.lowest; highest = rw e at c.loop-k.invariant.highest }
