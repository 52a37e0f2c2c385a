-- `in_ranges` meets its contract. The invariant: the character lies in the ranges where it lies in those from number k on.
-- Assumes nothing.
use Rattle.std.proofs.Common.{◌≡◌, ◌+◌, ◌<◌, ◌||◌, sym, ◌∙◌, arith}
use Rattle.meaning.specs.Table.{in_ranges}
use Rattle.meaning.specs.Block.{at}
use Rattle.meaning.specs.bridge.Flat.{slots_from, ranges_at}
use Rattle.meaning.proofs.Laws.Choosing.{in_from, in_from_start, in_from_next, in_from_end, one_range}
use Rattle.rules.proofs.pattern.in_ranges.Goals as goal
use Rattle.rules.proofs.pattern.in_ranges.Goals.{After-in_range-in-loop-k}

pub returns-then-count-eq1 : goal.returns-then-count-eq1
returns-then-count-eq1 c =
    let a = c.args in
    one_range a.loaded.now a.place a.c c.in_range.result (sym c.from-count.ensures ∙ c.if-count-eq1.true) c.in_range.ensures

pub loop-k-init : goal.loop-k-init
loop-k-init c = in_from_start _ _ _

-- the range that the turn looks at, and those after it
turn : (c : After-in_range-in-loop-k) →
    let a = c.args in
    in_ranges (ranges_at a.loaded.now a.place) a.c
    ≡ c.in_range-in-loop-k.result || in_from a.loaded.now a.place a.c (c.loop-k.k + 1)
turn c = let a = c.args in
    let inside : c.loop-k.k < at a.loaded.now (slots_from + a.place) = omega (arith, c.from-count.ensures) in
    c.loop-k.invariant ∙ in_from_next a.loaded.now a.place a.c c.loop-k.k _ inside c.in_range-in-loop-k.ensures

pub returns-then-in_range : goal.returns-then-in_range
returns-then-in_range c = sym (turn (goal.at.returns-then-in_range c).After-in_range-in-loop-k ∙ rw c.if-in_range.true)

pub loop-k-preserved : goal.loop-k-preserved
loop-k-preserved c = turn (goal.at.loop-k-preserved c).After-in_range-in-loop-k ∙ rw c.if-in_range.false

pub returns : goal.returns
returns c =
    let a = c.args in
    sym (c.loop-k.invariant ∙ in_from_end a.loaded.now a.place a.c c.loop-k.k (omega (arith, c.from-count.ensures)))
