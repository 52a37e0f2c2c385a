-- `positions_fit` meets its contract. The invariant: the word fits where it fits from the position of the turn on.
-- Assumes nothing.
use Rattle.std.proofs.Common.{◌≡◌, ◌+◌, ◌&&◌, length, sym, ◌∙◌, arith, not, ap}
use borrow.Author.Tests.{not-true, not-false}
use Rattle.lists.specs.Lists.{tab_from}
use Rattle.meaning.specs.Value.{fits_word}
use Rattle.meaning.specs.bridge.Flat.{ranges_at}
use Rattle.meaning.proofs.Laws.Choosing.{fits_from, fits_from_start, fits_from_next, fits_from_end}
use Rattle.rules.proofs.loaded.Loaded.positions_fit.Goals as goal
use Rattle.rules.proofs.loaded.Loaded.positions_fit.Goals.{After-in_ranges}

pub loop-p-init : goal.loop-p-init
loop-p-init c = fits_from_start _ _ _

-- the position that the turn looks at, and those after it
turn : (c : After-in_ranges) →
    let a = c.args in
    fits_word (tab_from 0 (length a.word.now) (λ q. ranges_at a.self.now.words.now (a.place + q))) a.word.now
    ≡ c.in_ranges.result && fits_from a.self.now.words.now a.place a.word.now (c.loop-p.p + 1)
turn c = let a = c.args in
    c.loop-p.invariant
    ∙ fits_from_next a.self.now.words.now a.place a.word.now c.loop-p.p c.in_ranges.result (omega arith) c.in_ranges.ensures

pub returns-then-not-in_ranges : goal.returns-then-not-in_ranges
returns-then-not-in_ranges c = sym (turn (goal.at.returns-then-not-in_ranges c).After-in_ranges ∙ rw (not-true c.in_ranges.result (ap not c.if-not-in_ranges.true)))

pub loop-p-preserved : goal.loop-p-preserved
loop-p-preserved c = turn (goal.at.loop-p-preserved c).After-in_ranges ∙ rw (not-false c.in_ranges.result (ap not c.if-not-in_ranges.false))

pub returns : goal.returns
returns c =
    let a = c.args in
    sym (c.loop-p.invariant ∙ fits_from_end a.self.now.words.now a.place a.word.now c.loop-p.p (omega arith))
