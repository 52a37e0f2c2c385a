-- A text's lines are read, and their records are fed. The invariant: what is read so far, and then any number of lines, is the whole text.
-- The measure is what is unread. Assumes nothing.
use mathlib.Core.Path.{◌≡◌, refl}
use Prim.Native.Nat.{zero-le}
use native.Mathlib.Omega.{arith}
use lib.ListN.{drop}
use Rattle.expression.specs.bridge.Text.{map_read}
use Rattle.typed.specs.bridge.Reader.{then_read, line_of, ends_text, lines_of}
use Rattle.typed.specs.bridge.Stream.{feed_line_past17}
use Rattle.typed.specs.bridge.Answers.{state_of}
use Rattle.typed.proofs.Laws.Lines.{line_strict}
use Rattle.typed.proofs.Laws.Loans.{loans_kept, loans_on}
use Rattle.typed.proofs.Laws.Readings.{place_none, place_some, no_place, place}
use Rattle.typed.proofs.Laws.Stages.{text_left, text_done}
use Rattle.typed.proofs.Laws.Turns.{onward_turn, onward_refused, onward_end, fed_all, none_left, one_more, advances}
use Rattle.typed.proofs.line.feed_lines_past17.Goals as goal
use Rattle.typed.proofs.line.feed_lines_past17.Goals.{In-loop-records}

-- a turn reads a line, and then what is left
turn : (c : In-loop-records) → (let i = c.loop-records in let left = fed_all line_of ends_text feed_line_past17 in
    left (state_of i.records) (drop i.at c.args.s.now) ≡ then_read (map_read (λ x. feed_line_past17 x (state_of i.records)) (line_of (drop i.at c.args.s.now))) left)
turn c = one_more line_of ends_text feed_line_past17 line_strict (state_of c.loop-records.records) (drop c.loop-records.at c.args.s.now) (text_left c.skip.ensures c.loop-records-test.true)

pub loop-records-init : goal.loop-records-init
loop-records-init c = record { read = record { from = zero-le; to = zero-le; same = refl }; same_loans = loans_kept _ }

pub returns-in_err-at-clause-read : goal.returns-in_err-at-clause-read
unfolding lines_of
returns-in_err-at-clause-read c =
    rw c.from_residual.ensures (no_place (onward_refused _ c.loop-records.invariant.read (turn (goal.at.returns-in_err-at-clause-read c).In-loop-records) (place_none c.feed_line_past17.ensures.read c.in_err-at.was)))

pub loop-records-smaller : goal.loop-records-smaller
loop-records-smaller c =
    let g = place_some c.feed_line_past17.ensures.read c.in_ok-at.was in
    let l = advances line_of line_strict _ g in
    let to = g.to in
    omega arith

pub loop-records-preserved : goal.loop-records-preserved
loop-records-preserved c =
    record {
      read = onward_turn _ c.loop-records.invariant.read (turn (goal.at.loop-records-preserved c).In-loop-records) (place_some c.feed_line_past17.ensures.read c.in_ok-at.was);
      same_loans = loans_on c.loop-records.invariant.same_loans c.feed_line_past17.ensures.same_loans;
    }

pub returns-clause-read : goal.returns-clause-read
unfolding lines_of
returns-clause-read c =
    let i = c.loop-records in
    place (onward_end i.invariant.read (none_left line_of ends_text feed_line_past17 (state_of i.records) (drop i.at c.args.s.now) (text_done c.skip.ensures c.loop-records-test.false)))
