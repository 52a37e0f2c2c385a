-- One expression is read, and its records are fed.
-- The part that is read is the tree's. Assumes nothing.
use mathlib.Core.Path.{sym}
use lib.ListN.{drop}
use Rattle.expression.specs.bridge.Text.{expression_of}
use Rattle.typed.specs.bridge.Stream.{feed_part_past17}
use Rattle.typed.specs.bridge.Answers.{state_of}
use Rattle.typed.proofs.Laws.Readings.{read_none, read_some, no_place, place}
use Rattle.typed.proofs.Laws.Terms.{tree_refused, tree_fed}
use Rattle.typed.proofs.output.feed_expression_past17.Goals as goal

pub returns-in_err-part-clause-read : goal.returns-in_err-part-clause-read
returns-in_err-part-clause-read c =
    let a = c.args in
    rw c.from_residual.ensures (no_place (sym (tree_refused feed_part_past17 (state_of a.records.now) (expression_of (drop a.at a.s.now)) (read_none c.expression.ensures c.in_err-part.was))))

pub returns-clause-read : goal.returns-clause-read
returns-clause-read c =
    let a = c.args in
    let g = read_some c.expression.ensures c.in_ok-part.was in
    place (record { from = g.from; to = g.to; is = sym (tree_fed feed_part_past17 (state_of a.records.now) (expression_of (drop a.at a.s.now)) g.is c.feed_part_past17.ensures.state) })
