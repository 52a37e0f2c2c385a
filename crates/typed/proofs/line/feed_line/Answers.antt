-- A line is read, and its records are fed.
-- What stands before `==>`, the arrow, the outputs and the semicolon, one after another. Assumes nothing.
use mathlib.Core.Path.{refl}
use lib.ListN.{drop}
use Rattle.typed.specs.bridge.Stream.{feed_tree}
use Rattle.typed.specs.bridge.Answers.{state_of}
use Rattle.typed.proofs.Laws.Readings.{place_none, place_some, no_place}
use Rattle.typed.proofs.Laws.Stages.{first_refused, second_refused, second_placed, right_fed, line_fed}
use Rattle.typed.proofs.Laws.Words.{one_letter}
use Rattle.typed.proofs.line.feed_line.Goals as goal

pub returns-in_err-head-clause-read : goal.returns-in_err-head-clause-read
returns-in_err-head-clause-read c =
    let a = c.args in
    rw c.from_residual.ensures (no_place (first_refused _ (line_fed (state_of a.records.now) feed_tree (drop a.at a.s.now)) (place_none c.feed_head.ensures.read c.in_err-head.was)))

pub returns-in_err-arrow-clause-read : goal.returns-in_err-arrow-clause-read
returns-in_err-arrow-clause-read c =
    let a = c.args in
    let g = place_some c.feed_head.ensures.read c.in_ok-head.was in
    rw c.from_residual-in_err-arrow.ensures
    (no_place (second_refused _ (line_fed (state_of a.records.now) feed_tree (drop a.at a.s.now)) g.is
    (first_refused _ (right_fed (state_of c.feed_head.new.records) feed_tree (drop c.in_ok-head.head a.s.now)) (place_none c.word.ensures c.in_err-arrow.was))))

pub returns-in_err-outputs-clause-read : goal.returns-in_err-outputs-clause-read
returns-in_err-outputs-clause-read c =
    let a = c.args in
    let g = place_some c.feed_head.ensures.read c.in_ok-head.was in
    let h = place_some c.word.ensures c.in_ok-arrow.was in
    rw c.from_residual-in_err-outputs.ensures
    (no_place (second_refused _ (line_fed (state_of a.records.now) feed_tree (drop a.at a.s.now)) g.is
    (second_refused _ (right_fed (state_of c.feed_head.new.records) feed_tree (drop c.in_ok-head.head a.s.now)) h.is
    (first_refused _ refl (place_none c.feed_outputs.ensures.read c.in_err-outputs.was)))))

pub returns-clause-read : goal.returns-clause-read
returns-clause-read c =
    let a = c.args in
    let g = place_some c.feed_head.ensures.read c.in_ok-head.was in
    let h = place_some c.word.ensures c.in_ok-arrow.was in
    let k = place_some c.feed_outputs.ensures.read c.in_ok-outputs.was in
    second_placed _ (line_fed (state_of a.records.now) feed_tree (drop a.at a.s.now)) g
    (second_placed _ (right_fed (state_of c.feed_head.new.records) feed_tree (drop c.in_ok-head.head a.s.now)) h
    (second_placed _ refl k (one_letter 59 c.behind.result c.behind.ensures)))
