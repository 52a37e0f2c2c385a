-- `text::survey` meets its contract: the lines are fed from an array of zeros on, and what is then held says what is answered.
-- By what is known of a text read through. Assumes nothing.
use mathlib.Core.Bool.{true, not}
use mathlib.Core.List.{List, [], ◌∷◌}
use mathlib.Core.Path.{◌≡◌, ap, ◌∙◌}
use Prim.Native.Nat.{ℕ}
use native.Mathlib.Omega.{arith}
use borrow.Author.Tests.{not-true, not-false}
use Rattle.std.proofs.lemmas.Result.{err_from_is_err_and}
use Rattle.meaning.specs.Table.{Characters}
use Rattle.rules.specs.Answers.{number_of, outcome_of}
use Rattle.rules.proofs.Laws.Loading.{each_known}
use Rattle.typed.specs.bridge.Stream.{State}
use Rattle.typed.specs.bridge.Answers.{state_of}
use Rattle.typed.proofs.Laws.Surveyed.{zeros_lent, Surveyed, outside, surveyed, beyond, unfit, end_fits, unfit_end, fit_end}
use Rattle.typed.proofs.Laws.Passes.{size_refused, size_accepted}
use Rattle.typed.proofs.text.survey.Goals as goal
use Rattle.typed.proofs.text.survey.Goals.{After-feed_lines_past17, Else-is_none, Else-not-sink}

-- where the lines have been fed: the text, and what is held
abbrev text : After-feed_lines_past17 → List ℕ
text l = l.args.text.now

abbrev held : After-feed_lines_past17 → State
held l = state_of l.feed_lines_past17.new.records

characters : (l : After-feed_lines_past17) → Characters (text l)
characters l = each_known 65536 (text l) (λ i. omega (arith, l.shared_slice_known-1.given i))

-- where 16 does not refuse them, and where 17 does not either
lines : (e : Else-is_none) → (lent : ℕ) × Surveyed (text (goal.at.Else-is_none e).After-feed_lines_past17) (0 ∷ []) lent (held (goal.at.Else-is_none e).After-feed_lines_past17)
lines e = (_, surveyed e.feed_lines_past17.new.records (zeros_lent e.new-records.ensures.state) e.feed_lines_past17.ensures.read (e.is_none.ensures ∙ ap not e.if-is_none.false))

abbrev read : Else-not-sink → Else-is_none
read d = (goal.at.Else-not-sink d).Else-is_none

abbrev fed : Else-not-sink → After-feed_lines_past17
fed d = (goal.at.Else-not-sink d).After-feed_lines_past17

fine : (d : Else-not-sink) → (held (fed d)).fine ≡ true
fine d = not-false (held (fed d)).fine d.if-not-sink.false

pub returns-then-is_none : goal.returns-then-is_none
returns-then-is_none c = size_refused (outside c.feed_lines_past17.new.records (zeros_lent c.new-records.ensures.state) c.feed_lines_past17.ensures.read (c.is_none.ensures ∙ ap not c.if-is_none.true))

pub returns-then-not-sink : goal.returns-then-not-sink
returns-then-not-sink c =
    let e = (goal.at.returns-then-not-sink c).Else-is_none in
    size_refused (beyond (lines e).1 (not-true _ c.if-not-sink.true))

pub returns-in_err-reader : goal.returns-in_err-reader
returns-in_err-reader c =
    let p = err_from_is_err_and c.from_residual.result c.from_residual.ensures.1 in
    let d = (goal.at.returns-in_err-reader c).Else-not-sink in
    rw (p.1, p.2) (size_refused (unfit (lines (read d)).1 (fine d) (characters (fed d)) (number_of c.in_err-reader.field-0.0) (ap outcome_of c.in_err-reader.was)))

pub finish_load-requires-clause-rules_bound : goal.finish_load-requires-clause-rules_bound
finish_load-requires-clause-rules_bound c =
    let d = (goal.at.finish_load-requires-clause-rules_bound c).Else-not-sink in
    (end_fits (lines (read d)).1 (fine d) (characters (fed d)) c.in_ok-reader.reader (ap outcome_of c.in_ok-reader.was)).0

pub finish_load-requires-clause-flat : goal.finish_load-requires-clause-flat
finish_load-requires-clause-flat c =
    let d = (goal.at.finish_load-requires-clause-flat c).Else-not-sink in
    (end_fits (lines (read d)).1 (fine d) (characters (fed d)) c.in_ok-reader.reader (ap outcome_of c.in_ok-reader.was)).1

pub returns-in_err-finish_load : goal.returns-in_err-finish_load
returns-in_err-finish_load c =
    let p = err_from_is_err_and c.from_residual-in_err-finish_load.result c.from_residual-in_err-finish_load.ensures.1 in
    let d = (goal.at.returns-in_err-finish_load c).Else-not-sink in
    rw (p.1, p.2) (size_refused
    (unfit_end (lines (read d)).1 (fine d) (characters (fed d)) c.in_ok-reader.reader (ap outcome_of c.in_ok-reader.was) (outcome_of c.finish_load.result) c.finish_load.ensures
    (number_of c.in_err-finish_load.field-0.0) (ap outcome_of c.in_err-finish_load.was)))

pub returns : goal.returns
returns c =
    let d = (goal.at.returns c).Else-not-sink in
    let b = fit_end (lines (read d)).1 (fine d) (characters (fed d)) c.in_ok-reader.reader (ap outcome_of c.in_ok-reader.was) (outcome_of c.finish_load.result) c.finish_load.ensures
    c.in_ok-finish_load.field-0 (ap outcome_of c.in_ok-finish_load.was) in
    size_accepted b.1 b.2
