-- `compile::compile` meets its contract: the words are cleared first, and what is built by the array that was loaded is what is compiled.
-- Assumes nothing.
use Rattle.std.proofs.Common.{arith, ◌≤◌, ◌<◌, length, sym, ap, subst, ◌∙◌}
use Rattle.std.proofs.lemmas.Result.{err_from_is_err_and}
use Rattle.lists.specs.Lists.{Each}
use Rattle.rules.specs.Answers.{number_of, outcome_of}
use Rattle.rules.proofs.Laws.Flattened.{pad_zeros}
use Rattle.rules.proofs.Laws.Loading.{each_known}
use Rattle.automaton.specs.Layout.{word_count}
use Rattle.machine.proofs.Laws.Compiling.{cleared_back, cleared, compile_short, compile_refused, compile_flat, compile_built}
use Rattle.meaning.specs.bridge.Flat.{loaded_size}
use Rattle.machine.proofs.compile.compile.Goals as goal
use Rattle.machine.proofs.compile.compile.Goals.{After-load_table, Start}

abbrev start : After-load_table → Start
start l = (goal.at.After-load_table l).Start

room : (l : After-load_table) → word_count ≤ length (start l).args.words.now
room l = l.if-words-lt-WORDS.false

bytes : (l : After-load_table) → Each (λ x. x < 256) (start l).args.table.now
bytes l = each_known 256 (start l).args.table.now (λ i. omega (arith, l.type_inv.table i))

pub returns-then-words-lt-WORDS : goal.returns-then-words-lt-WORDS
returns-then-words-lt-WORDS c =
    let a = c.args in let both = compile_short a.table.now a.words.now c.if-words-lt-WORDS.true in
    record { answer = both.0; words = both.1 }

pub load_table-requires : goal.load_table-requires
load_table-requires c = sym (pad_zeros loaded_size)

pub returns-in_err-rules : goal.returns-in_err-rules
returns-in_err-rules c =
    let a = c.args in
    let p = err_from_is_err_and c.from_residual.result c.from_residual.ensures.1 in
    let e = compile_refused a.table.now a.words.now (room (goal.at.returns-in_err-rules c).After-load_table) (outcome_of c.load_table.result) _ c.load_table.ensures (number_of c.in_err-rules.field-0.0) (ap outcome_of c.in_err-rules.was) in
    record { answer = rw (p.1, p.2) e.0; words = c.clear.ensures ∙ e.1 }

pub invariant_of-table : goal.invariant_of-table
invariant_of-table c =
    let l = (goal.at.invariant_of-table c).After-load_table in
    let a = c.args in
    let h = compile_flat a.table.now a.words.now (room l) (outcome_of c.load_table.result) _ c.load_table.ensures c.in_ok-rules.field-0.rules c.in_ok-rules.field-0.mode (ap outcome_of c.in_ok-rules.was) (bytes l) in
    record { flat = h.0; few = h.1 }

pub build-requires : goal.build-requires
build-requires c =
    let k = c.clear in
    (subst (λ m. word_count ≤ m) (sym k.auto.words) (room (goal.at.build-requires c).After-load_table), cleared c.args.words.now k.new.words k.ensures)

pub returns : goal.returns
returns c =
    let l = (goal.at.returns c).After-load_table in
    let a = c.args in
    let k = c.clear in
    let e = compile_built a.table.now a.words.now (room l) (outcome_of c.load_table.result) _ c.load_table.ensures c.in_ok-rules.field-0.rules c.in_ok-rules.field-0.mode (ap outcome_of c.in_ok-rules.was) (bytes l) k.new.words (cleared_back a.words.now k.new.words k.ensures) in
    record { answer = c.build.ensures.answer ∙ ap (λ o. o.answer) e; words = c.build.ensures.words ∙ ap (λ o. o.words) e }
