-- `rules::convert::convert` meets its contract: the array is zeros, and what was loaded into it converts as the table does.
-- The answer of the table check is the definition's.
use Rattle.std.proofs.Common.{◌<◌, sym, ap, arith}
use Rattle.std.proofs.lemmas.Result.{err_from_is_err_and}
use Rattle.lists.specs.Lists.{Each}
use Rattle.meaning.specs.bridge.Flat.{loaded_size}
use Rattle.rules.specs.Answers.{number_of, outcome_of}
use Rattle.rules.specs.bridge.Modes.{the_mode}
use Rattle.rules.proofs.Laws.Flattened.{pad_zeros}
use Rattle.rules.proofs.Laws.Loading.{each_known}
use Rattle.rules.proofs.Laws.Converting.{Ready, loaded_ready, loaded_direct, refused_direct}
use Rattle.rules.proofs.convert.convert.Goals as goal
use Rattle.rules.proofs.convert.convert.Goals.{In_ok-rules}

pub load_table-requires : goal.load_table-requires
load_table-requires c = sym (pad_zeros loaded_size)

pub returns-in_err-rules : goal.returns-in_err-rules
returns-in_err-rules c =
    let p = err_from_is_err_and c.from_residual.result c.from_residual.ensures.1 in
    let both = refused_direct c.args.table.now (outcome_of c.load_table.result) _ c.load_table.ensures (number_of c.in_err-rules.field-0.0) (ap outcome_of c.in_err-rules.was) c.args.input.now c.args.output.now in
    rw (p.1, p.2) (record { answer = both.0; output = both.1 })

-- what is known of the elements of the table and of the input
abbrev Known : In_ok-rules → Type 0
Known c = Each (λ x. x < 256) c.args.table.now × Each (λ x. x < 65536) c.args.input.now

ready : (c : In_ok-rules) → Known c →
    let load = c.in_ok-rules.field-0 in Ready c.load_table.new.loaded load.rules (the_mode load.mode) c.args.input.now
ready c k = loaded_ready c.args.table.now (outcome_of c.load_table.result) _ c.load_table.ensures _ _ (ap outcome_of c.in_ok-rules.was) k.0 c.args.input.now k.1

pub invariant_of-table : goal.invariant_of-table
invariant_of-table c =
    let r = ready (goal.at.invariant_of-table c).In_ok-rules (each_known _ _ (λ i. omega (arith, c.type_inv.table i)), each_known _ _ (λ i. omega (arith, c.type_inv.input i))) in
    record { flat = r.flat; few = r.few }

pub invariant_of-convert : goal.invariant_of-convert
invariant_of-convert c =
    let r = ready (goal.at.invariant_of-convert c).In_ok-rules (each_known _ _ (λ i. omega (arith, c.type_inv.table i)), each_known _ _ (λ i. omega (arith, c.type_inv.input i))) in
    record { positive = r.positive; single = r.default }

pub convert-requires : goal.convert-requires
convert-requires c =
    let r = ready (goal.at.convert-requires c).In_ok-rules (each_known _ _ (λ i. omega (arith, c.type_inv.table i)), each_known _ _ (λ i. omega (arith, c.type_inv.input i))) in
    record { input_len_bound = r.room }

pub returns : goal.returns
returns c =
    let both = loaded_direct c.args.table.now (outcome_of c.load_table.result) _ c.load_table.ensures _ _ (ap outcome_of c.in_ok-rules.was) (each_known _ _ (λ i. omega (arith, c.type_inv.table i))) c.args.input.now c.args.output.now (each_known _ _ (λ i. omega (arith, c.type_inv.input i)))
    c.convert.ensures.answer c.convert.ensures.text in
    record { answer = both.0; output = both.1 }
