-- `rules::load::load_table` meets its contract: the array of zeros is that of no table, and the refusals are those of the check as it is run.
-- What holds of the records taken makes the array that of the table that is read.
use Rattle.std.proofs.Common.{◌≡◌, ◌/◌, ◌%◌, ◌<◌, length, sym, ap, ◌∙◌, subst, arith}
use Rattle.lists.specs.Lists.{Each}
use Rattle.rules.specs.bridge.Summary.{started, Fitting, Taken, take_records}
use Rattle.std.proofs.lemmas.Result.{err_from_is_err_and}
use Rattle.rules.specs.Answers.{number_of, outcome_of}
use Rattle.rules.proofs.Laws.Stepping.{started_fitting}
use Rattle.rules.proofs.Laws.Loading.{each_known, ragged_loaded, records_loaded, end_needs, end_loaded}
use Rattle.rules.proofs.load.load_table.Goals as goal
use Rattle.rules.proofs.load.load_table.Goals.{After-load_records, Start}

pub returns-then-table-ne0 : goal.returns-then-table-ne0
returns-then-table-ne0 c = ragged_loaded _ _ c.if-table-ne0.true

pub load_records-requires : goal.load_records-requires
load_records-requires c = record { table_len = c.if-table-ne0.false; fitting = subst Fitting (sym c.start.ensures) started_fitting }

-- where the records have been taken: the function's entry, the bytes, and that they are of whole records
abbrev start : After-load_records → Start
start c = (goal.at.After-load_records c).Start

bytes : (c : After-load_records) → Each (λ x. x < 256) c.args.table.now
bytes c = each_known 256 c.args.table.now (λ i. omega (arith, c.shared_slice_known-1.given i))

whole : (c : After-load_records) → length c.args.table.now % 8 ≡ 0
whole c = c.if-table-ne0.false

-- what the records come to from the summary of nothing
abbrev taken : After-load_records → Taken
taken c = take_records (length c.args.table.now / 8) c.args.table.now started c.args.loaded.now

answered : (c : After-load_records) → outcome_of c.load_records.result ≡ (taken c).answer
answered c = let a = c.args in
    c.load_records.ensures.answer ∙ ap (λ r. (take_records (length a.table.now / 8) a.table.now r a.loaded.now).answer) c.start.ensures

same-loaded : (c : After-load_records) →
    (take_records (length c.args.table.now / 8) c.args.table.now c.start.result c.args.loaded.now).loaded ≡ (taken c).loaded
same-loaded c = let a = c.args in
    ap (λ r. (take_records (length a.table.now / 8) a.table.now r a.loaded.now).loaded) c.start.ensures

pub finish_load-requires : goal.finish_load-requires
finish_load-requires c =
    let both = end_needs c.args.table.now (bytes (goal.at.finish_load-requires c).After-load_records) c.requires (whole (goal.at.finish_load-requires c).After-load_records) c.in_ok-reader.reader _
    (sym (ap outcome_of c.in_ok-reader.was) ∙ answered (goal.at.finish_load-requires c).After-load_records) (c.load_records.ensures.array ∙ same-loaded (goal.at.finish_load-requires c).After-load_records) in
    record { rules_bound = both.0; flat = both.1 }

pub returns-in_err-reader : goal.returns-in_err-reader
returns-in_err-reader c =
    let p = err_from_is_err_and c.from_residual.result c.from_residual.ensures.1 in
    let s = (goal.at.returns-in_err-reader c).After-load_records in
    rw (p.1, p.2) (records_loaded c.args.table.now (bytes s) c.requires (whole s) (number_of c.in_err-reader.field-0.0) _ (sym (ap outcome_of c.in_err-reader.was) ∙ answered s))

pub returns : goal.returns
returns c =
    let s = (goal.at.returns c).After-load_records in
    end_loaded c.args.table.now (bytes s) c.requires (whole s) c.in_ok-reader.reader _
    (sym (ap outcome_of c.in_ok-reader.was) ∙ answered s) (c.load_records.ensures.array ∙ same-loaded s) (outcome_of c.finish_load.result) c.finish_load.ensures
