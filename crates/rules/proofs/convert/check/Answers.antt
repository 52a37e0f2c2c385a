-- `rules::convert::check` meets its contract: the array is zeros, and what was loaded into it says what the table is.
-- The answer of the table check is the definition's.
use Rattle.std.proofs.Common.{sym, ap}
use Rattle.std.proofs.lemmas.Result.{err_from_is_err_and}
use Rattle.meaning.specs.bridge.Flat.{loaded_size}
use Rattle.rules.specs.Answers.{number_of, outcome_of}
use Rattle.rules.proofs.Laws.Flattened.{pad_zeros}
use Rattle.rules.proofs.Laws.Converting.{loaded_checked, refused_checked}
use Rattle.rules.proofs.convert.check.Goals as goal

pub load_table-requires : goal.load_table-requires
load_table-requires c = sym (pad_zeros loaded_size)

pub returns-in_err-load_table : goal.returns-in_err-load_table
returns-in_err-load_table c =
    let p = err_from_is_err_and c.from_residual.result c.from_residual.ensures.1 in
    rw (p.1, p.2) (refused_checked c.args.table.now (outcome_of c.load_table.result) _ c.load_table.ensures (number_of c.in_err-load_table.field-0.0) (ap outcome_of c.in_err-load_table.was))

pub returns : goal.returns
returns c = loaded_checked c.args.table.now (outcome_of c.load_table.result) _ c.load_table.ensures _ _ (ap outcome_of c.in_ok-load_table.was)
