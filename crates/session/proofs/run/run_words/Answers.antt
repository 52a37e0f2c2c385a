-- `run::run_words` meets its contract: with the classes of a table that was filled, however many, the run is the same.
-- Assumes nothing.
use mathlib.Core.Path.{sym}
use native.Mathlib.Omega.{arith}
use lib.Seq.{length-take-le}
use Rattle.session.proofs.run.run_words.Goals as goal

pub fill_classes-requires : goal.fill_classes-requires
fill_classes-requires c = omega arith

pub slice_bounds-table-end : goal.slice_bounds-table-end
slice_bounds-table-end c = omega (arith, c.fill_classes.ensures.0)

pub slice_bounds-run_from-end : goal.slice_bounds-run_from-end
slice_bounds-run_from-end c = let f = c.fill_classes in sym (length-take-le 256 f.new.classes (omega (arith, f.ensures.0)))

pub run_from-requires : goal.run_from-requires
run_from-requires c = record { classed = c.fill_classes.ensures.1; runnable = c.requires }

pub fill_classes-requires-2 : goal.fill_classes-requires-2
fill_classes-requires-2 c = omega (arith, c.covered-covered.ensures)

pub slice_bounds-table-end-2 : goal.slice_bounds-table-end-2
slice_bounds-table-end-2 c = omega (arith, c.fill_classes-2.ensures.0, c.covered-covered.ensures)

pub run_from-requires-2 : goal.run_from-requires-2
run_from-requires-2 c = record { classed = c.fill_classes-2.ensures.1; runnable = c.requires }
