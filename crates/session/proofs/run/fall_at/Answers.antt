-- `run::fall_at` meets its contract: each mode's fall.
-- Assumes nothing.
use mathlib.Core.Path.{sym, ap, ◌∙◌}
use lib.ListN.{drop}
use Rattle.rules.specs.declared.mode.Mode.{Mode}
use Rattle.rules.specs.bridge.Modes.{the_mode}
use Rattle.reckoning.specs.Machine.{Fall, fall}
use Rattle.session.specs.bridge.Running.{whole}
use Rattle.session.proofs.run.fall_at.Goals as goal
use Rattle.session.proofs.run.fall_at.Goals.{Start}

-- what a mode leads to
abbrev falls : Start → Mode → Fall
falls s m = let a = s.args in fall (the_mode m) a.ended (drop a.place (whole a.text.now))

pub returns-in-Absent : goal.returns-in-Absent
returns-in-Absent c = ap (falls (goal.at.returns-in-Absent c).Start) (sym c.in-Absent.is)

pub returns-in-Single : goal.returns-in-Single
returns-in-Single c = ap (falls (goal.at.returns-in-Single c).Start) (sym c.in-Single.is)

pub returns-in-Paired : goal.returns-in-Paired
returns-in-Paired c = c.fall_marked.ensures ∙ ap (falls (goal.at.returns-in-Paired c).Start) (sym c.in-Paired.is)
