-- `run::run_from` meets its contract. The invariant: the run has ended as the machine's, or goes on to the machine's end.
-- The measure is the turns that are left at most. Assumes nothing.
use mathlib.Core.Path.{◌≡◌}
use lib.ListN.{length, drop}
use Rattle.session.specs.bridge.Running.{whole, lent, left_by}
use Rattle.session.proofs.Laws.Running.{Stage, to_go}
use Rattle.session.proofs.Laws.Beginning.{first}
use Rattle.session.proofs.run.run_from.Given as goal

abbrev pub invariant-loop-turn : goal.invariant-loop-turn
invariant-loop-turn l =
    Stage l.machine.words.all.now (whole l.text) l.ended (length l.initial.output) (first l.machine.words.all.now l.text.given.now l.text.piece.now l.ended l.fn.state.0) l.initial.uses l.turn (lent l.output l.uses)
    × (drop (left_by l.turn).count l.output ≡ drop (left_by l.turn).count l.initial.output)

abbrev pub decreases-loop-turn : goal.decreases-loop-turn
decreases-loop-turn l = to_go (whole l.text) l.turn
