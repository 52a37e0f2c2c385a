-- `kept::cost` meets its contract: a sound machine's L is at most 8.
-- Assumes nothing.
use native.Mathlib.Omega.{arith}
use Rattle.automaton.proofs.Laws.Words.{sound_header_lem}
use Rattle.session.proofs.kept.cost.Goals as goal

pub overflow_add-result : goal.overflow_add-result
overflow_add-result c = omega (arith, (sound_header_lem c.args.machine.words.all.now c.args.machine.sound).longest, c.longest.ensures)

pub returns-clause-bound : goal.returns-clause-bound
returns-clause-bound c = omega (arith, (sound_header_lem c.args.machine.words.all.now c.args.machine.sound).longest, c.longest.ensures)
