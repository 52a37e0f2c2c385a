-- `prepared::last_class` meets its contract: there is a class, and there are at most 64.
-- Assumes nothing.
use native.Mathlib.Omega.{arith}
use Rattle.automaton.proofs.Laws.Words.{sound_header_lem}
use Rattle.session.proofs.prepared.last_class.Goals as goal

pub overflow_sub-result : goal.overflow_sub-result
overflow_sub-result c = omega (arith, c.class_count.ensures, (sound_header_lem c.args.machine.words.all.now c.args.machine.sound).some_class)

pub overflow_cast-result : goal.overflow_cast-result
overflow_cast-result c = omega (arith, c.class_count.ensures, (sound_header_lem c.args.machine.words.all.now c.args.machine.sound).few_classes)

pub returns : goal.returns
returns c = omega (arith, c.class_count.ensures, (sound_header_lem c.args.machine.words.all.now c.args.machine.sound).some_class)
