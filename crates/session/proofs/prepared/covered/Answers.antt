-- `prepared::covered` meets its contract: the last start is answered only where it is at most 64.
-- Assumes nothing.
use native.Mathlib.Omega.{arith}
use Rattle.automaton.proofs.Laws.Words.{sound_header_lem}
use Rattle.session.proofs.prepared.covered.Goals as goal

pub class_start-requires : goal.class_start-requires
class_start-requires c =
    let h = sound_header_lem c.args.machine.words.all.now c.args.machine.sound in
    omega (arith, c.last_class.ensures, h.few_classes)
