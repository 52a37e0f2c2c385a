-- `prepared::Prepared::class_between` meets its contract: a character not below the last start is of the last class.
-- Assumes nothing.
use mathlib.Core.Path.{sym}
use native.Mathlib.Omega.{arith}
use Rattle.automaton.proofs.Laws.Words.{sound_header_lem}
use Rattle.automaton.proofs.Laws.Reading.{class_found}
use Rattle.session.proofs.prepared.Prepared.class_between.Goals as goal

pub class_start-requires : goal.class_start-requires
class_start-requires c =
    let s = c.args.self.now in
    let h = sound_header_lem s.machine.words.all.now s.machine.sound in
    omega (arith, c.last_class-last.ensures, h.few_classes)

pub returns-then-class_start-c : goal.returns-then-class_start-c
returns-then-class_start-c c =
    let s = c.args.self.now in
    let last = c.last_class-last in
    sym (class_found s.machine.words.all.now s.machine.sound c.args.c last.result.0 (omega (arith, last.ensures))
    (omega (arith, c.class_start.ensures, c.if-class_start-c.true)) (λ l. absurd (omega (arith, last.ensures))))
