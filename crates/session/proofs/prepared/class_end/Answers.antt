-- `prepared::class_end` meets its contract: the next class's start is the end where it is among the characters, and is not below the class's own.
-- Assumes nothing.
use mathlib.Core.Path.{sym, ◌∙◌}
use Prim.Native.Nat.{◌+◌, ◌<◌}
use native.Mathlib.Omega.{arith}
use Rattle.automaton.specs.Sound.{class_count}
use Rattle.automaton.proofs.Laws.Words.{sound_header_lem}
use Rattle.automaton.proofs.Laws.Reading.{starts_ordered}
use Rattle.session.proofs.prepared.class_end.Goals as goal
use Rattle.session.proofs.prepared.class_end.Goals.{Start, Then-class-class_count}

-- the class is one of at most 64
few : (s : Start) → s.args.class < 64
few s = omega (arith, s.requires.0, (sound_header_lem s.args.machine.words.all.now s.args.machine.sound).few_classes)

pub overflow_add-class : goal.overflow_add-class
overflow_add-class c = omega (arith, few (goal.at.overflow_add-class c).Start)

pub overflow_cast-class : goal.overflow_cast-class
overflow_cast-class c = omega (arith, few (goal.at.overflow_cast-class c).Start)

-- the next class is one of them, too
more : (c : Then-class-class_count) → c.args.class + 1 < class_count c.args.machine.words.all.now
more c = omega (arith, c.if-class-class_count.true, c.class_count.ensures)

pub class_start-requires : goal.class_start-requires
class_start-requires c =
    let h = sound_header_lem c.args.machine.words.all.now c.args.machine.sound in
    omega (arith, more (goal.at.class_start-requires c).Then-class-class_count, h.few_classes)

pub returns-then-next-most : goal.returns-then-next-most
returns-then-next-most c =
    let w = c.args.machine.words.all.now in
    let n = c.args.class in
    record {
      onward = omega (arith, starts_ordered w c.args.machine.sound n (n + 1) (omega arith) (more (goal.at.returns-then-next-most c).Then-class-class_count), c.class_start.ensures, c.from-next.ensures);
      inside = omega (arith, c.if-next-most.true);
      within = λ _. omega (arith, c.class_start.ensures, c.from-next.ensures);
      next = λ _. (more (goal.at.returns-then-next-most c).Then-class-class_count, sym (c.from-next.ensures ∙ c.class_start.ensures));
    }
