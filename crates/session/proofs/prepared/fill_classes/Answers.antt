-- `prepared::fill_classes` meets its contract. The invariant: the classes of the first characters stand at their places, and the next class starts behind.
-- Assumes nothing.
use mathlib.Core.Path.{◌≡◌, ◌∙◌}
use Prim.Native.Nat.{ℕ, ◌+◌, ◌<◌, ◌≤◌}
use native.Mathlib.Omega.{arith}
use mathlib.Core.List.{List}
use lib.ListN.{length, take, get_or}
use Rattle.session.specs.bridge.Running.{Classed}
use lib.Seq.{length-take-le, get_or-take}
use Rattle.meaning.specs.Block.{at}
use Rattle.automaton.specs.Layout.{classes_from}
use Rattle.automaton.specs.Sound.{class_count}
use Rattle.automaton.proofs.Laws.Words.{sound_header_lem}
use Rattle.automaton.proofs.Laws.Reading.{first_start, class_found}
use Rattle.session.proofs.Laws.Reading.{repainted, class_in}
use Rattle.session.proofs.prepared.fill_classes.Goals as goal
use Rattle.session.proofs.prepared.fill_classes.Goals.{Else-from-most}

pub loop-class-init : goal.loop-class-init
loop-class-init c =
    let w = c.args.machine.words.all.now in
    (omega arith, λ _. ((sound_header_lem w c.args.machine.sound).some_class, first_start w c.args.machine.sound), λ i h. absurd (omega arith))

-- the class to paint, and where it starts
due : (c : Else-from-most) → let l = c.loop-class in let w = c.args.machine.words.all.now in
    (l.class < class_count w) × (at w (classes_from + l.class) ≡ l.from)
due c = c.loop-class.invariant.1 (omega (arith, c.loop-class.invariant.0, c.if-from-most.false))

pub class_end-to-requires : goal.class_end-to-requires
class_end-to-requires c =
    let d = due (goal.at.class_end-to-requires c).Else-from-most in
    (d.0, omega (arith, d.1, c.loop-class.invariant.0))

pub overflow_cast-class : goal.overflow_cast-class
overflow_cast-class c =
    omega (arith, (due (goal.at.overflow_cast-class c).Else-from-most).0, (sound_header_lem c.args.machine.words.all.now c.args.machine.sound).few_classes)

pub paint_range-requires : goal.paint_range-requires
paint_range-requires c =
    let e = c.class_end-to.ensures in
    (omega (arith, (due (goal.at.paint_range-requires c).Else-from-most).1, e.onward), omega (arith, e.inside, c.loop-class.auto.classes, c.requires))

pub loop-class-preserved : goal.loop-class-preserved
loop-class-preserved c =
    let l = c.loop-class in
    let w = c.args.machine.words.all.now in
    let e = c.class_end-to.ensures in
    let d = due (goal.at.loop-class-preserved c).Else-from-most in (
      e.inside,
      e.next,
      repainted (class_in w) l.classes c.paint_range.new.classes l.from c.class_end-to.result l.class l.invariant.2 c.paint_range.ensures.1
          (λ i low high. class_found w c.args.machine.sound i l.class d.0 (omega (arith, d.1, low)) (λ more. omega (arith, high, e.within more))),
    )

-- all classes are painted
painted : (classes now : List ℕ) (most from : ℕ) (w : List ℕ) → length now ≡ length classes → most + 16 ≤ length classes → most ≤ from →
    ((i : ℕ) → i < from → get_or now i 0 ≡ class_in w i) → (length now ≡ length classes) × Classed w (take most now)
painted classes now most from w size room all each =
    let long = length-take-le most now (omega (arith, size, room)) in
    (size, λ i h. let low : i < most = omega (arith, long, h) in get_or-take most now i 0 low ∙ each i (omega (arith, low, all)))

pub returns-then-from-most : goal.returns-then-from-most
returns-then-from-most c =
    let l = c.loop-class in
    let a = c.args in
    painted a.classes.now l.classes a.most l.from a.machine.words.all.now l.auto.classes c.requires (omega (arith, c.if-from-most.true)) l.invariant.2

pub returns-after-loop-class : goal.returns-after-loop-class
returns-after-loop-class c =
    let l = c.loop-class in
    let a = c.args in
    let more : l.from < a.most → l.class < class_count a.machine.words.all.now = λ h. (l.invariant.1 h).0 in
    let all : a.most ≤ l.from = grind (arith, more, c.class_count-class-end.ensures, c.loop-class-test.false) in
    painted a.classes.now l.classes a.most l.from a.machine.words.all.now l.auto.classes c.requires all l.invariant.2
