-- `prepared::Prepared::taken_alone` meets its contract. The invariant: the default takes each of the characters read alone, since none has a target and, under the
-- mark, none is a first unit. Assumes nothing.
use mathlib.Core.Bool.{false, not, ◌&&◌, and-false}
use mathlib.Core.Path.{◌≡◌, refl, sym, ap, subst, ◌∙◌}
use Prim.Native.Nat.{ℕ}
use native.Mathlib.Omega.{arith}
use lib.Dec.{eqb}
use lib.ListN.{length, get_or}
use Rattle.meaning.specs.Table.{is_first}
use Rattle.automaton.specs.Sound.{target_word}
use Rattle.automaton.proofs.Laws.Words.{sound_header_lem, sound_class}
use Rattle.words.specs.bridge.Readings.{Leads}
use Rattle.session.specs.bridge.Running.{TakenAlone}
use Rattle.session.proofs.Laws.Reading.{class_in, taken_next}
use Rattle.session.proofs.prepared.Prepared.taken_alone.Given.{Over}
use Rattle.session.proofs.prepared.Prepared.taken_alone.Goals as goal
use Rattle.session.proofs.prepared.Prepared.taken_alone.Goals.{After-target, Joined-else-this-ne0, else-this-ne0-via-then-this-ne0+else-is_first, else-this-ne0-via-else-this-ne0}

module _ (g : Over) where
  -- where the character leads from state 0
  abbrev word : After-target g → ℕ
  word c = let a = c.args in target_word a.self.now.machine.words.all.now 0 (class_in a.self.now.machine.words.all.now (get_or a.part.now c.loop-size.size 0))

  leads : (c : After-target g) → Leads c.target.result (word c)
  leads c = subst (λ k. Leads c.target.result (target_word c.args.self.now.machine.words.all.now 0 k)) c.class_between-class.ensures c.target.ensures

  -- under the mark it is no first unit
  alone : (c : Joined-else-this-ne0 g) → (not (eqb g.row.MARKED 0) && is_first (get_or c.args.part.now c.loop-size.size 0)) ≡ false
  alone c =
      let x = get_or c.args.part.now c.loop-size.size 0 in
      elim c.else-this-ne0.branch [
        | else-this-ne0-via-then-this-ne0+else-is_first b ↦
            ap (λ t. not (eqb g.row.MARKED 0) && t) (sym b.is_first.ensures ∙ b.if-is_first.false) ∙ and-false (not (eqb g.row.MARKED 0))
        | else-this-ne0-via-else-this-ne0 b ↦ ap (λ k. not (eqb k 0) && is_first x) b.if-this-ne0.false
      ]

pub loop-size-init : goal.loop-size-init
loop-size-init g c i h = absurd (omega (arith, h))

pub returns-then-is_first : goal.returns-then-is_first
returns-then-is_first g c = record { taken = (c.loop-size.auto.size-end, c.loop-size.invariant); begins = λ h. absurd (h refl) }

pub target-requires : goal.target-requires
target-requires g c =
    let m = c.args.self.now.machine in
    let w = m.words.all.now in
    let h = sound_header_lem w m.sound in
    let x = get_or c.args.part.now c.loop-size.size 0 in
    let e : c.class_between-class.result.0 ≡ class_in w x = c.class_between-class.ensures in
    (omega arith, omega (arith, h.few_classes, sound_class w m.sound x, e))

pub returns-in-Some : goal.returns-in-Some
returns-in-Some g c =
    let t = (goal.at.returns-in-Some g c).After-target in
    let on = subst (λ n. Leads n (word g t)) c.in-Some.is (leads g t) in
    record { taken = (c.loop-size.auto.size-end, c.loop-size.invariant); begins = λ h. (c.loop-size-test.true, on.0) }

pub loop-size-preserved : goal.loop-size-preserved
loop-size-preserved g c =
    let a = c.args in
    let l = c.loop-size in
    let none = subst (λ n. Leads n (word g (goal.at.loop-size-preserved g c).After-target)) c.in_default.is (leads g (goal.at.loop-size-preserved g c).After-target) in
    taken_next a.self.now.machine.words.all.now a.part.now (not (eqb g.row.MARKED 0)) l.size l.invariant none (alone g (goal.at.loop-size-preserved g c).Joined-else-this-ne0)

pub returns : goal.returns
returns g c =
    let a = c.args in
    let l = c.loop-size in
    let all : l.size ≡ length a.part.now = omega (arith, l.auto.size-end, c.loop-size-test.false) in
    record { taken = (omega arith, subst (TakenAlone a.self.now.machine.words.all.now (not (eqb g.row.MARKED 0)) a.part.now) all l.invariant); begins = λ h. absurd (h refl) }
