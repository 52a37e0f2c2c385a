-- `kept::may_wait` meets its contract: the mark, the unit and its target from state 0, one test after another.
-- Assumes nothing.
use Rattle.std.specs.Prelude.{Option, Some, None, is_none}
use mathlib.Core.Bool.{Bool, true, false, not, ◌&&◌}
use mathlib.Core.Path.{◌≡◌, refl, sym, ap, subst, ◌∙◌}
use Prim.Native.Nat.{ℕ}
use native.Mathlib.Omega.{arith}
use borrow.Author.Tests.{eq-eqb, ne_eqb}
use denote.Enum.Bare.{sameb}
use lib.Dec.{eqb}
use Rattle.rules.specs.bridge.Modes.{the_mode}
use Rattle.rules.specs.contracts.mode.Mode.{the_type}
use Rattle.rules.specs.declared.mode.Mode.{Mode}
use Rattle.rules.specs.declared.mode.Mode.TheVariants.{Absent, Single, Paired}
use Rattle.automaton.specs.Sound.{target_word}
use Rattle.automaton.specs.Automaton.{from_words}
use Rattle.automaton.proofs.Laws.Words.{sound_header_lem, sound_class}
use Rattle.reckoning.specs.Session.{is_paired}
use Rattle.words.specs.bridge.Readings.{Leads}
use Rattle.words.specs.declared.numbers.StateNo.{StateNo}
use Rattle.session.proofs.Laws.Running.{mode_words}
use Rattle.session.proofs.kept.may_wait.Goals as goal
use Rattle.session.proofs.kept.may_wait.Goals.{After-eq, After-target, then-eq, else-eq}

-- the mark is set
paired : (m : Mode) → sameb the_type m Paired ≡ is_paired (the_mode m)
paired Absent = refl
paired Single = refl
paired Paired = refl

marked : (c : After-eq) → c.eq.result ≡ is_paired (from_words c.args.machine.words.all.now).default
marked c = c.eq.ensures ∙ paired c.default_mode.result ∙ ap is_paired (c.default_mode.ensures ∙ mode_words c.args.machine.words.all.now)

-- there is no target as the definition has it
untargeted : (r : Option StateNo) (n : ℕ) → Leads r n → is_none r ≡ eqb n 0
untargeted None n l = sym (eq-eqb n 0 l)
untargeted (Some q) n l = sym (ne_eqb n 0 l.1)

un-not : (b x : Bool) → not b ≡ x → b ≡ not x
un-not true x e = ap not e
un-not false x e = ap not e

leads : (t : After-target) → Leads t.target.result ((from_words t.args.machine.words.all.now).target 0 t.args.unit)
unfolding from_words
leads t = subst (λ k. Leads t.target.result (target_word t.args.machine.words.all.now 0 k)) t.class_of.ensures t.target.ensures

-- three tests in a row
past-two : {p q : Bool} (r : Bool) → p ≡ true → q ≡ true → p && (q && r) ≡ r
past-two r e f = rw (e, f) refl

second-fails : {p q : Bool} (r : Bool) → p ≡ true → q ≡ false → p && (q && r) ≡ false
second-fails r e f = rw (e, f) refl

first-fails : {p : Bool} (r : Bool) → p ≡ false → p && r ≡ false
first-fails r e = rw e refl

pub target-requires : goal.target-requires
target-requires c =
    let w = c.args.machine.words.all.now in
    let h = sound_header_lem w c.args.machine.sound in
    (omega arith, omega (arith, h.few_classes, sound_class w c.args.machine.sound c.args.unit, c.class_of.ensures))

pub returns-then-is_first : goal.returns-then-is_first
returns-then-is_first c =
    let m = marked (goal.at.returns-then-is_first c).After-eq in
    let none = un-not _ _ (sym c.is_none.ensures) ∙ untargeted _ _ (leads (goal.at.returns-then-is_first c).After-target) in
    elim c.if-eq.branch [
      | then-eq w ↦ none ∙ sym (past-two _ (sym m ∙ w.if-eq.true) (sym w.is_first.ensures ∙ sym w.value-is ∙ c.if-is_first.true))
      | else-eq w ↦ cc
    ]

pub returns-else-is_first : goal.returns-else-is_first
returns-else-is_first c =
    let m = marked (goal.at.returns-else-is_first c).After-eq in
    elim c.if-eq.branch [
      | then-eq w ↦ c.if-is_first.false ∙ sym (second-fails _ (sym m ∙ w.if-eq.true) (sym w.is_first.ensures ∙ sym w.value-is ∙ c.if-is_first.false))
      | else-eq w ↦ c.if-is_first.false ∙ sym (first-fails _ (sym m ∙ w.if-eq.false))
    ]
