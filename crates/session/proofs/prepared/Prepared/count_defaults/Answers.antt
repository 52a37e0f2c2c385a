-- `prepared::Prepared::count_defaults` meets its contract: without an output the defaults of the characters that are taken alone come to as many times what
-- one writes, and the counts stay small, since the run does. Assumes nothing.
use mathlib.Core.Bool.{not}
use mathlib.Core.Path.{refl, sym, ap, subst, ◌∙◌}
use mathlib.Core.List.{List, []}
use Prim.Native.Nat.{ℕ, ◌+◌, ◌*◌, ◌<◌}
use native.Mathlib.Omega.{arith}
use lib.Dec.{eqb}
use Rattle.automaton.specs.Sound.{target_word}
use Rattle.session.specs.bridge.Running.{whole}
use Rattle.session.proofs.Laws.Reading.{Defaulted, part_inside, part_at, class_in, defaulted_alone, defaulted_small, defaulted_begins, defaulted_end}
use Rattle.session.proofs.prepared.Prepared.count_defaults.Given.{Over}
use Rattle.session.proofs.prepared.Prepared.count_defaults.Goals as goal
use Rattle.session.proofs.prepared.Prepared.count_defaults.Goals.{After-group_outputs, Start}

module _ (g : Over) where
  abbrev text : Start g → List ℕ
  text s = whole s.args.text.now

  -- the defaults of the characters that are taken alone
  passed : (c : After-group_outputs g) →
      let a = c.args in
      let size = c.taken_alone-alone.result.size in
      Defaulted a.self.now.machine.words.all.now (text (goal.at.After-group_outputs g c).Start) a.run.at a.run.count a.run.steps []
      (a.run.at + size) (a.run.count + size * c.group_outputs.result) (a.run.steps + 3 * size) []
  passed c =
      let a = c.args in
      let t = a.text.now in
      let m = a.self.now.machine in
      let p = c.unread-part in
      let u = text (goal.at.After-group_outputs g c).Start in
      let size = c.taken_alone-alone.result.size in
      let taken = c.taken_alone-alone.ensures.taken in
      subst (λ o. Defaulted m.words.all.now u a.run.at a.run.count a.run.steps [] (a.run.at + size) (a.run.count + size * o) (a.run.steps + 3 * size) []) (sym c.group_outputs.ensures)
      (defaulted_alone m.words.all.now u a.run.at a.run.count a.run.steps [] m.sound refl (not (eqb g.row.MARKED 0)) c.requires.mode p.result.now
      (part_at t.given.now t.piece.now p.result.now a.run.at p.ensures) (part_inside t.given.now t.piece.now p.result.now a.run.at p.ensures c.requires.placed.0.inside)
      size taken.0 taken.1)

  small : (c : After-group_outputs g) → c.args.run.count + c.taken_alone-alone.result.size * c.group_outputs.result + 8 < 18446744073709551616
  small c =
      let a = c.args in
      let size = c.taken_alone-alone.result.size in
      defaulted_small a.self.now.machine.words.all.now (text (goal.at.After-group_outputs g c).Start) a.run.at a.run.count a.run.steps []
      a.run c.requires.placed.1 refl refl refl c.requires.placed.0 (a.run.at + size) _ (a.run.steps + 3 * size) [] (passed c) a.self.now.machine.sound

pub overflow_mul-count : goal.overflow_mul-count
overflow_mul-count g c = omega (arith, small g (goal.at.overflow_mul-count g c).After-group_outputs)

pub overflow_add-count : goal.overflow_add-count
overflow_add-count g c = omega (arith, small g (goal.at.overflow_add-count g c).After-group_outputs)

pub returns-then-alone-eq0 : goal.returns-then-alone-eq0
returns-then-alone-eq0 g c =
    let a = c.args in
    let m = a.self.now.machine in
    let size = c.taken_alone-alone.result.size in
    let both = defaulted_end m.words.all.now (text g (goal.at.returns-then-alone-eq0 g c).Start) a.run.at a.run.count a.run.steps [] m.sound a.run c.requires.placed.1 refl refl refl c.requires.placed.0
    (a.run.at + size) _ (a.run.steps + 3 * size) [] (passed g (goal.at.returns-then-alone-eq0 g c).After-group_outputs) c.between.result c.between.ensures in
    record { passes_by_defaults = both.0; beyond = both.1 }

pub returns : goal.returns
returns g c =
    let a = c.args in
    let t = a.text.now in
    let m = a.self.now.machine in
    let w = m.words.all.now in
    let p = c.unread-part in
    let size = c.taken_alone-alone.result.size in
    let next = c.taken_alone-alone.result.next in
    let begins = c.taken_alone-alone.ensures.begins c.if-alone-eq0.false in
    let on = begins.1 ∙ ap (λ x. target_word w 0 (class_in w x)) (part_at t.given.now t.piece.now p.result.now a.run.at p.ensures size begins.0) in
    let inside = part_inside t.given.now t.piece.now p.result.now a.run.at p.ensures c.requires.placed.0.inside in
    let both = defaulted_begins w (text g (goal.at.returns g c).Start) a.run.at a.run.count a.run.steps [] m.sound a.run c.requires.placed.1 refl refl refl c.requires.placed.0
    (a.run.at + size) _ (a.run.steps + 3 * size) [] refl (passed g (goal.at.returns g c).After-group_outputs) (omega (arith, begins.0, inside)) next on c.if-alone-eq0.false
    c.begun.result c.begun.ensures in
    record { passes_by_defaults = both.0; beyond = both.1 }
