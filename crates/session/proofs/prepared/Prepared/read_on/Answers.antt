-- `prepared::Prepared::read_on` meets its contract. The invariant: any run in the first state at the part's start reads on to the state, past the
-- characters read. Assumes nothing.
use mathlib.Core.Path.{◌≡◌, refl, sym, ap, subst, ◌∙◌}
use mathlib.Core.List.{List}
use Prim.Native.Nat.{ℕ, ◌+◌, ◌≤◌, ◌<◌}
use native.Mathlib.Omega.{arith}
use lib.ListN.{length, get_or}
use Rattle.automaton.specs.Sound.{target_word}
use Rattle.words.specs.bridge.Readings.{Leads}
use Rattle.automaton.proofs.Laws.Words.{sound_header_lem, sound_class}
use Rattle.session.proofs.Laws.Reading.{Reaches, part_of, part_inside, part_some, part_at, class_in, reaches_none, reaches_next, reads_stuck, reads_free}
use Rattle.session.specs.bridge.Running.{whole}
use Rattle.session.proofs.prepared.Prepared.read_on.Goals as goal
use Rattle.session.proofs.prepared.Prepared.read_on.Goals.{After-target, Start}

abbrev text : Start → List ℕ
text s = whole s.args.text.now

within : (s : Start) (part : List ℕ) → part ≡ part_of s.args.text.now.given.now s.args.text.now.piece.now s.args.run.at → (read : ℕ) → read ≤ length part →
    s.args.run.at + read ≤ length (text s)
within s part e read h = omega (arith, h, part_inside s.args.text.now.given.now s.args.text.now.piece.now part s.args.run.at e s.requires.1.inside)

pub loop-read-init : goal.loop-read-init
loop-read-init c =
    let a = c.args in
    reaches_none a.self.now.machine.words.all.now (text (goal.at.loop-read-init c).Start) a.run.state a.run.at (a.run.at + 0) (omega arith) c.requires.1.state

pub target-requires : goal.target-requires
target-requires c =
    let w = c.args.self.now.machine.words.all.now in
    let l = c.loop-read in
    let h = sound_header_lem w c.args.self.now.machine.sound in
    let x = get_or c.unread-part.result.now l.read 0 in
    let e : c.class_in.result.0 ≡ class_in w x = c.class_in.ensures in
    (omega (arith, h.few_states, l.auto.read-end), omega (arith, h.few_classes, sound_class w c.args.self.now.machine.sound x, e))

pub overflow_add-result : goal.overflow_add-result
overflow_add-result c =
    let p = c.unread-part in
    let l = c.loop-read in
    omega (arith, within (goal.at.overflow_add-result c).Start p.result.now p.ensures l.read l.auto.read-end, c.requires.1.short)

abbrev word : After-target → ℕ
word c = let a = c.args in
    let l = c.loop-read in
    target_word a.self.now.machine.words.all.now l.state.0 (class_in a.self.now.machine.words.all.now (get_or (text (goal.at.After-target c).Start) (a.run.at + l.read) 0))

leads : (c : After-target) →
    (c.args.run.at + c.loop-read.read < length (text (goal.at.After-target c).Start)) × Leads c.target.result (word c)
leads c = let a = c.args in
    let p = c.unread-part in
    let l = c.loop-read in
    let t : l.read < length p.result.now = c.loop-read-test.true in
    let w = a.self.now.machine.words.all.now in
    let x = part_at a.text.now.given.now a.text.now.piece.now p.result.now a.run.at p.ensures l.read t in (
      omega (arith, t, within (goal.at.After-target c).Start p.result.now p.ensures (l.read + 1) (omega (arith, t))),
      subst (λ k. Leads c.target.result (target_word w l.state.0 k)) (c.class_in.ensures ∙ ap (class_in w) x) c.target.ensures,
    )

pub returns-in_default : goal.returns-in_default
returns-in_default c =
    let a = c.args in
    let l = c.loop-read in
    let k = leads (goal.at.returns-in_default c).After-target in
    reads_stuck a.self.now.machine.words.all.now (text (goal.at.returns-in_default c).Start) a.run _ (omega arith) l.invariant refl k.0 (subst (λ n. Leads n (word (goal.at.returns-in_default c).After-target)) c.in_default.is k.1)

pub loop-read-preserved : goal.loop-read-preserved
loop-read-preserved c =
    let a = c.args in
    let l = c.loop-read in
    let k = leads (goal.at.loop-read-preserved c).After-target in
    let on = subst (λ n. Leads n (word (goal.at.loop-read-preserved c).After-target)) c.in-Some.is k.1 in
    reaches_next a.self.now.machine.words.all.now (text (goal.at.loop-read-preserved c).Start) a.run.state a.run.at c.args.self.now.machine.sound l.state (a.run.at + l.read) l.invariant c.in-Some.next
    (a.run.at + (l.read + 1)) (omega arith) (omega arith) k.0 on.0 (λ z. on.1 (sym on.0 ∙ z))

pub overflow_add-result-2 : goal.overflow_add-result-2
overflow_add-result-2 c =
    let p = c.unread-part in
    omega (arith, within (goal.at.overflow_add-result-2 c).Start p.result.now p.ensures (length p.result.now) (omega arith), c.requires.1.short)

pub returns : goal.returns
returns c =
    let a = c.args in
    let t = a.text.now in
    let p = c.unread-part in
    let l = c.loop-read in
    let all : l.read ≡ length p.result.now = omega (arith, l.auto.read-end, c.loop-read-test.false) in
    let u = text (goal.at.returns c).Start in
    reads_free a.self.now.machine.words.all.now u a.run _ (omega arith) (subst (λ n. Reaches a.self.now.machine.words.all.now u a.run.state a.run.at l.state (a.run.at + n)) all l.invariant) refl
    (λ h. omega (arith, h, part_some t.given.now t.piece.now p.result.now a.run.at p.ensures (omega (arith, h))))
