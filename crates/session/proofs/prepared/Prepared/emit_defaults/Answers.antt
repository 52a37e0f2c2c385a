-- `prepared::Prepared::emit_defaults` meets its contract. The invariant: any run with an empty store at the part's start emits defaults for the characters
-- read, under the mark none of which is a first unit. Assumes nothing.
use mathlib.Core.Bool.{Bool, false, cond, not}
use mathlib.Core.Path.{◌≡◌, refl, sym, ap, subst, ◌∙◌}
use mathlib.Core.List.{List, ◌++◌}
use Prim.Native.Nat.{ℕ, ◌+◌, ◌*◌, ◌≤◌, ◌<◌}
use native.Mathlib.Omega.{arith}
use Rattle.std.proofs.lemmas.List.{nil_from_length}
use borrow.Author.Tests.{ne_eqb}
use lib.Dec.{eqb}
use lib.ListN.{length, get_or, take, drop}
use lib.Seq.{get_or-drop}
use Rattle.meaning.specs.Table.{is_first, default_number, Single, Paired}
use Rattle.meaning.specs.Block.{at, block_output}
use Rattle.automaton.specs.Sound.{target_word, block_at, mode_at}
use Rattle.words.specs.bridge.Readings.{Leads}
use Rattle.session.specs.bridge.Running.{whole, put, Placed, PassesByDefaults, Beyond}
use Rattle.automaton.proofs.Laws.Words.{sound_header_lem, sound_class, sound_default}
use Rattle.reckoning.specs.Machine.{taking, fall}
use Rattle.session.proofs.Laws.Running.{put_group}
use Rattle.session.proofs.Laws.Falling.{alone_fall, default_there}
use Rattle.session.proofs.Laws.Reading.{Defaulted, part_of, part_inside, part_at, part_one, class_in, defaulted_none, defaulted_next, defaulted_room, defaulted_begins, defaulted_end}
use Rattle.session.proofs.prepared.Prepared.emit_defaults.Given.{Over}
use Rattle.session.proofs.prepared.Prepared.emit_defaults.Goals as goal
use Rattle.session.proofs.prepared.Prepared.emit_defaults.Goals.{After-target, At-loop-read, Joined-else-this-ne0, Start, else-this-ne0-via-then-this-ne0+else-is_first, else-this-ne0-via-else-this-ne0}

-- the mode, by the number that stands for the mark
marked : (w : List ℕ) (n : ℕ) → mode_at w ≡ cond (not (eqb n 0)) Paired Single → (n ≡ 0 → ⊥) → mode_at w ≡ Paired
marked w n e h = e ∙ ap (λ b. cond (not b) Paired Single) (ne_eqb n 0 h)

unmarked : (w : List ℕ) (n : ℕ) → mode_at w ≡ cond (not (eqb n 0)) Paired Single → n ≡ 0 → mode_at w ≡ Single
unmarked w n e z = e ∙ ap (λ k. cond (not (eqb k 0)) Paired Single) z

-- what a block writes for a word, into an output with places
put_word : (b word same output after : List ℕ) (n : ℕ) → 1 ≤ length output → after ≡ take n output ++ block_output b word ++ drop (n + at b 2) output → word ≡ same →
    after ≡ put output n (block_output b same)
put_word b word same output after n any wrote e = wrote ∙ put_group b word output n any ∙ ap (λ x. put output n (block_output b x)) e

module _ (g : Over) where
  abbrev text : Start g → List ℕ
  text s = whole s.args.text.now

  within : (s : Start g) (part : List ℕ) → part ≡ part_of s.args.text.now.given.now s.args.text.now.piece.now s.args.run.at → (read : ℕ) → read ≤ length part →
      s.args.run.at + read ≤ length (text s)
  within s part e read h = omega (arith, h, part_inside s.args.text.now.given.now s.args.text.now.piece.now part s.args.run.at e s.requires.placed.0.inside)

  -- the steps and the place after as many defaults
  small : (l : At-loop-read g) →
      let a = l.args in (a.run.at + l.loop-read.read < 2199023255552) × (a.run.steps + 3 * l.loop-read.read < 35184372088832)
  small l = let p = l.unread-part in
      let i = within (goal.at.At-loop-read g l).Start p.result.now p.ensures l.loop-read.read l.loop-read.auto.read-end in
      let P = l.requires.placed.0 in
      (omega (arith, i, P.short), omega (arith, i, P.short, P.few, l.requires.placed.1))

  -- without the mark each unit falls alone, and under it one that is no first unit
  alone : (c : Joined-else-this-ne0 g) (ended : Bool) →
      let a = c.args in
      fall (mode_at a.self.now.machine.words.all.now) ended (drop (a.run.at + c.loop-read.read) (text (goal.at.Joined-else-this-ne0 g c).Start)) ≡ taking default_number 1
  alone c ended =
      let a = c.args in
      let t = a.text.now in
      let w = a.self.now.machine.words.all.now in
      let p = c.unread-part in
      let m = a.run.at + c.loop-read.read in
      let z : m + 0 ≡ m = omega arith in
      let u = text (goal.at.Joined-else-this-ne0 g c).Start in
      let same : get_or (drop m u) 0 0 ≡ get_or p.result.now c.loop-read.read 0 =
      get_or-drop m u 0 0 ∙ ap (λ k. get_or u k 0) z ∙ sym (part_at t.given.now t.piece.now p.result.now a.run.at p.ensures c.loop-read.read c.loop-read-test.true) in
      elim c.else-this-ne0.branch [
        | else-this-ne0-via-then-this-ne0+else-is_first b ↦
            ap (λ d. fall d ended (drop m u)) (marked w g.row.MARKED c.requires.mode b.if-this-ne0.true)
            ∙ alone_fall ended (drop m u) (ap is_first same ∙ sym b.is_first.ensures ∙ b.if-is_first.false)
        | else-this-ne0-via-else-this-ne0 b ↦ ap (λ d. fall d ended (drop m u)) (unmarked w g.row.MARKED c.requires.mode b.if-this-ne0.false)
      ]

  -- where the next character leads from state 0
  abbrev word : After-target g → ℕ
  word c = let a = c.args in
      target_word a.self.now.machine.words.all.now 0 (class_in a.self.now.machine.words.all.now (get_or (text (goal.at.After-target g c).Start) (a.run.at + c.loop-read.read) 0))

  leads : (c : After-target g) →
      (c.args.run.at + c.loop-read.read < length (text (goal.at.After-target g c).Start)) × Leads c.target.result (word c)
  leads c =
      let a = c.args in
      let t = a.text.now in
      let p = c.unread-part in
      let l = c.loop-read in
      let turn : l.read < length p.result.now = c.loop-read-test.true in
      let w = a.self.now.machine.words.all.now in
      let x = part_at t.given.now t.piece.now p.result.now a.run.at p.ensures l.read turn in (
        omega (arith, turn, within (goal.at.After-target g c).Start p.result.now p.ensures (l.read + 1) (omega (arith, turn))),
        subst (λ k. Leads c.target.result (target_word w 0 k)) (c.class_between-class.ensures ∙ ap (class_in w) x) c.target.ensures,
      )

pub count_defaults-requires : goal.count_defaults-requires
count_defaults-requires g c =
    let a = c.args in
    let P = c.requires.placed in
    record { mode = c.requires.mode; placed = (subst (λ room. Placed a.self.now.machine.words.all.now (whole a.text.now) room a.run) c.if-output-eq0.true P.0, P.1) }

pub returns-then-output-eq0 : goal.returns-then-output-eq0
returns-then-output-eq0 g c =
    let a = c.args in
    let w = a.self.now.machine.words.all.now in
    let known = c.count_defaults.ensures in
    let none = sym (nil_from_length a.output.now c.if-output-eq0.true) in
    record {
      passes_by_defaults = subst (λ o. PassesByDefaults w (whole a.text.now) a.run o c.count_defaults.result o) none known.passes_by_defaults;
      beyond = subst (λ o. Beyond a.run o c.count_defaults.result o) none known.beyond;
    }

pub loop-read-init : goal.loop-read-init
loop-read-init g c =
    let a = c.args in
    defaulted_none a.self.now.machine.words.all.now (text g (goal.at.loop-read-init g c).Start) a.run.at a.run.count a.run.steps a.output.now (a.run.at + 0) (a.run.steps + 0) (omega arith) (omega arith)

pub target-requires : goal.target-requires
target-requires g c =
    let m = c.args.self.now in
    let w = m.machine.words.all.now in
    let h = sound_header_lem w m.machine.sound in
    let x = get_or c.unread-part.result.now c.loop-read.read 0 in
    let e : c.class_between-class.result.0 ≡ class_in w x = c.class_between-class.ensures in
    (omega arith, omega (arith, h.few_classes, sound_class w m.machine.sound x, e))

pub returns-then-is_first : goal.returns-then-is_first
returns-then-is_first g c =
    let l = c.loop-read in
    let a = c.args in
    let m = a.self.now in
    let both = defaulted_end m.machine.words.all.now (whole a.text.now) a.run.at a.run.count a.run.steps a.output.now m.machine.sound a.run c.requires.placed.1 refl refl refl c.requires.placed.0
    (a.run.at + l.read) l.count (a.run.steps + 3 * l.read) l.output l.invariant c.between.result c.between.ensures in
    record { passes_by_defaults = both.0; beyond = both.1 }

pub begun-requires : goal.begun-requires
begun-requires g c = let k = small g (goal.at.begun-requires g c).At-loop-read in (omega (arith, k.0), omega (arith, k.1))

pub returns-in-Some : goal.returns-in-Some
returns-in-Some g c =
    let l = c.loop-read in
    let a = c.args in
    let m = a.self.now in
    let k = leads g (goal.at.returns-in-Some g c).After-target in
    let on = subst (λ n. Leads n (word g (goal.at.returns-in-Some g c).After-target)) c.in-Some.is k.1 in
    let both = defaulted_begins m.machine.words.all.now (whole a.text.now) a.run.at a.run.count a.run.steps a.output.now m.machine.sound a.run c.requires.placed.1 refl refl refl c.requires.placed.0
    (a.run.at + l.read) l.count (a.run.steps + 3 * l.read) l.output l.auto.output l.invariant k.0 c.in-Some.state on.0 (λ z. on.1 (sym on.0 ∙ z))
    c.begun.result c.begun.ensures in
    record { passes_by_defaults = both.0; beyond = both.1 }

pub write_default-count-requires : goal.write_default-count-requires
write_default-count-requires g c =
    let a = c.args in
    let w = a.self.now.machine.words.all.now in
    let W = a.self.now.machine.sound in
    let l = c.loop-read in
    let u = whole a.text.now in
    let k = leads g (goal.at.write_default-count-requires g c).After-target in
    let m = a.run.at + l.read in
    let there = default_there w (drop m u) false _ _ (alone g (goal.at.write_default-count-requires g c).Joined-else-this-ne0 false) in
    let d = sound_default w W there in
    let room =
    defaulted_room w u a.run.at a.run.count a.run.steps a.output.now a.run c.requires.placed.1 refl refl refl c.requires.placed.0
    (a.run.at + l.read) l.count (a.run.steps + 3 * l.read) l.output l.invariant k.0 W (at (block_at w 32) 2) d.outputs in
    let fits : l.count + at (block_at w 32) 2 ≤ length l.output = subst (λ n. l.count + at (block_at w 32) 2 ≤ n) (sym l.auto.output) (room.0 (omega (arith, c.if-output-eq0.false))) in
    record { place_in_bounds = (c.loop-read-test.true, there); words_in_bounds = fits }

pub loop-read-preserved : goal.loop-read-preserved
loop-read-preserved g c =
    let a = c.args in
    let t = a.text.now in
    let w = a.self.now.machine.words.all.now in
    let b = block_at w 32 in
    let p = c.unread-part in
    let l = c.loop-read in
    let turn : l.read < length p.result.now = c.loop-read-test.true in
    let k = leads g (goal.at.loop-read-preserved g c).After-target in
    let none = subst (λ n. Leads n (word g (goal.at.loop-read-preserved g c).After-target)) c.in_default.is k.1 in
    let known = c.write_default-count.ensures in
    let any : 1 ≤ length l.output = omega (arith, c.if-output-eq0.false, l.auto.output) in
    let one = part_one t.given.now t.piece.now p.result.now a.run.at p.ensures l.read turn c.requires.placed.0.inside in
    defaulted_next w (whole t) a.run.at a.run.count a.run.steps a.output.now a.self.now.machine.sound
    (a.run.at + l.read) l.count (a.run.steps + 3 * l.read) (alone g (goal.at.loop-read-preserved g c).Joined-else-this-ne0) l.output l.auto.output l.invariant k.0 none
    (a.run.at + (l.read + 1)) c.write_default-count.result (a.run.steps + 3 * (l.read + 1)) _ (omega arith) known.value (omega arith)
    (put_word b _ _ l.output _ l.count any known.output_after one)

pub returns : goal.returns
returns g c =
    let l = c.loop-read in
    let a = c.args in
    let m = a.self.now in
    let u = whole a.text.now in
    let n = length c.unread-part.result.now in
    let all : l.read ≡ n = omega (arith, l.auto.read-end, c.loop-read-test.false) in
    let done = subst (λ k. Defaulted m.machine.words.all.now u a.run.at a.run.count a.run.steps a.output.now (a.run.at + k) l.count (a.run.steps + 3 * k) l.output) all l.invariant in
    let both = defaulted_end m.machine.words.all.now u a.run.at a.run.count a.run.steps a.output.now m.machine.sound a.run c.requires.placed.1 refl refl refl c.requires.placed.0
    (a.run.at + n) l.count (a.run.steps + 3 * n) l.output done c.between-2.result c.between-2.ensures in
    record { passes_by_defaults = both.0; beyond = both.1 }
