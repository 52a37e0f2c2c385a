-- `search::word_to` meets its contract. The invariant: the word so far leads from the state at hand, and the states below are left to look at.
-- Assumes nothing.
use Rattle.std.proofs.Common.{arith, ◌≡◌, ◌≤◌, ◌+◌, ◌-◌, ◌∷◌, length, ap, sym, ◌∙◌}
use Rattle.lists.specs.Lists.{pad}
use Rattle.lists.proofs.Laws.Parts.{length_pad}
use Rattle.meaning.specs.Block.{at}
use Rattle.automaton.specs.Layout.{classes_from}
use Rattle.automaton.proofs.Laws.Words.{sound_header_lem}
use Rattle.witness.proofs.Laws.Search.{back_few, back_none, back_found, back_end, back_to, put_front}
use Rattle.witness.proofs.search.word_to.Goals as goal
use Rattle.witness.proofs.search.word_to.Goals.{At-loop-number, In-Some}

-- the word so far is short
few : (l : At-loop-number) → length l.loop-number.invariant.0 ≤ 8
few l = let i = l.loop-number.invariant in
    back_few l.args.machine.words.all.now l.args.machine.sound l.args.state.0 l.loop-number.number l.loop-number.to.0 i.0 i.3

pub class_leading-requires : goal.class_leading-requires
class_leading-requires c =
    let B = c.loop-number.invariant.3 in
    let few = (sound_header_lem c.args.machine.words.all.now c.args.machine.sound).few_states in
    let l = B.left in
    let h = B.there in
    (omega arith, omega arith)

pub class_start-requires : goal.class_start-requires
class_start-requires c =
    let w = c.args.machine.words.all.now in
    let few = (sound_header_lem w c.args.machine.sound).few_classes in
    let h = (back_to w (c.loop-number.number - 1) c.loop-number.to.0 c.in-Some.class.0 (sym c.in-Some.ensures)).0 in
    omega (arith, few, h)

pub put_in-requires : goal.put_in-requires
put_in-requires c =
    let i = c.loop-number.invariant in
    let n : length c.loop-number.places ≡ 9 = ap length i.1 ∙ length_pad 9 i.0 in
    (omega arith, omega (arith, n, i.2, few (goal.at.put_in-requires c).At-loop-number))

pub loop-number-preserved-in-Some : goal.loop-number-preserved-in-Some
loop-number-preserved-in-Some c =
    let l = c.loop-number in
    let i = l.invariant in
    let w = c.args.machine.words.all.now in
    let x = at w (classes_from + c.in-Some.class.0) in (
      x ∷ i.0,
      c.put_in.ensures ∙ put_front l.places i.0 c.class_start.result l.length i.1 i.2 (few (goal.at.loop-number-preserved-in-Some c).At-loop-number) ∙ ap (λ y. pad 9 (y ∷ i.0)) c.class_start.ensures,
      ap (λ n. n + 1) i.2 ∙ omega arith,
      back_found w c.args.machine.sound c.args.state.0 l.number l.to.0 i.0 i.3 (omega arith) c.in-Some.class.0 (sym c.in-Some.ensures),
    )

pub loop-number-preserved : goal.loop-number-preserved
loop-number-preserved c =
    let l = c.loop-number in
    let i = l.invariant in
    (i.0, i.1, i.2, back_none c.args.machine.words.all.now c.args.machine.sound c.args.state.0 l.number l.to.0 i.0 i.3 (omega arith) (sym c.in_default.ensures))

pub returns : goal.returns
returns c =
    let l = c.loop-number in
    let i = l.invariant in
    let e = back_end c.args.machine.words.all.now c.args.machine.sound c.args.state.0 l.number l.to.0 i.0 i.3 (omega arith) in
    record { length = (i.2 ∙ ap length (sym e), omega (arith, i.2, few (goal.at.returns c).At-loop-number)); places = i.1 ∙ ap (pad 9) (sym e) }
