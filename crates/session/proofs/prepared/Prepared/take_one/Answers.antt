-- `prepared::Prepared::take_one` meets its contract: the default writes one character of the text, the first of the part that begins with the store.
-- Assumes nothing.
use mathlib.Core.List.{List}
use mathlib.Core.Path.{◌≡◌, sym, ap, subst, ◌∙◌}
use Prim.Native.Nat.{ℕ, ◌+◌}
use native.Mathlib.Omega.{arith}
use lib.ListN.{length, take, drop}
use Rattle.meaning.specs.Table.{default_number}
use Rattle.meaning.specs.Block.{at, block_output}
use Rattle.automaton.specs.Sound.{block_at}
use Rattle.automaton.specs.Automaton.{from_words}
use Rattle.automaton.proofs.Laws.Words.{length_block_output}
use Rattle.session.specs.bridge.Running.{whole, put, Between}
use Rattle.session.proofs.Laws.Counting.{counted_room}
use Rattle.session.proofs.Laws.Running.{turn_room, turn_small, write_block, default_block}
use Rattle.session.proofs.Laws.Reading.{part_some, part_one}
use Rattle.session.proofs.prepared.Prepared.take_one.Goals as goal
use Rattle.session.proofs.prepared.Prepared.take_one.Goals.{Start}

abbrev text : Start → List ℕ
text s = whole s.args.text.now

pub emit_default-written-requires : goal.emit_default-written-requires
emit_default-written-requires c =
    let a = c.args in
    let w = a.self.now.machine.words.all.now in
    let b = default_block w c.args.self.now.machine.sound c.requires.from_in_bounds.1 in
    let u = text (goal.at.emit_default-written-requires c).Start in
    let some = part_some a.text.now.given.now a.text.now.piece.now c.unread-part.result.now a.run.from c.unread-part.ensures c.requires.from_in_bounds.0 in
    record {
      place_in_bounds = (some, c.requires.from_in_bounds.1);
      words_in_bounds = turn_room w u (length a.output.now) a.run c.requires.placed.0 c.requires.from_in_bounds.0 (at (block_at w default_number) 2) b.1;
      count_bound = turn_small w u (length a.output.now) a.run c.args.self.now.machine.sound c.requires.placed.0;
    }

pub count_uses-requires : goal.count_uses-requires
count_uses-requires c =
    let C = c.requires.placed.1 in
    (C.whole, omega arith, counted_room c.args.uses.now _ 1 c.args.run.from C (omega (arith, c.requires.from_in_bounds.0, c.requires.placed.0.short)))

pub overflow_add-run : goal.overflow_add-run
overflow_add-run c =
    let P = c.requires.placed.0 in
    omega (arith, P.order, P.inside, P.short)

pub overflow_add-run-2 : goal.overflow_add-run-2
overflow_add-run-2 c =
    let P = c.requires.placed.0 in
    omega (arith, P.few, P.order, P.inside, P.short)

pub returns : goal.returns
returns c =
    let wrote = c.emit_default-written.ensures in
    let part = c.unread-part in
    let a = c.args in
    let w = a.self.now.machine.words.all.now in
    let b = block_at w default_number in
    let word = take 1 (drop a.run.from (text (goal.at.returns c).Start)) in
    let written = write_block w default_number word (omega arith) in
    let size : at b 2 ≡ length ((from_words w).write default_number word) = sym (length_block_output b word) ∙ ap length written in
    let some = part_some a.text.now.given.now a.text.now.piece.now part.result.now a.run.from part.ensures c.requires.from_in_bounds.0 in
    let z : a.run.from + 0 ≡ a.run.from = omega arith in
    let one =
    part_one a.text.now.given.now a.text.now.piece.now part.result.now a.run.from part.ensures 0 some (omega (arith, c.requires.from_in_bounds.0)) ∙ ap (λ n. take 1 (drop n (text (goal.at.returns c).Start))) z in
    record {
      between = subst (λ n. Between (a.run.from + 1) n (a.run.steps + 3) c.between.result) (wrote.value ∙ ap (λ k. a.run.count + k) size) c.between.ensures;
      wrote = wrote.output_after ∙ ap (λ l. put a.output.now a.run.count (block_output b l)) one ∙ ap (put a.output.now a.run.count) written;
      counted = c.count_uses.ensures;
    }
