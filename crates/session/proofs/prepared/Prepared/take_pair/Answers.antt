-- `prepared::Prepared::take_pair` meets its contract: both units are written, and counted as one pair.
-- Assumes nothing.
use mathlib.Core.List.{List}
use mathlib.Core.Path.{◌≡◌, sym, ap, subst, ◌∙◌}
use Prim.Native.Nat.{ℕ, ◌+◌, ◌*◌, ◌≤◌}
use native.Mathlib.Nat.{mul-le-mul_left}
use native.Mathlib.Omega.{arith}
use lib.ListN.{length, take, drop, length-drop}
use lib.Seq.{length-take-le}
use Rattle.meaning.specs.Table.{pair_number}
use Rattle.automaton.specs.Sound.{expansion_word}
use Rattle.automaton.specs.Automaton.{from_words}
use Rattle.session.specs.bridge.Running.{whole, put, Between}
use Rattle.session.proofs.Laws.Counting.{counted_room}
use Rattle.session.proofs.Laws.Running.{turn_small, write_pair}
use Rattle.session.proofs.prepared.Prepared.take_pair.Goals as goal
use Rattle.session.proofs.prepared.Prepared.take_pair.Goals.{Start}

abbrev text : Start → List ℕ
text s = whole s.args.text.now

-- both units have room where there is any
room : (s : Start) → 1 ≤ length s.args.output.now → s.args.run.count + 2 ≤ length s.args.output.now
room s any = let E = expansion_word s.args.self.now.machine.words.all.now in
    let P = s.requires.placed.0 in
    let z : E * (s.args.run.from + 2) ≤ E * length (text s) = mul-le-mul_left E s.requires.from_in_bounds.0 in
    let x : E * (s.args.run.from + 2) ≡ E * s.args.run.from + 2 * E = omega arith in
    omega (arith, P.written, P.enough any, s.requires.from_in_bounds.1)

pub count_uses-requires : goal.count_uses-requires
count_uses-requires c =
    let C = c.requires.placed.1 in
    (C.whole, omega arith, counted_room c.args.uses.now _ 1 c.args.run.from C (omega (arith, c.requires.from_in_bounds.0, c.requires.placed.0.short)))

pub write_pair-written-requires : goal.write_pair-written-requires
write_pair-written-requires c =
    let a = c.args in
    record { place_in_bounds = (c.requires.from_in_bounds.0, omega (arith, c.requires.from_in_bounds.0, c.requires.placed.0.short)); count_in_bounds = room (goal.at.write_pair-written-requires c).Start; count_bound = turn_small a.self.now.machine.words.all.now (text (goal.at.write_pair-written-requires c).Start) (length a.output.now) a.run c.args.self.now.machine.sound c.requires.placed.0 }

pub overflow_add-run : goal.overflow_add-run
overflow_add-run c =
    let P = c.requires.placed.0 in
    omega (arith, P.order, P.inside, P.short)

pub overflow_add-run-2 : goal.overflow_add-run-2
overflow_add-run-2 c =
    let P = c.requires.placed.0 in
    omega (arith, P.few, P.order, P.inside, P.short)

pub returns : goal.returns
returns c =
    let wrote = c.write_pair-written.ensures in
    let a = c.args in
    let w = a.self.now.machine.words.all.now in
    let word = take 2 (drop a.run.from (text (goal.at.returns c).Start)) in
    let same = write_pair w word in
    let size : 2 ≡ length ((from_words w).write pair_number word) = sym (length-take-le 2 (drop a.run.from (text (goal.at.returns c).Start)) (omega (arith, c.requires.from_in_bounds.0, length-drop a.run.from (text (goal.at.returns c).Start)))) ∙ ap length same in
    record {
      between = subst (λ n. Between (a.run.from + 2) n (a.run.steps + 4) c.between.result) (wrote.value ∙ ap (λ k. a.run.count + k) size) c.between.ensures;
      wrote = wrote.output_after ∙ ap (put a.output.now a.run.count) same;
      counted = c.count_uses.ensures;
    }
