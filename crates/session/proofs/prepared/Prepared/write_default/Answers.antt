-- `prepared::Prepared::write_default` meets its contract. One character is stored at once. The loop's invariant: the output has the first j characters
-- that the default writes, from the count on. Assumes nothing.
use mathlib.Core.Path.{◌≡◌, sym, ap, ◌∙◌}
use mathlib.Core.List.{List, ◌++◌}
use Prim.Native.Nat.{ℕ, ◌+◌, ◌-◌, ◌<◌, ◌≤◌}
use native.Mathlib.Omega.{arith}
use lib.ListN.{length, take, drop, set, length-drop}
use lib.Seq.{length-take-le, paste, paste-zero}
use Rattle.meaning.specs.Block.{at, entry_value, block_output}
use Rattle.meaning.proofs.Laws.Writing.{written_more, written_all}
use Rattle.automaton.specs.Sound.{block_at}
use Rattle.automaton.proofs.Laws.Words.{sound_header_lem}
use Rattle.session.proofs.Laws.Running.{default_block}
use Rattle.session.proofs.prepared.Prepared.write_default.Invariants.{default_text}
use Rattle.session.proofs.prepared.Prepared.write_default.Goals as goal
use Rattle.session.proofs.prepared.Prepared.write_default.Goals.{Start, Then-number-eq1}

-- the part of the text that is taken is one character
part-word : (s : Start) →
    let a = s.args in
    take (a.place + 1 - a.place) (drop a.place a.part.now) ≡ take 1 (drop a.place a.part.now)
part-word s = let e : s.args.place + 1 - s.args.place ≡ 1 = omega arith in
    ap (λ n. take n (drop s.args.place s.args.part.now)) e

word-long : (s : Start) → length (take (s.args.place + 1 - s.args.place) (drop s.args.place s.args.part.now)) ≡ 1
word-long s = ap length (part-word s)
    ∙ length-take-le 1 (drop s.args.place s.args.part.now) (omega (arith, s.requires.place_in_bounds.0, length-drop s.args.place s.args.part.now))

-- what an entry writes for the part
entry : (s : Start) {r : ℕ} (j : ℕ) →
    let a = s.args in
    let b = block_at a.self.now.machine.words.all.now 32 in
    r ≡ entry_value b j (take (a.place + 1 - a.place) (drop a.place a.part.now)) → r ≡ entry_value b j (take 1 (drop a.place a.part.now))
entry s j e = e ∙ ap (entry_value (block_at s.args.self.now.machine.words.all.now 32) j) (part-word s)

-- a block that writes one character
one_written : (b w out : List ℕ) (count : ℕ) → at b 2 ≡ 1 → count < length out →
    set out count (entry_value b 0 w) ≡ take count out ++ block_output b w ++ drop (count + at b 2) out
one_written b w out count one room =
    let text = block_output b w in
    let here : count ≡ count + 0 = omega arith in
    let all : 0 + 1 ≡ at b 2 = omega (arith, one) in
    ap (λ o. set o count (entry_value b 0 w)) (paste-zero out count text)
    ∙ ap (λ n. set (paste out count text 0) n (entry_value b 0 w)) here
    ∙ written_more b w out count 0 (omega (arith, one)) (omega (arith, room))
    ∙ ap (paste out count text) all
    ∙ written_all b w out count

-- the default's block
block : (s : Start) → let b = block_at s.args.self.now.machine.words.all.now 32 in (at b 0 ≡ 1) × (at b 2 ≤ 8)
block s =
    let m = s.args.self.now in
    let b = default_block m.machine.words.all.now m.machine.sound s.requires.place_in_bounds.1 in
    (b.0, omega (arith, b.1, (sound_header_lem m.machine.words.all.now m.machine.sound).expansion))

-- the default writes one, and there is room for it
one : (c : Then-number-eq1) →
    let a = c.args in
    (at (block_at a.self.now.machine.words.all.now 32) 2 ≡ 1) × (a.count < length a.output.now)
one c = let e = sym c.group_outputs-number.ensures ∙ c.if-number-eq1.true in
    (e, omega (arith, e, c.requires.words_in_bounds))

pub entry_value-requires : goal.entry_value-requires
entry_value-requires c =
    let s = (goal.at.entry_value-requires c).Start in
    let long = word-long s in
    record { rule_in_bounds = (omega arith, omega arith); word_len = (long ∙ sym (block s).0, omega (arith, long)) }

pub bounds-output-count : goal.bounds-output-count
bounds-output-count c = (one (goal.at.bounds-output-count c).Then-number-eq1).1

pub overflow_add-result : goal.overflow_add-result
overflow_add-result c = omega (arith, (one (goal.at.overflow_add-result c).Then-number-eq1).1)

pub returns-then-number-eq1 : goal.returns-then-number-eq1
returns-then-number-eq1 c =
    let a = c.args in
    let b = block_at a.self.now.machine.words.all.now 32 in
    let word = take 1 (drop a.place a.part.now) in
    let o = one (goal.at.returns-then-number-eq1 c).Then-number-eq1 in
    record { value = ap (λ n. a.count + n) (sym o.0); output_after = ap (set a.output.now a.count) (entry (goal.at.returns-then-number-eq1 c).Start 0 c.entry_value.ensures) ∙ one_written b word a.output.now a.count o.0 o.1 }

pub loop-j-init : goal.loop-j-init
loop-j-init c =
    let a = c.args in
    paste-zero a.output.now a.count (default_text a.self.now.machine.words.all.now a.part.now a.place)

pub entry_value-requires-in-loop-j : goal.entry_value-requires-in-loop-j
entry_value-requires-in-loop-j c =
    let s = (goal.at.entry_value-requires-in-loop-j c).Start in
    let long = word-long s in
    record { rule_in_bounds = (omega arith, omega (arith, c.loop-j-test.true, c.group_outputs-number.ensures, (block s).1)); word_len = (long ∙ sym (block s).0, omega (arith, long)) }

pub loop-j-preserved : goal.loop-j-preserved
loop-j-preserved c =
    let a = c.args in
    let l = c.loop-j in
    let b = block_at a.self.now.machine.words.all.now 32 in
    let word = take 1 (drop a.place a.part.now) in
    let value = c.entry_value-in-loop-j.result in
    let front = paste a.output.now a.count (block_output b word) l.j in
    let turn = c.loop-j-test.true in
    let number = c.group_outputs-number.ensures in
    ap (λ o. set o (a.count + l.j) value) l.invariant
    ∙ ap (set front (a.count + l.j)) (entry (goal.at.loop-j-preserved c).Start l.j c.entry_value-in-loop-j.ensures)
    ∙ written_more b word a.output.now a.count l.j (omega (arith, turn, number)) (omega (arith, turn, number, c.requires.words_in_bounds))

pub returns : goal.returns
returns c =
    let a = c.args in
    let l = c.loop-j in
    let b = block_at a.self.now.machine.words.all.now 32 in
    let number = c.group_outputs-number.ensures in
    let word = take 1 (drop a.place a.part.now) in
    let e : l.j ≡ at b 2 = omega (arith, number, l.auto.j-end, c.loop-j-test.false) in
    record { value = ap (λ n. a.count + n) number; output_after = l.invariant ∙ ap (paste a.output.now a.count (block_output b word)) e ∙ written_all b word a.output.now a.count }
