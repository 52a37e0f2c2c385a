-- `run::fall_marked` meets its contract: two units are there, or the last one, and more may come.
-- Assumes nothing.
use mathlib.Core.Bool.{◌&&◌, not}
use mathlib.Core.List.{List}
use mathlib.Core.Path.{◌≡◌, sym, ap, ◌∙◌}
use Prim.Native.Nat.{ℕ, ◌+◌, ◌<◌, ◌≤◌}
use native.Mathlib.Omega.{arith}
use lib.ListN.{length, get_or}
use Rattle.meaning.specs.Table.{is_first, is_second}
use Rattle.reckoning.specs.Machine.{fall_one, fall_two}
use Rattle.session.proofs.Laws.Falling.{two_fall, one_fall}
use Rattle.session.specs.bridge.Running.{whole}
use Rattle.session.proofs.run.fall_marked.Goals as goal
use Rattle.session.proofs.run.fall_marked.Goals.{After-is_first, After-is_pair, Else-place-len, Start, Then-place-len}

abbrev text : Start → List ℕ
text s = whole s.args.text.now

-- the test of the two units
tested : (c : After-is_pair) → c.is_pair.result ≡ is_first (get_or (text (goal.at.After-is_pair c).Start) c.args.place 0) && is_second (get_or (text (goal.at.After-is_pair c).Start) (c.args.place + 1) 0)
tested c = let x = c.character-unit in
    c.is_pair.ensures ∙ (λ i. is_first (x.ensures i) && is_second (c.character.ensures i))

room : (c : Then-place-len) → c.args.place + 2 ≤ length (text (goal.at.Then-place-len c).Start)
room c = omega (arith, c.if-place-len.true, c.len.ensures)

pub returns-then-is_pair : goal.returns-then-is_pair
returns-then-is_pair c = sym (two_fall (text (goal.at.returns-then-is_pair c).Start) c.args.place c.args.ended (room (goal.at.returns-then-is_pair c).Then-place-len) ∙ ap fall_two (sym (tested (goal.at.returns-then-is_pair c).After-is_pair) ∙ c.if-is_pair.true))

pub returns-then-place-len : goal.returns-then-place-len
returns-then-place-len c = sym (two_fall (text (goal.at.returns-then-place-len c).Start) c.args.place c.args.ended (room (goal.at.returns-then-place-len c).Then-place-len) ∙ ap fall_two (sym (tested (goal.at.returns-then-place-len c).After-is_pair) ∙ c.if-is_pair.false))

-- the last unit of the text
last : (c : Else-place-len) → (c.args.place < length (text (goal.at.Else-place-len c).Start)) × (length (text (goal.at.Else-place-len c).Start) ≤ c.args.place + 1)
last c = (omega (arith, c.len.ensures, c.requires), omega (arith, c.len.ensures, c.if-place-len.false))

pub returns-then-ended : goal.returns-then-ended
returns-then-ended c =
    let x = get_or (text (goal.at.returns-then-ended c).Start) c.args.place 0 in
    sym (one_fall (text (goal.at.returns-then-ended c).Start) c.args.place c.args.ended (last (goal.at.returns-then-ended c).Else-place-len).0 (last (goal.at.returns-then-ended c).Else-place-len).1 ∙ ap (λ b. fall_one (not b && is_first x)) c.if-ended.true)

first : (c : After-is_first) → c.is_first.result ≡ is_first (get_or (text (goal.at.After-is_first c).Start) c.args.place 0)
first c = c.is_first.ensures ∙ ap is_first c.character-unit.ensures

pub returns-then-is_first : goal.returns-then-is_first
returns-then-is_first c =
    let x = get_or (text (goal.at.returns-then-is_first c).Start) c.args.place 0 in
    sym (one_fall (text (goal.at.returns-then-is_first c).Start) c.args.place c.args.ended (last (goal.at.returns-then-is_first c).Else-place-len).0 (last (goal.at.returns-then-is_first c).Else-place-len).1
    ∙ (λ i. fall_one (not (c.if-ended.false i) && is_first x)) ∙ ap fall_one (sym (first (goal.at.returns-then-is_first c).After-is_first) ∙ c.if-is_first.true))

pub returns : goal.returns
returns c =
    let x = get_or (text (goal.at.returns c).Start) c.args.place 0 in
    sym (one_fall (text (goal.at.returns c).Start) c.args.place c.args.ended (last (goal.at.returns c).Else-place-len).0 (last (goal.at.returns c).Else-place-len).1
    ∙ (λ i. fall_one (not (c.if-ended.false i) && is_first x)) ∙ ap fall_one (sym (first (goal.at.returns c).After-is_first) ∙ c.if-is_first.false))
