-- `run::write_pair` meets its contract: both units have their places, or there are none.
-- Assumes nothing.
use mathlib.Core.List.{List, ◌++◌}
use mathlib.Core.Path.{◌≡◌, refl, sym, ap, ◌∙◌}
use Prim.Native.Nat.{ℕ, ◌+◌, ◌≤◌}
use native.Mathlib.Omega.{arith}
use lib.ListN.{length, take, drop, set, length-set, length-drop}
use lib.Seq.{length-take-le}
use Rattle.rules.proofs.Laws.Pairs.{pair_put}
use Rattle.session.proofs.Laws.Running.{put_none, put_some}
use Rattle.session.specs.bridge.Running.{whole}
use Rattle.session.proofs.run.write_pair.Goals as goal
use Rattle.session.proofs.run.write_pair.Goals.{Else-output-eq0, Start}

abbrev text : Start → List ℕ
text s = whole s.args.text.now

pub returns-then-output-eq0 : goal.returns-then-output-eq0
returns-then-output-eq0 c = let a = c.args in record { value = refl; output_after = sym (put_none a.output.now a.count _ c.if-output-eq0.true) }

-- there is room
room : (c : Else-output-eq0) → (1 ≤ length c.args.output.now) × (c.args.count + 2 ≤ length c.args.output.now)
room c = let any : 1 ≤ length c.args.output.now = omega (arith, c.if-output-eq0.false) in
    (any, c.requires.count_in_bounds any)

pub character-requires : goal.character-requires
character-requires c = omega (arith, c.requires.place_in_bounds)

pub offset_bounds-output-count : goal.offset_bounds-output-count
offset_bounds-output-count c = omega (arith, (room (goal.at.offset_bounds-output-count c).Else-output-eq0).1)

pub bounds-output-count : goal.bounds-output-count
bounds-output-count c = omega (arith, (room (goal.at.bounds-output-count c).Else-output-eq0).1)

pub overflow_add-place : goal.overflow_add-place
overflow_add-place c = omega (arith, c.requires.place_in_bounds)

pub character-requires-2 : goal.character-requires-2
character-requires-2 c = omega (arith, c.requires.place_in_bounds)

pub offset_bounds-output-count-2 : goal.offset_bounds-output-count-2
offset_bounds-output-count-2 c = omega (arith, (room (goal.at.offset_bounds-output-count-2 c).Else-output-eq0).1)

pub bounds-output-count-2 : goal.bounds-output-count-2
bounds-output-count-2 c = simp length-set (omega (arith, (room (goal.at.bounds-output-count-2 c).Else-output-eq0).1))

pub returns : goal.returns
returns c =
    let a = c.args in
    let h = room (goal.at.returns c).Else-output-eq0 in
    let u = text (goal.at.returns c).Start in
    let n : length (take 2 (drop a.place u)) ≡ 2 = length-take-le 2 (drop a.place u) (omega (arith, c.requires.place_in_bounds.0, length-drop a.place u)) in record {
      value = refl;
      output_after = (λ i. set (set a.output.now a.count (c.character.ensures i)) (a.count + 1) (c.character-2.ensures i))
          ∙ pair_put u a.output.now a.place a.count c.requires.place_in_bounds.0 h.1
          ∙ sym (put_some a.output.now a.count (take 2 (drop a.place u)) h.0
          ∙ ap (λ k. take a.count a.output.now ++ take 2 (drop a.place u) ++ drop (a.count + k) a.output.now) n);
    }
