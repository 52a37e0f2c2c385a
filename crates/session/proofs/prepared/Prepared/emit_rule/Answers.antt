-- `prepared::Prepared::emit_rule` meets its contract: the rule takes as many characters as the store holds, and has room.
-- Assumes nothing.
use mathlib.Core.Bool.{true}
use mathlib.Core.List.{List}
use mathlib.Core.Path.{subst, ◌∙◌}
use Prim.Native.Nat.{ℕ, ◌+◌, ◌<◌}
use native.Mathlib.Omega.{arith}
use lib.ListN.{length}
use Rattle.meaning.specs.Block.{at}
use Rattle.automaton.specs.Sound.{block_at}
use Rattle.automaton.proofs.Laws.Words.{sound_header_lem}
use Rattle.session.specs.bridge.Running.{whole, lent, Between}
use Rattle.session.proofs.Laws.Counting.{counted_room}
use Rattle.session.proofs.Laws.Running.{turn_room, turn_small, shallow}
use Rattle.session.proofs.Laws.Turning.{emit_moves}
use Rattle.session.proofs.prepared.Prepared.emit_rule.Goals as goal
use Rattle.session.proofs.prepared.Prepared.emit_rule.Goals.{Start}

abbrev text : Start → List ℕ
text s = whole s.args.text.now

pub emit-written-requires : goal.emit-written-requires
emit-written-requires c =
    let w = c.args.self.now.machine.words.all.now in
    let P = c.requires.placed.0 in
    let k = c.requires.fits in
    let h = sound_header_lem w c.args.self.now.machine.sound in
    let deep = shallow w (text (goal.at.emit-written-requires c).Start) true c.args.self.now.machine.sound c.args.run (lent c.args.output.now c.args.uses.now) P c.args.run in
    let u = text (goal.at.emit-written-requires c).Start in
    let some : c.args.run.from < length u = omega (arith, k.2, P.depth, P.inside) in
    record {
      rule_bound = (omega (arith, k.0), omega (arith, k.3, h.expansion));
      from_le_to = (P.order, P.inside, deep, k.1 ∙ P.depth);
      rule_in_bounds = turn_room w u (length c.args.output.now) c.args.run P some (at (block_at w c.args.rule.0) 2) k.3;
      count_bound = turn_small w u (length c.args.output.now) c.args.run c.args.self.now.machine.sound P;
    }

pub count_uses-requires : goal.count_uses-requires
count_uses-requires c =
    let run = c.args.run in
    let P = c.requires.placed.0 in
    let C = c.requires.placed.1 in
    let k = c.requires.fits in
    (C.whole, omega (arith, k.0), counted_room c.args.uses.now c.args.rule.0 1 run.from C (omega (arith, k.2, P.depth, P.inside, P.short)))

pub returns : goal.returns
returns c =
    let wrote = c.emit-written.ensures in
    let a = c.args in
    let between = subst (λ n. Between a.run.at n (a.run.steps + 1) c.between.result) wrote.value c.between.ensures in
    let both = emit_moves a.self.now.machine.words.all.now (text (goal.at.returns c).Start) c.args.self.now.machine.sound a.run (lent a.output.now a.uses.now) c.requires.placed.0 c.requires.placed.1 c.between.result a.rule _ c.requires.fits
    between wrote.output_after c.count_uses.ensures in
    record { moves = both.0; beyond = both.1 }
