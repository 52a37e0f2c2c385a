-- `mark_plain` meets its contract. The invariant: each character that is marked is plain.
-- Assumes nothing.
use Rattle.std.proofs.Common.{arith}
use Rattle.rules.proofs.Laws.Plain.{none_marked, marked_more}
use Rattle.rules.proofs.loaded.Loaded.mark_plain.Goals as goal

pub returns-then-size-self : goal.returns-then-size-self
returns-then-size-self c = let t = c.args.self.now in none_marked t.words.now t.rules 256

pub loop-c-init : goal.loop-c-init
loop-c-init c = let t = c.args.self.now in none_marked t.words.now t.rules 256

pub loop-c-preserved : goal.loop-c-preserved
loop-c-preserved c =
    let here = c.loop-c in
    let t = c.args.self.now in
    marked_more t.words.now t.rules here.mark-items here.c here.invariant (omega arith) c.is_plain.ensures

pub returns : goal.returns
returns c = c.loop-c.invariant
