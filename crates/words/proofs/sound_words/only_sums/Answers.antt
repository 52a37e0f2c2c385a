-- `only_sums` meets its contract: the loop keeps that each entry before is a sum.
use Rattle.std.proofs.Common.{true, false, sym, refl, arith, eq-eqb, ne_eqb}
use Rattle.meaning.proofs.Laws.Extremes.{none_below, below_again, below_fails}
use Rattle.words.proofs.sound_words.only_sums.Invariants.{is_sum}
use Rattle.words.proofs.sound_words.only_sums.Goals as goal

pub loop-entry-init : goal.loop-entry-init
loop-entry-init c = none_below (is_sum c.args.block.now)

pub returns-then-block-entry-ne0 : goal.returns-then-block-entry-ne0
returns-then-block-entry-ne0 c =
    let b = c.args.block.now in
    sym (below_fails (is_sum b) c.args.count c.loop-entry.entry (omega arith) {r = false} (sym (ne_eqb _ 0 c.if-block-entry-ne0.true)) refl)

pub loop-entry-preserved : goal.loop-entry-preserved
loop-entry-preserved c = below_again (is_sum c.args.block.now) c.loop-entry.entry c.loop-entry.invariant {r = true} (sym (eq-eqb _ 0 c.if-block-entry-ne0.false)) refl
