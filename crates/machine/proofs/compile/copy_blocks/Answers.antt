-- `compile::copy_blocks` meets its contract: the blocks stand between the words before them and those behind the last word.
-- Assumes nothing.
use Rattle.std.proofs.Common.{◌++◌, take, drop, sym, ap, refl, ◌∙◌}
use Rattle.std.proofs.lemmas.Slice.{put_mid-paste}
use lib.Seq.{take-take, length-take-le}
use native.Mathlib.Omega.{arith}
use Rattle.meaning.specs.Block.{blocks_size}
use Rattle.meaning.specs.bridge.Flat.{blocks_of}
use Rattle.automaton.specs.Layout.{blocks_from, word_count}
use Rattle.machine.proofs.compile.copy_blocks.Goals as goal

pub returns : goal.returns
returns c =
    let w = c.args.words.now in
    let b = c.args.table.now.words.now in
    put_mid-paste blocks_from blocks_size w c.copy_from_slice.new.self (blocks_of b) blocks_size c.copy_from_slice.ensures.after refl (sym (length-take-le blocks_size b (omega (arith, c.args.table.now.flat.long))))
    ∙ ap (λ l. take blocks_from w ++ l ++ drop word_count w) (take-take blocks_size blocks_size b (omega arith))
