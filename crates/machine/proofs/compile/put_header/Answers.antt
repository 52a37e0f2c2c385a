-- `compile::put_header` meets its contract: six stores, one for each word of the header, of which E fits a word.
-- Assumes nothing.
use Rattle.std.proofs.Common.{arith}
use Rattle.rules.specs.bridge.Modes.{the_mode}
use Rattle.rules.proofs.Laws.Converting.{expansion_eight}
use Rattle.machine.proofs.Laws.Compiling.{header_put}
use Rattle.machine.proofs.compile.put_header.Goals as goal

pub overflow_cast-words-3 : goal.overflow_cast-words-3
overflow_cast-words-3 c =
    let t = c.args.table.now in
    omega (arith, c.expansion.ensures, expansion_eight t.words.now t.rules (the_mode t.mode) t.flat t.few)

pub returns : goal.returns
returns c = rw (c.longest_of.ensures, c.expansion.ensures, c.mode_word.ensures) (header_put c.args.words.now _ _ _ _ _ _ c.requires.0)
