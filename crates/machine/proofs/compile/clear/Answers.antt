-- `compile::clear` meets its contract: zeros as many as there are words.
-- Assumes nothing.
use Rattle.std.proofs.Common.{rules, ◌++◌, drop, sym, ap, ◌∙◌}
use lib.ListN.{replicate}
use lib.Seq.{length-take-le}
use Rattle.rules.proofs.Laws.Flattened.{pad_zeros}
use Rattle.automaton.specs.Layout.{word_count}
use Rattle.machine.proofs.compile.clear.Goals as goal

pub returns : goal.returns
returns c =
    let w = c.args.words.now in
    ap (λ z. z ++ drop word_count w)
    (c.fill.ensures.after (search rules) ∙ ap (λ n. replicate n 0) (length-take-le word_count w c.requires) ∙ sym (pad_zeros word_count))
