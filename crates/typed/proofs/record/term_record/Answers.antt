-- `typed::record::term_record` meets its contract. Each byte is the one of the coefficient's 16 bits.
-- By what the function called ensures. Assumes nothing.
use mathlib.Core.List.{[], ◌∷◌, ◌++◌}
use mathlib.Core.Path.{ap, ◌∙◌}
use Rattle.meaning.specs.Records.{little_endian}
use Rattle.typed.proofs.Laws.Bits.{two_bytes, bits_16}
use Rattle.typed.proofs.record.term_record.Goals as goal

pub returns : goal.returns
returns c =
    ap (λ l. 4 ∷ c.args.position ∷ 0 ∷ 0 ∷ (l ++ (0 ∷ 0 ∷ []))) (two_bytes _ c.to_le_bytes-x.ensures ∙ ap (little_endian 2) (bits_16 c.args.coefficient c.ranges.coefficient.sfits))
