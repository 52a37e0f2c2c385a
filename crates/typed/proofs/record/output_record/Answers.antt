-- `typed::record::output_record` meets its contract. Each byte is the one of the constant's 32 bits.
-- By what the function called ensures. Assumes nothing.
use mathlib.Core.List.{◌∷◌}
use mathlib.Core.Path.{ap, ◌∙◌}
use Rattle.meaning.specs.Records.{little_endian}
use Rattle.typed.proofs.Laws.Bits.{four_bytes, bits_32}
use Rattle.typed.proofs.record.output_record.Goals as goal

pub returns : goal.returns
returns c =
    ap (λ l. 3 ∷ 0 ∷ 0 ∷ 0 ∷ l) (four_bytes _ c.to_le_bytes-x.ensures ∙ ap (little_endian 4) (bits_32 c.args.constant c.ranges.constant.sfits))
