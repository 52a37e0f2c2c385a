-- `typed::record::range_record` meets its contract. Each byte is the one of its character.
-- By what the function called ensures. Assumes nothing.
use mathlib.Core.List.{◌∷◌, ◌++◌}
use mathlib.Core.Path.{ap₂}
use Rattle.typed.proofs.Laws.Bits.{two_bytes}
use Rattle.typed.proofs.record.range_record.Goals as goal

pub returns : goal.returns
returns c =
    let a = c.args in
    ap₂ (λ x y. 2 ∷ a.position ∷ 0 ∷ 0 ∷ (x ++ y)) (two_bytes a.lowest c.to_le_bytes-low.ensures) (two_bytes a.highest c.to_le_bytes-high.ensures)
