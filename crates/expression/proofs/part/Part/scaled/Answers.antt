-- What is returned is a part times a number.
-- The numbers that the closure gives are the products, where they are in 32 bits.
use Rattle.std.proofs.Common.{rules, arith, map, ◌*ℤ◌, ◌∙◌}
use Rattle.std.proofs.lemmas.List.{length-map}
use Rattle.expression.specs.Parts.{scaled}
use Rattle.expression.proofs.Laws.Numbers.{map_given}
use Rattle.expression.proofs.part.Part.scaled.Goals as goal

pub returns : goal.returns
unfolding scaled
returns c =
    let x = c.args.self.now in
    let by = c.args.by in
    let r = c.ranges.by.sfits in
    c.filled.ensures (map (λ z. z *ℤ by) x.numbers) (length-map x.numbers (λ z. z *ℤ by) ∙ x.small.count)
    (λ k r h f. map_given x.numbers x.small by (omega arith) k h r (search rules))
