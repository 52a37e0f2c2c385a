-- The cycle of calls {factor, product, sum}. Each one's measure is three times the unread length, and 0, 1, 2 for its rank: a sum calls
-- products where it stands or further on, a product factors, and a factor a sum behind its parenthesis. The loops go on as `Going` says.
use Prim.Native.Nat.{◌+◌, ◌-◌, ◌*◌}
use lib.ListN.{length, drop}
use Rattle.expression.specs.Parts.{parts}
use Rattle.expression.specs.bridge.Text.{is_sign, is_star, within, sum as sum_of, product as product_of, factor as factor_of}
use Rattle.expression.proofs.Laws.Steps.{Going}
use Rattle.expression.proofs.reader.+factor_product_sum.Given as goal

abbrev pub decreases-factor : goal.decreases-factor
decreases-factor l = 3 * (length l.s.now - l.at)

abbrev pub decreases-product : goal.decreases-product
decreases-product l = 3 * (length l.s.now - l.at) + 1

abbrev pub decreases-sum : goal.decreases-sum
decreases-sum l = 3 * (length l.s.now - l.at) + 2

abbrev pub invariant-product-loop-operation : goal.invariant-product-loop-operation
invariant-product-loop-operation l =
    Going l.s l.at is_star (factor_of parts (within parts l.depth)) (product_of parts (within parts l.depth) (drop l.at l.s)) l.part l.next

abbrev pub decreases-product-loop-operation : goal.decreases-product-loop-operation
decreases-product-loop-operation l = length l.s - l.next

abbrev pub invariant-sum-loop-operation : goal.invariant-sum-loop-operation
invariant-sum-loop-operation l =
    Going l.s l.at is_sign (product_of parts (within parts l.depth)) (sum_of parts (within parts l.depth) (drop l.at l.s)) l.part l.next

abbrev pub decreases-sum-loop-operation : goal.decreases-sum-loop-operation
decreases-sum-loop-operation l = length l.s - l.next
