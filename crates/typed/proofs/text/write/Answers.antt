-- `text::write` meets its contract: the lines are fed from an array of zeros on, and their records go into the table.
-- By what is known of a text read through. Assumes nothing.
use native.Mathlib.Omega.{arith}
use Rattle.std.proofs.Common.{rules}
use Rattle.rules.proofs.Laws.Loading.{each_known}
use Rattle.typed.proofs.Laws.Surveyed.{zeros_lent, written}
use Rattle.typed.proofs.text.write.Goals as goal

pub returns : goal.returns
returns c =
    let a = c.args in
    written c.feed_lines_past17.new.records (zeros_lent c.new.ensures.state) c.feed_lines_past17.ensures.read (search rules) (each_known 65536 a.text.now (λ i. omega (arith, c.type_inv.text i)))
