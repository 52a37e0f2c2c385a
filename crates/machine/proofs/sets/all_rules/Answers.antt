-- `sets::all_rules` meets its contract: all bits below 2 ^ n make 2 ^ n - 1.
-- Assumes nothing.
use Rattle.std.proofs.Common.{arith, ◌≡◌, ◌*◌, ◌^◌, ◌%◌, ◌-◌, sym, subst}
use Rattle.automaton.proofs.Laws.Sets.{Whole, whole, power_up_to}
use Rattle.machine.proofs.sets.all_rules.Goals as goal

pub returns : goal.returns
returns c =
    let n = c.args.rules in
    let e : 1 * 2 ^ n % 2 ^ 64 - 1 ≡ 2 ^ n - 1 = omega (arith, power_up_to 32 n c.requires) in
    let w = subst (Whole n) (sym e) (whole n) in
    (w.1 0, w.0)
