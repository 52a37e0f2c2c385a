-- `sets::Members::next` meets its contract: the lowest rule is taken out, and the others are left.
-- Assumes nothing.
use Rattle.std.proofs.Common.{rules, arith, ◌≡◌, ◌<◌, ◌*◌, ◌^◌, ◌%◌, ℕ, length, ap, ◌∙◌}
use Rattle.std.specs.Int.{w32, trailing_zeros}
use Rattle.automaton.specs.bridge.Build.{members_from}
use Rattle.automaton.proofs.Laws.Sets.{members_zero, lowest_member, power_up_to}
use Rattle.machine.proofs.sets.MembersIterator.next.Goals as goal

pub returns-then-self-eq0-clause-steps : goal.returns-then-self-eq0-clause-steps
returns-then-self-eq0-clause-steps c = let e = ap (members_from 0 32) c.if-self-eq0.true ∙ members_zero 0 32 in (e, e)

weight : (t : ℕ) → t < 32 → 1 * 2 ^ t % 2 ^ 32 ≡ 2 ^ t
weight t h = omega (arith, power_up_to 31 t (omega arith))

pub overflow_sub-self : goal.overflow_sub-self
overflow_sub-self c =
    let f = lowest_member c.args.self.now.0 (omega arith) (omega arith) in
    omega (arith, f.1, weight (trailing_zeros w32 c.args.self.now.0) f.0)

pub returns-clause-steps : goal.returns-clause-steps
returns-clause-steps c =
    let f = lowest_member c.args.self.now.0 (omega arith) (omega arith) in
    rw (weight (trailing_zeros w32 c.args.self.now.0) f.0) f.2

pub returns-clause-goes : goal.returns-clause-goes
returns-clause-goes c =
    let e = ap length (returns-clause-steps c) in
    record { on = λ _. (search rules, search rules, omega (arith, e)); keeps = search rules; rests = search rules }
