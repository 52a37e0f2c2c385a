-- `rules::output::sum_at` meets its contract. The invariant: the sum asked is what is left of it after i coefficients, from the sum so far.
-- Assumes nothing.
use Rattle.std.proofs.Common.{◌≡◌}
use Rattle.meaning.proofs.Laws.Writing.{sum_left}
use Rattle.rules.proofs.output.sum_at.Given as goal

abbrev pub invariant-loop-i : goal.invariant-loop-i
invariant-loop-i l = sum_left l.block l.from l.word 0 0 ≡ sum_left l.block l.from l.word l.i l.sum
