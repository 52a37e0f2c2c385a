-- `extreme_sums` meets its contract: the loop goes from the last position to the first, and keeps the sums over those passed, at most 2^32 a position.
-- Assumes nothing.
use Rattle.std.proofs.Common.{◌≡◌, ◌+◌, ◌*◌, ◌^◌, ◌≤◌, true, false}
use Rattle.std.specs.Int.RustNames.{unsigned_abs}
use Rattle.meaning.proofs.Laws.Extremes.{sum_from}
use Rattle.rules.proofs.loaded.Loaded.extreme_sums.Given as goal

abbrev pub invariant-loop-p : goal.invariant-loop-p
invariant-loop-p l = record {
  least_small : unsigned_abs l.least + l.p * 2 ^ 32 ≤ 2 ^ 35;
  greatest_small : unsigned_abs l.greatest + l.p * 2 ^ 32 ≤ 2 ^ 35;
  least : l.least ≡ sum_from true l.self.words.now l.group l.number l.p;
  greatest : l.greatest ≡ sum_from false l.self.words.now l.group l.number l.p;
}
