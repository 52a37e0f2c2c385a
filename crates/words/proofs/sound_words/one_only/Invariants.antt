-- `one_only` meets its contract: the loop keeps the total of the coefficients so far, which is at most 1.
use Rattle.std.proofs.Common.{◌≡◌, ◌≤◌, take}
use Rattle.automaton.proofs.Laws.OneOnly.{total}
use Rattle.words.proofs.sound_words.one_only.Given as goal

abbrev pub invariant-loop-coefficient : goal.invariant-loop-coefficient
invariant-loop-coefficient l = (l.total ≤ 1) × (l.total ≡ total (take l.coefficient-index l.coefficients))
