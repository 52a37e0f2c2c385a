-- `read::Machine::class_of` meets its contract. The invariant: the start at `low` is not above the character, and the one at `high`, where there is one, is.
-- The measure is the number of classes from `low` on and below `high`. Assumes nothing.
use Rattle.std.proofs.Common.{◌+◌, ◌-◌, ◌<◌, ◌≤◌, length}
use Rattle.meaning.specs.Block.{at}
use Rattle.automaton.specs.Layout.{word_count, classes_from}
use Rattle.words.proofs.read.Machine.class_of.Given as goal

abbrev pub invariant-loop-low : goal.invariant-loop-low
invariant-loop-low l = (word_count ≤ length l.self.words.all.now) × (at l.self.words.all.now 1 ≤ 64) × (l.low < l.high) × (l.high ≤ at l.self.words.all.now 1) × (at l.self.words.all.now (classes_from + l.low) ≤ l.c) × (l.high < at l.self.words.all.now 1 → l.c < at l.self.words.all.now (classes_from + l.high))

abbrev pub decreases-loop-low : goal.decreases-loop-low
decreases-loop-low l = l.high - l.low
