-- `mark_plain` meets its contract. The invariant: each character that is marked is plain.
-- Assumes nothing.
use Rattle.rules.specs.bridge.Plain.{Marked}
use Rattle.rules.proofs.loaded.Loaded.mark_plain.Given as goal

abbrev pub invariant-loop-c : goal.invariant-loop-c
invariant-loop-c l = Marked l.self.words.now l.self.rules l.mark-items
