-- `is_plain` meets its contract. The invariant: no rule before takes the character at its first position.
-- Assumes nothing.
use Rattle.std.proofs.Common.{◌≡◌, true}
use Rattle.lists.specs.Decide.{for_below}
use Rattle.rules.specs.bridge.Plain.{passes_by}
use Rattle.rules.proofs.loaded.Loaded.is_plain.Given as goal

abbrev pub invariant-loop-rule : goal.invariant-loop-rule
invariant-loop-rule l = for_below l.rule (passes_by l.self.words.now l.c) ≡ true
