-- `choose_at` meets its contract. The invariant: the best among the rules before is kept, with its length.
-- Assumes nothing.
use Rattle.meaning.proofs.Laws.Choosing.{KeptOf}
use Rattle.rules.specs.bridge.Modes.{the_mode}
use Rattle.rules.proofs.loaded.Loaded.choose_at.Given as goal

abbrev pub invariant-loop-rule : goal.invariant-loop-rule
invariant-loop-rule l = KeptOf l.self.words.now l.self.rules (the_mode l.self.mode) l.rest l.rule l.best l.least
