-- `Headed::level_passes` meets its contract: the range's test passes only where each state of the level does.
-- Assumes nothing.
use Rattle.std.proofs.Common.{◌≡◌, true, refl, rules}
use borrow.Author.Tests.{tests}
use Rattle.std.proofs.lemmas.Iterator.{serves_from_Range}
use Rattle.lists.proofs.Laws.Iterating.{range_each}
use Rattle.automaton.specs.Sound.{sound_state}
use Rattle.words.proofs.sound_words.Headed.level_passes.Goals as goal

pub all-requires-clause-callable : goal.all-requires-clause-callable
all-requires-clause-callable c = serves_from_Range (λ x q k. search (rules, tests)) (λ x l h. let known = c.requires.by_index x h l in search rules)

pub returns : goal.returns
returns c = range_each (λ s. sound_state c.args.self.words.all.now s ≡ true) c.args.from c.args.low c.all.ensures.ran refl (λ x q k. search (rules, tests))
