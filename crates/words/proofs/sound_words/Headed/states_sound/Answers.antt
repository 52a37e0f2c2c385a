-- `Headed::states_sound` meets its contract: states that pass by their levels are sound, and else the range's test is that of each state.
-- Assumes nothing.
use Rattle.std.proofs.Common.{refl, rules}
use borrow.Author.Tests.{tests}
use Rattle.lists.proofs.Laws.Iterating.{range_all}
use Rattle.automaton.specs.Sound.{state_count, sound_state}
use Rattle.words.proofs.sound_words.Headed.states_sound.Goals as goal

pub returns-else-pass_in_levels : goal.returns-else-pass_in_levels
returns-else-pass_in_levels c = let w = c.args.self.words.all.now in range_all (sound_state w) (state_count w) c.all.ensures.ran (rw c.state_count.ensures refl) (λ x b q k. search (rules, tests))
