-- `Headed::targets_sound` meets its contract: the range's test is that of the target by each class below the count.
-- Assumes nothing.
use Rattle.std.proofs.Common.{ℕ, Bool, not, List, [], ◌∷◌, refl, rules}
use borrow.Author.Tests.{tests}
use Rattle.lists.specs.Decide.{all_of, implies}
use Rattle.lists.proofs.Laws.Iterating.{range_all}
use Rattle.automaton.specs.Sound.{class_count, accept_word, target_word, used, sound_target}
use Rattle.words.proofs.sound_words.Headed.targets_sound.Goals as goal

-- the test of one class's target
abbrev test : List ℕ → ℕ → ℕ → Bool
test w s k = implies (used (target_word w s k)) (all_of (not (used (accept_word w s)) ∷ sound_target w s (target_word w s k) ∷ []))

pub returns : goal.returns
returns c = let w = c.args.self.words.all.now in range_all (test w c.args.state.0) (class_count w) c.all.ensures.ran (rw c.class_count.ensures refl) (λ x b q k. search (rules, tests))
