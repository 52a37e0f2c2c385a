-- `Headed::blocks_sound` meets its contract: the range's test is that of each rule's block, and the default's counts where there is one.
-- Assumes nothing.
use Rattle.std.proofs.Common.{◌≡◌, not, refl, sym, ap, ◌∙◌, rules}
use borrow.Author.Tests.{tests}
use Rattle.lists.specs.Decide.{for_below, implies}
use Rattle.lists.proofs.Laws.Iterating.{range_all}
use Rattle.lists.proofs.Laws.Tests.{all_stops, all_next, all_last}
use Rattle.meaning.specs.Table.{default_number}
use Rattle.meaning.specs.Block.{at}
use Rattle.automaton.specs.Sound.{rule_count, longest_word, used, sound_block, sound_blocks}
use Rattle.automaton.proofs.Laws.Checking.{counts, waived}
use Rattle.words.proofs.sound_words.Headed.blocks_sound.Goals as goal
use Rattle.words.proofs.sound_words.Headed.blocks_sound.Goals.{After-all, Then-all}

-- the rules' blocks
rules_blocks : (c : After-all) → let w = c.args.self.words.all.now in c.all.result ≡ for_below (rule_count w) (λ g. sound_block w g (longest_word w) 1)
rules_blocks c =
    let w = c.args.self.words.all.now in
    range_all (λ g. sound_block w g (longest_word w) 1) (rule_count w) c.all.ensures.ran (rw c.rule_count.ensures refl) (λ x b q k. search (rules, tests))

-- past them
past : (c : Then-all) → let w = c.args.self.words.all.now in sound_blocks w ≡ implies (used (at w 5)) (sound_block w default_number 1 0)
unfolding sound_blocks
past c = all_next _ (sym (rules_blocks (goal.at.Then-all c).After-all) ∙ c.if-all.true) ∙ all_last _

pub returns-then-not-has_default : goal.returns-then-not-has_default
returns-then-not-has_default c =
    ap not c.if-not-has_default.true
    ∙ sym (past (goal.at.returns-then-not-has_default c).Then-all ∙ waived _ (sym c.has_default.ensures ∙ c.if-not-has_default.true))

pub returns-else-not-has_default : goal.returns-else-not-has_default
returns-else-not-has_default c =
    c.block_sound.ensures
    ∙ sym (past (goal.at.returns-else-not-has_default c).Then-all ∙ counts _ (sym c.has_default.ensures ∙ c.if-not-has_default.false))

pub returns-else-all : goal.returns-else-all
unfolding sound_blocks
returns-else-all c = c.if-all.false ∙ sym (all_stops _ (sym (rules_blocks (goal.at.returns-else-all c).After-all) ∙ c.if-all.false))
