-- `entries_sound` meets its contract: sums alone are sound, and else the range's test is that of each entry below the count.
-- Assumes nothing.
use Rattle.std.proofs.Common.{sym, refl, ◌∙◌, rules}
use borrow.Author.Tests.{tests}
use Rattle.lists.proofs.Laws.Iterating.{range_all}
use Rattle.automaton.specs.Sound.{sound_entry}
use Rattle.automaton.proofs.Laws.Checking.{only_sums}
use Rattle.words.proofs.sound_words.entries_sound.Goals as goal

pub returns-then-only_sums : goal.returns-then-only_sums
returns-then-only_sums c =
    let a = c.args in
    c.if-only_sums.true ∙ sym (only_sums a.block.now a.count (sym c.only_sums.ensures ∙ c.if-only_sums.true))

pub returns-else-only_sums : goal.returns-else-only_sums
returns-else-only_sums c = range_all (sound_entry c.args.block.now) c.args.count c.all.ensures.ran refl (λ x b q k. search (rules, tests))
