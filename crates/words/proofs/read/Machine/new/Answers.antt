-- `read::Machine::new` meets its contract: sound words are as many as the layout has.
-- Assumes nothing.
use Rattle.std.proofs.Common.{sym, ◌∙◌}
use Rattle.lists.proofs.Laws.Tests.{to_T}
use Rattle.automaton.proofs.Laws.Words.{sound_header_lem}
use Rattle.words.proofs.read.Machine.new.Goals as goal

pub invariant_of-result : goal.invariant_of-result
invariant_of-result c = record { whole = (sound_header_lem c.args.words.now (to_T _ (sym c.is_sound.ensures ∙ c.if-not-is_sound.false))).long }
