-- `Headed::passes_in_level` meets its contract: past the tests of end and go, the row decides.
-- Without a go each target lies in the interval, with one there is no target.
use Rattle.std.proofs.Common.{sym, ◌∙◌, not, ap}
use Rattle.lists.proofs.Laws.Tests.{passed}
use Rattle.automaton.proofs.Laws.Checking.{unused}
use Rattle.words.proofs.Laws.Levels.{row_passes, row_empty, state_passes}
use Rattle.words.proofs.sound_words.Headed.passes_in_level.Goals as goal

pub returns-then-accept_word-eq0 : goal.returns-then-accept_word-eq0
returns-then-accept_word-eq0 c =
    λ yes.
    let a = c.args in
    let none = sym c.accept_word.ensures ∙ c.if-accept_word-eq0.true in
    state_passes a.self.words.all.now a.state.0
    c.requires.above.1
    (passed c.accept_at_end_sound.ensures (ap not c.if-not-accept_at_end_sound.false))
    (unused _ none)
    (row_passes a.self.words.all.now a.state.0 a.wide a.low c.requires.every_class.0 a.high c.requires.above.0 none (sym c.row_within.ensures ∙ yes))

pub returns-then-accept_sound : goal.returns-then-accept_sound
returns-then-accept_sound c =
    λ yes.
    let a = c.args in
    state_passes a.self.words.all.now a.state.0
    c.requires.above.1
    (passed c.accept_at_end_sound.ensures (ap not c.if-not-accept_at_end_sound.false))
    (sym c.accept_sound.ensures ∙ c.if-accept_sound.true)
    (row_empty a.self.words.all.now a.state.0 a.wide a.low c.requires.every_class.0 (sym c.row_within-then-accept_sound.ensures ∙ yes))
