-- `choose_marked` meets its contract: a character that is marked is plain, and of any other the choice is worked out.
-- Assumes nothing.
use Rattle.std.proofs.Common.{sym, ◌∙◌}
use Rattle.rules.specs.bridge.Modes.{the_mode}
use Rattle.rules.proofs.Laws.Plain.{marked_chosen}
use Rattle.rules.proofs.loaded.Loaded.choose_marked.Goals as goal

pub returns-then-marks-c : goal.returns-then-marks-c
returns-then-marks-c c =
    let t = c.args.self.now in
    c.fall.ensures
    ∙ sym (marked_chosen t.words.now t.rules (the_mode t.mode) c.args.rest.now c.args.marks.now c.requires.by_index c.requires.marked c.requires.rest_bound
    (rw c.from-c.ensures at c.if-marks-c.true))
