-- `text::Text::gather` meets its contract. The invariant: the first places hold the text's next characters, the others what was found.
-- Assumes nothing.
use mathlib.Core.Path.{refl}
use native.Mathlib.Omega.{arith}
use Rattle.session.specs.bridge.Running.{whole}
use Rattle.session.proofs.Laws.Running.{gather_step}
use Rattle.session.proofs.text.Text.gather.Goals as goal

pub loop-i-init : goal.loop-i-init
loop-i-init c = refl

pub loop-i-preserved : goal.loop-i-preserved
loop-i-preserved c =
    let l = c.loop-i in
    let a = c.args in
    gather_step (whole a.self.now) a.store.now l.store a.from l.i c.character.result (omega (arith, c.requires.2))
    (omega (arith, c.requires.0, c.requires.1)) c.character.ensures l.invariant
