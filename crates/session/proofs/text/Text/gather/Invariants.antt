-- `text::Text::gather` meets its contract. The invariant: the first places hold the text's next characters, the others what was found.
-- Assumes nothing.
use mathlib.Core.Path.{◌≡◌}
use lib.ListN.{take, drop}
use Rattle.meaning.specs.Direct.{over}
use Rattle.session.specs.bridge.Running.{whole}
use Rattle.session.proofs.text.Text.gather.Given as goal

abbrev pub invariant-loop-i : goal.invariant-loop-i
invariant-loop-i l = l.store ≡ over (take l.i (drop l.from (whole l.self))) l.initial.store
