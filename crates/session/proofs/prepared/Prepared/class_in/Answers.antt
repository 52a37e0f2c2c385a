-- `prepared::Prepared::class_in` meets its contract: a class stands at its character's place, or is worked out.
-- Assumes nothing.
use mathlib.Core.Path.{◌≡◌, subst}
use lib.ListN.{get_or}
use Rattle.session.proofs.Laws.Reading.{class_in}
use Rattle.session.proofs.prepared.Prepared.class_in.Goals as goal

pub returns-then-place-self : goal.returns-then-place-self
returns-then-place-self c =
    let m = c.args.self.now in
    let place = c.from-place in
    subst (λ x. get_or m.classes.now place.result 0 ≡ class_in m.machine.words.all.now x) place.ensures (m.classed place.result c.if-place-self.true)
