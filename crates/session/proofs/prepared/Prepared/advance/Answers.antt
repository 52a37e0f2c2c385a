-- `prepared::Prepared::advance` meets its contract: the defaults lead to the same end, and then the turn does.
-- Assumes nothing.
use mathlib.Core.List.{List}
use mathlib.Core.Path.{◌≡◌, sym, subst}
use Prim.Native.Nat.{ℕ}
use lib.ListN.{length}
use Rattle.session.specs.bridge.Running.{left_by, whole, Placed, Lent, lent, Advances}
use Rattle.session.proofs.Laws.Turning.{advances_after, beyond_join}
use Rattle.session.proofs.prepared.Prepared.advance.Goals as goal
use Rattle.session.proofs.prepared.Prepared.advance.Goals.{After-pass_defaults-next, Start}

abbrev text : Start → List ℕ
text s = whole s.args.text.now

abbrev has : After-pass_defaults-next → Lent
has d = lent d.pass_defaults-next.new.output d.pass_defaults-next.new.uses

pub turn-requires : goal.turn-requires
turn-requires c =
    let known = c.pass_defaults-next.ensures in
    record { placed = (subst (λ n. Placed c.args.self.now.machine.words.all.now (text (goal.at.turn-requires c).Start) n c.pass_defaults-next.result) (sym c.pass_defaults-next.auto.output) known.passes.0, known.counted.0) }

pub returns : goal.returns
returns c =
    let t = c.turn in
    let a = c.args in
    let room = length a.output.now in
    let new = t.result in
    let mid = c.pass_defaults-next.result in
    let known = c.pass_defaults-next.ensures in
    let after = lent t.new.output t.new.uses in
    let z : length (has (goal.at.returns c).After-pass_defaults-next).output ≡ room = c.pass_defaults-next.auto.output in
    let later : Advances a.self.now.machine.words.all.now (text (goal.at.returns c).Start) a.ended room mid (has (goal.at.returns c).After-pass_defaults-next) new after =
    subst (λ n. Advances a.self.now.machine.words.all.now (text (goal.at.returns c).Start) a.ended n mid (has (goal.at.returns c).After-pass_defaults-next) new after) z t.ensures.advances in record { advances = advances_after a.self.now.machine.words.all.now (text (goal.at.returns c).Start) a.ended room a.run mid new (lent a.output.now a.uses.now) (has (goal.at.returns c).After-pass_defaults-next) after known.passes later; beyond = beyond_join a.run mid (left_by new) a.output.now (has (goal.at.returns c).After-pass_defaults-next).output after.output known.counted.1 t.ensures.beyond }
