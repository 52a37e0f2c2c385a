-- `text::Text::character` meets its contract: the first of what is unread from a place on stands at that place.
-- Assumes nothing.
use mathlib.Core.Path.{sym, ap, subst, ◌∙◌}
use Prim.Native.Nat.{◌<◌}
use native.Mathlib.Omega.{arith}
use lib.ListN.{length, get_or, length-append}
use Rattle.session.proofs.Laws.Running.{first_at}
use Rattle.session.proofs.text.Text.character.Goals as goal

pub bounds-part-0 : goal.bounds-part-0
bounds-part-0 c = let t = c.args.self.now in
    subst (λ l. 0 < length l) (sym c.unread-part.ensures) (first_at t.given.now t.piece.now c.args.i (omega (arith, c.requires, length-append t.given.now t.piece.now))).0

pub returns : goal.returns
returns c = let t = c.args.self.now in
    ap (λ l. get_or l 0 0) c.unread-part.ensures ∙ (first_at t.given.now t.piece.now c.args.i (omega (arith, c.requires, length-append t.given.now t.piece.now))).1
