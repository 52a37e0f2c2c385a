-- `text::Text::unread` meets its contract: the part returned is the rest of those given back, or of the piece.
-- Assumes nothing.
use Rattle.session.proofs.Laws.Running.{first_given, first_piece}
use Rattle.session.proofs.text.Text.unread.Goals as goal

pub returns-then-at-self : goal.returns-then-at-self
returns-then-at-self c = let t = c.args.self.now in first_given t.given.now _ c.args.at c.if-at-self.true

pub returns : goal.returns
returns c = let t = c.args.self.now in first_piece t.given.now t.piece.now c.args.at _ c.if-at-self.false
