-- `run::beginning` meets its contract, by the test of the state.
-- Assumes nothing.
use borrow.Author.Tests.{eq-eqb, ne_eqb}
use Rattle.session.proofs.run.beginning.Goals as goal

pub returns-then-state-eq0 : goal.returns-then-state-eq0
returns-then-state-eq0 c = rw (eq-eqb _ _ c.if-state-eq0.true)

pub returns : goal.returns
returns c = rw (ne_eqb _ _ c.if-state-eq0.false)
