-- `fits_at` meets its contract: a test that fails shows that the group does not fit, and past them only the positions count.
-- Assumes nothing.
use Rattle.std.proofs.Common.{◌*◌, ◌≤◌, length, sym, arith, length-take-le}
use Rattle.meaning.specs.Block.{at, block_size}
use Rattle.meaning.proofs.Laws.Choosing.{flat_short, flat_early, flat_word}
use Rattle.rules.proofs.loaded.Loaded.fits_at.Goals as goal
use Rattle.rules.proofs.loaded.Loaded.fits_at.Goals.{else-self-group-eq1-via-then-self-group-eq1+else-size-rest, else-self-group-eq1-via-else-self-group-eq1}

pub returns-then-rest-size : goal.returns-then-rest-size
returns-then-rest-size c =
    let a = c.args in
    sym (flat_short a.self.now.words.now a.group a.rest.now (omega (arith, c.from-size.ensures)))

pub returns-then-size-rest : goal.returns-then-size-rest
returns-then-size-rest c =
    let a = c.args in
    sym (flat_early a.self.now.words.now a.group a.rest.now c.if-self-group-eq1.true (omega (arith, c.from-size.ensures)))

pub returns : goal.returns
returns c =
    let a = c.args in
    let size = at a.self.now.words.now (block_size * a.group) in
    let room : size ≤ length a.rest.now = omega (arith, c.from-size.ensures) in
    flat_word a.self.now.words.now a.group a.rest.now c.positions_fit.result
    (λ e. elim c.else-self-group-eq1.branch [
      | else-self-group-eq1-via-then-self-group-eq1+else-size-rest w ↦ omega (arith, c.from-size.ensures)
      | else-self-group-eq1-via-else-self-group-eq1 w ↦ absurd (w.if-self-group-eq1.false e)
    ])
    (rw (c.from-size.ensures, length-take-le size a.rest.now room) at c.positions_fit.ensures)
