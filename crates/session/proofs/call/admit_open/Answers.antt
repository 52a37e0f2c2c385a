-- `call::admit_open` meets its contract: the two tests are those of refusals 14 and 15.
-- Assumes nothing.
use Prim.Native.Nat.{◌+◌, ◌≤◌}
use native.Mathlib.Omega.{arith}
use Rattle.meaning.specs.Direct.{limit}
use Rattle.reckoning.proofs.Laws.Admitting.{too_long, too_narrow, has_room}
use Rattle.session.proofs.call.admit_open.Goals as goal
use Rattle.session.proofs.call.admit_open.Goals.{Else-size-received}

-- past the first test
within : (c : Else-size-received) → let a = c.args in a.received + a.size ≤ limit
within c = omega (arith, c.requires.1, c.if-size-received.false)

pub returns-then-size-received : goal.returns-then-size-received
returns-then-size-received c =
    let a = c.args in
    too_long a.most a.received a.held a.size a.room (omega (arith, c.requires.1, c.if-size-received.true))

pub returns-then-room-most : goal.returns-then-room-most
returns-then-room-most c =
    let a = c.args in
    too_narrow a.most a.received a.held a.size a.room (within (goal.at.returns-then-room-most c).Else-size-received) c.if-room-most.true

pub returns : goal.returns
returns c =
    let a = c.args in
    has_room a.most a.received a.held a.size a.room (within (goal.at.returns c).Else-size-received) c.if-room-most.false
