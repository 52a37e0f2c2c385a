-- `admit::admit_open` meets its contract: the four tests are those of refusals 14, 14, 18 and 15.
-- Past the first, the first's held and the piece are at most 2 ^ 40 characters together, so both products fit.
use Prim.Native.Nat.{ℕ, ◌+◌, ◌*◌, ◌≤◌}
use native.Mathlib.Omega.{arith}
use Rattle.meaning.specs.Direct.{limit}
use Rattle.reckoning.proofs.Laws.Keeping.{product_small}
use Rattle.chain.proofs.Laws.Admitting.{first_long, second_long, middle_short, output_short, has_room}
use Rattle.chain.proofs.admit.admit_open.Goals as goal
use Rattle.chain.proofs.admit.admit_open.Goals.{Else-second_piece-second, Else-size-first, Start}

-- the least middle length
abbrev least : Start → ℕ
least s = let a = s.args in a.first.most * (a.first.held + a.size)

-- past the first test
first-within : (c : Else-size-first) → let a = c.args in a.first.received + a.size ≤ limit
first-within c = omega (arith, c.args.first.small.1, c.if-size-first.false)

-- and past the second
second-within : (c : Else-second_piece-second) → c.args.second.received + least (goal.at.Else-second_piece-second c).Start ≤ limit
second-within c = omega (arith, c.args.second.small.1, c.if-second_piece-second.false)

pub returns-then-size-first : goal.returns-then-size-first
returns-then-size-first c =
    let a = c.args in
    first_long a.first.most a.first.received a.first.held a.second.most a.second.received a.second.held a.size a.middle a.room
    (omega (arith, c.args.first.small.1, c.if-size-first.true))

pub overflow_mul-least : goal.overflow_mul-least
overflow_mul-least c =
    let a = c.args in
    let p = c.args.first.small in
    omega (arith, product_small a.first.most 8 (a.first.held + a.size) p.0 (omega (arith, first-within (goal.at.overflow_mul-least c).Else-size-first, p.2)))

pub returns-then-second_piece-second : goal.returns-then-second_piece-second
returns-then-second_piece-second c =
    let a = c.args in
    second_long a.first.most a.first.received a.first.held a.second.most a.second.received a.second.held a.size a.middle a.room
    (first-within (goal.at.returns-then-second_piece-second c).Else-size-first) (omega (arith, c.args.second.small.1, c.if-second_piece-second.true))

pub returns-then-middle-least : goal.returns-then-middle-least
returns-then-middle-least c =
    let a = c.args in
    middle_short a.first.most a.first.received a.first.held a.second.most a.second.received a.second.held a.size a.middle a.room
    (first-within (goal.at.returns-then-middle-least c).Else-size-first) (second-within (goal.at.returns-then-middle-least c).Else-second_piece-second) c.if-middle-least.true

pub overflow_mul-second : goal.overflow_mul-second
overflow_mul-second c =
    let a = c.args in
    let p = c.args.second.small in
    omega (arith, product_small a.second.most 8 (a.second.held + least (goal.at.overflow_mul-second c).Start) p.0 (omega (arith, second-within (goal.at.overflow_mul-second c).Else-second_piece-second, p.2)))

pub returns-then-room-second : goal.returns-then-room-second
returns-then-room-second c =
    let a = c.args in
    output_short a.first.most a.first.received a.first.held a.second.most a.second.received a.second.held a.size a.middle a.room
    (first-within (goal.at.returns-then-room-second c).Else-size-first) (second-within (goal.at.returns-then-room-second c).Else-second_piece-second) c.if-middle-least.false c.if-room-second.true

pub returns : goal.returns
returns c =
    let a = c.args in
    has_room a.first.most a.first.received a.first.held a.second.most a.second.received a.second.held a.size a.middle a.room
    (first-within (goal.at.returns c).Else-size-first) (second-within (goal.at.returns c).Else-second_piece-second) c.if-middle-least.false c.if-room-second.false
