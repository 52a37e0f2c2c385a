-- `feeding::widen` meets its contract. The invariant: the first bytes are copied.
-- Assumes nothing.
use Rattle.std.proofs.Common.{take, length, ◌≡◌}
use Rattle.program.proofs.feeding.widen.Given as goal

abbrev pub invariant-loop-i : goal.invariant-loop-i
invariant-loop-i l = (length l.characters ≡ length l.initial.characters) × (take l.i l.characters ≡ take l.i l.bytes)
