-- `typed::sink::put` meets its contract: the bytes are copied to their place, where there is room.
-- By the test of the code. Assumes nothing.
use Prim.Native.Nat.{◌+◌, ◌-◌}
use native.Mathlib.Omega.{arith}
use borrow.Author.Tests.{le-leb, lt-leb}
use Rattle.std.proofs.lemmas.Slice.{put_mid-paste}
use Rattle.typed.specs.bridge.Stream.{put}
use Rattle.typed.proofs.sink.put.Goals as goal

pub returns-then-place-buffer : goal.returns-then-place-buffer
unfolding put
returns-then-place-buffer c =
    let a = c.args in
    rw (le-leb _ _ c.if-place-buffer.true)
    (put_mid-paste a.place (a.place + 8 - a.place) a.buffer.now c.copy_from_slice.new.self a.bytes.now 8 c.copy_from_slice.ensures.after (omega arith) (omega (arith, c.told-bytes)))

pub returns-else-place-buffer : goal.returns-else-place-buffer
unfolding put
returns-else-place-buffer c = rw (lt-leb _ _ c.if-place-buffer.false)
