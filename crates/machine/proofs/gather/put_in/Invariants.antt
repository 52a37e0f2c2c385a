-- `gather::put_in` meets its contract. The invariant: the words up to i are those moved, and the one carried comes next.
-- Assumes nothing.
use mathlib.Core.List.{◌∷◌}
use mathlib.Core.Path.{◌≡◌}
use Prim.Native.Nat.{◌≤◌, ◌-◌}
use lib.ListN.{length, get_or, drop}
use lib.Seq.{paste}
use Rattle.machine.proofs.gather.put_in.Given as goal

abbrev pub invariant-loop-i : goal.invariant-loop-i
invariant-loop-i l = (l.place ≤ l.i) × (length l.words ≡ length l.initial.words) × (l.words ≡ paste l.initial.words l.place (l.start ∷ drop l.place l.initial.words) (l.i - l.place)) × (l.carried ≡ get_or (l.start ∷ drop l.place l.initial.words) (l.i - l.place) 0)
