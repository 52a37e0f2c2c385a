-- `prepared::paint_range` meets its contract. The invariant: the places before c have the class, those before `from` what they had.
-- The measure is the number of places left. Assumes nothing.
use mathlib.Core.Bool.{cond}
use mathlib.Core.List.{List}
use mathlib.Core.Path.{◌≡◌}
use Prim.Native.Nat.{ℕ, ◌+◌, ◌-◌, ◌≤◌, ◌<◌}
use lib.Dec.{ltb}
use lib.ListN.{length, get_or}
use Rattle.session.proofs.prepared.paint_range.Given as goal

-- what belongs at a place
abbrev pub due : List ℕ → ℕ → ℕ → ℕ → ℕ
due before from class i = cond (ltb i from) (get_or before i 0) class

abbrev pub invariant-loop-c : goal.invariant-loop-c
invariant-loop-c l = (length l.classes ≡ length l.initial.classes) × (l.from ≤ l.c) × (l.c < l.to + 16) × ((i : ℕ) → i < l.c → get_or l.classes i 0 ≡ due l.initial.classes l.from l.class i)

abbrev pub decreases-loop-c : goal.decreases-loop-c
decreases-loop-c l = l.to - l.c
