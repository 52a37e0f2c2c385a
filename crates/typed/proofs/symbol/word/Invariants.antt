-- `typed::symbol::word` meets its contract. The invariant: what is left of the word, at the place reached, is what is left of the symbol.
-- Assumes nothing.
use mathlib.Core.Path.{◌≡◌}
use Prim.Native.Nat.{◌≤◌}
use lib.ListN.{length, drop}
use Rattle.typed.specs.bridge.Reader.{letters, symbol}
use Rattle.typed.proofs.symbol.word.Given as goal

abbrev pub invariant-loop-c : goal.invariant-loop-c
invariant-loop-c l = (l.at ≤ l.next) × (l.next ≤ length l.s) × (letters (drop l.c-index l.letters) (drop l.next l.s) ≡ symbol l.letters (drop l.at l.s))
