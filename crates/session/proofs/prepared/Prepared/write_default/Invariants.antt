-- `prepared::Prepared::write_default` meets its contract. One character is stored at once. The loop's invariant: the output has the first j characters
-- that the default writes, from the count on. Assumes nothing.
use mathlib.Core.Path.{◌≡◌}
use mathlib.Core.List.{List}
use Prim.Native.Nat.{ℕ}
use lib.ListN.{take, drop}
use lib.Seq.{paste}
use Rattle.meaning.specs.Block.{block_output}
use Rattle.automaton.specs.Sound.{block_at}
use Rattle.session.proofs.prepared.Prepared.write_default.Given as goal

-- what the default writes for the character at the place
abbrev pub default_text : List ℕ → List ℕ → ℕ → List ℕ
default_text words part place = block_output (block_at words 32) (take 1 (drop place part))

abbrev pub invariant-loop-j : goal.invariant-loop-j
invariant-loop-j l = l.output ≡ paste l.initial.output l.count (default_text l.self.machine.words.all.now l.part l.place) l.j
