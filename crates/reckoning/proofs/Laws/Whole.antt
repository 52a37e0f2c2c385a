-- The plain machine's run over an input tells its trace, and with the input's end known the trace is Definition 7's.
-- By the laws of runs and of meaning, for the automaton of a table that was read.
use mathlib.Core.Bool.{Bool, true}
use mathlib.Core.List.{List, []}
use mathlib.Core.Path.{◌≡◌, refl}
use Prim.Native.Nat.{ℕ}
use lib.ListN.{length}
use Rattle.meaning.specs.Table.{Characters, Table, longest}
use Rattle.meaning.specs.Meaning.{convert}
use Rattle.meaning.proofs.Laws.Shape.{Shaped}
use Rattle.meaning.proofs.Laws.Groups.{longest_small}
use Rattle.automaton.specs.States.{states}
use Rattle.automaton.specs.Automaton.{from_table}
use Rattle.automaton.proofs.Laws.Good.{after}
use Rattle.automaton.proofs.Laws.States.{table_good, table_reads}
use Rattle.reckoning.specs.Reckoning.{ran}
use Rattle.reckoning.proofs.Laws.Trace.{trace, log_of, status_of}
use Rattle.reckoning.proofs.Laws.Rounds.{led}
use Rattle.reckoning.proofs.Laws.Run.{Tells, run_tells}
use Rattle.reckoning.proofs.Laws.Meaning.{ending, meaning_law}

module _ (t : Table) (s : Shaped t) where
  pub run_is : (u : List ℕ) (e : Bool) → Tells (from_table t) 0 [] 0 (trace (from_table t) e 0 u) (ran t u e)
  unfolding ran after
  run_is u e = run_tells (from_table t) (longest t) (length (states t)) (table_good t s) (longest_small t s) e [] u 0 (led refl tt)

  pub meaning_is : (u : List ℕ) → Characters u →
      (log_of (trace (from_table t) true 0 u) ≡ (convert t u).log) × (status_of (trace (from_table t) true 0 u) ≡ ending (convert t u).closed)
  unfolding convert from_table
  meaning_is u c = meaning_law (from_table t) t s (table_reads t s) refl 0 u c
