-- `states::build_states` meets its contract. The invariant: the states before the one at hand are done.
-- The measure is what is left of 256 states. Assumes nothing.
use Prim.Native.Nat.{◌-◌, ◌≤◌}
use lib.ListN.{length}
use Rattle.machine.specs.bridge.Tables.{bare_table}
use Rattle.automaton.specs.States.{states}
use Rattle.automaton.specs.bridge.Noted.{NotedAt, Kept}
use Rattle.machine.proofs.states.build_states.Given as goal

abbrev pub invariant-loop-state : goal.invariant-loop-state
invariant-loop-state l = (l.state.0 ≤ length (states (bare_table l.table))) × Kept l.initial.words l.words
    × NotedAt (bare_table l.table) l.table.rules l.state.0 l.state.0 0 l.words l.met.0 l.met.1.0

abbrev pub decreases-loop-state : goal.decreases-loop-state
decreases-loop-state l = 256 - l.state.0
