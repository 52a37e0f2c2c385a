-- `kept::path_to` meets its contract: the loop keeps that the characters from the next on lead from the state to the same end.
-- Assumes nothing.
use mathlib.Core.Path.{◌≡◌}
use Prim.Native.Nat.{◌<◌}
use lib.ListN.{drop}
use Rattle.automaton.specs.Sound.{state_count}
use Rattle.automaton.specs.Automaton.{from_words}
use Rattle.reckoning.specs.Session.{path}
use Rattle.session.proofs.kept.path_to.Given as goal

abbrev pub invariant-loop-c : goal.invariant-loop-c
invariant-loop-c l = let m = from_words l.machine.words.all.now in (l.state.0 < state_count l.machine.words.all.now) × (path m 0 l.held ≡ path m l.state.0 (drop l.c-index l.held))
