-- `states::Met::find` meets its contract. The invariant: no state from i on is the one looked for.
-- One that is found is the first, since no state is there twice. Assumes nothing.
use Rattle.automaton.proofs.Laws.Looking.{Passed}
use Rattle.machine.proofs.states.Met.find.Given as goal

abbrev pub invariant-loop-i : goal.invariant-loop-i
invariant-loop-i l = Passed l.words l.self.sets l.self.count l.depth l.set l.i
