-- The rows of compiling's refusals hold: of two faults the one that is tested first is answered.
-- They are computed.
use lib.Dec.{T}
use Rattle.lists.specs.Decide.{all_of}
use Rattle.meaning.proofs.Laws.Opened.{rules_opened}
use Rattle.automaton.specs.Answered.{compile_order}
use Rattle.automaton.proofs.Laws.Opened.{machine_opened}

pub compiling_in_order : T (all_of compile_order)
unfolding rules_opened machine_opened compile_order
compiling_in_order = tt
