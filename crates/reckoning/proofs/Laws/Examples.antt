-- The eleven lines of document 01 marked P, and two of request [1], hold, from the tables' bytes, by Definition 7 and on both automata.
-- They are computed.
use lib.Dec.{T}
use Rattle.lists.specs.Lists.{all}
use Rattle.meaning.proofs.Laws.Opened.{rules_opened}
use Rattle.automaton.proofs.Laws.Opened.{machine_opened}
use Rattle.reckoning.specs.Machine.{fall_back, step, steps, run}
use Rattle.reckoning.specs.Examples.{same_status, runs_to, converts_to, reports, holds, rows}

pub rows_hold : T (all holds rows)
unfolding rules_opened machine_opened fall_back step steps run same_status runs_to converts_to reports holds rows
rows_hold = tt
