-- The rows of refusals that are tested one after the other hold: of two faults the one that is tested first is answered.
-- They are computed.
use lib.Dec.{T}
use Rattle.lists.specs.Decide.{all_of}
use Rattle.meaning.specs.Direct.{admitted}
use Rattle.meaning.specs.Answered.{table_order}
use Rattle.meaning.proofs.Laws.Opened.{rules_opened}

pub tables_in_order : T (all_of table_order)
unfolding rules_opened admitted table_order
tables_in_order = tt
