-- The rows of refusals of feed, finish, preview and a chain hold: of two faults the one that is tested first is answered.
-- They are computed.
use lib.Dec.{T}
use Rattle.lists.specs.Lists.{sum_below}
use Rattle.lists.specs.Decide.{all_of}
use Rattle.meaning.proofs.Laws.Opened.{rules_opened}
use Rattle.automaton.proofs.Laws.Opened.{machine_opened}
use Rattle.reckoning.specs.Uses.{characters_used, sound_uses}
use Rattle.reckoning.specs.Session.{path, sound_session}
use Rattle.reckoning.specs.Calls.{admits, feed, finish}
use Rattle.reckoning.specs.Preview.{preview}
use Rattle.reckoning.specs.Chain.{admits_chain, chained}
use Rattle.reckoning.specs.Answered.{call_order, chain_order}

pub calls_in_order : T (all_of call_order)
unfolding rules_opened machine_opened sum_below characters_used sound_uses path sound_session admits feed finish preview call_order
calls_in_order = tt

pub chains_in_order : T (all_of chain_order)
unfolding rules_opened machine_opened sum_below characters_used sound_uses path sound_session admits_chain chained chain_order
chains_in_order = tt
