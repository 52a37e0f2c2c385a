-- `feeding::take_turn` meets its contract: what the call wrote lies within the output.
-- Assumes nothing.
use Rattle.std.proofs.Common.{rules}
use Rattle.program.proofs.Laws.Calls.{counted}
use Rattle.program.proofs.feeding.take_turn.Goals as goal

pub put_call-requires : goal.put_call-requires
put_call-requires c =
    let called = c.call_on-answer in
    (search rules, (counted _ _ called.result called.new.session called.new.output c.args.bytes.now _ called.ensures, search rules))
