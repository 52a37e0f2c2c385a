-- `check::search` meets its contract: a state that is told gives an input, and where none is, the rule is dead.
-- Assumes nothing.
use Rattle.std.proofs.Common.{ap, sym, ◌∙◌}
use Rattle.std.specs.Prelude.{Some, option_map}
use Rattle.automaton.specs.Sound.{state_count}
use Rattle.witness.specs.Judged.{input_of}
use Rattle.witness.specs.bridge.Search.{telling, input_at, searched}
use Rattle.witness.proofs.Laws.Search.{first_passes}
use Rattle.witness.proofs.check.search.Goals as goal

pub returns-in_default : goal.returns-in_default
unfolding searched
returns-in_default c = ap (λ o. option_map input_of (option_map (input_at c.args.machine.words.all.now c.args.rule) o)) c.in_default.ensures

pub input_at-requires : goal.input_at-requires
input_at-requires c = let w = c.args.machine.words.all.now in (first_passes (telling w c.args.rule) (state_count w) c.in-Some.state.0 (sym c.in-Some.ensures)).0

pub returns : goal.returns
unfolding searched
returns c =
    ap Some c.input_at.ensures
    ∙ ap (λ o. option_map input_of (option_map (input_at c.args.machine.words.all.now c.args.rule) o)) c.in-Some.ensures
