-- Whether refusal 17 meets nothing in a part that has numbers, as the definition has it.
-- The iterator's test of all is the definition's. Assumes nothing.
use mathlib.Core.Path.{◌∙◌}
use Rattle.std.proofs.Common.{rules}
use Rattle.lists.proofs.Laws.Iterating.{iter_all}
use Rattle.typed.proofs.Laws.Shorts.{between, short_test}
use Rattle.typed.proofs.output.within17.Goals as goal

pub returns : goal.returns
returns c = iter_all between _ c.all.ensures.ran c.iter.ensures.rest (λ x b q k. search rules) ∙ short_test c.args.part.now.numbers c.args.part.now.small
