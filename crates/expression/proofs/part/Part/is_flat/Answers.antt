-- What is returned says whether each coefficient is 0.
-- The iterator's test of all is the definition's.
use mathlib.Core.Path.{◌∙◌}
use Rattle.std.proofs.Common.{rules}
use Rattle.expression.proofs.Laws.Numbers.{flat_test}
use mir.Syntax.{w32}
use mir.Val.{of_z}
use lib.Dec.{eqb}
use Rattle.lists.proofs.Laws.Iterating.{iter_all}
use Rattle.expression.proofs.part.Part.is_flat.Goals as goal

pub returns : goal.returns
returns c = iter_all (λ z. eqb (of_z w32 z) 0) _ c.all.ensures.ran c.iter.ensures.rest (λ x b q k. search rules) ∙ flat_test _ c.args.self.now.small
