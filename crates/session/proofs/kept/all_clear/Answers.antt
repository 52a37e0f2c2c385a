-- `kept::all_clear` meets its contract: the iterator's test of every place.
-- Assumes nothing.
use Rattle.std.proofs.Common.{nat_eq, rules}
use borrow.Author.Tests.{tests}
use Rattle.lists.proofs.Laws.Iterating.{iter_all}
use Rattle.session.proofs.kept.all_clear.Goals as goal

pub returns : goal.returns
returns c = iter_all (nat_eq 0) c.args.others.now c.all.ensures.ran (cc) (λ x b q k. search (rules, tests))
