-- `sets::accept_of` meets its contract: the tests of the rules' size and anchor, by the array, are those of the table.
-- Assumes nothing.
use Rattle.std.proofs.Common.{rules, tests, sym, ap, ◌∙◌}
use Rattle.lists.specs.Lists.{filter}
use Rattle.automaton.specs.States.{first_number}
use Rattle.meaning.specs.Table.{Absent}
use Rattle.automaton.proofs.Laws.Sets.{members_more, accept_flat, free_at_lem}
use Rattle.machine.proofs.sets.accept_of.Goals as goal

pub returns-clause-word : goal.returns-clause-word
returns-clause-word c =
    let a = c.args in
    c.lowest.ensures.first (free_at_lem a.loaded.now a.depth) (λ r b h q. search (rules, tests))
    ∙ ap (λ xs. first_number (filter (free_at_lem a.loaded.now a.depth) xs)) (members_more a.rules 32 0 a.set c.requires.1 c.requires.2)
    ∙ sym (accept_flat a.loaded.now a.rules Absent a.set a.depth)
