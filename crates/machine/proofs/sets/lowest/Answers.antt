-- `sets::lowest` meets its contract. The invariant: the first rule that passes is the first of those left.
-- Assumes nothing.
use Rattle.std.proofs.Common.{arith, sym, ap, ◌∙◌}
use Rattle.lists.specs.Lists.{filter}
use Rattle.automaton.specs.States.{first_number}
use Rattle.automaton.proofs.Laws.Sets.{member_small, sought_found, filter_skip}
use Rattle.machine.proofs.sets.lowest.Goals as goal

pub passes-requires : goal.passes-requires
passes-requires g c = c.requires _ (member_small _ _ _ c.in-Some.ensures.steps)

pub returns-then-passes-clause-first : goal.returns-then-passes-clause-first
returns-then-passes-clause-first g c p t =
    let e = c.in-Some.ensures.steps in
    sym (c.loop-rule.invariant p t ∙ ap (λ l. first_number (filter p l)) e ∙ sought_found p _ _ (sym (t _ _ (member_small _ _ _ e) c.passes.ensures) ∙ c.if-passes.true))

pub returns-then-passes-clause-below : goal.returns-then-passes-clause-below
returns-then-passes-clause-below g c = omega (arith, member_small _ _ _ c.in-Some.ensures.steps)

pub loop-rule-preserved : goal.loop-rule-preserved
loop-rule-preserved g c p t =
    let e = c.in-Some.ensures.steps in
    c.loop-rule.invariant p t ∙ ap (λ l. first_number (filter p l)) e ∙ ap first_number (filter_skip p _ _ (sym (t _ _ (member_small _ _ _ e) c.passes.ensures) ∙ c.if-passes.false))
