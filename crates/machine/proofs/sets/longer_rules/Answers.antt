-- `sets::longer_rules` meets its contract. The invariant: what is built, with those of the rules left that pass, is the set filtered.
-- Assumes nothing.
use Rattle.std.proofs.Common.{arith, ◌≡◌, ◌*◌, ◌^◌, ◌%◌, Bool, ℕ, sym, subst, ◌∙◌}
use Rattle.meaning.specs.Table.{Absent}
use Rattle.automaton.proofs.Laws.Sets.{Built, built_start, built_end, built_take, member_small, power_up_to, goes_on_lem, longer_flat}
use Rattle.machine.proofs.sets.longer_rules.Goals as goal

pub loop-rule-init : goal.loop-rule-init
loop-rule-init c =
    let a = c.args in
    let t = a.table.now in
    rw c.into_iter-rule-iterator.ensures.into_iter_gives (built_start (goes_on_lem t.words.now a.depth a.c) t.rules a.set t.few c.requires)

pub loop-rule-preserved-then-goes_on : goal.loop-rule-preserved-then-goes_on
loop-rule-preserved-then-goes_on c =
    let a = c.args in
    let t = a.table.now in
    let l = c.loop-rule in
    let test : ℕ → Bool = goes_on_lem t.words.now a.depth a.c in
    let e = c.in-Some.ensures.steps in
    let r = c.in-Some.rule.0 in
    let weight : 1 * 2 ^ r % 2 ^ 32 ≡ 2 ^ r = omega (arith, power_up_to 31 r (omega (arith, member_small _ _ _ e))) in
    rw weight (built_take test t.rules a.set t.few r _ l.longer _ (subst (λ x. Built test t.rules a.set t.few x l.longer) e l.invariant) e (sym c.goes_on.ensures ∙ c.if-goes_on.true))

pub returns : goal.returns
returns c =
    let a = c.args in
    let t = a.table.now in
    let l = c.loop-rule in
    let test : ℕ → Bool = goes_on_lem t.words.now a.depth a.c in
    let b = built_end test t.rules a.set t.few c.requires l.longer (subst (λ x. Built test t.rules a.set t.few x l.longer) c.in-None.ensures.steps.0 l.invariant) in
    (b.0 ∙ sym (longer_flat t.words.now t.rules Absent a.set a.depth a.c), b.1)
