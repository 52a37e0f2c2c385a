-- `uses::left_to_default` meets its contract: the loop keeps that what the rules so far took and what is left make up what was consumed.
-- Too many for one rule are too many in the whole sum.
use mathlib.Core.Path.{◌≡◌, sym, ap, ◌∙◌}
use Prim.Native.Nat.{◌+◌, ◌*◌, ◌≤◌, ◌<◌}
use native.Mathlib.Omega.{arith}
use Rattle.lists.specs.Lists.{sum_below}
use Rattle.lists.proofs.Laws.Sets.{sum_next, sum_grows}
use Rattle.meaning.specs.Block.{at}
use Rattle.automaton.specs.Sound.{rule_count}
use Rattle.automaton.proofs.Laws.Words.{sound_header_lem, sound_rule}
use Rattle.session.specs.bridge.Counting.{less}
use Rattle.session.proofs.Laws.Counting.{less_lacking, enough_less, lacking_less}
use Rattle.session.proofs.uses.left_to_default.Invariants.{taken, took}
use Rattle.session.proofs.uses.left_to_default.Goals as goal
use Rattle.session.proofs.uses.left_to_default.Goals.{After-without_rule, In-loop-rule}

-- in the loop the rule is one of the machine's
known : (l : In-loop-rule) → l.loop-rule.rule < rule_count l.args.machine.words.all.now
known l = omega (arith, l.loop-rule-test.true, l.rule_count-rule-end.ensures)

few : (l : In-loop-rule) → l.loop-rule.rule < 32
few l = omega (arith, known l, (sound_header_lem l.args.machine.words.all.now l.args.machine.sound).few_rules)

-- what was left, without what the rule took
without : (k : After-without_rule) → k.without_rule.result ≡ less k.loop-rule.left (took k.args.machine.words.all.now k.args.uses.now k.loop-rule.rule)
without k = k.without_rule.ensures ∙ ap (λ n. less k.loop-rule.left (at k.args.uses.now k.loop-rule.rule * n)) k.group_size-size.ensures

pub loop-rule-init : goal.loop-rule-init
unfolding sum_below
loop-rule-init c = omega arith

pub overflow_cast-rule : goal.overflow_cast-rule
overflow_cast-rule c = omega (arith, few (goal.at.overflow_cast-rule c).In-loop-rule)

pub offset_bounds-uses-rule : goal.offset_bounds-uses-rule
offset_bounds-uses-rule c = omega (arith, few (goal.at.offset_bounds-uses-rule c).In-loop-rule)

pub group_size-size-requires : goal.group_size-size-requires
group_size-size-requires c = omega (arith, few (goal.at.group_size-size-requires c).In-loop-rule)

pub bounds-uses-rule : goal.bounds-uses-rule
bounds-uses-rule c = omega (arith, few (goal.at.bounds-uses-rule c).In-loop-rule)

pub without_rule-requires : goal.without_rule-requires
without_rule-requires c =
    let w = c.args.machine.words.all.now in
    let block = sound_rule w c.args.machine.sound c.loop-rule.rule (known (goal.at.without_rule-requires c).In-loop-rule) in
    let longest = (sound_header_lem w c.args.machine.sound).longest in
    let size = c.group_size-size.ensures in
    (omega (arith, c.loop-rule.invariant, c.requires), omega (arith, block.positive), omega (arith, block.size))

pub returns-in_err-left : goal.returns-in_err-left
returns-in_err-left c =
    let w = c.args.machine.words.all.now in
    let uses = c.args.uses.now in
    let rule = c.loop-rule.rule in
    let lacking : c.loop-rule.left < took w uses rule = lacking_less _ _ (sym (without (goal.at.returns-in_err-left c).After-without_rule) ∙ c.in_err-left.was) in
    let more : taken w uses (rule + 1) ≤ taken w uses (rule_count w) = sum_grows (rule + 1) (rule_count w) (took w uses) (omega (arith, known (goal.at.returns-in_err-left c).In-loop-rule)) in
    c.from_residual.ensures ∙ sym (less_lacking c.args.consumed _ (omega (arith, c.loop-rule.invariant, sum_next rule (took w uses))))

pub loop-rule-preserved : goal.loop-rule-preserved
loop-rule-preserved c =
    let w = c.args.machine.words.all.now in
    let uses = c.args.uses.now in
    let rule = c.loop-rule.rule in
    let enough : took w uses rule + c.in_ok-left.left ≡ c.loop-rule.left =
    enough_less _ _ _ (sym (without (goal.at.loop-rule-preserved c).After-without_rule) ∙ c.in_ok-left.was) in
    omega (arith, c.loop-rule.invariant, sum_next rule (took w uses))
