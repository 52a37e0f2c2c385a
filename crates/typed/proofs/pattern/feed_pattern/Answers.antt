-- `typed::pattern::feed_pattern` meets its contract: the first reading finds the items and leaves the array and the buffer, since an idle check
-- takes no record; the second feeds them behind the rule's record. Assumes nothing.
use mathlib.Core.Path.{◌≡◌, refl, sym, ap, ap₂, subst, ◌∙◌}
use native.Mathlib.Omega.{arith}
use lib.ListN.{drop}
use Rattle.meaning.specs.Refusal.{Outcome, refused}
use Rattle.rules.specs.Answers.{outcome_of}
use Rattle.rules.specs.declared.reader.Reader.{Reader}
use Rattle.typed.specs.bridge.Stream.{State, Held, feed}
use Rattle.typed.specs.bridge.Answers.{state_of}
use Rattle.typed.proofs.Laws.Readings.{read_none, read_some, no_place, place, fed_none, fed_one}
use Rattle.typed.proofs.Laws.Items.{Items, items_idle, items_read, items_again, pattern_none, pattern_unended, pattern_whole, pattern_fed, read_nothing}
use Rattle.typed.proofs.pattern.feed_pattern.Goals as goal
use Rattle.typed.proofs.pattern.feed_pattern.Goals.{In_ok-items}

-- a state with another check
abbrev checking : Outcome Reader → State → State
checking o x = record { fine = x.fine; check = o; loaded = x.loaded; count = x.count; buffer = x.buffer; lent = x.lent }

-- the items are read with an idle check, which leaves the rest as it was
first : (c : In_ok-items) → Items (drop c.args.at c.args.s.now) (checking (refused 16) (state_of c.args.records.now)) (state_of c.feed_items.new.records) c.in_ok-items.items (drop c.in_ok-items.end c.args.s.now)
first c = items_read (read_some c.feed_items.ensures.read c.in_ok-items.was)

left_alone : (c : In_ok-items) → state_of c.feed_items.new.records ≡ checking (refused 16) (state_of c.args.records.now)
left_alone c = sym (first c).fed ∙ items_idle 0 (first c).items (checking (refused 16) (state_of c.args.records.now)) 16 refl

pub returns-in_err-items-clause-read : goal.returns-in_err-items-clause-read
returns-in_err-items-clause-read c =
    rw c.from_residual.ensures (no_place (fed_none _ (pattern_none (drop c.args.at c.args.s.now) (read_nothing _ _ (read_none c.feed_items.ensures.read c.in_err-items.was)))))

pub returns-in_err-anchored-clause-read : goal.returns-in_err-anchored-clause-read
returns-in_err-anchored-clause-read c =
    rw c.from_residual-in_err-anchored.ensures
    (no_place (fed_none _ (pattern_unended (drop c.args.at c.args.s.now) (first (goal.at.returns-in_err-anchored-clause-read c).In_ok-items) (read_none c.ending.ensures c.in_err-anchored.was))))

pub invariant_of-records-2 : goal.invariant_of-records-2
invariant_of-records-2 c =
    record { ready = subst (λ n. Held (outcome_of c.args.records.now.sink.step) n) (sym (ap (λ (x : State). x.count) (left_alone (goal.at.invariant_of-records-2 c).In_ok-items))) c.args.records.now.sink.ready }

pub returns-clause-read : goal.returns-clause-read
returns-clause-read c =
    let a = c.args in
    let t = drop a.at a.s.now in
    let start = state_of a.records.now in
    let read = first (goal.at.returns-clause-read c).In_ok-items in
    let g = read_some c.feed_items.ensures.read c.in_ok-items.was in
    let h = read_some c.ending.ensures c.in_ok-anchored.was in
    let begun = c.feed.ensures.state ∙ ap₂ (λ b x. feed b (checking start.check x)) c.rule_record.ensures (left_alone (goal.at.returns-clause-read c).In_ok-items) in
    let f = g.from in
    let l = h.from in
    place (record {
      from = omega arith;
      to = h.to;
      is = fed_one _ (pattern_whole t read _ _ h.is) (pattern_fed t read start c.in_ok-anchored.anchored begun (items_again c.feed_items-2.new.records t _ c.feed_items-2.result read.read c.feed_items-2.ensures.read));
    })
