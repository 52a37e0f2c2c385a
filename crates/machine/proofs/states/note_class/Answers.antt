-- `states::note_class` meets its contract. The four ways: no state is met, a state that is there, one too many, a new one.
-- What is met is the successor, since the state accepts nothing. Assumes nothing.
use mathlib.Core.Path.{refl}
use Prim.Native.Nat.{◌+◌, ◌*◌, ◌≤◌}
use native.Mathlib.Omega.{arith}
use lib.ListN.{set}
use Rattle.meaning.specs.Table.{Table}
use Rattle.machine.specs.bridge.Tables.{bare_table}
use Rattle.automaton.specs.Sound.{depth_word}
use Rattle.automaton.proofs.Laws.Noting.{kept_same, kept_set, kept_on, onward, too_large}
use Rattle.automaton.proofs.Laws.Meeting.{noted_depths, noted_once, Ways, ways_on}
use Rattle.automaton.specs.Layout.{states_from, targets_from}
use Rattle.machine.proofs.states.note_class.Goals as goal
use Rattle.machine.proofs.states.note_class.Goals.{After-longer_rules-set, Start}

abbrev table : Start → Table
table s = bare_table s.args.table.now

low : (s : Start) → depth_word s.args.words.now s.args.state.0 ≤ s.args.state.0
low s = s.requires.noted_at.shallow s.args.state.0 s.requires.fact.0

abbrev ways : (l : After-longer_rules-set) →
    let a = l.args in Ways (table (goal.at.After-longer_rules-set l).Start) a.table.now.rules a.state.0 a.class.0 a.words.now a.met.now.sets a.met.now.count l.longer_rules-set.result
ways l = let a = l.args in
    let g = l.requires.fact in
    let e = l.longer_rules-set.ensures in
    ways_on (table (goal.at.After-longer_rules-set l).Start) a.table.now.rules a.state.0 g.1 a.class.0 a.words.now a.met.now.sets a.met.now.count g.2 l.requires.noted_at l.longer_rules-set.result e.1 e.0 g.3

pub returns-then-set-eq0 : goal.returns-then-set-eq0
returns-then-set-eq0 c = onward (kept_same c.args.words.now) ((ways (goal.at.returns-then-set-eq0 c).After-longer_rules-set).nothing c.if-set-eq0.true)

pub find-requires-clause-by_index : goal.find-requires-clause-by_index
find-requires-clause-by_index c =
    let a = c.args in
    let g = c.requires.fact in
    noted_depths (table (goal.at.find-requires-clause-by_index c).Start) a.table.now.rules a.state.0 g.1 a.class.0 a.words.now a.met.now.sets a.met.now.count g.2 c.requires.noted_at

pub find-requires-clause-by_index_2 : goal.find-requires-clause-by_index_2
find-requires-clause-by_index_2 c =
    let a = c.args in
    let g = c.requires.fact in
    noted_once (table (goal.at.find-requires-clause-by_index_2 c).Start) a.table.now.rules a.state.0 g.1 a.class.0 a.words.now a.met.now.sets a.met.now.count g.2 c.requires.noted_at

pub returns-in-Some : goal.returns-in-Some
returns-in-Some c =
    let a = c.args in
    let r = c.in-Some.number.0 in
    let o = c.in-Some.ensures in
    let e = o.number a.table.now.rules c.requires.noted_at.fit c.longer_rules-set.ensures.1 in
    onward (kept_set a.words.now (targets_from + 64 * a.state.0 + a.class.0) r (omega arith) (omega arith))
    ((ways (goal.at.returns-in-Some c).After-longer_rules-set).there c.if-set-eq0.false r e (omega (arith, o.below)))

pub returns-in_err-number : goal.returns-in_err-number
returns-in_err-number c =
    let a = c.args in
    let e = c.in_default.ensures.number a.table.now.rules c.requires.noted_at.fit c.longer_rules-set.ensures.1 in
    rw c.from_residual.ensures
    (too_large (kept_same a.words.now) ((ways (goal.at.returns-in_err-number c).After-longer_rules-set).over c.if-set-eq0.false a.met.now.count e refl c.in_err-number.ensures))

pub returns : goal.returns
returns c =
    let a = c.args in
    let n = a.met.now.count in
    let d = depth_word a.words.now a.state.0 + 1 in
    let w = set a.words.now (states_from + 3 * n) d in
    let e = c.in_default.ensures.number a.table.now.rules c.requires.noted_at.fit c.longer_rules-set.ensures.1 in
    let o = c.in_ok-number.ensures in
    rw (o.1, o.2, o.3)
    (onward
    (kept_on (kept_set a.words.now (states_from + 3 * n) d (omega (arith, o.0)) (omega (arith, o.0))) (kept_set w (targets_from + 64 * a.state.0 + a.class.0) n (omega arith) (omega arith)))
    ((ways (goal.at.returns c).After-longer_rules-set).new c.if-set-eq0.false n e refl o.0))
