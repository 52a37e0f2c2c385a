-- `states::build_states` meets its contract. The invariant: the states before the one at hand are done.
-- The measure is what is left of 256 states. Assumes nothing.
use Rattle.std.specs.Prelude.{Some, None}
use mathlib.Core.Bool.{cond}
use mathlib.Core.List.{List}
use mathlib.Core.Path.{◌≡◌, refl, sym, ap, subst, ◌∙◌}
use Prim.Native.Nat.{ℕ, ◌≤◌}
use native.Mathlib.Numerals.{add-one}
use borrow.Author.Tests.{le-ltb}
use native.Mathlib.Omega.{arith}
use lib.ListN.{length, set, replicate}
use Rattle.meaning.specs.Table.{Table}
use Rattle.machine.specs.bridge.Tables.{bare_table}
use Rattle.meaning.specs.Table.{Absent}
use Rattle.automaton.specs.States.{states}
use Rattle.automaton.specs.bridge.Noted.{NotedAt, Kept}
use Rattle.automaton.proofs.Laws.Noting.{kept_same, kept_set, kept_on}
use Rattle.automaton.proofs.Laws.Building.{rules_counted, noted_start, noted_below, noted_count, noted_words}
use Rattle.automaton.specs.Layout.{states_from}
use Rattle.machine.proofs.states.build_states.Goals as goal
use Rattle.machine.proofs.states.build_states.Goals.{At-loop-state, Start}

abbrev table : Start → Table
table s = bare_table s.args.table.now

-- the words since the function began
kept : (l : At-loop-state) (w : List ℕ) → Kept l.loop-state.words w → Kept l.args.words.now w
kept l w k = kept_on (kept_set l.args.words.now states_from 0 (omega arith) (omega arith)) (kept_on l.loop-state.invariant.1 k)

pub loop-state-init : goal.loop-state-init
loop-state-init c =
    let a = c.args in
    let g = c.requires.fact in
    let h = c.requires.word_count_in_bounds in (
      omega arith,
      kept_same (set a.words.now states_from 0),
      noted_start (table (goal.at.loop-state-init c).Start) a.table.now.rules a.words.now (replicate 256 0) c.all_rules.result h.0 refl (omega arith) g.2 h.1
          (rules_counted a.table.now.words.now a.table.now.rules Absent) c.all_rules.ensures.0 c.all_rules.ensures.1,
    )

pub note_state-requires-clause-fact : goal.note_state-requires-clause-fact
note_state-requires-clause-fact c =
    let g = c.requires.fact in
    let l = c.loop-state in
    let b : l.met.1.0 ≤ length (states (table (goal.at.note_state-requires-clause-fact c).Start)) =
    noted_below (table (goal.at.note_state-requires-clause-fact c).Start) c.args.table.now.rules l.state.0 l.state.0 0 l.words l.met.0 l.met.1.0 l.invariant.0 l.invariant.2 in
    (g.0, omega arith, c.loop-state-test.true)

pub returns-in_err-note_state-clause-kept : goal.returns-in_err-note_state-clause-kept
returns-in_err-note_state-clause-kept c = kept (goal.at.returns-in_err-note_state-clause-kept c).At-loop-state c.note_state.new.words c.note_state.ensures.kept

pub loop-state-preserved : goal.loop-state-preserved
loop-state-preserved c =
    let o = c.in_ok-note_state.ensures in
    let l = c.loop-state in
    let t = table (goal.at.loop-state-preserved c).Start in
    let b : l.met.1.0 ≤ length (states t) = noted_below t c.args.table.now.rules l.state.0 l.state.0 0 l.words l.met.0 l.met.1.0 l.invariant.0 l.invariant.2 in (
      omega arith,
      kept_on l.invariant.1 o.kept,
      subst (λ i. NotedAt t c.args.table.now.rules i i 0 c.note_state.new.words c.note_state.new.met.sets c.note_state.new.met.count) (sym (add-one l.state.0)) (o.noted refl),
    )

pub returns : goal.returns
returns c =
    let l = c.loop-state in
    let N = l.invariant.2 in
    let t = table (goal.at.returns c).Start in
    let whole = kept (goal.at.returns c).At-loop-state l.words (kept_same l.words) in
    let e : l.met.1.0 ≡ length (states t) = noted_count t c.args.table.now.rules l.state.0 l.words l.met.0 l.met.1.0 N l.invariant.0 c.loop-state-test.false in
    record {
      answer = ap Some e ∙ sym (ap (λ b. cond b None (Some (length (states t)))) (le-ltb _ _ (subst (λ i. i ≤ 256) e N.few)));
      words = λ h. noted_words t c.args.table.now.rules l.state.0 l.words l.met.0 l.met.1.0 N l.invariant.0 c.loop-state-test.false whole;
      kept = whole;
    }
