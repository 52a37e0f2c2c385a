-- `states::note_classes` meets its contract. The invariant: the targets of the classes so far are noted.
-- Assumes nothing.
use mathlib.Core.Path.{◌≡◌, subst}
use Prim.Native.Nat.{suc}
use native.Mathlib.Omega.{arith}
use lib.ListN.{length}
use Rattle.meaning.specs.Table.{Table}
use Rattle.machine.specs.bridge.Tables.{bare_table}
use Rattle.automaton.specs.Classes.{starts}
use Rattle.automaton.specs.bridge.Noted.{NotedAt}
use Rattle.automaton.proofs.Laws.Noting.{onward}
use Rattle.automaton.proofs.Laws.Meeting.{noted_here, row_done}
use Rattle.machine.proofs.states.note_classes.Goals as goal
use Rattle.machine.proofs.states.note_classes.Goals.{Start}

abbrev table : Start → Table
table s = bare_table s.args.table.now

pub note_class-requires-clause-fact : goal.note_class-requires-clause-fact
note_class-requires-clause-fact c =
    let g = c.requires.fact in
    let l = c.loop-class in
    (noted_here (table (goal.at.note_class-requires-clause-fact c).Start) c.args.table.now.rules c.args.state.0 g.1 (suc c.args.state.0) l.class l.words l.met.sets l.met.count l.invariant.1, g.1, omega arith, g.2)

pub returns : goal.returns
returns c =
    let a = c.args in
    let l = c.loop-class in
    let t = table (goal.at.returns c).Start in
    let e : l.class ≡ length (starts t) = omega arith in
    onward l.invariant.0
    (row_done t a.table.now.rules a.state.0 c.requires.fact.1 l.words l.met.sets l.met.count (subst (λ i. NotedAt t a.table.now.rules (suc a.state.0) a.state.0 i l.words l.met.sets l.met.count) e l.invariant.1))
