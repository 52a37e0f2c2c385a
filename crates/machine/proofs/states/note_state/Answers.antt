-- `states::note_state` meets its contract: what the state accepts is noted, and a state with an accept has no targets.
-- Assumes nothing.
use mathlib.Core.List.{List}
use mathlib.Core.Path.{◌≡◌, sym, ap, ◌∙◌}
use Prim.Native.Nat.{ℕ, suc, ◌+◌, ◌*◌, ◌≤◌}
use native.Mathlib.Omega.{arith}
use lib.ListN.{length, set}
use Rattle.meaning.specs.Table.{Table}
use Rattle.machine.specs.bridge.Tables.{bare_table}
use Rattle.automaton.specs.Classes.{starts}
use Rattle.automaton.specs.States.{accept_of}
use Rattle.automaton.specs.Sound.{depth_word}
use Rattle.automaton.specs.bridge.Noted.{NotedAt, Kept}
use Rattle.automaton.proofs.Laws.Good.{state_at}
use Rattle.automaton.proofs.Laws.Noting.{kept_set, kept_on, onward}
use Rattle.automaton.proofs.Laws.Meeting.{accepts_noted, accepting, row_done}
use Rattle.automaton.specs.Layout.{states_from}
use Rattle.words.specs.bridge.Readings.{word_of}
use Rattle.machine.proofs.states.note_state.Goals as goal
use Rattle.machine.proofs.states.note_state.Goals.{After-accept_word-2, Start}

abbrev table : Start → Table
table s = bare_table s.args.table.now

low : (s : Start) → depth_word s.args.words.now s.args.state.0 ≤ s.args.state.0
low s = s.requires.noted_at.shallow s.args.state.0 s.requires.fact.2

-- the words when both accepts are noted
abbrev words : After-accept_word-2 → List ℕ
words k = let a = k.args in
    set (set a.words.now (states_from + 1 + 3 * a.state.0) k.accept_word.result) (states_from + 2 + 3 * a.state.0) k.accept_word-2.result

noted : (k : After-accept_word-2) →
    let a = k.args in
    NotedAt (table (goal.at.After-accept_word-2 k).Start) a.table.now.rules (suc a.state.0) a.state.0 0 (words k) a.met.now.sets a.met.now.count × (k.accept_word-2.result ≡ accept_of (table (goal.at.After-accept_word-2 k).Start) (state_at (table (goal.at.After-accept_word-2 k).Start) a.state.0))
noted k = let a = k.args in
    accepts_noted (table (goal.at.After-accept_word-2 k).Start) a.table.now.rules a.state.0 k.requires.fact.1 a.words.now a.met.now.sets a.met.now.count k.accept_word.result k.accept_word-2.result
    (k.accept_word.ensures ∙ k.accept_at_end_of-end.ensures.word) (k.accept_word-2.ensures ∙ k.accept_of-accept.ensures.word) k.requires.noted_at

kept : (k : After-accept_word-2) → Kept k.args.words.now (words k)
kept k = let a = k.args in
    let few = k.requires.noted_at.few in
    let h = k.requires.fact.2 in
    kept_on (kept_set a.words.now (states_from + 1 + 3 * a.state.0) k.accept_word.result (omega arith) (omega arith))
    (kept_set (set a.words.now (states_from + 1 + 3 * a.state.0) k.accept_word.result) (states_from + 2 + 3 * a.state.0) k.accept_word-2.result (omega arith) (omega arith))

pub returns-in-Some : goal.returns-in-Some
returns-in-Some c =
    let a = c.args in
    let t = table (goal.at.returns-in-Some c).Start in
    let k = (goal.at.returns-in-Some c).After-accept_word-2 in
    let w = words k in
    let some = c.accept_word-2.ensures ∙ ap word_of c.in-Some.is in
    onward (kept k)
    (row_done t a.table.now.rules a.state.0 c.requires.fact.1 w a.met.now.sets a.met.now.count
    (accepting t a.table.now.rules a.state.0 c.requires.fact.1 w a.met.now.sets a.met.now.count (λ z. let e = (noted k).1 ∙ z in omega (arith, some, e)) (length (starts t)) (omega arith) (noted k).0))

pub note_classes-requires : goal.note_classes-requires
note_classes-requires c =
    let g = c.requires.fact in
    let k = (goal.at.note_classes-requires c).After-accept_word-2 in
    record { fact = (g.0, g.1, sym (noted k).1 ∙ c.accept_word-2.ensures ∙ ap word_of c.in-None.is); noted_at = (noted k).0 }

pub returns-in-None : goal.returns-in-None
returns-in-None c =
    let o = c.note_classes.ensures in
    record { kept = kept_on (kept (goal.at.returns-in-None c).After-accept_word-2) o.kept; noted = o.noted; over = o.over }
