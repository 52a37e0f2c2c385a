-- `kept::is_sound_session` meets its contract: the first part that fails decides, and past three what the status asks.
-- The counts' test gives what the parts after it require.
use Rattle.std.proofs.Common.{not, ap, inl, inr}
use mathlib.Core.Bool.{true, cond}
use mathlib.Core.List.{List, [], ◌∷◌}
use mathlib.Core.Path.{◌≡◌, sym, ap, ◌∙◌}
use Prim.Native.Nat.{ℕ, ◌+◌, ◌*◌, ◌≤◌}
use native.Mathlib.Omega.{arith}
use borrow.Author.Rules.{rules}
use lib.Dec.{eqb, leb}
use lib.ListN.{length, take, drop}
use lib.Seq.{length-take-le}
use Rattle.lists.specs.Lists.{all}
use Rattle.lists.specs.Decide.{all_of}
use Rattle.lists.proofs.Laws.Tests.{passed, failed, all_stops, all_next, all_last}
use Rattle.meaning.specs.Direct.{limit}
use Rattle.automaton.specs.Sound.{expansion_word, longest_word}
use Rattle.automaton.specs.Automaton.{from_words}
use Rattle.automaton.proofs.Laws.Words.{sound_header_lem}
use Rattle.reckoning.specs.Session.{Session, consumed, stands_at, is_open, sound_session}
use Rattle.session.specs.declared.kept.Status.{Status}
use Rattle.session.specs.declared.kept.Status.TheVariants.{Open, Closed, Stopped}
use Rattle.session.specs.Keeping.{meant_status, together, session_of}
use Rattle.reckoning.proofs.Laws.Keeping.{counts_test, uses_test, open_test, ended_test, session_parts, counts_known}
use Rattle.session.proofs.kept.is_sound_session.Goals as goal
use Rattle.session.proofs.kept.is_sound_session.Goals.{After-counts_sound, Else-not-counts_sound, Else-not-all_clear, Else-not-uses_sound, then-not-all_clear-via-then-not-all_clear, then-not-all_clear-via-else-not-all_clear+then-not-uses_sound}

-- the words and the session
abbrev words : After-counts_sound → List ℕ
words c = c.args.machine.words.all.now

abbrev session : After-counts_sound → Session
session c = let a = c.args in session_of (together a.kept a.uses.now)

-- the counts are tested by E
counted : (c : After-counts_sound) → c.counts_sound.result ≡ counts_test (words c) (session c) (expansion_word (words c))
counted c = c.counts_sound.ensures ∙ ap (counts_test (words c) (session c)) c.expansion.ensures

-- past that test
abbrev start : Else-not-counts_sound → After-counts_sound
start c = (goal.at.Else-not-counts_sound c).After-counts_sound

past-counts : (c : Else-not-counts_sound) → counts_test (words (start c)) (session (start c)) (expansion_word (words (start c))) ≡ true
past-counts c = passed (counted (start c)) (ap not c.if-not-counts_sound.false)

small : (c : Else-not-counts_sound) → let s = session (start c) in (s.received ≤ limit) × (s.count ≤ s.received) × (s.count ≤ 8)
small c = counts_known (words (start c)) (session (start c)) _ (past-counts c)

few : (c : Else-not-counts_sound) → consumed (session (start c)) ≤ limit
few c =
    let s = session (start c) in
    let b : s.received ≤ limit = (small c).0 in
    omega arith

-- the tests after it
rest : (c : Else-not-counts_sound) → let w = words (start c) in let s = session (start c) in
    sound_session w s ≡ all_of (all (eqb 0) (drop s.count s.held) ∷ uses_test w s ∷ cond (is_open s.status) (open_test w s) (ended_test w s) ∷ [])
rest c = session_parts (words (start c)) (session (start c)) ∙ all_next _ (past-counts c)

-- past all three, by the status
past-uses : (c : Else-not-uses_sound) (x : Status) → let w = c.args.machine.words.all.now in let s = session_of (together c.args.kept c.args.uses.now) in
    c.args.kept.status ≡ x → sound_session w s ≡ cond (is_open (meant_status x)) (open_test w s) (ended_test w s)
past-uses c x known =
    let w = c.args.machine.words.all.now in
    let s = session_of (together c.args.kept c.args.uses.now) in
    rest (goal.at.Else-not-uses_sound c).Else-not-counts_sound
    ∙ all_next _ (passed (c.all_clear.ensures ∙ ap (all (eqb 0)) c.others.ensures) (ap not c.if-not-all_clear.false))
    ∙ all_next _ (passed c.uses_sound.ensures (ap not c.if-not-uses_sound.false))
    ∙ all_last _
    ∙ ap (λ y. cond (is_open (meant_status y)) (open_test w s) (ended_test w s)) known

pub counts_sound-requires : goal.counts_sound-requires
counts_sound-requires c = omega (arith, (sound_header_lem c.args.machine.words.all.now c.args.machine.sound).expansion, c.expansion.ensures)

pub returns-then-not-counts_sound : goal.returns-then-not-counts_sound
returns-then-not-counts_sound c =
    let k = (goal.at.returns-then-not-counts_sound c).After-counts_sound in
    sym (session_parts (words k) (session k) ∙ all_stops _ (failed (counted k) (ap not c.if-not-counts_sound.true)))

pub overflow_sub-consumed : goal.overflow_sub-consumed
overflow_sub-consumed c = (small (goal.at.overflow_sub-consumed c).Else-not-counts_sound).1

pub others-requires : goal.others-requires
others-requires c = (small (goal.at.others-requires c).Else-not-counts_sound).2

pub uses_sound-requires : goal.uses_sound-requires
uses_sound-requires c = few (goal.at.uses_sound-requires c).Else-not-counts_sound

pub returns-then-not-all_clear : goal.returns-then-not-all_clear
returns-then-not-all_clear c =
    let k = (goal.at.returns-then-not-all_clear c).Else-not-counts_sound in
    let clear = c.all_clear.ensures ∙ ap (all (eqb 0)) c.others.ensures in
    elim c.then-not-all_clear.branch [
      | then-not-all_clear-via-then-not-all_clear w ↦ sym (rest k ∙ all_stops _ (failed clear (ap not w.if-not-all_clear.true)))
      | then-not-all_clear-via-else-not-all_clear+then-not-uses_sound w ↦
          sym (rest k ∙ all_next _ (passed clear (ap not w.if-not-all_clear.false)) ∙ all_stops _ (failed w.uses_sound.ensures (ap not w.if-not-uses_sound.true)))
    ]

pub held-requires : goal.held-requires
held-requires c = (small (goal.at.held-requires c).Else-not-counts_sound).2

-- there are as many as are counted
held-count : (k : ℕ) (held : List ℕ) → k ≤ 8 → length held ≡ 8 → length (take k held) ≡ k
held-count k held h e = length-take-le k held (omega arith)

pub open_sound-requires : goal.open_sound-requires
open_sound-requires c =
    let k = (goal.at.open_sound-requires c).Else-not-counts_sound in
    let n = held-count c.args.kept.held_count c.args.kept.held (small k).2 (search rules) in
    (omega (arith, ap length c.held.ensures, (small k).2), few k)

pub ended_sound-requires : goal.ended_sound-requires
ended_sound-requires c = few (goal.at.ended_sound-requires c).Else-not-counts_sound

pub returns-in-Open : goal.returns-in-Open
returns-in-Open c =
    let k = (goal.at.returns-in-Open c).Else-not-counts_sound in
    let n = held-count c.args.kept.held_count c.args.kept.held (small k).2 (search rules) in
    let w = c.args.machine.words.all.now in
    let s = session_of (together c.args.kept c.args.uses.now) in
    c.open_sound.ensures
    ∙ ap (λ h. all_of (stands_at (from_words w) s.state h ∷ leb s.steps ((longest_word w + 3) * consumed s + length h) ∷ [])) c.held.ensures
    ∙ ap (λ m. all_of (stands_at (from_words w) s.state (take s.count s.held) ∷ leb s.steps ((longest_word w + 3) * consumed s + m) ∷ [])) n
    ∙ sym (past-uses (goal.at.returns-in-Open c).Else-not-uses_sound Open c.in-Open.is)

pub returns-in-Closed : goal.returns-in-Closed
returns-in-Closed c =
    let k = (goal.at.returns-in-Closed c).Else-not-uses_sound in
    elim c.in-Closed.is [
      | inl e ↦ c.ended_sound.ensures ∙ sym (past-uses k Closed e)
      | inr e ↦ c.ended_sound.ensures ∙ sym (past-uses k Stopped e)
    ]
