-- `call::admit` meets its contract: the tests stand in the order of the refusals, and the first that fails decides.
-- What the tests of words and session tell is what `admit_open` requires.
use Rattle.std.proofs.Common.{ap}
use Rattle.std.proofs.lemmas.Result.{err_from_is_err_and}
use mathlib.Core.Bool.{true, false}
use mathlib.Core.Path.{◌≡◌, refl, sym, ap, subst, ◌∙◌}
use native.Mathlib.Omega.{arith}
use borrow.Author.Tests.{not-true, not-false}
use denote.Enum.Bare.{sameb}
use Rattle.lists.proofs.Laws.Tests.{to_T, of_T}
use Rattle.rules.specs.Answers.{outcome_of}
use Rattle.automaton.specs.Sound.{sound, expansion_word}
use Rattle.automaton.proofs.Laws.Words.{sound_header_lem}
use Rattle.reckoning.specs.Session.{Session, is_open, sound_session}
use Rattle.reckoning.specs.Calls.{admits}
use Rattle.session.specs.contracts.kept.Status.{the_type}
use Rattle.session.specs.Keeping.{meant_status, together, session_of}
use Rattle.session.specs.declared.kept.Status.{Status}
use Rattle.session.specs.declared.kept.Status.TheVariants.{Open, Closed, Stopped}
use Rattle.reckoning.proofs.Laws.Kept.{sound_facts}
use Rattle.reckoning.proofs.Laws.Admitting.{room_tests, words_unsound, session_unsound, session_ended, session_open}
use Rattle.session.proofs.call.admit.Goals as goal
use Rattle.session.proofs.call.admit.Goals.{After-admit_open, Else-not-is_sound_session, In-Some, Start}

abbrev session : Start → Session
session p = let a = p.args in session_of (together a.kept a.uses.now)

-- the words are the machine's, so they are sound
same : (c : In-Some) → c.in-Some.machine.words.all.now ≡ c.args.words.now
same c = ap (λ b. b.now) c.in-Some.ensures

words-sound : (c : In-Some) → sound c.args.words.now ≡ true
words-sound c = subst (λ w. sound w ≡ true) (same c) (of_T _ c.in-Some.machine.sound)

session-sound : (c : Else-not-is_sound_session) → sound_session c.args.words.now (session_of (together c.args.kept c.args.uses.now)) ≡ true
session-sound c = subst (λ w. sound_session w (session_of (together c.args.kept c.args.uses.now)) ≡ true) (same (goal.at.Else-not-is_sound_session c).In-Some) (sym c.if-not-is_sound_session.ensures)

opens : (x : Status) → is_open (meant_status x) ≡ sameb the_type x Open
opens Open = refl
opens Closed = refl
opens Stopped = refl

-- past the tests before, refusals 14 and 15 decide
decided : (c : After-admit_open) → let a = c.args in outcome_of c.admit_open.result ≡ admits a.words.now (session_of (together a.kept a.uses.now)) a.size a.room
decided c =
    let a = c.args in
    let s = session (goal.at.After-admit_open c).Start in
    let i = (goal.at.After-admit_open c).In-Some in
    c.admit_open.ensures
    ∙ ap (λ most. room_tests most s.received s.count a.size a.room) (c.expansion-most.ensures ∙ ap expansion_word (same i))
    ∙ session_open a.words.now s a.size a.room (words-sound i) (session-sound (goal.at.After-admit_open c).Else-not-is_sound_session)
    (opens a.kept.status ∙ not-false _ (sym c.if-ne.ensures))

pub returns-in_default : goal.returns-in_default
returns-in_default c =
    let a = c.args in sym (words_unsound a.words.now (session (goal.at.returns-in_default c).Start) a.size a.room c.in_default.ensures)

pub returns-then-not-is_sound_session : goal.returns-then-not-is_sound_session
returns-then-not-is_sound_session c =
    let a = c.args in
    let i = (goal.at.returns-then-not-is_sound_session c).In-Some in
    let s = session (goal.at.returns-then-not-is_sound_session c).Start in
    sym (session_unsound a.words.now s a.size a.room (words-sound i)
    (subst (λ w. sound_session w s ≡ false) (same i) (sym c.if-not-is_sound_session.ensures)))

pub returns-then-ne : goal.returns-then-ne
returns-then-ne c =
    let a = c.args in
    let s = session (goal.at.returns-then-ne c).Start in
    sym (session_ended a.words.now s a.size a.room (words-sound (goal.at.returns-then-ne c).In-Some) (session-sound (goal.at.returns-then-ne c).Else-not-is_sound_session)
    (opens a.kept.status ∙ not-true _ (sym c.if-ne.ensures)))

pub admit_open-requires : goal.admit_open-requires
admit_open-requires c =
    let m = c.in-Some.machine in
    let h = sound_header_lem m.words.all.now m.sound in
    let f = sound_facts c.args.words.now (session (goal.at.admit_open-requires c).Start) (to_T _ (session-sound (goal.at.admit_open-requires c).Else-not-is_sound_session)) in
    (omega (arith, h.expansion, c.expansion-most.ensures), f.limited, f.enough)

pub returns-in_err-admit_open : goal.returns-in_err-admit_open
returns-in_err-admit_open c =
    let p = err_from_is_err_and c.from_residual.result c.from_residual.ensures.1 in
    rw (p.1, p.2) (sym (decided (goal.at.returns-in_err-admit_open c).After-admit_open) ∙ ap outcome_of c.in_err-admit_open.was)

pub returns : goal.returns
returns c = (c.in-Some.ensures, sym (decided (goal.at.returns c).After-admit_open) ∙ ap outcome_of c.in_ok-admit_open.was)
