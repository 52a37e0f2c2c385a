-- `admit::admit` meets its contract: the tests stand in the order of the refusals, and the first that fails decides.
-- What the tests of words and sessions tell is what `admit_open` requires.
use Rattle.std.proofs.lemmas.Result.{err_from_is_err_and}
use mathlib.Core.Bool.{true, false}
use mathlib.Core.Path.{◌≡◌, refl, sym, ap, subst, ◌∙◌}
use native.Mathlib.Omega.{arith}
use borrow.Author.Tests.{not-true, not-false}
use denote.Enum.Bare.{sameb}
use Rattle.lists.proofs.Laws.Tests.{to_T, of_T}
use Rattle.rules.specs.Answers.{outcome_of}
use Rattle.automaton.specs.Sound.{sound, expansion_word}
use Rattle.automaton.proofs.Laws.Words.{sound_header_lem}
use Rattle.reckoning.specs.Session.{Session, is_open, sound_session}
use Rattle.reckoning.specs.Chain.{admits_chain}
use Rattle.reckoning.proofs.Laws.Kept.{sound_facts}
use Rattle.session.specs.contracts.kept.Status.{the_type}
use Rattle.session.specs.Keeping.{meant_status, together, session_of}
use Rattle.session.specs.declared.kept.Status.{Status}
use Rattle.session.specs.declared.kept.Status.TheVariants.{Open, Closed, Stopped}
use Rattle.chain.specs.bridge.Both.{room_tests}
use Rattle.chain.proofs.Laws.Admitting.{first_words, second_words, first_kept, second_kept, first_ended, second_ended, both_open}
use Rattle.chain.proofs.admit.admit.Goals as goal
use Rattle.chain.proofs.admit.admit.Goals.{Start, In-Some, In-Some-new, Else-not-is_sound_session, Else-not-is_sound_session-2, Else-ne, Else-ne-2, After-admit_open}

abbrev session₁ : Start → Session
session₁ p = let a = p.args in session_of (together a.first a.first_uses.now)

abbrev session₂ : Start → Session
session₂ p = let a = p.args in session_of (together a.second a.second_uses.now)

-- the words are the machines', so they are sound
same₁ : (c : In-Some) → c.in-Some.one.words.all.now ≡ c.args.first_words.now
same₁ c = ap (λ b. b.now) c.in-Some.ensures

same₂ : (c : In-Some-new) → c.in-Some-new.other.words.all.now ≡ c.args.second_words.now
same₂ c = ap (λ b. b.now) c.in-Some-new.ensures

sound₁ : (c : In-Some) → sound c.args.first_words.now ≡ true
sound₁ c = subst (λ w. sound w ≡ true) (same₁ c) (of_T _ c.in-Some.one.sound)

sound₂ : (c : In-Some-new) → sound c.args.second_words.now ≡ true
sound₂ c = subst (λ w. sound w ≡ true) (same₂ c) (of_T _ c.in-Some-new.other.sound)

keeps₁ : (c : Else-not-is_sound_session) → let a = c.args in sound_session a.first_words.now (session_of (together a.first a.first_uses.now)) ≡ true
keeps₁ c =
    let a = c.args in
    subst (λ w. sound_session w (session_of (together a.first a.first_uses.now)) ≡ true) (same₁ (goal.at.Else-not-is_sound_session c).In-Some) (sym c.if-not-is_sound_session.ensures)

keeps₂ : (c : Else-not-is_sound_session-2) → let a = c.args in sound_session a.second_words.now (session_of (together a.second a.second_uses.now)) ≡ true
keeps₂ c =
    let a = c.args in
    subst (λ w. sound_session w (session_of (together a.second a.second_uses.now)) ≡ true) (same₂ (goal.at.Else-not-is_sound_session-2 c).In-Some-new) (sym c.if-not-is_sound_session-2.ensures)

opens : (x : Status) → is_open (meant_status x) ≡ sameb the_type x Open
opens Open = refl
opens Closed = refl
opens Stopped = refl

-- a test that failed is the first that did
pub returns-in_default : goal.returns-in_default
returns-in_default c =
    let a = c.args in
    let p = (goal.at.returns-in_default c).Start in
    sym (first_words a.first_words.now a.second_words.now (session₁ p) (session₂ p) a.size a.middle a.room c.in_default.ensures)

pub returns-in_default-new : goal.returns-in_default-new
returns-in_default-new c =
    let a = c.args in
    let p = (goal.at.returns-in_default-new c).Start in
    sym (second_words a.first_words.now a.second_words.now (session₁ p) (session₂ p) a.size a.middle a.room
    (sound₁ (goal.at.returns-in_default-new c).In-Some) c.in_default-new.ensures)

pub returns-then-not-is_sound_session : goal.returns-then-not-is_sound_session
returns-then-not-is_sound_session c =
    let a = c.args in
    let at = goal.at.returns-then-not-is_sound_session c in
    let p = at.Start in
    sym (first_kept a.first_words.now a.second_words.now (session₁ p) (session₂ p) a.size a.middle a.room (sound₁ at.In-Some) (sound₂ at.In-Some-new)
    (subst (λ w. sound_session w (session₁ p) ≡ false) (same₁ at.In-Some) (sym c.if-not-is_sound_session.ensures)))

pub returns-then-not-is_sound_session-2 : goal.returns-then-not-is_sound_session-2
returns-then-not-is_sound_session-2 c =
    let a = c.args in
    let at = goal.at.returns-then-not-is_sound_session-2 c in
    let p = at.Start in
    sym (second_kept a.first_words.now a.second_words.now (session₁ p) (session₂ p) a.size a.middle a.room (sound₁ at.In-Some) (sound₂ at.In-Some-new)
    (keeps₁ at.Else-not-is_sound_session) (subst (λ w. sound_session w (session₂ p) ≡ false) (same₂ at.In-Some-new) (sym c.if-not-is_sound_session-2.ensures)))

pub returns-then-ne : goal.returns-then-ne
returns-then-ne c =
    let a = c.args in
    let at = goal.at.returns-then-ne c in
    let p = at.Start in
    sym (first_ended a.first_words.now a.second_words.now (session₁ p) (session₂ p) a.size a.middle a.room (sound₁ at.In-Some) (sound₂ at.In-Some-new)
    (keeps₁ at.Else-not-is_sound_session) (keeps₂ at.Else-not-is_sound_session-2) (opens a.first.status ∙ not-true _ (sym c.if-ne.ensures)))

open₁ : (c : Else-ne) → is_open (session₁ (goal.at.Else-ne c).Start).status ≡ true
open₁ c = opens c.args.first.status ∙ not-false _ (sym c.if-ne.ensures)

pub returns-then-ne-2 : goal.returns-then-ne-2
returns-then-ne-2 c =
    let a = c.args in
    let at = goal.at.returns-then-ne-2 c in
    let p = at.Start in
    sym (second_ended a.first_words.now a.second_words.now (session₁ p) (session₂ p) a.size a.middle a.room (sound₁ at.In-Some) (sound₂ at.In-Some-new)
    (keeps₁ at.Else-not-is_sound_session) (keeps₂ at.Else-not-is_sound_session-2) (open₁ at.Else-ne) (opens a.second.status ∙ not-true _ (sym c.if-ne-2.ensures)))

pub invariant_of-first_needs : goal.invariant_of-first_needs
invariant_of-first_needs c =
    let m = c.in-Some.one in
    let h = sound_header_lem m.words.all.now m.sound in
    let at = goal.at.invariant_of-first_needs c in
    let f = sound_facts c.args.first_words.now (session₁ at.Start) (to_T _ (keeps₁ at.Else-not-is_sound_session)) in
    record { small = (omega (arith, h.expansion, c.expansion.ensures), f.limited, f.enough) }

pub invariant_of-second_needs : goal.invariant_of-second_needs
invariant_of-second_needs c =
    let m = c.in-Some-new.other in
    let h = sound_header_lem m.words.all.now m.sound in
    let at = goal.at.invariant_of-second_needs c in
    let f = sound_facts c.args.second_words.now (session₂ at.Start) (to_T _ (keeps₂ at.Else-not-is_sound_session-2)) in
    record { small = (omega (arith, h.expansion, c.expansion-2.ensures), f.limited, f.enough) }

-- past the tests before, refusals 14, 18 and 15 decide
decided : (c : After-admit_open) → let a = c.args in
    outcome_of c.admit_open.result
    ≡ admits_chain a.first_words.now a.second_words.now (session_of (together a.first a.first_uses.now)) (session_of (together a.second a.second_uses.now)) a.size a.middle a.room
decided c =
    let a = c.args in
    let at = goal.at.After-admit_open c in
    let s₁ = session₁ at.Start in
    let s₂ = session₂ at.Start in
    c.admit_open.ensures
    ∙ (λ i. room_tests ((c.expansion.ensures ∙ ap expansion_word (same₁ at.In-Some)) i) s₁.received s₁.count
    ((c.expansion-2.ensures ∙ ap expansion_word (same₂ at.In-Some-new)) i) s₂.received s₂.count a.size a.middle a.room)
    ∙ both_open a.first_words.now a.second_words.now s₁ s₂ a.size a.middle a.room (sound₁ at.In-Some) (sound₂ at.In-Some-new)
    (keeps₁ at.Else-not-is_sound_session) (keeps₂ at.Else-not-is_sound_session-2) (open₁ at.Else-ne) (opens a.second.status ∙ not-false _ (sym c.if-ne-2.ensures))

pub returns-in_err-admit_open : goal.returns-in_err-admit_open
returns-in_err-admit_open c =
    let p = err_from_is_err_and c.from_residual.result c.from_residual.ensures.1 in
    rw (p.1, p.2) (sym (decided (goal.at.returns-in_err-admit_open c).After-admit_open) ∙ ap outcome_of c.in_err-admit_open.was)

pub returns : goal.returns
returns c =
    (c.in-Some.ensures, c.in-Some-new.ensures, sym (decided (goal.at.returns c).After-admit_open) ∙ ap outcome_of c.in_ok-admit_open.was)
