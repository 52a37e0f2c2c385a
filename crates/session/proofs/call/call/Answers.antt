-- `call::call` meets its contract: a refusal changes nothing, and what was admitted goes on as `resume` ensures.
-- Assumes nothing.
use mathlib.Core.Path.{◌≡◌, sym, ap, subst, ◌∙◌}
use native.Mathlib.Nat.{le_refl}
use lib.ListN.{length}
use Rattle.meaning.specs.Refusal.{accepted}
use Rattle.automaton.specs.Automaton.{from_words}
use Rattle.reckoning.specs.Calls.{admits, call_by}
use Rattle.session.specs.Keeping.{together, session_of}
use Rattle.session.specs.bridge.Later.{went_on}
use Rattle.session.proofs.Laws.Resuming.{went_whole}
use Rattle.session.proofs.call.call.Goals as goal

pub resume-requires : goal.resume-requires
resume-requires c =
    let a = c.args in
    let s = session_of (together a.kept a.uses.now) in
    let n = length a.output.now in
    let e = ap (λ b. b.now) c.in_ok-machine.ensures.0 in
    (n, subst (λ w. admits w s (length a.piece.now) n ≡ accepted tt) (sym e) c.in_ok-machine.ensures.1, λ any. le_refl n)

pub returns-clause-comes : goal.returns-clause-comes
returns-clause-comes c =
    let a = c.args in
    let s = session_of (together a.kept a.uses.now) in
    let e = ap (λ b. b.now) c.in_ok-machine.ensures.0 in
    let admitted = c.in_ok-machine.ensures.1 in
    c.resume.ensures
    ∙ ap (λ w. went_on (from_words w) s a.piece.now a.ended a.output.now) e
    ∙ went_whole a.words.now s a.piece.now a.ended a.output.now admitted
    ∙ sym (ap (λ o. call_by o (from_words a.words.now) s a.piece.now a.ended a.output.now) admitted)
