-- `call::preview_kept` meets its contract: its tests are a feed's with room for whatever it may write, and what was admitted goes on as `resume`
-- ensures, over a copy of the counts of uses and with an output without places.
use mathlib.Core.Bool.{false}
use mathlib.Core.List.{[]}
use lib.ListN.{length}
use Prim.Native.Nat.{ℕ}
use mathlib.Core.Path.{◌≡◌, sym, ap, subst, ◌∙◌}
use native.Mathlib.Omega.{arith}
use Rattle.meaning.specs.Refusal.{accepted}
use Rattle.reckoning.specs.Calls.{CallOutcome, admits}
use Rattle.reckoning.specs.Preview.{seen_by}
use Rattle.std.proofs.lemmas.Result.{err_from_is_err_and}
use Rattle.session.specs.Keeping.{together, session_of}
use Rattle.automaton.specs.Automaton.{from_words}
use Rattle.session.specs.bridge.Later.{went_on}
use Rattle.session.proofs.Laws.Resuming.{seen_call}
use Rattle.session.proofs.call.preview_kept.Goals as goal

pub resume-requires : goal.resume-requires
resume-requires c =
    let a = c.args in
    let most : ℕ = 8796093022208 in
    let e = ap (λ b. b.now) c.in_ok-machine.ensures.0 in
    let here = subst (λ w. admits w (session_of (together a.kept a.uses.now)) (length a.piece.now) most ≡ accepted tt) (sym e) c.in_ok-machine.ensures.1 in
    let m = c.in_ok-machine.machine in
    (most, subst (λ uses. admits m.words.all.now (session_of (together a.kept uses)) (length a.piece.now) most ≡ accepted tt) (sym c.copy_uses.ensures) here, λ any. absurd (omega arith))

pub returns-in_err-machine-clause-previews : goal.returns-in_err-machine-clause-previews
returns-in_err-machine-clause-previews c =
    let a = c.args in
    let s = session_of (together a.kept a.uses.now) in
    let p = err_from_is_err_and c.from_residual.result c.from_residual.ensures.1 in
    rw (p.1, p.2) (seen_call a.words.now s a.piece.now 8796093022208 (omega arith) _ c.in_err-machine.ensures)

pub returns-clause-previews : goal.returns-clause-previews
returns-clause-previews c =
    let a = c.args in
    let s = session_of (together a.kept a.uses.now) in
    let e = ap (λ b. b.now) c.in_ok-machine.ensures.0 in
    ap (λ (x : CallOutcome). seen_by x.answer x.session) (
    c.resume.ensures
    ∙ ap (λ uses. went_on (from_words c.in_ok-machine.machine.words.all.now) (session_of (together a.kept uses)) a.piece.now false []) c.copy_uses.ensures
    ∙ ap (λ w. went_on (from_words w) s a.piece.now false []) e
    )
    ∙ seen_call a.words.now s a.piece.now 8796093022208 (omega arith) (accepted tt) c.in_ok-machine.ensures.1
