-- Request [5] of the code: a feed with enough output answers what the preview answered, and leaves the session that it answered.
-- Each contract is an equation with what is seen of its outcome, and those are the same; where both are refused, each session is the one found.
use mathlib.Core.Path.{◌≡◌, refl, sym, ap, ◌∙◌}
use Prim.Native.Nat.{ℕ}
use Rattle.meaning.specs.Refusal.{Outcome, refused, accepted}
use Rattle.meaning.proofs.Laws.Refusal.{accepted_not, accepted_same, refused_same}
use Rattle.reckoning.specs.Session as Spec
use Rattle.reckoning.specs.Calls as Call
use Rattle.reckoning.specs.Calls.{CallOutcome}
use Rattle.reckoning.specs.Reckoning.{of_feed}
use Rattle.reckoning.specs.Claims.{CallsAnswer}
use Rattle.reckoning.specs.Preview.{Seen, seen_by, LooksAhead}
use Rattle.reckoning.proofs.Laws.Answers.{calls_answer}
use Rattle.reckoning.proofs.Laws.Preview.{looks_ahead}
use Rattle.session.specs.Keeping.{session_of}
use Rattle.session.specs.Promised.{answer_of, written_of, left_of}
use Rattle.session.specs.Preview.{PreviewTells}
use Rattle.session.specs.declared.kept.Session.{Session}
use Rattle.session.specs.declared.call.Went.{Went}
use Rattle.rules.specs.declared.refusal.Refusal.{Refusal}
use Rattle.std.specs.Prelude.{Result, Ok, Err}

-- what is seen fixes the answer, and the session too where a refusal leaves the one found
same_seen : (o o' : Outcome Call.Answer) (s s' found : Spec.Session) → seen_by o s ≡ seen_by o' s' →
    ((n : ℕ) → o ≡ refused n → s ≡ found) → ((n : ℕ) → o' ≡ refused n → s' ≡ found) → (o ≡ o') × (s ≡ s')
same_seen (refused m) (refused n) s s' found e h h' = (ap refused (refused_same m n e), h m refl ∙ sym (h' n refl))
same_seen (refused m) (accepted a) s s' found e h h' = absurd (accepted_not _ m (sym e))
same_seen (accepted a) (refused n) s s' found e h h' = absurd (accepted_not _ n e)
same_seen (accepted a) (accepted b) s s' found e h h' =
    let same = accepted_same _ _ e in
    (ap (λ (x : Seen). accepted (record { count = x.count; status = x.status })) same, ap (λ (x : Seen). x.session) same)

-- a call that is refused leaves what it found
left_found : (r : Result (Went Session) Refusal) (found : Session) (n : ℕ) → answer_of (written_of r) ≡ refused n → left_of found r ≡ found
left_found (Ok x) found n e = absurd (accepted_not _ n e)
left_found (Err k) found n e = refl

-- REQUEST [5], of the code
pub preview_tells : PreviewTells
unfolding PreviewTells LooksAhead CallsAnswer
preview_tells w s piece seen p buffer a later output f enough =
    same_seen (answer_of (written_of seen)) (answer_of a) (session_of (left_of s seen)) (session_of later) (session_of s)
    (p ∙ (looks_ahead w (session_of s) piece).feeds buffer enough ∙ ap (λ (o : CallOutcome). seen_by o.answer o.session) (sym f))
    (λ n e. ap session_of (left_found seen s n e))
    (λ n e.
    ap (λ (o : CallOutcome). o.session) f
    ∙ ((calls_answer w (session_of s) (of_feed piece buffer)).unchanged n (sym (ap (λ (o : CallOutcome). o.answer) f) ∙ e)).0)
