-- Demand 3 and request [2] of the C face: answers and sessions come back whole from their numbers, so a contract tells its call's outcome.
use mathlib.Core.List.{List, [], ◌∷◌}
use mathlib.Core.Path.{◌≡◌, refl, ap, ◌∙◌}
use Prim.Native.Nat.{ℕ, ◌≤◌}
use native.Mathlib.Omega.{arith}
use lib.Dec.{T, eqb}
use borrow.Author.Tests.{le-ltb}
use Rattle.lists.specs.Lists.{any}
use Rattle.lists.specs.Decide.{select}
use Rattle.lists.proofs.Laws.Tests.{one_of}
use Rattle.meaning.specs.Refusal.{Outcome, refused, accepted, RefusedBy}
use Rattle.reckoning.specs.Machine.{Status, Open, Closed, Stopped}
use Rattle.reckoning.specs.Session.{Session}
use Rattle.reckoning.specs.Calls.{Answer}
use Rattle.reckoning.specs.Reckoning.{Call, of_feed, of_finish, called}
use Rattle.reckoning.specs.Claims.{CallsAnswer}
use Rattle.reckoning.specs.Serves.{Serves}
use Rattle.reckoning.proofs.Laws.Answers.{calls_answer}
use Rattle.reckoning.proofs.Laws.Serves.{TellsCalls, serves}
use Rattle.cobbletwill.specs.Sessions.{status_number, status_code, session_from, answer_code, written_after, face_of, feed, finish}
use Rattle.cobbletwill.specs.Caller.{Made, MeetsContract, answer_from, outcome_from, caller}
use Rattle.cobbletwill.specs.declared.sessions.SessionNumbers.{SessionNumbers}
use Rattle.cobbletwill.proofs.Laws.Claims.{faithful}

-- a refusal's number is no status's
refusal_back : (k found : ℕ) → T (any (eqb k) (11 ∷ 12 ∷ 13 ∷ 14 ∷ 15 ∷ [])) → answer_from k found ≡ refused k
unfolding answer_from select
refusal_back k found h =
    one_of (λ k. answer_from k found ≡ refused k) (11 ∷ 12 ∷ 13 ∷ 14 ∷ 15 ∷ []) (refl, (refl, (refl, (refl, (refl, tt))))) k h

status_back : (count : ℕ) (s : Status) → answer_from (status_code s) count ≡ accepted (record { count = count; status = s })
unfolding answer_from select
status_back count Open = refl
status_back count Closed = refl
status_back count Stopped = refl

-- an answer comes back from its number and the number written
answer_back : (o : Outcome Answer) (found : ℕ) → RefusedBy (11 ∷ 12 ∷ 13 ∷ 14 ∷ 15 ∷ []) o → answer_from (answer_code o) (written_after o found) ≡ o
answer_back (refused k) found h = refusal_back k found h
answer_back (accepted a) found h = status_back a.count a.status

-- and a call's outcome from its face
outcome_back : (w : List ℕ) (s : Session) (c : Call) (found : ℕ) → outcome_from (face_of (called w s c) found) ≡ called w s c
unfolding CallsAnswer
outcome_back w s c found =
    let o = called w s c in
    let answer = answer_back o.answer found (calls_answer w s c).numbered in
    λ i. record { answer = answer i; session = faithful.sessions o.session i; output = o.output }

pub status_small : (s : Status) → status_number s ≤ 2
status_small Open = omega arith
status_small Closed = omega arith
status_small Stopped = omega arith

-- one call of numbers that are a session's: what came back is the face of its outcome
kept_face : (w : List ℕ) (n : SessionNumbers) (uses : List ℕ) (c : Call) (m : Made) → n.status ≤ 2 → MeetsContract w n uses c m →
    m.back ≡ face_of (called w (session_from n uses) c) m.found
unfolding feed finish
kept_face w n uses (of_feed p buffer) m small k = rw (le-ltb 2 n.status small) at k
kept_face w n uses (of_finish buffer) m small k = rw (le-ltb 2 n.status small) at k

-- a call leaves the numbers of a session
later_small : (w : List ℕ) (n : SessionNumbers) (uses : List ℕ) (m : Made) → n.status ≤ 2 → MeetsContract w n uses m.call m →
    m.back.session.status ≤ 2
later_small w n uses m small k =
    rw (kept_face w n uses m.call m small k) (status_small (called w (session_from n uses) m.call).session.status)

tells : TellsCalls caller
tells w = record {
  came = λ held s m is met.
      ap outcome_from (kept_face w held.0 held.1 m.call m is.0 met)
      ∙ outcome_back w (session_from held.0 held.1) m.call m.found
      ∙ ap (λ x. called w x m.call) is.1;
  leaves = λ held s m is met. (later_small w held.0 held.1 m is.0 met, refl);
}

-- DEMAND 3 and REQUEST [2]
pub face_serves : Serves caller
face_serves = serves caller tells
