-- Sessions as C holds them: numbers and sessions are the same, demand 1 for feed, finish and preview, that a finish never answers open, and request [5].
-- Field by field, the status by cases; of a call by cases on its answer, from what the claim about sessions says of it; of a finish by the trace of an ended input, of a preview by the machine's steps.
use mathlib.Core.Bool.{Bool, true, false, cond}
use mathlib.Core.List.{List, [], ◌∷◌, ◌++◌}
use mathlib.Core.Logic.{◌≢◌}
use mathlib.Core.Path.{◌≡◌, refl, sym, ap, subst, ◌∙◌}
use Prim.Native.Nat.{ℕ, zero, suc, ◌≤◌}
use native.Mathlib.Omega.{arith}
use lib.Dec.{T, eqb, ltb}
use lib.ListN.{length, drop}
use borrow.Author.Tests.{lt-ltb, ltb-false}
use Rattle.lists.specs.Lists.{any, pad}
use Rattle.lists.proofs.Laws.Tests.{or_right, one_of}
use Rattle.meaning.specs.Refusal.{Outcome, refused, accepted, RefusedBy}
use Rattle.automaton.specs.Sound.{sound}
use Rattle.automaton.specs.Automaton.{from_words}
use Rattle.reckoning.specs.Machine.{Status, Open, Closed, Stopped}
use Rattle.reckoning.specs.Session.{Session, fresh, store}
use Rattle.reckoning.specs.Calls as Call
use Rattle.reckoning.specs.Calls.{Answer, CallOutcome, admits, call_by, resumed}
use Rattle.reckoning.specs.Preview as Preview
use Rattle.reckoning.specs.Preview.{Seen, seen_by, enough, LooksAhead}
use Rattle.reckoning.specs.Reckoning.{of_feed, of_finish}
use Rattle.reckoning.specs.Claims.{CallAnswers, CallsAnswer}
use Rattle.reckoning.proofs.Laws.Rounds.{NotOpen, trace_ended}
use Rattle.reckoning.proofs.Laws.Run.{NotClosed, run_unended}
use Rattle.reckoning.proofs.Laws.Kept.{call_tells}
use Rattle.reckoning.proofs.Laws.Answers.{Admits, admission, calls_answer}
use Rattle.reckoning.proofs.Laws.Preview.{looks_ahead}
use Rattle.cobbletwill.specs.Sessions.{status_number, status_from, status_code, session_from, numbers_of, answer_code, written_after, left, face_of}
use Rattle.cobbletwill.specs.Sessions.{no_session, CalledFace, called_by, feed, finish, PreviewedFace, previewed, preview_face, preview}
use Rattle.cobbletwill.specs.Claims.{Faithful, FaceAnswers, FeedsAnswer, FinishesAnswer, NoSession, OtherStatuses}
use Rattle.cobbletwill.specs.Claims.{FinishesEnd, PreviewAnswers, PreviewsAnswer, is_refusal, PreviewsFeed}
use Rattle.cobbletwill.specs.declared.sessions.SessionNumbers.{SessionNumbers}

pub status_same : (s : Status) → status_from (status_number s) ≡ s
status_same Open = refl
status_same Closed = refl
status_same Stopped = refl

number_same : (n : ℕ) → n ≤ 2 → status_number (status_from n) ≡ n
number_same zero l = refl
number_same (suc zero) l = refl
number_same (suc (suc zero)) l = refl
number_same (suc (suc (suc n))) l = absurd (omega arith)

sessions_same : (s : Session) → session_from (numbers_of s) s.uses ≡ s
sessions_same s =
    λ i. record {
      status = status_same s.status i;
      state = s.state;
      held = s.held;
      count = s.count;
      received = s.received;
      produced = s.produced;
      steps = s.steps;
      uses = s.uses;
    }

pub numbers_same : (n : SessionNumbers) (uses : List ℕ) → n.status ≤ 2 → numbers_of (session_from n uses) ≡ n
numbers_same n uses l =
    λ i. record {
      received = n.received;
      tally = n.tally;
      status = number_same n.status l i;
      state = n.state;
      held_count = n.held_count;
      held = n.held;
    }

pub faithful : Faithful
unfolding fresh pad
faithful = record { zeros = λ w. (omega arith, refl); sessions = sessions_same; numbers = numbers_same }

-- every answer is of the list

abbrev Numbered : ℕ → Type 0
Numbered answer = T (any (eqb answer) (0 ∷ 64 ∷ 65 ∷ 11 ∷ 12 ∷ 13 ∷ 14 ∷ 15 ∷ []))

refusal_numbered : (n : ℕ) → T (any (eqb n) (11 ∷ 12 ∷ 13 ∷ 14 ∷ 15 ∷ [])) → Numbered n
refusal_numbered n h = or_right (eqb n 0) _ (or_right (eqb n 64) _ (or_right (eqb n 65) _ h))

status_numbered : (s : Status) → Numbered (status_code s)
status_numbered Open = tt
status_numbered Closed = tt
status_numbered Stopped = tt

-- numbers that are no session's are refused by 11 or 12
pub no_session_refused : (sound_words : Bool) (ks : List ℕ) → T (any (eqb (no_session sound_words)) (11 ∷ 12 ∷ ks))
no_session_refused true ks = tt
no_session_refused false ks = tt

-- an accepted call's answer is no refusal's
not_refused : (s : Status) → 11 ≤ status_code s → status_code s ≤ 15 → ⊥
not_refused Open low high = omega arith
not_refused Closed low high = omega arith
not_refused Stopped low high = omega arith

-- what is found beyond the characters written, of an outcome with this answer
beyond_written : (buffer : List ℕ) (found : ℕ) (o : CallOutcome) (s : Session) → CallAnswers s buffer o → (a : Outcome Answer) → o.answer ≡ a →
    drop (written_after a found) o.output ≡ drop (written_after a found) buffer
beyond_written buffer found o s h (refused k) e = ap (drop found) (h.unchanged k e).1
beyond_written buffer found o s h (accepted a) e = h.beyond a e

module _ (w : List ℕ) (n : SessionNumbers) (uses buffer : List ℕ) (found : ℕ) where
  abbrev session : Session
  session = session_from n uses

  handed : (o : CallOutcome) → n.status ≤ 2 → CallAnswers session buffer o → (a : Outcome Answer) → o.answer ≡ a → FaceAnswers n uses buffer found (face_of o found)
  handed o small h (refused k) e =
      let same = h.unchanged k e in
      record {
        numbered = rw e (refusal_numbered k (rw e at h.numbered));
        unchanged =
            λ low high i.
            left (answer_code o.answer) ((ap numbers_of same.0 ∙ numbers_same n uses small) i) (same.0 i).uses (same.1 i) (written_after (e i) found);
        beyond = beyond_written buffer found o session h o.answer refl;
        whole = h.whole;
      }
  handed o small h (accepted a) e =
      record {
        numbered = rw e (status_numbered a.status);
        unchanged = λ low high. absurd (not_refused a.status (rw e at low) (rw e at high));
        beyond = beyond_written buffer found o session h o.answer refl;
        whole = h.whole;
      }

  face_answers : (call : Session → CallOutcome) → ((s : Session) → CallAnswers s buffer (call s)) → (above : Bool) → ltb 2 n.status ≡ above
      → FaceAnswers n uses buffer found (called_by call w n uses buffer found)
  face_answers call h true e =
      let k = no_session_refused (sound w) (13 ∷ 14 ∷ 15 ∷ []) in
      rw e (record { numbered = refusal_numbered (no_session (sound w)) k; unchanged = λ low high. refl; beyond = refl; whole = refl })
  face_answers call h false e = rw e (handed (call session) (ltb-false 2 n.status e) (h session) _ refl)

-- DEMAND 1, for feed and finish through the C face

pub feeds_answer : FeedsAnswer
unfolding FeedsAnswer CallsAnswer feed
feeds_answer w n uses piece buffer found = face_answers w n uses buffer found (λ s. Call.feed w s piece buffer) (λ s. calls_answer w s (of_feed piece buffer)) _ refl

pub finishes_answer : FinishesAnswer
unfolding FinishesAnswer CallsAnswer finish
finishes_answer w n uses buffer found = face_answers w n uses buffer found (λ s. Call.finish w s buffer) (λ s. calls_answer w s (of_finish buffer)) _ refl

-- NUMBERS THAT ARE NO SESSION'S: 11 before 12

no_session_lem : (w : List ℕ) → NoSession w (no_session (sound w))
no_session_lem w = record { unsound = λ e. rw e refl; sound = λ e. rw e refl }

pub other_statuses : OtherStatuses
unfolding OtherStatuses feed finish preview
other_statuses w n uses piece buffer later later_uses found above = rw (lt-ltb 2 n.status above) (no_session_lem w, no_session_lem w, no_session_lem w)

-- A FINISH NEVER ANSWERS OPEN

ended_code : (s : Status) → NotOpen s → status_code s ≢ 65
ended_code Open k e = k
ended_code Closed k e = omega arith
ended_code Stopped k e = omega arith

low_number : (k : ℕ) → T (any (eqb k) (11 ∷ 12 ∷ 13 ∷ 14 ∷ 15 ∷ [])) → k ≢ 65
low_number k h e = subst (λ n. T (any (eqb n) (11 ∷ 12 ∷ 13 ∷ 14 ∷ 15 ∷ []))) e h

-- the run of an admitted finish is the trace of an ended input, which does not wait
finish_ends : (w : List ℕ) (s : Session) (buffer : List ℕ) (o : Outcome (Unit {0})) → Admits w s 0 (length buffer) o →
    answer_code (call_by o (from_words w) s [] true buffer).answer ≢ 65
finish_ends w s buffer (refused k) h = low_number k h
finish_ends w s buffer (accepted u) h =
    let tells = call_tells w h.sound_words s [] true h.sound_session_lem h.passed.0 in
    ended_code (resumed (from_words w) s [] true).status (subst NotOpen (sym tells.status) (trace_ended (from_words w) 0 (store s ++ [])))

face_ends : (w : List ℕ) (n : SessionNumbers) (uses buffer : List ℕ) (found : ℕ) (above : Bool) → ltb 2 n.status ≡ above →
    (called_by (λ s. Call.finish w s buffer) w n uses buffer found).answer ≢ 65
unfolding Call.finish
face_ends w n uses buffer found true e = rw e (low_number (no_session (sound w)) (no_session_refused (sound w) (13 ∷ 14 ∷ 15 ∷ [])))
face_ends w n uses buffer found false e =
    let s = session_from n uses in rw e (finish_ends w s buffer (admits w s 0 (length buffer)) (admission w s 0 (length buffer)))

pub finishes_end : FinishesEnd
unfolding FinishesEnd finish
finishes_end w n uses buffer found = face_ends w n uses buffer found _ refl

-- A PREVIEW NEVER ANSWERS CLOSED, as no run before the input's end does

abbrev SeenOn : Outcome Seen → Type 0
SeenOn (refused k) = Unit {0}
SeenOn (accepted s) = NotClosed s.status

preview_leads : (w : List ℕ) (s : Session) (p : List ℕ) → SeenOn (Preview.preview w s p)
unfolding Preview.preview Call.feed
preview_leads w s p = let lent = pad (enough w s p) [] in by (admits w s (length p) (length lent)) lent
  where
    by : (o : Outcome (Unit {0})) (lent : List ℕ) →
        let called = call_by o (from_words w) s p false lent in SeenOn (seen_by called.answer called.session)
    by (refused k) lent = tt
    by (accepted u) lent = run_unended (from_words w) _

-- DEMAND 1, for previews through the C face

seen_numbered : (s : Status) → NotClosed s → T (any (eqb (status_code s)) (64 ∷ 65 ∷ 11 ∷ 12 ∷ 13 ∷ 14 ∷ []))
seen_numbered Open k = tt
seen_numbered Closed k = absurd k
seen_numbered Stopped k = tt

seen_answers : (later : SessionNumbers) (uses : List ℕ) (found : ℕ) (o : Outcome Seen) → RefusedBy (11 ∷ 12 ∷ 13 ∷ 14 ∷ []) o → SeenOn o →
    PreviewAnswers later uses found (preview_face o later uses found)
seen_answers later uses found (refused k) h on = record { numbered = or_right (eqb k 64) _ (or_right (eqb k 65) _ h); unchanged = λ low high. refl }
seen_answers later uses found (accepted s) h on =
    record { numbered = seen_numbered s.status on; unchanged = λ low high. absurd (not_refused s.status low (omega arith)) }

pub previews_answer : PreviewsAnswer
unfolding PreviewsAnswer LooksAhead preview
previews_answer w n uses piece later later_uses found = by (ltb 2 n.status)
  where
    by : (above : Bool) → PreviewAnswers later later_uses found
        (cond above (previewed (no_session (sound w)) later later_uses found) (preview_face (Preview.preview w (session_from n uses) piece) later later_uses found))
    by true = seen_answers later later_uses found (refused (no_session (sound w))) (no_session_refused (sound w) (13 ∷ 14 ∷ [])) tt
    by false =
        let s = session_from n uses in
        seen_answers later later_uses found (Preview.preview w s piece) (looks_ahead w s piece).numbered (preview_leads w s piece)

-- REQUEST [5], through the C face

refusal_told : (k : ℕ) → T (any (eqb k) (11 ∷ 12 ∷ 13 ∷ 14 ∷ 15 ∷ [])) → is_refusal k ≡ true
refusal_told = one_of (λ k. is_refusal k ≡ true) (11 ∷ 12 ∷ 13 ∷ 14 ∷ 15 ∷ []) (refl, (refl, (refl, (refl, (refl, tt)))))

status_told : (s : Status) → is_refusal (status_code s) ≡ false
status_told Open = refl
status_told Closed = refl
status_told Stopped = refl

module _ (later : SessionNumbers) (uses : List ℕ) (found : ℕ) where
  -- what the claim says of a preview, where a feed came to this
  abbrev of_face : CalledFace → PreviewedFace
  of_face o = cond (is_refusal o.answer) (previewed o.answer later uses found) (previewed o.answer o.session o.uses o.written)

  face_seen : (s : Session) (output : List ℕ) (o : Outcome Answer) → RefusedBy (11 ∷ 12 ∷ 13 ∷ 14 ∷ 15 ∷ []) o →
      preview_face (seen_by o s) later uses found ≡ of_face (face_of (record { answer = o; session = s; output = output }) found)
  face_seen s output (refused k) h = rw (refusal_told k h) refl
  face_seen s output (accepted a) h = rw (status_told a.status) refl

pub previews_feed : PreviewsFeed
unfolding PreviewsFeed LooksAhead CallsAnswer preview feed
previews_feed w n uses piece buffer later later_uses found enough = by (ltb 2 n.status)
  where
    by : (above : Bool) →
        cond above (previewed (no_session (sound w)) later later_uses found) (preview_face (Preview.preview w (session_from n uses) piece) later later_uses found)
        ≡ of_face later later_uses found
        (cond above (left (no_session (sound w)) n uses buffer found) (face_of (Call.feed w (session_from n uses) piece buffer) found))
    by true = rw (refusal_told (no_session (sound w)) (no_session_refused (sound w) (13 ∷ 14 ∷ 15 ∷ []))) refl
    by false =
        let s = session_from n uses in
        let o = Call.feed w s piece buffer in
        ap (λ p. preview_face p later later_uses found) ((looks_ahead w s piece).feeds buffer enough)
        ∙ face_seen later later_uses found o.session o.output o.answer (calls_answer w s (of_feed piece buffer)).numbered
