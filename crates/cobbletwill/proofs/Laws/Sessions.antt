-- What the calls over numbers come to, as defined: a refusal of numbers that are no session's, or what the session's call comes to.
-- By the test of the status, and then by cases on the call's answer.
use mathlib.Core.List.{List}
use mathlib.Core.Path.{◌≡◌, refl, sym, ap, ◌∙◌}
use Prim.Native.Nat.{ℕ, ◌≤◌, ◌<◌}
use borrow.Author.Tests.{lt-ltb, le-ltb}
use Rattle.std.specs.Prelude.{Result, Ok, Err, OnErr}
use Rattle.automaton.specs.Sound.{sound}
use Rattle.reckoning.specs.Session.{Session}
use Rattle.reckoning.specs.Calls.{CallOutcome}
use Rattle.reckoning.specs.Preview as Preview
use Rattle.reckoning.specs.Preview.{seen_by}
use Rattle.rules.specs.Answers.{number_of}
use Rattle.rules.specs.declared.refusal.Refusal.{Refusal}
use Rattle.session.specs.Keeping.{together, session_of}
use Rattle.session.specs.Promised.{answer_of, outcome_of, written_of, left_of, Previews}
use Rattle.session.specs.declared.kept.Kept.{Kept}
use Rattle.session.specs.declared.call.Went.{Went}
use Rattle.cobbletwill.specs.Sessions.{numbers_of, answer_code, written_after, left, face_of, no_session, called_by}
use Rattle.cobbletwill.specs.Sessions.{previewed, preview_face, preview}
use Rattle.cobbletwill.specs.bridge.Lent.{Keeps, session_after}
use Rattle.cobbletwill.specs.declared.sessions.SessionNumbers.{SessionNumbers}
use Rattle.cobbletwill.proofs.Laws.Claims.{numbers_same}

-- numbers with a status above 2 are refused, and nothing is changed
pub refused_numbers : (call : Session → CallOutcome) (w : List ℕ) (n : SessionNumbers) (uses buffer : List ℕ) (found answer : ℕ)
    → 2 < n.status → answer ≡ no_session (sound w) → left answer n uses buffer found ≡ called_by call w n uses buffer found
refused_numbers call w n uses buffer found answer above e = rw (lt-ltb 2 n.status above) (ap (λ a. left a n uses buffer found) e)

module _ (n : SessionNumbers) (kept : Kept) (small : n.status ≤ 2) (meant : Keeps n kept) where
  -- what C gets of a call is the face of its outcome
  face : (r : Result (Went Kept) Refusal) (later output : List ℕ) (found : ℕ) →
      left (answer_code (answer_of (written_of r))) (session_after r n) later output (written_after (answer_of (written_of r)) found)
      ≡ face_of (outcome_of (written_of r) (together (left_of kept r) later) output) found
  face (Ok went) later output found = refl
  face (Err q) later output found = ap (λ m. left (number_of q) m later output found) (sym (ap numbers_of (meant later) ∙ numbers_same n later small))

  -- of other numbers, what a call of their session came to is handed over
  pub handed_over : (r : Result (Went Kept) Refusal) (call : Session → CallOutcome) (w uses buffer : List ℕ) (found answer count : ℕ) (session : SessionNumbers)
      (later output : List ℕ) → outcome_of (written_of r) (together (left_of kept r) later) output ≡ call (session_of (together kept uses)) →
      answer ≡ answer_code (answer_of (written_of r)) → session ≡ session_after r n → count ≡ written_after (answer_of (written_of r)) found →
      left answer session later output count ≡ called_by call w n uses buffer found
  handed_over r call w uses buffer found answer count session later output came answered kept counted =
      rw (le-ltb 2 n.status small)
      ((λ i. left (answered i) (kept i) later output (counted i)) ∙ face r later output found
      ∙ ap (λ o. face_of o found) (came ∙ ap call (meant uses)))

-- PREVIEWS

-- numbers with a status above 2 are refused, and nothing is changed
pub refused_preview : (w : List ℕ) (n : SessionNumbers) (uses piece : List ℕ) (later : SessionNumbers) (later_uses : List ℕ) (found answer : ℕ) → 2 < n.status →
    answer ≡ no_session (sound w) → previewed answer later later_uses found ≡ preview w n uses piece later later_uses found
unfolding preview
refused_preview w n uses piece later later_uses found answer above e =
    rw (lt-ltb 2 n.status above) (ap (λ a. previewed a later later_uses found) e)

-- what C gets of a preview, which leaves the counts of uses as found where it is refused
seen_over : (kept : Kept) (r : Result (Went Kept) Refusal) (later : SessionNumbers) (later_uses uses_left : List ℕ) (found : ℕ) →
    OnErr r (uses_left ≡ later_uses) →
    previewed (answer_code (answer_of (written_of r))) (session_after r later) uses_left (written_after (answer_of (written_of r)) found)
    ≡ preview_face (seen_by (answer_of (written_of r)) (session_of (together (left_of kept r) uses_left))) later later_uses found
seen_over kept (Ok went) later later_uses uses_left found same = refl
seen_over kept (Err q) later later_uses uses_left found same = ap (λ u. previewed (number_of q) later u found) same

-- of other numbers, what a preview of their session came to is handed over
pub foreseen : (w : List ℕ) (n : SessionNumbers) (kept : Kept) (uses piece : List ℕ) (later : SessionNumbers) (later_uses : List ℕ) (found : ℕ)
    (r : Result (Went Kept) Refusal) (answer : ℕ) (session : SessionNumbers) (uses_left : List ℕ) (count : ℕ) → n.status ≤ 2 → Keeps n kept →
    OnErr r (uses_left ≡ later_uses) → Previews w (together kept uses) piece (written_of r) (together (left_of kept r) uses_left) →
    answer ≡ answer_code (answer_of (written_of r)) → session ≡ session_after r later → count ≡ written_after (answer_of (written_of r)) found →
    previewed answer session uses_left count ≡ preview w n uses piece later later_uses found
unfolding preview
foreseen w n kept uses piece later later_uses found r answer session uses_left count small meant same seen answered left counted =
    rw (le-ltb 2 n.status small)
    ((λ i. previewed (answered i) (left i) uses_left (counted i))
    ∙ seen_over kept r later later_uses uses_left found same
    ∙ ap (λ o. preview_face o later later_uses found) (seen ∙ ap (λ s. Preview.preview w s piece) (meant uses)))
