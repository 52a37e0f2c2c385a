-- What holds of sessions as C holds them: numbers and sessions are the same, demand 1 for feed, finish and preview, and request [5].
use Rattle.std.specs.Prelude.{Bool, true, false, ◌&&◌, cond, List, [], ◌∷◌, ◌≢◌, ◌≡◌, ℕ, ◌+◌, ◌*◌, ◌≤◌, ◌<◌, T, eqb, leb, length, drop}
use Rattle.lists.specs.Lists.{any, pad}
use Rattle.automaton.specs.Sound.{expansion_word, sound}
use Rattle.reckoning.specs.Uses.{use_counts}
use Rattle.reckoning.specs.Session.{Session, fresh}
use Rattle.cobbletwill.specs.Sessions.{session_from, numbers_of, CalledFace, left, feed, finish, PreviewedFace, previewed, preview}
use Rattle.cobbletwill.specs.Caller.{caller}
use Rattle.cobbletwill.specs.declared.sessions.SessionNumbers.{SessionNumbers}

-- no rule was used, nor the default
abbrev pub unused : List ℕ
unused = pad use_counts []

abbrev pub zeros : SessionNumbers
zeros = record { received = 0; tally = record { produced = 0; steps = 0 }; status = 0; state = 0; held_count = 0; held = pad 8 [] }

pub record Faithful : Type 0 where
  -- "Fresh: open, all 0.", under whatever words
  pub zeros : (w : List ℕ) → (caller w).Is (zeros, unused) fresh
  -- nothing is lost on the way to numbers and back, nor on the way to a session and back
  pub sessions : (s : Session) → session_from (numbers_of s) s.uses ≡ s
  pub numbers : (n : SessionNumbers) (uses : List ℕ) → n.status ≤ 2 → numbers_of (session_from n uses) ≡ n

-- Demand 1 for a call that found the numbers n, the counts of uses, the buffer and the number written, and came to o: "an accepted answer or one of the numbered
-- refusals"; "every other refusal changes nothing. Words beyond those written stay as found."
pub record FaceAnswers (n : SessionNumbers) (uses buffer : List ℕ) (found : ℕ) (o : CalledFace) : Type 0 where
  pub numbered : T (any (eqb o.answer) (0 ∷ 64 ∷ 65 ∷ 11 ∷ 12 ∷ 13 ∷ 14 ∷ 15 ∷ []))
  pub unchanged : 11 ≤ o.answer → o.answer ≤ 15 → o ≡ left o.answer n uses buffer found
  pub beyond : drop o.written o.output ≡ drop o.written buffer
  pub whole : length o.output ≡ length buffer

unfoldable pub FeedsAnswer : Type 0
FeedsAnswer =
    (w : List ℕ) (n : SessionNumbers) (uses piece buffer : List ℕ) (found : ℕ) → FaceAnswers n uses buffer found (feed w n uses piece buffer found)

unfoldable pub FinishesAnswer : Type 0
FinishesAnswer = (w : List ℕ) (n : SessionNumbers) (uses buffer : List ℕ) (found : ℕ) → FaceAnswers n uses buffer found (finish w n uses buffer found)

-- "11 under 19,961 words or not sound" comes before "12 session not sound", also of numbers with a status above 2, which are no session's.
pub record NoSession (w : List ℕ) (answer : ℕ) : Type 0 where
  pub unsound : sound w ≡ false → answer ≡ 11
  pub sound : sound w ≡ true → answer ≡ 12

unfoldable pub OtherStatuses : Type 0
OtherStatuses =
    (w : List ℕ) (n : SessionNumbers) (uses piece buffer : List ℕ) (later : SessionNumbers) (later_uses : List ℕ) (found : ℕ) → 2 < n.status →
    NoSession w (feed w n uses piece buffer found).answer
    × NoSession w (finish w n uses buffer found).answer
    × NoSession w (preview w n uses piece later later_uses found).answer

-- After a finish no session waits for more: it answers closed or stopped, or a refusal.
unfoldable pub FinishesEnd : Type 0
FinishesEnd = (w : List ℕ) (n : SessionNumbers) (uses buffer : List ℕ) (found : ℕ) → (finish w n uses buffer found).answer ≢ 65

-- Demand 1 for a preview that found the later session and its counts of uses and the number written so, and came to o.
pub record PreviewAnswers (later : SessionNumbers) (uses : List ℕ) (found : ℕ) (o : PreviewedFace) : Type 0 where
  -- "refusal 15 can't occur"
  pub numbered : T (any (eqb o.answer) (64 ∷ 65 ∷ 11 ∷ 12 ∷ 13 ∷ 14 ∷ []))
  pub unchanged : 11 ≤ o.answer → o.answer ≤ 14 → o ≡ previewed o.answer later uses found

unfoldable pub PreviewsAnswer : Type 0
PreviewsAnswer =
    (w : List ℕ) (n : SessionNumbers) (uses piece : List ℕ) (later : SessionNumbers) (later_uses : List ℕ) (found : ℕ) →
    PreviewAnswers later later_uses found (preview w n uses piece later later_uses found)

abbrev pub is_refusal : ℕ → Bool
is_refusal answer = leb 11 answer && leb answer 15

-- Request [5], "It answers the output count, status and later session of a feed made on a copy with enough output": a preview answers and
-- leaves what such a feed answers and leaves in the session, its counts of uses and the number written; where that refuses, it refuses alike.
unfoldable pub PreviewsFeed : Type 0
PreviewsFeed =
    (w : List ℕ) (n : SessionNumbers) (uses piece buffer : List ℕ) (later : SessionNumbers) (later_uses : List ℕ) (found : ℕ) →
    expansion_word w * (n.held_count + length piece) ≤ length buffer →
    let o = feed w n uses piece buffer found in
    preview w n uses piece later later_uses found
    ≡ cond (is_refusal o.answer) (previewed o.answer later later_uses found) (previewed o.answer o.session o.uses o.written)
