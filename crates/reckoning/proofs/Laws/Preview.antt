-- A preview answers what any feed with enough output answers and leaves; a feed with less differs from it by refusal 15 alone.
-- 15 is the last test, and passes where output is enough: that is at most 8 times the limit in a call that passed the other tests.
use mathlib.Core.Bool.{Bool, true, false, not}
use mathlib.Core.List.{List, [], ◌∷◌, ◌++◌}
use mathlib.Core.Logic.{◌≢◌, ◌↔◌}
use mathlib.Core.Path.{◌≡◌, refl, sym, ap, ◌∙◌}
use Prim.Native.Nat.{ℕ, ◌+◌, ◌*◌, ◌≤◌}
use native.Mathlib.Nat.{mul-le-mul}
use native.Mathlib.Omega.{arith}
use lib.Dec.{T, ltb, ltb→lt, nltb→le}
use lib.ListN.{length}
use Rattle.lists.specs.Lists.{Each, pad}
use Rattle.lists.specs.Decide.{select}
use Rattle.lists.proofs.Laws.Tests.{not_not, by_cases}
use Rattle.lists.proofs.Laws.Parts.{length_pad}
use Rattle.meaning.specs.Refusal.{Outcome, refused, accepted, RefusedBy}
use Rattle.meaning.specs.Direct.{limit}
use Rattle.meaning.proofs.Laws.Refusal.{accepted_not, refused_same}
use Rattle.automaton.specs.Sound.{sound, expansion_word}
use Rattle.automaton.specs.Automaton.{from_words}
use Rattle.automaton.proofs.Laws.Words.{sound_header_lem}
use Rattle.reckoning.specs.Session.{Session, is_open, sound_session}
use Rattle.reckoning.specs.Calls.{CallOutcome, admits, call_by, feed}
use Rattle.reckoning.specs.Preview.{Seen, seen_by, enough, preview, LooksAhead}
use Rattle.reckoning.proofs.Laws.Kept.{sound_facts}
use Rattle.reckoning.proofs.Laws.Append.{fed}

-- a decision list with one more test at its end: the same, or what that test answers in place of the list's own last answer
last_test : {A : Type 0} (P : A → A → Type 0) (cs : List (Bool × A)) (b : Bool) (x a : A) → ((y : A) → P y y) →
    (Each (λ c. T (not c.0)) cs → T b → P x a) → P (select (cs ++ (b, x) ∷ []) a) (select cs a)
unfolding select
last_test P [] true x a d f = f tt tt
last_test P [] false x a d f = d a
last_test P ((true, y) ∷ cs) b x a d f = d y
last_test P ((false, y) ∷ cs) b x a d f = last_test P cs b x a d (λ h. f (tt, h))

-- The tests of a call over n characters, but for 15.
module _ (w : List ℕ) (s : Session) (n : ℕ) where
  abbrev most : ℕ
  most = expansion_word w * (s.count + n)

  abbrev tests : List (Bool × Outcome (Unit {0}))
  tests =
      (not (sound w), refused 11)
      ∷ (not (sound_session w s), refused 12)
      ∷ (not (is_open s.status), refused 13)
      ∷ (ltb limit (s.received + n), refused 14)
      ∷ []

  abbrev roomless : Outcome (Unit {0})
  roomless = select tests (accepted tt)

  -- with 15 the same, or 15 in place of acceptance where there is less room than that
  by_room : (P : Outcome (Unit {0}) → Outcome (Unit {0}) → Type 0) (room : ℕ) → ((o : Outcome (Unit {0})) → P o o) →
      (Each (λ c. T (not c.0)) tests → T (ltb room most) → P (refused 15) (accepted tt)) → P (admits w s n room) roomless
  unfolding admits
  by_room P room d f = last_test P tests (ltb room most) (refused 15) (accepted tt) d f

  -- the same where there is room, which only a call that passes the others needs
  enough_room : (room : ℕ) → (T (sound w) → T (sound_session w s) → s.received + n ≤ limit → most ≤ room) → admits w s n room ≡ roomless
  enough_room room h =
      by_room (λ o o'. o ≡ o') room (λ o. refl)
      (λ t l. absurd (omega (
        arith,
        ltb→lt room most l,
        h (not_not (sound w) t.0) (not_not (sound_session w s) t.1.0) (nltb→le limit (s.received + n) t.1.1.1.0),
      )))

-- What is seen of a feed, by what its tests came to.
module _ (w : List ℕ) (s : Session) (p : List ℕ) where
  abbrev outcome : Outcome (Unit {0}) → List ℕ → CallOutcome
  outcome o buffer = call_by o (from_words w) s p false buffer

  abbrev seen : Outcome (Unit {0}) → List ℕ → Outcome Seen
  seen o buffer = seen_by (outcome o buffer).answer (outcome o buffer).session

  -- the same whatever buffer is lent
  any_buffer : (o : Outcome (Unit {0})) (b b' : List ℕ) → seen o b ≡ seen o b'
  any_buffer (refused n) b b' = refl
  any_buffer (accepted x) b b' = refl

  -- a preview is what is seen where 15 is not asked
  preview_seen : (buffer : List ℕ) → preview w s p ≡ seen (roomless w s (length p)) buffer
  unfolding preview feed
  preview_seen buffer =
      let lent = pad (enough w s p) [] in
      ap (λ o. seen o lent) (enough_room w s (length p) (length lent) (λ _ _ _. omega (arith, length_pad (enough w s p) [])))
      ∙ any_buffer (roomless w s (length p)) lent buffer

  -- and so of any call with room
  preview_by : (buffer : List ℕ) (room : ℕ) → (T (sound w) → T (sound_session w s) → s.received + length p ≤ limit → enough w s p ≤ room) →
      preview w s p ≡ seen (admits w s (length p) room) buffer
  preview_by buffer room h = preview_seen buffer ∙ ap (λ o. seen o buffer) (sym (enough_room w s (length p) room h))

  -- with less room a feed is refused alike, but for 15
  refused_by_lem : (buffer : List ℕ) (n : ℕ) → n ≢ 15 →
      (seen (roomless w s (length p)) buffer ≡ refused n) ↔ ((outcome (admits w s (length p) (length buffer)) buffer).answer ≡ refused n)
  refused_by_lem buffer n h =
      by_room w s (length p) (λ o o'. (seen o' buffer ≡ refused n) ↔ ((outcome o buffer).answer ≡ refused n)) (length buffer) same
      (λ _ _. (λ e. absurd (accepted_not _ n e), λ e. absurd (h (sym (refused_same 15 n e)))))
    where
      same : (o : Outcome (Unit {0})) → (seen o buffer ≡ refused n) ↔ ((outcome o buffer).answer ≡ refused n)
      same (refused m) = (λ e. ap refused (refused_same m n e), λ e. ap refused (refused_same m n e))
      same (accepted x) = (λ e. absurd (accepted_not _ n e), λ e. absurd (accepted_not _ n e))

  -- 15 is not among its refusals
  numbered_by : RefusedBy (11 ∷ 12 ∷ 13 ∷ 14 ∷ []) (seen (roomless w s (length p)) [])
  numbered_by =
      by_cases (λ o. RefusedBy (11 ∷ 12 ∷ 13 ∷ 14 ∷ []) (seen o [])) (tests w s (length p)) (accepted tt)
      (λ _. tt, λ _. (λ _. tt, λ _. (λ _. tt, λ _. (λ _. tt, λ _. tt))))

-- REQUEST [5]
pub looks_ahead : LooksAhead
unfolding LooksAhead feed
looks_ahead w s p = record {
  feeds = λ buffer h. preview_by w s p buffer (length buffer) (λ _ _ _. h);
  accepts = λ buffer a e.
      preview_by w s p buffer (length buffer) (λ _ _ _. (fed w s p buffer a e).admitted.passed.2)
      ∙ ap (λ z. seen_by z (feed w s p buffer).session) e;
  refuses = λ buffer n h.
      let f = refused_by_lem w s p buffer n h in
      (λ e. f.0 (sym (preview_seen w s p buffer) ∙ e), λ e. preview_seen w s p buffer ∙ f.1 e);
  numbered = rw (preview_seen w s p []) (numbered_by w s p);
}

-- for the code: a call that is tested against 8 times the limit, or more, whatever its buffer
pub preview_call : (w : List ℕ) (s : Session) (p buffer : List ℕ) (room : ℕ) → 8 * limit ≤ room →
    preview w s p ≡ seen_by (call_by (admits w s (length p) room) (from_words w) s p false buffer).answer
    (call_by (admits w s (length p) room) (from_words w) s p false buffer).session
preview_call w s p buffer room h = preview_by w s p buffer room (λ W t l. omega (arith, mul-le-mul (sound_header_lem w W).expansion (few t l)))
  where
    few : T (sound_session w s) → s.received + length p ≤ limit → s.count + length p ≤ limit
    few t l = omega (arith, (sound_facts w s t).enough)
