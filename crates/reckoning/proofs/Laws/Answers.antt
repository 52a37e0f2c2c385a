-- Demand 1 for feed and finish, of any words and session: refusals, what stays as found, and kept soundness, of which request [2]'s sum is a part.
-- The tests of an accepted call give sound words and a sound open session, whose run writes at most E for each character that it covers.
use mathlib.Core.Bool.{Bool, not}
use mathlib.Core.List.{List, [], ◌∷◌, ◌++◌}
use mathlib.Core.Path.{◌≡◌, refl, sym, ap, ◌∙◌}
use Prim.Native.Nat.{ℕ, ◌+◌, ◌*◌, ◌≤◌}
use native.Mathlib.Nat.{mul-le-mul_left}
use native.Mathlib.Omega.{arith}
use lib.Dec.{T, not_T, ltb, nltb→le}
use lib.ListN.{length, drop, length-append, length-take}
use Rattle.lists.proofs.Laws.Tests.{of_T, not_not, Cases, by_cases, select_here, select_next}
use Rattle.lists.proofs.Laws.Parts.{length_pad}
use Rattle.meaning.specs.Refusal.{Outcome, refused, accepted, RefusedBy}
use Rattle.meaning.specs.Meaning.{text_of, covered}
use Rattle.meaning.specs.Direct.{limit}
use Rattle.meaning.proofs.Laws.Refusal.{accepted_not, accepted_same, Says}
use Rattle.meaning.proofs.Laws.Direct.{over_whole, over_beyond}
use Rattle.automaton.specs.Sound.{sound, longest_word, expansion_word, state_count}
use Rattle.automaton.specs.Automaton.{from_words}
use Rattle.automaton.proofs.Laws.Words.{sound_good, sound_short}
use Rattle.reckoning.specs.Machine.{Status, Open, Closed, Stopped}
use Rattle.reckoning.specs.Session.{Session, store, is_open, sound_session}
use Rattle.reckoning.specs.Calls.{Answer, CallOutcome, admits, resumed, call_by, feed, finish}
use Rattle.reckoning.specs.Reckoning.{Call, of_feed, of_finish, piece, buffer_of, room, ends, Served, called, serve_call, serve}
use Rattle.reckoning.specs.Claims.{CallAnswers, CallsAnswer, CallsKeep, SoundAddsUp, RefusesOthers}
use Rattle.reckoning.proofs.Laws.Trace.{trace, log_of, status_of}
use Rattle.reckoning.proofs.Laws.Rounds.{bounded, counted_most}
use Rattle.reckoning.proofs.Laws.Kept.{trace_few, sound_facts, call_tells, kept_sound}

pub called_by_lem : (w : List ℕ) (s : Session) (c : Call) →
    called w s c ≡ call_by (admits w s (length (piece c)) (room c)) (from_words w) s (piece c) (ends c) (buffer_of c)
unfolding feed finish
called_by_lem w s (of_feed p buffer) = refl
called_by_lem w s (of_finish buffer) = refl

-- what 13 to 15 let pass: an open session, so many characters received in all, and so much output at most
abbrev pub Passed : Status → ℕ → ℕ → ℕ → Type 0
Passed s total most room = (s ≡ Open) × (total ≤ limit) × (most ≤ room)

pub is_open_lem : (s : Status) → T (is_open s) → s ≡ Open
is_open_lem Open t = refl
is_open_lem Closed t = absurd t
is_open_lem Stopped t = absurd t

pub pass_cases : (P : Outcome (Unit {0}) → Type 0) (s : Status) (total most room : ℕ) →
    P (refused 13) → P (refused 14) → P (refused 15) → (Passed s total most room → P (accepted tt)) →
    Cases P ((not (is_open s), refused 13) ∷ (ltb limit total, refused 14) ∷ (ltb room most, refused 15) ∷ []) (accepted tt)
pass_cases P s total most room a b c f = (
  λ _. a,
  λ x. (λ _. b, λ y. (λ _. c, λ z. f (is_open_lem s (not_not (is_open s) x), nltb→le limit total y, nltb→le room most z))),
)

pub record Admitted (w : List ℕ) (s : Session) (n room : ℕ) : Type 0 where
  pub sound_words : T (sound w)
  pub sound_session_lem : T (sound_session w s)
  pub passed : Passed s.status (s.received + n) (expansion_word w * (s.count + n)) room

abbrev refusals : List ℕ
refusals = 11 ∷ 12 ∷ 13 ∷ 14 ∷ 15 ∷ []

-- what the five tests' answer says
abbrev pub Admits : List ℕ → Session → ℕ → ℕ → Outcome (Unit {0}) → Type 0
Admits w s n room o = Says refusals (λ _. Admitted w s n room) o

pub admission : (w : List ℕ) (s : Session) (n room : ℕ) → Admits w s n room (admits w s n room)
unfolding admits
admission w s n room =
    by_cases (Admits w s n room) _ (accepted tt) (
      λ _. tt,
      λ x. (
        λ _. tt,
        λ y. pass_cases (Admits w s n room) s.status (s.received + n) (expansion_word w * (s.count + n)) room tt tt tt
            (λ p. record { sound_words = not_not (sound w) x; sound_session_lem = not_not (sound_session w s) y; passed = p }),
      ),
    )

-- a run writes at most E for each character held and read
pub text_most : (w : List ℕ) (s : Session) (p : List ℕ) (e : Bool) → T (sound w) → T (sound_session w s) → s.status ≡ Open →
    length (text_of (from_words w).write (resumed (from_words w) s p e).final.log) ≤ expansion_word w * (s.count + length p)
text_most w s p e W kept o =
    let A = from_words w in
    let E = expansion_word w in
    let G = sound_good w W in
    let u = store s ++ p in
    let t = trace A e 0 u in
    let tells = call_tells w W s p e kept o in
    let few : length (text_of A.write (log_of t)) ≤ E * covered (log_of t) = trace_few A (longest_word w) E (state_count w) G (sound_short w W) e 0 u in
    let all : covered (log_of t) ≤ length u = counted_most (status_of t) _ _ _ (bounded A (longest_word w) (state_count w) G e u).counted in
    let held : covered (log_of t) ≤ s.count + length p = omega (arith, length-append (store s) p, length-take s.count s.held) in
    let most = mul-le-mul_left E held in
    rw tells.log (omega arith)

module _ (w : List ℕ) (s : Session) (c : Call) where
  abbrev outcome : Outcome (Unit {0}) → CallOutcome
  outcome o = call_by o (from_words w) s (piece c) (ends c) (buffer_of c)

  abbrev Tested : Outcome (Unit {0}) → Type 0
  Tested o = Admits w s (length (piece c)) (room c) o

  abbrev text : List ℕ
  text = text_of (from_words w).write (resumed (from_words w) s (piece c) (ends c)).final.log

  text_fits : Admitted w s (length (piece c)) (room c) → length text ≤ room c
  text_fits a =
      let most = text_most w s (piece c) (ends c) a.sound_words a.sound_session_lem a.passed.0 in
      let enough = a.passed.2 in
      omega arith

  numbered_by : (o : Outcome (Unit {0})) → Tested o → RefusedBy refusals (outcome o).answer
  numbered_by (refused k) h = h
  numbered_by (accepted x) h = tt

  unchanged_by : (o : Outcome (Unit {0})) (n : ℕ) → (outcome o).answer ≡ refused n → ((outcome o).session ≡ s) × ((outcome o).output ≡ buffer_of c)
  unchanged_by (refused k) n e = (refl, refl)
  unchanged_by (accepted x) n e = absurd (accepted_not _ n e)

  beyond_by : (o : Outcome (Unit {0})) (a : Answer) → (outcome o).answer ≡ accepted a → drop a.count (outcome o).output ≡ drop a.count (buffer_of c)
  beyond_by (refused k) a e = refl
  beyond_by (accepted x) a e =
      over_beyond text (buffer_of c) a.count (sym (ap (λ (b : Answer). b.count) (accepted_same _ a e)))

  whole_by : (o : Outcome (Unit {0})) → Tested o → length (outcome o).output ≡ room c
  whole_by (refused k) h = refl
  whole_by (accepted x) h = over_whole text (buffer_of c) (text_fits h)

  keeps_by : (o : Outcome (Unit {0})) (a : Answer) → Tested o → length s.held ≡ 8 → (outcome o).answer ≡ accepted a →
      T (sound_session w (outcome o).session) × (length (outcome o).session.held ≡ 8)
  keeps_by (refused k) a h eight e = absurd (accepted_not a k (sym e))
  keeps_by (accepted x) a h eight e = (
    kept_sound w h.sound_words s (piece c) (ends c) h.sound_session_lem h.passed.0 eight h.passed.1,
    length_pad 8 (resumed (from_words w) s (piece c) (ends c)).final.store,
  )

  stays_by : (o : Outcome (Unit {0})) → Tested o → T (sound_session w s) → length s.held ≡ 8 →
      T (sound_session w (outcome o).session) × (length (outcome o).session.held ≡ 8)
  stays_by (refused k) h t eight = (t, eight)
  stays_by (accepted x) h t eight = keeps_by (accepted x) _ h eight refl

  -- a call, accepted or refused, leaves a sound session of eight places sound, and of eight places
  pub call_stays : T (sound_session w s) → length s.held ≡ 8 → T (sound_session w (called w s c).session) × (length (called w s c).session.held ≡ 8)
  call_stays t eight =
      let n = length (piece c) in rw (called_by_lem w s c) (stays_by (admits w s n (room c)) (admission w s n (room c)) t eight)

  call_answers : CallAnswers s (buffer_of c) (called w s c)
  call_answers =
      let o = admits w s (length (piece c)) (room c) in
      let h = admission w s (length (piece c)) (room c) in
      rw (called_by_lem w s c) (record { numbered = numbered_by o h; unchanged = unchanged_by o; beyond = beyond_by o; whole = whole_by o h })

-- DEMAND 1, for feed and finish
pub calls_answer : CallsAnswer
unfolding CallsAnswer
calls_answer w s c = call_answers w s c

-- an accepted call keeps soundness
pub calls_keep : CallsKeep
unfolding CallsKeep
calls_keep w s c a eight e =
    let n = length (piece c) in
    rw (called_by_lem w s c) (keeps_by w s c (admits w s n (room c)) a (admission w s n (room c)) eight (rw (called_by_lem w s c) at e))

-- REQUEST [2], of a sound session
pub sound_adds_up : SoundAddsUp
unfolding SoundAddsUp
sound_adds_up w s W t =
    let f = (sound_facts w s t).uses in
    record { sum = f.sum; lacking = f.lacking; undefaulted = f.undefaulted; unmarked = f.unmarked }

-- any list of calls leaves a sound session of eight places sound
pub calls_stay : (w : List ℕ) (cs : List Call) (v : Served) → T (sound_session w v.session) → length v.session.held ≡ 8 →
    T (sound_session w (serve w cs v).session)
unfolding serve
calls_stay w [] v t eight = t
calls_stay w (c ∷ cs) v t eight = let k = call_stays w v.session c t eight in calls_stay w cs (serve_call w v c) k.0 k.1

-- and a session that does not add up is refused by 12
pub refuses_others : RefusesOthers
unfolding RefusesOthers SoundAddsUp admits
refuses_others w s c W n =
    let unsound : T (not (sound_session w s)) = not_T (sound_session w s) (λ t. n (sound_adds_up w s W t)) in
    ap (λ (o : CallOutcome). o.answer) (called_by_lem w s c)
    ∙ ap (λ o. (call_by o (from_words w) s (piece c) (ends c) (buffer_of c)).answer)
    (select_next _ _ _ (ap not (of_T (sound w) W)) ∙ select_here _ _ _ (of_T (not (sound_session w s)) unsound))
