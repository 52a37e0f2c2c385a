-- A feed in two parts does what one feed of the whole piece does, from any sound open session.
-- The trace of held characters and whole piece goes on, where the first part's trace waits, from what is held there.
use mathlib.Core.Bool.{Bool, false}
use mathlib.Core.List.{List, [], ◌++◌, append_assoc}
use mathlib.Core.Path.{◌≡◌, refl, sym, ap, subst, ◌∙◌}
use Prim.Native.Nat.{ℕ, ◌+◌, ◌≤◌}
use native.Mathlib.Omega.{arith}
use lib.Dec.{T}
use lib.ListN.{length, take, drop, length-append}
use lib.Seq.{length-take-le, take-append_seam}
use Rattle.lists.specs.Lists.{pad}
use Rattle.lists.proofs.Laws.Parts.{take_pad}
use Rattle.lists.proofs.Laws.Tests.{of_T}
use Rattle.meaning.specs.Refusal.{Outcome, refused, accepted}
use Rattle.meaning.specs.Meaning.{text_of, covered}
use Rattle.meaning.specs.Direct.{limit}
use Rattle.meaning.proofs.Laws.Refusal.{accepted_not, accepted_same}
use Rattle.meaning.proofs.Laws.Writing.{text_append, covered_append}
use Rattle.automaton.specs.Sound.{sound, longest_word, expansion_word, state_count}
use Rattle.automaton.specs.Automaton.{Automaton, from_words, after}
use Rattle.automaton.proofs.Laws.Good.{Good}
use Rattle.automaton.proofs.Laws.Words.{sound_good, sound_longest}
use Rattle.reckoning.specs.Machine.{Open, Stopped, Ended}
use Rattle.reckoning.specs.Uses.{uses_after}
use Rattle.reckoning.specs.Session.{Session, consumed, store, is_open, sound_session}
use Rattle.reckoning.specs.Calls.{Answer, CallOutcome, admits, received_by, later, call_by, feed, finish, ran_on, text_on, left_on}
use Rattle.reckoning.specs.Append.{wrote, Together, FeedsJoin, PartsAccepted, StopsJoin, FinishJoins}
use Rattle.reckoning.proofs.Laws.Trace.{Trace, trace, log_of, held_of, status_of}
use Rattle.reckoning.proofs.Laws.Rounds.{Joined, trace_graft, graft_open, Counted, bounded}
use Rattle.reckoning.proofs.Laws.Run.{Tells, tells_unique}
use Rattle.reckoning.proofs.Laws.Uses.{uses_join}
use Rattle.reckoning.proofs.Laws.Kept.{sound_facts, call_tells, kept_sound, trace_held}
use Rattle.reckoning.proofs.Laws.Demand3.{stopped_firm}
use Rattle.reckoning.proofs.Laws.Admitting.{has_room, session_open}
use Rattle.reckoning.proofs.Laws.Answers.{Admitted, Admits, admission}

-- sound words, and a sound open session of eight places
module _ (w : List ℕ) (W : T (sound w)) (s : Session) (sn : T (sound_session w s)) (o : s.status ≡ Open) (e8 : length s.held ≡ 8) where
  abbrev A : Automaton
  A = from_words w

  abbrev L : ℕ
  L = longest_word w

  abbrev n : ℕ
  n = state_count w

  abbrev G : Good A L n
  G = sound_good w W

  -- the trace of what is held and the piece
  abbrev pub over : List ℕ → Bool → Trace
  over p e = trace A e 0 (store s ++ p)

  pub tells_over : (p : List ℕ) (e : Bool) → Tells A (length (store s)) [] 0 (over p e) (ran_on w s p e)
  tells_over p e = call_tells w W s p e sn o

  stored : length (store s) ≡ s.count
  stored = length-take-le s.count s.held (omega (arith, (sound_facts w s sn).places))

  -- a first part that leaves the session open
  module _ (p : List ℕ) (Open-after : (ran_on w s p false).status ≡ Open) (fits : s.received + length p ≤ limit) where
    abbrev first : Trace
    first = over p false

    abbrev pub s₁ : Session
    s₁ = left_on w s p false

    first_tells : Tells A (length (store s)) [] 0 first (ran_on w s p false)
    first_tells = tells_over p false

    pub left_sound : T (sound_session w s₁)
    left_sound = kept_sound w W s p false sn o e8 fits

    held_few : length (held_of first) ≤ 8
    held_few = trace_held A L n G false (store s ++ p) (sound_longest w W)

    pub left_store : store s₁ ≡ held_of first
    left_store = (λ i. take (length (first_tells.store i)) (pad 8 (first_tells.store i))) ∙ take_pad 8 (held_of first) held_few

    pub counted : covered (log_of first) + length (held_of first) ≡ s.count + length p
    counted =
        let b : Counted (status_of first) (length (store s ++ p)) (covered (log_of first)) (length (held_of first)) = (bounded A L n G false (store s ++ p)).counted in
        let z : status_of first ≡ Open = sym first_tells.status ∙ Open-after in
        subst (λ x. Counted x (length (store s ++ p)) (covered (log_of first)) (length (held_of first))) z b ∙ length-append (store s) p ∙ ap (λ m. m + length p) stored

    -- and a second, which goes on from what it left
    module _ (q : List ℕ) (e : Bool) where
      abbrev second : Trace
      second = trace A e 0 (held_of first ++ q)

      abbrev whole : Trace
      whole = over (p ++ q) e

      joined : Joined first second whole
      joined =
          let z : status_of first ≡ Open = sym first_tells.status ∙ Open-after in
          rw (sym (append_assoc (store s) p q), trace_graft A e q 0 (store s ++ p) (omega arith)) (graft_open first (λ h. trace A e 0 (h ++ q)) z)

      second_tells : Tells A (length (store s₁)) [] 0 second (ran_on w s₁ q e)
      second_tells = subst (λ h. Tells A (length (store s₁)) [] 0 (trace A e 0 (h ++ q)) (ran_on w s₁ q e)) left_store (call_tells w W s₁ q e left_sound Open-after)

      whole_tells : Tells A (length (store s)) [] 0 whole (ran_on w s (p ++ q) e)
      whole_tells = tells_over (p ++ q) e

      pub status_joins : (ran_on w s₁ q e).status ≡ (ran_on w s (p ++ q) e).status
      status_joins = second_tells.status ∙ sym joined.status ∙ sym whole_tells.status

      log_joins : (ran_on w s p false).final.log ++ (ran_on w s₁ q e).final.log ≡ (ran_on w s (p ++ q) e).final.log
      log_joins = (λ i. first_tells.log i ++ second_tells.log i) ∙ sym joined.log ∙ sym whole_tells.log

      pub text_joins : text_on w s p false ++ text_on w s₁ q e ≡ text_on w s (p ++ q) e
      text_joins = sym (text_append A.write (ran_on w s p false).final.log (ran_on w s₁ q e).final.log) ∙ ap (text_of A.write) log_joins

      pub session_joins : left_on w s₁ q e ≡ left_on w s (p ++ q) e
      session_joins =
          let r₁ = ran_on w s p false in
          let r₂ = ran_on w s₁ q e in
          let r = ran_on w s (p ++ q) e in
          let hd : r₂.final.store ≡ r.final.store = second_tells.store ∙ sym joined.held ∙ sym whole_tells.store in
          let qs : r₂.final.state ≡ r.final.state = second_tells.state ∙ ap (after A 0) (sym joined.held) ∙ sym whole_tells.state in
          let enough = (sound_facts w s sn).enough in
          let k = counted in
          let h₁ : length r₁.final.store ≡ length (held_of first) = ap length first_tells.store in
          let st : length (store s₁) ≡ length (held_of first) = ap length left_store in
          let rec₁ : s₁.received ≡ s.received + length p = ap (λ z. received_by z (s.received + length p) (consumed s + covered r₁.final.log)) Open-after in
          let c₁ : covered r₁.final.log ≡ covered (log_of first) = ap covered first_tells.log in
          let c : covered r.final.log ≡ covered r₁.final.log + covered r₂.final.log =
          ap covered (sym log_joins) ∙ covered_append r₁.final.log r₂.final.log in
          let rc : s₁.received + length q ≡ s.received + length (p ++ q) = omega (arith, length-append p q) in
          let co : consumed s₁ + covered r₂.final.log ≡ consumed s + covered r.final.log = omega arith in
          let pr : s.produced + length (text_on w s p false) + length (text_on w s₁ q e) ≡ s.produced + length (text_on w s (p ++ q) e) =
          omega (arith, length-append (text_on w s p false) (text_on w s₁ q e), ap length text_joins) in
          let sp : s.steps + r₁.final.steps + r₂.final.steps ≡ s.steps + r.final.steps =
          let a₁ = first_tells.steps in let a₂ = second_tells.steps in let a = whole_tells.steps in let j = joined.costs in omega arith in
          let us : uses_after (uses_after s.uses r₁.final.log) r₂.final.log ≡ uses_after s.uses r.final.log =
          uses_join s.uses r₁.final.log r₂.final.log ∙ ap (uses_after s.uses) log_joins in
          λ i. record {
            status = status_joins i;
            state = qs i;
            held = pad 8 (hd i);
            count = length (hd i);
            received = received_by (status_joins i) (rc i) (co i);
            produced = pr i;
            steps = sp i;
            uses = us i;
          }

  -- where the first part stopped, the second adds nothing
  module _ (p : List ℕ) (stopped : (ran_on w s p false).status ≡ Stopped) (q : List ℕ) (e : Bool) where
    pub stop_runs : ran_on w s (p ++ q) e ≡ ran_on w s p false
    stop_runs =
        let a = tells_over p false in
        let b = tells_over (p ++ q) e in
        let same : over (p ++ q) e ≡ over p false =
        ap (trace A e 0) (sym (append_assoc (store s) p q)) ∙ stopped_firm A (store s ++ p) q e (sym a.status ∙ stopped) in
        tells_unique A (length (store s)) [] 0 (over p false) (ran_on w s (p ++ q) e) (ran_on w s p false)
        (subst (λ t. Tells A (length (store s)) [] 0 t (ran_on w s (p ++ q) e)) same (record {
          status = b.status;
          state = b.state;
          store = b.store;
          unread = b.unread;
          log = b.log;
          steps = b.steps;
          due = b.due;
        })) a

    pub stop_session : left_on w s (p ++ q) e ≡ left_on w s p false
    stop_session =
        let r = ran_on w s p false in
        let t = text_on w s p false in
        ap (λ (x : Ended). later s (length (p ++ q)) (length (text_of A.write x.final.log)) x) stop_runs
        ∙ (λ i. record {
          status = r.status;
          state = r.final.state;
          held = pad 8 r.final.store;
          count = length r.final.store;
          received = either_way i;
          produced = s.produced + length t;
          steps = s.steps + r.final.steps;
          uses = uses_after s.uses r.final.log;
        })
      where
        either_way : received_by (ran_on w s p false).status (s.received + length (p ++ q)) (consumed s + covered (ran_on w s p false).final.log)
            ≡ received_by (ran_on w s p false).status (s.received + length p) (consumed s + covered (ran_on w s p false).final.log)
        either_way = rw stopped

-- what an accepted call had passed, answered, left and wrote
pub record Did (w : List ℕ) (s : Session) (p : List ℕ) (e : Bool) (buffer : List ℕ) (a : Answer) (x : CallOutcome) : Type 0 where
  pub admitted : Admitted w s (length p) (length buffer)
  pub answer : record { count = length (text_on w s p e); status = (ran_on w s p e).status } ≡ a
  pub session : x.session ≡ left_on w s p e
  pub text : wrote a x ≡ text_on w s p e

pub did : (w : List ℕ) (s : Session) (p : List ℕ) (e : Bool) (buffer : List ℕ) (a : Answer) (y : Outcome (Unit {0})) → Admits w s (length p) (length buffer) y →
    (call_by y (from_words w) s p e buffer).answer ≡ accepted a → Did w s p e buffer a (call_by y (from_words w) s p e buffer)
did w s p e buffer a (refused k) h z = absurd (accepted_not a k (sym z))
did w s p e buffer a (accepted u) h z =
    let text = text_on w s p e in
    let same : record { count = length text; status = (ran_on w s p e).status } ≡ a = accepted_same _ a z in
    record {
      admitted = h;
      answer = same;
      session = refl;
      text = ap (λ (b : Answer). take b.count (text ++ drop (length text) buffer)) (sym same) ∙ take-append_seam text (drop (length text) buffer);
    }

pub fed : (w : List ℕ) (s : Session) (p buffer : List ℕ) (a : Answer) → (feed w s p buffer).answer ≡ accepted a → Did w s p false buffer a (feed w s p buffer)
unfolding feed
fed w s p buffer a z = did w s p false buffer a (admits w s (length p) (length buffer)) (admission w s (length p) (length buffer)) z

-- a call that passes the tests is accepted
pub admitted_accepts : (w : List ℕ) (s : Session) (n room : ℕ) → Admitted w s n room → admits w s n room ≡ accepted tt
admitted_accepts w s n room a =
    let W = of_T (sound w) a.sound_words in
    let S = of_T (sound_session w s) a.sound_session_lem in
    let o = ap is_open a.passed.0 in
    sym (session_open w s n room W S o) ∙ sym (has_room (expansion_word w) s.received s.count n room a.passed.1 a.passed.2)

feed_accepts : (w : List ℕ) (s : Session) (p b : List ℕ) → Admitted w s (length p) (length b) →
    (feed w s p b).answer ≡ accepted (record { count = length (text_on w s p false); status = (ran_on w s p false).status })
unfolding feed
feed_accepts w s p b a = ap (λ o. (call_by o (from_words w) s p false b).answer) (admitted_accepts w s (length p) (length b) a)

-- the parts of an accepted feed
pub parts_accepted : PartsAccepted
unfolding PartsAccepted
parts_accepted w s e8 p q b a z b₁ r₁ =
    let h = (fed w s (p ++ q) b a z).admitted in
    let W = h.sound_words in
    let sn = h.sound_session_lem in
    let o = h.passed.0 in
    let l = h.passed.1 in
    let fits : s.received + length p ≤ limit = omega (arith, length-append p q) in
    let h₁ : Admitted w s (length p) (length b₁) = record { sound_words = W; sound_session_lem = sn; passed = (o, fits, r₁) } in
    let z₁ = feed_accepts w s p b₁ h₁ in
    let a₁ : Answer = record { count = length (text_on w s p false); status = (ran_on w s p false).status } in
    let d₁ = fed w s p b₁ a₁ z₁ in
    let s₁ : Session = (feed w s p b₁).session in (
      a₁,
      z₁,
      λ Open-after b₂ r₂.
          let kept : T (sound_session w s₁) = rw d₁.session (left_sound w W s sn o e8 p Open-after fits) in
          let status : s₁.status ≡ Open = ap (λ (x : Session). x.status) d₁.session ∙ Open-after in
          let rec₁ : s₁.received ≡ s.received + length p =
          ap (λ (x : Session). x.received) d₁.session
          ∙ ap (λ x. received_by x (s.received + length p) (consumed s + covered (ran_on w s p false).final.log)) Open-after in
          let total : s₁.received + length q ≤ limit = omega (arith, length-append p q) in (
            record { count = length (text_on w s₁ q false); status = (ran_on w s₁ q false).status },
            feed_accepts w s₁ q b₂ (record { sound_words = W; sound_session_lem = kept; passed = (status, total, r₂) }),
          ),
    )

-- an accepted feed after which another is accepted left the session open
open_between : (w : List ℕ) (s : Session) (p q b₁ b₂ : List ℕ) (a₁ a₂ : Answer) (d₁ : Did w s p false b₁ a₁ (feed w s p b₁)) →
    Did w (feed w s p b₁).session q false b₂ a₂ (feed w (feed w s p b₁).session q b₂) → (ran_on w s p false).status ≡ Open
open_between w s p q b₁ b₂ a₁ a₂ d₁ d₂ = ap (λ (x : Session). x.status) (sym d₁.session) ∙ d₂.admitted.passed.0

-- two feeds, and one of the whole
pub feeds_join : FeedsJoin
unfolding FeedsJoin
feeds_join w s e8 p q b₁ b₂ b a₁ a₂ a z₁ z₂ z =
    let d₁ = fed w s p b₁ a₁ z₁ in
    let s₁ : Session = (feed w s p b₁).session in
    let d₂ = fed w s₁ q b₂ a₂ z₂ in
    let d = fed w s (p ++ q) b a z in
    let h = d₁.admitted in
    let Open-after = open_between w s p q b₁ b₂ a₁ a₂ d₁ d₂ in
    let W = h.sound_words in
    let sn = h.sound_session_lem in
    let o = h.passed.0 in
    let fits = h.passed.1 in
    let text : text_on w s p false ++ text_on w s₁ q false ≡ text_on w s (p ++ q) false =
    ap (λ (x : Session). text_on w s p false ++ text_on w x q false) d₁.session ∙ text_joins w W s sn o e8 p Open-after fits q false in
    let status : (ran_on w s₁ q false).status ≡ (ran_on w s (p ++ q) false).status =
    ap (λ (x : Session). (ran_on w x q false).status) d₁.session ∙ status_joins w W s sn o e8 p Open-after fits q false in
    record {
      text = (λ i. d₁.text i ++ d₂.text i) ∙ text ∙ sym d.text;
      count =
          (λ i. (sym d₁.answer i).count + (sym d₂.answer i).count) ∙ sym (length-append (text_on w s p false) (text_on w s₁ q false))
          ∙ ap length text ∙ ap (λ (x : Answer). x.count) d.answer;
      status = ap (λ (x : Answer). x.status) (sym d₂.answer) ∙ status ∙ ap (λ (x : Answer). x.status) d.answer;
      session =
          d₂.session ∙ ap (λ (x : Session). left_on w x q false) d₁.session ∙ session_joins w W s sn o e8 p Open-after fits q false
          ∙ sym d.session;
    }

-- a first part that stops the session
pub stops_join : StopsJoin
unfolding StopsJoin
stops_join w s e8 p q b₁ b a₁ a z₁ st z =
    let d₁ = fed w s p b₁ a₁ z₁ in
    let d = fed w s (p ++ q) b a z in
    let h = d₁.admitted in
    let stopped : (ran_on w s p false).status ≡ Stopped = ap (λ (x : Answer). x.status) d₁.answer ∙ st in
    let run = stop_runs w h.sound_words s h.sound_session_lem h.passed.0 e8 p stopped q false in
    let text : text_on w s (p ++ q) false ≡ text_on w s p false = ap (λ (x : Ended). text_of (from_words w).write x.final.log) run in (
      d₁.text ∙ sym text ∙ sym d.text,
      sym d₁.answer ∙ sym (ap (λ (x : Ended). record { count = length (text_of (from_words w).write x.final.log); status = x.status }) run) ∙ d.answer,
      d₁.session ∙ sym (stop_session w h.sound_words s h.sound_session_lem h.passed.0 e8 p stopped q false) ∙ sym d.session,
    )

-- and a finish after the whole
pub finish_joins : FinishJoins
unfolding FinishJoins
finish_joins w s e8 p q b₁ b₂ b c a₁ a₂ a z₁ z₂ z = ap (λ (x : Session). finish w x c) joins.session
  where
    joins : Together a₁ a₂ a (feed w s p b₁) (feed w (feed w s p b₁).session q b₂) (feed w s (p ++ q) b)
    joins = unfold FeedsJoin in feeds_join w s e8 p q b₁ b₂ b a₁ a₂ a z₁ z₂ z
