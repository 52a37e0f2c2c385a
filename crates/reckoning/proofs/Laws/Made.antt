-- An accepted call of a chain is made of calls of its two machines.
-- What the chain's tests passed is what each machine's own tests ask, and a run to the end is a feed and then a finish.
use mathlib.Core.Bool.{Bool, true, false, ◌&&◌, ◌||◌, not}
use mathlib.Core.List.{List, [], ◌++◌, append_assoc, append-nil}
use mathlib.Core.Path.{◌≡◌, refl, sym, ap, subst, ◌∙◌}
use Prim.Native.Nat.{ℕ, ◌+◌, ◌-◌, ◌*◌, ◌≤◌}
use native.Mathlib.Omega.{arith}
use lib.Dec.{T}
use lib.ListN.{length, take, drop, length-append, length-drop}
use lib.Seq.{take-append_seam, drop-append_seam, drop-drop}
use Rattle.lists.proofs.Laws.Tests.{of_T}
use Rattle.meaning.specs.Refusal.{Outcome, refused, accepted}
use Rattle.meaning.specs.Meaning.{text_of, covered}
use Rattle.meaning.specs.Direct.{over}
use Rattle.meaning.proofs.Laws.Refusal.{accepted_not, accepted_same}
use Rattle.automaton.specs.Sound.{sound, expansion_word, longest_word, state_count}
use Rattle.automaton.specs.Automaton.{from_words}
use Rattle.automaton.proofs.Laws.Words.{sound_good, sound_short}
use Rattle.reckoning.specs.Machine.{Open, Stopped, Ended}
use Rattle.reckoning.specs.Session.{Session, store, sound_session}
use Rattle.reckoning.specs.Calls.{Answer, CallOutcome, call_by, feed, finish, ran_on, text_on, left_on}
use Rattle.reckoning.specs.Reckoning.{Call, of_feed, of_finish, piece, buffer_of, room, ends, called}
use Rattle.reckoning.specs.Claims.{is_stopped}
use Rattle.reckoning.specs.Chain.{ChainCall, ChainAnswer, ChainOutcome, is_closed, admits_chain, chain_by, chained, into, SecondMade, ChainMade, ChainsMade}
use Rattle.reckoning.proofs.Laws.Trace.{trace, log_of, held_of}
use Rattle.reckoning.proofs.Laws.Kept.{trace_few, sound_facts, call_tells}
use Rattle.reckoning.proofs.Laws.Answers.{Admitted}
use Rattle.reckoning.proofs.Laws.Demand3.{is_stopped_lem}
use Rattle.reckoning.proofs.Laws.Append.{left_sound, counted, status_joins, text_joins, session_joins, stop_runs, stop_session, admitted_accepts}
use Rattle.reckoning.proofs.Laws.Chain.{ChainAdmits, chain_admission, first_admitted, second_admitted}

-- a call that passes its tests
abbrev gone_on : List ℕ → Session → List ℕ → Bool → List ℕ → CallOutcome
gone_on w s p e buffer =
    record {
      answer = accepted (record { count = length (text_on w s p e); status = (ran_on w s p e).status });
      session = left_on w s p e;
      output = over (text_on w s p e) buffer;
    }

into_same : (w : List ℕ) (s : Session) (c : Call) (buffer : List ℕ) → Admitted w s (length (piece c)) (length buffer) →
    called w s (into c buffer) ≡ gone_on w s (piece c) (ends c) buffer
unfolding feed finish
into_same w s (of_feed p b) buffer a = ap (λ o. call_by o (from_words w) s p false buffer) (admitted_accepts w s (length p) (length buffer) a)
into_same w s (of_finish b) buffer a = ap (λ o. call_by o (from_words w) s [] true buffer) (admitted_accepts w s 0 (length buffer) a)

fed_same : (w : List ℕ) (s : Session) (p buffer : List ℕ) → Admitted w s (length p) (length buffer) → feed w s p buffer ≡ gone_on w s p false buffer
unfolding feed
fed_same w s p buffer a = ap (λ o. call_by o (from_words w) s p false buffer) (admitted_accepts w s (length p) (length buffer) a)

finished_same : (w : List ℕ) (s : Session) (buffer : List ℕ) → Admitted w s 0 (length buffer) → finish w s buffer ≡ gone_on w s [] true buffer
unfolding finish
finished_same w s buffer a = ap (λ o. call_by o (from_words w) s [] true buffer) (admitted_accepts w s 0 (length buffer) a)

-- The second machine, fed the text u into a buffer, and what is to come of it, with its end or not.
module _ (w : List ℕ) (s : Session) (u buffer : List ℕ) (eight : length s.held ≡ 8) (a : Admitted w s (length u) (length buffer)) where
  abbrev W : T (sound w)
  W = a.sound_words

  abbrev K : T (sound_session w s)
  K = a.sound_session_lem

  abbrev o : s.status ≡ Open
  o = a.passed.0

  abbrev E : ℕ
  E = expansion_word w

  abbrev s' : Session
  s' = left_on w s u false

  abbrev text : List ℕ
  text = text_on w s u false

  abbrev rest : List ℕ
  rest = drop (length text) (over text buffer)

  rest_is : rest ≡ drop (length text) buffer
  rest_is = drop-append_seam text (drop (length text) buffer)

  module _ (Open-after : (ran_on w s u false).status ≡ Open) where
    -- what is written and E for each character held then are at most E for each held and read
    room_kept : length text + E * s'.count ≤ E * (s.count + length u)
    room_kept =
        let t = trace (from_words w) false 0 (store s ++ u) in
        let tells = call_tells w W s u false K o in
        let few : length (text_of (from_words w).write (log_of t)) ≤ E * covered (log_of t) =
        trace_few (from_words w) (longest_word w) E (state_count w) (sound_good w W) (sound_short w W) false 0 (store s ++ u) in
        let lg : length text ≤ E * covered (log_of t) = rw tells.log few in
        let hd : s'.count ≡ length (held_of t) = ap length tells.store in
        let k : covered (log_of t) + length (held_of t) ≡ s.count + length u = counted w W s K o eight u Open-after a.passed.1 in
        kept (length text) E (covered (log_of t)) (length (held_of t)) s'.count (s.count + length u) lg hd k
      where
        kept : (r E c h k m : ℕ) → r ≤ E * c → k ≡ h → c + h ≡ m → r + E * k ≤ E * m
        kept r E c h k m i j l = rw (j, ← l) (omega arith)

    finish_admitted : Admitted w s' 0 (length rest)
    finish_admitted =
        let kept = left_sound w W s K o eight u Open-after a.passed.1 in
        let most = a.passed.2 in
        let few = room_kept in
        let size : length rest ≡ length buffer - length text = ap length rest_is ∙ length-drop (length text) buffer in
        let lim = (sound_facts w s' kept).limited in
        record { sound_words = W; sound_session_lem = kept; passed = (Open-after, omega arith, omega arith) }

    finish_joins : (text ++ text_on w s' [] true ≡ text_on w s u true) × (left_on w s' [] true ≡ left_on w s u true) × ((ran_on w s' [] true).status ≡ (ran_on w s u true).status)
    finish_joins =
        let n : u ++ [] ≡ u = append-nil u in
        let f = a.passed.1 in (
          text_joins w W s K o eight u Open-after f [] true ∙ ap (λ z. text_on w s z true) n,
          session_joins w W s K o eight u Open-after f [] true ∙ ap (λ z. left_on w s z true) n,
          status_joins w W s K o eight u Open-after f [] true ∙ ap (λ z. (ran_on w s z true).status) n,
        )

  module _ (stopped : (ran_on w s u false).status ≡ Stopped) where
    end_stops : (e : Bool) → (ran_on w s u e ≡ ran_on w s u false) × (left_on w s u e ≡ left_on w s u false)
    end_stops e =
        let n : u ++ [] ≡ u = append-nil u in (
          ap (λ z. ran_on w s z e) (sym n) ∙ stop_runs w W s K o eight u stopped [] e,
          ap (λ z. left_on w s z e) (sym n) ∙ stop_session w W s K o eight u stopped [] e,
        )

  -- what a feed answers
  abbrev fed : Answer
  fed = record { count = length text; status = (ran_on w s u false).status }

  -- behind the text, what a finish writes there
  behind : (more : List ℕ) → over (text ++ more) buffer ≡ take (length text) (over text buffer) ++ over more rest
  behind more =
      let tail = drop (length (text ++ more)) buffer in
      let cut : drop (length more) rest ≡ tail =
      ap (drop (length more)) rest_is ∙ drop-drop (length more) (length text) buffer ∙ ap (λ n. drop n buffer) (sym (length-append text more)) in
      append_assoc text more tail ∙ (λ i. sym (take-append_seam text (drop (length text) buffer)) i ++ (more ++ sym cut i))

  module _ (ended : Bool) (c : ChainAnswer) (x : ChainOutcome) (n : c.count ≡ length (text_on w s u ended)) (st : c.second ≡ (ran_on w s u ended).status)
      (ss : x.second ≡ left_on w s u ended) (out : x.output ≡ over (text_on w s u ended) buffer) where
    made_fed : (b : Bool) → ended ≡ b → T (not b || is_stopped fed.status) →
        (c.count ≡ fed.count) × (c.second ≡ fed.status) × (x.second ≡ s') × (x.output ≡ over text buffer)
    made_fed false e t = (
      n ∙ ap (λ z. length (text_on w s u z)) e,
      st ∙ ap (λ z. (ran_on w s u z).status) e,
      ss ∙ ap (λ z. left_on w s u z) e,
      out ∙ ap (λ z. over (text_on w s u z) buffer) e,
    )
    made_fed true e t =
        let k = end_stops (is_stopped_lem fed.status t) ended in
        let same : text_on w s u ended ≡ text = ap (λ (r : Ended). text_of (from_words w).write r.final.log) k.0 in
        (n ∙ ap length same, st ∙ ap (λ (r : Ended). r.status) k.0, ss ∙ k.1, out ∙ ap (λ z. over z buffer) same)

    made : SecondMade w ended (gone_on w s u false buffer) fed c x
    made = record {
      feeds = made_fed ended refl;
      finishes = λ t h.
          let g = finished_same w s' rest (finish_admitted h) in
          let j = finish_joins h in
          let more = text_on w s' [] true in
          let e : ended ≡ true = of_T ended t in
          let whole : text_on w s u ended ≡ text ++ more = ap (λ z. text_on w s u z) e ∙ sym j.0 in (
            record { count = length more; status = (ran_on w s' [] true).status },
            ap (λ (z : CallOutcome). z.answer) g,
            n ∙ ap length whole ∙ length-append text more,
            st ∙ ap (λ z. (ran_on w s u z).status) e ∙ sym j.2,
            ss ∙ ap (λ z. left_on w s u z) e ∙ sym j.1 ∙ sym (ap (λ (z : CallOutcome). z.session) g),
            out ∙ ap (λ z. over z buffer) whole ∙ behind more ∙ ap (λ z. take (length text) (over text buffer) ++ z) (sym (ap (λ (z : CallOutcome). z.output) g)),
          );
    }

-- The chain.
made_by : (w₁ w₂ : List ℕ) (s₁ s₂ : Session) (c : ChainCall) (a : ChainAnswer) → length s₂.held ≡ 8 → (o : Outcome (Unit {0})) →
    ChainAdmits w₁ w₂ s₁ s₂ (length (piece c.call)) (length c.middle) (room c.call) o →
    (chain_by w₁ w₂ s₁ s₂ o c).answer ≡ accepted a → ChainMade w₁ w₂ s₁ s₂ c a (chain_by w₁ w₂ s₁ s₂ o c)
made_by w₁ w₂ s₁ s₂ c a eight (refused k) h z = absurd (accepted_not a k (sym z))
made_by w₁ w₂ s₁ s₂ c a eight (accepted x) h z =
    let p = piece c.call in
    let e = ends c.call in
    let b = buffer_of c.call in
    let u = text_on w₁ s₁ p e in
    let e₂ = e && is_closed (ran_on w₁ s₁ p e).status in
    let one = first_admitted w₁ w₂ s₁ s₂ p e (length c.middle) (length b) h in
    let two = second_admitted w₁ w₂ s₁ s₂ p e (length c.middle) (length b) h in
    let o = chain_by w₁ w₂ s₁ s₂ (accepted x) c in
    let first = into_same w₁ s₁ c.call c.middle one in
    let taken : take (length u) o.middle ≡ u = take-append_seam u (drop (length u) c.middle) in
    let fed-is : feed w₂ s₂ (take (length u) o.middle) b ≡ gone_on w₂ s₂ u false b = ap (λ v. feed w₂ s₂ v b) taken ∙ fed_same w₂ s₂ u b two in
    let same : record { count = length (text_on w₂ s₂ u e₂); first = (ran_on w₁ s₁ p e).status; second = (ran_on w₂ s₂ u e₂).status } ≡ a = accepted_same _ a z in
    record {
      first = record { count = length u; status = (ran_on w₁ s₁ p e).status };
      first_answer = ap (λ (y : CallOutcome). y.answer) first;
      first_status = ap (λ (y : ChainAnswer). y.first) (sym same);
      first_session = sym (ap (λ (y : CallOutcome). y.session) first);
      middle = sym (ap (λ (y : CallOutcome). y.output) first);
      fed = fed w₂ s₂ u b eight two;
      fed_answer = ap (λ (y : CallOutcome). y.answer) fed-is;
      second = subst (λ f. SecondMade w₂ e₂ f (fed w₂ s₂ u b eight two) a o) (sym fed-is)
          (made w₂ s₂ u b eight two e₂ a o (ap (λ (y : ChainAnswer). y.count) (sym same)) (ap (λ (y : ChainAnswer). y.second) (sym same)) refl refl);
    }

pub chains_made : ChainsMade
unfolding ChainsMade chained
chains_made w₁ w₂ s₁ s₂ c a eight z =
    let n = length (piece c.call) in
    made_by w₁ w₂ s₁ s₂ c a eight (admits_chain w₁ w₂ s₁ s₂ n (length c.middle) (room c.call)) (chain_admission w₁ w₂ s₁ s₂ n (length c.middle) (room c.call)) z
