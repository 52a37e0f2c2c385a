-- A list of calls leaves the session that the trace of the whole input tells, with the same refusals as the reckoning.
-- Each accepted call grafts the trace of held characters and piece where the trace so far waits.
use mathlib.Core.Bool.{Bool, true, false, not}
use mathlib.Core.List.{List, [], ◌∷◌, ◌++◌, append-nil}
use mathlib.Core.Path.{◌≡◌, refl, sym, ap, subst, ◌∙◌}
use Prim.Native.Nat.{ℕ, ◌+◌, ◌*◌, ◌≤◌, ◌<◌}
use native.Mathlib.Omega.{arith}
use lib.Dec.{T, ltb}
use lib.ListN.{length, drop, length-append}
use lib.Seq.{take-append_seam}
use Rattle.lists.specs.Lists.{Each, pad}
use Rattle.lists.specs.Decide.{select}
use Rattle.lists.proofs.Laws.Tests.{of_T, by_cases}
use Rattle.lists.proofs.Laws.Each.{each_append}
use Rattle.lists.proofs.Laws.Parts.{length_pad, take_pad}
use Rattle.meaning.specs.Refusal.{Outcome, refused, accepted}
use Rattle.meaning.specs.Table.{Characters, Table, expansion, longest}
use Rattle.meaning.specs.Value.{SafeTable}
use Rattle.meaning.specs.Meaning.{text_of, covered}
use Rattle.meaning.specs.Direct.{limit}
use Rattle.meaning.proofs.Laws.Shape.{Shaped}
use Rattle.meaning.proofs.Laws.Writing.{text_append, covered_append}
use Rattle.automaton.specs.States.{states}
use Rattle.automaton.specs.Sound.{sound, longest_word, expansion_word, state_count}
use Rattle.automaton.specs.Automaton.{Automaton, from_table, from_words}
use Rattle.automaton.proofs.Laws.Good.{after, Good, Reads, Alike, Writes}
use Rattle.automaton.proofs.Laws.Words.{sound_good, sound_longest}
use Rattle.reckoning.specs.Machine.{Status, Open, Closed, Stopped, Ended}
use Rattle.reckoning.specs.Uses.{uses_of, uses_after}
use Rattle.reckoning.specs.Session.{Session, fresh, consumed, is_open, sound_session}
use Rattle.reckoning.specs.Calls.{Answer, CallOutcome, admits, received_by, resumed, later, call_by}
use Rattle.reckoning.specs.Reckoning.{Call, piece, buffer_of, room, ends, Served, unserved, output_by, serve_call, serve, Input, no_input, ran, ran_text, reckoned, answer_by, input_by, reckon_call, reckon}
use Rattle.reckoning.specs.Claims.{Waits}
use Rattle.reckoning.proofs.Laws.Trace.{Trace, trace, cost, log_of, held_of, state_of, status_of}
use Rattle.reckoning.proofs.Laws.Rounds.{Joined, led, trace_graft, graft_open, not_open, rests_open, trace_rests, Counted, bounded, trace_ended}
use Rattle.reckoning.proofs.Laws.Run.{Tells, run_tells, run_waits}
use Rattle.reckoning.proofs.Laws.Swap.{trace_alike, trace_emits, text_same}
use Rattle.reckoning.proofs.Laws.Uses.{uses_append}
use Rattle.reckoning.proofs.Laws.Kept.{fresh_sound, kept_sound, sound_facts}
use Rattle.reckoning.proofs.Laws.Answers.{called_by_lem, Passed, pass_cases}

-- Logs and buffers.

-- the session that a trace over m characters tells
abbrev pub told : Automaton → Trace → ℕ → Session
told B t m =
    record {
      status = status_of t;
      state = state_of B t;
      held = pad 8 (held_of t);
      count = length (held_of t);
      received = received_by (status_of t) m (covered (log_of t));
      produced = length (text_of B.write (log_of t));
      steps = cost t;
      uses = uses_of (log_of t);
    }

pub fresh_told : (B : Automaton) → fresh ≡ told B (trace B false 0 []) 0
unfolding fresh trace after status_of held_of log_of cost text_of covered pad
fresh_told B = refl

-- One accepted call.
module _ (B : Automaton) (L n : ℕ) (H : Good B L n) (small : L ≤ 8) (e : Bool) (u p : List ℕ) (o : status_of (trace B false 0 u) ≡ Open)
    (few : length (held_of (trace B false 0 u)) ≤ 8) where
  abbrev before : Trace
  before = trace B false 0 u

  abbrev after_call : Trace
  after_call = trace B e 0 (u ++ p)

  abbrev rest : Trace
  rest = trace B e 0 (held_of before ++ p)

  joined : Joined before rest after_call
  joined = rw (trace_graft B e p 0 u (omega arith)) (graft_open (trace B false 0 u) (λ h. trace B e 0 (h ++ p)) o)

  abbrev session : Session
  session = told B before (length u)

  abbrev ended_as : Ended
  ended_as = resumed B session p e

  tells : Tells B (length (held_of before)) [] 0 rest ended_as
  tells =
      let k = rests_open B (trace B false 0 u) (trace_rests B L n H 0 u) o in
      rw (take_pad 8 (held_of (trace B false 0 u)) few) (run_tells B L n H small e (held_of (trace B false 0 u)) p (state_of B (trace B false 0 u)) k.0)

  pub text_later : text_of B.write (log_of before) ++ text_of B.write ended_as.final.log ≡ text_of B.write (log_of after_call)
  text_later =
      ap (λ l. text_of B.write (log_of before) ++ text_of B.write l) tells.log
      ∙ sym (text_append B.write (log_of before) (log_of rest))
      ∙ ap (text_of B.write) (sym joined.log)

  pub session_later : later session (length p) (length (text_of B.write ended_as.final.log)) ended_as ≡ told B after_call (length (u ++ p))
  session_later =
      let b : Counted (status_of before) (length u) (covered (log_of before)) (length (held_of before)) = (bounded B L n H false u).counted in
      let k : covered (log_of before) + length (held_of before) ≡ length u =
      subst (λ z. Counted z (length u) (covered (log_of before)) (length (held_of before))) o b in
      let m : received_by (status_of before) (length u) (covered (log_of before)) ≡ length u = ap (λ z. received_by z (length u) (covered (log_of before))) o in
      let st : ended_as.status ≡ status_of after_call = tells.status ∙ sym joined.status in
      let hd : ended_as.final.store ≡ held_of after_call = tells.store ∙ sym joined.held in
      let lg : covered ended_as.final.log ≡ covered (log_of rest) = ap covered tells.log in
      let cv : covered (log_of after_call) ≡ covered (log_of before) + covered (log_of rest) = ap covered joined.log ∙ covered_append (log_of before) (log_of rest) in
      let co : consumed session + covered ended_as.final.log ≡ covered (log_of after_call) = omega arith in
      let rc : received_by (status_of before) (length u) (covered (log_of before)) + length p ≡ length (u ++ p) = omega (arith, length-append u p) in
      let sp : cost before + ended_as.final.steps ≡ cost after_call = let a = tells.steps in let j = joined.costs in omega arith in
      let pr : length (text_of B.write (log_of before)) + length (text_of B.write ended_as.final.log) ≡ length (text_of B.write (log_of after_call)) =
      sym (length-append (text_of B.write (log_of before)) (text_of B.write ended_as.final.log)) ∙ ap length text_later in
      let us : uses_after (uses_of (log_of before)) ended_as.final.log ≡ uses_of (log_of after_call) =
      ap (uses_after (uses_of (log_of before))) tells.log ∙ uses_append (log_of before) (log_of rest) ∙ ap uses_of (sym joined.log) in
      λ i. record {
        status = st i;
        state = (tells.state ∙ ap (after B 0) (sym joined.held)) i;
        held = pad 8 (hd i);
        count = length (hd i);
        received = received_by (st i) (rc i) (co i);
        produced = pr i;
        steps = sp i;
        uses = us i;
      }

-- the refusals 13 to 15 are the same, reckoned with what was received or with the input's length
same_refusals : (s : Status) (received m n k E room : ℕ) → (s ≡ Open → received ≡ m) →
    ◌≡◌ {A = Outcome (Unit {0})}
    (select ((not (is_open s), refused 13) ∷ (ltb limit (received + n), refused 14) ∷ (ltb room (E * (k + n)), refused 15) ∷ []) (accepted tt))
    (select ((not (is_open s), refused 13) ∷ (ltb limit (m + n), refused 14) ∷ (ltb room (E * (k + n)), refused 15) ∷ []) (accepted tt))
unfolding select
same_refusals Open received m n k E room f = rw (f refl)
same_refusals Closed received m n k E room f = refl
same_refusals Stopped received m n k E room f = refl

-- what is asked of words for a table: that they are sound, do the same along every word as the automaton of the table, which reads its
-- rules, and write and expand as the table does
pub record Matched (t : Table) (w : List ℕ) : Type 0 where
  pub shaped : Shaped t
  pub small : longest t ≤ 8
  pub good : Good (from_table t) (longest t) (length (states t))
  pub reads : Reads (from_table t) t
  pub sound_words : T (sound w)
  pub alike : Alike (from_table t) (from_words w)
  pub writes : Writes (from_table t) (from_words w) t
  pub expands : expansion_word w ≡ expansion t
  pub safe : SafeTable t

module _ (t : Table) (w : List ℕ) (K : Matched t w) where
  abbrev machine : Automaton
  machine = from_words w

  good_words : Good machine (longest_word w) (state_count w)
  good_words = sound_good w K.sound_words

  -- the calls so far left what the trace of the input so far tells
  pub record Standing (v : Served) (i : Input) : Type 0 where
    pub answers : v.answers ≡ i.answers
    pub session : v.session ≡ told machine (trace machine i.ended 0 i.characters) (length i.characters)
    pub output : v.output ≡ text_of machine.write (log_of (trace machine i.ended 0 i.characters))
    pub kept : T (sound_session w v.session)
    pub characters : Characters i.characters

  -- the table's machine over the input
  pub ran_tells : (u : List ℕ) (e : Bool) → Tells (from_table t) 0 [] 0 (trace (from_table t) e 0 u) (ran t u e)
  unfolding ran after
  ran_tells u e = run_tells (from_table t) (longest t) (length (states t)) K.good K.small e [] u 0 (led refl tt)

  pub ran_waits : (u : List ℕ) (e : Bool) → (ran t u e).status ≡ Open → Waits (from_table t) e (ran t u e).final
  unfolding ran after
  ran_waits u e = run_waits (from_table t) (longest t) (length (states t)) K.good K.small e [] u 0 (led refl tt)

  pub same_trace : (u : List ℕ) (e : Bool) → Characters u → trace (from_table t) e 0 u ≡ trace machine e 0 u
  same_trace u e c = trace_alike (from_table t) machine K.alike e 0 u c

  -- and it writes what the words' trace tells
  pub ran_text_lem : (u : List ℕ) (e : Bool) → Characters u → ran_text t (ran t u e) ≡ text_of machine.write (log_of (trace machine e 0 u))
  ran_text_lem u e c =
      let A = from_table t in
      let x = trace A e 0 u in
      ap (text_of A.write) (ran_tells u e).log
      ∙ text_same A machine t K.writes x (trace_emits A t K.reads e 0 u c)
      ∙ ap (λ z. text_of machine.write (log_of z)) (same_trace u e c)

  -- a call is refused as the reckoning says
  admits_reckoned : (u : List ℕ) (e : Bool) → Characters u → (c : Call) → T (sound_session w (told machine (trace machine e 0 u) (length u))) →
      admits w (told machine (trace machine e 0 u) (length u)) (length (piece c)) (room c) ≡ reckoned t (ran t u e) (length u) c
  unfolding admits reckoned select
  admits_reckoned u e ch c sd =
      let T' = trace machine e 0 u in
      let r = ran_tells u e in
      let q = same_trace u e ch in
      let st : (ran t u e).status ≡ status_of T' = r.status ∙ ap status_of q in
      let hd : (ran t u e).final.store ≡ held_of T' = r.store ∙ ap held_of q in
      rw (of_T (sound w) K.sound_words, of_T (sound_session w (told machine T' (length u))) sd, K.expands, st, hd)
      (same_refusals (status_of T') (received_by (status_of T') (length u) (covered (log_of T'))) (length u) (length (piece c)) (length (held_of T')) (expansion t) (room c)
      (λ o. ap (λ z. received_by z (length u) (covered (log_of T'))) o))

  -- an accepted call's answer, where it brings what was written over u to what is written over u₂
  answered : (u u₂ : List ℕ) (e e₂ : Bool) (text : List ℕ) (status : Status) → Characters u → Characters u₂ →
      text_of machine.write (log_of (trace machine e 0 u)) ++ text ≡ text_of machine.write (log_of (trace machine e₂ 0 u₂)) →
      status ≡ status_of (trace machine e₂ 0 u₂) →
      ◌≡◌ {A = Answer} (record { count = length text; status = status }) (answer_by t (ran t u e) (ran t u₂ e₂))
  answered u u₂ e e₂ text status c c₂ out st =
      let before = text_of machine.write (log_of (trace machine e 0 u)) in
      let a : length before + length text ≡ length (text_of machine.write (log_of (trace machine e₂ 0 u₂))) = sym (length-append before text) ∙ ap length out in
      let b = ap length (ran_text_lem u e c) in
      let d = ap length (ran_text_lem u₂ e₂ c₂) in
      let answer = answer_by t (ran t u e) (ran t u₂ e₂) in
      let more : length text ≡ answer.count = omega arith in
      let so : status ≡ answer.status = st ∙ ap status_of (sym (same_trace u₂ e₂ c₂)) ∙ sym (ran_tells u₂ e₂).status in
      λ j. record { count = more j; status = so j }

  -- one call, whose outcome is o both ways
  module _ (v : Served) (i : Input) (S : Standing v i) (c : Call) (chars : Characters (piece c)) where
    abbrev result : Outcome (Unit {0}) → CallOutcome
    result o = call_by o machine v.session (piece c) (ends c) (buffer_of c)

    abbrev served_by : Outcome (Unit {0}) → Served
    served_by o =
        record {
          answers = v.answers ++ ((result o).answer ∷ []);
          output = v.output ++ output_by (result o).answer (result o).output;
          session = (result o).session;
        }

    accepted_stands : (e : Bool) → i.ended ≡ e → status_of (trace machine i.ended 0 i.characters) ≡ Open → length i.characters + length (piece c) ≤ limit →
        Standing (served_by (accepted tt)) (input_by t (accepted tt) i c)
    accepted_stands true p o l = absurd (not_open _ (trace_ended machine 0 i.characters) (subst (λ e. status_of (trace machine e 0 i.characters) ≡ Open) p o))
    accepted_stands false p o l =
        let u = i.characters in
        let before = trace machine false 0 u in
        let open-before : status_of before ≡ Open = subst (λ e. status_of (trace machine e 0 u) ≡ Open) p o in
        let is : v.session ≡ told machine before (length u) = subst (λ e. v.session ≡ told machine (trace machine e 0 u) (length u)) p S.session in
        let few : length (held_of before) ≤ 8 = subst (λ (s : Session). s.count ≤ 8) is (sound_facts w v.session S.kept).places in
        let h : v.session.received ≡ length u = ap (λ (s : Session). s.received) is ∙ ap (λ z. received_by z (length u) (covered (log_of before))) open-before in
        let text = text_of machine.write (resumed machine v.session (piece c) (ends c)).final.log in
        let new = trace machine (ends c) 0 (u ++ piece c) in
        let out : text_of machine.write (log_of before) ++ text ≡ text_of machine.write (log_of new) =
        ap (λ (s : Session). text_of machine.write (log_of before) ++ text_of machine.write (resumed machine s (piece c) (ends c)).final.log) is
        ∙ text_later machine (longest_word w) (state_count w) good_words (sound_longest w K.sound_words) (ends c) u (piece c) open-before few in
        let new-session : (result (accepted tt)).session ≡ told machine new (length (u ++ piece c)) =
        ap (λ (s : Session). later s (length (piece c)) (length (text_of machine.write (resumed machine s (piece c) (ends c)).final.log)) (resumed machine s (piece c) (ends c))) is
        ∙ session_later machine (longest_word w) (state_count w) good_words (sound_longest w K.sound_words) (ends c) u (piece c) open-before few in
        let new-characters = each_append (λ x. x < 65536) u (piece c) S.characters chars in
        let is-answer = answered u (u ++ piece c) i.ended (ends c) text (resumed machine v.session (piece c) (ends c)).status S.characters new-characters
        (subst (λ e. text_of machine.write (log_of (trace machine e 0 u)) ++ text ≡ text_of machine.write (log_of new)) (sym p) out)
        (ap (λ (s : Session). s.status) new-session) in
        record {
          answers = λ j. S.answers j ++ (accepted (is-answer j) ∷ []);
          session = new-session;
          output =
              ap (λ l. v.output ++ l) (take-append_seam text (drop (length text) (buffer_of c)))
              ∙ ap (λ l. l ++ text) (subst (λ e. v.output ≡ text_of machine.write (log_of (trace machine e 0 u))) p S.output)
              ∙ out;
          kept =
              kept_sound w K.sound_words v.session (piece c) (ends c) S.kept (ap (λ (s : Session). s.status) is ∙ open-before)
              (ap (λ (s : Session). length s.held) is ∙ length_pad 8 (held_of before)) (omega arith);
          characters = new-characters;
        }

    -- what the reckoning's answer says
    abbrev Reckons : Outcome (Unit {0}) → Type 0
    Reckons (refused k) = Unit {0}
    Reckons (accepted x) =
        let r = ran t i.characters i.ended in
        let n = length (piece c) in
        Passed r.status (length i.characters + n) (expansion t * (length r.final.store + n)) (room c)

    reckons : Reckons (reckoned t (ran t i.characters i.ended) (length i.characters) c)
    unfolding reckoned
    reckons =
        let r = ran t i.characters i.ended in
        let n = length (piece c) in
        by_cases Reckons _ (accepted tt)
        (pass_cases Reckons r.status (length i.characters + n) (expansion t * (length r.final.store + n)) (room c) tt tt tt (λ p. p))

    stands_by : (o : Outcome (Unit {0})) → Reckons o → Standing (served_by o) (input_by t o i c)
    stands_by (refused k) e = record {
      answers = ap (λ l. l ++ (refused k ∷ [])) S.answers;
      session = S.session;
      output = append-nil v.output ∙ S.output;
      kept = S.kept;
      characters = S.characters;
    }
    stands_by (accepted x) e =
        let u = i.characters in
        let r = ran_tells u i.ended in
        accepted_stands i.ended refl (ap status_of (sym (same_trace u i.ended S.characters)) ∙ sym r.status ∙ e.0) e.1

    stands_one : Standing (serve_call w v c) (reckon_call t i c)
    stands_one =
        let o = reckoned t (ran t i.characters i.ended) (length i.characters) c in
        let s : admits w v.session (length (piece c)) (room c) ≡ o =
        ap (λ z. admits w z (length (piece c)) (room c)) S.session
        ∙ admits_reckoned i.characters i.ended S.characters c (subst (λ z. T (sound_session w z)) S.session S.kept) in
        rw (called_by_lem w v.session c, s) (stands_by o reckons)

  stands_all : (cs : List Call) → Each (λ c. Characters (piece c)) cs → (v : Served) (i : Input) → Standing v i → Standing (serve w cs v) (reckon t cs i)
  unfolding serve reckon
  stands_all [] a v i S = S
  stands_all (c ∷ cs) a v i S = stands_all cs a.1 (serve_call w v c) (reckon_call t i c) (stands_one v i S c a.0)

  stands_first : Standing unserved no_input
  unfolding trace log_of text_of
  stands_first = record {
    answers = refl;
    session = fresh_told machine;
    output = refl;
    kept = fresh_sound w;
    characters = tt;
  }

  -- after any list of calls
  pub calls_stand : (cs : List Call) → Each (λ c. Characters (piece c)) cs → Standing (serve w cs unserved) (reckon t cs no_input)
  calls_stand cs a = stands_all cs a unserved no_input stands_first
