-- Demand 3 over the outcome functions: what any list of calls answers, writes and leaves is what the plain machine makes of the whole input.
-- The calls stand as the words' trace tells (`Calls`), the table's trace is the same (`Swap`), and its log is Definition 7's (`Meaning`).
use mathlib.Core.Bool.{Bool, true, false, ◌||◌}
use mathlib.Core.List.{List, [], ◌∷◌, ◌++◌, append_assoc, append-nil}
use mathlib.Core.Logic.{◌↔◌}
use mathlib.Core.Path.{◌≡◌, refl, sym, ap, subst, ◌∙◌}
use Prim.Native.Nat.{ℕ, ◌-◌, ◌<◌}
use native.Mathlib.Omega.{arith}
use lib.Dec.{T}
use lib.ListN.{length, drop}
use Rattle.lists.specs.Lists.{Each, pad}
use Rattle.lists.proofs.Laws.Each.{each_append}
use Rattle.meaning.specs.Refusal.{Outcome, refused, accepted}
use Rattle.meaning.specs.Table.{Characters, Table, group, longest}
use Rattle.meaning.specs.Meaning.{Emission, written, text_of, covered, convert}
use Rattle.meaning.proofs.Laws.Groups.{longest_small}
use Rattle.meaning.proofs.Laws.Described.{well_formed_shaped}
use Rattle.automaton.specs.States.{states}
use Rattle.automaton.specs.Layout.{word_count, words}
use Rattle.automaton.specs.Claims.{KeepsCompiling, Compiled}
use Rattle.automaton.proofs.Laws.States.{table_good, table_reads}
use Rattle.automaton.proofs.Laws.Good.{SameNumbers}
use Rattle.automaton.proofs.Laws.Places.{layout_expansion}
use Rattle.automaton.proofs.Laws.Alike.{words_numbers, numbers_alike, numbers_after}
use Rattle.automaton.proofs.Laws.Write.{words_write}
use Rattle.automaton.proofs.Laws.Sound.{compiled_sound}
use Rattle.automaton.proofs.Laws.Compile.{compiled_words}
use Rattle.automaton.specs.Automaton.{Automaton, from_table, from_words, after}
use Rattle.reckoning.specs.Machine.{Status, Open, Closed, Stopped}
use Rattle.reckoning.specs.Uses.{uses_of}
use Rattle.reckoning.specs.Session.{Session, consumed}
use Rattle.reckoning.specs.Calls.{Answer, received_by}
use Rattle.reckoning.specs.Reckoning.{Call, piece, ends, Served, unserved, serve, accepted_pieces, Input, no_input, ran, ran_text, session_by, reckoned, answer_by, input_by, reckon_call, reckon}
use Rattle.reckoning.specs.Claims.{is_stopped, Agrees, OutcomesAgree}
use Rattle.reckoning.proofs.Laws.Trace.{trace, cost, log_of, held_of, status_of}
use Rattle.reckoning.proofs.Laws.Rounds.{NotOpen, not_open, trace_covers, held_characters, trace_graft, graft_stopped, ended_empty, Counted, Bounded, bounded}
use Rattle.reckoning.proofs.Laws.Meaning.{ending}
use Rattle.reckoning.proofs.Laws.Whole.{meaning_is}
use Rattle.reckoning.proofs.Laws.Calls.{told, Matched, Standing, calls_stand, ran_tells, ran_waits, same_trace, ran_text_lem}

-- a trace that stopped without the end is the trace of every longer input, ended or not
pub stopped_firm : (A : Automaton) (u more : List ℕ) (e : Bool) → status_of (trace A false 0 u) ≡ Stopped → trace A e 0 (u ++ more) ≡ trace A false 0 u
stopped_firm A u more e s = trace_graft A e more 0 u (omega arith) ∙ graft_stopped (trace A false 0 u) (λ h. trace A e 0 (h ++ more)) (not_open _ (subst NotOpen (sym s) tt))

pub is_stopped_lem : (s : Status) → T (is_stopped s) → s ≡ Stopped
is_stopped_lem Open t = absurd t
is_stopped_lem Closed t = absurd t
is_stopped_lem Stopped t = refl

-- a trace that ended, or stopped, is the trace of the ended input
pub over_trace : (A : Automaton) (u : List ℕ) (e : Bool) → T (e || is_stopped (status_of (trace A e 0 u))) → trace A e 0 u ≡ trace A true 0 u
over_trace A u true h = refl
over_trace A u false h =
    sym (subst (λ v. trace A true 0 v ≡ trace A false 0 u) (append-nil u) (stopped_firm A u [] true (is_stopped_lem (status_of (trace A false 0 u)) h)))

-- closed and stopped, from the definition's flag
Flag : Status → Bool
Flag Open = false
Flag Closed = true
Flag Stopped = false

flag_ending : (b : Bool) → Flag (ending b) ≡ b
unfolding Flag
flag_ending true = refl
flag_ending false = refl

pub closed_iff : (s : Status) (b : Bool) → s ≡ ending b → (s ≡ Closed) ↔ (b ≡ true)
unfolding Flag
closed_iff s b p = (λ q. sym (flag_ending b) ∙ ap Flag (sym p ∙ q), λ q. p ∙ ap ending q)

-- what is consumed, by the status: nothing is held once the trace is closed or stopped
consumed_is : (s : Status) (m c h : ℕ) → Counted s m c h → (NotOpen s → h ≡ 0) → received_by s m c - h ≡ c
consumed_is Open m c h k z = omega arith
consumed_is Closed m c h k z = let y : h ≡ 0 = z tt in omega arith
consumed_is Stopped m c h k z = let y : h ≡ 0 = z tt in omega arith

-- The reckoning's input is the accepted pieces, joined.
module _ (t : Table) where
  pub record Grown (cs : List Call) (i j : Input) : Type 0 where
    pub more : List (Outcome Answer)
    pub answers : j.answers ≡ i.answers ++ more
    pub characters : j.characters ≡ i.characters ++ accepted_pieces cs more

  grown_by : (c : Call) (cs : List Call) (i : Input) (o : Outcome (Unit {0})) (j : Input) → Grown cs (input_by t o i c) j → Grown (c ∷ cs) i j
  grown_by c cs i (refused n) j g = record {
    more = refused n ∷ g.more;
    answers = g.answers ∙ append_assoc i.answers (refused n ∷ []) g.more;
    characters = g.characters;
  }
  grown_by c cs i (accepted x) j g =
      let a = accepted (answer_by t (ran t i.characters i.ended) (ran t (i.characters ++ piece c) (ends c))) in
      record {
        more = a ∷ g.more;
        answers = g.answers ∙ append_assoc i.answers (a ∷ []) g.more;
        characters = g.characters ∙ append_assoc i.characters (piece c) (accepted_pieces cs g.more);
      }

  reckon_grown : (cs : List Call) (i : Input) → Grown cs i (reckon t cs i)
  unfolding reckon
  reckon_grown [] i = record { more = []; answers = sym (append-nil i.answers); characters = sym (append-nil i.characters) }
  reckon_grown (c ∷ cs) i =
      let o = reckoned t (ran t i.characters i.ended) (length i.characters) c in
      grown_by c cs i o (reckon t cs (reckon_call t i c)) (reckon_grown cs (reckon_call t i c))

  pub input_pieces : (cs : List Call) → (reckon t cs no_input).characters ≡ accepted_pieces cs (reckon t cs no_input).answers
  input_pieces cs = let g = reckon_grown cs no_input in g.characters ∙ ap (accepted_pieces cs) (sym g.answers)

module _ (t : Table) (w : List ℕ) (K : Matched t w) where
  pub text_is : (l : List Emission) → text_of (from_table t).write l ≡ text_of (λ n v. written (group t n) v) l
  unfolding from_table
  text_is l = refl

  -- where the words number the states as the table's machine does, the session is the one reckoned
  pub told_ran : SameNumbers (from_table t) (from_words w) (length (states t)) → (u : List ℕ) (e : Bool) → Characters u →
      told (from_words w) (trace (from_words w) e 0 u) (length u) ≡ session_by t (ran t u e) (length u)
  told_ran N u e c =
      let A = from_table t in
      let M = from_words w in
      let r = ran t u e in
      let x = trace A e 0 u in
      let y = trace M e 0 u in
      let tells = ran_tells t w K u e in
      let p : y ≡ x = sym (same_trace t w K u e c) in
      let after_is : after A 0 (held_of x) ≡ after M 0 (held_of x) =
      numbers_after A M (longest t) (length (states t)) K.good N 0 (held_of x) K.good.some_state
      (held_characters x u (trace_covers A (longest t) (length (states t)) K.good e 0 u (omega arith)) c) in
      let st : status_of y ≡ r.status = ap status_of p ∙ sym tells.status in
      let hd : held_of y ≡ r.final.store = ap held_of p ∙ sym tells.store in
      let lg : log_of y ≡ r.final.log = ap log_of p ∙ sym tells.log in
      let at : after M 0 (held_of y) ≡ r.final.state = ap (λ z. after M 0 (held_of z)) p ∙ sym after_is ∙ sym tells.state in
      let sp : cost y ≡ r.final.steps = let a = ap cost p in let b = tells.steps in omega arith in
      let wrote : text_of M.write (log_of y) ≡ ran_text t r = sym (ran_text_lem t w K u e c) in
      λ i. record {
        status = st i;
        state = at i;
        held = pad 8 (hd i);
        count = length (hd i);
        received = received_by (st i) (length u) (covered (lg i));
        produced = length (wrote i);
        steps = sp i;
        uses = uses_of (lg i);
      }

  agrees : SameNumbers (from_table t) (from_words w) (length (states t)) → (cs : List Call) (v : Served) (i : Input) →
      i.characters ≡ accepted_pieces cs i.answers → Standing t w K v i → Agrees t cs v i (ran t i.characters i.ended)
  agrees N cs v i pieces S =
      let u = i.characters in
      let e = i.ended in
      let A = from_table t in
      let r = ran t u e in
      let x = trace A e 0 u in
      let tells = ran_tells t w K u e in
      let s : v.session ≡ session_by t r (length u) = S.session ∙ told_ran N u e S.characters in
      let st : v.session.status ≡ status_of x = ap (λ (z : Session). z.status) s ∙ tells.status in
      let out : v.output ≡ ran_text t r = S.output ∙ sym (ran_text_lem t w K u e S.characters) in
      let b : Bounded (longest t) u x = bounded A (longest t) (length (states t)) K.good e u in
      let con : consumed v.session ≡ covered (log_of x) =
      ap consumed s ∙ (λ j. received_by (tells.status j) (length u) (covered (tells.log j)) - length (tells.store j))
      ∙ consumed_is (status_of x) (length u) (covered (log_of x)) (length (held_of x)) b.counted (λ n. ap length (ended_empty x n)) in
      let over : T (e || is_stopped v.session.status) → x ≡ trace A true 0 u = λ h. over_trace A u e (subst (λ z. T (e || is_stopped z)) st h) in
      let D = meaning_is t K.shaped u S.characters in
      let log_is : T (e || is_stopped v.session.status) → log_of x ≡ (convert t u).log = λ h. ap log_of (over h) ∙ D.0 in
      let end_is : T (e || is_stopped v.session.status) → v.session.status ≡ ending (convert t u).closed = λ h. st ∙ ap status_of (over h) ∙ D.1 in
      record {
        answers = S.answers;
        input = pieces ∙ ap (accepted_pieces cs) (sym S.answers);
        output = out;
        status = ap (λ (z : Session). z.status) s;
        state = ap (λ (z : Session). z.state) s;
        held = ap (λ (z : Session). z.held) s;
        count = ap (λ (z : Session). z.count) s;
        steps = ap (λ (z : Session). z.steps) s;
        produced = ap (λ (z : Session). z.produced) s;
        consumes = con ∙ ap covered (sym tells.log);
        received = ap (λ (z : Session). z.received) s;
        uses = ap (λ (z : Session). z.uses) s;
        waits = ran_waits t w K u e;
        bound = let k = b.whole in let j = tells.steps in rw s (omega arith);
        text = λ h. out ∙ ap (text_of A.write) (tells.log ∙ log_is h) ∙ text_is (convert t u).log;
        closed = λ h. closed_iff v.session.status (convert t u).closed (end_is h);
        stopped = λ h c. (end_is h ∙ ap ending c, con ∙ ap covered (log_is h));
        firm = λ ne h more cm e'.
            let sx : status_of (trace A false 0 u) ≡ Stopped = subst (λ z. status_of (trace A z 0 u) ≡ Stopped) ne (sym st ∙ h) in
            let c₂ = each_append (λ z. z < 65536) u more S.characters cm in
            let D₂ = meaning_is t K.shaped (u ++ more) c₂ in
            let D₁ = meaning_is t K.shaped u S.characters in
            let q₂ : trace A true 0 (u ++ more) ≡ trace A false 0 u = stopped_firm A u more true sx in
            let q₁ : trace A true 0 u ≡ trace A false 0 u = subst (λ z. trace A true 0 z ≡ trace A false 0 u) (append-nil u) (stopped_firm A u [] true sx) in
            let logs : (convert t (u ++ more)).log ≡ (convert t u).log = sym D₂.0 ∙ ap log_of (q₂ ∙ sym q₁) ∙ D₁.0 in
            let a₂ = (ran_tells t w K (u ++ more) e').steps in
            let c₃ : cost (trace A e' 0 (u ++ more)) ≡ cost x = ap cost (stopped_firm A u more e' sx ∙ ap (λ z. trace A z 0 u) (sym ne)) in (
              ap (text_of (λ n z. written (group t n) z)) logs,
              ap covered logs,
              omega arith,
            );
      }

  -- DEMAND 3, for a table and words that match it and number the states as it does.
  pub calls_agree : SameNumbers (from_table t) (from_words w) (length (states t)) → (cs : List Call) → Each (λ c. Characters (piece c)) cs →
      (let i = reckon t cs no_input in Agrees t cs (serve w cs unserved) i (ran t i.characters i.ended))
  calls_agree N cs a = agrees N cs (serve w cs unserved) (reckon t cs no_input) (input_pieces t cs) (calls_stand t w K cs a)

-- a table's words match it, whatever stands behind them
matched : (b : List ℕ) (t : Table) → KeepsCompiling b t → (rest : List ℕ) → Matched t (words t ++ rest)
matched b t k rest =
    let s = well_formed_shaped t k.keeps.well_formed in
    let good = table_good t s in
    record {
      shaped = s;
      small = longest_small t s;
      good = good;
      reads = table_reads t s;
      sound_words = compiled_sound t rest s k.classes k.states;
      alike = numbers_alike (from_table t) (from_words (words t ++ rest)) (longest t) (length (states t)) good (words_numbers t rest k.classes k.states);
      writes = words_write t rest s k.keeps.values;
      expands = layout_expansion t rest;
      safe = k.keeps.values;
    }

pub compiled_matched : (t : Table) (w : List ℕ) → Compiled t w → Matched t w
compiled_matched t w C = subst (Matched t) (sym (compiled_words t w C)) (matched C.table t C.keeps (drop word_count C.buffer))

pub compiled_numbers : (t : Table) (w : List ℕ) → Compiled t w → SameNumbers (from_table t) (from_words w) (length (states t))
compiled_numbers t w C =
    subst (λ z. SameNumbers (from_table t) (from_words z) (length (states t))) (sym (compiled_words t w C))
    (words_numbers t (drop word_count C.buffer) C.keeps.classes C.keeps.states)

-- DEMAND 3, for every table that keeps the rules for compiling and every buffer that it is compiled into.
pub outcomes_agree : OutcomesAgree
unfolding OutcomesAgree
outcomes_agree t w C cs a = calls_agree t w (compiled_matched t w C) (compiled_numbers t w C) cs a
