-- What a chain's list of calls comes to, for two tables: the second definition applied to the first one's text.
-- Each machine by the laws behind demand 3. Where the second stops in a feed while the first holds characters, what the first wrote is the
-- front of its definition's text on every continuation, and the second's stop is firm.
use mathlib.Core.Bool.{Bool, true, false, ◌&&◌, ◌||◌, not}
use mathlib.Core.List.{List, [], ◌∷◌, ◌++◌, append-nil}
use mathlib.Core.Logic.{◌≢◌}
use mathlib.Core.Path.{◌≡◌, refl, sym, ap, subst, subst₂, ◌∙◌}
use Prim.Native.Nat.{ℕ, ◌+◌, ◌*◌, ◌≤◌, ◌<◌}
use native.Mathlib.Omega.{arith}
use lib.Dec.{T, T_not, ltb→lt}
use lib.ListN.{length}
use Rattle.lists.specs.Lists.{Each}
use Rattle.lists.proofs.Laws.Tests.{not_not, both, or_right, by_cases}
use Rattle.lists.proofs.Laws.Each.{each_append}
use Rattle.meaning.specs.Refusal.{Outcome, refused, accepted}
use Rattle.meaning.specs.Table.{Characters, Table, expansion}
use Rattle.meaning.specs.Meaning.{text_of, covered, convert, meaning_text}
use Rattle.meaning.specs.Direct.{limit}
use Rattle.meaning.proofs.Laws.Refusal.{accepted_not, accepted_same, refused_same}
use Rattle.meaning.proofs.Laws.Direct.{over_whole, over_beyond}
use Rattle.meaning.proofs.Laws.Writing.{text_append}
use Rattle.automaton.specs.Sound.{sound, expansion_word, longest_word, state_count}
use Rattle.automaton.specs.States.{states}
use Rattle.automaton.specs.Claims.{Compiled}
use Rattle.automaton.specs.Automaton.{Automaton, from_table, from_words}
use Rattle.automaton.proofs.Laws.Good.{SameNumbers}
use Rattle.automaton.proofs.Laws.Words.{sound_good, sound_short}
use Rattle.reckoning.specs.Machine.{Status, Open, Closed, Stopped, start}
use Rattle.reckoning.specs.Session.{Session, fresh, is_open, sound_session}
use Rattle.reckoning.specs.Calls.{received_by, ran_on, text_on}
use Rattle.reckoning.specs.Reckoning.{piece, buffer_of, room, ends, ran, ran_text, session_by}
use Rattle.reckoning.specs.Claims.{is_stopped}
use Rattle.reckoning.specs.Chain.{ChainCall, is_closed, least_middle, admits_chain, chain_by, chained, ChainAnswer, ChainAnswers, ChainCallsAnswer}
use Rattle.reckoning.specs.ChainServes.{ChainServed, chain_pieces, chain_ended, ChainAgrees, ChainAgreed}
use Rattle.reckoning.proofs.Laws.Trace.{trace, log_of, held_of, status_of, graft}
use Rattle.reckoning.proofs.Laws.Rounds.{NotOpen, not_open, trace_ended, trace_graft, graft_open, graft_stopped, Counted, bounded}
use Rattle.reckoning.proofs.Laws.Run.{NotClosed, run_unended}
use Rattle.reckoning.proofs.Laws.Kept.{trace_few}
use Rattle.reckoning.proofs.Laws.Answers.{text_most}
use Rattle.reckoning.proofs.Laws.Meaning.{ending}
use Rattle.reckoning.proofs.Laws.Whole.{meaning_is}
use Rattle.reckoning.proofs.Laws.Swap.{trace_emits, text_same, text_characters}
use Rattle.reckoning.proofs.Laws.Calls.{Matched, ran_tells, same_trace}
use Rattle.reckoning.proofs.Laws.Demand3.{is_stopped_lem, stopped_firm, over_trace, closed_iff, text_is, told_ran, compiled_matched, compiled_numbers}
use Rattle.reckoning.proofs.Laws.Chain.{ChainAdmits, chain_admission, between_fits, second_admitted, trace₁, between, ended₂, trace₂, written₂, serve_chain, ChainStands, chains_stand}

-- a status that is neither
left_open : (s : Status) → NotClosed s → s ≢ Stopped → s ≡ Open
left_open Open n h = refl
left_open Closed n h = absurd n
left_open Stopped n h = absurd (h refl)

-- One machine that matches its table.
module _ (t : Table) (w : List ℕ) (K : Matched t w) where
  abbrev A : Automaton
  A = from_table t

  abbrev M : Automaton
  M = from_words w

  abbrev pub wrote : List ℕ → Bool → List ℕ
  wrote u e = text_of M.write (log_of (trace M e 0 u))

  text_own : (u : List ℕ) (e : Bool) → Characters u → wrote u e ≡ text_of A.write (log_of (trace A e 0 u))
  text_own u e c =
      ap (λ z. text_of M.write (log_of z)) (sym (same_trace t w K u e c))
      ∙ sym (text_same A M t K.writes (trace A e 0 u) (trace_emits A t K.reads e 0 u c))

  pub text_ran : (u : List ℕ) (e : Bool) → Characters u → wrote u e ≡ ran_text t (ran t u e)
  text_ran u e c = text_own u e c ∙ ap (text_of A.write) (sym (ran_tells t w K u e).log)

  pub wrote_characters : (u : List ℕ) (e : Bool) → Characters u → Characters (wrote u e)
  wrote_characters u e c =
      subst Characters (sym (text_own u e c)) (text_characters t K.shaped K.safe (trace A e 0 u) (trace_emits A t K.reads e 0 u c))

  pub text_meaning : (u : List ℕ) → Characters u → wrote u true ≡ meaning_text t u
  text_meaning u c = text_own u true c ∙ ap (text_of A.write) (meaning_is t K.shaped u c).0 ∙ text_is t w K (convert t u).log

  pub status_meaning : (u : List ℕ) → Characters u → status_of (trace M true 0 u) ≡ ending (convert t u).closed
  status_meaning u c = ap status_of (sym (same_trace t w K u true c)) ∙ (meaning_is t K.shaped u c).1

  pub status_ran : (u : List ℕ) (e : Bool) → Characters u → status_of (trace M e 0 u) ≡ (ran t u e).status
  status_ran u e c = ap status_of (sym (same_trace t w K u e c)) ∙ sym (ran_tells t w K u e).status

  -- without the input's end nothing closes
  pub not_closed : (u : List ℕ) → Characters u → NotClosed (status_of (trace M false 0 u))
  unfolding ran
  not_closed u c = subst NotClosed (sym (status_ran u false c)) (run_unended (from_table t) (start [] u 0))

  -- once ended or stopped, what was written is the definition's text
  pub text_over : (u : List ℕ) (e : Bool) → Characters u → T (e || is_stopped (status_of (trace M e 0 u))) → wrote u e ≡ meaning_text t u
  text_over u e c h = ap (λ z. text_of M.write (log_of z)) (over_trace M u e h) ∙ text_meaning u c

  -- what was written so far is the front of the definition's text on every continuation
  pub text_front : (u more : List ℕ) → Characters (u ++ more) → (z : List ℕ) × (meaning_text t (u ++ more) ≡ wrote u false ++ z)
  text_front u more c = by (status_of (trace M false 0 u)) refl
    where
      whole : trace M true 0 (u ++ more) ≡ graft (trace M false 0 u) (λ h. trace M true 0 (h ++ more))
      whole = trace_graft M true more 0 u (omega arith)

      firm : status_of (trace M false 0 u) ≢ Open → (z : List ℕ) × (meaning_text t (u ++ more) ≡ wrote u false ++ z)
      firm h = (
        [],
        sym (text_meaning (u ++ more) c) ∙ ap (λ z. text_of M.write (log_of z)) (whole ∙ graft_stopped (trace M false 0 u) (λ h. trace M true 0 (h ++ more)) h)
            ∙ sym (append-nil (wrote u false)),
      )

      by : (s : Status) → status_of (trace M false 0 u) ≡ s → (z : List ℕ) × (meaning_text t (u ++ more) ≡ wrote u false ++ z)
      by Open e =
          let rest = trace M true 0 (held_of (trace M false 0 u) ++ more) in
          let j = graft_open (trace M false 0 u) (λ h. trace M true 0 (h ++ more)) e in (
            text_of M.write (log_of rest),
            sym (text_meaning (u ++ more) c) ∙ ap (λ z. text_of M.write (log_of z)) whole ∙ ap (text_of M.write) j.log
                ∙ text_append M.write (log_of (trace M false 0 u)) (log_of rest),
          )
      by Closed e = firm (λ o. not_open Closed tt (sym e ∙ o))
      by Stopped e = firm (λ o. not_open Stopped tt (sym e ∙ o))

-- The chain.
module _ (t₁ t₂ : Table) (w₁ w₂ : List ℕ) (K₁ : Matched t₁ w₁) (K₂ : Matched t₂ w₂) where
  module _ (u : List ℕ) (c : Characters u) where
    middle_characters : (e : Bool) → Characters (between w₁ w₂ u e)
    middle_characters e = wrote_characters t₁ w₁ K₁ u e c

    -- once the first ended or stopped, the second is lent the first definition's text
    middle_over : (e : Bool) → T (e || is_stopped (status_of (trace₁ w₁ w₂ u e))) → between w₁ w₂ u e ≡ meaning_text t₁ u
    middle_over e h = text_over t₁ w₁ K₁ u e c h

    -- with a finish accepted, where the first definition closes
    closing : (convert t₁ u).closed ≡ true → ended₂ w₁ w₂ u true ≡ true
    closing h = ap is_closed (status_meaning t₁ w₁ K₁ u c ∙ ap ending h)

    ended_trace : (convert t₁ u).closed ≡ true → trace₂ w₁ w₂ u true ≡ trace (from_words w₂) true 0 (meaning_text t₁ u)
    ended_trace h = λ i. trace (from_words w₂) (closing h i) 0 (middle_over true tt i)

    meaning_characters : Characters (meaning_text t₁ u)
    meaning_characters = subst Characters (middle_over true tt) (middle_characters true)

    ended_text : (convert t₁ u).closed ≡ true → written₂ w₁ w₂ u true ≡ meaning_text t₂ (meaning_text t₁ u)
    ended_text h = ap (λ z. text_of (from_words w₂).write (log_of z)) (ended_trace h) ∙ text_meaning t₂ w₂ K₂ (meaning_text t₁ u) meaning_characters

    ended_status : (convert t₁ u).closed ≡ true → status_of (trace₂ w₁ w₂ u true) ≡ ending (convert t₂ (meaning_text t₁ u)).closed
    ended_status h = ap status_of (ended_trace h) ∙ status_meaning t₂ w₂ K₂ (meaning_text t₁ u) meaning_characters

    -- the first's stop
    first_end : (e : Bool) → status_of (trace₁ w₁ w₂ u e) ≡ Stopped → ended₂ w₁ w₂ u e ≡ false
    first_end true h = ap is_closed h
    first_end false h = refl

    stops_trace : (e : Bool) → status_of (trace₁ w₁ w₂ u e) ≡ Stopped → trace₂ w₁ w₂ u e ≡ trace (from_words w₂) false 0 (meaning_text t₁ u)
    stops_trace e h =
        λ i. trace (from_words w₂) (first_end e h i) 0 (middle_over e (rw h (or_right e true tt)) i)

  -- the second's stop in a feed
  stopped_text : (u : List ℕ) → status_of (trace₂ w₁ w₂ u false) ≡ Stopped → (more : List ℕ) → Characters (u ++ more) →
      written₂ w₁ w₂ u false ≡ meaning_text t₂ (meaning_text t₁ (u ++ more))
  stopped_text u h more c =
      let y = between w₁ w₂ u false in
      let f = text_front t₁ w₁ K₁ u more c in
      let z = f.0 in
      let n : Characters (y ++ z) = subst Characters f.1 (meaning_characters (u ++ more) c) in
      ap (λ x. text_of (from_words w₂).write (log_of x)) (sym (stopped_firm (from_words w₂) y z true h))
      ∙ text_meaning t₂ w₂ K₂ (y ++ z) n
      ∙ ap (meaning_text t₂) (sym f.1)

  second_by : (u : List ℕ) → Characters u → (e : Bool) → status_of (trace₂ w₁ w₂ u e) ≡ Stopped → written₂ w₁ w₂ u e ≡ meaning_text t₂ (meaning_text t₁ u)
  second_by u c false h =
      let same : u ++ [] ≡ u = append-nil u in
      stopped_text u h [] (rw same c) ∙ ap (λ z. meaning_text t₂ (meaning_text t₁ z)) same
  second_by u c true h = by (convert t₁ u).closed refl
    where
      by : (b : Bool) → (convert t₁ u).closed ≡ b → written₂ w₁ w₂ u true ≡ meaning_text t₂ (meaning_text t₁ u)
      by true k = ended_text u c k
      by false k =
          let y = meaning_text t₁ u in
          let n = meaning_characters u c in
          let q = stops_trace u c true (status_meaning t₁ w₁ K₁ u c ∙ ap ending k) in
          let st : status_of (trace (from_words w₂) false 0 y) ≡ Stopped = ap status_of (sym q) ∙ h in
          ap (λ z. text_of (from_words w₂).write (log_of z)) q ∙ text_over t₂ w₂ K₂ y false n (rw st tt)

  text_by : (u : List ℕ) → Characters u → (e : Bool) → T (e || is_stopped (status_of (trace₂ w₁ w₂ u e))) → (convert t₁ u).closed ≡ true →
      written₂ w₁ w₂ u e ≡ meaning_text t₂ (meaning_text t₁ u)
  text_by u c true h k = ended_text u c k
  text_by u c false h k = second_by u c false (is_stopped_lem (status_of (trace₂ w₁ w₂ u false)) h)

  pub chain_agrees : SameNumbers (from_table t₁) (from_words w₁) (length (states t₁)) → SameNumbers (from_table t₂) (from_words w₂) (length (states t₂)) →
      (u : List ℕ) (e : Bool) (v : ChainServed) → Characters u → ChainStands w₁ w₂ u e v.first v.second → v.output ≡ written₂ w₁ w₂ u e →
      (let r₁ = ran t₁ u e in ChainAgrees t₁ t₂ u e v r₁ (ran t₂ (ran_text t₁ r₁) (e && is_closed r₁.status)))
  chain_agrees N₁ N₂ u e v c S out =
      let r₁ = ran t₁ u e in
      let y = between w₁ w₂ u e in
      let e₂ = ended₂ w₁ w₂ u e in
      let cy = middle_characters u c e in
      let y-is : y ≡ ran_text t₁ r₁ = text_ran t₁ w₁ K₁ u e c in
      let e-is : e₂ ≡ (e && is_closed r₁.status) = ap (λ z. e && is_closed z) (status_ran t₁ w₁ K₁ u e c) in
      let s₁ : v.first.status ≡ status_of (trace₁ w₁ w₂ u e) = ap (λ (z : Session). z.status) S.first in
      let s₂ : v.second.status ≡ status_of (trace₂ w₁ w₂ u e) = ap (λ (z : Session). z.status) S.second in
      subst₂ (λ z d. ChainAgrees t₁ t₂ u e v r₁ (ran t₂ z d)) y-is e-is
      (record {
        output = out ∙ text_ran t₂ w₂ K₂ y e₂ cy;
        first = S.first ∙ told_ran t₁ w₁ K₁ N₁ u e c;
        second = S.second ∙ told_ran t₂ w₂ K₂ N₂ y e₂ cy ∙ ap (λ z. session_by t₂ (ran t₂ y e₂) (length z)) y-is;
        text = λ h k. out ∙ text_by u c e (subst (λ z. T (e || is_stopped z)) s₂ h) k;
        first_closes = λ h.
            closed_iff v.first.status (convert t₁ u).closed (s₁ ∙ ap (λ z. status_of (trace₁ w₁ w₂ u z)) h ∙ status_meaning t₁ w₁ K₁ u c);
        closed = λ h k. closed_iff v.second.status (convert t₂ (meaning_text t₁ u)).closed
            (s₂ ∙ ap (λ z. status_of (trace₂ w₁ w₂ u z)) h ∙ ended_status u c k);
        second_stops = λ h. out ∙ second_by u c e (sym s₂ ∙ h);
        stopped = λ h k more m.
            out ∙ ap (written₂ w₁ w₂ u) h
            ∙ stopped_text u (ap (λ z. status_of (trace₂ w₁ w₂ u z)) (sym h) ∙ sym s₂ ∙ k) more (each_append (λ x. x < 65536) u more c m);
        first_stops = λ h k.
            let q = stops_trace u c e (sym s₁ ∙ k) in
            let text = meaning_text t₁ u in
            let fed : status_of (trace₂ w₁ w₂ u e) ≡ status_of (trace (from_words w₂) false 0 text) = ap status_of q in (
              s₂ ∙ fed ∙ left_open (status_of (trace (from_words w₂) false 0 text)) (not_closed t₂ w₂ K₂ text (meaning_characters u c)) (λ x. h (s₂ ∙ fed ∙ x)),
              out ∙ ap (λ z. text_of (from_words w₂).write (log_of z)) q ∙ text_ran t₂ w₂ K₂ text false (meaning_characters u c),
            );
      })

pieces_characters : (cs : List ChainCall) (answers : List (Outcome ChainAnswer)) → Each (λ c. Characters (piece c.call)) cs → Characters (chain_pieces cs answers)
pieces_characters [] answers a = tt
pieces_characters (c ∷ cs) [] a = tt
pieces_characters (c ∷ cs) (refused n ∷ answers) a = pieces_characters cs answers a.1
pieces_characters (c ∷ cs) (accepted x ∷ answers) a =
    each_append (λ x. x < 65536) (piece c.call) (chain_pieces cs answers) a.0 (pieces_characters cs answers a.1)

nothing_written : (w₁ w₂ : List ℕ) → written₂ w₁ w₂ [] false ≡ []
unfolding trace log_of text_of
nothing_written w₁ w₂ = refl

-- REQUEST 10, after any list of calls from fresh sessions
pub chains_agree : (t₁ t₂ : Table) (w₁ w₂ : List ℕ) → Compiled t₁ w₁ → Compiled t₂ w₂ → (cs : List ChainCall) → Each (λ c. Characters (piece c.call)) cs →
    ChainAgreed t₁ t₂ cs (serve_chain w₁ w₂ cs fresh fresh)
chains_agree t₁ t₂ w₁ w₂ C₁ C₂ cs a =
    let v = serve_chain w₁ w₂ cs fresh fresh in
    let R = chains_stand w₁ w₂ cs in
    chain_agrees t₁ t₂ w₁ w₂ (compiled_matched t₁ w₁ C₁) (compiled_matched t₂ w₂ C₂) (compiled_numbers t₁ w₁ C₁) (compiled_numbers t₂ w₂ C₂)
    (chain_pieces cs v.answers) (chain_ended cs v.answers) v (pieces_characters cs v.answers a) R.stands
    (ap (λ z. z ++ v.output) (sym (nothing_written w₁ w₂)) ∙ R.output)

-- Refusal 14.

receives : (s : Status) (m k : ℕ) → T (is_open s) → received_by s m k ≡ m
receives Open m k t = refl
receives Closed m k t = absurd t
receives Stopped m k t = absurd t

open_counted : (s : Status) (m k h : ℕ) → T (is_open s) → Counted s m k h → k + h ≡ m
open_counted Open m k h t c = c
open_counted Closed m k h t c = absurd t
open_counted Stopped m k h t c = absurd t

module _ (w₁ w₂ : List ℕ) (W₁ : T (sound w₁)) (u : List ℕ) (e : Bool) (s₁ s₂ : Session) (S : ChainStands w₁ w₂ u e s₁ s₂) (n : ℕ) where
  received₁ : T (is_open s₁.status) → s₁.received ≡ length u
  received₁ o =
      let st = ap (λ (z : Session). z.status) S.first in
      ap (λ (z : Session). z.received) S.first ∙ receives (status_of (trace₁ w₁ w₂ u e)) (length u) (covered (log_of (trace₁ w₁ w₂ u e))) (subst (λ z. T (is_open z)) st o)

  -- what the second received and the least middle length are at most E for each character
  received₂ : T (is_open s₁.status) → T (is_open s₂.status) → s₂.received + least_middle w₁ s₁ n ≤ expansion_word w₁ * (length u + n)
  received₂ o₁ o₂ =
      let E = expansion_word w₁ in
      let x = trace₁ w₁ w₂ u e in
      let G = sound_good w₁ W₁ in
      let st₁ = ap (λ (z : Session). z.status) S.first in
      let st₂ = ap (λ (z : Session). z.status) S.second in
      let r : s₂.received ≡ length (between w₁ w₂ u e) =
      ap (λ (z : Session). z.received) S.second
      ∙ receives (status_of (trace₂ w₁ w₂ u e)) (length (between w₁ w₂ u e)) (covered (log_of (trace₂ w₁ w₂ u e))) (subst (λ z. T (is_open z)) st₂ o₂) in
      let few : length (between w₁ w₂ u e) ≤ E * covered (log_of x) = trace_few (from_words w₁) (longest_word w₁) E (state_count w₁) G (sound_short w₁ W₁) e 0 u in
      let k : covered (log_of x) + length (held_of x) ≡ length u =
      open_counted (status_of x) (length u) (covered (log_of x)) (length (held_of x)) (subst (λ z. T (is_open z)) st₁ o₁)
      (bounded (from_words w₁) (longest_word w₁) (state_count w₁) G e u).counted in
      let h : s₁.count ≡ length (held_of x) = ap (λ (z : Session). z.count) S.first in
      least E (covered (log_of x)) (length (held_of x)) n s₂.received s₁.count (length u) (subst (λ z. z ≤ E * covered (log_of x)) (sym r) few) h k
    where
      least : (E c h n r k m : ℕ) → r ≤ E * c → k ≡ h → c + h ≡ m → r + E * (k + n) ≤ E * (m + n)
      least E c h n r k m a b d = rw (b, ← d) (omega arith)

  module _ (c : ChainCall) (sized : length (piece c.call) ≡ n) (total : length u + n ≤ limit) (most : expansion_word w₁ * (length u + n) ≤ limit) where
    abbrev Not14 : Outcome (Unit {0}) → Type 0
    Not14 o = (chain_by w₁ w₂ s₁ s₂ o c).answer ≢ refused 14

    other : (k : ℕ) → k ≢ 14 → ◌≢◌ {A = Outcome ChainAnswer} (refused k) (refused 14)
    other k d q = d (refused_same k 14 q)

    not_limited : (middle room : ℕ) → Not14 (admits_chain w₁ w₂ s₁ s₂ n middle room)
    unfolding admits_chain
    not_limited middle room =
        by_cases Not14 _ (accepted tt) (
          λ _. other 11 (omega arith),
          λ _. (
            λ _. other 11 (omega arith),
            λ _. (
              λ _. other 12 (omega arith),
              λ _. (
                λ _. other 12 (omega arith),
                λ _. (
                  λ _. other 13 (omega arith),
                  λ x. (
                    λ _. other 13 (omega arith),
                    λ y. (
                      (λ z. absurd (let o₁ = not_not (is_open s₁.status) x in
                          let l = ltb→lt limit (s₁.received + n) z in let r = received₁ o₁ in omega arith)),
                      λ _. (
                        (λ z. absurd (let o₁ = not_not (is_open s₁.status) x in let o₂ = not_not (is_open s₂.status) y in
                            let l = ltb→lt limit (s₂.received + least_middle w₁ s₁ n) z in let r = received₂ o₁ o₂ in omega arith)),
                        λ _. (λ _. other 18 (omega arith), λ _. (λ _. other 15 (omega arith), λ _ q. accepted_not _ 14 q)),
                      ),
                    ),
                  ),
                ),
              ),
            ),
          ),
        )

pub chain_limited : (t₁ : Table) (w₁ w₂ : List ℕ) → Compiled t₁ w₁ → (cs : List ChainCall) (c : ChainCall) →
    (let v = serve_chain w₁ w₂ cs fresh fresh in
    let n = length (chain_pieces cs v.answers) + length (piece c.call) in
    n ≤ limit → expansion t₁ * n ≤ limit → (chained w₁ w₂ v.first v.second c).answer ≢ refused 14)
unfolding chained
chain_limited t₁ w₁ w₂ C₁ cs c h k =
    let K₁ = compiled_matched t₁ w₁ C₁ in
    let v = serve_chain w₁ w₂ cs fresh fresh in
    let R = chains_stand w₁ w₂ cs in
    let m = length (chain_pieces cs v.answers) + length (piece c.call) in
    not_limited w₁ w₂ K₁.sound_words (chain_pieces cs v.answers) (chain_ended cs v.answers) v.first v.second R.stands (length (piece c.call)) c refl h
    (subst (λ E. E * m ≤ limit) (sym K₁.expands) k) (length c.middle) (room c.call)

-- A chain that ended takes no more calls.
chain_over : (w₁ w₂ : List ℕ) (s₁ s₂ : Session) (c : ChainCall) → T (sound w₁) → T (sound w₂) → T (sound_session w₁ s₁) → T (sound_session w₂ s₂) →
    T (not (is_open s₁.status && is_open s₂.status)) → (chained w₁ w₂ s₁ s₂ c).answer ≡ refused 13
unfolding chained admits_chain
chain_over w₁ w₂ s₁ s₂ c W₁ W₂ q₁ q₂ h =
    by_cases (λ o. (chain_by w₁ w₂ s₁ s₂ o c).answer ≡ refused 13) _ (accepted tt) (
      λ n. absurd (T_not (sound w₁) n W₁),
      λ _. (
        λ n. absurd (T_not (sound w₂) n W₂),
        λ _. (
          λ n. absurd (T_not (sound_session w₁ s₁) n q₁),
          λ _. (
            λ n. absurd (T_not (sound_session w₂ s₂) n q₂),
            λ _. (
              λ _. refl,
              λ x. (
                λ _. refl,
                λ y.
                    absurd (T_not (is_open s₁.status && is_open s₂.status) h
                    (both (is_open s₁.status) (is_open s₂.status) (not_not (is_open s₁.status) x) (not_not (is_open s₂.status) y))),
              ),
            ),
          ),
        ),
      ),
    )

not_both : (s : Status) (other : Bool) → NotOpen s → T (not (is_open s && other))
not_both Open other n = absurd n
not_both Closed other n = tt
not_both Stopped other n = tt

-- a finish that was accepted leaves the first no longer open
ended_over : (w₁ w₂ u : List ℕ) (e : Bool) (s₁ s₂ : Session) → ChainStands w₁ w₂ u e s₁ s₂ → T (e || not (is_open s₁.status && is_open s₂.status)) →
    T (not (is_open s₁.status && is_open s₂.status))
ended_over w₁ w₂ u false s₁ s₂ S h = h
ended_over w₁ w₂ u true s₁ s₂ S h =
    not_both s₁.status (is_open s₂.status) (subst NotOpen (sym (ap (λ (z : Session). z.status) S.first)) (trace_ended (from_words w₁) 0 u))

pub chain_ends : (w₁ w₂ : List ℕ) → T (sound w₁) → T (sound w₂) → (cs : List ChainCall) (c : ChainCall) →
    (let v = serve_chain w₁ w₂ cs fresh fresh in
    T (chain_ended cs v.answers || not (is_open v.first.status && is_open v.second.status)) → (chained w₁ w₂ v.first v.second c).answer ≡ refused 13)
chain_ends w₁ w₂ W₁ W₂ cs c h =
    let v = serve_chain w₁ w₂ cs fresh fresh in
    let S = (chains_stand w₁ w₂ cs).stands in
    chain_over w₁ w₂ v.first v.second c W₁ W₂ S.kept₁ S.kept₂
    (ended_over w₁ w₂ (chain_pieces cs v.answers) (chain_ended cs v.answers) v.first v.second S h)

-- Demand 1.
module _ (w₁ w₂ : List ℕ) (s₁ s₂ : Session) (c : ChainCall) where
  abbrev n : ℕ
  n = length (piece c.call)

  abbrev Tested : Outcome (Unit {0}) → Type 0
  Tested o = ChainAdmits w₁ w₂ s₁ s₂ n (length c.middle) (room c.call) o

  answers_by : (o : Outcome (Unit {0})) → Tested o → ChainAnswers s₁ s₂ c (chain_by w₁ w₂ s₁ s₂ o c)
  answers_by (refused k) h = record {
    numbered = h;
    unchanged = λ m e. (refl, refl, refl, refl);
    answered = λ a e. absurd (accepted_not a k (sym e));
    beyond = λ a e. refl;
    beyond_middle = λ m e. refl;
    whole = refl;
    whole_middle = refl;
  }
  answers_by (accepted x) h =
      let p = piece c.call in
      let e = ends c.call in
      let text₁ = text_on w₁ s₁ p e in
      let e₂ = e && is_closed (ran_on w₁ s₁ p e).status in
      let text = text_on w₂ s₂ text₁ e₂ in
      let most : length text ≤ expansion_word w₂ * (s₂.count + length text₁) = text_most w₂ s₂ text₁ e₂ h.words₂ h.kept₂ h.open₂ in
      let enough = (second_admitted w₁ w₂ s₁ s₂ p e (length c.middle) (room c.call) h).passed.2 in
      record {
        numbered = tt;
        unchanged = λ m z. absurd (accepted_not _ m z);
        answered = λ a z.
            let same = accepted_same _ a z in (
              ap (λ (b : ChainAnswer). s₂.produced + b.count) same,
              sym (ap (λ (b : ChainAnswer). b.first) same),
              sym (ap (λ (b : ChainAnswer). b.second) same),
            );
        beyond = λ a z. over_beyond text (buffer_of c.call) a.count (sym (ap (λ (b : ChainAnswer). b.count) (accepted_same _ a z)));
        beyond_middle = λ m z. over_beyond text₁ c.middle m (omega arith);
        whole = over_whole text (buffer_of c.call) (omega arith);
        whole_middle = over_whole text₁ c.middle (between_fits w₁ w₂ s₁ s₂ p e (length c.middle) (room c.call) h);
      }

pub chain_calls_answer : ChainCallsAnswer
unfolding ChainCallsAnswer chained
chain_calls_answer w₁ w₂ s₁ s₂ c =
    answers_by w₁ w₂ s₁ s₂ c (admits_chain w₁ w₂ s₁ s₂ (length (piece c.call)) (length c.middle) (room c.call))
    (chain_admission w₁ w₂ s₁ s₂ (length (piece c.call)) (length c.middle) (room c.call))
