-- A chain's calls leave, of each machine, the session that its trace tells: the first's of the accepted pieces, the second's of what the
-- first's trace wrote. Each accepted call makes both traces go on.
use mathlib.Core.Bool.{Bool, true, false, ◌&&◌, ◌||◌, not, or-false}
use mathlib.Core.List.{List, [], ◌∷◌, ◌++◌, append_assoc, append-nil}
use mathlib.Core.Path.{◌≡◌, refl, sym, ap, subst, ◌∙◌}
use Prim.Native.Nat.{ℕ, ◌+◌, ◌*◌, ◌≤◌}
use native.Mathlib.Nat.{mul-le-mul_left}
use native.Mathlib.Omega.{arith}
use lib.Dec.{T, nltb→le}
use lib.ListN.{length, drop}
use borrow.Author.Tests.{le-ltb}
use lib.Seq.{take-append_seam}
use Rattle.lists.proofs.Laws.Tests.{of_T, not_not, by_cases}
use Rattle.lists.proofs.Laws.Parts.{length_pad}
use Rattle.meaning.specs.Refusal.{Outcome, refused, accepted}
use Rattle.meaning.specs.Meaning.{text_of}
use Rattle.meaning.specs.Direct.{limit}
use Rattle.meaning.proofs.Laws.Refusal.{Says, accepted_not}
use Rattle.automaton.specs.Sound.{sound, expansion_word, longest_word, state_count}
use Rattle.automaton.specs.Automaton.{Automaton, from_words}
use Rattle.automaton.proofs.Laws.Words.{sound_good, sound_longest}
use Rattle.reckoning.specs.Machine.{Open}
use Rattle.reckoning.specs.Session.{Session, fresh, is_open, sound_session}
use Rattle.reckoning.specs.Calls.{ran_on, text_on, left_on}
use Rattle.reckoning.specs.Reckoning.{piece, buffer_of, room, ends}
use Rattle.reckoning.specs.Chain.{ChainCall, ChainAnswer, ChainOutcome, least_middle, is_closed, admits_chain, chain_by, chained, chain_refusals, ChainAdmitted, ChainTests}
use Rattle.reckoning.specs.ChainServes.{ChainServed, chain_output, chain_seen, chain_pieces, chain_ended}
use Rattle.reckoning.proofs.Laws.Trace.{Trace, trace, log_of, held_of, status_of}
use Rattle.reckoning.proofs.Laws.Rounds.{not_open, trace_ended}
use Rattle.reckoning.proofs.Laws.Kept.{fresh_sound, kept_sound, sound_facts}
use Rattle.reckoning.proofs.Laws.Admitting.{select_next, select_none}
use Rattle.reckoning.proofs.Laws.Answers.{is_open_lem, Admitted, text_most}
use Rattle.reckoning.proofs.Laws.Calls.{told, fresh_told, text_later, session_later}
use Rattle.reckoning.proofs.Laws.InTurn.{outcomes_of, state_after}

module _ (w₁ w₂ : List ℕ) (s₁ s₂ : Session) (n middle room : ℕ) where
  abbrev pub ChainAdmits : Outcome (Unit {0}) → Type 0
  ChainAdmits o = Says chain_refusals (λ _. ChainAdmitted w₁ w₂ s₁ s₂ n middle room) o

  pub chain_admission : ChainAdmits (admits_chain w₁ w₂ s₁ s₂ n middle room)
  unfolding admits_chain
  chain_admission =
      by_cases ChainAdmits _ (accepted tt) (
        λ _. tt,
        λ a. (
          λ _. tt,
          λ b. (
            λ _. tt,
            λ c. (
              λ _. tt,
              λ d. (
                λ _. tt,
                λ e. (
                  λ _. tt,
                  λ f. (
                    λ _. tt,
                    λ g. (
                      λ _. tt,
                      λ h. (
                        λ _. tt,
                        λ i. (
                          λ _. tt,
                          λ j.
                              record {
                                words₁ = not_not (sound w₁) a;
                                words₂ = not_not (sound w₂) b;
                                kept₁ = not_not (sound_session w₁ s₁) c;
                                kept₂ = not_not (sound_session w₂ s₂) d;
                                open₁ = is_open_lem s₁.status (not_not (is_open s₁.status) e);
                                open₂ = is_open_lem s₂.status (not_not (is_open s₂.status) f);
                                limit₁ = nltb→le limit (s₁.received + n) g;
                                limit₂ = nltb→le limit (s₂.received + least_middle w₁ s₁ n) h;
                                enough = nltb→le middle (least_middle w₁ s₁ n) i;
                                room_left = nltb→le room (expansion_word w₂ * (s₂.count + least_middle w₁ s₁ n)) j;
                              },
                        ),
                      ),
                    ),
                  ),
                ),
              ),
            ),
          ),
        ),
      )

  -- and where all of it holds the call passes
  chain_passes : ChainAdmitted w₁ w₂ s₁ s₂ n middle room → admits_chain w₁ w₂ s₁ s₂ n middle room ≡ accepted tt
  unfolding admits_chain
  chain_passes h =
      select_next _ _ _ (ap not (of_T (sound w₁) h.words₁))
      ∙ select_next _ _ _ (ap not (of_T (sound w₂) h.words₂))
      ∙ select_next _ _ _ (ap not (of_T (sound_session w₁ s₁) h.kept₁))
      ∙ select_next _ _ _ (ap not (of_T (sound_session w₂ s₂) h.kept₂))
      ∙ select_next _ _ _ (ap (λ z. not (is_open z)) h.open₁)
      ∙ select_next _ _ _ (ap (λ z. not (is_open z)) h.open₂)
      ∙ select_next _ _ _ (le-ltb limit (s₁.received + n) h.limit₁)
      ∙ select_next _ _ _ (le-ltb limit (s₂.received + least_middle w₁ s₁ n) h.limit₂)
      ∙ select_next _ _ _ (le-ltb middle (least_middle w₁ s₁ n) h.enough)
      ∙ select_next _ _ _ (le-ltb room (expansion_word w₂ * (s₂.count + least_middle w₁ s₁ n)) h.room_left)
      ∙ select_none (accepted tt)

passed_by_lem : (w₁ w₂ : List ℕ) (s₁ s₂ : Session) (c : ChainCall) (o : Outcome (Unit {0})) →
    ChainAdmits w₁ w₂ s₁ s₂ (length (piece c.call)) (length c.middle) (room c.call) o → (a : ChainAnswer) → (chain_by w₁ w₂ s₁ s₂ o c).answer ≡ accepted a →
    ChainAdmitted w₁ w₂ s₁ s₂ (length (piece c.call)) (length c.middle) (room c.call)
passed_by_lem w₁ w₂ s₁ s₂ c (refused k) h a e = absurd (accepted_not a k (sym e))
passed_by_lem w₁ w₂ s₁ s₂ c (accepted x) h a e = h

-- ACCEPTED EXACTLY WHEN the tests pass
pub chain_tests : ChainTests
unfolding ChainTests chained
chain_tests w₁ w₂ s₁ s₂ c =
    let n = length (piece c.call) in
    let m = length c.middle in
    let r = room c.call in
    (passed_by_lem w₁ w₂ s₁ s₂ c (admits_chain w₁ w₂ s₁ s₂ n m r) (chain_admission w₁ w₂ s₁ s₂ n m r), λ h. (_, ap (λ o. (chain_by w₁ w₂ s₁ s₂ o c).answer) (chain_passes w₁ w₂ s₁ s₂ n m r h)))

-- What the chain's tests passed is what each machine's own tests ask: the first over the piece, the second over what the first writes.
module _ (w₁ w₂ : List ℕ) (s₁ s₂ : Session) (p : List ℕ) (e : Bool) (middle room : ℕ) (h : ChainAdmitted w₁ w₂ s₁ s₂ (length p) middle room) where
  pub first_admitted : Admitted w₁ s₁ (length p) middle
  first_admitted = record { sound_words = h.words₁; sound_session_lem = h.kept₁; passed = (h.open₁, h.limit₁, h.enough) }

  between_least : length (text_on w₁ s₁ p e) ≤ least_middle w₁ s₁ (length p)
  between_least = text_most w₁ s₁ p e h.words₁ h.kept₁ h.open₁

  pub between_fits : length (text_on w₁ s₁ p e) ≤ middle
  between_fits = omega (arith, between_least, h.enough)

  pub second_admitted : Admitted w₂ s₂ (length (text_on w₁ s₁ p e)) room
  second_admitted =
      let few = between_least in
      let sum : s₂.count + length (text_on w₁ s₁ p e) ≤ s₂.count + least_middle w₁ s₁ (length p) = omega arith in
      let most = mul-le-mul_left (expansion_word w₂) sum in
      let lim = h.limit₂ in
      let enough = h.room_left in
      record { sound_words = h.words₂; sound_session_lem = h.kept₂; passed = (h.open₂, omega arith, omega arith) }

-- One machine, whose session is told by the trace over u, goes on over p.
pub record GoesOn (w : List ℕ) (s : Session) (u p : List ℕ) (e : Bool) : Type 0 where
  pub session : left_on w s p e ≡ told (from_words w) (trace (from_words w) e 0 (u ++ p)) (length (u ++ p))
  pub text : text_of (from_words w).write (log_of (trace (from_words w) false 0 u)) ++ text_on w s p e ≡ text_of (from_words w).write (log_of (trace (from_words w) e 0 (u ++ p)))
  pub kept : T (sound_session w (left_on w s p e))
  pub status : (ran_on w s p e).status ≡ status_of (trace (from_words w) e 0 (u ++ p))

pub goes_on : (w : List ℕ) → T (sound w) → (s : Session) (u : List ℕ) → s ≡ told (from_words w) (trace (from_words w) false 0 u) (length u) →
    T (sound_session w s) → s.status ≡ Open → (p : List ℕ) → s.received + length p ≤ limit → (e : Bool) → GoesOn w s u p e
goes_on w W s u is kept o p fits e =
    let B = from_words w in
    let before = trace B false 0 u in
    let open-before : status_of before ≡ Open = sym (ap (λ (z : Session). z.status) is) ∙ o in
    let few : length (held_of before) ≤ 8 = subst (λ (z : Session). z.count ≤ 8) is (sound_facts w s kept).places in
    let eight : length s.held ≡ 8 = ap (λ (z : Session). length z.held) is ∙ length_pad 8 (held_of before) in
    let left = session_later B (longest_word w) (state_count w) (sound_good w W) (sound_longest w W) e u p open-before few in
    let session : left_on w s p e ≡ told B (trace B e 0 (u ++ p)) (length (u ++ p)) = ap (λ (z : Session). left_on w z p e) is ∙ left in
    record {
      session = session;
      text = ap (λ (z : Session). text_of B.write (log_of before) ++ text_on w z p e) is
          ∙ text_later B (longest_word w) (state_count w) (sound_good w W) (sound_longest w W) e u p open-before few;
      kept = kept_sound w W s p e kept o eight fits;
      status = ap (λ (z : Session). z.status) session;
    }

module _ (w₁ w₂ : List ℕ) where
  abbrev pub M₁ : Automaton
  M₁ = from_words w₁

  abbrev pub M₂ : Automaton
  M₂ = from_words w₂

  -- what the first wrote of u, whether the second has its end then, and what the second wrote of that
  abbrev pub trace₁ : List ℕ → Bool → Trace
  trace₁ u e = trace M₁ e 0 u

  abbrev pub between : List ℕ → Bool → List ℕ
  between u e = text_of M₁.write (log_of (trace₁ u e))

  abbrev pub ended₂ : List ℕ → Bool → Bool
  ended₂ u e = e && is_closed (status_of (trace₁ u e))

  abbrev pub trace₂ : List ℕ → Bool → Trace
  trace₂ u e = trace M₂ (ended₂ u e) 0 (between u e)

  abbrev pub written₂ : List ℕ → Bool → List ℕ
  written₂ u e = text_of M₂.write (log_of (trace₂ u e))

  pub record ChainStands (u : List ℕ) (e : Bool) (s₁ s₂ : Session) : Type 0 where
    pub first : s₁ ≡ told M₁ (trace₁ u e) (length u)
    pub second : s₂ ≡ told M₂ (trace₂ u e) (length (between u e))
    pub kept₁ : T (sound_session w₁ s₁)
    pub kept₂ : T (sound_session w₂ s₂)

  -- an accepted call
  module _ (s₁ s₂ : Session) (c : ChainCall)
      (a : ChainAdmitted w₁ w₂ s₁ s₂ (length (piece c.call)) (length c.middle) (room c.call)) where
    abbrev p : List ℕ
    p = piece c.call

    abbrev e' : Bool
    e' = ends c.call

    abbrev text₁ : List ℕ
    text₁ = text_on w₁ s₁ p e'

    abbrev e₂ : Bool
    e₂ = e' && is_closed (ran_on w₁ s₁ p e').status

    fits₂ : s₂.received + length text₁ ≤ limit
    fits₂ =
        let k = text_most w₁ s₁ p e' a.words₁ a.kept₁ a.open₁ in
        let l = a.limit₂ in
        omega arith

    chain_goes : (u : List ℕ) → ChainStands u false s₁ s₂ →
        ChainStands (u ++ p) e' (left_on w₁ s₁ p e') (left_on w₂ s₂ text₁ e₂) × (written₂ u false ++ text_on w₂ s₂ text₁ e₂ ≡ written₂ (u ++ p) e')
    chain_goes u S =
        let one = goes_on w₁ a.words₁ s₁ u S.first a.kept₁ a.open₁ p a.limit₁ e' in
        let two = goes_on w₂ a.words₂ s₂ (between u false) S.second a.kept₂ a.open₂ text₁ fits₂ e₂ in
        let end_is : e₂ ≡ ended₂ (u ++ p) e' = ap (λ z. e' && is_closed z) one.status in
        let trace-is : trace M₂ e₂ 0 (between u false ++ text₁) ≡ trace₂ (u ++ p) e' = λ i. trace M₂ (end_is i) 0 (one.text i) in (
          record {
            first = one.session;
            second = two.session ∙ (λ i. told M₂ (trace-is i) (length (one.text i)));
            kept₁ = one.kept;
            kept₂ = two.kept;
          },
          two.text ∙ ap (λ z. text_of M₂.write (log_of z)) trace-is,
        )

  -- the calls by the outcome function, and what a caller sees of a list of them
  abbrev pub chain_called : Session × Session → ChainCall → ChainOutcome
  chain_called s c = chained w₁ w₂ s.0 s.1 c

  abbrev pub both_left : ChainOutcome → Session × Session
  both_left o = (o.first, o.second)

  abbrev pub serve_chain : List ChainCall → Session → Session → ChainServed
  serve_chain cs s₁ s₂ = chain_seen s₁ s₂ (outcomes_of chain_called both_left (s₁, s₂) cs)

  pub chain_after : (cs : List ChainCall) (s₁ s₂ : Session) →
      state_after chain_called both_left (s₁, s₂) cs ≡ ((serve_chain cs s₁ s₂).first, (serve_chain cs s₁ s₂).second)
  unfolding outcomes_of state_after
  chain_after [] s₁ s₂ = refl
  chain_after (c ∷ cs) s₁ s₂ = let o = chained w₁ w₂ s₁ s₂ c in chain_after cs o.first o.second

  -- what a list of calls from there came to
  pub record ChainReached (cs : List ChainCall) (u : List ℕ) (e : Bool) (v : ChainServed) : Type 0 where
    pub stands : ChainStands (u ++ chain_pieces cs v.answers) (e || chain_ended cs v.answers) v.first v.second
    pub output : written₂ u e ++ v.output ≡ written₂ (u ++ chain_pieces cs v.answers) (e || chain_ended cs v.answers)

  -- the first call's outcome, and what the others came to
  abbrev onward : ChainOutcome → ChainServed → ChainServed
  onward o rest =
      record {
        answers = o.answer ∷ rest.answers;
        output = chain_output o.answer o.output ++ rest.output;
        first = rest.first;
        second = rest.second;
      }

  call_stands : (c : ChainCall) (cs : List ChainCall) (u : List ℕ) (e : Bool) (s₁ s₂ : Session) → ChainStands u e s₁ s₂ → (o : Outcome (Unit {0})) →
      ChainAdmits w₁ w₂ s₁ s₂ (length (piece c.call)) (length c.middle) (room c.call) o →
      ((u' : List ℕ) (e' : Bool) (s₁' s₂' : Session) → ChainStands u' e' s₁' s₂' → ChainReached cs u' e' (serve_chain cs s₁' s₂')) →
      (let x = chain_by w₁ w₂ s₁ s₂ o c in ChainReached (c ∷ cs) u e (onward x (serve_chain cs x.first x.second)))
  call_stands c cs u e s₁ s₂ S (refused n) h ih =
      let rest = ih u e s₁ s₂ S in
      record { stands = rest.stands; output = rest.output }
  call_stands c cs u true s₁ s₂ S (accepted x) a ih =
      absurd (not_open _ (trace_ended M₁ 0 u) (sym (ap (λ (z : Session). z.status) S.first) ∙ a.open₁))
  call_stands c cs u false s₁ s₂ S (accepted x) a ih =
      let next = chain_goes s₁ s₂ c a u S in
      let text = text_on w₂ s₂ (text_on w₁ s₁ (piece c.call) (ends c.call)) (ends c.call && is_closed (ran_on w₁ s₁ (piece c.call) (ends c.call)).status) in
      let s₁' = left_on w₁ s₁ (piece c.call) (ends c.call) in
      let s₂' = left_on w₂ s₂ (text_on w₁ s₁ (piece c.call) (ends c.call)) (ends c.call && is_closed (ran_on w₁ s₁ (piece c.call) (ends c.call)).status) in
      let rest = ih (u ++ piece c.call) (ends c.call) s₁' s₂' next.0 in
      let v = serve_chain cs s₁' s₂' in
      let joins : u ++ piece c.call ++ chain_pieces cs v.answers ≡ u ++ (piece c.call ++ chain_pieces cs v.answers) =
      append_assoc u (piece c.call) (chain_pieces cs v.answers) in
      record {
        stands = subst (λ z. ChainStands z (ends c.call || chain_ended cs v.answers) v.first v.second) joins rest.stands;
        output =
            ap (λ z. written₂ u false ++ (z ++ v.output)) (take-append_seam text (drop (length text) (buffer_of c.call)))
            ∙ sym (append_assoc (written₂ u false) text v.output)
            ∙ ap (λ z. z ++ v.output) next.1
            ∙ rest.output
            ∙ ap (λ z. written₂ z (ends c.call || chain_ended cs v.answers)) joins;
      }

  pub chain_stands : (cs : List ChainCall) (u : List ℕ) (e : Bool) (s₁ s₂ : Session) → ChainStands u e s₁ s₂ → ChainReached cs u e (serve_chain cs s₁ s₂)
  unfolding outcomes_of chained
  chain_stands [] u e s₁ s₂ S =
      let z : u ++ [] ≡ u = append-nil u in
      let y : e || false ≡ e = or-false e in
      record { stands = rw (z, y) S; output = append-nil (written₂ u e) ∙ (λ i. written₂ (sym z i) (sym y i)) }
  chain_stands (c ∷ cs) u e s₁ s₂ S =
      let n = length (piece c.call) in
      call_stands c cs u e s₁ s₂ S (admits_chain w₁ w₂ s₁ s₂ n (length c.middle) (room c.call))
      (chain_admission w₁ w₂ s₁ s₂ n (length c.middle) (room c.call)) (λ u' e' s₁' s₂' S'. chain_stands cs u' e' s₁' s₂' S')

  chain_first : ChainStands [] false fresh fresh
  unfolding trace log_of text_of
  chain_first = record { first = fresh_told M₁; second = fresh_told M₂; kept₁ = fresh_sound w₁; kept₂ = fresh_sound w₂ }

  -- after any list of calls from fresh sessions
  pub chains_stand : (cs : List ChainCall) → ChainReached cs [] false (serve_chain cs fresh fresh)
  chains_stand cs = chain_stands cs [] false fresh fresh chain_first
