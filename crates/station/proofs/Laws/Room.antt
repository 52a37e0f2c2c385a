-- A conversion in two pieces is not refused where the lengths suffice.
-- What is written is at most E for each character consumed, so that the rest of the output has E for each that is held or to come.
use mathlib.Core.Bool.{Bool, true, false, not}
use mathlib.Core.List.{List, ◌++◌}
use mathlib.Core.Path.{◌≡◌, refl, sym, ap, subst, ◌∙◌}
use Prim.Native.Nat.{ℕ, ◌+◌, ◌-◌, ◌*◌, ◌≤◌}
use native.Mathlib.Omega.{arith}
use lib.Dec.{T, ltb→lt}
use lib.ListN.{length, take, drop, length-append, length-take, length-drop}
use Rattle.lists.proofs.Laws.Tests.{not_not, by_cases}
use Rattle.lists.proofs.Laws.Parts.{length_pad}
use Rattle.lists.specs.Lists.{pad}
use Rattle.meaning.specs.Refusal.{Outcome, accepted}
use Rattle.meaning.specs.Meaning.{text_of}
use Rattle.meaning.specs.Direct.{limit}
use Rattle.meaning.proofs.Laws.Described.{well_formed_shaped}
use Rattle.automaton.specs.Layout.{word_count, words}
use Rattle.automaton.specs.Sound.{sound, expansion_word}
use Rattle.automaton.specs.Automaton.{from_words}
use Rattle.automaton.proofs.Laws.Places.{layout_expansion}
use Rattle.automaton.proofs.Laws.Sound.{compiled_sound}
use Rattle.automaton.proofs.Laws.Compile.{compile_accepts}
use Rattle.reckoning.specs.Machine.{Status, Open, Closed, Stopped}
use Rattle.reckoning.specs.Session.{Session, fresh, is_open, sound_session}
use Rattle.reckoning.specs.Calls.{CallOutcome, admits, received_by, resumed, call_by}
use Rattle.reckoning.specs.Reckoning.{Call, of_feed, of_finish, piece, buffer_of, room, ends, called}
use Rattle.reckoning.specs.Claims.{CallsAnswer}
use Rattle.reckoning.proofs.Laws.Kept.{sound_facts, fresh_sound, kept_sound}
use Rattle.reckoning.proofs.Laws.Answers.{called_by_lem, calls_answer}
use Rattle.station.specs.Two.{Turn, count_of, passed_by, turn, feed_on, finish_on, rest_of, pieces, in_two}
use Rattle.station.specs.Claims.{rest_from, after_first, after_second, Passes}
use Rattle.station.proofs.Laws.Calls.{counted, goes_on}

contrary : (b : Bool) → T b → T (not b) → ⊥
contrary true a n = n
contrary false a n = a

pub open_is : (s : Status) → T (is_open s) → s ≡ Open
open_is Open t = refl
open_is Closed t = absurd t
open_is Stopped t = absurd t

pub not_open : (s : Status) → T (not (is_open s)) → s ≡ Open → ⊥
not_open s t e = subst (λ z. T (not (is_open z))) e t

open_received : (s : Status) (received gone : ℕ) → s ≡ Open → received_by s received gone ≡ received
open_received s received gone e = ap (λ z. received_by z received gone) e

-- d consumed and h held, p written
room_left : (E d h n p len : ℕ) → p ≤ E * d → E * (d + h + n) ≤ len → E * (h + n) ≤ len - p
room_left E d h n p len few enough = omega arith

module _ (w : List ℕ) (W : T (sound w)) where
  -- a call of a session with k written passes, and leaves a sound one, which has received all if it is open
  record After (o : CallOutcome) (k total : ℕ) : Type 0 where
    sound : T (sound_session w o.session)
    eight : length o.session.held ≡ 8
    all : o.session.status ≡ Open → o.session.received ≡ total
    produced : o.session.produced ≡ k + count_of o.answer
    passed : passed_by o.answer ≡ accepted tt

  after : (s : Session) (k total : ℕ) (c : Call) → T (sound_session w s) → length s.held ≡ 8 → (s.status ≡ Open → s.received ≡ total) → s.produced ≡ k →
      (s.status ≡ Open → (s.received + length (piece c) ≤ limit) × (expansion_word w * (s.count + length (piece c)) ≤ room c)) →
      After (called w s c) k (total + length (piece c))
  unfolding admits
  after s k total c sn eight all produced space =
      let n = length (piece c) in
      let out : Outcome (Unit {0}) → CallOutcome = λ o. call_by o (from_words w) s (piece c) (ends c) (buffer_of c) in
      let r = resumed (from_words w) s (piece c) (ends c) in
      let text = text_of (from_words w).write r.final.log in
      rw (called_by_lem w s c)
      (by_cases (λ o. After (out o) k (total + n)) _ (accepted tt) (
        λ x. absurd (contrary (sound w) W x),
        λ _. (
          λ x. absurd (contrary (sound_session w s) sn x),
          λ _. (
            λ x. record {
              sound = sn;
              eight = eight;
              all = λ e. absurd (not_open s.status x e);
              produced = let same : k ≡ k + 0 = omega arith in produced ∙ same;
              passed = refl;
            },
            λ x.
                let waits : s.status ≡ Open = open_is s.status (not_not (is_open s.status) x) in (
                  λ y. absurd (omega (arith, ltb→lt limit (s.received + n) y, (space waits).0)),
                  λ _. (
                    λ z. absurd (omega (arith, ltb→lt (room c) (expansion_word w * (s.count + n)) z, (space waits).1)),
                    λ _. record {
                      sound = kept_sound w W s (piece c) (ends c) sn waits eight (space waits).0;
                      eight = length_pad 8 r.final.store;
                      all = λ e. open_received r.status (s.received + n) _ e ∙ ap (λ z. z + n) (all waits);
                      produced = ap (λ z. z + length text) produced;
                      passed = refl;
                    },
                  ),
                ),
          ),
        ),
      ))

  -- how far the calls have come, with so many characters in all and an output of this length
  record Fine (x : Turn × List ℕ) (total len : ℕ) : Type 0 where
    sound : T (sound_session w x.0.session)
    eight : length x.0.session.held ≡ 8
    all : x.0.session.status ≡ Open → x.0.session.received ≡ total
    produced : x.0.session.produced ≡ x.0.written
    within : x.0.written ≤ length x.1
    long : length x.1 ≡ len

  step : (x : Turn × List ℕ) (total len : ℕ) (c : Call) → Fine x total len → buffer_of c ≡ rest_from x →
      total + length (piece c) ≤ limit → expansion_word w * (total + length (piece c)) ≤ len →
      (let v = turn x.0.written x.1 (called w x.0.session c) in Fine v (total + length (piece c)) len × (v.0.answer ≡ accepted tt))
  unfolding CallsAnswer
  step x total len c f lent fits enough =
      let s = x.0.session in
      let k = x.0.written in
      let n = length (piece c) in
      let o = called w s c in
      let facts = sound_facts w s f.sound in
      let rest : room c ≡ len - s.produced = omega (arith, ap length lent, length-drop k x.1, f.produced, f.long) in
      let space : s.status ≡ Open → (s.received + n ≤ limit) × (expansion_word w * (s.count + n) ≤ room c) =
      λ e.
      let got = f.all e in
      let sum : total + n ≡ s.received - s.count + s.count + n = omega (arith, facts.enough) in (
        omega arith,
        rw rest (room_left (expansion_word w) (s.received - s.count) s.count n s.produced len facts.few (subst (λ z. expansion_word w * z ≤ len) sum enough)),
      ) in
      let a = after s k total c f.sound f.eight f.all f.produced space in
      let before = take k x.1 in
      let size : length before ≡ k = omega (arith, length-take k x.1, f.within) in
      let whole : length o.output ≡ room c = (calls_answer w s c).whole in
      let few = counted w s c o refl in
      let both = length-append before o.output in (
        record {
          sound = a.sound;
          eight = a.eight;
          all = a.all;
          produced = a.produced;
          within = omega arith;
          long = omega (arith, ap length lent, length-drop k x.1, f.long, f.within);
        },
        a.passed,
      )

  pass : (first second buffer : List ℕ) → length first + length second ≤ limit → expansion_word w * (length first + length second) ≤ length buffer →
      (pieces w first second buffer).0.answer ≡ accepted tt
  unfolding pieces rest_of feed_on finish_on fresh pad
  pass first second buffer fits enough =
      let len = length buffer in
      let E = expansion_word w in
      let none : Turn × List ℕ = (record { answer = accepted tt; session = fresh; written = 0 }, buffer) in
      let less : E * (0 + length first) ≤ len = omega arith in
      let same : length first + length second ≡ 0 + length first + length second = omega arith in
      let last : length first + length second ≡ 0 + length first + length second + 0 = omega arith in
      let f₀ : Fine none 0 len = record { sound = fresh_sound w; eight = refl; all = λ e. refl; produced = refl; within = omega arith; long = refl } in
      let f₁ = step none 0 len (of_feed first buffer) f₀ refl (omega arith) less in
      let x₁ = after_first w first buffer in
      let f₂ = step x₁ (0 + length first) len (of_feed second (rest_from x₁)) f₁.0 refl (omega arith) (subst (λ z. E * z ≤ len) same enough) in
      let x₂ = after_second w first second buffer in
      let f₃ = step x₂ (0 + length first + length second) len (of_finish (rest_from x₂)) f₂.0 refl (omega arith) (subst (λ z. E * z ≤ len) last enough) in
      ap (λ (v : Turn × List ℕ). v.0.answer) (sym (goes_on x₂ x₂ (finish_on w) refl f₂.1 ∙ goes_on x₁ x₁ (rest_of w second) refl f₁.1)) ∙ f₃.1

-- NOTHING IS REFUSED
pub passes : Passes
unfolding Passes in_two
passes table first second buffer output t keeps enough fits space =
    let a = (compile_accepts table buffer).keeping t keeps enough in
    let rest = drop word_count buffer in
    let w = words t ++ rest in
    let shaped = well_formed_shaped t keeps.keeps.well_formed in
    let done = pass w (compiled_sound t rest shaped keeps.classes keeps.states) first second output fits (rw (layout_expansion t rest) space) in
    rw (a.0, a.1) done
