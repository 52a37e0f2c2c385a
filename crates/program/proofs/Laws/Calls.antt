-- What the call of a turn is, and that what an accepted call wrote lies within its buffer.
-- The count that it answers is the length of the text, which stands at the start of what it leaves.
use mathlib.Core.Bool.{Bool, true, false}
use mathlib.Core.List.{List, [], ◌∷◌}
use mathlib.Core.Path.{◌≡◌, refl, ap, ◌∙◌}
use Prim.Native.Nat.{ℕ, ◌<◌}
use native.Mathlib.Omega.{arith}
use lib.ListN.{length, drop, length-append}
use Rattle.std.proofs.Common.{Result, Ok, Err}
use Rattle.rules.specs.declared.refusal.Refusal.{Refusal}
use Rattle.meaning.specs.Refusal.{Outcome, refused, accepted}
use Rattle.meaning.specs.Meaning.{text_of}
use Rattle.meaning.proofs.Laws.Refusal.{accepted_not, accepted_same}
use Rattle.automaton.specs.Automaton.{Automaton, from_words}
use Rattle.reckoning.specs.Session as Spec
use Rattle.reckoning.specs.Calls.{CallOutcome, admits, resumed, call_by, feed, finish}
use Rattle.session.specs.Promised.{outcome_of}
use Rattle.session.specs.declared.kept.Session.{Session}
use Rattle.session.specs.declared.call.Written.{Written}
use Rattle.program.specs.Turns.{call_on}
use Rattle.program.specs.bridge.Call.{Counted}

call_counted : (o : Outcome (Unit {0})) (m : Automaton) (s : Spec.Session) (piece : List ℕ) (ended : Bool) (buffer : List ℕ)
    (a : Result Written Refusal) (later : Session) (output : List ℕ) →
    outcome_of a later output ≡ call_by o m s piece ended buffer → Counted a (length output)
call_counted o m s piece ended buffer (Err r) later output e = tt
call_counted (refused n) m s piece ended buffer (Ok x) later output e = absurd (accepted_not _ n (ap (λ (c : CallOutcome). c.answer) e))
call_counted (accepted u) m s piece ended buffer (Ok x) later output e =
    let text = text_of m.write (resumed m s piece ended).final.log in
    let same : x.count ≡ length text = ap (λ a. a.count) (accepted_same _ _ (ap (λ (c : CallOutcome). c.answer) e)) in
    let all = ap (λ (c : CallOutcome). length c.output) e ∙ length-append text (drop (length text) buffer) in
    omega arith

module _ (w : List ℕ) (s : Spec.Session) where
  -- no bytes were read
  pub call_at_end : (bytes buffer : List ℕ) → length bytes ≡ 0 → call_on w s bytes buffer ≡ finish w s buffer
  call_at_end [] buffer e = refl
  call_at_end (b ∷ bytes) buffer e = absurd (omega arith)

  -- some bytes were read
  pub call_of_bytes : (bytes buffer : List ℕ) → 0 < length bytes → call_on w s bytes buffer ≡ feed w s bytes buffer
  call_of_bytes [] buffer h = absurd (omega arith)
  call_of_bytes (b ∷ bytes) buffer h = refl

  pub counted : (a : Result Written Refusal) (later : Session) (output bytes buffer : List ℕ) →
      outcome_of a later output ≡ call_on w s bytes buffer → Counted a (length output)
  unfolding feed finish
  counted a later output [] buffer e = call_counted (admits w s 0 (length buffer)) (from_words w) s [] true buffer a later output e
  counted a later output (b ∷ bytes) buffer e =
      call_counted (admits w s (length (b ∷ bytes)) (length buffer)) (from_words w) s (b ∷ bytes) false buffer a later output e
