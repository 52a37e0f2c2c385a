-- What a call that was lent the rest of the output wrote lies within it, and the rest comes back to its place.
-- The count that a call answers is the length of its text, which stands at the start of what it leaves.
use mathlib.Core.Bool.{Bool}
use mathlib.Core.List.{List, [], ◌++◌, append-nil}
use mathlib.Core.Path.{◌≡◌, refl, sym, ap, ◌∙◌}
use Prim.Native.Nat.{ℕ, ◌+◌, ◌-◌, ◌≤◌}
use native.Mathlib.Omega.{arith}
use borrow.Rule.Slice.PartMut.{same_len_mid}
use lib.ListN.{length, take, drop, length-append, length-drop, take-append-drop, drop_of_length-le}
use Rattle.meaning.specs.Refusal.{Outcome, refused, accepted}
use Rattle.meaning.specs.Meaning.{text_of}
use Rattle.automaton.specs.Automaton.{Automaton, from_words}
use Rattle.reckoning.specs.Session.{Session, fresh}
use Rattle.reckoning.specs.Calls.{CallOutcome, admits, resumed, call_by}
use Rattle.reckoning.specs.Reckoning.{Call, piece, room, ends, buffer_of, called}
use Rattle.reckoning.proofs.Laws.Answers.{called_by_lem}
use Rattle.station.specs.Two.{Turn, count_of, turn_by, turn, next, if_compiled}

counted_by_lem : (o : Outcome (Unit {0})) (m : Automaton) (s : Session) (piece : List ℕ) (ended : Bool) (buffer : List ℕ) →
    count_of (call_by o m s piece ended buffer).answer ≤ length (call_by o m s piece ended buffer).output
counted_by_lem (refused n) m s piece ended buffer = omega arith
counted_by_lem (accepted u) m s piece ended buffer =
    let text = text_of m.write (resumed m s piece ended).final.log in
    omega (arith, length-append text (drop (length text) buffer))

-- a call's count is within the buffer that it leaves
pub counted : (w : List ℕ) (s : Session) (c : Call) (o : CallOutcome) → o ≡ called w s c → count_of o.answer ≤ length o.output
counted w s c o e = rw (e, called_by_lem w s c) (counted_by_lem (admits w s (length (piece c)) (room c)) (from_words w) s (piece c) (ends c) (buffer_of c))

-- the rest of xs from k on, lent and left as ys
module _ (k : ℕ) (xs : List ℕ) where
  none_after : drop (length xs - k) (drop k xs) ≡ []
  none_after = drop_of_length-le (drop k xs) {i = length xs - k} (omega (arith, length-drop k xs))

  rest_whole : take (length xs - k) (drop k xs) ≡ drop k xs
  rest_whole =
      let part = take (length xs - k) (drop k xs) in
      sym (append-nil part) ∙ ap (λ z. part ++ z) (sym none_after) ∙ take-append-drop (length xs - k) (drop k xs)

  rest_long : (ys : List ℕ) → k ≤ length xs → length ys ≡ length (take (length xs - k) (drop k xs)) → k + length ys ≡ length xs
  rest_long ys inside long = omega (arith, long, ap length rest_whole, length-drop k xs)

  abbrev pub back : List ℕ → List ℕ
  back ys = take k xs ++ (ys ++ drop (length xs - k) (drop k xs))

  pub back_long : (ys : List ℕ) → length ys ≡ length (take (length xs - k) (drop k xs)) → length (back ys) ≡ length xs
  back_long ys long = same_len_mid k (length xs - k) xs ys long

  module _ (w : List ℕ) (s : Session) (call : List ℕ → Call) (o : CallOutcome)
      (came : o ≡ called w s (call (take (length xs - k) (drop k xs))))
      (inside : k ≤ length xs) (long : length o.output ≡ length (take (length xs - k) (drop k xs))) where
    pub fits : k + count_of o.answer ≤ length (back o.output)
    fits = omega (arith, counted w s (call (take (length xs - k) (drop k xs))) o came, rest_long o.output inside long, back_long o.output long)

    pub turned : (r : Turn) (left : List ℕ) → r ≡ turn_by k o.answer o.session → left ≡ back o.output → (r, left) ≡ turn k xs (called w s (call (drop k xs)))
    turned r left e same =
        let placed : left ≡ take k xs ++ o.output =
        same ∙ ap (λ z. take k xs ++ z) (ap (λ z. o.output ++ z) none_after ∙ append-nil o.output) in
        let here : (r, left) ≡ turn k xs o = λ i. (e i, placed i) in
        here ∙ ap (turn k xs) (came ∙ ap (λ b. called w s (call b)) rest_whole)

-- a refusal ends the conversion, and what was not refused goes on
pub ends_here : (u v : Turn × List ℕ) (f : Session → ℕ → List ℕ → Turn × List ℕ) (n : ℕ) → u ≡ v → u.0.answer ≡ refused n → u ≡ next v f
ends_here u v f n same e = let here : u ≡ next u f = rw e refl in here ∙ ap (λ x. next x f) same

pub goes_on : (u v : Turn × List ℕ) (f : Session → ℕ → List ℕ → Turn × List ℕ) → u ≡ v → u.0.answer ≡ accepted tt → f u.0.session u.0.written u.1 ≡ next v f
goes_on u v f same e = let here : f u.0.session u.0.written u.1 ≡ next u f = rw e refl in here ∙ ap (λ x. next x f) same

pub not_compiled : (o : Outcome (Unit {0})) (buffer : List ℕ) (v : Turn × List ℕ) (n : ℕ) (s : Session) → refused n ≡ o → s ≡ fresh →
    (record { answer = refused n; session = s; written = 0 }, buffer) ≡ if_compiled o buffer v
not_compiled o buffer v n s e f =
    let here : (record { answer = refused n; session = s; written = 0 }, buffer) ≡ if_compiled (refused n) buffer v =
    λ i. (record { answer = refused n; session = f i; written = 0 }, buffer) in
    here ∙ ap (λ x. if_compiled x buffer v) e

pub compiled : (o : Outcome (Unit {0})) (buffer : List ℕ) (v : Turn × List ℕ) → accepted tt ≡ o → v ≡ if_compiled o buffer v
compiled o buffer v e = ap (λ x. if_compiled x buffer v) e
