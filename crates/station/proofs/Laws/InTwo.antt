-- A conversion in two pieces keeps demand 3: what it wrote and left is what its three calls, served in turn, wrote and left.
-- Each call is lent the rest of the output, so what it writes stands after what the calls before it wrote.
use mathlib.Core.List.{List, [], ◌∷◌, ◌++◌}
use mathlib.Core.Path.{◌≡◌, refl, sym, ap, subst, ◌∙◌}
use Prim.Native.Nat.{ℕ, suc, ◌+◌, ◌≤◌}
use native.Mathlib.Omega.{arith}
use lib.ListN.{length, take, length-append, length-take}
use Rattle.meaning.specs.Refusal.{Outcome, refused, accepted}
use Rattle.meaning.proofs.Laws.Refusal.{accepted_not}
use Rattle.automaton.specs.Compile.{compile}
use Rattle.automaton.proofs.Laws.Compile.{compile_accepts, compiled_by}
use Rattle.reckoning.specs.Session.{Session, fresh}
use Rattle.reckoning.specs.Calls.{Answer}
use Rattle.reckoning.specs.Reckoning.{Call, of_feed, of_finish, Served, unserved, called, output_by, serve_call, serve, no_input, ran, reckon}
use Rattle.reckoning.specs.Claims.{Agrees, OutcomesAgree}
use Rattle.reckoning.proofs.Laws.Demand3.{outcomes_agree}
use Rattle.station.specs.Two.{Turn, count_of, turn, feed_on, finish_on, next_by, next, rest_of, pieces, if_compiled, in_two}
use Rattle.station.specs.Claims.{rest_from, after_first, after_second, calls_of, seen_by, InTwo}
use Rattle.station.proofs.Laws.Calls.{counted}

take_past : (xs ys : List ℕ) (m : ℕ) → take (length xs + m) (xs ++ ys) ≡ xs ++ take m ys
take_past [] ys m = let same : 0 + m ≡ m = omega arith in ap (λ n. take n ys) same
take_past (x ∷ xs) ys m =
    let same : suc (length xs) + m ≡ suc (length xs + m) = omega arith in
    ap (λ n. take n (x ∷ (xs ++ ys))) same ∙ ap (λ zs. x ∷ zs) (take_past xs ys m)

output_taken : (a : Outcome Answer) (ys : List ℕ) → take (count_of a) ys ≡ output_by a ys
output_taken (refused n) ys = refl
output_taken (accepted a) ys = refl

-- the characters written and the session are what the calls so far wrote and left
record Joined (v : Served) (x : Turn × List ℕ) : Type 0 where
  session : v.session ≡ x.0.session
  output : take x.0.written x.1 ≡ v.output
  within : x.0.written ≤ length x.1

module _ (w : List ℕ) where
  -- one call more, lent the rest of the output
  join : (v : Served) (x : Turn × List ℕ) (call : List ℕ → Call) → Joined v x →
      (let c = call (rest_from x) in Joined (serve_call w v c) (turn x.0.written x.1 (called w x.0.session c)))
  join v x call j =
      let k = x.0.written in
      let c = call (rest_from x) in
      let o = called w x.0.session c in
      let before = take k x.1 in
      let long : length before ≡ k = omega (arith, length-take k x.1, j.within) in
      let few = counted w x.0.session c o refl in
      let same : (serve_call w v c).session ≡ o.session = ap (λ s. (called w s c).session) j.session in
      let past : take (k + count_of o.answer) (before ++ o.output) ≡ before ++ take (count_of o.answer) o.output =
      subst (λ n. take (n + count_of o.answer) (before ++ o.output) ≡ before ++ take (count_of o.answer) o.output) long
      (take_past before o.output (count_of o.answer)) in
      record {
        session = same;
        output =
            past
            ∙ ap (λ zs. zs ++ take (count_of o.answer) o.output) j.output
            ∙ ap (λ zs. v.output ++ zs) (output_taken o.answer o.output)
            ∙ ap (λ s. v.output ++ output_by (called w s c).answer (called w s c).output) (sym j.session);
        within = omega (arith, length-append before o.output);
      }

  -- where nothing was refused, each call was made
  made_by : (v : Turn × List ℕ) (f : Session → ℕ → List ℕ → Turn × List ℕ) (o : Outcome (Unit {0})) → v.0.answer ≡ o →
      (next_by o v f).0.answer ≡ accepted tt → next_by o v f ≡ f v.0.session v.0.written v.1
  made_by v f (refused n) e a = absurd (accepted_not tt n (sym a ∙ e))
  made_by v f (accepted u) e a = refl

  made : (v : Turn × List ℕ) (f : Session → ℕ → List ℕ → Turn × List ℕ) → (next v f).0.answer ≡ accepted tt → next v f ≡ f v.0.session v.0.written v.1
  made v f a = made_by v f v.0.answer refl a

  -- and what came before it was not refused
  before_passed : (v : Turn × List ℕ) (f : Session → ℕ → List ℕ → Turn × List ℕ) (o : Outcome (Unit {0})) → v.0.answer ≡ o →
      (next_by o v f).0.answer ≡ accepted tt → o ≡ accepted tt
  before_passed v f (refused n) e a = absurd (accepted_not tt n (sym a ∙ e))
  before_passed v f (accepted u) e a = refl

  module _ (first second buffer : List ℕ) where
    abbrev x₁ : Turn × List ℕ
    x₁ = after_first w first buffer

    abbrev x₂ : Turn × List ℕ
    x₂ = after_second w first second buffer

    abbrev x₃ : Turn × List ℕ
    x₃ = finish_on w x₂.0.session x₂.0.written x₂.1

    all_made : (pieces w first second buffer).0.answer ≡ accepted tt → pieces w first second buffer ≡ x₃
    unfolding pieces rest_of
    all_made a =
        let one = made x₁ (rest_of w second) a in
        let two = made x₂ (finish_on w) (ap (λ (v : Turn × List ℕ). v.0.answer) (sym one) ∙ a) in
        one ∙ two

    -- none of the three was refused, but by 13
    pub all_passed : (pieces w first second buffer).0.answer ≡ accepted tt →
        (x₁.0.answer ≡ accepted tt) × (x₂.0.answer ≡ accepted tt) × (x₃.0.answer ≡ accepted tt)
    unfolding pieces rest_of
    all_passed a =
        let answer : Turn × List ℕ → Outcome (Unit {0}) = λ v. v.0.answer in
        let rest = ap answer (sym (made x₁ (rest_of w second) a)) ∙ a in
        let last = ap answer (sym (made x₂ (finish_on w) rest)) ∙ rest in
        (before_passed x₁ (rest_of w second) x₁.0.answer refl a, before_passed x₂ (finish_on w) x₂.0.answer refl rest, last)

    joined : Joined (serve w (calls_of w first second buffer) unserved) x₃
    unfolding serve calls_of feed_on finish_on
    joined =
        let none : Turn × List ℕ = (record { answer = accepted tt; session = fresh; written = 0 }, buffer) in
        let j₀ : Joined unserved none = record { session = refl; output = refl; within = omega arith } in
        let j₁ = join unserved none (of_feed first) j₀ in
        let j₂ = join _ x₁ (of_feed second) j₁ in
        join _ x₂ of_finish j₂

    seen : (pieces w first second buffer).0.answer ≡ accepted tt →
        (let cs = calls_of w first second buffer in seen_by w cs (pieces w first second buffer) ≡ serve w cs unserved)
    seen a =
        let cs = calls_of w first second buffer in
        ap (seen_by w cs) (all_made a)
        ∙ (λ i. record { answers = (serve w cs unserved).answers; output = joined.output i; session = sym joined.session i })

-- DEMAND 3, of an input in two pieces
pub in_two_lem : InTwo
unfolding InTwo OutcomesAgree in_two calls_of
in_two_lem table first second buffer output t keeps room one two a =
    let w = (compile table buffer).words in
    let cs = calls_of w first second output in
    let i = reckon t cs no_input in
    let accepts : (compile table buffer).answer ≡ accepted tt = ((compile_accepts table buffer).keeping t keeps room).0 in
    let done : in_two table first second buffer output ≡ pieces w first second output =
    ap (λ o. if_compiled o output (pieces w first second output)) accepts in
    let same = ap (seen_by w cs) done ∙ seen w first second output (ap (λ (v : Turn × List ℕ). v.0.answer) (sym done) ∙ a) in
    subst (λ v. Agrees t cs v i (ran t i.characters i.ended)) (sym same) (outcomes_agree t w (compiled_by table buffer t keeps room) cs (one, (two, (tt, tt))))
