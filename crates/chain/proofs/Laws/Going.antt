-- Both machines go on from admitted sessions: the first writes no more than the middle buffer takes, the second is fed that text, and what both
-- leave is what is defined. Each machine's own tests are passed, so what it comes to is its outcome function's.
use mathlib.Core.Bool.{Bool, ◌&&◌}
use mathlib.Core.List.{List}
use mathlib.Core.Path.{◌≡◌, sym, ap, subst, ◌∙◌}
use Prim.Native.Nat.{ℕ, ◌+◌, ◌-◌, ◌≤◌}
use native.Mathlib.Omega.{arith}
use lib.ListN.{length, take, drop}
use lib.Seq.{take-append_seam}
use Rattle.meaning.specs.Refusal.{accepted}
use Rattle.meaning.proofs.Laws.Direct.{over_whole}
use Rattle.automaton.specs.Automaton.{from_words}
use Rattle.reckoning.specs.Session.{Session}
use Rattle.reckoning.specs.Calls.{CallOutcome, admits, call_by, text_on}
use Rattle.reckoning.specs.Chain.{is_closed, admits_chain, chain_on, ChainAdmitted}
use Rattle.reckoning.proofs.Laws.Append.{admitted_accepts}
use Rattle.reckoning.proofs.Laws.Chain.{ChainAdmits, chain_admission, first_admitted, between_fits, second_admitted}
use Rattle.session.specs.bridge.Later.{went_on}
use Rattle.session.proofs.Laws.Resuming.{went_whole}

cancelled : (a b : ℕ) → a + b - a ≡ b
cancelled a b = omega arith

module _ (w₁ w₂ : List ℕ) (s₁ s₂ : Session) (p : List ℕ) (e : Bool) (middle buffer : List ℕ)
    (A : admits_chain w₁ w₂ s₁ s₂ (length p) (length middle) (length buffer) ≡ accepted tt) where
  known : ChainAdmitted w₁ w₂ s₁ s₂ (length p) (length middle) (length buffer)
  known =
      subst (ChainAdmits w₁ w₂ s₁ s₂ (length p) (length middle) (length buffer)) A
      (chain_admission w₁ w₂ s₁ s₂ (length p) (length middle) (length buffer))

  -- what the first writes
  abbrev between : List ℕ
  between = text_on w₁ s₁ p e

  pub first_passes : admits w₁ s₁ (length p) (length middle) ≡ accepted tt
  first_passes = admitted_accepts w₁ s₁ (length p) (length middle) (first_admitted w₁ w₂ s₁ s₂ p e (length middle) (length buffer) known)

  -- the first's call came to one
  module _ (one : CallOutcome) (went : one ≡ went_on (from_words w₁) s₁ p e middle) where
    first_is : one ≡ call_by (accepted tt) (from_words w₁) s₁ p e middle
    first_is = went ∙ went_whole w₁ s₁ p e middle first_passes

    -- what it has produced more is its text
    pub first_counted : one.session.produced ≡ s₁.produced + length between
    first_counted = ap (λ (o : CallOutcome). o.session.produced) first_is

    passed_is : (k : ℕ) → k ≡ one.session.produced - s₁.produced → k ≡ length between
    passed_is k is = is ∙ ap (λ n. n - s₁.produced) first_counted ∙ cancelled s₁.produced (length between)

    pub passed_fits : (k : ℕ) → k ≡ one.session.produced - s₁.produced → k ≤ length one.output
    passed_fits k is =
        let fits = between_fits w₁ w₂ s₁ s₂ p e (length middle) (length buffer) known in
        let whole : length one.output ≡ length middle = ap (λ (o : CallOutcome). length o.output) first_is ∙ over_whole between middle fits in
        let same = passed_is k is in
        omega arith

    handed : (k : ℕ) → k ≡ one.session.produced - s₁.produced → take k one.output ≡ between
    handed k is =
        (λ i. take (passed_is k is i) (first_is i).output) ∙ take-append_seam between (drop (length between) middle)

    -- the second is fed the k characters that the first wrote
    module _ (k : ℕ) (is : k ≡ one.session.produced - s₁.produced) where
      pub second_passes : admits w₂ s₂ (length (take k one.output)) (length buffer) ≡ accepted tt
      second_passes =
          subst (λ u. admits w₂ s₂ (length u) (length buffer) ≡ accepted tt) (sym (handed k is))
          (admitted_accepts w₂ s₂ (length between) (length buffer) (second_admitted w₁ w₂ s₁ s₂ p e (length middle) (length buffer) known))

      -- its call came to other, with its end or not
      module _ (e₂ : Bool) (ends : e₂ ≡ (e && is_closed one.session.status)) (other : CallOutcome)
          (goes : other ≡ went_on (from_words w₂) s₂ (take k one.output) e₂ buffer) where
        abbrev ended₂ : Bool
        ended₂ = e && is_closed (call_by (accepted tt) (from_words w₁) s₁ p e middle).session.status

        second_is : other ≡ call_by (accepted tt) (from_words w₂) s₂ between ended₂ buffer
        second_is =
            goes ∙ went_whole w₂ s₂ (take k one.output) e₂ buffer second_passes
            ∙ (λ i. call_by (accepted tt) (from_words w₂) s₂ (handed k is i) ((ends ∙ ap (λ (o : CallOutcome). e && is_closed o.session.status) first_is) i) buffer)

        pub second_counted : other.session.produced ≡ s₂.produced + length (text_on w₂ s₂ between ended₂)
        second_counted = ap (λ (o : CallOutcome). o.session.produced) second_is

        pub both_go : (n : ℕ) → n ≡ other.session.produced - s₂.produced →
            record {
              answer = accepted (record { count = n; first = one.session.status; second = other.session.status });
              first = one.session;
              second = other.session;
              middle = one.output;
              output = other.output;
            } ≡ chain_on w₁ w₂ s₁ s₂ p e middle buffer
        both_go n counted =
            let count : n ≡ length (text_on w₂ s₂ between ended₂) =
            counted ∙ ap (λ m. m - s₂.produced) second_counted ∙ cancelled s₂.produced (length (text_on w₂ s₂ between ended₂)) in
            λ i. record {
              answer = accepted (record { count = count i; first = (first_is i).session.status; second = (second_is i).session.status });
              first = (first_is i).session;
              second = (second_is i).session;
              middle = (first_is i).output;
              output = (second_is i).output;
            }
