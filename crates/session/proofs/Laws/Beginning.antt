-- Where a run begins to read: behind the characters that are held, or before a unit that was left at state 0.
-- A run resumed before that unit is the run from state 0 over all of the text, which counts the unit's back once more.
use mathlib.Core.Bool.{Bool, true, false, ◌&&◌, not, cond}
use mathlib.Core.List.{List, [], ◌∷◌, ◌++◌}
use mathlib.Core.Path.{◌≡◌, refl, sym, ap, subst, ◌∙◌}
use Prim.Native.Nat.{ℕ, ◌+◌, ◌*◌, ◌-◌, ◌≤◌}
use native.Mathlib.Omega.{arith}
use lib.Dec.{T, eqb, eqb→eq}
use lib.ListN.{length, length-append}
use Rattle.lists.specs.Lists.{is_empty}
use Rattle.lists.proofs.Laws.Tests.{or_cases, to_T}
use Rattle.automaton.specs.Sound.{longest_word, expansion_word, state_count, sound}
use Rattle.automaton.specs.Automaton.{from_words}
use Rattle.automaton.proofs.Laws.Words.{sound_good, sound_longest}
use Rattle.reckoning.specs.Machine.{Configuration, Ended, run, start_by, start}
use Rattle.reckoning.specs.Session.{path, is_at, is_left, stands_at}
use Rattle.reckoning.proofs.Laws.Kept.{stands_stood}
use Rattle.reckoning.proofs.Laws.Run.{run_again}
use Rattle.session.specs.bridge.Counting.{Counted}
use Rattle.session.specs.bridge.Running.{standing, Lent, EndsAs, less_steps}
use Rattle.session.specs.declared.run.Ran.{Ran}
use Rattle.session.proofs.Laws.Running.{Underway, begins}

-- what is run, by whether the state is 0
abbrev pub origin : Bool → List ℕ → List ℕ → ℕ → Configuration
origin true given piece q = start [] (given ++ piece) 0
origin false given piece q = start given piece q

abbrev pub first : List ℕ → List ℕ → List ℕ → Bool → ℕ → Ended
first w given piece ended q = run (from_words w) ended (origin (eqb q 0) given piece q)

module _ (w given piece : List ℕ) (ended : Bool) (W : T (sound w)) (q : ℕ) (stands : T (stands_at (from_words w) q given)) where
  abbrev u : List ℕ
  u = given ++ piece

  -- characters held at another state lead to it
  leads : eqb q 0 ≡ false → T (is_at q (path (from_words w) 0 given))
  leads e = or_cases (is_at q (path (from_words w) 0 given)) (is_left (from_words w) q given) stands (λ t. t) (λ t. absurd (none given t))
    where
      none : (h : List ℕ) → T (is_left (from_words w) q h) → ⊥
      none [] t = t
      none (x ∷ []) t = rw e at t
      none (x ∷ (y ∷ h)) t = t

  plain : eqb q 0 ≡ false → start given piece q ≡ standing given piece q [] 0
  plain e = ap (λ b. start_by (not (is_empty given) && b) given piece q) e ∙ by (not (is_empty given))
    where
      by : (b : Bool) → start_by (b && false) given piece q ≡ standing given piece q [] 0
      by true = refl
      by false = refl

  module _ (has : Lent) (short : length given + length piece ≤ 1099511627784)
      (enough : 1 ≤ length has.output → expansion_word w * (length given + length piece) ≤ length has.output) (counted : Counted has.uses 0) where
    pub begins_at : (now : Ran) → now.state.0 ≡ q → now.from ≡ 0 → now.at ≡ cond (eqb q 0) 0 (length given) → now.count ≡ 0 → now.steps ≡ 0 →
        Underway w u ended (length has.output) (first w given piece ended q) has.uses now has
    unfolding path
    begins_at now e₁ e₂ e₃ e₄ e₅ = by (eqb q 0) refl e₃
      where
        by : (b : Bool) → eqb q 0 ≡ b → now.at ≡ cond b 0 (length given) →
            Underway w u ended (length has.output) (run (from_words w) ended (origin b given piece q)) has.uses now has
        by true e a =
            let z : q ≡ 0 = eqb→eq q 0 (to_T (eqb q 0) e) in
            let n : 0 + length u ≡ length given + length piece = omega (arith, length-append given piece) in
            begins w [] u ended W 0 tt refl has (omega arith) (λ any. subst (λ k. expansion_word w * k ≤ length has.output) (sym n) (enough any)) counted now (e₁ ∙ z) e₂ a e₄ e₅
        by false e a = begins w given piece ended W q (leads e) (plain e) has short enough counted now e₁ e₂ a e₄ e₅

  -- the run as it ended, without the steps that were counted before
  pub ends_as : (found : List ℕ) (now : Ran) (has : Lent) (at : ℕ) → at ≡ cond (eqb q 0) 0 (length given) → EndsAs w u (first w given piece ended q) found now has →
      (length given - at ≤ now.steps) × EndsAs w u (run (from_words w) ended (start given piece q)) found (less_steps now (length given - at)) has
  ends_as found now has at e f = by (eqb q 0) refl e f
    where
      by : (b : Bool) → eqb q 0 ≡ b → at ≡ cond b 0 (length given) → EndsAs w u (run (from_words w) ended (origin b given piece q)) found now has →
          (length given - at ≤ now.steps) × EndsAs w u (run (from_words w) ended (start given piece q)) found (less_steps now (length given - at)) has
      by true p a F =
          let r = run_again (from_words w) (longest_word w) (state_count w) (sound_good w W) (sound_longest w W) ended given piece q (stands_stood (from_words w) q given stands) in
          let log = r.3 in (
            omega (arith, r.4, F.steps),
            record {
              status = F.status ∙ sym r.0;
              state = F.state ∙ sym r.1;
              order = F.order;
              inside = F.inside;
              store = F.store ∙ sym r.2;
              covers = rw log F.covers;
              count = rw log F.count;
              text = rw log F.text;
              uses = rw log F.uses;
              steps = omega (arith, r.4, F.steps);
            },
          )
      by false p a F = (
        omega arith,
        record {
          status = F.status;
          state = F.state;
          order = F.order;
          inside = F.inside;
          store = F.store;
          covers = F.covers;
          count = F.count;
          text = F.text;
          uses = F.uses;
          steps = omega (arith, F.steps);
        },
      )
