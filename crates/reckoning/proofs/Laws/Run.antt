-- The machine, step by step, does what the trace of its store and unread characters tells; its fuel is enough.
-- By recursion on a bound of the steps: each step is one of the paper's cases, and in each the trace of what is left tells the rest.
use mathlib.Core.Bool.{Bool, true, false, ◌&&◌, not}
use mathlib.Core.List.{List, [], ◌∷◌, ◌++◌, append_assoc, append-nil}
use mathlib.Core.Logic.{◌≢◌}
use mathlib.Core.Path.{◌≡◌, refl, sym, ap, subst, ◌∙◌}
use Prim.Native.Nat.{ℕ, zero, suc, pred, ◌+◌, ◌*◌, ◌≤◌, ◌<◌}
use native.Mathlib.Nat.{zero-add, mul-le-mul_right}
use native.Mathlib.Omega.{arith}
use borrow.Author.Tests.{ne_eqb}
use lib.Dec.{eqb, eqb-suc-zero, ltb}
use lib.ListN.{length, take, drop, length-append}
use lib.Seq.{length-take-le, take-append_seam, drop-append_seam}
use Rattle.lists.specs.Lists.{is_empty}
use Rattle.lists.specs.Decide.{select}
use Rattle.lists.proofs.Laws.Tests.{to_T, either, by_cases, of_cond}
use Rattle.meaning.specs.Meaning.{Emission}
use Rattle.automaton.specs.Automaton.{Automaton}
use Rattle.automaton.proofs.Laws.Good.{after, after_snoc, Leads, leads_snoc, Good}
use Rattle.reckoning.specs.Machine.{Configuration, Status, Open, Closed, Stopped, Step, onward, halt, emit, read, roll_back, end, fall_back, step, Ended, follow, steps, run, start, Fall, nowhere, taking, keeping, fall_by, start_by, fall}
use Rattle.reckoning.specs.Session.{settled}
use Rattle.reckoning.specs.Claims.{Waits}
use Rattle.reckoning.proofs.Laws.Trace.{Round, waits, closes, stops, accepts, defaults, back, walk, fall_at, Trace, waiting, closing, stopping, accepting, defaulting, handle, trace, cost, log_of, held_of, state_of, status_of}
use Rattle.reckoning.proofs.Laws.Walk.{settled_both, Sure, fall_ended, Room, fall_room, Span, walk_span, walk_resume}
use Rattle.reckoning.proofs.Laws.Rounds.{trace_round, not_open, Stood, led, leftover, left_alone, trace_rests, rests_open, trace_ended, bounded}

abbrev pub at : List ℕ → List ℕ → ℕ → List Emission → ℕ → Configuration
at w u q l s = record { store = w; unread = u; state = q; due = false; log = l; steps = s }

-- after a roll-back
abbrev due_at : List ℕ → List ℕ → List Emission → ℕ → Configuration
due_at w u l s = record { store = w; unread = u; state = 0; due = true; log = l; steps = s }

-- The step, case by case.

module _ (A : Automaton) (e : Bool) (w : List ℕ) (y : ℕ) (u : List ℕ) (q : ℕ) (l : List Emission) (s : ℕ) where
  pub step_accept : (r : ℕ) → A.accept q ≡ suc r → step A e (at w (y ∷ u) q l s) ≡ emit (at w (y ∷ u) q l s) r
  unfolding step select
  step_accept r p =
      either (λ b. settled A q ≡ b → step A e (at w (y ∷ u) q l s) ≡ emit (at w (y ∷ u) q l s) r) (settled A q)
      (λ _ h. rw (step, select, h, p)) (λ _ h. rw (step, select, h, p, eqb-suc-zero, p)) refl

  pub step_read : (t : ℕ) → A.accept q ≡ 0 → A.target q y ≡ suc t → step A e (at w (y ∷ u) q l s) ≡ read (at w (y ∷ u) q l s) (suc t)
  unfolding step select
  step_read t p k = rw (step, select, p, p, k, eqb-suc-zero, k)

  pub step_back : A.accept q ≡ 0 → A.target q y ≡ 0 → step A e (at w (y ∷ u) q l s) ≡ roll_back (at w (y ∷ u) q l s)
  unfolding step select
  step_back p k = rw (step, select, p, p, k)

module _ (A : Automaton) (w : List ℕ) (q : ℕ) (l : List Emission) (s : ℕ) where
  pub step_settled : settled A q ≡ true → step A false (at w [] q l s) ≡ emit (at w [] q l s) (pred (A.accept q))
  unfolding step select
  step_settled h = rw (step, select, h)

  pub step_wait : settled A q ≡ false → step A false (at w [] q l s) ≡ halt Open (at w [] q l s)
  unfolding step select
  step_wait h = rw (step, select, h)

  pub step_end : (r : ℕ) → A.accept_at_end q ≡ suc r → step A true (at w [] q l s) ≡ emit (at w [] q l s) r
  unfolding step select
  step_end r p =
      either (λ b. settled A q ≡ b → step A true (at w [] q l s) ≡ emit (at w [] q l s) r) (settled A q)
      (λ t h. let b = settled_both A q t in rw (step, select, h, b.1, ← b.2, p)) (λ _ h. rw (step, select, h, p, eqb-suc-zero, p)) refl

-- with no accept at the end, nothing is settled
unsettled : (A : Automaton) (q : ℕ) → A.accept_at_end q ≡ 0 → settled A q ≡ false
unsettled A q p =
    either (λ b. settled A q ≡ b → b ≡ false) (settled A q)
    (λ t _. let k = (settled_both A q t).2 in absurd (omega arith)) (λ _ _. refl) refl

module _ (A : Automaton) (q : ℕ) (l : List Emission) (s : ℕ) where
  pub step_close : A.accept_at_end q ≡ 0 → step A true (at [] [] q l s) ≡ end Closed (at [] [] q l s)
  unfolding step select
  step_close p = rw (step, select, unsettled A q p, p)

  pub step_give_back : (y : ℕ) (w : List ℕ) → A.accept_at_end q ≡ 0 → step A true (at (y ∷ w) [] q l s) ≡ roll_back (at (y ∷ w) [] q l s)
  unfolding step select
  step_give_back y w p = rw (step, select, unsettled A q p, p)

-- after a roll-back, what was taken and what is unread decide
pub due_step : (A : Automaton) (e : Bool) (w u : List ℕ) (l : List Emission) (s : ℕ) (b : Fall) → fall_at A e (w ++ u) ≡ b →
    step A e (due_at w u l s) ≡ fall_by b (due_at w u l s)
unfolding step fall_back select
due_step A e w u l s b p = ap (λ x. fall_by x (due_at w u l s)) p

pub steps_onward : (A : Automaton) (e : Bool) (m : ℕ) (c d : Configuration) → step A e c ≡ onward d → steps A e (suc m) c ≡ steps A e m d
unfolding steps
steps_onward A e m c d p = rw p

pub steps_halt : (A : Automaton) (e : Bool) (m : ℕ) (c d : Configuration) (s : Status) → step A e c ≡ halt s d →
    steps A e (suc m) c ≡ record { status = s; final = d }
unfolding steps
steps_halt A e m c d s p = rw p

-- A's run ended as the trace t says: from the log l and s steps, of the trace's steps so many being made
pub record Tells (A : Automaton) (made : ℕ) (l : List Emission) (s : ℕ) (t : Trace) (r : Ended) : Type 0 where
  pub status : r.status ≡ status_of t
  pub state : r.final.state ≡ state_of A t
  pub store : r.final.store ≡ held_of t
  pub unread : r.final.unread ≡ []
  pub log : r.final.log ≡ l ++ log_of t
  pub steps : r.final.steps + made ≡ s + cost t
  pub due : r.final.due ≡ false

-- the trace and where the run began leave nothing open
pub tells_unique : (A : Automaton) (made : ℕ) (l : List Emission) (s : ℕ) (t : Trace) (r r' : Ended) → Tells A made l s t r → Tells A made l s t r' → r ≡ r'
tells_unique A made l s t r r' a b =
    let p : r.final.steps ≡ r'.final.steps = omega arith in
    λ i. record {
      status = (a.status ∙ sym b.status) i;
      final = record {
        store = (a.store ∙ sym b.store) i;
        unread = (a.unread ∙ sym b.unread) i;
        state = (a.state ∙ sym b.state) i;
        due = (a.due ∙ sym b.due) i;
        log = (a.log ∙ sym b.log) i;
        steps = p i;
      };
    }

-- What becomes of the telling by an emission, a read, and at the run's end.

tells_emit : (A : Automaton) (made : ℕ) (l : List Emission) (s s' i : ℕ) (g : Emission) (t t' : Trace) (r : Ended) → s' ≡ s + i →
    status_of t ≡ status_of t' → held_of t ≡ held_of t' → log_of t ≡ g ∷ log_of t' → cost t ≡ made + i + cost t' →
    Tells A 0 (l ++ g ∷ []) s' t' r → Tells A made l s t r
tells_emit A made l s s' i g t t' r p₀ p₁ p₃ p₄ p₅ a = record {
  status = a.status ∙ sym p₁;
  state = a.state ∙ ap (after A 0) (sym p₃);
  store = a.store ∙ sym p₃;
  unread = a.unread;
  log = a.log ∙ append_assoc l (g ∷ []) (log_of t') ∙ ap (λ z. l ++ z) (sym p₄);
  steps = omega arith;
  due = a.due;
}

-- by one step more
tells_next : (A : Automaton) (made made' : ℕ) (l : List Emission) (s : ℕ) (t : Trace) (r : Ended) → made' ≡ made + 1 → Tells A made' l (s + 1) t r → Tells A made l s t r
tells_next A made made' l s t r p a = record {
  status = a.status;
  state = a.state;
  store = a.store;
  unread = a.unread;
  log = a.log;
  steps = omega arith;
  due = a.due;
}

-- t has no emission
tells_last : (A : Automaton) (made : ℕ) (l : List Emission) (s : ℕ) (t : Trace) (b : Status) (w' : List ℕ) (q' s' : ℕ) → b ≡ status_of t → q' ≡ after A 0 w' →
    w' ≡ held_of t → [] ≡ log_of t → s' + made ≡ s + cost t → Tells A made l s t (record { status = b; final = at w' [] q' l s' })
tells_last A made l s t b w' q' s' p₁ p₂ p₃ p₄ p₅ = record {
  status = p₁;
  state = p₂ ∙ ap (after A 0) p₃;
  store = p₃;
  unread = refl;
  log = sym (append-nil l) ∙ ap (λ z. l ++ z) p₄;
  steps = p₅;
  due = refl;
}

tells_via : (A : Automaton) (made : ℕ) (l : List Emission) (s : ℕ) (t t' : Trace) (r r' : Ended) → t ≡ t' → r ≡ r' → Tells A made l s t' r' → Tells A made l s t r
tells_via A made l s t t' r r' p p' a = rw (p, p') a

cost_least : (o : Round) (w u : List ℕ) (f : ℕ → Trace) → Span (length w) (length w + length u) o → length w ≤ cost (handle o (w ++ u) f)
unfolding cost
cost_least waits w u f s = omega (arith, length-append w u)
cost_least closes w u f s = omega arith
cost_least (stops d) w u f s = omega arith
cost_least (accepts r d) w u f s =
    let z : length (take d (w ++ u)) ≡ d = length-take-le d (w ++ u) (omega (arith, length-append w u)) in omega arith
cost_least (defaults d g k) w u f s = omega arith

-- The trace seen from the middle of a round.
module _ (A : Automaton) (L n : ℕ) (G : Good A L n) (e : Bool) (w u : List ℕ) (q : ℕ) (l : Leads A 0 w) (p : q ≡ after A 0 w) where
  -- what the round comes to
  abbrev pub mid : Round
  mid = walk A e (fall_at A e (w ++ u)) (length w) q u

  trace_mid : trace A e 0 (w ++ u) ≡ handle mid (w ++ u) (λ k. trace A e 0 (drop (suc k) (w ++ u)))
  trace_mid =
      let b : Fall = fall_at A e (w ++ u) in
      let r : walk A e b 0 0 (w ++ u) ≡ walk A e b (length w) q u = walk_resume A L n G e b 0 0 w u G.some_state l ∙ rw (p, zero-add) in
      trace_round A L n G e (w ++ u) ∙ ap (λ (o : Round). handle o (w ++ u) (λ k. trace A e 0 (drop (suc k) (w ++ u)))) r

  no_fuel : (t : Trace) → t ≡ trace A e 0 (w ++ u) → cost t < 0 + length w → ⊥
  no_fuel t tr h =
      omega (
        arith,
        ap cost (tr ∙ trace_mid),
        cost_least mid w u (λ k. trace A e 0 (drop (suc k) (w ++ u))) (walk_span A e (fall_at A e (w ++ u)) (length w) q u),
      )

  mid_accept : (g : ℕ) → mid ≡ accepts g (length w) → w ≢ [] → trace A e 0 (w ++ u) ≡ accepting g w (trace A e 0 u)
  mid_accept g k h = trace_mid ∙ rw (k, take-append_seam w u) (ap (λ z. accepting g w (trace A e 0 z)) (rest w h))
    where
      rest : (v : List ℕ) → v ≢ [] → drop (suc (pred (length v))) (v ++ u) ≡ u
      rest [] z = absurd (z refl)
      rest (x ∷ v) z = drop-append_seam v u

-- With b a bound of the cost and fuel m, every run tells its trace.
abbrev Holds : Automaton → Bool → ℕ → Type 0
Holds A e b =
    (m : ℕ) (w u : List ℕ) (q : ℕ) (l : List Emission) (s : ℕ) (t : Trace) → Leads A 0 w → q ≡ after A 0 w → t ≡ trace A e 0 (w ++ u) →
    cost t < b + length w → cost t < m + length w → Tells A (length w) l s t (steps A e m (at w u q l s))

module _ (A : Automaton) (L n : ℕ) (G : Good A L n) where
  -- in state 0 nothing is accepted, so what accepts has a store
  accept_store : (w : List ℕ) (q r : ℕ) → q ≡ after A 0 w → A.accept q ≡ suc r → w ≢ []
  unfolding after
  accept_store w q r p g h = let z : A.accept q ≡ 0 = rw (p, h) G.accept_0 in absurd (omega arith)

  end_store : (w : List ℕ) (q r : ℕ) → q ≡ after A 0 w → A.accept_at_end q ≡ suc r → w ≢ []
  unfolding after
  end_store w q r p g h = let z : A.accept_at_end q ≡ 0 = rw (p, h) G.end_0 in absurd (omega arith)

  after_nothing : 0 ≡ after A 0 []
  unfolding after
  after_nothing = refl

  -- where nothing was read the state is 0, and the next character the first
  first_unread : (w : List ℕ) (y : ℕ) (u : List ℕ) (z : ℕ) (v : List ℕ) (q : ℕ) → length w ≡ 0 → w ++ y ∷ u ≡ z ∷ v → q ≡ after A 0 w →
      A.target q y ≡ 0 → A.target 0 z ≡ 0
  unfolding after
  first_unread [] y u z v q n h p k = let i : y ≡ z = cc in subst (λ x. A.target 0 x ≡ 0) i (subst (λ r. A.target r y ≡ 0) p k)
  first_unread (x ∷ w) y u z v q n h p k = absurd (omega arith)

  module _ (e : Bool) (b : ℕ) (ih : Holds A e b) (m : ℕ) (w u : List ℕ) (q : ℕ) (l : List Emission) (s : ℕ) (t : Trace)
      (ld : Leads A 0 w) (p : q ≡ after A 0 w) (tr : t ≡ trace A e 0 (w ++ u)) (few : cost t < suc b + length w) (fuel : cost t < suc m + length w) where
    accept_case : (g : ℕ) → mid A L n G e w u q ld p ≡ accepts g (length w) → w ≢ [] → step A e (at w u q l s) ≡ emit (at w u q l s) g →
        Tells A (length w) l s t (steps A e (suc m) (at w u q l s))
    unfolding status_of held_of log_of cost
    accept_case g k h st =
        let c : Configuration = at w u q l s in
        let t' : Trace = trace A e 0 u in
        let x : Emission = record { group = g; word = w } in
        let d : Configuration = at [] u 0 (l ++ x ∷ []) (s + 1) in
        let p' : t ≡ accepting g w t' = tr ∙ mid_accept A L n G e w u q ld p g k h in
        tells_via A (length w) l s t (accepting g w t') (steps A e (suc m) c) (steps A e m d) p' (steps_onward A e m c d st)
        (tells_emit A (length w) l s (s + 1) 1 x (accepting g w t') t' (steps A e m d) refl refl refl refl refl
        (ih m [] u 0 (l ++ x ∷ []) (s + 1) t' tt after_nothing refl (omega (arith, ap cost p')) (omega (arith, ap cost p'))))

  -- After a roll-back from d reads, all of z is unread: the run stops, takes one or two characters, or waits with the one that is there.
  module _ (e : Bool) (b : ℕ) (ih : Holds A e b) (d : ℕ) (z : List ℕ) (l : List Emission) (s : ℕ) where
    abbrev fallen : Fall → Trace
    fallen x = handle (back x d) z (λ k. trace A e 0 (drop (suc k) z))

    stop_case : (m : ℕ) → fall_at A e z ≡ nowhere → cost (fallen nowhere) < m + (d + 1) → Tells A (d + 1) l s (fallen nowhere) (steps A e m (due_at [] z l s))
    unfolding status_of held_of log_of cost
    stop_case zero pf fuel = absurd (omega arith)
    stop_case (suc m) pf fuel =
        let c : Configuration = due_at [] z l s in
        tells_via A (d + 1) l s (stopping d) (stopping d) (steps A e (suc m) c) (record { status = Stopped; final = at [] [] 0 l (s + 1) }) refl
        (steps_halt A e m c (at [] [] 0 l (s + 1)) Stopped (due_step A e [] z l s nowhere pf))
        (tells_last A (d + 1) l s (stopping d) Stopped [] 0 (s + 1) refl after_nothing refl refl (omega arith))

    keep_case : (m : ℕ) → fall_at A e z ≡ keeping → d ≡ 0 → length z ≡ 1 → after A 0 z ≡ 0 → cost (fallen keeping) < m + (d + 1) →
        Tells A (d + 1) l s (fallen keeping) (steps A e m (due_at [] z l s))
    unfolding status_of held_of log_of cost
    keep_case zero pf zd zl there fuel = absurd (omega arith)
    keep_case (suc m) pf zd zl there fuel =
        let c : Configuration = due_at [] z l s in
        tells_via A (d + 1) l s (waiting z) (waiting z) (steps A e (suc m) c) (record { status = Open; final = at z [] 0 l s }) refl
        (steps_halt A e m c (at z [] 0 l s) Open (due_step A e [] z l s keeping pf))
        (tells_last A (d + 1) l s (waiting z) Open z 0 s refl (sym there) refl refl (omega arith))

  -- a take, or two, and the emission
  module _ (e : Bool) (b : ℕ) (ih : Holds A e b) (d : ℕ) (l : List Emission) (s : ℕ) (g : ℕ) where
    one_case : (m y : ℕ) (v : List ℕ) → fall_at A e (y ∷ v) ≡ taking g 1 → cost (trace A e 0 v) + 3 < suc b → cost (trace A e 0 v) + 3 < m + 1 →
        Tells A (d + 1) l s (defaulting d g (y ∷ []) (trace A e 0 v)) (steps A e m (due_at [] (y ∷ v) l s))
    unfolding status_of held_of log_of cost
    one_case zero y v pf few fuel = absurd (omega arith)
    one_case (suc zero) y v pf few fuel = absurd (omega arith)
    one_case (suc (suc m)) y v pf few fuel =
        let t' : Trace = trace A e 0 v in
        let x : Emission = record { group = g; word = y ∷ [] } in
        let c₁ : Configuration = due_at [] (y ∷ v) l s in
        let c₂ : Configuration = due_at (y ∷ []) v l (s + 1) in
        let c₃ : Configuration = at [] v 0 (l ++ x ∷ []) (s + 1 + 1) in
        let t : Trace = defaulting d g (y ∷ []) t' in
        tells_via A (d + 1) l s t t (steps A e (suc (suc m)) c₁) (steps A e m c₃) refl
        (steps_onward A e (suc m) c₁ c₂ (due_step A e [] (y ∷ v) l s (taking g 1) pf) ∙ steps_onward A e m c₂ c₃ (due_step A e (y ∷ []) v l (s + 1) (taking g 1) pf))
        (tells_emit A (d + 1) l s (s + 1 + 1) 2 x t t' (steps A e m c₃) (omega arith) refl refl refl (omega arith)
        (ih m [] v 0 (l ++ x ∷ []) (s + 1 + 1) t' tt after_nothing refl (omega arith) (omega arith)))

    two_case : (m y y' : ℕ) (v : List ℕ) → fall_at A e (y ∷ y' ∷ v) ≡ taking g 2 → cost (trace A e 0 v) + 4 < suc b → cost (trace A e 0 v) + 4 < m + 1 →
        Tells A (d + 1) l s (defaulting d g (y ∷ y' ∷ []) (trace A e 0 v)) (steps A e m (due_at [] (y ∷ y' ∷ v) l s))
    unfolding status_of held_of log_of cost
    two_case zero y y' v pf few fuel = absurd (omega arith)
    two_case (suc zero) y y' v pf few fuel = absurd (omega arith)
    two_case (suc (suc zero)) y y' v pf few fuel = absurd (omega arith)
    two_case (suc (suc (suc m))) y y' v pf few fuel =
        let t' : Trace = trace A e 0 v in
        let x : Emission = record { group = g; word = y ∷ y' ∷ [] } in
        let c₁ : Configuration = due_at [] (y ∷ y' ∷ v) l s in
        let c₂ : Configuration = due_at (y ∷ []) (y' ∷ v) l (s + 1) in
        let c₃ : Configuration = due_at (y ∷ y' ∷ []) v l (s + 1 + 1) in
        let c₄ : Configuration = at [] v 0 (l ++ x ∷ []) (s + 1 + 1 + 1) in
        let t : Trace = defaulting d g (y ∷ y' ∷ []) t' in
        tells_via A (d + 1) l s t t (steps A e (suc (suc (suc m))) c₁) (steps A e m c₄) refl
        (steps_onward A e (suc (suc m)) c₁ c₂ (due_step A e [] (y ∷ y' ∷ v) l s (taking g 2) pf)
        ∙ steps_onward A e (suc m) c₂ c₃ (due_step A e (y ∷ []) (y' ∷ v) l (s + 1) (taking g 2) pf)
        ∙ steps_onward A e m c₃ c₄ (due_step A e (y ∷ y' ∷ []) v l (s + 1 + 1) (taking g 2) pf))
        (tells_emit A (d + 1) l s (s + 1 + 1 + 1) 3 x t t' (steps A e m c₄) (omega arith) refl refl refl (omega arith)
        (ih m [] v 0 (l ++ x ∷ []) (s + 1 + 1 + 1) t' tt after_nothing refl (omega arith) (omega arith)))

  module _ (e : Bool) (b : ℕ) (ih : Holds A e b) (d : ℕ) (l : List Emission) (s : ℕ) where
    take_case : (m g k : ℕ) (z : List ℕ) → fall_at A e z ≡ taking g k → Room (length z) (taking g k) →
        cost (fallen e b ih d z l s (taking g k)) < suc b + d → cost (fallen e b ih d z l s (taking g k)) < m + (d + 1) →
        Tells A (d + 1) l s (fallen e b ih d z l s (taking g k)) (steps A e m (due_at [] z l s))
    unfolding cost
    take_case m g zero z pf r few fuel = absurd (omega arith)
    take_case m g (suc zero) [] pf r few fuel = absurd (omega arith)
    take_case m g (suc zero) (y ∷ v) pf r few fuel = one_case e b ih d l s g m y v pf (omega arith) (omega arith)
    take_case m g (suc (suc zero)) [] pf r few fuel = absurd (omega arith)
    take_case m g (suc (suc zero)) (y ∷ []) pf r few fuel = absurd (omega arith)
    take_case m g (suc (suc zero)) (y ∷ (y' ∷ v)) pf r few fuel = two_case e b ih d l s g m y y' v pf (omega arith) (omega arith)
    take_case m g (suc (suc (suc k))) z pf r few fuel = absurd (omega arith)

    -- all of z is unread, and begins with y
    due_case : (m : ℕ) (x : Fall) (y : ℕ) (v : List ℕ) → fall_at A e (y ∷ v) ≡ x → (x ≡ keeping → (d ≡ 0) × (A.target 0 y ≡ 0)) →
        cost (fallen e b ih d (y ∷ v) l s x) < suc b + d → cost (fallen e b ih d (y ∷ v) l s x) < m + (d + 1) →
        Tells A (d + 1) l s (fallen e b ih d (y ∷ v) l s x) (steps A e m (due_at [] (y ∷ v) l s))
    unfolding after
    due_case m nowhere y v pf alone few fuel = stop_case e b ih d (y ∷ v) l s m pf fuel
    due_case m (taking g k) y v pf alone few fuel = take_case m g k (y ∷ v) pf (subst (Room (suc (length v))) pf (fall_room A.default e y v)) few fuel
    due_case m keeping y v pf alone few fuel =
        let i : v ≡ [] = (left_alone A.default e y v pf).1 in
        keep_case e b ih d (y ∷ v) l s m pf (alone refl).0 (ap (λ w. suc (length w)) i) (ap (λ w. after A 0 (y ∷ w)) i ∙ (alone refl).1) fuel

  -- a roll-back
  module _ (e : Bool) (b : ℕ) (ih : Holds A e b) (w u : List ℕ) (q : ℕ) (l : List Emission) (s : ℕ) (t : Trace)
      (ld : Leads A 0 w) (p : q ≡ after A 0 w) (tr : t ≡ trace A e 0 (w ++ u)) (few : cost t < suc b + length w)
      (st : step A e (at w u q l s) ≡ roll_back (at w u q l s)) where
    back_case : (m : ℕ) (x : Fall) (y : ℕ) (v : List ℕ) → fall_at A e (w ++ u) ≡ x → w ++ u ≡ y ∷ v → mid A L n G e w u q ld p ≡ back (fall_at A e (w ++ u)) (length w) →
        (x ≡ keeping → (length w ≡ 0) × (A.target 0 y ≡ 0)) → cost t < suc m + length w → Tells A (length w) l s t (steps A e (suc m) (at w u q l s))
    back_case m x y v pf pv k alone fuel =
        let d : ℕ = length w in
        let t' : Trace = fallen e b ih d (y ∷ v) l (s + 1) x in
        let p' : t ≡ t' =
        tr ∙ trace_mid A L n G e w u q ld p ∙ ap (λ o. handle o (w ++ u) (λ k. trace A e 0 (drop (suc k) (w ++ u)))) (k ∙ ap (λ x. back x d) pf)
        ∙ ap (λ z. handle (back x d) z (λ k. trace A e 0 (drop (suc k) z))) pv in
        let c : Configuration = at w u q l s in
        let c₁ : Configuration = due_at [] (y ∷ v) l (s + 1) in
        let st₁ : step A e c ≡ onward c₁ = st ∙ ap (λ z. onward (due_at [] z l (s + 1))) pv in
        tells_via A d l s t t' (steps A e (suc m) c) (steps A e m c₁) p' (steps_onward A e m c c₁ st₁)
        (tells_next A d (d + 1) l s t' (steps A e m c₁) refl
        (due_case e b ih d l (s + 1) m x y v (ap (fall_at A e) (sym pv) ∙ pf) alone (omega (arith, ap cost p')) (omega (arith, ap cost p'))))

  -- a character is unread
  module _ (e : Bool) (b : ℕ) (ih : Holds A e b) (m : ℕ) (w : List ℕ) (y : ℕ) (u : List ℕ) (q : ℕ) (l : List Emission) (s : ℕ) (t : Trace)
      (ld : Leads A 0 w) (p : q ≡ after A 0 w) (tr : t ≡ trace A e 0 (w ++ y ∷ u))
      (few : cost t < suc b + length w) (fuel : cost t < suc m + length w) where
    character_case : (g k : ℕ) → A.accept q ≡ g → A.target q y ≡ k → Tells A (length w) l s t (steps A e (suc m) (at w (y ∷ u) q l s))
    unfolding walk
    character_case (suc r) k pg pk =
        accept_case e b ih m w (y ∷ u) q l s t ld p tr few fuel r (rw pg) (accept_store w q r p pg) (step_accept A e w y u q l s r pg)
    character_case zero (suc k) pg pk =
        let h : A.target (after A 0 w) y ≡ suc k = rw (← p) pk in
        let c : Configuration = at w (y ∷ u) q l s in
        let d : Configuration = at (w ++ y ∷ []) u (suc k) l (s + 1) in
        tells_via A (length w) l s t t (steps A e (suc m) c) (steps A e m d) refl (steps_onward A e m c d (step_read A e w y u q l s k pg pk))
        (tells_next A (length w) (length (w ++ y ∷ [])) l s t (steps A e m d) (length-append w (y ∷ []))
        (ih m (w ++ y ∷ []) u (suc k) l (s + 1) t (leads_snoc A 0 w y ld (omega arith)) (sym h ∙ sym (after_snoc A 0 w y))
        (tr ∙ ap (trace A e 0) (sym (append_assoc w (y ∷ []) u)))
        (omega (arith, length-append w (y ∷ []))) (omega (arith, length-append w (y ∷ [])))))
    character_case zero zero pg pk = back_now (w ++ y ∷ u) refl
      where
        back_now : (v : List ℕ) → w ++ y ∷ u ≡ v → Tells A (length w) l s t (steps A e (suc m) (at w (y ∷ u) q l s))
        back_now [] h = absurd (omega (arith, length-append w (y ∷ u), ap length h))
        back_now (z ∷ v) h =
            back_case e b ih w (y ∷ u) q l s t ld p tr few (step_back A e w y u q l s pg pk) m (fall_at A e (w ++ y ∷ u)) z v refl h (rw (pg, pk))
            (λ a.
            let i = (left_alone A.default e z v (ap (fall_at A e) (sym h) ∙ a)).1 in
            let none_read : length w ≡ 0 = omega (arith, length-append w (y ∷ u), ap length h, ap length i) in
            (none_read, first_unread w y u z v q none_read h p pk)) fuel

  -- nothing is unread, and more may come
  module _ (b : ℕ) (ih : Holds A false b) (m : ℕ) (w : List ℕ) (q : ℕ) (l : List Emission) (s : ℕ) (t : Trace)
      (ld : Leads A 0 w) (p : q ≡ after A 0 w) (tr : t ≡ trace A false 0 (w ++ []))
      (few : cost t < suc b + length w) (fuel : cost t < suc m + length w) where
    open_case : (h : Bool) → settled A q ≡ h → Tells A (length w) l s t (steps A false (suc m) (at w [] q l s))
    unfolding walk status_of held_of log_of cost
    open_case true h =
        accept_case false b ih m w [] q l s t ld p tr few fuel (pred (A.accept q)) (rw h)
        (let k = settled_both A q (to_T (settled A q) h) in accept_store w q k.0 p k.1) (step_settled A w q l s h)
    open_case false h =
        let c : Configuration = at w [] q l s in
        tells_via A (length w) l s t (waiting w) (steps A false (suc m) c) (record { status = Open; final = c })
        (tr ∙ trace_mid A L n G false w [] q ld p ∙ rw (h, append-nil)) (steps_halt A false m c c Open (step_wait A w q l s h))
        (tells_last A (length w) l s (waiting w) Open w q s refl p refl refl refl)

  -- nothing is unread, and the input has ended
  end_case : (b : ℕ) → Holds A true b → (m : ℕ) (w : List ℕ) (q : ℕ) (l : List Emission) (s : ℕ) (t : Trace) →
      Leads A 0 w → q ≡ after A 0 w → t ≡ trace A true 0 (w ++ []) → cost t < suc b + length w → cost t < suc m + length w →
      (k : ℕ) → A.accept_at_end q ≡ k → Tells A (length w) l s t (steps A true (suc m) (at w [] q l s))
  unfolding walk status_of held_of log_of cost
  end_case b ih m w q l s t ld p tr few fuel (suc r) k =
      accept_case true b ih m w [] q l s t ld p tr few fuel r (rw k) (end_store w q r p k) (step_end A w q l s r k)
  end_case b ih m [] q l s t ld p tr few fuel zero k =
      let c : Configuration = at [] [] q l s in
      let d : Configuration = at [] [] 0 l (s + 1) in
      tells_via A 0 l s t closing (steps A true (suc m) c) (record { status = Closed; final = d })
      (tr ∙ trace_mid A L n G true [] [] q ld p ∙ rw k) (steps_halt A true m c d Closed (step_close A q l s k))
      (tells_last A 0 l s closing Closed [] 0 (s + 1) refl after_nothing refl refl (omega arith))
  end_case b ih m (y ∷ w) q l s t ld p tr few fuel zero k =
      back_case true b ih (y ∷ w) [] q l s t ld p tr few (step_give_back A q l s y w k) m (fall_at A true (y ∷ w ++ [])) y w refl (append-nil (y ∷ w)) (rw k)
      (λ a. absurd (subst Sure a (fall_ended A.default (y ∷ w ++ [])))) fuel

  tells : (e : Bool) (b : ℕ) → Holds A e b
  tells e zero m w u q l s t ld p tr few fuel = absurd (no_fuel A L n G e w u q ld p t tr few)
  tells e (suc b) zero w u q l s t ld p tr few fuel = absurd (no_fuel A L n G e w u q ld p t tr fuel)
  tells e (suc b) (suc m) w (y ∷ u) q l s t ld p tr few fuel =
      character_case e b (tells e b) m w y u q l s t ld p tr few fuel (A.accept q) (A.target q y) refl refl
  tells false (suc b) (suc m) w [] q l s t ld p tr few fuel = open_case b (tells false b) m w q l s t ld p tr few fuel (settled A q) refl
  tells true (suc b) (suc m) w [] q l s t ld p tr few fuel = end_case b (tells true b) m w q l s t ld p tr few fuel (A.accept_at_end q) refl

  -- Where a run is resumed.

  led_nonzero : (q x : ℕ) (w : List ℕ) → Leads A q (x ∷ w) → after A q (x ∷ w) ≢ 0
  unfolding after
  led_nonzero q x [] ld = ld.0
  led_nonzero q x (y ∷ w) ld = led_nonzero (A.target q x) y w ld.1

  start_led : (w u : List ℕ) (q : ℕ) → Leads A 0 w → q ≡ after A 0 w → start w u q ≡ at w u q [] 0
  start_led [] u q ld p = refl
  start_led (x ∷ w) u q ld p = rw (ne_eqb q 0 (λ z. led_nonzero 0 x w ld (sym p ∙ z)))

  -- the same with fuel that always suffices
  fuel_tells : L ≤ 8 → (e : Bool) (w u : List ℕ) (q : ℕ) → Stood A w q → (m : ℕ) → 11 * (length w + length u + 1) ≤ m →
      Tells A (length w) [] 0 (trace A e 0 (w ++ u)) (steps A e m (start w u q))
  unfolding walk
  fuel_tells h e w u q (led p ld) m enough =
      let eleven : L + 3 ≤ 11 = omega arith in
      let few : cost (trace A e 0 (w ++ u)) < m + length w =
      omega (arith, (bounded A L n G e (w ++ u)).whole, mul-le-mul_right (length (w ++ u)) eleven, length-append w u) in
      subst (λ c. Tells A (length w) [] 0 (trace A e 0 (w ++ u)) (steps A e m c)) (sym (start_led w u q ld p))
      (tells e m m w u q [] 0 (trace A e 0 (w ++ u)) ld p refl few few)
  fuel_tells h e w u q (leftover x pw pq pm i k) m enough =
      subst (λ w. Tells A (length w) [] 0 (trace A e 0 (w ++ u)) (steps A e m (start w u q))) (sym pw)
      (subst (λ q. Tells A 1 [] 0 (trace A e 0 (x ∷ u)) (steps A e m (start (x ∷ []) u q))) (sym pq) again)
    where
      is : trace A e 0 (x ∷ u) ≡ handle (back (fall_at A e (x ∷ u)) 0) (x ∷ u) (λ k. trace A e 0 (drop (suc k) (x ∷ u)))
      is = trace_round A L n G e (x ∷ u) ∙ rw (G.accept_0, k)

      again : Tells A 1 [] 0 (trace A e 0 (x ∷ u)) (steps A e m (due_at [] (x ∷ u) [] 0))
      again =
          let eleven : L + 3 ≤ 11 = omega arith in
          let held : length w ≡ 1 = ap length pw in
          let few : cost (trace A e 0 (x ∷ u)) < m =
          omega (arith, (bounded A L n G e (x ∷ u)).whole, mul-le-mul_right (suc (length u)) eleven) in
          subst (λ t. Tells A 1 [] 0 t (steps A e m (due_at [] (x ∷ u) [] 0))) (sym is)
          (due_case e m (tells e m) 0 [] 0 m (fall_at A e (x ∷ u)) x u refl (λ _. (refl, k)) (omega (arith, ap cost is)) (omega (arith, ap cost is)))

  start_length : (w u : List ℕ) (q : ℕ) → length (start w u q).store + length (start w u q).unread ≡ length w + length u
  start_length w u q = by (not (is_empty w) && eqb q 0)
    where
      by : (b : Bool) → length (start_by b w u q).store + length (start_by b w u q).unread ≡ length w + length u
      by false = refl
      by true = omega (arith, length-append w u)

  pub run_tells : L ≤ 8 → (e : Bool) (w u : List ℕ) (q : ℕ) → Stood A w q →
      Tells A (length w) [] 0 (trace A e 0 (w ++ u)) (run A e (start w u q))
  unfolding run
  run_tells h e w u q S =
      fuel_tells h e w u q S (11 * (length (start w u q).store + length (start w u q).unread + 1)) (omega (arith, start_length w u q))

  -- a resumed run is the run from the start over what is held and the piece, less the steps that were made: one for each character held
  pub run_again : L ≤ 8 → (e : Bool) (w u : List ℕ) (q : ℕ) → Stood A w q → (let r = run A e (start w u q) in let r' = run A e (start [] (w ++ u) 0) in
      (r.status ≡ r'.status) × (r.final.state ≡ r'.final.state) × (r.final.store ≡ r'.final.store) × (r.final.log ≡ r'.final.log)
      × (r.final.steps + length w ≡ r'.final.steps))
  run_again h e w u q S =
      let a = run_tells h e w u q S in
      let b = run_tells h e [] (w ++ u) 0 (led after_nothing tt) in (
        a.status ∙ sym b.status,
        a.state ∙ sym b.state,
        a.store ∙ sym b.store,
        a.log ∙ sym b.log,
        let x : (run A e (start w u q)).final.steps + length w ≡ 0 + cost (trace A e 0 (w ++ u)) = a.steps in
            let y : (run A e (start [] (w ++ u) 0)).final.steps + 0 ≡ 0 + cost (trace A e 0 (w ++ u)) = b.steps in
            omega arith,
      )

  -- more fuel changes nothing
  pub fuel_enough : L ≤ 8 → (e : Bool) (w u : List ℕ) (q : ℕ) → Stood A w q → (m : ℕ) → 11 * (length w + length u + 1) ≤ m →
      steps A e m (start w u q) ≡ run A e (start w u q)
  fuel_enough h e w u q S m enough =
      tells_unique A (length w) [] 0 (trace A e 0 (w ++ u)) (steps A e m (start w u q)) (run A e (start w u q)) (fuel_tells h e w u q S m enough)
      (run_tells h e w u q S)

  -- a run that ends open waits, and the end is not known
  pub run_waits : L ≤ 8 → (e : Bool) (w u : List ℕ) (q : ℕ) → Stood A w q → (run A e (start w u q)).status ≡ Open →
      Waits A e (run A e (start w u q)).final
  run_waits h true w u q S o =
      absurd (not_open (status_of (trace A true 0 (w ++ u))) (trace_ended A 0 (w ++ u)) (sym (run_tells h true w u q S).status ∙ o))
  run_waits h false w u q S o =
      let a = run_tells h false w u q S in
      record {
        no_end = refl;
        unread = a.unread;
        due = a.due;
        state = ap (settled A) a.state ∙ (rests_open A (trace A false 0 (w ++ u)) (trace_rests A L n G 0 (w ++ u)) (sym a.status ∙ o)).1;
      }

-- Before the input's end no run closes: each of its steps leads on, waits or stops.

abbrev pub NotClosed : Status → Type 0
NotClosed Open = Unit {0}
NotClosed Closed = ⊥
NotClosed Stopped = Unit {0}

abbrev LeadsOn : Step → Type 0
LeadsOn (onward c) = Unit {0}
LeadsOn (halt s c) = NotClosed s

fall_leads : (b : Fall) (c : Configuration) → LeadsOn (fall_by b c)
fall_leads nowhere c = tt
fall_leads (taking g k) c = of_cond LeadsOn (ltb (length c.store) k) (read c 0) (emit c g) (λ _. tt) (λ _. tt)
fall_leads keeping c = tt

step_leads : (A : Automaton) (c : Configuration) → LeadsOn (step A false c)
unfolding step fall_back
step_leads A c =
    by_cases LeadsOn _ (end Closed c) (
      λ _. fall_leads (fall A.default false (c.store ++ c.unread)) c,
      λ _. (λ _. tt, λ _. (λ _. tt, λ _. (λ _. tt, λ _. (λ _. tt, λ _. (λ _. tt, λ z. absurd z))))),
    )

follow_leads : (d : Step) (f : Configuration → Ended) → LeadsOn d → ((c : Configuration) → NotClosed (f c).status) → NotClosed (follow d f).status
follow_leads (onward c) f h k = k c
follow_leads (halt s c) f h k = h

steps_lead : (A : Automaton) (n : ℕ) (c : Configuration) → NotClosed (steps A false n c).status
unfolding steps
steps_lead A zero c = tt
steps_lead A (suc n) c = follow_leads (step A false c) (λ d. steps A false n d) (step_leads A c) (λ d. steps_lead A n d)

pub run_unended : (A : Automaton) (c : Configuration) → NotClosed (run A false c).status
unfolding run
run_unended A c = steps_lead A _ c
