-- Laws of traces: a trace is an iteration of rounds, a longer input goes on from what is held, and how counts and steps add up.
-- By recursion on the input, round by round, from the laws of one walk.
use mathlib.Core.Bool.{Bool, true, false, ◌&&◌, not}
use mathlib.Core.List.{List, [], ◌∷◌, ◌++◌}
use mathlib.Core.Logic.{◌≢◌}
use mathlib.Core.Path.{◌≡◌, refl, sym, ap, subst, ◌∙◌, fun_ext}
use Prim.Native.Nat.{ℕ, zero, suc, pred, ◌+◌, ◌*◌, ◌≤◌, ◌<◌}
use native.Mathlib.Nat.{zero-add, mul-le-mul_left}
use native.Mathlib.Omega.{arith}
use lib.Dec.{T}
use lib.ListN.{length, take, drop, length-append, take-append-drop}
use lib.Seq.{take-append-le, drop-append-add, length-take-le}
use Rattle.lists.proofs.Laws.Tests.{and_right}
use Rattle.lists.proofs.Laws.Each.{each_back}
use Rattle.meaning.specs.Table.{Characters, Mode, Absent, Single, Paired, is_first, is_second}
use Rattle.meaning.specs.Meaning.{covered}
use Rattle.automaton.specs.Automaton.{Automaton}
use Rattle.automaton.proofs.Laws.Good.{after, Leads, Good}
use Rattle.reckoning.specs.Machine.{Status, Open, Closed, Stopped, Fall, nowhere, taking, keeping, fall_one, fall_two, fall}
use Rattle.reckoning.specs.Session.{settled}
use Rattle.reckoning.proofs.Laws.Trace.{Round, waits, closes, stops, accepts, defaults, on_end, walk, fall_at, round, Trace, waiting, closing, stopping, accepting, defaulting, last_of, handle, trace, cost, log_of, held_of, state_of, status_of, graft}
use Rattle.reckoning.proofs.Laws.Walk.{Firm, Sure, firm_back, fall_ended, round_mono, Room, fall_room, Falls, walk_falls, Span, Takes, Waited, on_character_elim, walk_span, walk_depth, walk_takes, walk_waited, walk_alone, span_weaken}

-- one fall is not another
nowhere_kept : nowhere ≡ keeping → ⊥
nowhere_kept p = subst (λ b. Sure b) p tt

taking_kept : {g k : ℕ} → taking g k ≡ keeping → ⊥
taking_kept p = subst (λ b. Sure b) p tt

-- skipping k is dropping k
pub trace_skip : (A : Automaton) (e : Bool) (k : ℕ) (u : List ℕ) → trace A e k u ≡ trace A e 0 (drop k u)
unfolding trace
trace_skip A e zero [] = refl
trace_skip A e (suc k) [] = refl
trace_skip A e zero (x ∷ u) = refl
trace_skip A e (suc k) (x ∷ u) = trace_skip A e k u

module _ (A : Automaton) (L n : ℕ) (G : Good A L n) where
  nothing_round : (e : Bool) (b : Fall) (f : ℕ → Trace) → last_of e ≡ handle (walk A e b 0 0 []) [] f
  unfolding walk
  nothing_round false b f = rw G.accept_0
  nothing_round true b f = rw G.end_0

  -- the trace is one round, then the trace of what the round left
  pub trace_round : (e : Bool) (u : List ℕ) → trace A e 0 u ≡ handle (round A e u) u (λ k. trace A e 0 (drop (suc k) u))
  unfolding trace
  trace_round e [] = nothing_round e (fall_at A e []) (λ k. trace A e 0 [])
  trace_round e (x ∷ u) = ap (λ (f : ℕ → Trace). handle (round A e (x ∷ u)) (x ∷ u) f) (fun_ext (λ k. trace_skip A e k u))

-- The trace over u ++ v goes on, where the trace over u waits, from what is held there.

-- what a round's default takes
taken_room : (n : ℕ) (b : Fall) (d g k : ℕ) → Room n b → Falls b (defaults d g k) → (1 ≤ k) × (k ≤ 2) × (k ≤ n)
taken_room n b d g k r f = subst (Room n) f r

graft_round : (b : Fall) (o o' : Round) (x : ℕ) (u v : List ℕ) (f f' : ℕ → Trace) (F : List ℕ → Trace) →
    (Firm o → o' ≡ o) → Span 0 (suc (length u)) o → Room (suc (length u)) b → Falls b o → ((k : ℕ) → k ≤ length u → f' k ≡ graft (f k) F) →
    F (x ∷ u) ≡ handle o' (x ∷ u ++ v) f' → handle o' (x ∷ u ++ v) f' ≡ graft (handle o (x ∷ u) f) F
unfolding graft
graft_round b waits o' x u v f f' F m s r l h w = sym w
graft_round b closes o' x u v f f' F m s r l h w = rw (m tt)
graft_round b (stops d) o' x u v f f' F m s r l h w = rw (m tt)
graft_round b (accepts g d) o' x u v f f' F m s r l h w = rw (m tt, h (pred d) (omega arith), take-append-le d (x ∷ u) v s.1)
graft_round b (defaults d g k) o' x u v f f' F m s r l h w =
    let i = taken_room (suc (length u)) b d g k r l in
    rw (m tt, h (pred k) (omega arith), take-append-le k (x ∷ u) v i.2)

pub round_span : (A : Automaton) (e : Bool) (x : ℕ) (u : List ℕ) → Span 0 (suc (length u)) (round A e (x ∷ u))
round_span A e x u =
    span_weaken (round A e (x ∷ u)) 0 0 (0 + suc (length u)) (suc (length u)) (omega arith) (omega arith) (walk_span A e (fall_at A e (x ∷ u)) 0 0 (x ∷ u))

pub round_room : (A : Automaton) (e : Bool) (x : ℕ) (u : List ℕ) → Room (suc (length u)) (fall_at A e (x ∷ u))
round_room A e x u = fall_room A.default e x u

pub round_falls : (A : Automaton) (e : Bool) (u : List ℕ) → Falls (fall_at A e u) (round A e u)
round_falls A e u = walk_falls A e (fall_at A e u) 0 0 u

module _ (A : Automaton) (e : Bool) (v : List ℕ) where
  pub trace_graft : (k : ℕ) (u : List ℕ) → k ≤ length u → trace A e k (u ++ v) ≡ graft (trace A false k u) (λ h. trace A e 0 (h ++ v))
  unfolding trace graft
  trace_graft k [] p = let z : k ≡ 0 = omega arith in rw z
  trace_graft (suc k) (x ∷ u) p = trace_graft k u (omega arith)
  trace_graft zero (x ∷ u) p =
      graft_round (fall_at A false (x ∷ u)) (round A false (x ∷ u)) (round A e (x ∷ u ++ v)) x u v (λ k. trace A false k u) (λ k. trace A e k (u ++ v))
      (λ h. trace A e 0 (h ++ v)) (round_mono A e x u v) (round_span A false x u) (round_room A false x u) (round_falls A false (x ∷ u))
      (λ k. trace_graft k u) refl

-- What the parts of a grafted trace are.

pub graft_stopped : (t : Trace) (f : List ℕ → Trace) → status_of t ≢ Open → graft t f ≡ t
unfolding graft status_of
graft_stopped (waiting h) f s = absurd (s refl)
graft_stopped closing f s = refl
graft_stopped (stopping d) f s = refl
graft_stopped (accepting r w t) f s = ap (accepting r w) (graft_stopped t f s)
graft_stopped (defaulting d g w t) f s = ap (defaulting d g w) (graft_stopped t f s)

-- a trace that is told in two parts
pub record Joined (t s r : Trace) : Type 0 where
  pub status : status_of r ≡ status_of s
  pub held : held_of r ≡ held_of s
  pub log : log_of r ≡ log_of t ++ log_of s
  pub costs : cost r + length (held_of t) ≡ cost t + cost s

abbrev pub NotOpen : Status → Type 0
NotOpen Open = ⊥
NotOpen Closed = Unit {0}
NotOpen Stopped = Unit {0}

pub not_open : (s : Status) → NotOpen s → s ≢ Open
not_open s k p = subst NotOpen p k

pub graft_open : (t : Trace) (f : List ℕ → Trace) → status_of t ≡ Open → Joined t (f (held_of t)) (graft t f)
unfolding graft status_of held_of log_of cost
graft_open (waiting h) f s = record { status = refl; held = refl; log = refl; costs = omega arith }
graft_open closing f s = absurd (not_open Closed tt s)
graft_open (stopping d) f s = absurd (not_open Stopped tt s)
graft_open (accepting r w t) f s =
    let j : Joined t (f (held_of t)) (graft t f) = graft_open t f s in
    record { status = j.status; held = j.held; log = rw j.log; costs = omega arith }
graft_open (defaulting d g w t) f s =
    let j : Joined t (f (held_of t)) (graft t f) = graft_open t f s in
    record { status = j.status; held = j.held; log = rw j.log; costs = omega arith }

-- What a trace has to do with its input: the words that it emits come from its front, and what waits is held whole.
abbrev pub Covers : List ℕ → Trace → Type 0
Covers u (waiting h) = h ≡ u
Covers u closing = u ≡ []
Covers u (stopping d) = 0 < length u
Covers u (accepting g w t) = (r : List ℕ) × (u ≡ w ++ r) × Covers r t
Covers u (defaulting d g w t) = (r : List ℕ) × (u ≡ w ++ r) × Covers r t

-- what is held is of the input
pub held_characters : (t : Trace) (u : List ℕ) → Covers u t → Characters u → Characters (held_of t)
unfolding held_of
held_characters (waiting h) u c a = subst Characters (sym c) a
held_characters closing u c a = tt
held_characters (stopping d) u c a = tt
held_characters (accepting g w t) u c a = held_characters t c.0 c.2 (each_back (λ x. x < 65536) w c.0 (subst Characters c.1 a))
held_characters (defaulting d g w t) u c a = held_characters t c.0 c.2 (each_back (λ x. x < 65536) w c.0 (subst Characters c.1 a))

-- where a trace waits, what is held is the input behind what its log covers
pub covers_held : (t : Trace) (u : List ℕ) → Covers u t → status_of t ≡ Open → drop (covered (log_of t)) u ≡ held_of t
unfolding covered log_of held_of status_of
covers_held (waiting h) u c o = sym c
covers_held closing u c o = absurd (not_open Closed tt o)
covers_held (stopping d) u c o = absurd (not_open Stopped tt o)
covers_held (accepting g w t) u c o =
    ap (drop (length w + covered (log_of t))) c.1 ∙ drop-append-add w c.0 (covered (log_of t)) ∙ covers_held t c.0 c.2 o
covers_held (defaulting d g w t) u c o =
    ap (drop (length w + covered (log_of t))) c.1 ∙ drop-append-add w c.0 (covered (log_of t)) ∙ covers_held t c.0 c.2 o

-- where a machine stands between calls: what is held leads to the state, or is a first unit that a marked default left at state 0
pub data Stood (A : Automaton) (h : List ℕ) (q : ℕ) : Type 0 where
  led : q ≡ after A 0 h → Leads A 0 h → Stood A h q
  leftover : (x : ℕ) → h ≡ x ∷ [] → q ≡ 0 → A.default ≡ Paired → T (is_first x) → A.target 0 x ≡ 0 → Stood A h q

-- what waits stands in the state after it, which is not settled
abbrev pub Rests : Automaton → Trace → Type 0
Rests A (waiting h) = Stood A h (after A 0 h) × (settled A (after A 0 h) ≡ false)
Rests A closing = Unit {0}
Rests A (stopping d) = Unit {0}
Rests A (accepting g w t) = Rests A t
Rests A (defaulting d g w t) = Rests A t

-- what the last part of a trace may cost
unfoldable pub spare : ℕ → Trace → ℕ
spare L (waiting h) = length h
spare L closing = 1
spare L (stopping d) = L + 2
spare L (accepting g w t) = spare L t
spare L (defaulting d g w t) = spare L t

covers_round : (b : Fall) (o : Round) (x : ℕ) (u : List ℕ) (f : ℕ → Trace) → Takes o → Span 0 (suc (length u)) o → Room (suc (length u)) b → Falls b o →
    ((k : ℕ) → k ≤ length u → Covers (drop k u) (f k)) → Covers (x ∷ u) (handle o (x ∷ u) f)
covers_round b waits x u f k s r l h = refl
covers_round b closes x u f k s r l h = absurd k
covers_round b (stops d) x u f k s r l h = omega arith
covers_round b (accepts g zero) x u f k s r l h = absurd (omega arith)
covers_round b (accepts g (suc d)) x u f k s r l h = (drop d u, sym (take-append-drop (suc d) (x ∷ u)), h d (omega arith))
covers_round b (defaults d g zero) x u f k s r l h = let i = taken_room (suc (length u)) b d g zero r l in absurd (omega arith)
covers_round b (defaults d g (suc c)) x u f k s r l h =
    let i = taken_room (suc (length u)) b d g (suc c) r l in (drop c u, sym (take-append-drop (suc c) (x ∷ u)), h c (omega arith))

rests_round : (A : Automaton) (o : Round) (u : List ℕ) (f : ℕ → Trace) → Waited A 0 u o → ((k : ℕ) → Rests A (f k)) → Rests A (handle o u f)
rests_round A waits u f w h = (led refl w.0, w.1)
rests_round A closes u f w h = tt
rests_round A (stops d) u f w h = tt
rests_round A (accepts r d) u f w h = h (pred d)
rests_round A (defaults d g k) u f w h = h (pred k)

-- the steps are few for what the log covers
abbrev pub Cheap : ℕ → Trace → Type 0
Cheap L t = cost t ≤ (L + 3) * covered (log_of t) + spare L t

-- a roll-back after d reads, and c takes and an emission after it
two_cost : (L d c : ℕ) → d ≤ L → 1 ≤ c → c ≤ 2 → d + c + 2 ≤ (L + 3) * c
two_cost L d zero h i j = absurd (omega arith)
two_cost L d (suc zero) h i j = omega arith
two_cost L d (suc (suc zero)) h i j = omega arith
two_cost L d (suc (suc (suc c))) h i j = absurd (omega arith)

cost_round : (L : ℕ) (b : Fall) (o : Round) (x : ℕ) (u : List ℕ) (f : ℕ → Trace) → Takes o → Span 0 (suc (length u)) o → Span 0 L o →
    Room (suc (length u)) b → Falls b o → ((k : ℕ) → Cheap L (f k)) → Cheap L (handle o (x ∷ u) f)
unfolding cost log_of covered spare
cost_round L b waits x u f k s l r y h = omega arith
cost_round L b closes x u f k s l r y h = omega arith
cost_round L b (stops d) x u f k s l r y h = omega arith
cost_round L b (accepts g d) x u f k s l r y h =
    omega (arith, h (pred d), length-take-le d (x ∷ u) s.1, ap (λ (m : ℕ). (L + 3) * (m + covered (log_of (f (pred d))))) (length-take-le d (x ∷ u) s.1))
cost_round L b (defaults d g c) x u f k s l r y h =
    let i = taken_room (suc (length u)) b d g c r y in
    let m : length (take c (x ∷ u)) ≡ c = length-take-le c (x ∷ u) i.2 in
    let w = covered (log_of (f (pred c))) in
    -- one character has L + 3 steps, and two have them twice
    let j = two_cost L d c l.1 i.0 i.1 in
    omega (arith, h (pred c), ap (λ (z : ℕ). (L + 3) * (z + w)) m)

module _ (A : Automaton) (L n : ℕ) (G : Good A L n) (e : Bool) where
  nothing_covers : (b : Bool) → Covers [] (last_of b)
  nothing_covers false = refl
  nothing_covers true = refl

  pub trace_covers : (k : ℕ) (u : List ℕ) → k ≤ length u → Covers (drop k u) (trace A e k u)
  unfolding trace
  trace_covers zero [] p = nothing_covers e
  trace_covers (suc k) [] p = absurd (omega arith)
  trace_covers (suc k) (x ∷ u) p = trace_covers k u (omega arith)
  trace_covers zero (x ∷ u) p =
      covers_round (fall_at A e (x ∷ u)) (round A e (x ∷ u)) x u (λ k. trace A e k u) (walk_takes A L n G e (fall_at A e (x ∷ u)) x u) (round_span A e x u)
      (round_room A e x u) (round_falls A e (x ∷ u)) (λ k. trace_covers k u)

  nothing_cost : (b : Bool) → Cheap L (last_of b)
  unfolding cost log_of covered spare
  nothing_cost false = omega arith
  nothing_cost true = omega arith

  pub trace_cost : (k : ℕ) (u : List ℕ) → Cheap L (trace A e k u)
  unfolding trace
  trace_cost k [] = nothing_cost e
  trace_cost (suc k) (x ∷ u) = trace_cost k u
  trace_cost zero (x ∷ u) =
      cost_round L (fall_at A e (x ∷ u)) (round A e (x ∷ u)) x u (λ k. trace A e k u) (walk_takes A L n G e (fall_at A e (x ∷ u)) x u) (round_span A e x u)
      (walk_depth A L n G e (fall_at A e (x ∷ u)) 0 0 (x ∷ u) G.some_state G.depth_0) (round_room A e x u) (round_falls A e (x ∷ u)) (λ k. trace_cost k u)

-- a first unit is left where nothing follows it and the default is marked
pub left_alone : (m : Mode) (e : Bool) (x : ℕ) (u : List ℕ) → fall m e (x ∷ u) ≡ keeping → (m ≡ Paired) × (u ≡ []) × T (is_first x)
left_alone Absent e x u p = absurd (nowhere_kept p)
left_alone Single e x u p = absurd (taking_kept p)
left_alone Paired e x [] p = (refl, refl, and_right (not e) (is_first x) (one (not e && is_first x) p))
  where
    one : (b : Bool) → fall_one b ≡ keeping → T b
    one true p = tt
    one false p = absurd (taking_kept p)
left_alone Paired e x (y ∷ u) p = two (is_first x && is_second y) p
  where
    two : (b : Bool) → fall_two b ≡ keeping → (Paired ≡ Paired) × (y ∷ u ≡ []) × T (is_first x)
    two true p = absurd (taking_kept p)
    two false p = absurd (taking_kept p)

module _ (A : Automaton) (L n : ℕ) (G : Good A L n) where
  unsettled_0 : settled A 0 ≡ false
  unsettled_0 = rw G.accept_0

  rests_alone : (x : ℕ) (f : ℕ → Trace) → ((k : ℕ) → Rests A (f k)) → A.default ≡ Paired → T (is_first x) → (q : ℕ) → A.target 0 x ≡ q →
      Rests A (handle (walk A false keeping 0 0 (x ∷ [])) (x ∷ []) f)
  unfolding walk after
  rests_alone x f h m i zero pq = rw (G.accept_0, pq) (leftover x refl pq m i pq, ap (settled A) pq ∙ unsettled_0)
  rests_alone x f h m i (suc q) pq =
      rests_round A (walk A false keeping 0 0 (x ∷ [])) (x ∷ []) f (walk_alone A keeping x G.accept_0 (omega arith)) h

  pub trace_rests : (k : ℕ) (u : List ℕ) → Rests A (trace A false k u)
  unfolding trace after
  trace_rests k [] = (led refl tt, unsettled_0)
  trace_rests (suc k) (x ∷ u) = trace_rests k u
  trace_rests zero (x ∷ u) = by (λ k. trace_rests k u) (fall_at A false (x ∷ u)) refl
    where
      plain : (b : Fall) → Sure b → ((k : ℕ) → Rests A (trace A false k u)) → Rests A (handle (walk A false b 0 0 (x ∷ u)) (x ∷ u) (λ k. trace A false k u))
      plain b h r = rests_round A (walk A false b 0 0 (x ∷ u)) (x ∷ u) (λ k. trace A false k u) (walk_waited A b 0 0 (x ∷ u) h) r

      by : ((k : ℕ) → Rests A (trace A false k u)) → (b : Fall) → fall_at A false (x ∷ u) ≡ b →
          Rests A (handle (walk A false b 0 0 (x ∷ u)) (x ∷ u) (λ k. trace A false k u))
      by r nowhere p = plain nowhere tt r
      by r (taking g k) p = plain (taking g k) tt r
      by r keeping p =
          let a = left_alone A.default false x u p in
          let f : ℕ → Trace = λ k. trace A false k u in
          subst (λ v. Rests A (handle (walk A false keeping 0 0 (x ∷ v)) (x ∷ v) f)) (sym a.1) (rests_alone x f r a.0 a.2 (A.target 0 x) refl)

-- of a whole trace that waits, what rests
pub rests_open : (A : Automaton) (t : Trace) → Rests A t → status_of t ≡ Open →
    Stood A (held_of t) (state_of A t) × (settled A (state_of A t) ≡ false)
unfolding status_of held_of
rests_open A (waiting h) r s = r
rests_open A closing r s = absurd (not_open Closed tt s)
rests_open A (stopping d) r s = absurd (not_open Stopped tt s)
rests_open A (accepting g w t) r s = rests_open A t r s
rests_open A (defaulting d g w t) r s = rests_open A t r s

-- a trace that does not wait holds nothing
pub ended_empty : (t : Trace) → NotOpen (status_of t) → held_of t ≡ []
unfolding status_of held_of
ended_empty (waiting h) k = absurd k
ended_empty closing k = refl
ended_empty (stopping d) k = refl
ended_empty (accepting g w t) k = ended_empty t k
ended_empty (defaulting d g w t) k = ended_empty t k

-- How the counts add up, by the status.
abbrev pub Counted : Status → ℕ → ℕ → ℕ → Type 0
Counted Open m c h = c + h ≡ m
Counted Closed m c h = c ≡ m
Counted Stopped m c h = c < m

pub counted_most : (s : Status) (m c h : ℕ) → Counted s m c h → c ≤ m
counted_most Open m c h p = omega arith
counted_most Closed m c h p = omega arith
counted_most Stopped m c h p = omega arith

counted_more : (s : Status) (w r : List ℕ) (m c h : ℕ) → length (w ++ r) ≡ m → Counted s (length r) c h → Counted s m (length w + c) h
counted_more Open w r m c h k p = omega (arith, length-append w r)
counted_more Closed w r m c h k p = omega (arith, length-append w r)
counted_more Stopped w r m c h k p = omega (arith, length-append w r)

pub covers_counted : (t : Trace) (u : List ℕ) → Covers u t → Counted (status_of t) (length u) (covered (log_of t)) (length (held_of t))
unfolding status_of log_of covered held_of
covers_counted (waiting h) u c = zero-add (length h) ∙ ap length c
covers_counted closing u c = sym (ap length c)
covers_counted (stopping d) u c = c
covers_counted (accepting g w t) u c =
    counted_more (status_of t) w c.0 (length u) (covered (log_of t)) (length (held_of t)) (ap length (sym c.1)) (covers_counted t c.0 c.2)
covers_counted (defaulting d g w t) u c =
    counted_more (status_of t) w c.0 (length u) (covered (log_of t)) (length (held_of t)) (ap length (sym c.1)) (covers_counted t c.0 c.2)

abbrev pub spare_of : ℕ → Status → ℕ → ℕ
spare_of L Open h = h
spare_of L Closed h = 1
spare_of L Stopped h = L + 2

pub spare_is : (L : ℕ) (t : Trace) → spare L t ≡ spare_of L (status_of t) (length (held_of t))
unfolding spare status_of held_of
spare_is L (waiting h) = refl
spare_is L closing = refl
spare_is L (stopping d) = refl
spare_is L (accepting g w t) = spare_is L t
spare_is L (defaulting d g w t) = spare_is L t

in_all : (L : ℕ) (s : Status) (m c h k : ℕ) → Counted s m c h → k ≤ (L + 3) * c + spare_of L s h → k ≤ (L + 3) * m + 1
in_all L Open m c h k p b = omega (arith, ap (λ (z : ℕ). (L + 3) * z) p)
in_all L Closed m c h k p b = omega (arith, ap (λ (z : ℕ). (L + 3) * z) p)
in_all L Stopped m c h k p b = omega (arith, mul-le-mul_left (L + 3) p)

-- a trace's counts and steps, for its whole input
pub record Bounded (L : ℕ) (u : List ℕ) (t : Trace) : Type 0 where
  pub counted : Counted (status_of t) (length u) (covered (log_of t)) (length (held_of t))
  pub by_status : cost t ≤ (L + 3) * covered (log_of t) + spare_of L (status_of t) (length (held_of t))
  pub whole : cost t ≤ (L + 3) * length u + 1

pub bounded : (A : Automaton) (L n : ℕ) → Good A L n → (e : Bool) (u : List ℕ) → Bounded L u (trace A e 0 u)
bounded A L n G e u =
    let t : Trace = trace A e 0 u in
    let k : ℕ = covered (log_of t) in
    let c : Counted (status_of t) (length u) k (length (held_of t)) = covers_counted t u (trace_covers A L n G e 0 u (omega arith)) in
    let b : cost t ≤ (L + 3) * k + spare_of L (status_of t) (length (held_of t)) =
    subst (λ (z : ℕ). cost t ≤ (L + 3) * k + z) (spare_is L t) (trace_cost A L n G e 0 u) in
    record { counted = c; by_status = b; whole = in_all L (status_of t) (length u) k (length (held_of t)) (cost t) c b }

-- With the end known nothing waits.

firm_end : (m : ℕ) (b : Fall) (d : ℕ) → Sure b → Firm (on_end m b d)
firm_end (suc r) b d h = tt
firm_end zero b zero h = tt
firm_end zero b (suc d) h = firm_back b (suc d) h

pub walk_firm : (A : Automaton) (b : Fall) (d q : ℕ) (u : List ℕ) → Sure b → Firm (walk A true b d q u)
unfolding walk
walk_firm A b d q [] h = firm_end (A.accept_at_end q) b d h
walk_firm A b d q (x ∷ u) h =
    on_character_elim Firm (A.accept q) (A.target q x) b d (λ p. walk A true b (suc d) p u)
    (λ r p. tt) (λ t. walk_firm A b (suc d) (A.target q x) u h) (firm_back b d h)

firm_round : (o : Round) (u : List ℕ) (f : ℕ → Trace) → Firm o → ((k : ℕ) → NotOpen (status_of (f k))) → NotOpen (status_of (handle o u f))
unfolding status_of
firm_round waits u f h k = h
firm_round closes u f h k = tt
firm_round (stops d) u f h k = tt
firm_round (accepts r d) u f h k = k (pred d)
firm_round (defaults d g c) u f h k = k (pred c)

pub trace_ended : (A : Automaton) (k : ℕ) (u : List ℕ) → NotOpen (status_of (trace A true k u))
unfolding trace status_of
trace_ended A k [] = tt
trace_ended A (suc k) (x ∷ u) = trace_ended A k u
trace_ended A zero (x ∷ u) =
    firm_round (round A true (x ∷ u)) (x ∷ u) (λ k. trace A true k u) (walk_firm A (fall_at A true (x ∷ u)) 0 0 (x ∷ u) (fall_ended A.default (x ∷ u)))
    (λ k. trace_ended A k u)
