-- Laws of one walk: resumed in the middle, over a longer input, how far it reaches, where it waits, and how to show something of it.
-- By recursion on the input, by cases on a state's accept and target.
use mathlib.Core.Bool.{Bool, true, false, ◌&&◌, not}
use mathlib.Core.List.{List, [], ◌∷◌, ◌++◌, append_assoc}
use mathlib.Core.Logic.{◌≢◌}
use mathlib.Core.Path.{◌≡◌, refl, sym, ap, subst, ◌∙◌}
use Prim.Native.Nat.{ℕ, zero, suc, ◌+◌, ◌≤◌, ◌<◌}
use native.Mathlib.Nat.{add-zero}
use native.Mathlib.Omega.{arith}
use lib.Dec.{T, eqb, eqb→eq, eqb-suc-zero}
use lib.ListN.{length, length-append}
use Rattle.meaning.specs.Table.{Mode, Absent, Single, Paired, is_first, is_second}
use Rattle.automaton.specs.Automaton.{Automaton}
use Rattle.automaton.proofs.Laws.Good.{after, after_snoc, Leads, leads_snoc, Good, go_none}
use Rattle.reckoning.specs.Machine.{Fall, nowhere, taking, keeping, fall_one, fall_two, fall}
use Rattle.reckoning.specs.Session.{settled}
use Rattle.reckoning.proofs.Laws.Trace.{Round, waits, closes, stops, accepts, defaults, back, on_character, on_wait, on_end, on_nothing, walk, fall_at, round}

and_none : (b : Bool) → b && false ≡ false
and_none true = refl
and_none false = refl

-- a settled state, by clauses on its accept
abbrev pub hit_of : ℕ → ℕ → Bool
hit_of zero m = false
hit_of (suc r) m = eqb (suc r) m

pub settled_hit : (A : Automaton) (q g : ℕ) → A.accept q ≡ g → settled A q ≡ hit_of g (A.accept_at_end q)
settled_hit A q zero p = rw p
settled_hit A q (suc r) p = rw (p, eqb-suc-zero)

-- accepts the same rule at once and at the end
pub settled_both : (A : Automaton) (q : ℕ) → T (settled A q) → (r : ℕ) × (A.accept q ≡ suc r) × (A.accept_at_end q ≡ suc r)
settled_both A q t = split (A.accept q) refl (rw (settled_hit A q (A.accept q) refl) at t)
  where
    split : (g : ℕ) → A.accept q ≡ g → T (hit_of g (A.accept_at_end q)) → (r : ℕ) × (A.accept q ≡ suc r) × (A.accept_at_end q ≡ suc r)
    split zero p h = absurd h
    split (suc r) p h = (r, p, sym (eqb→eq (suc r) (A.accept_at_end q) h))

-- cases of one character

on_read : (g t : ℕ) (b : Fall) (d : ℕ) (f : ℕ → Round) → g ≡ 0 → t ≢ 0 → on_character g t b d f ≡ f t
on_read (suc r) t b d f p h = absurd (omega arith)
on_read zero zero b d f p h = absurd (h refl)
on_read zero (suc t) b d f p h = refl

pub on_character_elim : (P : Round → Type 0) (g t : ℕ) (b : Fall) (d : ℕ) (f : ℕ → Round) →
    ((r : ℕ) → g ≡ suc r → P (accepts r d)) → (t ≢ 0 → P (f t)) → P (back b d) → P (on_character g t b d f)
on_character_elim P (suc r) t b d f h k x = h r refl
on_character_elim P zero (suc t) b d f h k x = k (omega arith)
on_character_elim P zero zero b d f h k x = x

-- a walk over w ++ u goes on from the state after w
module _ (A : Automaton) (L n : ℕ) (G : Good A L n) where
  pub walk_resume : (e : Bool) (b : Fall) (d q : ℕ) (w u : List ℕ) → q < n → Leads A q w →
      walk A e b d q (w ++ u) ≡ walk A e b (d + length w) (after A q w) u
  unfolding walk after
  walk_resume e b d q [] u h l = rw add-zero
  walk_resume e b d q (x ∷ w) u h l =
      on_read (A.accept q) (A.target q x) b d (λ p. walk A e b (suc d) p (w ++ u)) (go_none A L n G q x h l.0) l.0
      ∙ walk_resume e b (suc d) (A.target q x) w u (G.inside q x h) l.1
      ∙ ap (λ (m : ℕ). walk A e b m (after A (A.target q x) w) u) (omega arith)

-- a walk that does not wait is the same over every longer input, ended or not

abbrev pub Firm : Round → Type 0
Firm waits = ⊥
Firm closes = Unit {0}
Firm (stops d) = Unit {0}
Firm (accepts r d) = Unit {0}
Firm (defaults d g k) = Unit {0}

-- a fall that does not wait
abbrev pub Sure : Fall → Type 0
Sure nowhere = Unit {0}
Sure (taking g k) = Unit {0}
Sure keeping = ⊥

pub firm_back : (b : Fall) (d : ℕ) → Sure b → Firm (back b d)
firm_back nowhere d h = tt
firm_back (taking g k) d h = tt
firm_back keeping d h = h

pub sure_back : (b : Fall) (d : ℕ) → Firm (back b d) → Sure b
sure_back nowhere d h = tt
sure_back (taking g k) d h = tt
sure_back keeping d h = h

-- b is the fall of an input, c of a longer one
module _ (b c : Fall) (same : Sure b → c ≡ b) where
  on_character_mono : (g t d : ℕ) (f f' : ℕ → Round) →
      ((p : ℕ) → Firm (f p) → f' p ≡ f p) → Firm (on_character g t b d f) → on_character g t c d f' ≡ on_character g t b d f
  on_character_mono (suc r) t d f f' h k = refl
  on_character_mono zero (suc t) d f f' h k = h (suc t) k
  on_character_mono zero zero d f f' h k = ap (λ x. back x d) (same (sure_back b d k))

  -- a settled state accepts the same rule whatever comes

  wait_character : (h : Bool) (g m t d : ℕ) (f : ℕ → Round) → (T h → (r : ℕ) × (g ≡ suc r) × (m ≡ suc r)) →
      Firm (on_wait h g d) → on_character g t c d f ≡ on_wait h g d
  wait_character true g m t d f s k = rw (s tt).1
  wait_character false g m t d f s k = absurd k

  wait_end : (h : Bool) (g m d : ℕ) → (T h → (r : ℕ) × (g ≡ suc r) × (m ≡ suc r)) → Firm (on_wait h g d) → on_end m c d ≡ on_wait h g d
  wait_end true g m d s k = rw ((s tt).1, (s tt).2)
  wait_end false g m d s k = absurd k

  module _ (A : Automaton) where
    nothing_mono : (e : Bool) (d q : ℕ) (v : List ℕ) → Firm (walk A false b d q []) → walk A e c d q v ≡ walk A false b d q []
    unfolding walk
    nothing_mono false d q [] k = refl
    nothing_mono true d q [] k = wait_end (settled A q) (A.accept q) (A.accept_at_end q) d (settled_both A q) k
    nothing_mono e d q (x ∷ v) k =
        wait_character (settled A q) (A.accept q) (A.accept_at_end q) (A.target q x) d (λ p. walk A e c (suc d) p v) (settled_both A q) k

    pub walk_mono : (e : Bool) (d q : ℕ) (u v : List ℕ) → Firm (walk A false b d q u) → walk A e c d q (u ++ v) ≡ walk A false b d q u
    unfolding walk
    walk_mono e d q [] v k = nothing_mono e d q v k
    walk_mono e d q (x ∷ u) v k =
        on_character_mono (A.accept q) (A.target q x) d (λ p. walk A false b (suc d) p u) (λ p. walk A e c (suc d) p (u ++ v))
        (λ p. walk_mono e (suc d) p u v) k

-- The fall of a round's input.

-- no fall waits where the end is known, and one that does not wait is that of every longer input
pub fall_ended : (m : Mode) (u : List ℕ) → Sure (fall m true u)
fall_ended Absent u = tt
fall_ended Single u = tt
fall_ended Paired [] = tt
fall_ended Paired (x ∷ []) = tt
fall_ended Paired (x ∷ (y ∷ u)) = two (is_first x && is_second y)
  where
    two : (b : Bool) → Sure (fall_two b)
    two true = tt
    two false = tt

pub fall_mono : (m : Mode) (e : Bool) (x : ℕ) (u v : List ℕ) → Sure (fall m false (x ∷ u)) → fall m e (x ∷ u ++ v) ≡ fall m false (x ∷ u)
fall_mono Absent e x u v h = refl
fall_mono Single e x u v h = refl
fall_mono Paired e x (y ∷ u) v h = refl
fall_mono Paired e x [] [] h = one (is_first x) h
  where
    one : (b : Bool) → Sure (fall_one b) → fall_one (not e && b) ≡ fall_one b
    one true h = absurd h
    one false h = ap fall_one (and_none (not e))
fall_mono Paired e x [] (y ∷ v) h = one (is_first x) h
  where
    one : (b : Bool) → Sure (fall_one b) → fall_two (b && is_second y) ≡ fall_one b
    one true h = absurd h
    one false h = refl

pub round_mono : (A : Automaton) (e : Bool) (x : ℕ) (u v : List ℕ) → Firm (round A false (x ∷ u)) → round A e (x ∷ u ++ v) ≡ round A false (x ∷ u)
round_mono A e x u v k = walk_mono (fall_at A false (x ∷ u)) (fall_at A e (x ∷ u ++ v)) (fall_mono A.default e x u v) A e 0 0 (x ∷ u) v k

-- what a fall takes is there
abbrev pub Room : ℕ → Fall → Type 0
Room n nowhere = Unit {0}
Room n (taking g k) = (1 ≤ k) × (k ≤ 2) × (k ≤ n)
Room n keeping = Unit {0}

pub fall_room : (m : Mode) (e : Bool) (x : ℕ) (u : List ℕ) → Room (suc (length u)) (fall m e (x ∷ u))
fall_room Absent e x u = tt
fall_room Single e x u = (omega arith, omega arith, omega arith)
fall_room Paired e x [] = one (not e && is_first x)
  where
    one : (b : Bool) → Room 1 (fall_one b)
    one true = tt
    one false = (omega arith, omega arith, omega arith)
fall_room Paired e x (y ∷ u) = two (is_first x && is_second y)
  where
    two : (b : Bool) → Room (suc (suc (length u))) (fall_two b)
    two true = (omega arith, omega arith, omega arith)
    two false = (omega arith, omega arith, omega arith)

-- where a round stops or takes a default, that is its fall
abbrev pub Falls : Fall → Round → Type 0
Falls b waits = Unit {0}
Falls b closes = Unit {0}
Falls b (stops d) = b ≡ nowhere
Falls b (accepts r d) = Unit {0}
Falls b (defaults d g k) = b ≡ taking g k

falls_back : (b : Fall) (d : ℕ) → Falls b (back b d)
falls_back nowhere d = refl
falls_back (taking g k) d = refl
falls_back keeping d = tt

falls_wait : (b : Fall) (h : Bool) (g d : ℕ) → Falls b (on_wait h g d)
falls_wait b true g d = tt
falls_wait b false g d = tt

falls_end : (b : Fall) (m d : ℕ) → Falls b (on_end m b d)
falls_end b (suc r) d = tt
falls_end b zero zero = tt
falls_end b zero (suc d) = falls_back b (suc d)

pub walk_falls : (A : Automaton) (e : Bool) (b : Fall) (d q : ℕ) (u : List ℕ) → Falls b (walk A e b d q u)
unfolding walk
walk_falls A false b d q [] = falls_wait b (settled A q) (A.accept q) d
walk_falls A true b d q [] = falls_end b (A.accept_at_end q) d
walk_falls A e b d q (x ∷ u) =
    on_character_elim (Falls b) (A.accept q) (A.target q x) b d (λ p. walk A e b (suc d) p u)
    (λ r p. tt) (λ t. walk_falls A e b (suc d) (A.target q x) u) (falls_back b d)

-- how far a walk reaches: at least lo reads, at most hi
abbrev pub Span : ℕ → ℕ → Round → Type 0
Span lo hi waits = Unit {0}
Span lo hi closes = lo ≤ 0
Span lo hi (stops d) = (lo ≤ d) × (d ≤ hi)
Span lo hi (accepts r d) = (lo ≤ d) × (d ≤ hi)
Span lo hi (defaults d g k) = (lo ≤ d) × (d ≤ hi)

pub span_weaken : (o : Round) (lo lo' hi hi' : ℕ) → lo' ≤ lo → hi ≤ hi' → Span lo hi o → Span lo' hi' o
span_weaken waits lo lo' hi hi' p q s = tt
span_weaken closes lo lo' hi hi' p q s = omega arith
span_weaken (stops d) lo lo' hi hi' p q s = omega arith
span_weaken (accepts r d) lo lo' hi hi' p q s = omega arith
span_weaken (defaults d g k) lo lo' hi hi' p q s = omega arith

span_wait : (b : Bool) (g d hi : ℕ) → d ≤ hi → Span d hi (on_wait b g d)
span_wait true g d hi h = omega arith
span_wait false g d hi h = tt

span_back : (b : Fall) (d hi : ℕ) → d ≤ hi → Span d hi (back b d)
span_back nowhere d hi h = omega arith
span_back (taking g k) d hi h = omega arith
span_back keeping d hi h = tt

span_end : (m : ℕ) (b : Fall) (d hi : ℕ) → d ≤ hi → Span d hi (on_end m b d)
span_end (suc r) b d hi h = omega arith
span_end zero b zero hi h = omega arith
span_end zero b (suc d) hi h = span_back b (suc d) hi h

module _ (A : Automaton) (e : Bool) (b : Fall) where
  span_nothing : (e : Bool) (d q hi : ℕ) → d ≤ hi → Span d hi (on_nothing A e b d q)
  span_nothing false d q hi h = span_wait (settled A q) (A.accept q) d hi h
  span_nothing true d q hi h = span_end (A.accept_at_end q) b d hi h

  pub walk_span : (d q : ℕ) (u : List ℕ) → Span d (d + length u) (walk A e b d q u)
  unfolding walk
  walk_span d q [] = span_nothing e d q (d + 0) (omega arith)
  walk_span d q (x ∷ u) =
      on_character_elim (Span d (d + length (x ∷ u))) (A.accept q) (A.target q x) b d (λ p. walk A e b (suc d) p u)
      (λ r p. omega arith)
      (λ t. span_weaken (walk A e b (suc d) (A.target q x) u) (suc d) d (suc d + length u) (d + suc (length u)) (omega arith) (omega arith)
      (walk_span (suc d) (A.target q x) u))
      (span_back b d (d + suc (length u)) (omega arith))

-- over a non-empty input a round does not close, and has read something when it accepts
abbrev pub Takes : Round → Type 0
Takes waits = Unit {0}
Takes closes = ⊥
Takes (stops d) = Unit {0}
Takes (accepts r d) = 1 ≤ d
Takes (defaults d g k) = Unit {0}

takes_wait : (b : Bool) (g d : ℕ) → Takes (on_wait b g (suc d))
takes_wait true g d = omega arith
takes_wait false g d = tt

takes_back : (b : Fall) (d : ℕ) → Takes (back b d)
takes_back nowhere d = tt
takes_back (taking g k) d = tt
takes_back keeping d = tt

takes_end : (m : ℕ) (b : Fall) (d : ℕ) → Takes (on_end m b (suc d))
takes_end (suc r) b d = omega arith
takes_end zero b d = takes_back b (suc d)

takes_later : (A : Automaton) (e : Bool) (b : Fall) (d q : ℕ) (u : List ℕ) → Takes (walk A e b (suc d) q u)
unfolding walk
takes_later A false b d q [] = takes_wait (settled A q) (A.accept q) d
takes_later A true b d q [] = takes_end (A.accept_at_end q) b d
takes_later A e b d q (x ∷ u) =
    on_character_elim Takes (A.accept q) (A.target q x) b (suc d) (λ p. walk A e b (suc (suc d)) p u)
    (λ r p. omega arith) (λ t. takes_later A e b (suc d) (A.target q x) u) (takes_back b (suc d))

-- where a walk waits whose fall does not: in the state after all of u, to which u leads, and which is not settled
abbrev pub Waited : Automaton → ℕ → List ℕ → Round → Type 0
Waited A q u waits = Leads A q u × (settled A (after A q u) ≡ false)
Waited A q u closes = Unit {0}
Waited A q u (stops d) = Unit {0}
Waited A q u (accepts r d) = Unit {0}
Waited A q u (defaults d g k) = Unit {0}

waited_cons : (A : Automaton) (q x : ℕ) (u : List ℕ) (o : Round) → A.target q x ≢ 0 → Waited A (A.target q x) u o → Waited A q (x ∷ u) o
unfolding after
waited_cons A q x u waits t w = ((t, w.0), w.1)
waited_cons A q x u closes t w = tt
waited_cons A q x u (stops d) t w = tt
waited_cons A q x u (accepts r d) t w = tt
waited_cons A q x u (defaults d g k) t w = tt

module _ (A : Automaton) where
  waited_nothing : (h : Bool) (d q : ℕ) → settled A q ≡ h → Waited A q [] (on_wait h (A.accept q) d)
  unfolding after
  waited_nothing true d q p = tt
  waited_nothing false d q p = (tt, p)

  waited_back : (b : Fall) (d q : ℕ) (u : List ℕ) → Sure b → Waited A q u (back b d)
  waited_back nowhere d q u h = tt
  waited_back (taking g k) d q u h = tt
  waited_back keeping d q u h = absurd h

  -- of one character that is read, whatever the fall
  pub walk_alone : (b : Fall) (x : ℕ) → A.accept 0 ≡ 0 → A.target 0 x ≢ 0 → Waited A 0 (x ∷ []) (walk A false b 0 0 (x ∷ []))
  unfolding walk
  walk_alone b x a t =
      subst (Waited A 0 (x ∷ [])) (sym (on_read (A.accept 0) (A.target 0 x) b 0 (λ p. walk A false b 1 p []) a t))
      (waited_cons A 0 x [] (walk A false b 1 (A.target 0 x) []) t (waited_nothing (settled A (A.target 0 x)) 1 (A.target 0 x) refl))

  pub walk_waited : (b : Fall) (d q : ℕ) (u : List ℕ) → Sure b → Waited A q u (walk A false b d q u)
  unfolding walk
  walk_waited b d q [] h = waited_nothing (settled A q) d q refl
  walk_waited b d q (x ∷ u) h =
      on_character_elim (Waited A q (x ∷ u)) (A.accept q) (A.target q x) b d (λ p. walk A false b (suc d) p u)
      (λ r p. tt)
      (λ t. waited_cons A q x u (walk A false b (suc d) (A.target q x) u) t (walk_waited b (suc d) (A.target q x) u h))
      (waited_back b d q (x ∷ u) h)

module _ (A : Automaton) (L n : ℕ) (G : Good A L n) where
  pub walk_takes : (e : Bool) (b : Fall) (x : ℕ) (u : List ℕ) → Takes (walk A e b 0 0 (x ∷ u))
  unfolding walk
  walk_takes e b x u =
      on_character_elim Takes (A.accept 0) (A.target 0 x) b 0 (λ p. walk A e b 1 p u)
      (λ r p. let z : A.accept 0 ≡ 0 = G.accept_0 in absurd (omega arith))
      (λ t. takes_later A e b 0 (A.target 0 x) u)
      (takes_back b 0)

  -- no walk reads more than L characters
  pub walk_depth : (e : Bool) (b : Fall) (d q : ℕ) (u : List ℕ) → q < n → G.depth q ≡ d → Span d L (walk A e b d q u)
  unfolding walk
  walk_depth e b d q [] h p = let s : G.depth q ≤ L = G.shallow q h in span_nothing A e b e d q L (omega arith)
  walk_depth e b d q (x ∷ u) h p =
      let s : G.depth q ≤ L = G.shallow q h in
      on_character_elim (Span d L) (A.accept q) (A.target q x) b d (λ p'. walk A e b (suc d) p' u)
      (λ r p'. omega arith)
      (λ t. span_weaken (walk A e b (suc d) (A.target q x) u) (suc d) d L L (omega arith) (omega arith)
      (walk_depth e b (suc d) (A.target q x) u (G.inside q x h) (G.deeper q x h t ∙ ap suc p)))
      (span_back b d L (omega arith))

-- To show P of a walk over z: S holds of z and what of it was read so far, and where the walk halts, P follows.
pub record Along (A : Automaton) (e : Bool) (b : Fall) (S : List ℕ → List ℕ → Type 0) (P : List ℕ → Round → Type 0) : Type 0 where
  pub at-end : (w : List ℕ) → Leads A 0 w → S (w ++ []) w → P (w ++ []) (on_nothing A e b (length w) (after A 0 w))
  pub accepted : (w : List ℕ) (x : ℕ) (u : List ℕ) → Leads A 0 w → S (w ++ x ∷ u) w → (r : ℕ) → A.accept (after A 0 w) ≡ suc r →
      P (w ++ x ∷ u) (accepts r (length w))
  pub onward : (w : List ℕ) (x : ℕ) (u : List ℕ) → Leads A 0 w → S (w ++ x ∷ u) w → A.accept (after A 0 w) ≡ 0 →
      S (w ++ x ∷ u) (w ++ x ∷ [])
  pub no_way : (w : List ℕ) (x : ℕ) (u : List ℕ) → Leads A 0 w → S (w ++ x ∷ u) w → A.accept (after A 0 w) ≡ 0 →
      A.target (after A 0 w) x ≡ 0 → P (w ++ x ∷ u) (back b (length w))

module _ (A : Automaton) (e : Bool) (b : Fall) (S : List ℕ → List ℕ → Type 0) (P : List ℕ → Round → Type 0) (H : Along A e b S P) where
  walk_on : (w u : List ℕ) → Leads A 0 w → S (w ++ u) w → P (w ++ u) (walk A e b (length w) (after A 0 w) u)
  unfolding walk
  walk_on w [] l s = H.at-end w l s
  walk_on w (x ∷ u) l s =
      by (A.accept (after A 0 w)) (A.target (after A 0 w) x) refl refl
      (λ h i.
      let n : length (w ++ x ∷ []) ≡ suc (length w) = omega (arith, length-append w (x ∷ [])) in
      let m : w ++ x ∷ [] ++ u ≡ w ++ x ∷ u = append_assoc w (x ∷ []) u in
      rw (m, after_snoc A 0 w x, n) at (walk_on (w ++ x ∷ []) u (leads_snoc A 0 w x l h) (rw m (H.onward w x u l s i))))
    where
      by : (g q : ℕ) → A.accept (after A 0 w) ≡ g → A.target (after A 0 w) x ≡ q →
          (A.target (after A 0 w) x ≢ 0 → A.accept (after A 0 w) ≡ 0 → P (w ++ x ∷ u) (walk A e b (suc (length w)) (A.target (after A 0 w) x) u)) →
          P (w ++ x ∷ u) (on_character g q b (length w) (λ p. walk A e b (suc (length w)) p u))
      by (suc r) q pg pq f = H.accepted w x u l s r pg
      by zero (suc q) pg pq f = rw pq at (f (omega arith) pg)
      by zero zero pg pq f = H.no_way w x u l s pg pq

  pub walk_along : (z : List ℕ) → S z [] → P z (walk A e b 0 0 z)
  unfolding after
  walk_along z s = walk_on [] z tt s
