-- Alike automata have the same traces, and from what a trace emits they write the same.
-- A walk goes through states that the same word reaches, on which the two agree; each emission is of a word that its rule takes, of one character, or of a pair.
use mathlib.Core.Bool.{Bool, true, false, ◌&&◌, not}
use mathlib.Core.List.{List, [], ◌∷◌, ◌++◌}
use mathlib.Core.Logic.{◌≢◌, ◌↔◌}
use mathlib.Core.Path.{◌≡◌, refl, sym, ap, ap₂, subst, ◌∙◌}
use Prim.Native.Nat.{ℕ, zero, suc, pred, ◌<◌}
use native.Mathlib.Omega.{arith}
use lib.Dec.{T}
use lib.ListN.{length, take}
use lib.Seq.{take-append_seam}
use Rattle.lists.proofs.Laws.Each.{each_append}
use Rattle.meaning.specs.Table.{Mode, Absent, Single, Paired, Table, Characters, present, is_first, is_second, rule_at, group, default_number, pair_number}
use Rattle.meaning.specs.Value.{SafeTable}
use Rattle.meaning.specs.Meaning.{written, text_of}
use Rattle.meaning.proofs.Laws.Shape.{Shaped}
use Rattle.meaning.proofs.Laws.Groups.{group_rule, group_default, group_pair, written_pair, some_default}
use Rattle.meaning.proofs.Laws.Exact.{written_characters}
use Rattle.automaton.specs.Automaton.{Automaton, from_table}
use Rattle.automaton.proofs.Laws.Good.{after, Leads, Least, Done, Free, Reads, Alike, Bisimulation, Writes}
use Rattle.automaton.proofs.Laws.Fitting.{accept_least, end_least}
use Rattle.automaton.proofs.Laws.Write.{safe_rule, safe_default}
use Rattle.automaton.proofs.Laws.Alike.{Reached, alike_bisimulation}
use Rattle.reckoning.specs.Machine.{Fall, nowhere, taking, keeping, fall_one, fall_two, fall}
use Rattle.reckoning.specs.Session.{settled}
use Rattle.reckoning.proofs.Laws.Trace.{Round, waits, closes, stops, accepts, defaults, back, on_character, on_wait, on_end, on_nothing, walk, Trace, waiting, closing, stopping, accepting, defaulting, handle, trace, log_of, fall_at, round}
use Rattle.reckoning.proofs.Laws.Walk.{settled_both, Along, walk_along, Falls}
use Rattle.reckoning.proofs.Laws.Rounds.{round_falls}

-- the accept is the same, and the targets are both 0 or neither
on_character_alike : (g p q : ℕ) (b : Fall) (d : ℕ) (f f' : ℕ → Round) → (p ≢ 0) ↔ (q ≢ 0) → (p ≢ 0 → f p ≡ f' q) →
    on_character g p b d f ≡ on_character g q b d f'
on_character_alike (suc r) p q b d f f' k h = refl
on_character_alike zero (suc p) (suc q) b d f f' k h = h (omega arith)
on_character_alike zero (suc p) zero b d f f' k h = absurd (k.0 (omega arith) refl)
on_character_alike zero zero (suc q) b d f f' k h = absurd (k.1 (omega arith) refl)
on_character_alike zero zero zero b d f f' k h = refl

module _ (A B : Automaton) (R : ℕ → ℕ → Type 0) (S : Bisimulation A B R) (D : A.default ≡ B.default) where
  walk_alike : (e : Bool) (b : Fall) (d p q : ℕ) (u : List ℕ) → R p q → Characters u → walk A e b d p u ≡ walk B e b d q u
  unfolding walk
  walk_alike false b d p q [] r c = let s = S.same p q r in rw (s.go, s.end)
  walk_alike true b d p q [] r c = let s = S.same p q r in rw s.end
  walk_alike e b d p q (x ∷ u) r c =
      let s = S.same p q r in
      on_character_alike (A.accept p) (A.target p x) (B.target q x) b d (λ k. walk A e b (suc d) k u) (λ k. walk B e b (suc d) k u)
      (s.takes x c.0) (λ h. walk_alike e b (suc d) (A.target p x) (B.target q x) u (S.onward p q x r c.0 h) c.1)
      ∙ (λ i. on_character (s.go i) (B.target q x) b d (λ k. walk B e b (suc d) k u))

  round_alike : (e : Bool) (u : List ℕ) → Characters u → round A e u ≡ round B e u
  round_alike e u c = walk_alike e (fall_at A e u) 0 0 0 u S.first c ∙ ap (λ m. walk B e (fall m e u) 0 0 u) D

  trace_bisimilar : (e : Bool) (k : ℕ) (u : List ℕ) → Characters u → trace A e k u ≡ trace B e k u
  unfolding trace
  trace_bisimilar e k [] c = refl
  trace_bisimilar e (suc k) (x ∷ u) c = trace_bisimilar e k u c.1
  trace_bisimilar e zero (x ∷ u) c =
      λ i. handle (round_alike e (x ∷ u) c i) (x ∷ u) (λ k. trace_bisimilar e k u c.1 i)

pub trace_alike : (A B : Automaton) → Alike A B → (e : Bool) (k : ℕ) (u : List ℕ) → Characters u → trace A e k u ≡ trace B e k u
trace_alike A B S = trace_bisimilar A B (Reached A B) (alike_bisimulation A B S) S.defaults

-- a default's emission: of one character where there is a default, or of two
abbrev pub Plain : Automaton → ℕ → List ℕ → Type 0
Plain A g [] = ⊥
Plain A g (x ∷ []) = (g ≡ default_number) × (present A.default ≡ true) × (x < 65536)
Plain A g (x ∷ (y ∷ [])) = (g ≡ pair_number) × (x < 65536) × (y < 65536)
Plain A g (x ∷ (y ∷ (z ∷ w))) = ⊥

-- each emission of a trace is of a word that its rule takes, or a default's
abbrev pub Emits : Automaton → Table → Trace → Type 0
Emits A t (waiting h) = Unit {0}
Emits A t closing = Unit {0}
Emits A t (stopping d) = Unit {0}
Emits A t (accepting r w o) = Done t w r × Emits A t o
Emits A t (defaulting d g w o) = Plain A g w × Emits A t o

-- what a fall takes of z
abbrev PlainFall : Automaton → List ℕ → Fall → Type 0
PlainFall A z nowhere = Unit {0}
PlainFall A z (taking g k) = Plain A g (take k z)
PlainFall A z keeping = Unit {0}

fall_plain : (A : Automaton) (m : Mode) (e : Bool) (x : ℕ) (u : List ℕ) → A.default ≡ m → Characters (x ∷ u) → PlainFall A (x ∷ u) (fall m e (x ∷ u))
fall_plain A Absent e x u p c = tt
fall_plain A Single e x u p c = (refl, ap present p, c.0)
fall_plain A Paired e x [] p c = one (not e && is_first x)
  where
    one : (b : Bool) → PlainFall A (x ∷ []) (fall_one b)
    one true = tt
    one false = (refl, ap present p, c.0)
fall_plain A Paired e x (y ∷ u) p c = two (is_first x && is_second y)
  where
    two : (b : Bool) → PlainFall A (x ∷ y ∷ u) (fall_two b)
    two true = (refl, c.0, c.1.0)
    two false = (refl, ap present p, c.0)

-- the same of a round over z, its fall aside
abbrev Fires : Table → List ℕ → Round → Type 0
Fires t z waits = Unit {0}
Fires t z closes = Unit {0}
Fires t z (stops d) = Unit {0}
Fires t z (accepts r d) = Done t (take d z) r
Fires t z (defaults d g k) = Unit {0}

module _ (A : Automaton) (t : Table) (w v : List ℕ) where
  fires_rule : (r : ℕ) → Done t w r → Fires t (w ++ v) (accepts r (length w))
  fires_rule r d = rw (take-append_seam w v) d

  fires_back : (b : Fall) (d : ℕ) → Fires t (w ++ v) (back b d)
  fires_back nowhere d = tt
  fires_back (taking g k) d = tt
  fires_back keeping d = tt

  fires_end : (m d : ℕ) (b : Fall) → d ≡ length w → Least (Done t w) m → Fires t (w ++ v) (on_end m b d)
  fires_end (suc r) d b p l = rw p (fires_rule r l.0)
  fires_end zero zero b p l = tt
  fires_end zero (suc d) b p l = fires_back b (suc d)

  fires_wait : (h : Bool) (g q : ℕ) → Least (Free t w) g → (T h → (r : ℕ) × (g ≡ suc r) × (A.accept_at_end q ≡ suc r)) →
      Fires t (w ++ v) (on_wait h g (length w))
  fires_wait false g q l s = tt
  fires_wait true zero q l s = let p : 0 ≡ suc (s tt).0 = (s tt).1 in absurd (omega arith)
  fires_wait true (suc r) q l s = fires_rule r l.0.done

module _ (A : Automaton) (t : Table) (R : Reads A t) where
  fires_nothing : (e : Bool) (b : Fall) (w : List ℕ) → Leads A 0 w → Characters (w ++ []) → Fires t (w ++ []) (on_nothing A e b (length w) (after A 0 w))
  fires_nothing false b w l c =
      let q = after A 0 w in fires_wait A t w [] (settled A q) (A.accept q) q (accept_least A t R w [] c l refl) (settled_both A q)
  fires_nothing true b w l c = fires_end A t w [] (A.accept_at_end (after A 0 w)) (length w) b refl (end_least A t R w [] c l refl)

  fires_along : (e : Bool) (b : Fall) → Along A e b (λ z w. Characters z) (Fires t)
  fires_along e b = record {
    at-end = fires_nothing e b;
    accepted = λ w x u l c r p. fires_rule A t w (x ∷ u) r (accept_least A t R w (x ∷ u) c l p).0.done;
    onward = λ w x u l c p. c;
    no_way = λ w x u l c p q. fires_back A t w (x ∷ u) b (length w);
  }

  round_emits : (b : Fall) (o : Round) (x : ℕ) (u : List ℕ) (f : ℕ → Trace) → Fires t (x ∷ u) o → PlainFall A (x ∷ u) b → Falls b o →
      ((k : ℕ) → Emits A t (f k)) → Emits A t (handle o (x ∷ u) f)
  round_emits b waits x u f p m l h = tt
  round_emits b closes x u f p m l h = tt
  round_emits b (stops d) x u f p m l h = tt
  round_emits b (accepts r d) x u f p m l h = (p, h (pred d))
  round_emits b (defaults d g k) x u f p m l h = (subst (PlainFall A (x ∷ u)) l m, h (pred k))

  pub trace_emits : (e : Bool) (k : ℕ) (u : List ℕ) → Characters u → Emits A t (trace A e k u)
  unfolding trace
  trace_emits false k [] c = tt
  trace_emits true k [] c = tt
  trace_emits e (suc k) (x ∷ u) c = trace_emits e k u c.1
  trace_emits e zero (x ∷ u) c =
      let b = fall_at A e (x ∷ u) in
      round_emits b (round A e (x ∷ u)) x u (λ k. trace A e k u)
      (walk_along A e b (λ z w. Characters z) (Fires t) (fires_along e b) (x ∷ u) c) (fall_plain A A.default e x u refl c)
      (round_falls A e (x ∷ u)) (λ k. trace_emits e k u c.1)

plain_same : (A B : Automaton) (t : Table) → Writes A B t → (g : ℕ) (w : List ℕ) → Plain A g w → A.write g w ≡ B.write g w
plain_same A B t W g [] p = absurd p
plain_same A B t W g (x ∷ []) p = subst (λ g. A.write g (x ∷ []) ≡ B.write g (x ∷ [])) (sym p.0) (W.of_default p.1 x p.2)
plain_same A B t W g (x ∷ (y ∷ [])) p = subst (λ g. A.write g (x ∷ y ∷ []) ≡ B.write g (x ∷ y ∷ [])) (sym p.0) (W.of_pair x y)
plain_same A B t W g (x ∷ (y ∷ (z ∷ w))) p = absurd p

pub text_same : (A B : Automaton) (t : Table) → Writes A B t → (o : Trace) → Emits A t o → text_of A.write (log_of o) ≡ text_of B.write (log_of o)
unfolding text_of log_of
text_same A B t W (waiting h) m = refl
text_same A B t W closing m = refl
text_same A B t W (stopping d) m = refl
text_same A B t W (accepting r w o) m = ap₂ ◌++◌ (W.of_rule r w m.0) (text_same A B t W o m.1)
text_same A B t W (defaulting d g w o) m = ap₂ ◌++◌ (plain_same A B t W g w m.0) (text_same A B t W o m.1)

-- what a table whose values are characters writes for a default's emission is of characters
plain_characters : (t : Table) → Shaped t → SafeTable t → (g : ℕ) (w : List ℕ) → Plain (from_table t) g w → Characters (written (group t g) w)
unfolding from_table
plain_characters t s safe g [] p = absurd p
plain_characters t s safe g (x ∷ []) p =
    let e = some_default t.default t.mark p.1 in
    subst (λ n. Characters (written (group t n) (x ∷ []))) (sym p.0)
    (subst (λ g. Characters (written g (x ∷ []))) (sym (group_default t e.0 e.1))
    (written_characters e.0 (x ∷ []) (safe_default t e.0 x s safe e.1 p.2)))
plain_characters t s safe g (x ∷ (y ∷ [])) p =
    subst (λ n. Characters (written (group t n) (x ∷ y ∷ []))) (sym p.0)
    (subst Characters (sym (ap (λ g. written g (x ∷ y ∷ [])) (group_pair t) ∙ written_pair x y)) (p.1, (p.2, tt)))
plain_characters t s safe g (x ∷ (y ∷ (z ∷ w))) p = absurd p

-- what a table whose values are characters writes for a trace is of characters
pub text_characters : (t : Table) → Shaped t → SafeTable t → (o : Trace) → Emits (from_table t) t o → Characters (text_of (from_table t).write (log_of o))
unfolding text_of log_of from_table
text_characters t s safe (waiting h) m = tt
text_characters t s safe closing m = tt
text_characters t s safe (stopping d) m = tt
text_characters t s safe (accepting r w o) m =
    each_append (λ x. x < 65536) (written (group t r) w) (text_of (from_table t).write (log_of o))
    (subst (λ g. Characters (written g w)) (sym (group_rule t r s m.0.rule)) (written_characters (rule_at t r) w (safe_rule t w r s safe m.0)))
    (text_characters t s safe o m.1)
text_characters t s safe (defaulting d g w o) m =
    each_append (λ x. x < 65536) (written (group t g) w) (text_of (from_table t).write (log_of o))
    (plain_characters t s safe g w m.0) (text_characters t s safe o m.1)
