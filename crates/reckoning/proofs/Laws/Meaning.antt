-- With the end known, the rounds choose what Definition 7 chooses, so a trace tells the definition's log and how it ends.
-- A walk goes on while each rule that fits is longer than what was read; where it halts, the state tells the least that fits, or that none does.
use mathlib.Core.Bool.{Bool, true, false, ◌&&◌, cond}
use mathlib.Core.List.{List, [], ◌∷◌, ◌++◌, append_assoc}
use Rattle.std.specs.Prelude.{None, Some}
use mathlib.Core.Path.{◌≡◌, refl, sym, ap, subst, ◌∙◌}
use Prim.Native.Nat.{ℕ, zero, suc, pred}
use native.Mathlib.Omega.{arith}
use lib.ListN.{length, take}
use Rattle.meaning.specs.Table.{Mode, Absent, Single, Paired, Table, Characters, mode, present, is_first, is_second, rule_at, default_number, pair_number, group}
use Rattle.meaning.specs.Meaning.{Conversion, or_default, choose, convert_by, convert_from}
use Rattle.meaning.proofs.Laws.Shape.{Shaped}
use Rattle.meaning.proofs.Laws.Groups.{group_rule, group_pair, default_size}
use Rattle.meaning.proofs.Laws.Choice.{Chosen, choose_is}
use Rattle.automaton.specs.Automaton.{Automaton}
use Rattle.automaton.proofs.Laws.Good.{after, Least, Done, Reads}
use Rattle.automaton.proofs.Laws.Fitting.{NoShorter, end_chosen, end_none, free_chosen, longer, longer_takes, characters_front, accept_least, end_least}
use Rattle.reckoning.specs.Machine.{Status, Closed, Stopped, Fall, nowhere, taking, keeping, fall_two, fall}
use Rattle.reckoning.proofs.Laws.Walk.{Along, walk_along, Sure, fall_ended, Falls}
use Rattle.reckoning.proofs.Laws.Trace.{Round, waits, closes, stops, accepts, defaults, back, on_end, walk, Trace, accepting, handle, trace, log_of, status_of, fall_at, round, defaulting}
use Rattle.reckoning.proofs.Laws.Rounds.{round_falls}

-- what a round has to do with the choice
abbrev Picks : Table → List ℕ → Round → Type 0
Picks t z waits = ⊥
Picks t z closes = z ≡ []
Picks t z (stops d) = Chosen t (length t.rules) z None
Picks t z (defaults d g k) = Chosen t (length t.rules) z None
Picks t z (accepts r d) = Chosen t (length t.rules) z (Some r) × ((rule_at t r).size ≡ d)

picks_back : (t : Table) (z : List ℕ) (b : Fall) (d : ℕ) → Sure b → Chosen t (length t.rules) z None → Picks t z (back b d)
picks_back t z nowhere d s c = c
picks_back t z (taking g k) d s c = c
picks_back t z keeping d s c = absurd s

-- the fall of an ended input is what Definition 7 chooses where no rule fits
abbrev Agreed : Table → List ℕ → Fall → Type 0
Agreed t z nowhere = or_default (mode t) z None ≡ None
Agreed t z (taking g k) = (or_default (mode t) z None ≡ Some g) × ((group t g).size ≡ k)
Agreed t z keeping = ⊥

module _ (t : Table) (s : Shaped t) where
  by_mode : (m : Mode) → mode t ≡ m → (x : ℕ) (u : List ℕ) → Agreed t (x ∷ u) (fall m true (x ∷ u))
  by_mode Absent p x u = ap (λ m. or_default m (x ∷ u) None) p
  by_mode Single p x u = (ap (λ m. or_default m (x ∷ u) None) p, default_size t s (ap present p))
  by_mode Paired p x [] = (ap (λ m. or_default m (x ∷ []) None) p, default_size t s (ap present p))
  by_mode Paired p x (y ∷ u) = two (is_first x && is_second y) (ap (λ m. or_default m (x ∷ y ∷ u) None) p)
    where
      two : (b : Bool) → or_default (mode t) (x ∷ y ∷ u) None ≡ Some (cond b pair_number default_number) → Agreed t (x ∷ y ∷ u) (fall_two b)
      two true q = (q, ap (λ g. g.size) (group_pair t))
      two false q = (q, default_size t s (ap present p))

-- At the end of the input w, where no shorter rule fits.

end_picks : (t : Table) → Shaped t → (b : Fall) → Sure b → (w : List ℕ) (m : ℕ) → Least (Done t w) m → NoShorter t (w ++ []) w →
    Picks t (w ++ []) (on_end m b (length w))
end_picks t s b sb w (suc r) l n = (end_chosen t s w r l n, l.0.size)
end_picks t s b sb [] zero l n = refl
end_picks t s b sb (x ∷ w) zero l n = picks_back t (x ∷ w ++ []) b (suc (length w)) sb (end_none t s (x ∷ w) l n)

-- how the conversion ends
abbrev pub ending : Bool → Status
ending true = Closed
ending false = Stopped

-- the trace tells the conversion
abbrev pub Tells : Trace → Conversion → Type 0
Tells r c = (log_of r ≡ c.log) × (status_of r ≡ ending c.closed)

module _ (A : Automaton) (t : Table) (s : Shaped t) (R : Reads A t) (b : Fall) (sb : Sure b) where
  picks_along : Along A true b (λ z w. Characters z × NoShorter t z w) (Picks t)
  picks_along = record {
    at-end = λ w l n. end_picks t s b sb w (A.accept_at_end (after A 0 w)) (end_least A t R w [] n.0 l refl) n.1;
    accepted = λ w x u l n r p.
        let free = accept_least A t R w (x ∷ u) n.0 l p in (free_chosen t s w x u r free n.1, free.0.done.size);
    onward = λ w x u l n p. (n.0, longer t s w x u (accept_least A t R w (x ∷ u) n.0 l p) n.1);
    no_way = λ w x u l n p q.
        picks_back t (w ++ x ∷ u) b (length w) sb
        (λ k h f.
        let i = longer t s w x u (accept_least A t R w (x ∷ u) n.0 l p) n.1 k h f in
        R.dead w x (characters_front (w ++ x ∷ []) u (rw (append_assoc w (x ∷ []) u) n.0)) l p q k h (longer_takes t s w x u k i f));
  }

  pub round_picks : (z : List ℕ) → Characters z → Picks t z (walk A true b 0 0 z)
  round_picks z c = walk_along A true b (λ z w. Characters z × NoShorter t z w) (Picks t) picks_along z (c, λ r h f. omega arith)

-- over x and u the conversion does what the round picks
module _ (t : Table) (s : Shaped t) (x : ℕ) (u : List ℕ) (f : ℕ → Trace) (g : ℕ → Conversion) (h : (k : ℕ) → Tells (f k) (g k)) where
  chosen_tells : (n k : ℕ) (o : Trace) → choose t (x ∷ u) ≡ Some n → (group t n).size ≡ k →
      log_of o ≡ record { group = n; word = take k (x ∷ u) } ∷ log_of (f (pred k)) → status_of o ≡ status_of (f (pred k)) →
      Tells o (convert_by t (choose t (x ∷ u)) (x ∷ u) g)
  chosen_tells n k o p q a b =
      rw (p, q) (a ∙ ap (λ l. record { group = n; word = take k (x ∷ u) } ∷ l) (h (pred k)).0, b ∙ (h (pred k)).1)

  round_tells : (b : Fall) (o : Round) → Agreed t (x ∷ u) b → Falls b o → Picks t (x ∷ u) o →
      Tells (handle o (x ∷ u) f) (convert_by t (choose t (x ∷ u)) (x ∷ u) g)
  unfolding log_of status_of
  round_tells b waits a l p = absurd p
  round_tells b closes a l p = absurd (let z : length (x ∷ u) ≡ 0 = ap length p in omega arith)
  round_tells b (stops d) a l p =
      let i : or_default (mode t) (x ∷ u) None ≡ None = subst (Agreed t (x ∷ u)) l a in rw (choose_is t (x ∷ u) None p ∙ i) (refl, refl)
  round_tells b (defaults d n k) a l p =
      let i : (or_default (mode t) (x ∷ u) None ≡ Some n) × ((group t n).size ≡ k) = subst (Agreed t (x ∷ u)) l a in
      chosen_tells n k (defaulting d n (take k (x ∷ u)) (f (pred k))) (choose_is t (x ∷ u) None p ∙ i.0) i.1 refl refl
  round_tells b (accepts r d) a l p =
      chosen_tells r d (accepting r (take d (x ∷ u)) (f (pred d))) (choose_is t (x ∷ u) (Some r) p.0)
      (ap (λ a. a.size) (group_rule t r s p.0.0) ∙ p.1) refl refl

pub meaning_law : (A : Automaton) (t : Table) → Shaped t → Reads A t → A.default ≡ mode t → (k : ℕ) (u : List ℕ) → Characters u →
    (log_of (trace A true k u) ≡ (convert_from t k u).log) × (status_of (trace A true k u) ≡ ending (convert_from t k u).closed)
unfolding trace convert_from log_of status_of
meaning_law A t s R d k [] c = (refl, refl)
meaning_law A t s R d (suc k) (x ∷ u) c = meaning_law A t s R d k u c.1
meaning_law A t s R d zero (x ∷ u) c =
    let b = fall_at A true (x ∷ u) in
    round_tells t s x u (λ k. trace A true k u) (λ k. convert_from t k u) (λ k. meaning_law A t s R d k u c.1) b (round A true (x ∷ u))
    (by_mode t s A.default (sym d) x u) (round_falls A true (x ∷ u)) (round_picks A t s R b (fall_ended A.default (x ∷ u)) (x ∷ u) c)
