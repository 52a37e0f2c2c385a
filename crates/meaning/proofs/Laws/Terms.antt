-- Coefficients put at their positions: what then stands where, how far they reach, and that terms may be put in any order.
-- By recursion on the position and the coefficients together; two terms of different positions do not meet.
use mathlib.Core.Bool.{not}
use mathlib.Core.List.{List, [], ◌∷◌}
use mathlib.Core.Logic.{◌≢◌}
use mathlib.Core.Path.{◌≡◌, refl, sym, ap, subst, ◌∙◌}
use Prim.Native.Nat.{ℕ, zero, suc, ◌+◌, ◌≤◌, ◌<◌}
use native.Mathlib.Omega.{arith}
use lib.Dec.{T, not_T, eqb, eqb→eq}
use lib.IntN.{ℤ, pos, negsuc, nat_abs}
use lib.ListN.{length, get_or}
use Rattle.lists.specs.Lists.{Each, fold_left, last_d}
use Rattle.lists.specs.Reordered.{Reordered, none, kept, swapped, joined, InAnyOrder}
use Rattle.lists.proofs.Laws.Tests.{not_not}
use Rattle.lists.proofs.Laws.Reordered.{reordered_same, reordered_each}
use Rattle.meaning.specs.Reader.{put_at}
use Rattle.meaning.specs.WellFormed.{Signed}
use Rattle.meaning.specs.Records.{Term, terms}

-- a position has a coefficient other than 0, or none

of_size : (a : ℤ) → T (eqb (nat_abs a) 0) → a ≡ pos 0
of_size (pos n) t = ap pos (eqb→eq n 0 t)
of_size (negsuc n) t = absurd (omega (arith, eqb→eq (suc n) 0 t))

pub none_there : (a : ℤ) → T (not (not (eqb (nat_abs a) 0))) → a ≡ pos 0
none_there a t = of_size a (not_not (eqb (nat_abs a) 0) t)

pub there_none : (a : ℤ) → a ≡ pos 0 → T (not (not (eqb (nat_abs a) 0)))
there_none a e = subst (λ a. T (not (not (eqb (nat_abs a) 0)))) (sym e) tt

pub some_there : (a : ℤ) → a ≢ pos 0 → T (not (eqb (nat_abs a) 0))
some_there a n = not_T (eqb (nat_abs a) 0) (λ t. n (of_size a t))

-- one coefficient

pub put_same : (p : ℕ) (a : ℤ) (ks : List ℤ) → get_or (put_at p a ks) p (pos 0) ≡ a
put_same zero a [] = refl
put_same zero a (k ∷ ks) = refl
put_same (suc p) a [] = put_same p a []
put_same (suc p) a (k ∷ ks) = put_same p a ks

pub put_other : (p q : ℕ) (a : ℤ) (ks : List ℤ) → p ≢ q → get_or (put_at p a ks) q (pos 0) ≡ get_or ks q (pos 0)
put_other zero zero a ks n = absurd (n refl)
put_other zero (suc q) a [] n = refl
put_other zero (suc q) a (k ∷ ks) n = refl
put_other (suc p) zero a [] n = refl
put_other (suc p) zero a (k ∷ ks) n = refl
put_other (suc p) (suc q) a [] n = put_other p q a [] (λ e. n (ap suc e))
put_other (suc p) (suc q) a (k ∷ ks) n = put_other p q a ks (λ e. n (ap suc e))

pub put_comm : (p q : ℕ) (a b : ℤ) (ks : List ℤ) → p ≢ q → put_at p a (put_at q b ks) ≡ put_at q b (put_at p a ks)
put_comm zero zero a b ks n = absurd (n refl)
put_comm zero (suc q) a b [] n = refl
put_comm zero (suc q) a b (k ∷ ks) n = refl
put_comm (suc p) zero a b [] n = refl
put_comm (suc p) zero a b (k ∷ ks) n = refl
put_comm (suc p) (suc q) a b [] n = ap (λ l. pos 0 ∷ l) (put_comm p q a b [] (λ e. n (ap suc e)))
put_comm (suc p) (suc q) a b (k ∷ ks) n = ap (λ l. k ∷ l) (put_comm p q a b ks (λ e. n (ap suc e)))

pub put_length : (p k : ℕ) (a : ℤ) (ks : List ℤ) → p < k → length ks ≤ k → length (put_at p a ks) ≤ k
put_length p zero a ks l h = absurd (omega arith)
put_length zero (suc k) a [] l h = omega arith
put_length zero (suc k) a (c ∷ ks) l h = h
put_length (suc p) (suc k) a [] l h = let i = put_length p k a [] (omega arith) (omega arith) in omega arith
put_length (suc p) (suc k) a (c ∷ ks) l h = let i = put_length p k a ks (omega arith) (omega arith) in omega arith

pub put_each : (P : ℤ → Type 0) → P (pos 0) → (p : ℕ) (a : ℤ) (ks : List ℤ) → P a → Each P ks → Each P (put_at p a ks)
put_each P z zero a [] h w = (h, tt)
put_each P z zero a (k ∷ ks) h w = (h, w.1)
put_each P z (suc p) a [] h w = (z, put_each P z p a [] h tt)
put_each P z (suc p) a (k ∷ ks) h w = (w.0, put_each P z p a ks h w.1)

put_alone : (d : ℤ) (p : ℕ) (a : ℤ) → last_d d (put_at p a []) ≡ a
put_alone d zero a = refl
put_alone d (suc p) a = put_alone (pos 0) p a

pub put_named : (d : ℤ) (p : ℕ) (a : ℤ) (ks : List ℤ) → a ≢ pos 0 → last_d d ks ≢ pos 0 → last_d d (put_at p a ks) ≢ pos 0
put_named d zero a [] n h = n
put_named d zero a (k ∷ []) n h = n
put_named d zero a (k ∷ (j ∷ ks)) n h = h
put_named d (suc p) a [] n h = λ e. n (sym (put_alone (pos 0) p a) ∙ e)
put_named d (suc p) a (k ∷ ks) n h = put_named k p a ks n h

-- the terms of coefficients

abbrev term_at : ℕ → ℤ → Term
term_at p a = record { position = p; coefficient = a }

pub term_one : (p : ℕ) (a : ℤ) (ks : List ℤ) → a ≢ pos 0 → terms p (a ∷ ks) ≡ term_at p a ∷ terms (suc p) ks
term_one p (pos zero) ks d = absurd (d refl)
term_one p (pos (suc a)) ks d = refl
term_one p (negsuc a) ks d = refl

first_put : (i q : ℕ) (a : ℤ) (ks : List ℤ) → q ≡ i → a ≢ pos 0 → InAnyOrder (term_at q a ∷ terms (suc i) ks) (terms i (a ∷ ks))
first_put i q a ks e n = subst (InAnyOrder (term_at q a ∷ terms (suc i) ks)) (ap (λ q. term_at q a ∷ terms (suc i) ks) e ∙ sym (term_one i a ks n)) (reordered_same _)

-- with one more coefficient, at a position that had none
pub terms_put : (i p q : ℕ) (a : ℤ) (ks : List ℤ) → q ≡ i + p → a ≢ pos 0 → get_or ks p (pos 0) ≡ pos 0 →
    InAnyOrder (term_at q a ∷ terms i ks) (terms i (put_at p a ks))
terms_put i zero q a [] e n z = first_put i q a [] (omega arith) n
terms_put i zero q a (k ∷ ks) e n z = subst (λ k. InAnyOrder (term_at q a ∷ terms i (k ∷ ks)) (terms i (a ∷ ks))) (sym z) (first_put i q a ks (omega arith) n)
terms_put i (suc p) q a [] e n z = terms_put (suc i) p q a [] (omega arith) n refl
terms_put i (suc p) q a (pos zero ∷ ks) e n z = terms_put (suc i) p q a ks (omega arith) n z
terms_put i (suc p) q a (pos (suc c) ∷ ks) e n z = joined (swapped tt tt) (kept (terms_put (suc i) p q a ks (omega arith) n z))
terms_put i (suc p) q a (negsuc c ∷ ks) e n z = joined (swapped tt tt) (kept (terms_put (suc i) p q a ks (omega arith) n z))

-- terms put in turn, each at a position that has no coefficient yet

abbrev pub all_put : List Term → List ℤ → List ℤ
all_put xs ks = fold_left (λ x. put_at x.position x.coefficient) xs ks

abbrev pub New : List Term → List ℤ → Type 0
New [] ks = Unit {0}
New (x ∷ xs) ks = (get_or ks x.position (pos 0) ≡ pos 0) × New xs (put_at x.position x.coefficient ks)

abbrev pub Named : Term → Type 0
Named x = x.coefficient ≢ pos 0

-- a term's position and coefficient, within their limits
abbrev pub Fits : ℕ → Term → Type 0
Fits k x = (x.position < k) × Signed 16 x.coefficient × Named x

pub terms_fit : (k i : ℕ) (ks : List ℤ) → i + length ks ≤ k → Each (Signed 16) ks → Each (Fits k) (terms i ks)
terms_fit k i [] l s = tt
terms_fit k i (pos zero ∷ ks) l s = terms_fit k (suc i) ks (omega arith) s.1
terms_fit k i (pos (suc a) ∷ ks) l s = ((omega arith, s.0, λ e. let z : suc a ≡ 0 = cc in omega arith), terms_fit k (suc i) ks (omega arith) s.1)
terms_fit k i (negsuc a ∷ ks) l s = ((omega arith, s.0, λ e. let z : ◌≡◌ {A = ℕ} 0 1 = cc in omega arith), terms_fit k (suc i) ks (omega arith) s.1)

-- THE ORDER DOES NOT MATTER
pub any_order : {P : Term → Type 0} {xs ys : List Term} → Reordered P xs ys → Each Named xs → (ks : List ℤ) → New xs ks → New ys ks × (all_put xs ks ≡ all_put ys ks)
any_order none n ks h = (tt, refl)
any_order (kept {x = x} r) n ks h = let k = any_order r n.1 (put_at x.position x.coefficient ks) h.1 in ((h.0, k.0), k.1)
any_order (swapped {x = x} {y = y} {xs = xs} p q) n ks h =
    let i = x.position in
    let j = y.position in
    let a = x.coefficient in
    let b = y.coefficient in
    let differ : i ≢ j = λ e. n.0 (sym (put_same i a ks) ∙ ap (λ k. get_or (put_at i a ks) k (pos 0)) e ∙ h.1.0) in
    let same : put_at j b (put_at i a ks) ≡ put_at i a (put_at j b ks) = put_comm j i b a ks (λ e. differ (sym e)) in (
      (sym (put_other i j a ks differ) ∙ h.1.0, (put_other j i b ks (λ e. differ (sym e)) ∙ h.0, subst (New xs) same h.1.1)),
      ap (all_put xs) same,
    )
any_order (joined r s) n ks h =
    let k = any_order r n ks h in
    let l = any_order s (reordered_each Named r n) ks k.0 in
    (l.0, k.1 ∙ l.1)

-- by position they give the coefficients back

-- behind a first coefficient

pub put_behind : (i : ℕ) (a : ℤ) (js ks : List ℤ) → all_put (terms (suc i) js) (a ∷ ks) ≡ a ∷ all_put (terms i js) ks
put_behind i a [] ks = refl
put_behind i a (pos zero ∷ js) ks = put_behind (suc i) a js ks
put_behind i a (pos (suc c) ∷ js) ks = put_behind (suc i) a js (put_at i (pos (suc c)) ks)
put_behind i a (negsuc c ∷ js) ks = put_behind (suc i) a js (put_at i (negsuc c) ks)

new_behind : (i : ℕ) (a : ℤ) (js ks : List ℤ) → New (terms i js) ks → New (terms (suc i) js) (a ∷ ks)
new_behind i a [] ks h = tt
new_behind i a (pos zero ∷ js) ks h = new_behind (suc i) a js ks h
new_behind i a (pos (suc c) ∷ js) ks h = (h.0, new_behind (suc i) a js (put_at i (pos (suc c)) ks) h.1)
new_behind i a (negsuc c ∷ js) ks h = (h.0, new_behind (suc i) a js (put_at i (negsuc c) ks) h.1)

-- a first coefficient of 0 needs no place where another follows
zero_first : (i : ℕ) (js : List ℤ) → last_d (pos 0) js ≢ pos 0 → New (terms (suc i) js) (pos 0 ∷ []) →
    New (terms (suc i) js) [] × (all_put (terms (suc i) js) [] ≡ all_put (terms (suc i) js) (pos 0 ∷ []))
zero_first i [] n h = absurd (n refl)
zero_first i (pos zero ∷ js) n h = zero_first (suc i) js n h
zero_first i (pos (suc c) ∷ js) n h = ((refl, h.1), refl)
zero_first i (negsuc c ∷ js) n h = ((refl, h.1), refl)

named_rest : (a : ℤ) (ks : List ℤ) → last_d a ks ≢ pos 0 → last_d (pos 1) ks ≢ pos 0
named_rest a [] h e = let z : ◌≡◌ {A = ℕ} 1 0 = cc in omega arith
named_rest a (b ∷ ks) h e = h e

named_first : (a : ℤ) (ks : List ℤ) → New (terms 0 ks) [] × (all_put (terms 0 ks) [] ≡ ks) →
    ((pos 0 ≡ pos 0) × New (terms 1 ks) (a ∷ [])) × (all_put (terms 1 ks) (a ∷ []) ≡ a ∷ ks)
named_first a ks rest = ((refl, new_behind 0 a ks [] rest.0), put_behind 0 a ks [] ∙ ap (λ l. a ∷ l) rest.1)

pub by_position : (ks : List ℤ) → last_d (pos 1) ks ≢ pos 0 → New (terms 0 ks) [] × (all_put (terms 0 ks) [] ≡ ks)
by_position [] n = (tt, refl)
by_position (pos zero ∷ ks) n =
    let rest = by_position ks (named_rest (pos 0) ks n) in
    let first = zero_first 0 ks n (new_behind 0 (pos 0) ks [] rest.0) in
    (first.0, first.1 ∙ put_behind 0 (pos 0) ks [] ∙ ap (λ l. pos 0 ∷ l) rest.1)
by_position (pos (suc c) ∷ ks) n = named_first (pos (suc c)) ks (by_position ks (named_rest (pos (suc c)) ks n))
by_position (negsuc c ∷ ks) n = named_first (negsuc c) ks (by_position ks (named_rest (negsuc c) ks n))
