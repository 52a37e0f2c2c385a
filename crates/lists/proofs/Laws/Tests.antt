-- How a proof takes a test, a comparison of numbers, a list of tests and a decision list apart.
-- By cases on the tests.
use mathlib.Core.Bool.{Bool, true, false, ◌&&◌, ◌||◌, not, cond, false≢true, and-false}
use mathlib.Core.List.{List, [], ◌∷◌, ◌++◌}
use mathlib.Core.Logic.{◌≢◌}
use mathlib.Core.Path.{◌≡◌, refl, sym, subst, ◌∙◌}
use Prim.Native.Nat.{ℕ, zero, suc, ◌≤◌, ◌<◌}
use native.Mathlib.Decide.{ℕ_discrete}
use native.Mathlib.Omega.{arith}
use borrow.Author.Tests.{not-true, not-false}
use lib.Bits.{bit_or, or_add_and, and_le_l, and_le_r}
use lib.Dec.{T, T_not, not_T, eqb, leb, eqb→eq, eqb_refl, leb→le, le→leb}
use lib.ListN.{get_or}
use Rattle.lists.specs.Lists.{any, Each}
use Rattle.lists.specs.Decide.{all_of, for_below, implies, select}

pub to_T : (b : Bool) → b ≡ true → T b
to_T true p = tt
to_T false p = absurd (false≢true p)

pub of_T : (b : Bool) → T b → b ≡ true
of_T true t = refl
of_T false t = absurd t

pub of_not : (b : Bool) → T (not b) → b ≡ false
of_not true t = absurd t
of_not false t = refl

pub not_not : (b : Bool) → T (not (not b)) → T b
not_not true t = tt
not_not false t = t

pub refute : (b : Bool) → T b → T (not (not b))
refute true t = tt
refute false t = t

-- a test, by a function's answer that is its value, where the code goes by its negation
pub passed : {r b : Bool} → r ≡ b → not r ≡ false → b ≡ true
passed {r} e t = sym e ∙ not-false r t

pub failed : {r b : Bool} → r ≡ b → not r ≡ true → b ≡ false
failed {r} e t = sym e ∙ not-true r t

-- two tests that imply each other are equal
pub test_eq : (a b : Bool) → (T a → T b) → (T b → T a) → a ≡ b
test_eq true true f g = refl
test_eq true false f g = absurd (f tt)
test_eq false true f g = absurd (g tt)
test_eq false false f g = refl

pub and_left : (a b : Bool) → T (a && b) → T a
and_left true b t = tt
and_left false b t = t

pub and_right : (a b : Bool) → T (a && b) → T b
and_right true b t = t
and_right false b t = absurd t

pub both : (a b : Bool) → T a → T b → T (a && b)
both true b s t = t
both false b s t = s

pub and-true : (a : Bool) → a && true ≡ a
and-true true = refl
and-true false = refl

pub and_assoc : (a b c : Bool) → a && b && c ≡ a && (b && c)
and_assoc true b c = refl
and_assoc false b c = refl

pub or_left : (a b : Bool) → T a → T (a || b)
or_left true b t = tt
or_left false b t = absurd t

pub or_right : (a b : Bool) → T b → T (a || b)
or_right true b t = tt
or_right false b t = t

pub or_cases : {X : Type 0} (a b : Bool) → T (a || b) → (T a → X) → (T b → X) → X
or_cases true b t f g = f tt
or_cases false b t f g = g t

-- of a disjunction that fails, both parts fail
pub or_none : (a b : Bool) → T (not (a || b)) → T (not a) × T (not b)
or_none true b t = absurd t
or_none false b t = (tt, t)

pub neither : (a b : Bool) → T (not a) → T (not b) → T (not (a || b))
neither true b s t = s
neither false b s t = t

pub any_more : {A : Type 0} (p : A → Bool) (xs ys : List A) → T (any p xs) → T (any p (xs ++ ys))
any_more p [] ys t = absurd t
any_more p (x ∷ xs) ys t =
    or_cases (p x) (any p xs) t (or_left (p x) (any p (xs ++ ys))) (λ u. or_right (p x) (any p (xs ++ ys)) (any_more p xs ys u))

-- comparisons of numbers

pub eq→eqb : (m n : ℕ) → m ≡ n → T (eqb m n)
eq→eqb m n e = subst (λ k. T (eqb m k)) e (eqb_refl m)

pub neqb→ne : (m n : ℕ) → T (not (eqb m n)) → m ≢ n
neqb→ne m n t e = T_not (eqb m n) t (eq→eqb m n e)

pub ne→neqb : (m n : ℕ) → m ≢ n → T (not (eqb m n))
ne→neqb m n h = not_T (eqb m n) (λ t. h (eqb→eq m n t))

-- numbers joined bit by bit are 0 just where both are
pub joined_none : (a b : ℕ) → eqb a 0 && eqb 0 b ≡ eqb (bit_or a b) 0
joined_none a b =
    test_eq (eqb a 0 && eqb 0 b) (eqb (bit_or a b) 0)
    (λ t.
    eq→eqb (bit_or a b) 0 (omega (
      arith,
      or_add_and a b,
      eqb→eq a 0 (and_left (eqb a 0) (eqb 0 b) t),
      eqb→eq 0 b (and_right (eqb a 0) (eqb 0 b) t),
    )))
    (λ t.
    let none : bit_or a b ≡ 0 = eqb→eq (bit_or a b) 0 t in
    both (eqb a 0) (eqb 0 b) (eq→eqb a 0 (omega (arith, or_add_and a b, and_le_r a b))) (eq→eqb 0 b (omega (arith, or_add_and a b, and_le_l a b))))

-- what holds of each number of a list holds of one that is among them
pub one_of : (P : ℕ → Type 0) (ks : List ℕ) → Each P ks → (n : ℕ) → T (any (eqb n) ks) → P n
one_of P [] h n t = absurd t
one_of P (k ∷ ks) h n t = or_cases (eqb n k) (any (eqb n) ks) t (λ u. subst P (sym (eqb→eq n k u)) h.0) (one_of P ks h.1 n)

pub of_between : (lo hi x : ℕ) → T (leb lo x && leb x hi) → (lo ≤ x) × (x ≤ hi)
of_between lo hi x t = (leb→le lo x (and_left (leb lo x) (leb x hi) t), leb→le x hi (and_right (leb lo x) (leb x hi) t))

pub to_between : (lo hi x : ℕ) → lo ≤ x → x ≤ hi → T (leb lo x && leb x hi)
to_between lo hi x a b = both (leb lo x) (leb x hi) (le→leb lo x a) (le→leb x hi b)

-- a test's two cases, with its value in the goal, and without
pub either : (P : Bool → Type 0) (b : Bool) → (T b → P true) → (T (not b) → P false) → P b
either P true p q = p tt
either P false p q = q tt

pub split : {X : Type 0} (b : Bool) → (T b → X) → (T (not b) → X) → X
split true p q = p tt
split false p q = q tt

pub of_cond : {A : Type 0} (P : A → Type 0) (b : Bool) (x y : A) → (T b → P x) → (T (not b) → P y) → P (cond b x y)
of_cond P true x y p q = p tt
of_cond P false x y p q = q tt

pub implied : (a b : Bool) → T (implies a b) → T a → T b
implied true b t s = t
implied false b t s = absurd s

pub to_implies : (a b : Bool) → (T a → T b) → T (implies a b)
to_implies true b f = f tt
to_implies false b f = tt

pub holds : (bs : List Bool) → T (all_of bs) → Each T bs
unfolding all_of
holds [] t = tt
holds (b ∷ bs) t = (and_left b (all_of bs) t, holds bs (and_right b (all_of bs) t))

pub to_all_of : (bs : List Bool) → Each T bs → T (all_of bs)
unfolding all_of
to_all_of [] t = tt
to_all_of (b ∷ bs) t = both b (all_of bs) t.0 (to_all_of bs t.1)

-- tests in a row: the first fails, or passes, or is the last
pub all_stops : {b : Bool} (bs : List Bool) → b ≡ false → all_of (b ∷ bs) ≡ false
unfolding all_of
all_stops bs e = rw e refl

pub all_next : {b : Bool} (bs : List Bool) → b ≡ true → all_of (b ∷ bs) ≡ all_of bs
unfolding all_of
all_next bs e = rw e refl

pub all_last : (b : Bool) → all_of (b ∷ []) ≡ b
unfolding all_of
all_last b = and-true b

-- test number i fails
pub one_fails : (i : ℕ) (bs : List Bool) → get_or bs i true ≡ false → all_of bs ≡ false
unfolding all_of
one_fails i [] e = e
one_fails zero (b ∷ bs) e = rw e refl
one_fails (suc i) (b ∷ bs) e = rw (one_fails i bs e) (and-false b)

pub below : (n : ℕ) (p : ℕ → Bool) → T (for_below n p) → (k : ℕ) → k < n → T (p k)
unfolding for_below
below zero p t k h = absurd (omega arith)
below (suc n) p t k h =
    elim (ℕ_discrete k n) [
      | yes e ↦ subst (λ m. T (p m)) (sym e) (and_right (for_below n p) (p n) t)
      | no d ↦ below n p (and_left (for_below n p) (p n) t) k (omega arith)
    ]

pub to_below : (n : ℕ) (p : ℕ → Bool) → ((k : ℕ) → k < n → T (p k)) → T (for_below n p)
unfolding for_below
to_below zero p f = tt
to_below (suc n) p f = both (for_below n p) (p n) (to_below n p (λ k h. f k (omega arith))) (f n (omega arith))

-- to show P of a decision list's value, show it of each value under its test and the failed tests before it
abbrev pub Cases : {A : Type 0} → (A → Type 0) → List (Bool × A) → A → Type 0
Cases P [] a = P a
Cases P (c ∷ cs) a = (T c.0 → P c.1) × (T (not c.0) → Cases P cs a)

at_test : {A : Type 0} (P : A → Type 0) (b : Bool) (x y : A) → (T b → P x) → (T (not b) → P y) → P (elim b [ true ↦ x | false ↦ y ])
at_test P true x y p q = p tt
at_test P false x y p q = q tt

pub by_cases : {A : Type 0} (P : A → Type 0) (cs : List (Bool × A)) (a : A) → Cases P cs a → P (select cs a)
unfolding select
by_cases P [] a h = h
by_cases P (c ∷ cs) a h = at_test P c.0 c.1 (select cs a) h.0 (λ t. by_cases P cs a (h.1 t))

-- a decision list whose first test passes, or fails
pub select_here : {A : Type 0} {b : Bool} (x : A) (cs : List (Bool × A)) (a : A) → b ≡ true → select ((b, x) ∷ cs) a ≡ x
unfolding select
select_here x cs a e = rw e refl

pub select_next : {A : Type 0} {b : Bool} (x : A) (cs : List (Bool × A)) (a : A) → b ≡ false → select ((b, x) ∷ cs) a ≡ select cs a
unfolding select
select_next x cs a e = rw e refl

pub select_last : {A : Type 0} (a : A) → select [] a ≡ a
unfolding select
select_last a = refl
