-- Of some coefficients just one is not 0, and it is 1: exactly if their total is 1, and exactly if one place has 1 and every other 0.
-- By recursion on the coefficients: a total of 1 is 1 and then 0, or 0 and then 1.
use mathlib.Core.Bool.{false, cond}
use mathlib.Core.List.{List, [], ◌∷◌}
use mathlib.Core.Logic.{◌≢◌}
use mathlib.Core.Path.{◌≡◌, refl, sym, ap, subst, ◌∙◌}
use Prim.Native.Nat.{ℕ, zero, suc, ◌+◌, ◌≤◌, ◌<◌}
use native.Mathlib.Nat.{zero-add}
use native.Mathlib.Omega.{arith}
use borrow.Author.Tests.{ne_eqb}
use lib.Dec.{T, eqb, eqb→eq}
use lib.ListN.{length, take}
use Rattle.lists.specs.Lists.{any, count, Each}
use Rattle.lists.proofs.Laws.Tests.{of_T, or_cases, test_eq, holds, to_all_of, eq→eqb, ne→neqb}
use Rattle.meaning.specs.Block.{at}
use Rattle.meaning.proofs.Laws.SafeFlat.{each_numbers}
use Rattle.automaton.specs.Sound.{used, one_only}

abbrev pub total : List ℕ → ℕ
total [] = 0
total (k ∷ ks) = k + total ks

abbrev Noughts : List ℕ → Type 0
Noughts ks = Each (λ k. k ≡ 0) ks

count_used : (k : ℕ) (ks : List ℕ) → count used (suc k ∷ ks) ≡ suc (count used ks)
count_used k ks = ap (λ b. cond b 1 0 + count used ks) (of_T (used (suc k)) (ne→neqb (suc k) 0 (omega arith))) ∙ omega arith

count_noughts : (ks : List ℕ) → count used ks ≡ 0 → Noughts ks
count_noughts [] e = tt
count_noughts (zero ∷ ks) e = (refl, count_noughts ks (sym (zero-add (count used ks)) ∙ e))
count_noughts (suc k ∷ ks) e = absurd (omega (arith, count_used k ks))

total_noughts : (ks : List ℕ) → total ks ≡ 0 → Noughts ks
total_noughts [] e = tt
total_noughts (k ∷ ks) e = (omega arith, total_noughts ks (omega arith))

noughts_count : (ks : List ℕ) → Noughts ks → count used ks ≡ 0
noughts_count [] n = refl
noughts_count (zero ∷ ks) n = zero-add (count used ks) ∙ noughts_count ks n.1
noughts_count (suc k ∷ ks) n = absurd (let e : suc k ≡ 0 = n.0 in omega arith)

noughts_total : (ks : List ℕ) → Noughts ks → total ks ≡ 0
noughts_total [] n = refl
noughts_total (k ∷ ks) n = let e : k ≡ 0 = n.0 in let f : total ks ≡ 0 = noughts_total ks n.1 in omega arith

noughts_none : (ks : List ℕ) → Noughts ks → T (any (eqb 1) ks) → ⊥
noughts_none [] n t = t
noughts_none (zero ∷ ks) n t = noughts_none ks n.1 t
noughts_none (suc k ∷ ks) n t = let e : suc k ≡ 0 = n.0 in absurd (omega arith)

noughts_at : (ks : List ℕ) → Noughts ks → (j : ℕ) → at ks j ≡ 0
noughts_at [] n j = refl
noughts_at (k ∷ ks) n zero = n.0
noughts_at (k ∷ ks) n (suc j) = noughts_at ks n.1 j

-- the two tests, and the total

to_total : (ks : List ℕ) → count used ks ≡ 1 → T (any (eqb 1) ks) → total ks ≡ 1
to_total [] e t = absurd t
to_total (zero ∷ ks) e t = zero-add (total ks) ∙ to_total ks (sym (zero-add (count used ks)) ∙ e) t
to_total (suc zero ∷ ks) e t = let f : total ks ≡ 0 = noughts_total ks (count_noughts ks (omega arith)) in omega arith
to_total (suc (suc k) ∷ ks) e t =
    let none : Noughts ks = count_noughts ks (omega (arith, count_used (suc k) ks)) in
    or_cases (eqb 1 (suc (suc k))) (any (eqb 1) ks) t (λ q. let f : 1 ≡ suc (suc k) = eqb→eq 1 (suc (suc k)) q in absurd (omega arith)) (λ q. absurd (noughts_none ks none q))

of_total : (ks : List ℕ) → total ks ≡ 1 → (count used ks ≡ 1) × T (any (eqb 1) ks)
of_total [] e = absurd (omega arith)
of_total (zero ∷ ks) e = let r = of_total ks (sym (zero-add (total ks)) ∙ e) in (zero-add (count used ks) ∙ r.0, r.1)
of_total (suc zero ∷ ks) e = let f : count used ks ≡ 0 = noughts_count ks (total_noughts ks (omega arith)) in (omega arith, tt)
of_total (suc (suc k) ∷ ks) e = absurd (omega arith)

pub one_total : (ks : List ℕ) → one_only ks ≡ eqb (total ks) 1
unfolding one_only
one_total ks =
    test_eq (one_only ks) (eqb (total ks) 1)
    (λ t. let h = holds _ t in eq→eqb (total ks) 1 (to_total ks (eqb→eq (count used ks) 1 h.0) h.1.0))
    (λ t. let r = of_total ks (eqb→eq (total ks) 1 t) in to_all_of _ (eq→eqb (count used ks) 1 r.0, (r.1, tt)))

-- the total of the first so many: with one more, and where it is above 1 already
pub total_next : (p : ℕ) (ks : List ℕ) → total (take (suc p) ks) ≡ total (take p ks) + at ks p
total_next zero [] = refl
total_next zero (k ∷ ks) = omega arith
total_next (suc p) [] = refl
total_next (suc p) (k ∷ ks) = omega (arith, total_next p ks)

total_part : (p : ℕ) (ks : List ℕ) → total (take p ks) ≤ total ks
total_part zero ks = omega arith
total_part (suc p) [] = omega arith
total_part (suc p) (k ∷ ks) = omega (arith, total_part p ks)

pub more_total : (p : ℕ) (ks : List ℕ) → 1 < total (take p ks) → one_only ks ≡ false
more_total p ks h = one_total ks ∙ ne_eqb (total ks) 1 (λ e. absurd (omega (arith, total_part p ks)))

-- the place that has 1
pub record One (ks : List ℕ) : Type 0 where
  pub place : ℕ
  pub inside : place < length ks
  pub one : at ks place ≡ 1
  pub others : (j : ℕ) → j ≢ place → at ks j ≡ 0

total_place : (ks : List ℕ) → total ks ≡ 1 → One ks
total_place [] e = absurd (omega arith)
total_place (zero ∷ ks) e = later (total_place ks (sym (zero-add (total ks)) ∙ e))
  where
    later : One ks → One (0 ∷ ks)
    later o = record { place = suc o.place; inside = let h = o.inside in omega arith; one = o.one; others = others }
      where
        others : (j : ℕ) → j ≢ suc o.place → at (0 ∷ ks) j ≡ 0
        others zero n = refl
        others (suc j) n = o.others j (λ e. n (ap suc e))
total_place (suc zero ∷ ks) e = record { place = 0; inside = omega arith; one = refl; others = others }
  where
    others : (j : ℕ) → j ≢ 0 → at (1 ∷ ks) j ≡ 0
    others zero n = absurd (n refl)
    others (suc j) n = noughts_at ks (total_noughts ks (omega arith)) j
total_place (suc (suc k) ∷ ks) e = absurd (omega arith)

place_total : (ks : List ℕ) (p : ℕ) → at ks p ≡ 1 → ((j : ℕ) → j < length ks → j ≢ p → at ks j ≡ 0) → total ks ≡ 1
place_total [] p e f = absurd (omega arith)
place_total (k ∷ ks) zero e f =
    let r : total ks ≡ 0 = noughts_total ks (each_numbers (λ k. k ≡ 0) ks 0 (λ j h. f (suc j) (omega arith) (omega arith))) in omega arith
place_total (k ∷ ks) (suc p) e f =
    let z : k ≡ 0 = f 0 (omega arith) (omega arith) in
    let r : total ks ≡ 1 = place_total ks p e (λ j h n. f (suc j) (omega arith) (omega arith)) in
    omega arith

pub one_place : (ks : List ℕ) → T (one_only ks) → One ks
one_place ks t = total_place ks (eqb→eq (total ks) 1 (subst T (one_total ks) t))

pub place_one : (ks : List ℕ) (p : ℕ) → at ks p ≡ 1 → ((j : ℕ) → j < length ks → j ≢ p → at ks j ≡ 0) → T (one_only ks)
place_one ks p e f = subst T (sym (one_total ks)) (eq→eqb (total ks) 1 (place_total ks p e f))
