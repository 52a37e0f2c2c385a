-- Lists filtered, counted and tabulated, their greatest value, the numbers up to n, and sums over them.
-- By recursion on the list, or on how many numbers there are.
use mathlib.Core.Bool.{Bool, ◌&&◌, not, cond}
use mathlib.Core.List.Memᴰ
use mathlib.Core.List.{List, [], ◌∷◌, ◌++◌, map, Memᴰ}
use mathlib.Core.Logic.{◌≢◌}
use mathlib.Core.Path.{◌≡◌, refl, sym, ap, ap₂, subst, ◌∙◌}
use Prim.Native.Nat.{ℕ, zero, suc, ◌+◌, ◌-◌, ◌*◌, ◌≤◌, ◌<◌}
use native.Mathlib.Decide.{ℕ_discrete}
use native.Mathlib.Nat.{zero-add, add-zero, add-suc, suc-add, add-mul}
use native.Mathlib.Numerals.{add-one}
use native.Mathlib.Omega.{arith}
use lib.Dec.{T}
use lib.ListN.{length, get_or, set, length-set}
use lib.Seq.{get_or-set_same, get_or-set_other, ext_get_or}
use Rattle.lists.specs.Lists.{Each, filter, count, greatest, sum_below, tab_from, up_to, is_empty}
use Rattle.lists.proofs.Laws.Tests.{either, of_T, of_not, of_cond}
use Rattle.lists.proofs.Laws.Each.{each_weaken}

module _ {A : Type 0} where
  pub filter_filter : (f g : A → Bool) (xs : List A) → filter g (filter f xs) ≡ filter (λ x. f x && g x) xs
  filter_filter f g [] = refl
  filter_filter f g (x ∷ xs) =
      let e : filter g (filter f xs) ≡ filter (λ y. f y && g y) xs = filter_filter f g xs in
      either (λ b. filter g (cond b (x ∷ filter f xs) (filter f xs)) ≡ cond (b && g x) (x ∷ filter (λ y. f y && g y) xs) (filter (λ y. f y && g y) xs)) (f x)
      (λ _. ap (λ l. cond (g x) (x ∷ l) l) e) (λ _. e)

  pub filter_same : (f g : A → Bool) (xs : List A) → Each (λ x. f x ≡ g x) xs → filter f xs ≡ filter g xs
  filter_same f g [] a = refl
  filter_same f g (x ∷ xs) a = ap₂ (λ b l. cond b (x ∷ l) l) a.0 (filter_same f g xs a.1)

  pub filter_none : (f : A → Bool) (xs : List A) → Each (λ x. T (not (f x))) xs → filter f xs ≡ []
  filter_none f [] a = refl
  filter_none f (x ∷ xs) a = ap₂ (λ b l. cond b (x ∷ l) l) (of_not (f x) a.0) (filter_none f xs a.1)

  pub filter_all : (f : A → Bool) (xs : List A) → Each (λ x. T (f x)) xs → filter f xs ≡ xs
  filter_all f [] a = refl
  filter_all f (x ∷ xs) a = ap₂ (λ b l. cond b (x ∷ l) l) (of_T (f x) a.0) (filter_all f xs a.1)

  pub filter_some : (P : A → Type 0) (f : A → Bool) (xs : List A) → Each P xs → T (not (is_empty (filter f xs))) → (x : A) × P x × T (f x)
  filter_some P f [] a = λ t. absurd t
  filter_some P f (x ∷ xs) a =
      of_cond (λ l. T (not (is_empty l)) → (x : A) × P x × T (f x)) (f x) (x ∷ filter f xs) (filter f xs)
      (λ h _. (x, a.0, h)) (λ _ t. filter_some P f xs a.1 t)

  pub not_empty : (xs : List A) {x : A} → Memᴰ x xs → T (not (is_empty xs))
  not_empty [] m = absurd (Memᴰ.not-nil m)
  not_empty (x ∷ xs) m = tt

  pub greatest_above : (f : A → ℕ) (n : ℕ) (xs : List A) → greatest f xs ≤ n → Each (λ x. f x ≤ n) xs
  greatest_above f n [] h = tt
  greatest_above f n (x ∷ xs) h = (omega arith, greatest_above f n xs (omega arith))

  pub greatest_le : (f : A → ℕ) (n : ℕ) (xs : List A) → Each (λ x. f x ≤ n) xs → greatest f xs ≤ n
  greatest_le f n [] a = omega arith
  greatest_le f n (x ∷ xs) a = let z : greatest f xs ≤ n = greatest_le f n xs a.1 in let y : f x ≤ n = a.0 in omega arith

  pub count_length : (p : A → Bool) (xs : List A) → count p xs ≤ length xs
  count_length p [] = omega arith
  count_length p (x ∷ xs) =
      let rest = count_length p xs in of_cond (λ n. n + count p xs ≤ suc (length xs)) (p x) 1 0 (λ _. omega arith) (λ _. omega arith)

  pub count_append : (p : A → Bool) (xs ys : List A) → count p (xs ++ ys) ≡ count p xs + count p ys
  count_append p [] ys = omega arith
  count_append p (x ∷ xs) ys = omega (arith, count_append p xs ys)

  pub count_all : (p : A → Bool) (xs : List A) → Each (λ x. T (p x)) xs → count p xs ≡ length xs
  count_all p [] a = refl
  count_all p (x ∷ xs) a = rw (of_T (p x) a.0) (omega (arith, count_all p xs a.1))

  pub count_none : (p : A → Bool) (xs : List A) → Each (λ x. T (not (p x))) xs → count p xs ≡ 0
  count_none p [] a = refl
  count_none p (x ∷ xs) a = rw (of_not (p x) a.0) (omega (arith, count_none p xs a.1))

-- tabulated lists

module _ {A : Type 0} (f : ℕ → A) where
  pub get_d_tab : (i n r : ℕ) (d : A) → r < n → get_or (tab_from i n f) r d ≡ f (i + r)
  get_d_tab i zero r d h = absurd (omega arith)
  get_d_tab i (suc n) zero d h = ap f (sym (add-zero i))
  get_d_tab i (suc n) (suc r) d h =
      let e : suc i + r ≡ i + suc r = omega arith in get_d_tab (suc i) n r d (omega arith) ∙ ap f e

  pub length_tab : (i n : ℕ) → length (tab_from i n f) ≡ n
  length_tab i zero = refl
  length_tab i (suc n) = ap suc (length_tab (suc i) n)

  pub tab_shift : (i n : ℕ) → tab_from (suc i) n f ≡ tab_from i n (λ k. f (suc k))
  tab_shift i zero = refl
  tab_shift i (suc n) = ap (λ l. f (suc i) ∷ l) (tab_shift (suc i) n)

  pub each_tab : (P : A → Type 0) → ((k : ℕ) → P (f k)) → (i n : ℕ) → Each P (tab_from i n f)
  each_tab P h i zero = tt
  each_tab P h i (suc n) = (h i, each_tab P h (suc i) n)

  pub tab_is : (n : ℕ) (xs : List A) (d : A) → length xs ≡ n → ((k : ℕ) → k < n → f k ≡ get_or xs k d) → tab_from 0 n f ≡ xs
  tab_is n xs d e h =
      ext_get_or d (tab_from 0 n f) xs (length_tab 0 n ∙ sym e)
      (λ k i. let j : k < n = subst (λ m. k < m) (length_tab 0 n) i in get_d_tab 0 n k d j ∙ ap f (zero-add k) ∙ h k j)

  -- what is left of the first n elements, from number k on

  pub tab_next : (n k : ℕ) → k < n → tab_from k (n - k) f ≡ f k ∷ tab_from (k + 1) (n - (k + 1)) f
  tab_next n k h =
      let e : n - k ≡ suc (n - (k + 1)) = omega arith in
      ap (λ m. tab_from k m f) e ∙ ap (λ j. f k ∷ tab_from j (n - (k + 1)) f) (sym (add-one k))

  pub tab_end : (n k : ℕ) → n ≤ k → tab_from k (n - k) f ≡ []
  tab_end n k h = let e : n - k ≡ 0 = omega arith in ap (λ m. tab_from k m f) e

  pub tab_start : (n : ℕ) → tab_from 0 n f ≡ tab_from 0 (n - 0) f
  tab_start n = let e : n ≡ n - 0 = omega arith in ap (λ m. tab_from 0 m f) e

-- one made anew
pub set_tab : {A : Type 0} (f g : ℕ → A) (n r : ℕ) → r < n → ((k : ℕ) → k ≢ r → f k ≡ g k) → set (tab_from 0 n f) r (g r) ≡ tab_from 0 n g
set_tab f g n r h e =
    let new = set (tab_from 0 n f) r (g r) in
    sym (tab_is g n new (g r) (length-set (tab_from 0 n f) r (g r) ∙ length_tab f 0 n)
    (λ k i. elim (ℕ_discrete k r) [
      | yes p ↦ ap g p ∙ sym (get_or-set_same (tab_from 0 n f) r (g r) (g r) (omega (arith, length_tab f 0 n))) ∙ ap (λ j. get_or new j (g r)) (sym p)
      | no d ↦ sym (get_or-set_other (tab_from 0 n f) r k (g r) (g r) d ∙ get_d_tab f 0 n k (g r) i ∙ ap f (zero-add k) ∙ e k d)
    ]))

pub tab_map : {A B : Type 0} (f : ℕ → B) (h : A → B) (i : ℕ) (xs : List A) (d : A) →
    ((j : ℕ) → j < length xs → f (i + j) ≡ h (get_or xs j d)) → tab_from i (length xs) f ≡ map h xs
tab_map f h i [] d e = refl
tab_map f h i (x ∷ xs) d e =
    ap₂ ◌∷◌ (rw add-zero at (e 0 (omega arith))) (tab_map f h (suc i) xs d (λ j k. rw (suc-add, ← add-suc) (e (suc j) (omega arith))))

pub each_up_to : (n : ℕ) → Each (λ r. r < n) (up_to n)
each_up_to n = each_weaken (λ r. r < 0 + n) (λ r. r < n) (up_to n) (λ r h. omega arith) (from 0 n)
  where
    from : (k n : ℕ) → Each (λ r. r < k + n) (tab_from k n (λ i. i))
    from k zero = tt
    from k (suc n) = (omega arith, each_weaken (λ r. r < suc k + n) (λ r. r < k + suc n) (tab_from (suc k) n (λ i. i)) (λ r h. omega arith) (from (suc k) n))

pub mem_up_to : (n r : ℕ) → r < n → Memᴰ r (up_to n)
mem_up_to n r h = from 0 n (omega arith) (omega arith)
  where
    from : (k n : ℕ) → k ≤ r → r < k + n → Memᴰ r (tab_from k n (λ i. i))
    from k zero i j = absurd (omega arith)
    from k (suc n) i j = elim (ℕ_discrete r k) [ yes e ↦ Memᴰ.head e | no d ↦ Memᴰ.tail (from (suc k) n (omega arith) (omega arith)) ]

-- sums

pub sum_same : (n : ℕ) (f g : ℕ → ℕ) → ((k : ℕ) → k < n → f k ≡ g k) → sum_below n f ≡ sum_below n g
unfolding sum_below
sum_same zero f g e = refl
sum_same (suc n) f g e = ap₂ ◌+◌ (sum_same n f g (λ k h. e k (omega arith))) (e n (omega arith))

pub sum_none : (n : ℕ) (f : ℕ → ℕ) → ((k : ℕ) → k < n → f k ≡ 0) → sum_below n f ≡ 0
unfolding sum_below
sum_none zero f e = refl
sum_none (suc n) f e = omega (arith, sum_none n f (λ k h. e k (omega arith)), e n (omega arith))

pub sum_plus : (n : ℕ) (f g : ℕ → ℕ) → sum_below n (λ k. f k + g k) ≡ sum_below n f + sum_below n g
unfolding sum_below
sum_plus zero f g = refl
sum_plus (suc n) f g = omega (arith, sum_plus n f g)

-- where each value counts so many times
pub sum_times : (n : ℕ) (f g size : ℕ → ℕ) →
    sum_below n (λ k. (f k + g k) * size k) ≡ sum_below n (λ k. f k * size k) + sum_below n (λ k. g k * size k)
sum_times n f g size =
    sum_same n (λ k. (f k + g k) * size k) (λ k. f k * size k + g k * size k) (λ k _. add-mul (f k) (g k) (size k))
    ∙ sum_plus n (λ k. f k * size k) (λ k. g k * size k)

-- where one value at most is not 0
pub sum_one : (n : ℕ) (f : ℕ → ℕ) (r : ℕ) → r < n → ((k : ℕ) → k ≢ r → f k ≡ 0) → sum_below n f ≡ f r
unfolding sum_below
sum_one zero f r h e = absurd (omega arith)
sum_one (suc n) f r h e =
    elim (ℕ_discrete n r) [
      | yes p ↦ omega (arith, sum_none n f (λ k i. e k (omega arith)), ap f p)
      | no d ↦ omega (arith, sum_one n f r (omega arith) e, e n d)
    ]

pub sum_next : (n : ℕ) (f : ℕ → ℕ) → sum_below (n + 1) f ≡ sum_below n f + f n
unfolding sum_below
sum_next n f = ap (λ m. sum_below m f) (add-one n)

-- a longer sum is no less
pub sum_grows : (m n : ℕ) (f : ℕ → ℕ) → m ≤ n → sum_below m f ≤ sum_below n f
unfolding sum_below
sum_grows m zero f h = let e : m ≡ 0 = omega arith in rw e (omega arith)
sum_grows m (suc n) f h =
    elim (ℕ_discrete m (suc n)) [
      | yes p ↦ rw p (omega arith)
      | no d ↦ omega (arith, sum_grows m n f (omega arith))
    ]

pub sum_most : (n : ℕ) (f : ℕ → ℕ) (k : ℕ) → k < n → f k ≤ sum_below n f
unfolding sum_below
sum_most zero f k h = absurd (omega arith)
sum_most (suc n) f k h =
    elim (ℕ_discrete k n) [
      | yes p ↦ omega (arith, ap f p)
      | no d ↦ omega (arith, sum_most n f k (omega arith))
    ]
