-- A number put into a rising list: the list rises again, its members are those and the new one, and the order of putting in plays no part.
-- By cases on how the number stands to the first of the list.
use mathlib.Core.List.Memᴰ
use mathlib.Core.List.{List, [], ◌∷◌, ◌++◌, Memᴰ}
use mathlib.Core.Logic.{◌≢◌, ◌⊎◌, inl, inr, ⊎_elim}
use mathlib.Core.Path.{◌≡◌, refl, sym, ap, ap₂, subst, ◌∙◌}
use Prim.Native.Nat.{ℕ, suc, ◌≤◌, ◌<◌}
use native.Mathlib.Omega.{arith}
use borrow.Author.Tests.{lt-ltb, le-ltb, eq-eqb, ne_eqb}
use lib.Dec.{eqb, ltb, ltb→lt, nltb→le, eqb→eq}
use lib.ListN.{length, take, drop, get_or}
use Rattle.lists.specs.Lists.{Each, fold, fold_left}
use Rattle.lists.proofs.Laws.Tests.{split, of_cond, neqb→ne}
use Rattle.lists.proofs.Laws.Each.{each_weaken, each_at}
use Rattle.automaton.specs.Classes.{insert}
use Rattle.automaton.specs.Starts.{Rising}
use Rattle.automaton.specs.bridge.Gathered.{place_in}

-- the three ways in which two numbers stand to each other
three : {X : Type 0} (x y : ℕ) → (x < y → X) → (x ≡ y → X) → (y < x → X) → X
three x y f g h =
    split (ltb x y) (λ t. f (ltb→lt x y t))
    (λ n. let i : y ≤ x = nltb→le x y n in
    split (eqb x y) (λ t. g (eqb→eq x y t)) (λ m. let d : x ≢ y = neqb→ne x y m in h (omega arith)))

-- a number put before, into or behind the first

module _ (x y : ℕ) (l : List ℕ) where
  insert_before : x < y → insert x (y ∷ l) ≡ x ∷ y ∷ l
  insert_before h = rw (lt-ltb x y h)

  insert_same : x ≡ y → insert x (y ∷ l) ≡ y ∷ l
  insert_same e = let i : y ≤ x = omega arith in rw (le-ltb x y i, eq-eqb x y e)

  insert_behind : y < x → insert x (y ∷ l) ≡ y ∷ insert x l
  insert_behind h = let i : y ≤ x = omega arith in rw (le-ltb x y i, ne_eqb x y (λ e. omega arith))

  -- to show P of the list, show it in each of the three cases
  insert_cases : (P : List ℕ → Type 0) → (x < y → P (x ∷ y ∷ l)) → (x ≡ y → P (y ∷ l)) → (y < x → P (y ∷ insert x l)) → P (insert x (y ∷ l))
  insert_cases P f g h =
      three x y (λ i. subst P (sym (insert_before i)) (f i)) (λ e. subst P (sym (insert_same e)) (g e)) (λ i. subst P (sym (insert_behind i)) (h i))

-- members, and what holds of each

pub insert_new : (x : ℕ) (l : List ℕ) → Memᴰ x (insert x l)
insert_new x [] = Memᴰ.head refl
insert_new x (y ∷ l) = insert_cases x y l (Memᴰ x) (λ _. Memᴰ.head refl) (λ e. Memᴰ.head e) (λ _. Memᴰ.tail (insert_new x l))

pub insert_old : (x : ℕ) (l : List ℕ) {z : ℕ} → Memᴰ z l → Memᴰ z (insert x l)
insert_old x [] m = absurd (Memᴰ.not-nil m)
insert_old x (y ∷ l) {z} m =
    insert_cases x y l (Memᴰ z) (λ _. Memᴰ.tail m) (λ _. m)
    (λ _. ⊎_elim (λ e. Memᴰ.head e) (λ r. Memᴰ.tail (insert_old x l r)) (Memᴰ.cases_cons m))

insert_only : (x : ℕ) (l : List ℕ) {z : ℕ} → Memᴰ z (insert x l) → (z ≡ x) ⊎ Memᴰ z l
insert_only x [] m = inl (Memᴰ.eq_of_singleton m)
insert_only x (y ∷ l) {z} m =
    insert_cases x y l (λ k. Memᴰ z k → (z ≡ x) ⊎ Memᴰ z (y ∷ l)) (λ _ i. Memᴰ.cases_cons i) (λ _ i. inr i)
    (λ _ i. ⊎_elim (λ e. inr (Memᴰ.head e)) (λ r. ⊎_elim (λ e. inl e) (λ o. inr (Memᴰ.tail o)) (insert_only x l r)) (Memᴰ.cases_cons i)) m

pub each_insert : (P : ℕ → Type 0) (x : ℕ) (l : List ℕ) → P x → Each P l → Each P (insert x l)
each_insert P x [] h a = (h, tt)
each_insert P x (y ∷ l) h a = insert_cases x y l (Each P) (λ _. (h, a)) (λ _. a) (λ _. (a.0, each_insert P x l h a.1))

pub rising_insert : (x : ℕ) (l : List ℕ) → Rising l → Rising (insert x l)
rising_insert x [] r = (tt, tt)
rising_insert x (y ∷ l) r =
    insert_cases x y l Rising (λ i. ((i, each_weaken (λ k. y < k) (λ k. x < k) l (λ k h. omega arith) r.0), r)) (λ _. r)
    (λ i. (each_insert (λ k. y < k) x l i r.0, rising_insert x l r.1))

-- putting in never makes fewer
pub length_insert : (x : ℕ) (l : List ℕ) → length l ≤ length (insert x l)
length_insert x [] = omega arith
length_insert x (y ∷ l) =
    let i : length l ≤ length (insert x l) = length_insert x l in
    insert_cases x y l (λ k. suc (length l) ≤ length k) (λ _. omega arith) (λ _. omega arith) (λ _. omega arith)

-- the order of putting in plays no part

swap_rising : (x y : ℕ) (l : List ℕ) → x < y → insert x (insert y l) ≡ insert y (insert x l)
swap_rising x y [] h = insert_before x y [] h ∙ sym (insert_behind y x [] h)
swap_rising x y (z ∷ l) h =
    three x z before
    (λ e. let i : z < y = omega arith in
    ap (insert x) (insert_behind y z l i) ∙ insert_same x z (insert y l) e ∙ sym (ap (insert y) (insert_same x z l e) ∙ insert_behind y z l i))
    (λ v. let i : z < y = omega arith in
    ap (insert x) (insert_behind y z l i) ∙ insert_behind x z (insert y l) v ∙ ap (λ k. z ∷ k) (swap_rising x y l h)
    ∙ sym (ap (insert y) (insert_behind x z l v) ∙ insert_behind y z (insert x l) i))
  where
    before : x < z → insert x (insert y (z ∷ l)) ≡ insert y (insert x (z ∷ l))
    before v =
        three y z
        (λ i. ap (insert x) (insert_before y z l i) ∙ insert_before x y (z ∷ l) h ∙ sym (ap (λ k. x ∷ k) (insert_before y z l i)) ∙ back)
        (λ e. ap (insert x) (insert_same y z l e) ∙ insert_before x z l v ∙ sym (ap (λ k. x ∷ k) (insert_same y z l e)) ∙ back)
        (λ i. ap (insert x) (insert_behind y z l i) ∙ insert_before x z (insert y l) v ∙ sym (ap (λ k. x ∷ k) (insert_behind y z l i)) ∙ back)
      where
        back : x ∷ insert y (z ∷ l) ≡ insert y (insert x (z ∷ l))
        back = sym (ap (insert y) (insert_before x z l v) ∙ insert_behind y x (z ∷ l) h)

insert_swap : (x y : ℕ) (l : List ℕ) → insert x (insert y l) ≡ insert y (insert x l)
insert_swap x y l =
    three x y (swap_rising x y l) (λ e. ap (λ k. insert k (insert y l)) e ∙ sym (ap (λ k. insert y (insert k l)) e)) (λ h. sym (swap_rising y x l h))

-- numbers put in, the first of them first
abbrev pub insert_all : List ℕ → List ℕ → List ℕ
insert_all es ss = fold_left insert es ss

pub all_old : (es ss : List ℕ) {z : ℕ} → Memᴰ z ss → Memᴰ z (insert_all es ss)
all_old [] ss m = m
all_old (e ∷ es) ss m = all_old es (insert e ss) (insert_old e ss m)

pub all_new : (es ss : List ℕ) {z : ℕ} → Memᴰ z es → Memᴰ z (insert_all es ss)
all_new [] ss m = absurd (Memᴰ.not-nil m)
all_new (e ∷ es) ss m = ⊎_elim (λ q. all_old es (insert e ss) (Memᴰ.cast q (insert_new e ss))) (λ r. all_new es (insert e ss) r) (Memᴰ.cases_cons m)

pub all_only : (es ss : List ℕ) {z : ℕ} → Memᴰ z (insert_all es ss) → Memᴰ z es ⊎ Memᴰ z ss
all_only [] ss m = inr m
all_only (e ∷ es) ss m =
    ⊎_elim (λ r. inl (Memᴰ.tail r)) (λ r. ⊎_elim (λ q. inl (Memᴰ.head q)) (λ o. inr o) (insert_only e ss r)) (all_only es (insert e ss) m)

pub all_rising : (es ss : List ℕ) → Rising ss → Rising (insert_all es ss)
all_rising [] ss r = r
all_rising (e ∷ es) ss r = all_rising es (insert e ss) (rising_insert e ss r)

pub insert_all_fold : (es ss : List ℕ) → insert_all es ss ≡ fold insert ss es
insert_all_fold [] ss = refl
insert_all_fold (e ∷ es) ss = insert_all_fold es (insert e ss) ∙ through es
  where
    through : (ds : List ℕ) → fold insert (insert e ss) ds ≡ insert e (fold insert ss ds)
    through [] = refl
    through (d ∷ ds) = ap (insert d) (through ds) ∙ insert_swap d e (fold insert ss ds)

-- two rising lists of the same members are one
pub rising_one : (a b : List ℕ) → Rising a → Rising b → ((x : ℕ) → Memᴰ x a → Memᴰ x b) → ((x : ℕ) → Memᴰ x b → Memᴰ x a) → a ≡ b
rising_one [] [] p q f g = refl
rising_one [] (y ∷ b) p q f g = absurd (Memᴰ.not-nil (g y (Memᴰ.head refl)))
rising_one (x ∷ a) [] p q f g = absurd (Memᴰ.not-nil (f x (Memᴰ.head refl)))
rising_one (x ∷ a) (y ∷ b) p q f g = ap₂ ◌∷◌ same (rising_one a b p.1 q.1 (rest a b p.0 same f) (rest b a q.0 (sym same) g))
  where
    -- the first is not above another member
    least : {u v : ℕ} {l : List ℕ} → Each (λ z. u < z) l → Memᴰ v (u ∷ l) → u ≤ v
    least {u} {v} e m = ⊎_elim (λ (k : v ≡ u). omega arith) (λ r. let i : u < v = each_at (λ z. u < z) e r in omega arith) (Memᴰ.cases_cons m)

    same : x ≡ y
    same = omega (arith, least p.0 (g y (Memᴰ.head refl)), least q.0 (f x (Memᴰ.head refl)))

    rest : {u v : ℕ} (l k : List ℕ) → Each (λ z. u < z) l → u ≡ v → ((z : ℕ) → Memᴰ z (u ∷ l) → Memᴰ z (v ∷ k)) →
        (z : ℕ) → Memᴰ z l → Memᴰ z k
    rest {u} {v} l k e s h z m =
        let i : u < z = each_at (λ n. u < n) e m in
        ⊎_elim (λ (j : z ≡ v). absurd (omega arith)) (λ r. r) (Memᴰ.cases_cons (h z (Memᴰ.tail m)))

-- a number's place

module _ (x y : ℕ) (l : List ℕ) where
  pub place_on : y < x → place_in x (y ∷ l) ≡ suc (place_in x l)
  place_on h = rw (lt-ltb y x h)

  pub place_here : x ≤ y → place_in x (y ∷ l) ≡ 0
  place_here h = rw (le-ltb y x h)

pub place_within : (x : ℕ) (l : List ℕ) → place_in x l ≤ length l
place_within x [] = omega arith
place_within x (y ∷ l) =
    let i : place_in x l ≤ length l = place_within x l in
    of_cond (λ k. k ≤ suc (length l)) (ltb y x) (suc (place_in x l)) 0 (λ _. omega arith) (λ _. omega arith)

-- x is there, or goes there
abbrev Placed : ℕ → List ℕ → ℕ → Type 0
Placed x l p =
    (p < length l → get_or l p 0 ≡ x → insert x l ≡ l)
    × ((p < length l → get_or l p 0 ≢ x) → insert x l ≡ take p l ++ x ∷ drop p l)

pub placed : (x : ℕ) (l : List ℕ) → Placed x l (place_in x l)
placed x [] = (λ h e. absurd (omega arith), λ _. refl)
placed x (y ∷ l) =
    three x y
    (λ h. let i : x ≤ y = omega arith in
    rw (place_here x y l i) (λ v e. absurd (omega arith), λ _. insert_before x y l h))
    (λ e. let i : x ≤ y = omega arith in
    rw (place_here x y l i) (λ v p. insert_same x y l e, λ d. absurd (d (omega arith) (sym e))))
    (λ h. rw (place_on x y l h) (
      λ v e. insert_behind x y l h ∙ ap (λ k. y ∷ k) ((placed x l).0 (omega arith) e),
      λ d. insert_behind x y l h ∙ ap (λ k. y ∷ k) ((placed x l).1 (λ v. d (omega arith))),
    ))
