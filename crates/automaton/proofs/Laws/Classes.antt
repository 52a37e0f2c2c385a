-- A character and the start of its class lie in the same ranges; the class starts rise from 0.
-- Each edge of a range is a start, so none lies above the class start and not above the character.
use mathlib.Core.Bool.{◌&&◌, ◌||◌, cond}
use mathlib.Core.List.Memᴰ
use mathlib.Core.List.{List, [], ◌∷◌, Memᴰ}
use mathlib.Core.Logic.{inl, inr, ⊎_elim}
use mathlib.Core.Path.{◌≡◌, refl, sym, ap₂, ◌∙◌}
use Prim.Native.Nat.{ℕ, zero, suc, pred, ◌+◌, ◌≤◌, ◌<◌}
use native.Mathlib.Numerals.{add-one}
use native.Mathlib.Omega.{arith}
use lib.Dec.{leb, ltb, leb→le, le→leb, nleb→lt, ltb→lt, nltb→le}
use lib.ListN.{length, get_or}
use Rattle.lists.specs.Lists.{Each, count, fold, flat_map}
use Rattle.lists.proofs.Laws.Tests.{split, of_cond, test_eq, of_T}
use Rattle.lists.proofs.Laws.Each.{each_front, each_back, each_weaken, each_at, each_get_d, each_anywhere, each_flat_map}
use Rattle.lists.proofs.Laws.Members.{mem_get_d}
use Rattle.lists.proofs.Laws.Sets.{count_length}
use Rattle.meaning.specs.Table.{Range, Table, within, in_ranges, rule_at, every_character}
use Rattle.automaton.specs.Classes.{insert, edges, all_edges, starts, class_of}
use Rattle.automaton.specs.Starts.{Rising, IsEdge}
use Rattle.automaton.proofs.Laws.Inserting.{insert_new, insert_old, rising_insert}

-- what the class starts of a table are
pub record Classed (t : Table) : Type 0 where
  pub some_start : 0 < length (starts t)
  pub first : get_or (starts t) 0 0 ≡ 0
  pub rising : (k : ℕ) → suc k < length (starts t) → get_or (starts t) k 0 < get_or (starts t) (suc k) 0
  pub class_below : (c : ℕ) → class_of (starts t) c < length (starts t)

pub rising_at : (l : List ℕ) (k : ℕ) → Rising l → suc k < length l → get_or l k 0 < get_or l (suc k) 0
rising_at [] k r h = absurd (omega arith)
rising_at (y ∷ l) zero r h = each_get_d (λ z. y < z) l 0 0 r.0 (omega arith)
rising_at (y ∷ l) (suc k) r h = rising_at l k r.1 (omega arith)

-- a number's successor up to a limit, as a list
module _ (x h limit : ℕ) where
  abbrev upper : List ℕ
  upper = cond (ltb h limit) (suc h ∷ []) []

  upper_only : Memᴰ x upper → (x ≡ h + 1) × (x ≤ limit)
  upper_only =
      of_cond (λ k. Memᴰ x k → (x ≡ h + 1) × (x ≤ limit)) (ltb h limit) (suc h ∷ []) []
      (λ t m. let e : x ≡ suc h = Memᴰ.eq_of_singleton m in (e ∙ sym (add-one h), omega (arith, ltb→lt h limit t)))
      (λ _ m. absurd (Memᴰ.not-nil m))

  upper_there : (x ≡ h + 1) × (x ≤ limit) → Memᴰ x upper
  upper_there p =
      let e : x ≡ h + 1 = p.0 in
      let i : x ≤ limit = p.1 in
      of_cond (Memᴰ x) (ltb h limit) (suc h ∷ []) [] (λ _. Memᴰ.head (e ∙ add-one h)) (λ n. absurd (omega (arith, nltb→le h limit n)))

-- the edges of a range are its lowest and, where that is a character, its highest + 1
module _ (r : Range) (x : ℕ) where
  pub edge_met : Memᴰ x (edges r) → IsEdge r x
  edge_met m = ⊎_elim (λ e. inl e) (λ i. inr (upper_only x r.highest 65535 i)) (Memᴰ.cases_cons m)

  pub met_edge : IsEdge r x → Memᴰ x (edges r)
  met_edge = ⊎_elim (λ e. Memᴰ.head e) (λ p. Memᴰ.tail (upper_there x r.highest 65535 p))

module _ (t : Table) where
  pub starts_rise : Rising (starts t)
  unfolding starts
  starts_rise = inserted (all_edges t)
    where
      inserted : (es : List ℕ) → Rising (fold insert (0 ∷ []) es)
      inserted [] = (tt, tt)
      inserted (e ∷ es) = rising_insert e (fold insert (0 ∷ []) es) (inserted es)

  pub zero_starts : Memᴰ 0 (starts t)
  unfolding starts
  zero_starts = inserted (all_edges t)
    where
      inserted : (es : List ℕ) → Memᴰ 0 (fold insert (0 ∷ []) es)
      inserted [] = Memᴰ.head refl
      inserted (e ∷ es) = insert_old e (fold insert (0 ∷ []) es) (inserted es)

  pub edges_start : Each (λ e. Memᴰ e (starts t)) (all_edges t)
  unfolding starts
  edges_start = inserted (all_edges t)
    where
      inserted : (es : List ℕ) → Each (λ e. Memᴰ e (fold insert (0 ∷ []) es)) es
      inserted [] = tt
      inserted (e ∷ es) =
          let l : List ℕ = fold insert (0 ∷ []) es in
          (insert_new e l, each_weaken (λ k. Memᴰ k l) (λ k. Memᴰ k (insert e l)) es (λ k m. insert_old e l m) (inserted es))

-- a class's start, by the class's number: the last start not above the character

count_over : (x : ℕ) (l : List ℕ) → Each (λ s. x < s) l → count (λ s. leb s x) l ≡ 0
count_over x [] a = refl
count_over x (y ∷ l) a =
    let z : count (λ s. leb s x) l ≡ 0 = count_over x l a.1 in
    of_cond (λ k. k + count (λ s. leb s x) l ≡ 0) (leb y x) 1 0
    (λ t. let i : y ≤ x = leb→le y x t in let j : x < y = a.0 in absurd (omega arith)) (λ _. omega arith)

-- c is the last number of the list not above x
pub record LastStart (l : List ℕ) (x c : ℕ) : Type 0 where
  pub low : c ≤ x
  pub most : (s : ℕ) → Memᴰ s l → s ≤ x → s ≤ c

last_start : (y : ℕ) (l : List ℕ) (x : ℕ) → Rising (y ∷ l) → y ≤ x → LastStart (y ∷ l) x (get_or (y ∷ l) (count (λ s. leb s x) l) 0)
last_start y [] x r h = record { low = h; most = λ s m i. ⊎_elim (λ e. omega arith) (λ m'. absurd (Memᴰ.not-nil m')) (Memᴰ.cases_cons m) }
last_start y (z ∷ l) x r h =
    of_cond (λ k. LastStart (y ∷ z ∷ l) x (get_or (y ∷ z ∷ l) (k + count (λ s. leb s x) l) 0)) (leb z x) 1 0
    (λ t. further (leb→le z x t) (last_start z l x r.1 (leb→le z x t))) (λ n. here (nleb→lt z x n))
  where
    n : ℕ
    n = count (λ s. leb s x) l

    further : z ≤ x → LastStart (z ∷ l) x (get_or (z ∷ l) n 0) → LastStart (y ∷ z ∷ l) x (get_or (y ∷ z ∷ l) (1 + n) 0)
    further i p =
        let e : 1 + n ≡ suc n = omega arith in
        let j : y < z = r.0.0 in
        let k : z ≤ get_or (z ∷ l) n 0 = p.most z (Memᴰ.head refl) i in
        rw e (record {
          low = p.low;
          most = λ s m v. ⊎_elim (λ (q : s ≡ y). omega arith) (λ m'. p.most s m' v) (Memᴰ.cases_cons m);
        })

    here : x < z → LastStart (y ∷ z ∷ l) x (get_or (y ∷ z ∷ l) (0 + n) 0)
    here i =
        let a : Each (λ s. x < s) (z ∷ l) = (i, each_weaken (λ s. z < s) (λ s. x < s) l (λ s v. omega arith) r.1.0) in
        let c : n ≡ 0 = count_over x l a.1 in
        let e : 0 + n ≡ 0 = omega arith in
        rw e (record {
          low = h;
          most = λ s m v. ⊎_elim (λ (q : s ≡ y). omega arith)
              (λ m'. let w : x < s = each_at (λ s. x < s) a m' in absurd (omega arith)) (Memᴰ.cases_cons m);
        })

-- the class's number is there
pub class_below : (l : List ℕ) (x : ℕ) → 0 < length l → class_of l x < length l
unfolding class_of
class_below l x h = let z : pred (count (λ s. leb s x) l) < length l = omega (arith, count_length (λ s. leb s x) l) in z

-- and leads to the last start
class_law : (l : List ℕ) (x : ℕ) → Rising l → Memᴰ 0 l → (get_or l 0 0 ≡ 0) × (0 < length l) × LastStart l x (get_or l (class_of l x) 0)
unfolding class_of
class_law [] x r m = absurd (Memᴰ.not-nil m)
class_law (y ∷ l) x r m =
    let e : y ≡ 0 =
    ⊎_elim (λ (q : 0 ≡ y). sym q) (λ m'. let i : y < 0 = each_at (λ z. y < z) r.0 m' in absurd (omega arith)) (Memᴰ.cases_cons m) in
    let i : y ≤ x = omega arith in
    let p : pred (cond (leb y x) 1 0 + count (λ s. leb s x) l) ≡ count (λ s. leb s x) l = rw (of_T (leb y x) (le→leb y x i)) (omega arith) in
    (e, omega arith, rw p (last_start y l x r i))

module _ (t : Table) where
  -- the start of a character's class
  abbrev pub start_of : ℕ → ℕ
  start_of x = get_or (starts t) (class_of (starts t) x) 0

  -- e is a class start
  abbrev Start : ℕ → Type 0
  Start e = Memᴰ e (starts t)

  abbrev law : (x : ℕ) → (get_or (starts t) 0 0 ≡ 0) × (0 < length (starts t)) × LastStart (starts t) x (start_of x)
  law x = class_law (starts t) x (starts_rise t) (zero_starts t)

  pub classed : Classed t
  classed = record {
    some_start = (law 0).1;
    first = (law 0).0;
    rising = λ k h. rising_at (starts t) k (starts_rise t) h;
    class_below = λ c. class_below (starts t) c (law c).1;
  }

  pub class_member : (x : ℕ) → Memᴰ (start_of x) (starts t)
  class_member x = mem_get_d (starts t) (class_of (starts t) x) 0 (class_below (starts t) x (law x).1)

  -- a class start is the start of its own class
  pub start_own : (k : ℕ) → k < length (starts t) → start_of (get_or (starts t) k 0) ≡ get_or (starts t) k 0
  start_own k h =
      let x : ℕ = get_or (starts t) k 0 in
      let a : start_of x ≤ x = (law x).2.low in
      let b : x ≤ start_of x = (law x).2.most x (mem_get_d (starts t) k 0 h) (omega arith) in
      omega arith

  -- a range whose edges are starts cannot tell a character from its class start
  same_within : (x : ℕ) → x < 65536 → (g : Range) → Each Start (edges g) → within (start_of x) g ≡ within x g
  same_within x h g a = ap₂ ◌&&◌
      (test_eq (leb g.lowest c) (leb g.lowest x)
      (λ v. let i : g.lowest ≤ c = leb→le g.lowest c v in le→leb g.lowest x (omega (arith, (law x).2.low)))
      (λ v. le→leb g.lowest c ((law x).2.most g.lowest a.0 (leb→le g.lowest x v))))
      (test_eq (leb c g.highest) (leb x g.highest)
      (λ v. split (leb x g.highest) (λ p. p) (λ n. absurd (beyond (leb→le c g.highest v) (nleb→lt x g.highest n))))
      (λ v. let i : x ≤ g.highest = leb→le x g.highest v in le→leb c g.highest (omega (arith, (law x).2.low))))
    where
      c : ℕ
      c = start_of x

      edge : g.highest < 65535 → Start (suc g.highest)
      edge i = each_at Start a (met_edge g (suc g.highest) (inr (sym (add-one g.highest), omega arith)))

      beyond : c ≤ g.highest → g.highest < x → ⊥
      beyond i j =
          let v : g.highest < 65535 = omega arith in
          let k : suc g.highest ≤ c = (law x).2.most (suc g.highest) (edge v) j in
          omega arith

  same_ranges : (x : ℕ) → x < 65536 → (rs : List Range) → Each Start (flat_map edges rs) → in_ranges rs (start_of x) ≡ in_ranges rs x
  same_ranges x h [] a = refl
  same_ranges x h (g ∷ rs) a =
      ap₂ ◌||◌ (same_within x h g (each_front Start (edges g) (flat_map edges rs) a))
      (same_ranges x h rs (each_back Start (edges g) (flat_map edges rs) a))

  pub class_same : (r i x : ℕ) → r < length t.rules → x < 65536 →
      in_ranges (get_or (rule_at t r).ranges i []) (start_of x) ≡ in_ranges (get_or (rule_at t r).ranges i []) x
  class_same r i x h k =
      let a : Each Start (flat_map (flat_map edges) (rule_at t r).ranges) =
      each_get_d (λ g. Each Start (flat_map (flat_map edges) g.ranges)) t.rules r (every_character [])
      (each_flat_map Start (λ g. flat_map (flat_map edges) g.ranges) t.rules (edges_start t)) h in
      same_ranges x k (get_or (rule_at t r).ranges i [])
      (each_anywhere (λ rs. Each Start (flat_map edges rs)) (rule_at t r).ranges i [] (each_flat_map Start (flat_map edges) (rule_at t r).ranges a) tt)
