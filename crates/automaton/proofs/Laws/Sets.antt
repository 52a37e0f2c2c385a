-- Sets of rules kept as numbers: which numbers are equal or empty as sets, and how a set is taken apart and built bit by bit.
-- By recursion on how many rules there are; the lowest bit says whether the first of them is there.
use mathlib.Core.Bool.{Bool, true, false, ◌&&◌, not}
use mathlib.Core.List.{List, [], ◌∷◌, ◌++◌, append_assoc, append-nil}
use mathlib.Core.Bool.{cond}
use mathlib.Core.Path.{ap₂}
use mathlib.Core.Path.{◌≡◌, refl, sym, ap, subst, ◌∙◌}
use Prim.Native.Nat.{ℕ, zero, suc, ◌+◌, ◌-◌, ◌*◌, ◌/◌, ◌%◌, ◌^◌, ◌≤◌, ◌<◌}
use native.Mathlib.Decide.{ℕ_discrete}
use native.Mathlib.Nat.{two-pow-succ, pow-le-pow_right, zero-add, add-zero}
use native.Mathlib.Omega.{arith}
use borrow.Author.Tests.{eq-eqb, ne_eqb, ltb-true}
use lib.Dec.{T, eqb, ltb, eqb→eq}
use lib.ListN.{get_or}
use Rattle.std.specs.Int.{bit_at, w32, trailing_zeros}
use Rattle.std.proofs.lemmas.Nat.Bits.{bit_at_lowest, bit_at-suc, bit_at-trailing_zeros}
use Rattle.lists.specs.Lists.{Each, filter, same_list, tab_from, is_empty}
use Rattle.lists.proofs.Laws.Tests.{eq→eqb, test_eq, of_cond}
use Rattle.lists.proofs.Laws.Each.{each_weaken}
use Rattle.lists.proofs.Laws.Members.{same_list_lem, list_same}
use Rattle.lists.proofs.Laws.Sets.{filter_same, get_d_tab}
use Rattle.meaning.specs.Table.{rule_at, in_ranges, Mode}
use Rattle.meaning.specs.Block.{at, block_size}
use Rattle.meaning.specs.bridge.Flat.{table_at, group_at, pattern_at, ranges_at}
use Rattle.meaning.proofs.Laws.Choosing.{rule_at_lem}
use Rattle.automaton.specs.States.{same_state, inhabited, first_number, longer_rules, accept_of, accept_at_end_of}
use Rattle.automaton.specs.bridge.Build.{members_from, state_of}

-- powers of two

pub half_below : (n a : ℕ) → a < 2 ^ suc n → a / 2 < 2 ^ n
half_below n a h = omega (arith, two-pow-succ n)

pub power_up_to : (m n : ℕ) → n ≤ m → 2 ^ n ≤ 2 ^ m
power_up_to m n h = pow-le-pow_right (omega arith) h

-- the lowest bit, and the others

module _ (i n a : ℕ) where
  pub members_odd : a % 2 ≡ 1 → members_from i (suc n) a ≡ i ∷ members_from (suc i) n (a / 2)
  unfolding members_from
  members_odd e = rw (eq-eqb (a % 2) 1 e)

  pub members_even : (a % 2 ≡ 1 → ⊥) → members_from i (suc n) a ≡ members_from (suc i) n (a / 2)
  unfolding members_from
  members_even h = rw (ne_eqb (a % 2) 1 h)

module _ (i n a : ℕ) where
  pub members_put : members_from i (suc n) (2 * a + 1) ≡ i ∷ members_from (suc i) n a
  members_put =
      let e : (2 * a + 1) / 2 ≡ a = omega arith in
      members_odd i n (2 * a + 1) (omega arith) ∙ ap (λ b. i ∷ members_from (suc i) n b) e

  pub members_pass : members_from i (suc n) (2 * a + 0) ≡ members_from (suc i) n a
  members_pass =
      let e : (2 * a + 0) / 2 ≡ a = omega arith in
      members_even i n (2 * a + 0) (λ e. omega arith) ∙ ap (λ b. members_from (suc i) n b) e

pub members_zero : (i n : ℕ) → members_from i n 0 ≡ []
unfolding members_from
members_zero i zero = refl
members_zero i (suc n) = members_zero (suc i) n

-- where the members lie
pub members_within : (i n a : ℕ) → Each (λ r. (i ≤ r) × (r < i + n)) (members_from i n a)
unfolding members_from
members_within i zero a = tt
members_within i (suc n) a =
    let P : ℕ → Type 0 = λ r. (i ≤ r) × (r < i + suc n) in
    let rest = members_from (suc i) n (a / 2) in
    let later : Each P rest = each_weaken (λ r. (suc i ≤ r) × (r < suc i + n)) P rest (λ r h. (omega arith, omega arith)) (members_within (suc i) n (a / 2)) in
    of_cond (Each P) (eqb (a % 2) 1) (i ∷ rest) rest (λ _. ((omega arith, omega arith), later)) (λ _. later)

pub members_below : (n a : ℕ) → Each (λ r. r < n) (members_from 0 n a)
members_below n a = each_weaken (λ r. (0 ≤ r) × (r < 0 + n)) (λ r. r < n) (members_from 0 n a) (λ r h. omega arith) (members_within 0 n a)

-- equal sets are equal numbers

not_later : (i n a : ℕ) (xs : List ℕ) → i ∷ xs ≡ members_from (suc i) n a → ⊥
not_later i n a xs e =
    let h : suc i ≤ i = (subst (λ ys. Each (λ r. (suc i ≤ r) × (r < suc i + n)) ys) (sym e) (members_within (suc i) n a)).0.0 in omega arith

pub members_same : (i n a b : ℕ) → a < 2 ^ n → b < 2 ^ n → members_from i n a ≡ members_from i n b → a ≡ b
members_same i zero a b h k e = omega arith
members_same i (suc n) a b h k e =
    let rest : members_from (suc i) n (a / 2) ≡ members_from (suc i) n (b / 2) → a / 2 ≡ b / 2 = members_same (suc i) n (a / 2) (b / 2) (half_below n a h) (half_below n b k) in
    elim (ℕ_discrete (a % 2) 1) [
      | yes p ↦
          elim (ℕ_discrete (b % 2) 1) [
            | yes q ↦
                let same : i ∷ members_from (suc i) n (a / 2) ≡ i ∷ members_from (suc i) n (b / 2) = sym (members_odd i n a p) ∙ e ∙ members_odd i n b q in
                let halves : a / 2 ≡ b / 2 = rest (cc) in omega arith
            | no q ↦ absurd (not_later i n (b / 2) (members_from (suc i) n (a / 2)) (sym (members_odd i n a p) ∙ e ∙ members_even i n b q))
          ]
      | no p ↦
          elim (ℕ_discrete (b % 2) 1) [
            | yes q ↦ absurd (not_later i n (a / 2) (members_from (suc i) n (b / 2)) (sym (members_odd i n b q) ∙ sym e ∙ members_even i n a p))
            | no q ↦ let halves : a / 2 ≡ b / 2 = rest (sym (members_even i n a p) ∙ e ∙ members_even i n b q) in omega arith
          ]
    ]

pub members_none : (i n a : ℕ) → a < 2 ^ n → members_from i n a ≡ [] → a ≡ 0
members_none i n a h e = members_same i n a 0 h (omega arith) (e ∙ sym (members_zero i n))

pub same_set : (n d e a b : ℕ) → a < 2 ^ n → b < 2 ^ n → same_state (state_of n d a) (state_of n e b) ≡ (eqb d e && eqb a b)
unfolding same_state
same_set n d e a b h k =
    ap (λ x. eqb d e && x)
    (test_eq (same_list (members_from 0 n a) (members_from 0 n b)) (eqb a b)
    (λ t. eq→eqb a b (members_same 0 n a b h k (same_list_lem (members_from 0 n a) (members_from 0 n b) t)))
    (λ t. subst (λ x. T (same_list (members_from 0 n a) (members_from 0 n x))) (eqb→eq a b t) (list_same (members_from 0 n a))))

pub inhabited_set : (n d a : ℕ) → a < 2 ^ n → inhabited (state_of n d a) ≡ not (eqb a 0)
inhabited_set n d a h =
    ap not
    (test_eq (is_empty (members_from 0 n a)) (eqb a 0)
    (λ t. eq→eqb a 0 (members_none 0 n a h (none (members_from 0 n a) t)))
    (λ t. subst (λ x. T (is_empty (members_from 0 n x))) (sym (eqb→eq a 0 t)) (subst (λ xs. T (is_empty xs)) (sym (members_zero 0 n)) tt)))
  where
    none : (xs : List ℕ) → T (is_empty xs) → xs ≡ []
    none [] t = refl
    none (x ∷ xs) t = absurd t

-- the set of all rules: one less than a power of two

abbrev pub Whole : ℕ → ℕ → Type 0
Whole n a = (a < 2 ^ n) × ((i : ℕ) → members_from i n a ≡ tab_from i n (λ k. k))

pub whole : (n : ℕ) → Whole n (2 ^ n - 1)
unfolding members_from
whole zero = (omega arith, λ i. refl)
whole (suc n) =
    let w = whole n in
    let e : 2 * (2 ^ n - 1) + 1 ≡ 2 ^ suc n - 1 = omega (arith, two-pow-succ n, w.0) in
    (omega (arith, two-pow-succ n, w.0), λ i. ap (members_from i (suc n)) (sym e) ∙ members_put i n (2 ^ n - 1) ∙ ap (λ xs. i ∷ xs) (w.1 (suc i)))

-- a set taken apart: its lowest rule, and the others

lowest_out : (n i a t : ℕ) → t < n → bit_at a t ≡ 1 → ((j : ℕ) → j < t → bit_at a j ≡ 0) → members_from i n a ≡ (i + t) ∷ members_from i n (a - 2 ^ t)
lowest_out zero i a t h o z = absurd (let no : ⊥ = omega arith in no)
lowest_out (suc n) i a zero h o z =
    let odd : a % 2 ≡ 1 = sym (bit_at_lowest a) ∙ o in
    let half : (a - 2 ^ 0) / 2 ≡ a / 2 = omega arith in
    members_odd i n a odd
    ∙ ap₂ ◌∷◌ (sym (add-zero i)) (ap (members_from (suc i) n) (sym half) ∙ sym (members_even i n (a - 2 ^ 0) (λ e. omega arith)))
lowest_out (suc n) i a (suc t) h o z =
    let even : a % 2 ≡ 0 = sym (bit_at_lowest a) ∙ z 0 (omega arith) in
    let half : (a - 2 ^ suc t) / 2 ≡ a / 2 - 2 ^ t = omega (arith, two-pow-succ t) in
    let place : suc i + t ≡ i + suc t = omega arith in
    members_even i n a (λ e. omega arith)
    ∙ lowest_out n (suc i) (a / 2) t (omega arith) (sym (bit_at-suc a t) ∙ o) (λ j l. sym (bit_at-suc a j) ∙ z (suc j) (omega arith))
    ∙ ap₂ ◌∷◌ place (ap (members_from (suc i) n) (sym half) ∙ sym (members_even i n (a - 2 ^ suc t) (λ e. omega (arith, two-pow-succ t))))

pub lowest_member : (a : ℕ) → 0 < a → a < 2 ^ 32 →
    let t = trailing_zeros w32 a in (t < 32) × (2 ^ t ≤ a) × (members_from 0 32 a ≡ t ∷ members_from 0 32 (a - 2 ^ t))
lowest_member a h k =
    let f = bit_at-trailing_zeros w32 a h k in
    let t = trailing_zeros w32 a in
    (f.0, bit_within a t f.1, lowest_out 32 0 a t f.0 f.1 f.2 ∙ ap (λ r. r ∷ members_from 0 32 (a - 2 ^ t)) (zero-add t))
  where
    bit_within : (a t : ℕ) → bit_at a t ≡ 1 → 2 ^ t ≤ a
    bit_within a zero o = let e = sym (bit_at_lowest a) ∙ o in omega arith
    bit_within a (suc t) o = let h = bit_within (a / 2) t (sym (bit_at-suc a t) ∙ o) in omega (arith, two-pow-succ t)

-- more bits than are in use change nothing
pub members_more : (n m i a : ℕ) → n ≤ m → a < 2 ^ n → members_from i m a ≡ members_from i n a
unfolding members_from
members_more zero m i a h l = let e : a ≡ 0 = omega arith in ap (members_from i m) e ∙ members_zero i m
members_more (suc n) zero i a h l = absurd (let no : ⊥ = omega arith in no)
members_more (suc n) (suc m) i a h l = ap (λ xs. cond (eqb (a % 2) 1) (i ∷ xs) xs) (members_more n m (suc i) (a / 2) (omega arith) (half_below n a l))

-- a rule above all others put in
upper_in : (n i a t : ℕ) → t < n → a < 2 ^ t → members_from i n (a + 2 ^ t) ≡ members_from i n a ++ (i + t) ∷ []
upper_in zero i a t h b = absurd (let no : ⊥ = omega arith in no)
upper_in (suc n) i a zero h b =
    let e : a ≡ 0 = omega arith in
    let half : (0 + 2 ^ 0) / 2 ≡ 0 = omega arith in
    rw e
    (members_odd i n (0 + 2 ^ 0) (omega arith) ∙ ap₂ ◌∷◌ (sym (add-zero i)) (ap (members_from (suc i) n) half ∙ members_zero (suc i) n)
    ∙ ap (λ xs. xs ++ (i + 0) ∷ []) (sym (members_zero i (suc n))))
upper_in (suc n) i a (suc t) h b =
    let half : (a + 2 ^ suc t) / 2 ≡ a / 2 + 2 ^ t = omega (arith, two-pow-succ t) in
    let place : suc i + t ≡ i + suc t = omega arith in
    let rest : members_from (suc i) n ((a + 2 ^ suc t) / 2) ≡ members_from (suc i) n (a / 2) ++ (i + suc t) ∷ [] =
    ap (members_from (suc i) n) half ∙ upper_in n (suc i) (a / 2) t (omega arith) (omega (arith, two-pow-succ t)) ∙ ap (λ k. members_from (suc i) n (a / 2) ++ k ∷ []) place in
    elim (ℕ_discrete (a % 2) 1) [
      | yes o ↦ members_odd i n (a + 2 ^ suc t) (omega (arith, two-pow-succ t)) ∙ ap (λ xs. i ∷ xs) rest ∙ ap (λ xs. xs ++ (i + suc t) ∷ []) (sym (members_odd i n a o))
      | no o ↦ members_even i n (a + 2 ^ suc t) (λ e. o (omega (arith, two-pow-succ t))) ∙ rest ∙ ap (λ xs. xs ++ (i + suc t) ∷ []) (sym (members_even i n a o))
    ]

pub member_small : (a t : ℕ) (ms : List ℕ) → members_from 0 32 a ≡ t ∷ ms → t < 32
member_small a t ms e = (subst (Each (λ r. r < 32)) e (members_below 32 a)).0

-- the others are above the first
above : (n i a t : ℕ) (ms : List ℕ) → members_from i n a ≡ t ∷ ms → Each (λ r. t < r) ms
unfolding members_from
above zero i a t ms e = absurd (nil_not e)
  where
    nil_not : [] ≡ t ∷ ms → ⊥
    nil_not e = cc
above (suc n) i a t ms e =
    elim (ℕ_discrete (a % 2) 1) [
      | yes o ↦
          let q = sym (members_odd i n a o) ∙ e in
          let first : i ≡ t = cc in
          let others : members_from (suc i) n (a / 2) ≡ ms = cc in
          subst (Each (λ r. t < r)) others
          (each_weaken (λ r. (suc i ≤ r) × (r < suc i + n)) (λ r. t < r) (members_from (suc i) n (a / 2)) (λ r h. omega (arith, first, h.0)) (members_within (suc i) n (a / 2)))
      | no o ↦ above n (suc i) (a / 2) t ms (sym (members_even i n a o) ∙ e)
    ]

-- the first member that passes a test: one taken out that does, or does not

module _ (p : ℕ → Bool) (t : ℕ) (ms : List ℕ) where
  pub sought_found : p t ≡ true → first_number (filter p (t ∷ ms)) ≡ suc t
  sought_found e = rw e refl

  pub filter_skip : p t ≡ false → filter p (t ∷ ms) ≡ filter p ms
  filter_skip e = rw e refl

  filter_take : p t ≡ true → filter p (t ∷ ms) ≡ t ∷ filter p ms
  filter_take e = rw e refl

-- a set built of those that pass, the lowest first: with those of the rules left that pass it is the whole one filtered

module _ (p : ℕ → Bool) (n set : ℕ) (few : n ≤ 32) where
  abbrev pub Filtered : ℕ → Type 0
  Filtered a = (members_from 0 n a ≡ filter p (members_from 0 n set)) × (a < 2 ^ n)

  pub record Built (left : List ℕ) (kept : ℕ) : Type 0 where
    pub above : Each (λ r. (kept < 2 ^ r) × (r < n)) left
    pub below : kept < 2 ^ n
    pub whole : members_from 0 32 kept ++ filter p left ≡ filter p (members_from 0 32 set)

  pub built_start : set < 2 ^ n → Built (members_from 0 32 set) 0
  built_start h =
      record {
        above = subst (Each (λ r. (0 < 2 ^ r) × (r < n))) (sym (members_more n 32 0 set few h)) (each_weaken (λ r. r < n) (λ r. (0 < 2 ^ r) × (r < n)) (members_from 0 n set) (λ r l. (omega (arith, power_up_to r 0 (omega arith)), l)) (members_below n set));
        below = omega arith;
        whole = ap (λ l. l ++ filter p (members_from 0 32 set)) (members_zero 0 32);
      }

  pub built_end : set < 2 ^ n → (kept : ℕ) → Built [] kept → Filtered kept
  built_end h kept b =
      (sym (members_more n 32 0 kept few b.below) ∙ sym (append-nil (members_from 0 32 kept)) ∙ b.whole ∙ ap (filter p) (members_more n 32 0 set few h), b.below)

  module _ (t : ℕ) (ms : List ℕ) (kept rest : ℕ) (b : Built (t ∷ ms) kept) (e : members_from 0 32 rest ≡ t ∷ ms) where
    pub built_skip : p t ≡ false → Built ms kept
    built_skip f = record { above = b.above.1; below = b.below; whole = ap (λ l. members_from 0 32 kept ++ l) (sym (filter_skip p t ms f)) ∙ b.whole }

    pub built_take : p t ≡ true → Built ms (kept + 2 ^ t)
    built_take f =
        let low : kept < 2 ^ t = b.above.0.0 in
        let small : t < n = b.above.0.1 in
        let sum : kept + 2 ^ t < 2 ^ suc t = omega (arith, two-pow-succ t) in
        record {
          above = higher ms (above 32 0 rest t ms e) b.above.1 sum;
          below = omega (arith, sum, power_up_to n (suc t) (omega arith));
          whole =
              ap (λ l. l ++ filter p ms) (upper_in 32 0 kept t (omega arith) low ∙ ap (λ k. members_from 0 32 kept ++ k ∷ []) (zero-add t))
              ∙ append_assoc (members_from 0 32 kept) (t ∷ []) (filter p ms)
              ∙ ap (λ l. members_from 0 32 kept ++ l) (sym (filter_take p t ms f)) ∙ b.whole;
        }
      where
        higher : (l : List ℕ) → Each (λ r. t < r) l → Each (λ r. (kept < 2 ^ r) × (r < n)) l → kept + 2 ^ t < 2 ^ suc t → Each (λ r. (kept + 2 ^ t < 2 ^ r) × (r < n)) l
        higher [] g k s = tt
        higher (r ∷ l) g k s = ((omega (arith, s, power_up_to r (suc t) g.0), k.0.1), higher l g.1 k.1 s)

-- rules of a flat table: their tests by its arrays

abbrev pub goes_on_lem : List ℕ → ℕ → ℕ → ℕ → Bool
goes_on_lem loaded depth c r = ltb depth (at loaded (block_size * r)) && in_ranges (ranges_at loaded (8 * r + depth)) c

abbrev pub ends_at_lem : List ℕ → ℕ → ℕ → Bool
ends_at_lem loaded depth r = eqb (at loaded (block_size * r)) depth

abbrev pub free_at_lem : List ℕ → ℕ → ℕ → Bool
free_at_lem loaded depth r = ends_at_lem loaded depth r && not (eqb (at loaded (block_size * r + 1)) 1)

module _ (loaded : List ℕ) (n : ℕ) (d : Mode) (set depth : ℕ) where
  -- two tests that agree below n keep the same members
  by_rules : (f g : ℕ → Bool) → ((r : ℕ) → r < n → f r ≡ g r) → filter f (members_from 0 n set) ≡ filter g (members_from 0 n set)
  by_rules f g h = filter_same f g (members_from 0 n set) (each_weaken (λ r. r < n) (λ r. f r ≡ g r) (members_from 0 n set) h (members_below n set))

  pub longer_flat : (c : ℕ) →
      longer_rules (table_at loaded n d) (state_of n depth set) c
      ≡ filter (goes_on_lem loaded depth c) (members_from 0 n set)
  unfolding group_at pattern_at
  longer_flat c =
      by_rules
      (λ r. ltb depth (rule_at (table_at loaded n d) r).size && in_ranges (get_or (rule_at (table_at loaded n d) r).ranges depth []) c)
      (goes_on_lem loaded depth c)
      (λ r h. ap (λ g. ltb depth g.size && in_ranges (get_or g.ranges depth []) c) (rule_at_lem loaded n d r h) ∙ place r (ltb depth (at loaded (block_size * r))) refl)
    where
      place : (r : ℕ) (b : Bool) → ltb depth (at loaded (block_size * r)) ≡ b →
          ltb depth (group_at loaded r).size && in_ranges (get_or (group_at loaded r).ranges depth []) c
          ≡ ltb depth (at loaded (block_size * r)) && in_ranges (ranges_at loaded (8 * r + depth)) c
      place r true e =
          ap (λ rs. ltb depth (at loaded (block_size * r)) && in_ranges rs c)
          (get_d_tab (λ p. ranges_at loaded (8 * r + p)) 0 (at loaded (block_size * r)) depth [] (ltb-true depth (at loaded (block_size * r)) e)
          ∙ ap (λ p. ranges_at loaded (8 * r + p)) (zero-add depth))
      place r false e = rw e

  pub accept_flat : accept_of (table_at loaded n d) (state_of n depth set)
      ≡ first_number (filter (free_at_lem loaded depth) (members_from 0 n set))
  unfolding accept_of group_at
  accept_flat =
      ap first_number
      (by_rules
      (λ r. eqb (rule_at (table_at loaded n d) r).size depth && not (rule_at (table_at loaded n d) r).anchored)
      (free_at_lem loaded depth)
      (λ r h. ap (λ g. eqb g.size depth && not g.anchored) (rule_at_lem loaded n d r h)))

  pub accept_end_flat : accept_at_end_of (table_at loaded n d) (state_of n depth set)
      ≡ first_number (filter (ends_at_lem loaded depth) (members_from 0 n set))
  unfolding accept_at_end_of group_at
  accept_end_flat =
      ap first_number
      (by_rules
      (λ r. eqb (rule_at (table_at loaded n d) r).size depth)
      (ends_at_lem loaded depth)
      (λ r h. ap (λ g. eqb g.size depth) (rule_at_lem loaded n d r h)))
