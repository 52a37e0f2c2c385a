-- Definition 7 looks at no output character, so a table read back of its loaded array, which has none, converts as the table does.
-- By recursion on the rules and on the input; what is read back is found element by element.
use mathlib.Core.Bool.{Bool, true, false, cond}
use mathlib.Core.List.{List, [], ◌∷◌, map}
use Rattle.std.specs.Prelude.{Option, None, Some}
use mathlib.Core.Path.{◌≡◌, refl, sym, ap, ap₂, subst, ◌∙◌}
use Prim.Native.Nat.{ℕ, zero, suc, pred, ◌+◌, ◌*◌, ◌≤◌, ◌<◌}
use native.Mathlib.Nat.{add-zero}
use native.Mathlib.Omega.{arith}
use lib.Dec.{eqb, lit<}
use lib.ListN.{length, get_or, take, get_or-map, length-map}
use Rattle.lists.specs.Lists.{Each, flat_map, tab_from, pad, or_else, optional}
use Rattle.lists.proofs.Laws.Each.{each_front, each_back, each_get_d}
use Rattle.lists.proofs.Laws.Parts.{length_pad, get_d_pad, get_d_rows}
use Rattle.lists.proofs.Laws.Sets.{tab_is}
use Rattle.meaning.specs.Table.{Range, Group, Table, every_character, rule_at, group, default_number, Mark, unmarked, marked, mode_of, mode, pair_group, pair_number}
use Rattle.meaning.specs.Block.{at, bit, block, block_size}
use Rattle.meaning.specs.Meaning.{fits, better, best, or_default, choose, chosen, convert_by, convert_from, convert}
use Rattle.meaning.specs.bridge.Flat.{rows, slot_words, range_words, block_words, loaded_words, slots_from, ranges_from, range_at, ranges_at, pattern_at, group_at, table_at, flat_conversion, default_by, mark_by}
use Rattle.meaning.proofs.Laws.Shape.{ShapedGroup, ShapedDefault, Shaped}
use Rattle.meaning.proofs.Laws.Exact.{block_size_lem, block_anchored}
use Rattle.meaning.proofs.Laws.Narrow.{NarrowGroup, Narrow}
use Rattle.meaning.proofs.Laws.Rows.{rows_at, rows_of, rows_of_rule, rows_of_default}
use Rattle.meaning.proofs.Laws.Loaded.{loaded_block, loaded_slot, loaded_range}

-- a group without its output characters, and a table of such groups

abbrev pub bare_group : Group → Group
bare_group g = record { size = g.size; anchored = g.anchored; ranges = g.ranges; outputs = [] }

abbrev pub bare_default : Option Group → Option Group
bare_default None = None
bare_default (Some g) = Some (bare_group g)

abbrev pub bare : Table → Table
bare t = record { rules = map bare_group t.rules; default = bare_default t.default; mark = mark_by (mode t) }

module _ (t : Table) where
  pub rule_at_bare : (r : ℕ) → rule_at (bare t) r ≡ bare_group (rule_at t r)
  rule_at_bare r = get_or-map bare_group t.rules r (every_character [])

  pub group_bare : (n : ℕ) → (group (bare t) n).size ≡ (group t n).size
  unfolding group
  group_bare n = of (eqb n pair_number) (eqb n default_number)
    where
      of_default : (d : Option Group) → (or_else (every_character []) (bare_default d)).size ≡ (or_else (every_character []) d).size
      of_default None = refl
      of_default (Some g) = refl

      of : (p b : Bool) → (cond p pair_group (cond b (or_else (every_character []) (bare t).default) (rule_at (bare t) n))).size
          ≡ (cond p pair_group (cond b (or_else (every_character []) t.default) (rule_at t n))).size
      of true b = refl
      of false true = of_default t.default
      of false false = ap (λ g. g.size) (rule_at_bare n)

  pub mode_bare : mode (bare t) ≡ mode t
  mode_bare = of t.default t.mark
    where
      of : (d : Option Group) (k : Mark) → mode_of (bare_default d) (mark_by (mode_of d k)) ≡ mode_of d k
      of None k = refl
      of (Some g) unmarked = refl
      of (Some g) marked = refl

  better_bare : (o : Option ℕ) (r : ℕ) (b : Bool) → better (bare t) o r b ≡ better t o r b
  better_bare None r false = refl
  better_bare (Some x) r false = refl
  better_bare None r true = refl
  better_bare (Some x) r true = rw (rule_at_bare r, rule_at_bare x)

  best_bare : (n : ℕ) (u : List ℕ) → best (bare t) n u ≡ best t n u
  unfolding best fits
  best_bare zero u = refl
  best_bare (suc r) u = rw (best_bare r u, rule_at_bare r) (better_bare (best t r u) r (fits (rule_at t r) u))

  pub choose_bare : (u : List ℕ) → choose (bare t) u ≡ choose t u
  unfolding choose
  choose_bare u =
      ap (λ m. or_default m u (best (bare t) (length (bare t).rules) u)) mode_bare
      ∙ ap (λ n. or_default (mode t) u (best (bare t) n u)) (length-map t.rules bare_group)
      ∙ ap (or_default (mode t) u) (best_bare (length t.rules) u)

  convert_from_bare : (skip : ℕ) (u : List ℕ) → convert_from (bare t) skip u ≡ convert_from t skip u
  unfolding convert_from
  convert_from_bare skip [] = refl
  convert_from_bare (suc skip) (c ∷ u) = convert_from_bare skip u
  convert_from_bare zero (c ∷ u) =
      ap (λ o. convert_by (bare t) o (c ∷ u) (λ skip. convert_from (bare t) skip u)) (choose_bare (c ∷ u)) ∙ of (choose t (c ∷ u)) (λ skip. convert_from_bare skip u)
    where
      of : (o : Option ℕ) → ((skip : ℕ) → convert_from (bare t) skip u ≡ convert_from t skip u) →
          convert_by (bare t) o (c ∷ u) (λ skip. convert_from (bare t) skip u) ≡ convert_by t o (c ∷ u) (λ skip. convert_from t skip u)
      of None onward = refl
      of (Some n) onward =
          ap (λ k. chosen (record { group = n; word = take k (c ∷ u) }) (convert_from (bare t) (pred k) u)) (group_bare n)
          ∙ ap (chosen (record { group = n; word = take (group t n).size (c ∷ u) })) (onward (pred (group t n).size))

  pub convert_bare : (u : List ℕ) → convert (bare t) u ≡ convert t u
  unfolding convert
  convert_bare u = convert_from_bare 0 u

-- the arrays read back

abbrev pair : Range → List ℕ
pair r = r.lowest ∷ r.highest ∷ []

-- group g stands in row k
abbrev pub Row : Table → ℕ → Group → Type 0
Row t k g = (n : ℕ) (f : Group → List ℕ) (j : ℕ) → j < n → at (rows n f t) (n * k + j) ≡ at (f g) j

module _ (t : Table) (k : ℕ) (inside : k < 33) (g : Group) (row : Row t k g) where
  pub block_flat : (i : ℕ) → i < block_size → at (loaded_words t) (block_size * k + i) ≡ at (block g) i
  unfolding block_words
  block_flat i h = loaded_block t (block_size * k + i) (omega arith) ∙ row block_size block i h

  pub size_flat : at (loaded_words t) (block_size * k) ≡ g.size
  size_flat = ap (at (loaded_words t)) (sym (add-zero (block_size * k))) ∙ block_flat 0 (lit< tt) ∙ block_size_lem g

  anchored_flat : eqb (at (loaded_words t) (block_size * k + 1)) 1 ≡ g.anchored
  anchored_flat = ap (λ w. eqb w 1) (block_flat 1 (lit< tt) ∙ block_anchored g) ∙ of g.anchored
    where
      of : (a : Bool) → eqb (bit a) 1 ≡ a
      of true = refl
      of false = refl

  module _ (places : length g.ranges ≡ g.size) (small : g.size ≤ 8) (few : Each (λ rs. length rs ≤ 4) g.ranges) where
    module _ (p : ℕ) (h : p < g.size) where
      abbrev position : List Range
      position = get_or g.ranges p []

      position_few : length position ≤ 4
      position_few = each_get_d (λ rs. length rs ≤ 4) g.ranges p [] few (omega arith)

      slot_flat : at (loaded_words t) (slots_from + (8 * k + p)) ≡ length position
      unfolding slot_words
      slot_flat =
          loaded_slot t (slots_from + (8 * k + p)) (8 * k + p) (omega arith) (omega arith)
          ∙ row 8 (λ g. map length g.ranges) p (omega arith)
          ∙ get_or-map length g.ranges p []

      range_flat : (i j q : ℕ) → i ≡ ranges_from + 8 * (8 * k + p) + 2 * j + q → j < length position → q < 2 →
          at (loaded_words t) i ≡ at (pair (get_or position j (record { lowest = 0; highest = 0 }))) q
      unfolding range_words
      range_flat i j q e l m =
          let four : length position ≤ 4 = position_few in
          loaded_range t i (64 * k + (8 * p + (2 * j + q))) (omega arith) (omega arith)
          ∙ row 64 (λ g. flat_map (λ rs. pad 8 (flat_map pair rs)) g.ranges) (8 * p + (2 * j + q)) (omega arith)
          ∙ get_d_rows (λ rs. pad 8 (flat_map pair rs)) 8 (λ rs. length_pad 8 (flat_map pair rs)) g.ranges p (2 * j + q) [] (omega arith) (omega arith)
          ∙ get_d_pad 8 (flat_map pair position) (2 * j + q) (omega arith)
          ∙ get_d_rows pair 2 (λ r. refl) position j q (record { lowest = 0; highest = 0 }) l m

      position_flat : ranges_at (loaded_words t) (8 * k + p) ≡ position
      unfolding ranges_at
      position_flat =
          tab_is (range_at (loaded_words t) (8 * k + p)) (at (loaded_words t) (slots_from + (8 * k + p))) position (record { lowest = 0; highest = 0 }) (sym slot_flat)
          (λ j i.
          let l : j < length position = subst (λ m. j < m) slot_flat i in
          ap₂ (λ x y. record { lowest = x; highest = y }) (range_flat _ j 0 (omega arith) l (lit< tt)) (range_flat _ j 1 (omega arith) l (lit< tt)))

    group_flat : group_at (loaded_words t) k ≡ bare_group g
    unfolding group_at pattern_at
    group_flat =
        rw (size_flat, anchored_flat)
        (ap (λ ps. record { size = g.size; anchored = g.anchored; ranges = ps; outputs = [] })
        (tab_is (λ p. ranges_at (loaded_words t) (8 * k + p)) g.size g.ranges [] places position_flat))

pub table_flat : (t : Table) → Shaped t → Narrow t → table_at (loaded_words t) (length t.rules) (mode t) ≡ bare t
unfolding table_at
table_flat t s w = ap₂ (λ rs d. record { rules = rs; default = d; mark = mark_by (mode t) }) rules (of t.default t.mark refl s.default (each_back NarrowGroup t.rules (optional t.default) w))
  where
    rules : tab_from 0 (length t.rules) (group_at (loaded_words t)) ≡ map bare_group t.rules
    rules =
        tab_is (group_at (loaded_words t)) (length t.rules) (map bare_group t.rules) (every_character []) (length-map t.rules bare_group)
        (λ r h.
        let few : length t.rules ≤ 32 = s.few_rules in
        let g = rule_at t r in
        let sg = each_get_d ShapedGroup t.rules r (every_character []) s.rules h in
        let ng = each_get_d NarrowGroup t.rules r (every_character []) (each_front NarrowGroup t.rules (optional t.default) w) h in
        group_flat t r (omega arith) g (λ n f j i. rows_at n f t r j (omega arith) i ∙ ap (λ l. at l j) (rows_of_rule f t.rules t.default r (every_character []) few h)) sg.places sg.small ng.few
        ∙ sym (rule_at_bare t r))

    there : (g : Group) (k : Mark) (h : Group) → default_by (mode_of (Some g) k) h ≡ Some h
    there g unmarked h = refl
    there g marked h = refl

    of : (d : Option Group) (k : Mark) → t.default ≡ d → Each ShapedDefault (optional d) → Each NarrowGroup (optional d) →
        default_by (mode_of d k) (group_at (loaded_words t) default_number) ≡ bare_default d
    of None k e a b = refl
    of (Some g) k e a b =
        let one : g.size ≡ 1 = a.0.size in
        there g k (group_at (loaded_words t) default_number)
        ∙ ap Some (group_flat t 32 (lit< tt) g (λ n f j i. rows_at n f t 32 j (lit< tt) i ∙ ap (λ d. at (get_or (rows_of f t.rules d) 32 []) j) e ∙ ap (λ l. at l j) (rows_of_default f t.rules g))
        (ap length a.0.ranges ∙ sym one) (omega arith) b.0.few)

-- by the array of a table its conversion
pub conversion_flat : (t : Table) (u : List ℕ) → Shaped t → Narrow t →
    flat_conversion (loaded_words t) (length t.rules) (mode t) u ≡ convert t u
conversion_flat t u s w = ap (λ b. convert b u) (table_flat t s w) ∙ convert_bare t u
