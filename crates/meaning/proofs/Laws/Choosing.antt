-- How Definition 7's choice is found on the loaded array: range by range, position by position, rule by rule.
-- Each loop's test of what is left is the test of its next element and of what is left then.
use mathlib.Core.Bool.{Bool, true, false, ◌&&◌, ◌||◌, not, or-false}
use mathlib.Core.List.{List, [], ◌∷◌}
use Rattle.std.specs.Prelude.{Option, None, Some}
use mathlib.Core.Path.{◌≡◌, refl, sym, ap, ◌∙◌}
use Prim.Native.Nat.{ℕ, suc, ◌+◌, ◌-◌, ◌*◌, ◌≤◌, ◌<◌}
use native.Mathlib.Nat.{zero-add}
use native.Mathlib.Numerals.{add-one}
use native.Mathlib.Omega.{arith}
use borrow.Author.Tests.{eqb-true, lt-ltb, le-ltb, eq-eqb, ne_eqb}
use lib.Dec.{T, eqb}
use lib.ListN.{length, take, drop, length-take, drop_of_length-le}
use lib.Seq.{drop-cons}
use Rattle.lists.specs.Lists.{tab_from}
use Rattle.lists.proofs.Laws.Tests.{and-true}
use Rattle.lists.proofs.Laws.Sets.{get_d_tab, length_tab, tab_next, tab_end, tab_start}
use Rattle.meaning.specs.Table.{Range, Group, Table, within, in_ranges, every_character, rule_at, Mode, Absent, Single, Paired, mode}
use Rattle.meaning.specs.Block.{at, block_size}
use Rattle.meaning.specs.Value.{fits_word}
use Rattle.meaning.specs.Meaning.{fits, better, best, or_default, choose}
use Rattle.meaning.specs.bridge.Flat.{slots_from, range_at, ranges_at, pattern_at, group_at, table_at}
use Rattle.meaning.proofs.Laws.Prefix.{fits_word_length}

-- the n characters from place a on
pub take_next : (u : List ℕ) (a n m : ℕ) → a < length u → n ≡ suc m → take n (drop a u) ≡ at u a ∷ take m (drop (a + 1) u)
take_next u a n m h e = ap (λ k. take k (drop a u)) e ∙ ap (take (suc m)) (drop-cons u a 0 h) ∙ ap (λ k. at u a ∷ take m (drop k u)) (sym (add-one a))

-- a rule read back
pub rule_at_lem : (loaded : List ℕ) (n : ℕ) (d : Mode) (r : ℕ) → r < n →
    rule_at (table_at loaded n d) r ≡ group_at loaded r
unfolding table_at
rule_at_lem loaded n d r h =
    get_d_tab (group_at loaded) 0 n r (every_character []) h ∙ ap (group_at loaded) (zero-add r)

-- and the mode
pub mode_at_lem : (loaded : List ℕ) (n : ℕ) (d : Mode) → mode (table_at loaded n d) ≡ d
unfolding table_at
mode_at_lem loaded n Absent = refl
mode_at_lem loaded n Single = refl
mode_at_lem loaded n Paired = refl

-- the character lies in a range of the place, from number k on
module _ (loaded : List ℕ) (place c : ℕ) where
  abbrev pub in_from : ℕ → Bool
  in_from k = in_ranges (tab_from k (at loaded (slots_from + place) - k) (range_at loaded place)) c

  pub in_from_start : in_ranges (ranges_at loaded place) c ≡ in_from 0
  unfolding ranges_at
  in_from_start = ap (λ rs. in_ranges rs c) (tab_start (range_at loaded place) (at loaded (slots_from + place)))

  pub in_from_next : (k : ℕ) (b : Bool) → k < at loaded (slots_from + place) → b ≡ within c (range_at loaded place k) → in_from k ≡ b || in_from (k + 1)
  in_from_next k b h e = ap (λ rs. in_ranges rs c) (tab_next (range_at loaded place) (at loaded (slots_from + place)) k h) ∙ ap (λ x. x || in_from (k + 1)) (sym e)

  pub in_from_end : (k : ℕ) → at loaded (slots_from + place) ≤ k → in_from k ≡ false
  in_from_end k h = ap (λ rs. in_ranges rs c) (tab_end (range_at loaded place) (at loaded (slots_from + place)) k h)

  -- a position with one range
  pub one_range : (b : Bool) → at loaded (slots_from + place) ≡ 1 → b ≡ within c (range_at loaded place 0) → b ≡ in_ranges (ranges_at loaded place) c
  one_range b one e =
      sym (in_from_start ∙ in_from_next 0 b (omega arith) e ∙ ap (λ x. b || x) (in_from_end 1 (omega arith)) ∙ or-false b)

-- the characters of the word from number p on lie in the ranges of the positions from p on
module _ (loaded : List ℕ) (place : ℕ) (w : List ℕ) where
  abbrev position_at : ℕ → List Range
  position_at p = ranges_at loaded (place + p)

  abbrev pub fits_from : ℕ → Bool
  fits_from p = fits_word (tab_from p (length w - p) position_at) (drop p w)

  pub fits_from_start : fits_word (tab_from 0 (length w) position_at) w ≡ fits_from 0
  fits_from_start = ap (λ ps. fits_word ps w) (tab_start position_at (length w))

  pub fits_from_next : (p : ℕ) (b : Bool) → p < length w → b ≡ in_ranges (position_at p) (at w p) → fits_from p ≡ b && fits_from (p + 1)
  unfolding fits_word
  fits_from_next p b h e = rw (tab_next position_at (length w) p h, drop-cons w p 0 h, ← add-one p, ← e) refl

  pub fits_from_end : (p : ℕ) → length w ≤ p → fits_from p ≡ true
  unfolding fits_word
  fits_from_end p h = rw (tab_end position_at (length w) p h, drop_of_length-le w h) refl

-- when a group fits

and-false : (b : Bool) → b && false ≡ false
and-false true = refl
and-false false = refl

module _ (g : Group) (rest : List ℕ) where
  pub fits_short : length g.ranges ≡ g.size → length rest < g.size → fits g rest ≡ false
  unfolding fits
  fits_short e h = first (fits_word g.ranges (take g.size rest)) (fits_word_length g.ranges (take g.size rest))
    where
      first : (b : Bool) → (T b → length g.ranges ≡ length (take g.size rest)) → b && (not g.anchored || eqb (length rest) g.size) ≡ false
      first false f = refl
      first true f = let p : length g.ranges ≡ length (take g.size rest) = f tt in absurd (omega (arith, length-take g.size rest))

  pub fits_early : g.anchored ≡ true → g.size < length rest → fits g rest ≡ false
  unfolding fits
  fits_early e h = rw (e, ne_eqb (length rest) g.size (λ p. omega arith)) (and-false (fits_word g.ranges (take g.size rest)))

  pub fits_word_lem : (g.anchored ≡ true → length rest ≡ g.size) → fits g rest ≡ fits_word g.ranges (take g.size rest)
  unfolding fits
  fits_word_lem f = ap (λ b. fits_word g.ranges (take g.size rest) && b) (ends g.anchored f) ∙ and-true (fits_word g.ranges (take g.size rest))
    where
      ends : (a : Bool) → (a ≡ true → length rest ≡ g.size) → not a || eqb (length rest) g.size ≡ true
      ends false h = refl
      ends true h = eq-eqb (length rest) g.size (h refl)

-- the same of a group read back
module _ (loaded : List ℕ) (g : ℕ) (rest : List ℕ) where
  abbrev size : ℕ
  size = at loaded (block_size * g)

  abbrev fitting : Bool
  fitting = fits (group_at loaded g) rest

  pub flat_short : length rest < size → fitting ≡ false
  unfolding group_at pattern_at
  flat_short h = fits_short (group_at loaded g) rest (length_tab (λ p. ranges_at loaded (8 * g + p)) 0 size) h

  pub flat_early : at loaded (block_size * g + 1) ≡ 1 → size < length rest → fitting ≡ false
  unfolding group_at
  flat_early e h = fits_early (group_at loaded g) rest (eq-eqb (at loaded (block_size * g + 1)) 1 e) h

  pub flat_word : (b : Bool) → (at loaded (block_size * g + 1) ≡ 1 → length rest ≡ size) →
      b ≡ fits_word (tab_from 0 size (λ p. ranges_at loaded (8 * g + p))) (take size rest) → b ≡ fitting
  unfolding group_at pattern_at
  flat_word b f e =
      e ∙ sym (fits_word_lem (group_at loaded g) rest (λ e. f (eqb-true (at loaded (block_size * g + 1)) 1 e)))

-- the best among the first rules, kept with its length, or with 9 where there is none
module _ (loaded : List ℕ) (n : ℕ) (d : Mode) (u : List ℕ) where
  abbrev table : Table
  table = table_at loaded n d

  abbrev Kept : Option ℕ → ℕ → Type 0
  Kept None l = l ≡ 9
  Kept (Some x) l = (x < n) × (l ≡ at loaded (block_size * x))

  -- among the rules below r
  abbrev pub KeptOf : ℕ → Option ℕ → ℕ → Type 0
  KeptOf r b l = (b ≡ best table r u) × Kept b l

  rule_size : (r : ℕ) → r < n → (rule_at table r).size ≡ at loaded (block_size * r)
  unfolding group_at
  rule_size r h = ap (λ g. g.size) (rule_at_lem loaded n d r h)

  pub kept_none : KeptOf 0 None 9
  unfolding best
  kept_none = (refl, refl)

  module _ (r : ℕ) (b : Option ℕ) (l : ℕ) (h : r < n) (k : KeptOf r b l) where
    best_next : best table (r + 1) u ≡ better table b r (fits (group_at loaded r) u)
    unfolding best
    best_next = rw (add-one r, rule_at_lem loaded n d r h, k.0) refl

    -- rule r does not fit, or is no shorter than what is kept
    pub kept_skip : (f : Bool) → f ≡ fits (group_at loaded r) u → f ≡ false → KeptOf (r + 1) b l
    kept_skip f p e = (sym (best_next ∙ ap (better table b r) (sym p ∙ e)), k.1)

    pub kept_longer : l ≤ at loaded (block_size * r) → at loaded (block_size * r) ≤ 8 → KeptOf (r + 1) b l
    kept_longer m s = (sym (best_next ∙ go b (fits (group_at loaded r) u) k.1), k.1)
      where
        go : (o : Option ℕ) (f : Bool) → Kept o l → better table o r f ≡ o
        go None false k = refl
        go (Some x) false k = refl
        go None true k = absurd (omega arith)
        go (Some x) true k =
            rw (rule_size r h, rule_size x k.0, le-ltb (at loaded (block_size * r)) (at loaded (block_size * x)) (omega arith)) refl

    -- rule r fits and is shorter
    pub kept_shorter : (f : Bool) → at loaded (block_size * r) < l → f ≡ fits (group_at loaded r) u → f ≡ true → KeptOf (r + 1) (Some r) (at loaded (block_size * r))
    kept_shorter f m p e = (sym (best_next ∙ ap (better table b r) (sym p ∙ e) ∙ go b k.1), (h, refl))
      where
        go : (o : Option ℕ) → Kept o l → better table o r true ≡ Some r
        go None k = refl
        go (Some x) k =
            rw (rule_size r h, rule_size x k.0, lt-ltb (at loaded (block_size * r)) (at loaded (block_size * x)) (omega arith)) refl

  pub kept_choose : (b : Option ℕ) (l : ℕ) → KeptOf n b l → choose table u ≡ or_default d u b
  unfolding choose table_at
  kept_choose b l k = rw (mode_at_lem loaded n d, length_tab (group_at loaded) 0 n, ← k.0) refl
