-- The array of a loaded table: what stands at a place of each of its parts, and what a number put there changes.
-- A part begins where the parts before it end.
use mathlib.Core.List.{List, [], ◌∷◌, ◌++◌}
use mathlib.Core.Path.{◌≡◌, refl, sym, ap, ◌∙◌}
use Prim.Native.Nat.{ℕ, ◌+◌, ◌*◌, ◌<◌}
use native.Mathlib.Omega.{arith}
use lib.ListN.{length, take, set, length-append, length-set, get_or-append}
use lib.Seq.{get_or-append-add, take-append_seam, set-append_left}
use Rattle.lists.specs.Lists.{Each}
use Rattle.meaning.specs.Table.{Table}
use Rattle.meaning.specs.Block.{at, block_size, blocks_size}
use Rattle.meaning.specs.bridge.Flat.{slot_words, range_words, block_words, high_words, joined_words, loaded_words, slots_from, ranges_from, highs_from, loaded_size, blocks_of}
use Rattle.meaning.proofs.Laws.Rows.{length_rows, set_past, stores, shift, stores_within}

-- the parts have their lengths
pub record Sized (b s r h : List ℕ) : Type 0 where
  pub blocks : length b ≡ blocks_size
  pub slots : length s ≡ 33 * 8
  pub ranges : length r ≡ 33 * 64
  pub highs : length h ≡ 33 * 8

module _ {blocks slots ranges highs : List ℕ} (sized : Sized blocks slots ranges highs) where
  abbrev joined : List ℕ
  joined = joined_words blocks slots ranges highs

  pub joined_length : length joined ≡ loaded_size
  joined_length =
      omega (arith, sized, length-append blocks (slots ++ (ranges ++ highs)), length-append slots (ranges ++ highs), length-append ranges highs)

  pub joined_blocks : blocks_of joined ≡ blocks
  joined_blocks = ap (λ n. take n joined) (sym sized.blocks) ∙ take-append_seam blocks (slots ++ (ranges ++ highs))

  pub at_block : (i : ℕ) → i < blocks_size → at joined i ≡ at blocks i
  at_block i h = get_or-append blocks (slots ++ (ranges ++ highs)) 0 i (omega (arith, sized.blocks))

  pub set_block : (i v : ℕ) → i < blocks_size → set joined i v ≡ joined_words (set blocks i v) slots ranges highs
  set_block i v h = set-append_left blocks (slots ++ (ranges ++ highs)) i v (omega (arith, sized.blocks))

  -- place i of the array, which is place j of a later part
  module _ (i j : ℕ) where
    pub at_slot : i ≡ slots_from + j → j < 33 * 8 → at joined i ≡ at slots j
    at_slot e h =
        let past : i ≡ length blocks + j = omega (arith, sized.blocks) in
        ap (at joined) past ∙ get_or-append-add blocks (slots ++ (ranges ++ highs)) j 0
        ∙ get_or-append slots (ranges ++ highs) 0 j (omega (arith, sized.slots))

    pub at-range : i ≡ ranges_from + j → j < 33 * 64 → at joined i ≡ at ranges j
    at-range e h =
        let past : i ≡ length blocks + (length slots + j) = omega (arith, sized.blocks, sized.slots) in
        ap (at joined) past ∙ get_or-append-add blocks (slots ++ (ranges ++ highs)) (length slots + j) 0
        ∙ get_or-append-add slots (ranges ++ highs) j 0
        ∙ get_or-append ranges highs 0 j (omega (arith, sized.ranges))

    pub at_high : i ≡ highs_from + j → at joined i ≡ at highs j
    at_high e =
        let past : i ≡ length blocks + (length slots + (length ranges + j)) = omega (arith, sized.blocks, sized.slots, sized.ranges) in
        ap (at joined) past ∙ get_or-append-add blocks (slots ++ (ranges ++ highs)) (length slots + (length ranges + j)) 0
        ∙ get_or-append-add slots (ranges ++ highs) (length ranges + j) 0
        ∙ get_or-append-add ranges highs j 0

    pub set_slot : (v : ℕ) → i ≡ slots_from + j → j < 33 * 8 → set joined i v ≡ joined_words blocks (set slots j v) ranges highs
    set_slot v e h =
        let past : i ≡ length blocks + j = omega (arith, sized.blocks) in
        ap (λ k. set joined k v) past ∙ set_past blocks (slots ++ (ranges ++ highs)) j v
        ∙ ap (λ l. blocks ++ l) (set-append_left slots (ranges ++ highs) j v (omega (arith, sized.slots)))

    pub set_range : (v : ℕ) → i ≡ ranges_from + j → j < 33 * 64 → set joined i v ≡ joined_words blocks slots (set ranges j v) highs
    set_range v e h =
        let past : i ≡ length blocks + (length slots + j) = omega (arith, sized.blocks, sized.slots) in
        ap (λ k. set joined k v) past ∙ set_past blocks (slots ++ (ranges ++ highs)) (length slots + j) v
        ∙ ap (λ l. blocks ++ l) (set_past slots (ranges ++ highs) j v ∙ ap (λ l. slots ++ l) (set-append_left ranges highs j v (omega (arith, sized.ranges))))

    pub set_high : (v : ℕ) → i ≡ highs_from + j → set joined i v ≡ joined_words blocks slots ranges (set highs j v)
    set_high v e =
        let past : i ≡ length blocks + (length slots + (length ranges + j)) = omega (arith, sized.blocks, sized.slots, sized.ranges) in
        ap (λ k. set joined k v) past ∙ set_past blocks (slots ++ (ranges ++ highs)) (length slots + (length ranges + j)) v
        ∙ ap (λ l. blocks ++ l) (set_past slots (ranges ++ highs) (length ranges + j) v ∙ ap (λ l. slots ++ l) (set_past ranges highs j v))

-- the parts keep their lengths
module _ {b s r h : List ℕ} (sized : Sized b s r h) (i v : ℕ) where
  pub sized_block : Sized (set b i v) s r h
  sized_block = record { blocks = length-set b i v ∙ sized.blocks; slots = sized.slots; ranges = sized.ranges; highs = sized.highs }

  pub sized_slot : Sized b (set s i v) r h
  sized_slot = record { blocks = sized.blocks; slots = length-set s i v ∙ sized.slots; ranges = sized.ranges; highs = sized.highs }

  pub sized_range : Sized b s (set r i v) h
  sized_range = record { blocks = sized.blocks; slots = sized.slots; ranges = length-set r i v ∙ sized.ranges; highs = sized.highs }

  pub sized_high : Sized b s r (set h i v)
  sized_high = record { blocks = sized.blocks; slots = sized.slots; ranges = sized.ranges; highs = length-set h i v ∙ sized.highs }

-- numbers put into the blocks, and into the upper halves
pub stores_block : {b s r h : List ℕ} → Sized b s r h → (cs : List (ℕ × ℕ)) → Each (λ c. c.0 < blocks_size) cs →
    stores (joined_words b s r h) cs ≡ joined_words (stores b cs) s r h
stores_block {b} {s} {r} {h} sized cs inside = stores_within blocks_size b (s ++ (r ++ h)) cs sized.blocks inside

pub sized_stores : {b s r h : List ℕ} → Sized b s r h → (cs : List (ℕ × ℕ)) → Sized (stores b cs) s r h
sized_stores sized [] = sized
sized_stores sized (c ∷ cs) = sized_stores (sized_block sized c.0 c.1) cs

pub stores_high : {b s r h : List ℕ} → Sized b s r h → (k : ℕ) (cs : List (ℕ × ℕ)) →
    stores (joined_words b s r h) (shift (highs_from + k) cs) ≡ joined_words b s r (stores h (shift k cs))
stores_high {b = b} {s = s} {r = r} {h = h} sized k [] = refl
stores_high {b = b} {s = s} {r = r} {h = h} sized k (c ∷ cs) =
    ap (λ l. stores l (shift (highs_from + k) cs)) (set_high sized (highs_from + k + c.0) (k + c.0) c.1 (omega arith))
    ∙ stores_high {b = b} {s = s} {r = r} {h = set {A = ℕ} h (k + c.0) c.1} (sized_high sized (k + c.0) c.1) k cs

pub joined_same : {b b' s s' r r' h h' : List ℕ} → b ≡ b' → s ≡ s' → r ≡ r' → h ≡ h' → joined_words b s r h ≡ joined_words b' s' r' h'
joined_same p q u v = λ i. joined_words (p i) (q i) (u i) (v i)

-- the same of a table's array
module _ (t : Table) where
  pub table_sized : Sized (block_words t) (slot_words t) (range_words t) (high_words t)
  unfolding block_words slot_words range_words high_words
  table_sized =
      record { blocks = length_rows block_size _ t; slots = length_rows 8 _ t; ranges = length_rows 64 _ t; highs = length_rows 8 _ t }

  pub loaded_length : length (loaded_words t) ≡ loaded_size
  unfolding loaded_words
  loaded_length = joined_length table_sized

  pub loaded_blocks : blocks_of (loaded_words t) ≡ block_words t
  unfolding loaded_words
  loaded_blocks = joined_blocks table_sized

  pub loaded_block : (i : ℕ) → i < blocks_size → at (loaded_words t) i ≡ at (block_words t) i
  unfolding loaded_words
  loaded_block i h = at_block table_sized i h

  module _ (i j : ℕ) where
    pub loaded_slot : i ≡ slots_from + j → j < 33 * 8 → at (loaded_words t) i ≡ at (slot_words t) j
    unfolding loaded_words
    loaded_slot e h = at_slot table_sized i j e h

    pub loaded_range : i ≡ ranges_from + j → j < 33 * 64 → at (loaded_words t) i ≡ at (range_words t) j
    unfolding loaded_words
    loaded_range e h = at-range table_sized i j e h

    pub loaded_high : i ≡ highs_from + j → at (loaded_words t) i ≡ at (high_words t) j
    unfolding loaded_words
    loaded_high e = at_high table_sized i j e
