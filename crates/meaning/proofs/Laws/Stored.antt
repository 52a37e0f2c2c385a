-- What a record changes in its group's row of each flat array: the numbers that the table check stores.
-- Each row is a list filled up; a range or an output character is put behind its last, or changes the last.
use mathlib.Core.Bool.{not, cond}
use mathlib.Core.List.{List, [], ◌∷◌, ◌++◌, map}
use mathlib.Core.Logic.{◌≢◌}
use mathlib.Core.Path.{◌≡◌, refl, sym, ap, ap₂, subst, ◌∙◌}
use Prim.Native.Nat.{ℕ, zero, suc, pred, ◌+◌, ◌-◌, ◌*◌, ◌≤◌, ◌<◌}
use native.Mathlib.Omega.{arith}
use lib.Dec.{T, T_not, eqb, eqb→eq, eqb_refl, lit<}
use lib.IntN.{ℤ, pos}
use lib.ListN.{length, get_or, set, length-append}
use lib.Seq.{append_snoc}
use Rattle.lists.specs.Lists.{Each, flat_map, pad, at_last, last_d}
use Rattle.lists.proofs.Laws.Tests.{either}
use Rattle.meaning.specs.Table.{Range, Output, sum, digit, Group}
use Rattle.meaning.specs.Reader.{add_range, put_at, add_term, change_ranges, change_outputs}
use Rattle.meaning.specs.Block.{word, bit, entry, block, block_size, entry_size}
use Rattle.meaning.specs.bridge.Flat.{high_of}
use Rattle.meaning.proofs.Laws.Shape.{IsSum}
use Rattle.meaning.proofs.Laws.Exact.{one_at}
use Rattle.meaning.proofs.Laws.Reading.{at_last_length}
use Rattle.lists.proofs.Laws.Folds.{flat_map_append}
use Rattle.lists.proofs.Laws.Last.{last_d_snoc, last_at_last}
use Rattle.meaning.proofs.Laws.Rows.{fill, pad_fill, length_fill, fill_snoc, fill_after, fill_at_last, fill_last, map_append, length-map, stores, shift, set_past, stores_past, shift_more, joined, joined_set, pad_rows, pad_pad}

abbrev pub slot_row : Group → List ℕ
slot_row g = map length g.ranges

-- the ranges of a position
abbrev pub ends : List Range → List ℕ
ends rs = flat_map (λ r. r.lowest ∷ r.highest ∷ []) rs

abbrev pub range_row : Group → List ℕ
range_row g = flat_map (λ rs. pad 8 (ends rs)) g.ranges

abbrev pub high_row : Group → List ℕ
high_row g = map high_of g.outputs

-- one more at the end of a padded list

pub pad_snoc : (n : ℕ) (xs : List ℕ) (a : ℕ) → length xs < n → pad n (xs ++ (a ∷ [])) ≡ set (pad n xs) (length xs) a
pad_snoc n xs a h = pad_fill n (xs ++ (a ∷ [])) ∙ fill_snoc 0 n xs a h ∙ ap (λ l. set l (length xs) a) (sym (pad_fill n xs))

length_ends : (rs : List Range) → length (ends rs) ≡ 2 * length rs
length_ends [] = refl
length_ends (r ∷ rs) = let e : length (ends rs) ≡ 2 * length rs = length_ends rs in omega arith

pad_ends : (rs : List Range) (r : Range) → length rs < 4 →
    pad 8 (ends (rs ++ (r ∷ []))) ≡ set (set (pad 8 (ends rs)) (2 * length rs) r.lowest) (2 * length rs + 1) r.highest
pad_ends rs r h =
    let xs = ends rs in
    let l : length xs ≡ 2 * length rs = length_ends rs in
    let l' : length (xs ++ (r.lowest ∷ [])) ≡ 2 * length rs + 1 = length-append xs (r.lowest ∷ []) ∙ ap (λ k. k + 1) l in
    ap (pad 8) (flat_map_append (λ r. r.lowest ∷ r.highest ∷ []) rs (r ∷ []) ∙ sym (append_snoc xs r.lowest (r.highest ∷ [])))
    ∙ pad_snoc 8 (xs ++ (r.lowest ∷ [])) r.highest (omega arith)
    ∙ ap₂ (λ y k. set y k r.highest) (pad_snoc 8 xs r.lowest (omega arith) ∙ ap (λ k. set (pad 8 xs) k r.lowest) l) l'

-- a range

-- the ranges that the position has before
abbrev pub earlier : ℕ → List (List Range) → List Range
earlier p ps = cond (eqb p (length ps)) [] (last_d [] ps)

-- where it is not the next position, it is the last
pub here : (p : ℕ) (ps : List (List Range)) → p ≤ length ps → length ps ≤ suc p → T (not (eqb p (length ps))) → suc p ≡ length ps
here p ps low high t =
    let other : p ≢ length ps = λ e. T_not (eqb p (length ps)) t (subst (λ k. T (eqb p k)) e (eqb_refl p)) in
    omega arith

module _ {B : Type 0} (h : List Range → B) (n p : ℕ) (r : Range) (ps : List (List Range)) (low : p ≤ length ps) (high : length ps ≤ suc p) (inside : p < n) where
  fill_range : fill (h []) n (map h (add_range p r ps)) ≡ set (fill (h []) n (map h ps)) p (h (earlier p ps ++ (r ∷ [])))
  fill_range =
      either (λ b. fill (h []) n (map h (cond b (ps ++ ((r ∷ []) ∷ [])) (at_last (λ rs. rs ++ (r ∷ [])) ps))) ≡ set (fill (h []) n (map h ps)) p (h (cond b [] (last_d [] ps) ++ (r ∷ [])))) (eqb p (length ps))
      (λ t.
      let e : p ≡ length ps = eqb→eq p (length ps) t in
      ap (fill (h []) n) (map_append h ps ((r ∷ []) ∷ []))
      ∙ fill_snoc (h []) n (map h ps) (h (r ∷ [])) (rw length-map (omega arith))
      ∙ ap (λ k. set (fill (h []) n (map h ps)) k (h (r ∷ []))) (length-map h ps ∙ sym e))
      (λ t.
      let e : suc p ≡ length ps = here p ps low high t in
      fill_at_last (h []) h (λ rs. rs ++ (r ∷ [])) [] n ps (omega arith) (omega arith)
      ∙ ap (λ k. set (fill (h []) n (map h ps)) (pred k) (h (last_d [] ps ++ (r ∷ [])))) (sym e))

  fill_earlier : get_or (fill (h []) n (map h ps)) p (h []) ≡ h (earlier p ps)
  fill_earlier =
      either (λ b. get_or (fill (h []) n (map h ps)) p (h []) ≡ h (cond b [] (last_d [] ps))) (eqb p (length ps))
      (λ t. ap (λ k. get_or (fill (h []) n (map h ps)) k (h [])) (eqb→eq p (length ps) t ∙ sym (length-map h ps)) ∙ fill_after (h []) n (map h ps))
      (λ t.
      let e : suc p ≡ length ps = here p ps low high t in
      ap (λ k. get_or (fill (h []) n (map h ps)) (pred k) (h [])) e ∙ fill_last (h []) h [] n ps (omega arith) (omega arith))

-- how many they are, and what the position has after
pub length_earlier : (p : ℕ) (ps : List (List Range)) → length (earlier p ps) ≡ cond (eqb p (length ps)) 0 (length (last_d [] ps))
length_earlier p ps = either (λ b. length (cond b [] (last_d [] ps)) ≡ cond b 0 (length (last_d [] ps))) (eqb p (length ps)) (λ _. refl) (λ _. refl)

pub add_range_last : (p : ℕ) (r : Range) (ps : List (List Range)) → p ≤ length ps → length ps ≤ suc p → last_d [] (add_range p r ps) ≡ earlier p ps ++ (r ∷ [])
add_range_last p r ps low high =
    either (λ b. last_d [] (cond b (ps ++ ((r ∷ []) ∷ [])) (at_last (λ rs. rs ++ (r ∷ [])) ps)) ≡ cond b [] (last_d [] ps) ++ (r ∷ [])) (eqb p (length ps))
    (λ _. last_d_snoc [] ps (r ∷ []))
    (λ t. let e : suc p ≡ length ps = here p ps low high t in last_at_last (λ rs. rs ++ (r ∷ [])) [] ps (omega arith))

pub add_range_length : (p : ℕ) (r : Range) (ps : List (List Range)) → p ≤ length ps → length ps ≤ suc p → length (add_range p r ps) ≡ p + 1
add_range_length p r ps low high =
    either (λ b. length (cond b (ps ++ ((r ∷ []) ∷ [])) (at_last (λ rs. rs ++ (r ∷ [])) ps)) ≡ p + 1) (eqb p (length ps))
    (λ t. length-append ps ((r ∷ []) ∷ []) ∙ ap (λ k. k + 1) (sym (eqb→eq p (length ps) t)))
    (λ t. let e : suc p ≡ length ps = here p ps low high t in at_last_length (λ rs. rs ++ (r ∷ [])) ps ∙ omega arith)

module _ (p : ℕ) (r : Range) (g : Group) (low : p ≤ length g.ranges) (high : length g.ranges ≤ suc p) (inside : p < 8) where
  pub slot_row_range : pad 8 (slot_row (change_ranges (add_range p r) g)) ≡ set (pad 8 (slot_row g)) p (length (earlier p g.ranges) + 1)
  slot_row_range =
      pad_fill 8 (slot_row (change_ranges (add_range p r) g))
      ∙ fill_range length 8 p r g.ranges low high inside
      ∙ ap₂ (λ l v. set l p v) (sym (pad_fill 8 (slot_row g))) (length-append (earlier p g.ranges) (r ∷ []))

  pub range_row_range : length (earlier p g.ranges) < 4 →
      pad 64 (range_row (change_ranges (add_range p r) g)) ≡ set (set (pad 64 (range_row g)) (8 * p + 2 * length (earlier p g.ranges)) r.lowest) (8 * p + (2 * length (earlier p g.ranges) + 1)) r.highest
  range_row_range h =
      pad_rows ends 8 8 (add_range p r g.ranges)
      ∙ ap (joined 8) (fill_range ends 8 p r g.ranges low high inside)
      ∙ joined_set 8 (fill [] 8 (map ends g.ranges)) p (ends (earlier p g.ranges ++ (r ∷ [])))
      ((2 * length (earlier p g.ranges), r.lowest) ∷ (2 * length (earlier p g.ranges) + 1, r.highest) ∷ [])
      (rw length_fill inside) (omega arith, (omega arith, tt))
      (pad_ends (earlier p g.ranges) r h
      ∙ ap (λ l. set (set (pad 8 l) (2 * length (earlier p g.ranges)) r.lowest) (2 * length (earlier p g.ranges) + 1) r.highest)
      (sym (fill_earlier ends 8 p r g.ranges low high inside)))
      ∙ ap (λ l. set (set l (8 * p + 2 * length (earlier p g.ranges)) r.lowest) (8 * p + (2 * length (earlier p g.ranges) + 1)) r.highest) (sym (pad_rows ends 8 8 g.ranges))

-- an output character or a term

-- an output character's row
abbrev pub entry_row : Output → List ℕ
entry_row (sum c ks) = 0 ∷ word c ∷ map word ks
entry_row (digit p shift) = 1 ∷ shift ∷ one_at p

entry_pad : (o : Output) → entry o ≡ pad entry_size (entry_row o)
unfolding entry pad
entry_pad (sum c ks) = refl
entry_pad (digit p shift) = refl

entries_pad : (os : List Output) → flat_map entry os ≡ flat_map (λ o. pad entry_size (entry_row o)) os
entries_pad [] = refl
entries_pad (o ∷ os) = ap₂ ◌++◌ (entry_pad o) (entries_pad os)

-- a block: three numbers, then the output characters
block_parts : (g : Group) → pad block_size (block g) ≡ g.size ∷ bit g.anchored ∷ length g.outputs ∷ joined entry_size (fill [] 8 (map entry_row g.outputs))
unfolding block pad
block_parts g =
    pad_pad block_size (g.size ∷ bit g.anchored ∷ length g.outputs ∷ flat_map entry g.outputs)
    ∙ ap (λ l. g.size ∷ bit g.anchored ∷ length g.outputs ∷ l) (ap (pad (8 * entry_size)) (entries_pad g.outputs) ∙ pad_rows entry_row entry_size 8 g.outputs)

-- one more output character, whose row stores make of an empty one
pub block_added : (o : Output) (cs : List (ℕ × ℕ)) (g : Group) → length g.outputs < 8 → Each (λ c. c.0 < entry_size) cs →
    pad entry_size (entry_row o) ≡ stores (pad entry_size []) cs →
    pad block_size (block (change_outputs (λ os. os ++ (o ∷ [])) g))
    ≡ stores (set (pad block_size (block g)) 2 (length g.outputs + 1)) (shift (3 + entry_size * length g.outputs) cs)
block_added o cs g h inside e =
    let os = g.outputs in
    let n = length os in
    let old = fill [] 8 (map entry_row os) in
    let head = g.size ∷ bit g.anchored ∷ (n + 1) ∷ [] in
    block_parts (change_outputs (λ os. os ++ (o ∷ [])) g)
    ∙ ap₂ (λ n l. g.size ∷ bit g.anchored ∷ n ∷ l) (length-append os (o ∷ []))
    (ap (λ l. joined entry_size (fill [] 8 l)) (map_append entry_row os (o ∷ []))
    ∙ ap (joined entry_size) (fill_snoc [] 8 (map entry_row os) (entry_row o) (rw length-map h) ∙ ap (λ k. set old k (entry_row o)) (length-map entry_row os))
    ∙ joined_set entry_size old n (entry_row o) cs (rw length_fill h) inside
    (e ∙ ap (λ l. stores (pad entry_size l) cs) (sym (ap (λ k. get_or old k []) (sym (length-map entry_row os)) ∙ fill_after [] 8 (map entry_row os)))))
    ∙ sym (stores_past head (joined entry_size old) (shift (entry_size * n) cs))
    ∙ ap (stores (head ++ joined entry_size old)) (shift_more 3 (entry_size * n) cs)
    ∙ ap (λ l. stores (set l 2 (n + 1)) (shift (3 + entry_size * n) cs)) (sym (block_parts g))

pub block_output_lem : (z : ℤ) (g : Group) → length g.outputs < 8 →
    pad block_size (block (change_outputs (λ os. os ++ (sum z [] ∷ [])) g))
    ≡ set (set (pad block_size (block g)) 2 (length g.outputs + 1)) (4 + entry_size * length g.outputs) (word z)
unfolding pad
block_output_lem z g h =
    let n = length g.outputs in
    let place : 3 + entry_size * n + 1 ≡ 4 + entry_size * n = omega arith in
    block_added (sum z []) ((1, word z) ∷ []) g h (lit< tt, tt) refl
    ∙ ap (λ i. set (set (pad block_size (block g)) 2 (n + 1)) i (word z)) place

pad_one : (n p : ℕ) → p < n → pad n (one_at p) ≡ set (pad n []) p 1
unfolding pad
pad_one zero p h = absurd (omega arith)
pad_one (suc n) zero h = refl
pad_one (suc n) (suc p) h = ap (λ l. 0 ∷ l) (pad_one n p (omega arith))

pub block_digit : (p shift : ℕ) (g : Group) → p < 8 → length g.outputs < 8 →
    let n = length g.outputs in
    pad block_size (block (change_outputs (λ os. os ++ (digit p shift ∷ [])) g))
    ≡ set (set (set (set (pad block_size (block g)) 2 (n + 1)) (3 + entry_size * n) 1) (4 + entry_size * n) shift) (5 + entry_size * n + p) 1
unfolding pad
block_digit p shift g inside h =
    let n = length g.outputs in
    let first : 3 + entry_size * n + 0 ≡ 3 + entry_size * n = omega arith in
    let second : 3 + entry_size * n + 1 ≡ 4 + entry_size * n = omega arith in
    let third : 3 + entry_size * n + suc (suc p) ≡ 5 + entry_size * n + p = omega arith in
    block_added (digit p shift) ((0, 1) ∷ (1, shift) ∷ (suc (suc p), 1) ∷ []) g h (lit< tt, (lit< tt, (omega arith, tt)))
    (ap (λ l. 1 ∷ shift ∷ l) (pad_one (entry_size - 2) p inside))
    ∙ rw (first, second, third)

-- a term's coefficient, at its position
pad_place : (n : ℕ) (ks : List ℤ) (p : ℕ) (z : ℤ) → p < n → pad n (map word (put_at p z ks)) ≡ set (pad n (map word ks)) p (word z)
unfolding pad word
pad_place zero ks p z k = absurd (omega arith)
pad_place (suc n) [] zero z k = refl
pad_place (suc n) (c ∷ ks) zero z k = refl
pad_place (suc n) [] (suc p) z k = ap (λ l. 0 ∷ l) (pad_place n [] p z (omega arith))
pad_place (suc n) (c ∷ ks) (suc p) z k = ap (λ l. word c ∷ l) (pad_place n ks p z (omega arith))

entry_term : (p : ℕ) (z : ℤ) (o : Output) → p < 8 → IsSum o → pad entry_size (entry_row (add_term p z o)) ≡ set (pad entry_size (entry_row o)) (suc (suc p)) (word z)
unfolding pad
entry_term p z (sum c ks) h s = ap (λ l. 0 ∷ word c ∷ l) (pad_place (entry_size - 2) ks p z (omega arith))
entry_term p z (digit q shift) h s = absurd s

pub block_term : (p : ℕ) (z : ℤ) (g : Group) → p < 8 → 1 ≤ length g.outputs → length g.outputs ≤ 8 → IsSum (last_d (sum (pos 0) []) g.outputs) →
    pad block_size (block (change_outputs (at_last (add_term p z)) g)) ≡ set (pad block_size (block g)) (5 + entry_size * pred (length g.outputs) + p) (word z)
block_term p z g h k l s =
    let os = g.outputs in
    let o = length os in
    let last = last_d (sum (pos 0) []) os in
    let rest = joined entry_size (fill [] 8 (map entry_row os)) in
    block_parts (change_outputs (at_last (add_term p z)) g)
    ∙ ap₂ (λ n l. g.size ∷ bit g.anchored ∷ n ∷ l) (at_last_length (add_term p z) os)
    (ap (joined entry_size) (fill_at_last [] entry_row (add_term p z) (sum (pos 0) []) 8 os k l)
    ∙ joined_set entry_size (fill [] 8 (map entry_row os)) (pred o) (entry_row (add_term p z last)) ((suc (suc p), word z) ∷ []) (rw length_fill (omega arith)) (omega arith, tt)
    (entry_term p z last h s ∙ ap (λ l. set (pad entry_size l) (suc (suc p)) (word z)) (sym (fill_last [] entry_row (sum (pos 0) []) 8 os k l))))
    ∙ sym (set_past (g.size ∷ bit g.anchored ∷ o ∷ []) rest (entry_size * pred o + suc (suc p)) (word z))
    ∙ ap₂ (λ l i. set l i (word z)) (sym (block_parts g)) same
  where
    same : 3 + (entry_size * pred (length g.outputs) + suc (suc p)) ≡ 5 + entry_size * pred (length g.outputs) + p
    same = omega arith

pub high_row_added : (o : Output) (g : Group) → length g.outputs < 8 →
    pad 8 (high_row (change_outputs (λ os. os ++ (o ∷ [])) g)) ≡ set (pad 8 (high_row g)) (length g.outputs) (high_of o)
high_row_added o g h =
    ap (pad 8) (map_append high_of g.outputs (o ∷ []))
    ∙ pad_snoc 8 (high_row g) (high_of o) (rw length-map h)
    ∙ ap (λ k. set (pad 8 (high_row g)) k (high_of o)) (length-map high_of g.outputs)

-- a digit has no upper half
pad_none_more : (n : ℕ) (xs : List ℕ) → pad n (xs ++ (0 ∷ [])) ≡ pad n xs
unfolding pad
pad_none_more zero xs = refl
pad_none_more (suc n) [] = refl
pad_none_more (suc n) (x ∷ xs) = ap (λ l. x ∷ l) (pad_none_more n xs)

pub high_row_digit : (p shift : ℕ) (g : Group) → pad 8 (high_row (change_outputs (λ os. os ++ (digit p shift ∷ [])) g)) ≡ pad 8 (high_row g)
high_row_digit p shift g = ap (pad 8) (map_append high_of g.outputs (digit p shift ∷ [])) ∙ pad_none_more 8 (high_row g)

pub high_row_term : (p : ℕ) (z : ℤ) (os : List Output) → map high_of (at_last (add_term p z) os) ≡ map high_of os
high_row_term p z [] = refl
high_row_term p z (sum c ks ∷ []) = refl
high_row_term p z (digit q shift ∷ []) = refl
high_row_term p z (o ∷ (q ∷ os)) = ap (λ l. high_of o ∷ l) (high_row_term p z (q ∷ os))
