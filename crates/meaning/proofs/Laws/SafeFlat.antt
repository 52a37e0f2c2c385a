-- Refusal 7's test on the array of a table is the table's own test.
-- What is read back of the array is the table, its coefficients filled up with zeros, which change no value; a digit is known by its sort.
use mathlib.Core.Bool.{Bool, true, false, ◌&&◌}
use mathlib.Core.List.{List, [], ◌∷◌, ◌++◌, map}
use Rattle.std.specs.Prelude.{Option, None, Some}
use mathlib.Core.Path.{◌≡◌, refl, sym, ap, ap₂, subst, ◌∙◌}
use Prim.Native.Nat.{ℕ, zero, suc, ◌+◌, ◌*◌, ◌/◌, ◌≤◌, ◌<◌, ◌-◌}
use native.Mathlib.Omega.{arith}
use lib.Dec.{T, eqb, lit<}
use lib.IntN.{ℤ, pos, ◌+ℤ◌, zero-*ℤ}
use lib.ListN.{length, get_or, take, drop, length-map, length-drop, get_or-map}
use lib.Seq.{length-take-le, get_or-take, get_or-drop, ext_get_or}
use Rattle.lists.specs.Lists.{all, Each, flat_map, is_some, or_else, optional}
use Rattle.lists.specs.Decide.{for_below, implies}
use Rattle.lists.proofs.Laws.Tests.{test_eq, below, to_below, and-true, and_assoc}
use Rattle.lists.proofs.Laws.Each.{each_front, each_back, each_get_d, all_each, each_all}
use Rattle.lists.proofs.Laws.Parts.{get_d_pad, get_d_rows}
use Rattle.meaning.specs.Table.{Range, Output, sum, digit, Group, Table, every_character, rule_at, Mark, unmarked, marked, mode_of, mode}
use Rattle.meaning.specs.Reader.{signed}
use Rattle.meaning.specs.Block.{at, word, bit, entry, block, block_size, entry_size}
use Rattle.meaning.specs.Value.{dot, value, extreme, safe_output, safe}
use Rattle.meaning.specs.bridge.Flat.{bits, high_of, high_words, loaded_words, highs_from, pattern_at, group_at, table_at, sum_at, safe_output_at, safe_group_at, safe_at, default_by}
use Rattle.meaning.proofs.Laws.Shape.{Within, ShapedGroup, ShapedDefault, Shaped}
use Rattle.meaning.proofs.Laws.Groups.{mode_present}
use Rattle.meaning.proofs.Laws.Exact.{length_entry}
use Rattle.meaning.proofs.Laws.Narrow.{Bits, NarrowOutput, NarrowGroup, Narrow}
use Rattle.meaning.proofs.Laws.Rows.{fill, length_fill, rows_of, rows_at, rows_of_rule, rows_of_default}
use Rattle.meaning.proofs.Laws.Loaded.{loaded_length, loaded_high}
use Rattle.meaning.proofs.Laws.Numbers.{word_signed, halves_signed}
use Rattle.meaning.proofs.Laws.Choosing.{rule_at_lem}
use Rattle.meaning.proofs.Laws.Bare.{bare_group, bare_default, rule_at_bare, Row, block_flat, size_flat, table_flat}

-- coefficients filled up with zeros

abbrev zeros : ℕ → List ℤ → List ℤ
zeros n ks = fill (pos 0) n ks

dot_zeros : (n : ℕ) (w : List ℕ) → dot (zeros n []) w ≡ pos 0
unfolding dot
dot_zeros zero w = refl
dot_zeros (suc n) [] = refl
dot_zeros (suc n) (c ∷ w) = ap₂ (λ x y. x +ℤ y) (zero-*ℤ (pos c)) (dot_zeros n w)

dot_filled : (sign : Bool) (n : ℕ) (ks : List ℤ) (ps : List (List Range)) → length ks ≤ n →
    dot (zeros n ks) (extreme sign (zeros n ks) ps) ≡ dot ks (extreme sign ks ps)
unfolding dot extreme
dot_filled sign n [] ps h = dot_zeros n (extreme sign (zeros n []) ps)
dot_filled sign zero (a ∷ ks) ps h = absurd (omega arith)
dot_filled sign (suc n) (a ∷ ks) [] h = refl
dot_filled sign (suc n) (a ∷ ks) (rs ∷ ps) h = rw (dot_filled sign n ks ps (omega arith)) refl

widen_safe : (ps : List (List Range)) (n : ℕ) (c : ℤ) (ks : List ℤ) → length ks ≤ n → safe_output ps (sum c (zeros n ks)) ≡ safe_output ps (sum c ks)
unfolding safe_output value
widen_safe ps n c ks h = rw (dot_filled true n ks ps h, dot_filled false n ks ps h) refl

-- numbers of 16 and of 32 bits, read back

signed_word : (z : ℤ) → Bits 16 z → signed 16 (word z) ≡ z
signed_word z b = ap (λ x. signed 16 (word x)) b.same ∙ ap (signed 16) (word_signed b.number b.below) ∙ sym b.same

signed_constant : (c : ℤ) → Bits 32 c → signed 32 (word c + 65536 * (bits c / 65536)) ≡ c
signed_constant c b = ap (signed 32) (ap (λ x. word x + 65536 * (bits x / 65536)) b.same ∙ halves_signed b.number b.below) ∙ sym b.same

signed_words : (ks : List ℤ) (n i : ℕ) → Each (Bits 16) ks → i < n → signed 16 (at (map word ks) i) ≡ get_or (zeros n ks) i (pos 0)
unfolding signed
signed_words ks zero i b h = absurd (omega arith)
signed_words [] (suc n) zero b h = refl
signed_words [] (suc n) (suc i) b h = signed_words [] n i tt (omega arith)
signed_words (a ∷ ks) (suc n) zero b h = signed_word a b.0
signed_words (a ∷ ks) (suc n) (suc i) b h = signed_words ks n i b.1 (omega arith)

read_sum : (n base low high : ℕ) (loaded : List ℕ) (c : ℤ) (ks : List ℤ) → NarrowOutput (sum c ks) → low ≡ word c → high ≡ bits c / 65536 →
    ((i : ℕ) → i < n → at loaded (base + i) ≡ at (map word ks) i) → base + n ≤ length loaded →
    sum (signed 32 (low + 65536 * high)) (map (signed 16) (take n (drop base loaded))) ≡ sum c (zeros n ks)
unfolding signed
read_sum n base low high loaded c ks b d e f fit =
    let row = drop base loaded in
    let room : n ≤ length row = rw length-drop (omega arith) in
    let long : length (map (signed 16) (take n row)) ≡ n = length-map (take n row) (signed 16) ∙ length-take-le n row room in
    ap₂ sum (ap₂ (λ x y. signed 32 (x + 65536 * y)) d e ∙ signed_constant c b.0)
    (ext_get_or (pos 0) (map (signed 16) (take n row)) (zeros n ks) (long ∙ sym (length_fill (pos 0) n ks))
    (λ i h.
    let l : i < n = subst (λ m. i < m) long h in
    get_or-map (signed 16) (take n row) i 0
    ∙ ap (signed 16) (get_or-take n row i 0 l ∙ get_or-drop base loaded i 0 ∙ f i l)
    ∙ signed_words ks n i b.1 l))

-- the test of what is read back of an output character's numbers: its sort, its constant's two halves, and its coefficients
read_safe : (ps : List (List Range)) (n base sort low high : ℕ) (loaded : List ℕ) (o : Output) → NarrowOutput o → n ≤ 8 → Within n o →
    sort ≡ at (entry o) 0 → low ≡ at (entry o) 1 → high ≡ high_of o →
    ((i : ℕ) → i < n → at loaded (base + i) ≡ at (entry o) (suc (suc i))) → base + n ≤ length loaded →
    implies (eqb sort 0) (safe_output ps (sum (signed 32 (low + 65536 * high)) (map (signed 16) (take n (drop base loaded))))) ≡ safe_output ps o
unfolding entry safe_output
read_safe ps n base sort low high loaded (sum c ks) b small within s d e f fit =
    let found = sum (signed 32 (low + 65536 * high)) (map (signed 16) (take n (drop base loaded))) in
    ap (λ x. implies (eqb x 0) (safe_output ps found)) s
    ∙ ap (safe_output ps) (read_sum n base low high loaded c ks b d e (λ i h. f i h ∙ get_d_pad (entry_size - 2) (map word ks) i (omega arith)) fit)
    ∙ widen_safe ps n c ks within
read_safe ps n base sort low high loaded (digit p shift) b small within s d e f fit =
    let found = sum (signed 32 (low + 65536 * high)) (map (signed 16) (take n (drop base loaded))) in
    ap (λ x. implies (eqb x 0) (safe_output ps found)) s

-- a test of each element, by number

pub each_numbers : {A : Type 0} (P : A → Type 0) (xs : List A) (d : A) → ((j : ℕ) → j < length xs → P (get_or xs j d)) → Each P xs
each_numbers P [] d f = tt
each_numbers P (x ∷ xs) d f = (f 0 (omega arith), each_numbers P xs d (λ j h. f (suc j) (omega arith)))

below_all : {A : Type 0} (p : A → Bool) (xs : List A) (d : A) (q : ℕ → Bool) → ((j : ℕ) → j < length xs → q j ≡ p (get_or xs j d)) →
    for_below (length xs) q ≡ all p xs
below_all p xs d q e =
    test_eq (for_below (length xs) q) (all p xs)
    (λ t. each_all p xs (λ x u. u) (each_numbers (λ x. T (p x)) xs d (λ j h. subst T (e j h) (below (length xs) q t j h))))
    (λ t. to_below (length xs) q (λ j h. subst T (sym (e j h)) (each_get_d (λ x. T (p x)) xs j d (all_each p xs (λ x u. u) t) h)))

all_append : {A : Type 0} (p : A → Bool) (xs ys : List A) → all p (xs ++ ys) ≡ all p xs && all p ys
all_append p [] ys = refl
all_append p (x ∷ xs) ys = ap (λ b. p x && b) (all_append p xs ys) ∙ sym (and_assoc (p x) (all p xs) (all p ys))

abbrev no_output : Output
no_output = sum (pos 0) []

abbrev test_of : Group → Bool
test_of g = all (safe_output g.ranges) g.outputs

module _ (t : Table) (k : ℕ) (in-arrays : k < 33) (g : Group) (row : Row t k g)
    (same : group_at (loaded_words t) k ≡ bare_group g)
    (small : g.size ≤ 8) (few : length g.outputs ≤ 8) (reaches : Each (Within g.size) g.outputs)
    (narrow : Each NarrowOutput g.outputs) where
  abbrev head : List ℕ
  head = g.size ∷ bit g.anchored ∷ length g.outputs ∷ flat_map entry g.outputs

  in_block : (i : ℕ) → i < block_size → at (loaded_words t) (block_size * k + i) ≡ at head i
  unfolding block
  in_block i h = block_flat t k in-arrays g row i h ∙ get_d_pad block_size head i h

  pattern_same : pattern_at (loaded_words t) k (at (loaded_words t) (block_size * k)) ≡ g.ranges
  unfolding group_at
  pattern_same = ap (λ x. x.ranges) same

  module _ (j : ℕ) (inside : j < length g.outputs) where
    abbrev here : Output
    here = get_or g.outputs j no_output

    -- number i of its entry
    in_entry : (i m : ℕ) → m ≡ block_size * k + (3 + (entry_size * j + i)) → i < entry_size → at (loaded_words t) m ≡ at (entry here) i
    in_entry i m e h =
        let b : 3 + (entry_size * j + i) ≡ suc (suc (suc (entry_size * j + i))) = omega arith in
        ap (at (loaded_words t)) e
        ∙ in_block (3 + (entry_size * j + i)) (omega arith)
        ∙ ap (at head) b
        ∙ get_d_rows entry entry_size length_entry g.outputs j i no_output inside h

    high_same : at (loaded_words t) (highs_from + 8 * k + j) ≡ high_of here
    unfolding high_words
    high_same =
        loaded_high t (highs_from + 8 * k + j) (8 * k + j) (omega arith)
        ∙ row 8 (λ g. map high_of g.outputs) j (omega arith)
        ∙ get_or-map high_of g.outputs j no_output

    output_safe : safe_output_at (loaded_words t) k j ≡ safe_output g.ranges here
    unfolding sum_at
    output_safe =
        let loaded = loaded_words t in
        let base = block_size * k + 5 + entry_size * j in
        let fit : base + g.size ≤ length loaded = omega (arith, loaded_length t) in
        rw (pattern_same, size_flat t k in-arrays g row)
        (read_safe g.ranges g.size base _ _ _ loaded here (each_get_d NarrowOutput g.outputs j no_output narrow inside) small
        (each_get_d (Within g.size) g.outputs j no_output reaches inside)
        (in_entry 0 (block_size * k + 3 + entry_size * j) (omega arith) (lit< tt)) (in_entry 1 (block_size * k + 4 + entry_size * j) (omega arith) (lit< tt))
        high_same (λ i h. in_entry (suc (suc i)) (base + i) (omega arith) (omega arith)) fit)

  group_safe : safe_group_at (loaded_words t) k ≡ test_of g
  unfolding safe_group_at
  group_safe = rw (in_block 2 (lit< tt)) (below_all (safe_output g.ranges) g.outputs no_output (safe_output_at (loaded_words t) k) output_safe)

pub safe_flat : (t : Table) → Shaped t → Narrow t →
    safe_at (loaded_words t) (length t.rules) (mode t) ≡ safe t
unfolding safe_at safe table_at
safe_flat t s w =
    ap₂ ◌&&◌ (below_all test_of t.rules (every_character []) (safe_group_at (loaded_words t)) rule) (ap (λ b. implies b (safe_group_at (loaded_words t) 32)) (mode_present t.default t.mark) ∙ of t.default refl s.default (each_back NarrowGroup t.rules (optional t.default) w))
    ∙ sym (all_append test_of t.rules (optional t.default))
  where
    rule : (r : ℕ) → r < length t.rules → safe_group_at (loaded_words t) r ≡ test_of (get_or t.rules r (every_character []))
    rule r h =
        let few : length t.rules ≤ 32 = s.few_rules in
        let g = get_or t.rules r (every_character []) in
        let sg = each_get_d ShapedGroup t.rules r (every_character []) s.rules h in
        let ng = each_get_d NarrowGroup t.rules r (every_character []) (each_front NarrowGroup t.rules (optional t.default) w) h in
        group_safe t r (omega arith) g
        (λ n f j i. rows_at n f t r j (omega arith) i ∙ ap (λ l. at l j) (rows_of_rule f t.rules t.default r (every_character []) few h))
        (sym (rule_at_lem (loaded_words t) (length t.rules) (mode t) r h) ∙ ap (λ x. rule_at x r) (table_flat t s w) ∙ rule_at_bare t r)
        sg.small sg.outputs sg.reaches ng.narrow

    there : (g : Group) (k : Mark) (h : Group) → h ≡ or_else (every_character []) (default_by (mode_of (Some g) k) h)
    there g unmarked h = refl
    there g marked h = refl

    of : (d : Option Group) → t.default ≡ d → Each ShapedDefault (optional d) → Each NarrowGroup (optional d) →
        implies (is_some d) (safe_group_at (loaded_words t) 32) ≡ all test_of (optional d)
    of None e a b = refl
    of (Some g) e a b =
        let G = group_at (loaded_words t) 32 in
        let one : g.size ≡ 1 = a.0.size in
        let same : G ≡ bare_group g =
        there g t.mark G
        ∙ sym (ap (λ o. or_else (every_character []) (default_by (mode_of o t.mark) G)) e)
        ∙ ap (λ x. or_else (every_character []) x.default) (table_flat t s w)
        ∙ ap (λ o. or_else (every_character []) (bare_default o)) e in
        group_safe t 32 (lit< tt) g
        (λ n f j i. rows_at n f t 32 j (lit< tt) i ∙ ap (λ d. at (get_or (rows_of f t.rules d) 32 []) j) e ∙ ap (λ l. at l j) (rows_of_default f t.rules g))
        same (omega arith) a.0.outputs (subst (λ m. Each (Within m) g.outputs) (sym one) a.0.reaches) b.0.narrow
        ∙ sym (and-true (test_of g))
