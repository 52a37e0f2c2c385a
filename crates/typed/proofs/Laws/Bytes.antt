-- The records of typed lines are whole records, and their bytes are bytes; so 1 refuses none of them.
-- Each part is eight bytes long or joined of such parts; numbers are taken apart modulo 256, and lengths and positions are small.
use mathlib.Core.Bool.{Bool, true, false}
use mathlib.Core.List.{List, [], ◌∷◌, ◌++◌}
use mathlib.Core.Path.{◌≡◌, refl, ap, ◌∙◌}
use Prim.Native.Nat.{ℕ, zero, suc, ◌+◌, ◌*◌, ◌/◌, ◌%◌, ◌≤◌, ◌<◌}
use native.Mathlib.Nat.{mod-lt, mul-mod_right}
use native.Mathlib.Omega.{arith}
use lib.Dec.{lit<}
use lib.IntN.{ℤ, pos, negsuc}
use lib.ListN.{length, length-append, length-drop}
use Rattle.lists.specs.Lists.{Each, flat_map}
use Rattle.lists.proofs.Laws.Each.{each_append, each_weaken}
use Rattle.meaning.specs.Refusal.{refused}
use Rattle.meaning.specs.Table.{Range}
use Rattle.meaning.specs.Reader.{read_table}
use Rattle.meaning.specs.Records.{Bytes, little_endian, twos_complement, rule_record, range_record, output_record, Term, term_record, range_records, terms}
use Rattle.meaning.proofs.Laws.Direct.{check_refuses}
use Rattle.expression.specs.Grammar.{Tree, Level, Reads, reads_number, reads_place, reads_parentheses, reads_one, reads_times, reads_alone, reads_plus, reads_minus, fold}
use Rattle.expression.specs.bridge.Forms.{Small, Proper}
use Rattle.expression.proofs.Laws.Numbers.{small_number, small_place, small_plus, small_minus, small_times}
use Rattle.expression.proofs.Laws.Affine.{tree_count}
use Rattle.typed.specs.Grammar.{Pattern, Head, pattern, otherwise, Line}
use Rattle.expression.specs.Parts.{numbers}
use Rattle.typed.specs.Records.{part_of, constant, coefficients, output_records, head_records, line_records, records}

-- what the grammar says of lines, as far as it is asked for here

pub record ProperRange (r : Range) : Type 0 where
  pub low : r.lowest < 65536
  pub high : r.highest < 65536

pub record ProperItem (rs : List Range) : Type 0 where
  pub some_range : 1 ≤ length rs
  pub ranges : Each ProperRange rs

pub record ProperPattern (p : Pattern) : Type 0 where
  pub some_item : 1 ≤ length p.items
  pub few_items : length p.items ≤ 8
  pub items : Each ProperItem p.items

abbrev pub ProperHead : Head → Type 0
ProperHead (pattern p) = ProperPattern p
ProperHead otherwise = Unit {0}

-- its constant and coefficients are in signed 32 bits, as those of an expression that is read are: `reads_small`
pub record ProperTree (t : Tree) : Type 0 where
  pub proper : Proper t
  pub small : Small (numbers (part_of t))

pub record ProperLine (l : Line) : Type 0 where
  pub head : ProperHead l.head
  pub outputs : Each ProperTree l.outputs

abbrev pub LinesProper : List Line → Type 0
LinesProper ls = Each ProperLine ls

-- the numbers of an expression's parts are in signed 32 bits
pub reads_small : {l : Level} {n : ℕ} {u : List ℕ} {t : Tree} → Reads l n u t → Small (numbers (part_of t))
unfolding fold
reads_small (reads_number bs dg h) = small_number _ h
reads_small (reads_place bs h) = small_place _ h
reads_small (reads_parentheses bs d es) = reads_small d
reads_small (reads_one d) = reads_small d
reads_small (reads_times {s = s} {t = t} d bs e) = small_times (part_of s) (part_of t) (reads_small d) (reads_small e)
reads_small (reads_alone d) = reads_small d
reads_small (reads_plus {s = s} {t = t} d bs e) = small_plus (part_of s) (part_of t) (reads_small d) (reads_small e)
reads_small (reads_minus {s = s} {t = t} d bs e) = small_minus (part_of s) (part_of t) (reads_small d) (reads_small e)

-- whole records

abbrev pub Whole : List ℕ → Type 0
Whole b = (n : ℕ) × (length b ≡ 8 * n)

whole_append : (b c : List ℕ) → Whole b → Whole c → Whole (b ++ c)
whole_append b c w v = (w.0 + v.0, length-append b c ∙ omega (arith, w.1, v.1))

pub whole_joined : {A : Type 0} (f : A → List ℕ) → ((x : A) → Whole (f x)) → (xs : List A) → Whole (flat_map f xs)
whole_joined f w [] = (0, refl)
whole_joined f w (x ∷ xs) = whole_append (f x) (flat_map f xs) (w x) (whole_joined f w xs)

pub range_long : (p : ℕ) (r : Range) → length (range_record p r) ≡ 8
unfolding little_endian
range_long p r = refl

pub output_long : (c : ℤ) → length (output_record c) ≡ 8
unfolding little_endian
output_long c = refl

pub term_long : (x : Term) → length (term_record x) ≡ 8
unfolding little_endian
term_long x = refl

ranges_whole : (p : ℕ) (ps : List (List Range)) → Whole (range_records p ps)
ranges_whole p [] = (0, refl)
ranges_whole p (rs ∷ ps) = whole_append (flat_map (range_record p) rs) (range_records (suc p) ps) (whole_joined (range_record p) (λ r. (1, range_long p r)) rs) (ranges_whole (suc p) ps)

pub output_whole : (t : Tree) → Whole (output_records (part_of t))
unfolding output_records
output_whole t =
    whole_append (output_record (constant (part_of t))) (flat_map term_record (terms 0 (coefficients (part_of t)))) (1, output_long (constant (part_of t)))
    (whole_joined term_record (λ x. (1, term_long x)) (terms 0 (coefficients (part_of t))))

pub head_whole : (h : Head) → Whole (head_records h)
unfolding head_records
head_whole (pattern p) = whole_append (rule_record (length p.items) p.anchored) (range_records 0 p.items) (1, refl) (ranges_whole 0 p.items)
head_whole otherwise = (1, refl)

pub line_whole : (l : Line) → Whole (line_records l)
unfolding line_records
line_whole l =
    whole_append (head_records l.head) (flat_map (λ t. output_records (part_of t)) l.outputs) (head_whole l.head)
    (whole_joined (λ t. output_records (part_of t)) output_whole l.outputs)

pub records_count : (ls : List Line) → (n : ℕ) × (length (records ls) ≡ 8 * n)
unfolding records
records_count ls = whole_joined line_records line_whole ls

pub records_whole : (ls : List Line) → length (records ls) % 8 ≡ 0
records_whole ls = let w = records_count ls in ap (λ n. n % 8) w.1 ∙ mul-mod_right 8 w.0

pub never_1 : (ls : List Line) → read_table (records ls) ≡ refused 1 → ⊥
never_1 ls e = (check_refuses (records ls)).whole.0 e (records_whole ls)

-- bytes

number_bytes : (n x : ℕ) → Bytes (little_endian n x)
unfolding little_endian
number_bytes zero x = tt
number_bytes (suc n) x = (mod-lt x (lit< {m = 0} {n = 256} tt), number_bytes n (x / 256))

joined_bytes : {A : Type 0} (f : A → List ℕ) (xs : List A) → Each (λ x. Bytes (f x)) xs → Bytes (flat_map f xs)
joined_bytes f [] h = tt
joined_bytes f (x ∷ xs) h = each_append (λ y. y < 256) (f x) (flat_map f xs) h.0 (joined_bytes f xs h.1)

pub each_always : {A : Type 0} {P : A → Type 0} → ((x : A) → P x) → (xs : List A) → Each P xs
each_always h [] = tt
each_always h (x ∷ xs) = (h x, each_always h xs)

range_bytes : (p : ℕ) → p < 256 → (r : Range) → Bytes (range_record p r)
range_bytes p h r =
    (lit< tt, (h, (lit< tt, (lit< tt, each_append (λ x. x < 256) (little_endian 2 r.lowest) (little_endian 2 r.highest) (number_bytes 2 r.lowest) (number_bytes 2 r.highest)))))

ranges_bytes : (p : ℕ) (ps : List (List Range)) → p + length ps ≤ 256 → Bytes (range_records p ps)
ranges_bytes p [] h = tt
ranges_bytes p (rs ∷ ps) h =
    each_append (λ x. x < 256) (flat_map (range_record p) rs) (range_records (suc p) ps)
    (joined_bytes (range_record p) rs (each_always (range_bytes p (omega arith)) rs)) (ranges_bytes (suc p) ps (omega arith))

-- a term stands at a position that has a coefficient
terms_below : (p : ℕ) (ks : List ℤ) → p + length ks ≤ 256 → Each (λ x. x.position < 256) (terms p ks)
terms_below p [] h = tt
terms_below p (pos zero ∷ ks) h = terms_below (suc p) ks (omega arith)
terms_below p (pos (suc a) ∷ ks) h = (omega arith, terms_below (suc p) ks (omega arith))
terms_below p (negsuc a ∷ ks) h = (omega arith, terms_below (suc p) ks (omega arith))

term_bytes : (x : Term) → x.position < 256 → Bytes (term_record x)
term_bytes x h =
    let k = twos_complement 16 x.coefficient in
    (lit< tt, (h, (lit< tt, (lit< tt, each_append (λ y. y < 256) (little_endian 2 k) (0 ∷ 0 ∷ []) (number_bytes 2 k) (lit< tt, (lit< tt, tt))))))

pub eight_coefficients : (t : Tree) → length (coefficients (part_of t)) ≡ 8
eight_coefficients t = length-drop 1 (numbers (part_of t)) ∙ omega (arith, tree_count t)

output_bytes : (t : Tree) → Bytes (output_records (part_of t))
unfolding output_records
output_bytes t =
    let ks = coefficients (part_of t) in
    let c = twos_complement 32 (constant (part_of t)) in
    each_append (λ x. x < 256) (output_record (constant (part_of t))) (flat_map term_record (terms 0 ks))
    (lit< tt, (lit< tt, (lit< tt, (lit< tt, number_bytes 4 c))))
    (joined_bytes term_record (terms 0 ks) (each_weaken (λ x. x.position < 256) (λ x. Bytes (term_record x)) (terms 0 ks) term_bytes (terms_below 0 ks (omega (arith, eight_coefficients t)))))

rule_bytes : (k : ℕ) (a : Bool) → k < 256 → Bytes (rule_record k a)
rule_bytes k true h = (lit< tt, (h, (lit< tt, (lit< tt, (lit< tt, (lit< tt, (lit< tt, (lit< tt, tt))))))))
rule_bytes k false h = (lit< tt, (h, (lit< tt, (lit< tt, (lit< tt, (lit< tt, (lit< tt, (lit< tt, tt))))))))

head_bytes : (h : Head) → ProperHead h → Bytes (head_records h)
unfolding head_records
head_bytes (pattern p) w =
    let n = length p.items in
    let few : n ≤ 8 = w.few_items in
    each_append (λ x. x < 256) (rule_record n p.anchored) (range_records 0 p.items) (rule_bytes n p.anchored (omega arith)) (ranges_bytes 0 p.items (omega arith))
head_bytes otherwise w = (lit< tt, (lit< tt, (lit< tt, (lit< tt, (lit< tt, (lit< tt, (lit< tt, (lit< tt, tt))))))))

line_bytes : (l : Line) → ProperLine l → Bytes (line_records l)
unfolding line_records
line_bytes l w =
    each_append (λ x. x < 256) (head_records l.head) (flat_map (λ t. output_records (part_of t)) l.outputs) (head_bytes l.head w.head)
    (joined_bytes (λ t. output_records (part_of t)) l.outputs (each_always output_bytes l.outputs))

pub records_bytes : (ls : List Line) → LinesProper ls → Bytes (records ls)
unfolding records
records_bytes ls w = joined_bytes line_records ls (each_weaken ProperLine (λ l. Bytes (line_records l)) ls line_bytes w)
