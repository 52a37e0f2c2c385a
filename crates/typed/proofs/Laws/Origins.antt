-- Where refusals of a text's table come from: 2 from a range that ends below its start, 5 from a text without a pattern.
-- The records of lines are known ones but for such ranges, and a line with a pattern begins with the record of a rule.
use mathlib.Core.Bool.{Bool, true, false, not}
use mathlib.Core.List.{List, [], ◌∷◌, ◌++◌, append-nil, append_assoc}
use mathlib.Core.Logic.{◌≢◌}
use mathlib.Core.Path.{◌≡◌, refl, sym, ap, ap₂, subst, ◌∙◌}
use Prim.Native.Nat.{ℕ, zero, suc, ◌+◌, ◌*◌, ◌≤◌, ◌<◌}
use native.Mathlib.Omega.{arith}
use lib.Dec.{T, ltb, nltb→le}
use lib.IntN.{ℤ, pos, negsuc}
use lib.ListN.{length, get_or, take, drop, length-append}
use lib.Seq.{take_at, drop-append-add}
use Rattle.lists.specs.Lists.{Each, any, flat_map}
use Rattle.lists.proofs.Laws.Tests.{or_none, split}
use Rattle.meaning.specs.Refusal.{refused}
use Rattle.meaning.specs.Table.{Range, unmarked}
use Rattle.meaning.specs.Reader.{read_table}
use Rattle.meaning.specs.WellFormed.{Signed}
use Rattle.meaning.specs.Records.{little_endian, range_record, term_record, range_records, terms, Known, rule, range, output, term, default, hexadecimal, record_at}
use Rattle.meaning.proofs.Laws.Direct.{check_refuses}
use Rattle.expression.specs.Grammar.{Tree}
use Rattle.typed.specs.Grammar.{Head, pattern, otherwise, Line}
use Rattle.typed.specs.Records.{part_of, constant, coefficients, lines_within17, output_records, head_records, line_records, records}
use Rattle.typed.specs.Meaning.{rule_of}
use Rattle.typed.proofs.Laws.Bytes.{ProperRange, ProperItem, ProperHead, LinesProper, line_whole, eight_coefficients, records_bytes}
use Rattle.typed.proofs.Laws.Grouped.{Fitting}
use Rattle.typed.proofs.Laws.Tables.{LineFits, lines_fit}

-- the records behind some bytes
record_behind : (b c : List ℕ) (j i : ℕ) → 8 * j ≡ length b + 8 * i → record_at (b ++ c) j ≡ record_at c i
record_behind b c j i e = ap (take 8) (ap (λ k. drop k (b ++ c)) e ∙ drop-append-add b c (8 * i))

-- known records, one after another

data AllKnown : List ℕ → Type 0 where
  none_left : AllKnown []
  next_known : {b c : List ℕ} → Known b → AllKnown c → AllKnown (b ++ c)

known_long : {b : List ℕ} → Known b → length b ≡ 8
unfolding little_endian
known_long (rule k anchored h l) = refl
known_long (range p r h w) = refl
known_long (output c h) = refl
known_long (term x h s n) = refl
known_long (default m) = refl
known_long (hexadecimal p shift h s) = refl

known_alone : {b : List ℕ} → Known b → AllKnown b
known_alone {b} k = subst AllKnown (append-nil b) (next_known k none_left)

known_append : {b c : List ℕ} → AllKnown b → AllKnown c → AllKnown (b ++ c)
known_append none_left e = e
known_append {c = v} (next_known {b = b} {c = c} k d) e = subst AllKnown (sym (append_assoc b c v)) (next_known k (known_append d e))

known_at : {b : List ℕ} → AllKnown b → (i : ℕ) → 8 * i < length b → Known (record_at b i)
known_at none_left i h = absurd (omega arith)
known_at (next_known {b = b} {c = c} k d) zero h = subst Known (sym (take_at b c 8 (known_long k))) k
known_at (next_known {b = b} {c = c} k d) (suc i) h =
    let long = known_long k in
    subst Known (sym (record_behind b c (suc i) i (omega arith))) (known_at d i (omega (arith, length-append b c)))

-- a range that ends below its start
abbrev pub reversed : Range → Bool
reversed r = ltb r.highest r.lowest

abbrev pub reversing : Head → Bool
reversing (pattern p) = any (any reversed) p.items
reversing otherwise = false

item_known : (p : ℕ) → p ≤ 7 → (rs : List Range) → Each ProperRange rs → T (not (any reversed rs)) → AllKnown (flat_map (range_record p) rs)
item_known p h [] w t = none_left
item_known p h (r ∷ rs) w t =
    let n = or_none (reversed r) (any reversed rs) t in
    next_known (range p r h (record { ordered = nltb→le r.highest r.lowest n.0; character = w.0.high })) (item_known p h rs w.1 n.1)

items_known : (p : ℕ) (ps : List (List Range)) → p + length ps ≤ 8 → Each ProperItem ps → T (not (any (any reversed) ps)) → AllKnown (range_records p ps)
items_known p [] h w t = none_left
items_known p (rs ∷ ps) h w t =
    let n = or_none (any reversed rs) (any (any reversed) ps) t in
    known_append (item_known p (omega arith) rs w.0.ranges n.0) (items_known (suc p) ps (omega arith) w.1 n.1)

head_known : (h : Head) → ProperHead h → T (not (reversing h)) → AllKnown (head_records h)
unfolding head_records
head_known (pattern p) w t =
    let few : length p.items ≤ 8 = w.few_items in
    next_known (rule (length p.items) p.anchored w.some_item few) (items_known 0 p.items (omega arith) w.items t)
head_known otherwise w t = known_alone (default unmarked)

terms_known : (p : ℕ) (ks : List ℤ) → p + length ks ≤ 8 → Each (Signed 16) ks → AllKnown (flat_map term_record (terms p ks))
terms_known p [] h w = none_left
terms_known p (pos zero ∷ ks) h w = terms_known (suc p) ks (omega arith) w.1
terms_known p (pos (suc a) ∷ ks) h w =
    next_known (term (record { position = p; coefficient = pos (suc a) }) (omega arith) w.0 (λ e. let z : suc a ≡ 0 = cc in omega arith)) (terms_known (suc p) ks (omega arith) w.1)
terms_known p (negsuc a ∷ ks) h w =
    next_known (term (record { position = p; coefficient = negsuc a }) (omega arith) w.0 (λ e. let z : ◌≡◌ {A = ℕ} 0 1 = cc in omega arith)) (terms_known (suc p) ks (omega arith) w.1)

outputs_known : (ts : List Tree) → Each Fitting ts → AllKnown (flat_map (λ t. output_records (part_of t)) ts)
unfolding output_records
outputs_known [] f = none_left
outputs_known (t ∷ ts) f =
    let part = part_of t in
    let eight = eight_coefficients t in
    known_append (next_known (output (constant part) f.0.constant_32) (terms_known 0 (coefficients part) (omega arith) f.0.coefficients_16)) (outputs_known ts f.1)

lines_known : (ls : List Line) → Each LineFits ls → T (not (any (λ l. reversing l.head) ls)) → AllKnown (records ls)
unfolding records line_records
lines_known [] f t = none_left
lines_known (l ∷ ls) f t =
    let n = or_none (reversing l.head) (any (λ l. reversing l.head) ls) t in
    known_append (known_append (head_known l.head f.0.head n.0) (outputs_known l.outputs f.0.outputs)) (lines_known ls f.1 n.1)

-- 2: some line has a range that ends below its start
pub reversed_range : (ls : List Line) → LinesProper ls → lines_within17 ls ≡ true → read_table (records ls) ≡ refused 2 → T (any (λ l. reversing l.head) ls)
reversed_range ls w f e =
    let u = (check_refuses (records ls)).unknown e in
    split (any (λ l. reversing l.head) ls) (λ t. t) (λ n. absurd (u.2 (known_at (lines_known ls (lines_fit ls w f) n) u.0 u.1)))

-- 5: no line has a pattern

abbrev NoRule : List ℕ → Type 0
NoRule b = (i : ℕ) → 8 * i < length b → get_or (record_at b i) 0 0 ≢ 1

no_rule_behind : (b c : List ℕ) (n : ℕ) → length b ≡ 8 * n → NoRule (b ++ c) → NoRule c
no_rule_behind b c n e h i l = subst (λ r. get_or r 0 0 ≢ 1) (record_behind b c (n + i) i (omega arith)) (h (n + i) (omega (arith, length-append b c)))

no_rule_first : (h : Head) (ts : List Tree) (c : List ℕ) → NoRule (line_records (record { head = h; outputs = ts }) ++ c) → rule_of (record { head = h; outputs = ts }) ≡ []
unfolding line_records head_records
no_rule_first (pattern p) ts c h = absurd (h 0 (omega arith) refl)
no_rule_first otherwise ts c h = refl

no_rules : (ls : List Line) → NoRule (records ls) → flat_map rule_of ls ≡ []
unfolding records
no_rules [] h = refl
no_rules (l ∷ ls) h =
    let w = line_whole l in
    ap₂ ◌++◌ (no_rule_first l.head l.outputs (records ls) h) (no_rules ls (no_rule_behind (line_records l) (records ls) w.0 w.1 h))

pub no_pattern : (ls : List Line) → LinesProper ls → read_table (records ls) ≡ refused 5 → flat_map rule_of ls ≡ []
no_pattern ls w e = no_rules ls ((check_refuses (records ls)).no_rule (records_bytes ls w) e)
