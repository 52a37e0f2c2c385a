-- The lines of a text of characters are as the laws on their records ask.
-- The bounds of each range are characters of the text; the rest the grammar says of items and of expressions.
use mathlib.Core.Bool.{Bool}
use mathlib.Core.List.{List, [], ◌∷◌, ◌++◌}
use mathlib.Core.Path.{subst}
use Prim.Native.Nat.{ℕ, ◌<◌}
use native.Mathlib.Omega.{arith}
use Rattle.lists.specs.Lists.{Each}
use Rattle.lists.proofs.Laws.Each.{each_append, each_front, each_back}
use Rattle.meaning.specs.Table.{Characters, Range}
use Rattle.expression.specs.Grammar.{Tree, Expression}
use Rattle.expression.specs.Outputs.{Items, first_item, next_item, Outputs, no_outputs, some_outputs}
use Rattle.expression.proofs.Laws.Sound.{reads_proper}
use Rattle.typed.specs.Grammar.{Pattern, Head, Line, Several, Plain, bare, escaped, Element, single, ranging, Item, character, bracketed, PatternText, HeadText, a_pattern, the_word, LineText, line, TypedText}
use Rattle.typed.proofs.Laws.Bytes.{ProperRange, ProperItem, ProperPattern, ProperHead, ProperTree, ProperLine, LinesProper, reads_small}

-- a text's parts are of characters
front : (u v : List ℕ) → Characters (u ++ v) → Characters u
front = each_front (λ c. c < 65536)

back : (u v : List ℕ) → Characters (u ++ v) → Characters v
back = each_back (λ c. c < 65536)

several_each : {A : Type 0} (R : List ℕ → A → Type 0) (P : A → Type 0) → ((u : List ℕ) (x : A) → R u x → Characters u → P x) →
    (xs : List A) (u : List ℕ) → Several R u xs → Characters u → Each P xs
several_each R P h [] u d cs = tt
several_each R P h (x ∷ xs) u d cs =
    let both : Characters (d.0 ++ d.1) = subst Characters d.4 cs in
    (h d.0 x d.2 (front d.0 d.1 both), several_each R P h xs d.1 d.3 (back d.0 d.1 both))

-- what stands before `==>`

plain_proper : {special : ℕ → Bool} {u : List ℕ} {c : ℕ} → Plain special u c → Characters u → c < 65536
plain_proper (bare h) cs = cs.0
plain_proper escaped cs = cs.1.0

element_proper : (u : List ℕ) (r : Range) → Element u r → Characters u → ProperRange r
element_proper w r (single d) cs = record { low = plain_proper d cs; high = plain_proper d cs }
element_proper w r (ranging {u = u} {v = v} d e) cs =
    record { low = plain_proper d (front u (45 ∷ v) cs); high = plain_proper e (back u (45 ∷ v) cs).1 }

item_proper : (u : List ℕ) (rs : List Range) → Item u rs → Characters u → ProperItem rs
item_proper w rs (character d) cs = record { some_range = omega arith; ranges = (record { low = plain_proper d cs; high = plain_proper d cs }, tt) }
item_proper w rs (bracketed {u = u} d) cs =
    record { some_range = omega arith; ranges = several_each Element ProperRange element_proper rs u d (front u (93 ∷ []) cs.1) }

pattern_proper : {u : List ℕ} {p : Pattern} → PatternText u p → Characters u → ProperPattern p
pattern_proper {u} {p} d cs =
    let quoted = subst Characters d.whole cs in
    record {
      some_item = d.some_item;
      few_items = d.few_items;
      items = several_each Item ProperItem item_proper p.items d.typed d.items (front d.typed _ quoted.1);
    }

head_proper : {u : List ℕ} {h : Head} → HeadText u h → Characters u → ProperHead h
head_proper (a_pattern {b = b} {u = u} bs d) cs = pattern_proper d (back b u cs)
head_proper (the_word bs) cs = tt

-- what stands behind it

expression_proper : {u : List ℕ} {t : Tree} → Expression u t → ProperTree t
expression_proper d = record { proper = reads_proper d; small = reads_small d }

items_proper : {u : List ℕ} {ts : List Tree} → Items u ts → Each ProperTree ts
items_proper (first_item d) = (expression_proper d, tt)
items_proper (next_item {ts = ts} {t = t} d bs e) = each_append ProperTree ts (t ∷ []) (items_proper d) (expression_proper e, tt)

outputs_proper : {u : List ℕ} {ts : List Tree} → Outputs u ts → Each ProperTree ts
outputs_proper (no_outputs bs es) = tt
outputs_proper (some_outputs bs d es) = items_proper d

line_proper : (u : List ℕ) (l : Line) → LineText u l → Characters u → ProperLine l
line_proper w l (line {u = u} d bs o es) cs = record { head = head_proper d (front u _ cs); outputs = outputs_proper o }

pub text_proper : {text : List ℕ} {ls : List Line} → TypedText text ls → Characters text → LinesProper ls
text_proper {text} {ls} d cs = several_each LineText ProperLine line_proper ls d.typed d.lines (front d.typed d.end (subst Characters d.whole cs))
