-- Output expressions in brackets: their reader accepts what their grammar has, and nothing else.
-- A comma or a bracket ends each expression (`Ends`). Assumes nothing.
use mathlib.Core.Path.{◌≡◌, refl, sym, ap, subst, ◌∙◌}
use mathlib.Core.Bool.{Bool, true, false, cond}
use mathlib.Core.List.{List, [], ◌∷◌, ◌++◌, append_assoc}
use Prim.Native.Nat.{ℕ}
use native.Mathlib.Omega.{arith}
use borrow.Author.Tests.{eq-eqb, ne_eqb, eqb-true}
use lib.Dec.{eqb}
use Rattle.expression.specs.Grammar.{is_blank, is_digit, Tree, Blanks, Expression}
use Rattle.expression.specs.Outputs.{Items, first_item, next_item, Outputs, no_outputs, some_outputs}
use Rattle.expression.specs.bridge.Text.{refused, got, map_read, is_star, is_sign, is_comma, skip, first, behind, closed_by, join, chained, factor, product, sum, within, trees, expression_of, one, behind_comma, one_item, items, bracketed}
use Rattle.expression.specs.bridge.Forms.{Ends}
use Rattle.expression.proofs.Laws.Chains.{Shrinks, map_rest_le, chained_stop, chained_refused, sum_shrinks, product_shrinks, factor_shrinks, within_shrinks}
use Rattle.expression.proofs.Laws.Places.{factor_other, closed_yes}
use Rattle.expression.proofs.Laws.Symbols.{atom_other}
use Rattle.expression.proofs.Laws.Complete.{skip_to, first_no_digit, linked, reads_complete}
use Rattle.expression.proofs.Laws.Sound.{Parsed, Sound, not_got, skip_split, first_cons, map_got, closed_sound, chained_sound, reads_sound}

pub item_shrinks : Shrinks (one_item expression_of)
unfolding Shrinks one_item
item_shrinks t = map_rest_le one (expression_of t) (sum_shrinks trees (within trees 16) (within_shrinks trees 16) t)

-- where the next symbol is a closing bracket, or another that begins no factor, no expression_of is read
none_read : (t : List ℕ) → first (skip t) ≡ 93 → expression_of t ≡ refused
unfolding sum product
none_read t e =
    let f : factor trees (within trees 16) t ≡ refused =
    factor_other trees (within trees 16) t (skip t) refl (omega arith) ∙ atom_other trees (skip t) (ap is_digit e) (omega arith) in
    let p : product trees (within trees 16) t ≡ refused =
    ap (chained (join trees) is_star (factor trees (within trees 16))) f
    ∙ chained_refused (join trees) is_star (factor trees (within trees 16)) (factor_shrinks trees (within trees 16) (within_shrinks trees 16)) in
    ap (chained (join trees) is_sign (product trees (within trees 16))) p
    ∙ chained_refused (join trees) is_sign (product trees (within trees 16)) (product_shrinks trees (within trees 16) (within_shrinks trees 16))

-- a symbol in which no expression_of goes on, with blanks before it
ends_at : (c : ℕ) → is_blank c ≡ false → is_digit c ≡ false → is_star c ≡ false → is_sign c ≡ false → {b : List ℕ} (r : List ℕ) → Blanks b → Ends (b ++ (c ∷ r))
ends_at c nb nd ns ng r bs =
    let k = skip_to c r bs nb in
    record { digit = first_no_digit c r bs nd; star = ap (λ x. is_star (first x)) k ∙ ns; sign = ap (λ x. is_sign (first x)) k ∙ ng }

item_read : {u : List ℕ} {t : Tree} → Expression u t → (r : List ℕ) → Ends r → one_item expression_of (u ++ r) ≡ got (t ∷ []) r
unfolding one_item map_read
item_read d r e = ap (map_read one) (reads_complete d r e)

items_read : {u : List ℕ} {ts : List Tree} → Items u ts → (r : List ℕ) → Ends r
    → items expression_of (u ++ r) ≡ chained behind_comma is_comma (one_item expression_of) (got ts r)
unfolding items
items_read (first_item d) r e = ap (chained behind_comma is_comma (one_item expression_of)) (item_read d r e)
items_read (next_item {u = u} {b = b} {v = v} {ts = ts} {t = t} is bs d) r e =
    ap (items expression_of) (append_assoc u (b ++ (44 ∷ v)) r ∙ ap (λ x. u ++ x) (append_assoc b (44 ∷ v) r))
    ∙ items_read is (b ++ (44 ∷ (v ++ r))) (ends_at 44 refl refl refl refl (v ++ r) bs)
    ∙ linked behind_comma is_comma refl (one_item expression_of) item_shrinks 44 ts (t ∷ []) (v ++ r) r bs refl refl (item_read d r e)

-- the ways through brackets
open_some : (t u : List ℕ) → skip t ≡ 91 ∷ u → (first (skip u) ≡ 93 → ⊥) → bracketed expression_of t ≡ closed_by 93 (items expression_of u)
unfolding bracketed
open_some t u e n = rw (e, ne_eqb (first (skip u)) 93 n)

open_none : (t u : List ℕ) → skip t ≡ 91 ∷ u → first (skip u) ≡ 93 → bracketed expression_of t ≡ got [] (behind (skip u))
unfolding bracketed
open_none t u e n = rw (e, eq-eqb (first (skip u)) 93 n)

-- no list of expressions begins with a closing bracket
items_begin : {u : List ℕ} {ts : List Tree} → Items u ts → (r : List ℕ) → Ends r → first (skip (u ++ r)) ≡ 93 → ⊥
items_begin (first_item d) r e z = not_got (sym (none_read _ z) ∙ reads_complete d r e)
items_begin (next_item {u = u} {b = b} {v = v} is bs d) r e z =
    items_begin is (b ++ (44 ∷ (v ++ r))) (ends_at 44 refl refl refl refl (v ++ r) bs)
    (ap (λ x. first (skip x)) (sym (append_assoc u (b ++ (44 ∷ v)) r ∙ ap (λ x. u ++ x) (append_assoc b (44 ∷ v) r))) ∙ z)

pub outputs_complete : {u : List ℕ} {ts : List Tree} → Outputs u ts → (r : List ℕ) → bracketed expression_of (u ++ r) ≡ got ts r
outputs_complete (no_outputs {b = b} {e = e} bs es) r =
    let w : List ℕ = e ++ (93 ∷ r) in
    let k = skip_to 93 r es refl in
    ap (bracketed expression_of) (append_assoc b (91 ∷ (e ++ (93 ∷ []))) r ∙ ap (λ x. b ++ (91 ∷ x)) (append_assoc e (93 ∷ []) r))
    ∙ open_none (b ++ (91 ∷ w)) w (skip_to 91 w bs refl) (ap first k)
    ∙ ap (λ x. got [] (behind x)) k
outputs_complete (some_outputs {b = b} {u = u} {e = e} {ts = ts} bs is es) r =
    let w : List ℕ = u ++ (e ++ (93 ∷ r)) in
    let k = skip_to 93 r es refl in
    let end = ends_at 93 refl refl refl refl r es in
    ap (bracketed expression_of)
    (append_assoc b (91 ∷ (u ++ (e ++ (93 ∷ [])))) r ∙ ap (λ x. b ++ (91 ∷ x)) (append_assoc u (e ++ (93 ∷ [])) r ∙ ap (λ x. u ++ x) (append_assoc e (93 ∷ []) r)))
    ∙ open_some (b ++ (91 ∷ w)) w (skip_to 91 w bs refl) (items_begin is (e ++ (93 ∷ r)) end)
    ∙ ap (closed_by 93) (items_read is (e ++ (93 ∷ r)) end ∙ chained_stop behind_comma is_comma (one_item expression_of) item_shrinks ts (e ++ (93 ∷ r)) (ap (λ x. is_comma (first x)) k))
    ∙ closed_yes 93 ts (e ++ (93 ∷ r)) (93 ∷ r) (sym k) refl

data OneItem : List ℕ → List Tree → Type 0 where
  one_item_lem : {u : List ℕ} {t : Tree} → Expression u t → OneItem u (t ∷ [])

item_sound : Sound OneItem (one_item expression_of)
unfolding Sound one_item
item_sound text ts rest e =
    let m = map_got one (expression_of text) ts rest e in
    let p = reads_sound 16 text m.0 rest m.1 in
    record { used = p.used; whole = p.whole; reads = subst (λ (x : List Tree). OneItem p.used x) m.2 (one_item_lem p.reads) }

item_step : (u b v : List ℕ) (c : ℕ) (s t : List Tree) → Items u s → Blanks b → is_comma c ≡ true → OneItem v t → Items (u ++ (b ++ (c ∷ v))) (behind_comma c s t)
item_step u b v c s t is bs y i = by i
  where
    by : {t : List Tree} → OneItem v t → Items (u ++ (b ++ (c ∷ v))) (s ++ t)
    by (one_item_lem {t = x} d) = subst (λ (z : ℕ). Items (u ++ (b ++ (z ∷ v))) (s ++ (x ∷ []))) (sym (eqb-true c 44 y)) (next_item is bs d)

first_sound : (text : List ℕ) (ts : List Tree) (rest : List ℕ) → one_item expression_of text ≡ got ts rest → Parsed Items text ts rest
unfolding Sound
first_sound text ts rest e = let p = item_sound text ts rest e in record { used = p.used; whole = p.whole; reads = by p.reads }
  where
    by : {u : List ℕ} {t : List Tree} → OneItem u t → Items u t
    by (one_item_lem d) = first_item d

items_sound : (text : List ℕ) (ts : List Tree) (rest : List ℕ) → items expression_of text ≡ got ts rest → Parsed Items text ts rest
unfolding items
items_sound text = chained_sound behind_comma is_comma refl (one_item expression_of) Items OneItem item_step item_sound text (one_item expression_of text) (first_sound text)

pub outputs_sound : (text : List ℕ) (ts : List Tree) (rest : List ℕ) → bracketed expression_of text ≡ got ts rest → Parsed Outputs text ts rest
unfolding bracketed
outputs_sound text ts rest e = by (eqb (first (skip text)) 91) refl (eqb (first (skip (behind (skip text)))) 93) refl e
  where
    u : List ℕ
    u = behind (skip text)

    opened : eqb (first (skip text)) 91 ≡ true → text ≡ (skip_split text).0 ++ (91 ∷ u)
    opened y =
        (skip_split text).2
        ∙ ap (λ x. (skip_split text).0 ++ x) (first_cons (λ c. eqb c 91) refl (skip text) y ∙ ap (λ x. x ∷ behind (skip text)) (eqb-true (first (skip text)) 91 y))

    by : (f : Bool) → eqb (first (skip text)) 91 ≡ f → (g : Bool) → eqb (first (skip u)) 93 ≡ g
        → cond f (cond g (got [] (behind (skip u))) (closed_by 93 (items expression_of u))) refused ≡ got ts rest → Parsed Outputs text ts rest
    by true y true z q =
        let b = skip_split text in
        let s = skip_split u in
        let same : [] ≡ ts = cc in
        let end : behind (skip u) ≡ rest = cc in
        record {
          used = b.0 ++ (91 ∷ (s.0 ++ (93 ∷ [])));
          whole =
              opened y
              ∙ ap (λ x. b.0 ++ (91 ∷ x))
              (s.2 ∙ ap (λ x. s.0 ++ x) (first_cons (λ c. eqb c 93) refl (skip u) z ∙ ap (λ x. x ∷ behind (skip u)) (eqb-true (first (skip u)) 93 z) ∙ ap (λ x. 93 ∷ x) end)
              ∙ sym (append_assoc s.0 (93 ∷ []) rest))
              ∙ sym (append_assoc b.0 (91 ∷ (s.0 ++ (93 ∷ []))) rest);
          reads = subst (λ (x : List Tree). Outputs (b.0 ++ (91 ∷ (s.0 ++ (93 ∷ [])))) x) same (no_outputs b.1 s.1);
        }
    by true y false z q =
        let b = skip_split text in
        let k = closed_sound 93 refl (items expression_of u) ts rest q in
        let i = items_sound u ts k.0 k.2 in
        record {
          used = b.0 ++ (91 ∷ (i.used ++ (k.1 ++ (93 ∷ []))));
          whole =
              opened y
              ∙ ap (λ x. b.0 ++ (91 ∷ x))
              (i.whole ∙ ap (λ x. i.used ++ x) (k.4 ∙ sym (append_assoc k.1 (93 ∷ []) rest)) ∙ sym (append_assoc i.used (k.1 ++ (93 ∷ [])) rest))
              ∙ sym (append_assoc b.0 (91 ∷ (i.used ++ (k.1 ++ (93 ∷ [])))) rest);
          reads = some_outputs b.1 i.reads k.3;
        }
    by false y g z q = not_got q
