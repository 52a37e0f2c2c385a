-- The readers accept what the grammar has: a text that is an expression, with something behind it in which no expression goes on, is read to its tree and that
-- rest. So a text is no two expressions. Assumes nothing.
use mathlib.Core.Path.{◌≡◌, refl, sym, ap, ◌∙◌}
use mathlib.Core.Bool.{Bool, true, false}
use mathlib.Core.List.{List, [], ◌∷◌, ◌++◌, append_assoc}
use Prim.Native.Nat.{ℕ, suc, ◌+◌, ◌-◌, ◌*◌, ◌≤◌, ◌<◌}
use native.Mathlib.Nat.{le_refl, le_trans}
use native.Mathlib.Omega.{arith}
use borrow.Author.Tests.{ne_eqb, le-leb, leb-true}
use lib.Dec.{leb}
use Rattle.expression.specs.Grammar.{is_blank, is_digit, Tree, number, place, times, Blanks, no_blanks, a_blank, Digits, no_digits, a_digit, decimal, Level, a_sum, a_product, a_factor, Reads, reads_number, reads_place, reads_parentheses, reads_one, reads_times, reads_alone, reads_plus, reads_minus}
use Rattle.expression.specs.bridge.Text.{Read, got, map_read, is_star, is_sign, skip, first, behind, digits, closed, join, joined, chained, factor, product, sum, within, trees}
use Rattle.expression.specs.bridge.Forms.{Ends}
use Rattle.expression.proofs.Laws.Chains
use Rattle.expression.proofs.Laws.Chains.{chained_step, chained_stop, factor_shrinks, product_shrinks, within_shrinks}
use Rattle.expression.proofs.Laws.Places.{factor_open, factor_other, closed_yes}
use Rattle.expression.proofs.Laws.Symbols.{atom_place, atom_number, place_yes}
use Rattle.expression.proofs.Laws.Numbers.{and_left, and_right}

pub skip_to : {b : List ℕ} (c : ℕ) (r : List ℕ) → Blanks b → is_blank c ≡ false → skip (b ++ (c ∷ r)) ≡ c ∷ r
unfolding skip
skip_to c r no_blanks e = rw e
skip_to c r (a_blank h bs) e = rw h (skip_to c r bs e)

pub digit_low_end : (c : ℕ) → is_digit c ≡ true → 48 ≤ c
digit_low_end c e = leb-true 48 c (and_left (leb 48 c) (leb c 57) e)

pub digit_high_end : (c : ℕ) → is_digit c ≡ true → c ≤ 57
digit_high_end c e = leb-true c 57 (and_right (leb 48 c) (leb c 57) e)

pub digit_not_blank : (c : ℕ) → is_digit c ≡ true → is_blank c ≡ false
digit_not_blank c e =
    let h = digit_low_end c e in
    let k = digit_high_end c e in
    rw (ne_eqb c 32 (omega arith), ne_eqb c 10 (omega arith), ne_eqb c 13 (omega arith))

blank_not_digit : (c : ℕ) → is_blank c ≡ true → is_digit c ≡ false
blank_not_digit c e = by (is_digit c) refl
  where
    by : (b : Bool) → is_digit c ≡ b → b ≡ false
    by true k = sym e ∙ digit_not_blank c k
    by false k = refl

pub first_no_digit : {b : List ℕ} (c : ℕ) (r : List ℕ) → Blanks b → is_digit c ≡ false → is_digit (first (b ++ (c ∷ r))) ≡ false
first_no_digit c r no_blanks e = e
first_no_digit c r (a_blank {c = x} h bs) e = blank_not_digit x h

decimal_grows : (v : ℕ) (ds : List ℕ) → v ≤ decimal v ds
unfolding decimal
decimal_grows v [] = le_refl v
decimal_grows v (c ∷ ds) = le_trans (omega arith) (decimal_grows (v * 10 + (c - 48)) ds)

digits_all : (v : ℕ) {ds : List ℕ} (r : List ℕ) → Digits ds → is_digit (first r) ≡ false → decimal v ds ≤ 65535 → digits v (ds ++ r) ≡ got (decimal v ds) r
unfolding digits decimal
digits_all v r no_digits nd l = none_more r nd
  where
    none_more : (r : List ℕ) → is_digit (first r) ≡ false → digits v r ≡ got v r
    none_more [] h = refl
    none_more (c ∷ r) h = rw h
digits_all v r (a_digit {c = c} {ds = ds} h dg) nd l =
    rw (h, le-leb (v * 10 + (c - 48)) 65535 (le_trans (decimal_grows (v * 10 + (c - 48)) ds) l))
    (digits_all (v * 10 + (c - 48)) r dg nd l)

module _ (n : ℕ) where
  abbrev one : List ℕ → Read Tree
  one t = factor trees (within trees n) t

  number_read : {b : List ℕ} {c : ℕ} {ds : List ℕ} → Blanks b → Digits (c ∷ ds) → decimal 0 (c ∷ ds) ≤ 65535 → (r : List ℕ) → is_digit (first r) ≡ false
      → one ((b ++ (c ∷ ds)) ++ r) ≡ got (number (decimal 0 (c ∷ ds))) r
  number_read {b} {c} {ds} bs dg l r nd =
      let d = first_digit dg in
      let lo = digit_low_end c d in
      ap one (append_assoc b (c ∷ ds) r)
      ∙ factor_other trees (within trees n) (b ++ (c ∷ (ds ++ r))) (c ∷ (ds ++ r)) (sym (skip_to c (ds ++ r) bs (digit_not_blank c d))) (omega arith)
      ∙ atom_number trees (c ∷ (ds ++ r)) d
      ∙ ap (map_read number) (digits_all 0 {ds = c ∷ ds} r dg nd l)
      ∙ (unfold map_read in refl)
    where
      first_digit : {c : ℕ} {ds : List ℕ} → Digits (c ∷ ds) → is_digit c ≡ true
      first_digit (a_digit h dg) = h

  place_read : {b : List ℕ} {k : ℕ} → Blanks b → k < 8 → (r : List ℕ) → one ((b ++ (120 ∷ ((48 + k) ∷ []))) ++ r) ≡ got (place k) r
  unfolding map_read
  place_read {b} {k} bs l r =
      ap one (append_assoc b (120 ∷ ((48 + k) ∷ [])) r)
      ∙ factor_other trees (within trees n) (b ++ (120 ∷ ((48 + k) ∷ r))) (120 ∷ ((48 + k) ∷ r)) (sym (skip_to 120 ((48 + k) ∷ r) bs refl)) (omega arith)
      ∙ atom_place trees (120 ∷ ((48 + k) ∷ r)) refl
      ∙ ap (map_read place) (place_yes ((48 + k) ∷ r) (omega arith) (omega arith))
      ∙ ap (λ x. got (place x) r) (let e : (48 + k) - 48 ≡ k = omega arith in e)

-- what an operator and the item behind it do to a chain
module _ {A : Type 0} (f : ℕ → A → A → A) (p : ℕ → Bool) (zero-fails : p 0 ≡ false) (item : List ℕ → Read A) (shrinks : Chains.Shrinks item) where
  pub linked : {b : List ℕ} (c : ℕ) (s t : A) (w r : List ℕ) → Blanks b → is_blank c ≡ false → p c ≡ true → item w ≡ got t r
      → chained f p item (got s (b ++ (c ∷ w))) ≡ chained f p item (got (f c s t) r)
  unfolding joined map_read
  linked {b} c s t w r bs nb y e =
      let k = skip_to c w bs nb in
      chained_step f p item shrinks zero-fails s (b ++ (c ∷ w)) (ap (λ u. p (first u)) k ∙ y)
      ∙ ap (λ u. chained f p item (joined f (first u) s (item (behind u)))) k
      ∙ ap (λ d. chained f p item (joined f c s d)) e

-- what each level's readers make of its texts
abbrev pub Claim : Level → ℕ → List ℕ → Tree → Type 0
Claim a_factor n u t = (r : List ℕ) → is_digit (first r) ≡ false → factor trees (within trees n) (u ++ r) ≡ got t r
Claim a_product n u t =
    (r : List ℕ) → is_digit (first r) ≡ false
    → product trees (within trees n) (u ++ r) ≡ chained (join trees) is_star (factor trees (within trees n)) (got t r)
Claim a_sum n u t =
    (r : List ℕ) → is_digit (first r) ≡ false → is_star (first (skip r)) ≡ false
    → sum trees (within trees n) (u ++ r) ≡ chained (join trees) is_sign (product trees (within trees n)) (got t r)

module _ (n : ℕ) where
  item_factor_shrinks : Chains.Shrinks (factor trees (within trees n))
  item_factor_shrinks = factor_shrinks trees (within trees n) (within_shrinks trees n)

  item_product_shrinks : Chains.Shrinks (product trees (within trees n))
  item_product_shrinks = product_shrinks trees (within trees n) (within_shrinks trees n)

  -- a product with no star behind it
  product_whole : (u : List ℕ) (t : Tree) → Claim a_product n u t → (r : List ℕ) → is_digit (first r) ≡ false → is_star (first (skip r)) ≡ false
      → product trees (within trees n) (u ++ r) ≡ got t r
  product_whole u t h r nd ns = h r nd ∙ chained_stop (join trees) is_star (factor trees (within trees n)) item_factor_shrinks t r ns

  one_read : (u : List ℕ) (t : Tree) → Claim a_factor n u t → Claim a_product n u t
  unfolding product
  one_read u t h r nd = ap (chained (join trees) is_star (factor trees (within trees n))) (h r nd)

  times_read : (u v : List ℕ) (s t : Tree) {b : List ℕ} → Claim a_product n u s → Blanks b → Claim a_factor n v t → Claim a_product n (u ++ (b ++ (42 ∷ v))) (times s t)
  times_read u v s t {b} h bs k r nd =
      ap (product trees (within trees n)) (append_assoc u (b ++ (42 ∷ v)) r ∙ ap (λ x. u ++ x) (append_assoc b (42 ∷ v) r))
      ∙ h (b ++ (42 ∷ (v ++ r))) (first_no_digit 42 (v ++ r) bs refl)
      ∙ linked (join trees) is_star refl (factor trees (within trees n)) item_factor_shrinks 42 s t (v ++ r) r bs refl refl (k r nd)

  alone_read : (u : List ℕ) (t : Tree) → Claim a_product n u t → Claim a_sum n u t
  unfolding sum
  alone_read u t h r nd ns = ap (chained (join trees) is_sign (product trees (within trees n))) (product_whole u t h r nd ns)

  signed_read : (c : ℕ) → is_blank c ≡ false → is_digit c ≡ false → is_star c ≡ false → is_sign c ≡ true
      → (u v : List ℕ) (s t : Tree) {b : List ℕ} → Claim a_sum n u s → Blanks b → Claim a_product n v t → Claim a_sum n (u ++ (b ++ (c ∷ v))) (join trees c s t)
  signed_read c nb nd' ns' y u v s t {b} h bs k r nd ns =
      ap (sum trees (within trees n)) (append_assoc u (b ++ (c ∷ v)) r ∙ ap (λ x. u ++ x) (append_assoc b (c ∷ v) r))
      ∙ h (b ++ (c ∷ (v ++ r))) (first_no_digit c (v ++ r) bs nd') (ap (λ x. is_star (first x)) (skip_to c (v ++ r) bs nb) ∙ ns')
      ∙ linked (join trees) is_sign refl (product trees (within trees n)) item_product_shrinks c s t (v ++ r) r bs nb y (product_whole v t k r nd ns)

  -- a sum with no sign behind it
  sum_whole : (u : List ℕ) (t : Tree) → Claim a_sum n u t → (r : List ℕ) → is_digit (first r) ≡ false → is_star (first (skip r)) ≡ false → is_sign (first (skip r)) ≡ false
      → sum trees (within trees n) (u ++ r) ≡ got t r
  sum_whole u t h r nd ns ng = h r nd ns ∙ chained_stop (join trees) is_sign (product trees (within trees n)) item_product_shrinks t r ng

  parentheses_read : (u : List ℕ) (t : Tree) {b e : List ℕ} → Blanks b → Claim a_sum n u t → Blanks e → Claim a_factor (suc n) (b ++ (40 ∷ (u ++ (e ++ (41 ∷ []))))) t
  parentheses_read u t {b} {e} bs h es r nd =
      let w : List ℕ = u ++ (e ++ (41 ∷ r)) in
      let q = skip_to 41 r es refl in
      ap (factor trees (within trees (suc n)))
      (append_assoc b (40 ∷ (u ++ (e ++ (41 ∷ [])))) r ∙ ap (λ x. b ++ (40 ∷ x)) (append_assoc u (e ++ (41 ∷ [])) r ∙ ap (λ x. u ++ x) (append_assoc e (41 ∷ []) r)))
      ∙ factor_open trees (within trees (suc n)) (b ++ (40 ∷ w)) (40 ∷ w) (sym (skip_to 40 w bs refl)) refl
      ∙ ap closed (deeper w
      ∙ sum_whole u t h (e ++ (41 ∷ r)) (first_no_digit 41 r es refl) (ap (λ x. is_star (first x)) q) (ap (λ x. is_sign (first x)) q))
      ∙ closed_yes 41 t (e ++ (41 ∷ r)) (41 ∷ r) (sym q) refl
    where
      deeper : (w : List ℕ) → within trees (suc n) w ≡ sum trees (within trees n) w
      deeper w = unfold within in refl

pub complete : {l : Level} {n : ℕ} {u : List ℕ} {t : Tree} → Reads l n u t → Claim l n u t
complete (reads_number {n = n} bs dg h) = number_read n bs dg h
complete (reads_place {n = n} bs h) = λ r nd. place_read n bs h r
complete (reads_parentheses {n = n} {u = u} {t = t} bs d es) = parentheses_read n u t bs (complete d) es
complete (reads_one {n = n} {u = u} {t = t} d) = one_read n u t (complete d)
complete (reads_times {n = n} {u = u} {v = v} {s = s} {t = t} d bs e) = times_read n u v s t (complete d) bs (complete e)
complete (reads_alone {n = n} {u = u} {t = t} d) = alone_read n u t (complete d)
complete (reads_plus {n = n} {u = u} {v = v} {s = s} {t = t} d bs e) = signed_read n 43 refl refl refl refl u v s t (complete d) bs (complete e)
complete (reads_minus {n = n} {u = u} {v = v} {s = s} {t = t} d bs e) = signed_read n 45 refl refl refl refl u v s t (complete d) bs (complete e)

-- an expression and something behind it in which none goes on
pub reads_complete : {n : ℕ} {u : List ℕ} {t : Tree} → Reads a_sum n u t → (r : List ℕ) → Ends r → sum trees (within trees n) (u ++ r) ≡ got t r
reads_complete {n} {u} {t} d r e = sum_whole n u t (complete d) r e.digit e.star e.sign

-- a text begins with no two expressions that end
pub unambiguous : {n : ℕ} {u v : List ℕ} {s t : Tree} (q r : List ℕ) → Reads a_sum n u s → Ends q → Reads a_sum n v t → Ends r → u ++ q ≡ v ++ r → (s ≡ t) × (q ≡ r)
unambiguous {n} {u} {v} {s} {t} q r d e f g h =
    let same : got s q ≡ got t r = sym (reads_complete d q e) ∙ ap (sum trees (within trees n)) h ∙ reads_complete f r g in
    (cc, cc)
