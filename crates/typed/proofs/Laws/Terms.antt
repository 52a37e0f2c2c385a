-- Terms, parts and trees, fed: each by the bytes of its records.
-- A coefficient is 0, and gives no term, or not; a part is within refusal 17's limits or not. Assumes nothing.
use mathlib.Core.Path.{◌≡◌, refl, sym, ap, ◌∙◌}
use mathlib.Core.Bool.{true, false, cond}
use mathlib.Core.List.{List, [], ◌∷◌}
use Prim.Native.Nat.{ℕ, zero, suc, ◌+◌, ◌≤◌, ◌<◌}
use native.Mathlib.Numerals.{add-one}
use native.Mathlib.Omega.{arith}
use lib.IntN.{ℤ, pos, negsuc}
use lib.ListN.{length, get_or, drop, drop_of_length-le}
use lib.Seq.{drop-cons}
use Rattle.meaning.specs.Records.{output_record, term_record}
use Rattle.expression.specs.Grammar.{Tree, fold}
use Rattle.expression.specs.Parts.{Part, parts, is_zero}
use Rattle.expression.specs.bridge.Text.{Read, refused, got, map_read}
use Rattle.expression.proofs.Laws.Folds.{map_map, map_refused}
use Rattle.typed.specs.Records.{part_of, constant, coefficients, within17}
use Rattle.typed.specs.bridge.Stream.{State, feed, beyond17, noted17, feed_terms, feed_part, feed_part_past17}

pub no_term : (p : ℕ) (k : ℤ) (st : State) → k ≡ pos 0 → st ≡ feed_terms p (k ∷ []) st
no_term p k st e = ap (λ z. feed_terms p (z ∷ []) st) (sym e)

one_term : (p : ℕ) (k : ℤ) (st : State) → is_zero k ≡ false → feed (term_record (record { position = p; coefficient = k })) st ≡ feed_terms p (k ∷ []) st
one_term p (pos zero) st e = let z : ◌≡◌ {A = ℕ} 1 0 = ap (λ b. cond b 1 0) e in absurd (omega arith)
one_term p (pos (suc a)) st e = refl
one_term p (negsuc a) st e = refl

pub term_fed : (p : ℕ) (k : ℤ) (st : State) {z : ℤ} {b : List ℕ} {end : State} → is_zero k ≡ false → z ≡ k → b ≡ term_record (record { position = p; coefficient = z }) → end ≡ feed b st
    → end ≡ feed_terms p (k ∷ []) st
term_fed p k st n e f g = g ∙ ap (λ b. feed b st) (f ∙ ap (λ z. term_record (record { position = p; coefficient = z })) e) ∙ one_term p k st n

-- the first coefficient, and then the others
terms_next : (p : ℕ) (k : ℤ) (ks : List ℤ) (st : State) → feed_terms (suc p) ks (feed_terms p (k ∷ []) st) ≡ feed_terms p (k ∷ ks) st
terms_next p (pos zero) ks st = refl
terms_next p (pos (suc a)) ks st = refl
terms_next p (negsuc a) ks st = refl

-- the coefficient of position p behind a constant, and then the others
pub terms_step : (ks : List ℤ) (p : ℕ) (st : State) {z : ℤ} {end : State} → p + 1 < length ks → z ≡ get_or ks (p + 1) (pos 0) → end ≡ feed_terms p (z ∷ []) st
    → feed_terms (p + 1) (drop (p + 1 + 1) ks) end ≡ feed_terms p (drop (p + 1) ks) st
terms_step ks p st h e f =
    ap (feed_terms (p + 1) (drop (p + 1 + 1) ks)) (f ∙ ap (λ z. feed_terms p (z ∷ []) st) e)
    ∙ rw (drop-cons ks (p + 1) (pos 0), add-one (p + 1), add-one p) (terms_next p (get_or ks (suc p) (pos 0)) (drop (suc (suc p)) ks) st)

pub terms_end : (ks : List ℤ) (p q : ℕ) (st : State) → length ks ≤ q → st ≡ feed_terms p (drop q ks) st
terms_end ks p q st h = rw (drop_of_length-le ks h)

module _ (p : Part) (st : State) where
  pub part_beyond : within17 p ≡ false → beyond17 st ≡ feed_part p st
  unfolding feed_part
  part_beyond e = rw e

  pub part_noted : within17 p ≡ false → noted17 st ≡ feed_part_past17 p st
  unfolding feed_part_past17
  part_noted e = rw e

  part_within : {z : ℤ} {b : List ℕ} {begun end : State} → z ≡ constant p → b ≡ output_record z → begun ≡ feed b st → end ≡ feed_terms 0 (coefficients p) begun
      → end ≡ feed_terms 0 (coefficients p) (feed (output_record (constant p)) st)
  part_within e f g h = h ∙ ap (feed_terms 0 (coefficients p)) (g ∙ ap (λ b. feed b st) (f ∙ ap output_record e))

  pub part_fed : {z : ℤ} {b : List ℕ} {begun end : State} → within17 p ≡ true → z ≡ constant p → b ≡ output_record z → begun ≡ feed b st → end ≡ feed_terms 0 (coefficients p) begun
      → end ≡ feed_part p st
  unfolding feed_part
  part_fed w e f g h = rw w (part_within e f g h)

  pub part_fed_past17 : {z : ℤ} {b : List ℕ} {begun end : State} → within17 p ≡ true → z ≡ constant p → b ≡ output_record z → begun ≡ feed b st → end ≡ feed_terms 0 (coefficients p) begun
      → end ≡ feed_part_past17 p st
  unfolding feed_part_past17
  part_fed_past17 w e f g h = rw w (part_within e f g h)

-- a tree, by the part that was read, however a part is fed
module _ (feed_it : Part → State → State) (st : State) (d : Read Tree) where
  pub tree_refused : map_read (fold parts) d ≡ refused → refused ≡ map_read (λ t. feed_it (part_of t) st) d
  tree_refused e = sym (map_refused (λ p. feed_it p st)) ∙ ap (map_read (λ p. feed_it p st)) (sym e) ∙ map_map (λ p. feed_it p st) (fold parts) d

  pub tree_fed : {p : Part} {rest : List ℕ} {end : State} → map_read (fold parts) d ≡ got p rest → end ≡ feed_it p st → got end rest ≡ map_read (λ t. feed_it (part_of t) st) d
  unfolding map_read
  tree_fed {rest = rest} e f = ap (λ x. got x rest) f ∙ ap (map_read (λ p. feed_it p st)) (sym e) ∙ map_map (λ p. feed_it p st) (fold parts) d
