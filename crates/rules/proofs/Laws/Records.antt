-- Eight bytes that fail a test of each kind are no record, and bytes that pass all of one kind's are that record.
-- A test of bytes passes exactly where the facts hold that it tests.
use Rattle.std.proofs.Common.{◌≡◌, ℕ, zero, suc, ◌+◌, ◌*◌, ◌≤◌, Bool, true, false, T, List, [], ◌∷◌, length, get_or, drop, refl, sym, ap, ◌∙◌, subst, arith, get_or-drop, take_all, eqb, le-leb, eq-eqb}
use lib.Dec.{leb→le, eqb→eq}
use Rattle.std.specs.Prelude.{None, Some}
use Rattle.lists.proofs.Laws.Tests.{holds, all_next, all_last, and_left, and_right, select_next, select_last}
use Rattle.meaning.specs.Table.{is_shift}
use Rattle.meaning.specs.Record.{rule, range, output, term, default, hexadecimal, zeros, decode, mark_of}
use Rattle.meaning.proofs.Laws.Decoding.{decode_at, accepts, decode_rule, decode_range, decode_output, decode_term, decode_default, decode_hexadecimal, FourShifts, shift_known, shift_unknown}
use Rattle.std.proofs.Common.{inl, inr}

-- a test that passes only where the false holds fails
fails : (t : Bool) → (T t → ⊥) → t ≡ false
fails true f = absurd (f tt)
fails false f = refl

-- bytes that are tested for zero are zero
zero_at : (xs : List ℕ) (i : ℕ) → T (zeros xs) → get_or xs i 0 ≡ 0
zero_at [] i t = refl
zero_at (x ∷ xs) zero t = sym (eqb→eq 0 x (and_left (eqb 0 x) (zeros xs) t))
zero_at (x ∷ xs) (suc i) t = zero_at xs i (and_right (eqb 0 x) (zeros xs) t)

-- the same of the bytes from number n on
zero_from : (b : List ℕ) (n i : ℕ) → T (zeros (drop n b)) → get_or b (n + i) 0 ≡ 0
zero_from b n i t = sym (get_or-drop n b i 0) ∙ zero_at (drop n b) i t

abbrev pub IsRule : List ℕ → Type 0
IsRule b = (get_or b 0 0 ≡ 1) × (1 ≤ get_or b 1 0) × (get_or b 1 0 ≤ 8) × (get_or b 2 0 ≤ 1)
    × (get_or b 3 0 ≡ 0) × (get_or b 4 0 ≡ 0) × (get_or b 5 0 ≡ 0) × (get_or b 6 0 ≡ 0) × (get_or b 7 0 ≡ 0)

abbrev pub IsRange : List ℕ → Type 0
IsRange b = (get_or b 0 0 ≡ 2) × (get_or b 1 0 ≤ 7) × (get_or b 2 0 ≡ 0) × (get_or b 3 0 ≡ 0)
    × (get_or b 4 0 + 256 * get_or b 5 0 ≤ get_or b 6 0 + 256 * get_or b 7 0)

abbrev pub IsOutput : List ℕ → Type 0
IsOutput b = (get_or b 0 0 ≡ 3) × (get_or b 1 0 ≡ 0) × (get_or b 2 0 ≡ 0) × (get_or b 3 0 ≡ 0)

abbrev pub IsTerm : List ℕ → Type 0
IsTerm b = (get_or b 0 0 ≡ 4) × (get_or b 1 0 ≤ 7) × (get_or b 2 0 ≡ 0) × (get_or b 3 0 ≡ 0) × (get_or b 6 0 ≡ 0) × (get_or b 7 0 ≡ 0)
    × (1 ≤ get_or b 4 0 + 256 * get_or b 5 0)

abbrev pub IsDefault : List ℕ → Type 0
IsDefault b = (get_or b 0 0 ≡ 5) × (get_or b 1 0 ≤ 1) × (get_or b 2 0 ≡ 0)
    × (get_or b 3 0 ≡ 0) × (get_or b 4 0 ≡ 0) × (get_or b 5 0 ≡ 0) × (get_or b 6 0 ≡ 0) × (get_or b 7 0 ≡ 0)

abbrev pub IsHexadecimal : List ℕ → ℕ → Type 0
IsHexadecimal b shift = (get_or b 0 0 ≡ 6) × (get_or b 1 0 ≤ 7) × (get_or b 2 0 ≡ shift)
    × (get_or b 3 0 ≡ 0) × (get_or b 4 0 ≡ 0) × (get_or b 5 0 ≡ 0) × (get_or b 6 0 ≡ 0) × (get_or b 7 0 ≡ 0)

pub none_of : (b : List ℕ) → (IsRule b → ⊥) → (IsRange b → ⊥) → (IsOutput b → ⊥) → (IsTerm b → ⊥) → (IsDefault b → ⊥) →
    (IsHexadecimal b 0 → ⊥) → (IsHexadecimal b 4 → ⊥) → (IsHexadecimal b 8 → ⊥) → (IsHexadecimal b 12 → ⊥) → None ≡ decode b
unfolding decode
none_of b r g o t d h0 h4 h8 h12 =
    let after : (n i : ℕ) → T (zeros (drop n b)) → get_or b (n + i) 0 ≡ 0 = zero_from b in
    let no_shift : (p : get_or b 0 0 ≡ 6) (q : get_or b 1 0 ≤ 7) → T (zeros (drop 3 b)) → FourShifts (get_or b 2 0) → ⊥ =
    (λ p q z. elim [
      | inl e ↦ h0 (p, q, e, after 3 0 z, after 3 1 z, after 3 2 z, after 3 3 z, after 3 4 z)
      | inr (inl e) ↦ h4 (p, q, e, after 3 0 z, after 3 1 z, after 3 2 z, after 3 3 z, after 3 4 z)
      | inr (inr (inl e)) ↦ h8 (p, q, e, after 3 0 z, after 3 1 z, after 3 2 z, after 3 3 z, after 3 4 z)
      | inr (inr (inr e)) ↦ h12 (p, q, e, after 3 0 z, after 3 1 z, after 3 2 z, after 3 3 z, after 3 4 z)
    ]) in
    sym (
    select_next _ _ _ (fails _ (λ x. let f = holds _ x in let z = f.1.1.1.1.0 in
    r (eqb→eq _ _ f.0, leb→le _ _ f.1.0, leb→le _ _ f.1.1.0, leb→le _ _ f.1.1.1.0, after 3 0 z, after 3 1 z, after 3 2 z, after 3 3 z, after 3 4 z)))
    ∙ select_next _ _ _ (fails _ (λ x. let f = holds _ x in let z = zero_at (get_or b 2 0 ∷ get_or b 3 0 ∷ []) in
    g (eqb→eq _ _ f.0, leb→le _ _ f.1.0, z 0 f.1.1.0, z 1 f.1.1.0, leb→le _ _ f.1.1.1.0)))
    ∙ select_next _ _ _ (fails _ (λ x. let f = holds _ x in let z = zero_at (get_or b 1 0 ∷ get_or b 2 0 ∷ get_or b 3 0 ∷ []) in
    o (eqb→eq _ _ f.0, z 0 f.1.0, z 1 f.1.0, z 2 f.1.0)))
    ∙ select_next _ _ _ (fails _ (λ x. let f = holds _ x in let z = zero_at (get_or b 2 0 ∷ get_or b 3 0 ∷ (get_or b 6 0 + 256 * get_or b 7 0) ∷ []) in
    let high : get_or b 6 0 + 256 * get_or b 7 0 ≡ 0 = z 2 f.1.1.0 in
    t (eqb→eq _ _ f.0, leb→le _ _ f.1.0, z 0 f.1.1.0, z 1 f.1.1.0, omega arith, omega arith, leb→le _ _ f.1.1.1.0)))
    ∙ select_next _ _ _ (fails _ (λ x. let f = holds _ x in let z = f.1.1.0 in
    d (eqb→eq _ _ f.0, leb→le _ _ f.1.0, after 2 0 z, after 2 1 z, after 2 2 z, after 2 3 z, after 2 4 z, after 2 5 z)))
    ∙ select_next _ _ _ (fails _ (λ x. let f = holds _ x in
    subst T (shift_unknown _ (no_shift (eqb→eq _ _ f.0) (leb→le _ _ f.1.0) f.1.1.1.0)) f.1.1.0))
    ∙ select_last None
    )

-- bytes that pass all tests of a kind

-- eight bytes are the list of them
whole : (b : List ℕ) (kind : ℕ) → length b ≡ 8 → get_or b 0 0 ≡ kind → decode b ≡
    decode (kind ∷ get_or b 1 0 ∷ get_or b 2 0 ∷ get_or b 3 0 ∷ get_or b 4 0 ∷ get_or b 5 0 ∷ get_or b 6 0 ∷ get_or b 7 0 ∷ [])
whole b kind l e = ap decode (sym (take_all 8 b (omega arith))) ∙ decode_at b 0 kind (omega arith) e

zero_is : (x : ℕ) → x ≡ 0 → eqb x 0 ≡ true
zero_is x e = eq-eqb x 0 e

two_zeros : (x y : ℕ) → x ≡ 0 → y ≡ 0 → zeros (x ∷ y ∷ []) ≡ true
two_zeros x y e f = rw (e, f) refl

module _ (b : List ℕ) (l : length b ≡ 8) where
  pub rule_of : IsRule b → Some (rule (get_or b 1 0) (eqb (get_or b 2 0) 1)) ≡ decode b
  rule_of f =
      accepts _ _ (
      all_next _ (le-leb 1 _ f.1) ∙ all_next _ (le-leb _ 8 f.2) ∙ all_next _ (le-leb _ 1 f.3) ∙ all_next _ (zero_is _ f.4)
      ∙ all_next _ (two_zeros _ _ f.5 f.6) ∙ all_last _ ∙ two_zeros _ _ f.7 f.8
      ) ∙ sym (whole b 1 l f.0 ∙ decode_rule _ _ _ _ _ _ _)

  pub range_of : IsRange b →
      Some (range (get_or b 1 0) (record { lowest = get_or b 4 0 + 256 * get_or b 5 0; highest = get_or b 6 0 + 256 * get_or b 7 0 })) ≡ decode b
  range_of f =
      accepts _ _ (all_next _ (le-leb _ 7 f.1) ∙ all_next _ (two_zeros _ _ f.2 f.3) ∙ all_last _ ∙ le-leb _ _ f.4)
      ∙ sym (whole b 2 l f.0 ∙ decode_range _ _ _ _ _ _ _)

  pub output_of : IsOutput b →
      Some (output (get_or b 4 0 + 256 * get_or b 5 0 + 65536 * (get_or b 6 0 + 256 * get_or b 7 0))) ≡ decode b
  output_of f =
      accepts _ _ (all_next _ (zero_is _ f.1) ∙ all_last _ ∙ two_zeros _ _ f.2 f.3) ∙ sym (whole b 3 l f.0 ∙ decode_output _ _ _ _ _ _ _)

  pub term_of : IsTerm b → Some (term (get_or b 1 0) (get_or b 4 0 + 256 * get_or b 5 0)) ≡ decode b
  term_of f =
      accepts _ _ (all_next _ (le-leb _ 7 f.1) ∙ all_next _ (two_zeros _ _ f.2 f.3) ∙ all_next _ (two_zeros _ _ f.4 f.5) ∙ all_last _ ∙ le-leb 1 _ f.6)
      ∙ sym (whole b 4 l f.0 ∙ decode_term _ _ _ _ _ _ _)

  pub default_of : IsDefault b → Some (default (mark_of (eqb (get_or b 1 0) 1))) ≡ decode b
  default_of f =
      accepts _ _ (all_next _ (le-leb _ 1 f.1) ∙ all_next _ (two_zeros _ _ f.2 f.3) ∙ all_next _ (two_zeros _ _ f.4 f.5) ∙ all_last _ ∙ two_zeros _ _ f.6 f.7)
      ∙ sym (whole b 5 l f.0 ∙ decode_default _ _ _ _ _ _ _)

  pub hexadecimal_of : (shift : ℕ) → FourShifts shift → IsHexadecimal b shift → Some (hexadecimal (get_or b 1 0) (get_or b 2 0)) ≡ decode b
  hexadecimal_of shift s f =
      accepts _ _ (
      all_next _ (le-leb _ 7 f.1) ∙ all_next _ (ap is_shift f.2 ∙ shift_known shift s) ∙ all_next _ (zero_is _ f.3)
      ∙ all_next _ (two_zeros _ _ f.4 f.5) ∙ all_last _ ∙ two_zeros _ _ f.6 f.7
      ) ∙ sym (whole b 6 l f.0 ∙ decode_hexadecimal _ _ _ _ _ _ _)

-- all of them, by which the check proves the record reader
pub ruleset records = (none_of, rule_of, range_of, output_of, term_of, default_of, hexadecimal_of)
