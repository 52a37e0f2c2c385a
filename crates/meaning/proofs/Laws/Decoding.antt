-- What the eight bytes of a record decode to, for each kind, and what is known of a decoded record's fields.
-- The kind decides which of the tests can pass; bytes below 256 make numbers below 65536 and 2 ^ 32.
use mathlib.Core.Bool.{Bool, true, false}
use mathlib.Core.List.{List, [], ◌∷◌}
use Rattle.std.specs.Prelude.{Option, None, Some}
use mathlib.Core.Logic.{◌≢◌, ◌⊎◌, inl, inr}
use mathlib.Core.Path.{◌≡◌, refl, sym, ap, subst, ◌∙◌}
use Prim.Native.Nat.{ℕ, zero, suc, ◌+◌, ◌*◌, ◌^◌, ◌≤◌, ◌<◌}
use native.Mathlib.Nat.{add-zero, add-suc}
use native.Mathlib.Omega.{arith}
use borrow.Author.Tests.{eq-eqb, ne_eqb}
use lib.Dec.{T, eqb, leb, leb→le, eqb→eq}
use lib.ListN.{length, get_or, take, drop}
use lib.Seq.{drop-cons}
use Rattle.lists.specs.Lists.{Each, tab_from}
use Rattle.lists.specs.Decide.{all_of, select}
use Rattle.lists.proofs.Laws.Tests.{holds, by_cases, and_assoc, and-true, test_eq, to_T, one_fails, select_here, select_next, select_last}
use Rattle.lists.proofs.Laws.Each.{all_each, each_all}
use Rattle.meaning.specs.Table.{is_shift}
use Rattle.meaning.specs.Record.{Record, rule, range, output, term, default, hexadecimal, zeros, decode, mark_of}

-- the elements of a part

elements : (n : ℕ) (b : List ℕ) (i k : ℕ) → i + k + n ≤ length b → take n (drop (i + k) b) ≡ tab_from k n (λ j. get_or b (i + j) 0)
elements zero b i k h = refl
elements (suc n) b i k h =
    let l : i + k < length b = omega arith in
    rw (drop-cons b (i + k) 0 l, ← add-suc) (ap (λ r. get_or b (i + k) 0 ∷ r) (elements n b i (suc k) (omega arith)))

eight_elements : (b : List ℕ) (i : ℕ) → i + 8 ≤ length b → take 8 (drop i b) ≡
    get_or b i 0 ∷ get_or b (i + 1) 0 ∷ get_or b (i + 2) 0 ∷ get_or b (i + 3) 0 ∷ get_or b (i + 4) 0 ∷ get_or b (i + 5) 0 ∷ get_or b (i + 6) 0 ∷ get_or b (i + 7) 0 ∷ []
eight_elements b i h = rw add-zero at (elements 8 b i 0 (omega arith))

pub decode_at : (b : List ℕ) (i kind : ℕ) → i + 8 ≤ length b → get_or b i 0 ≡ kind → decode (take 8 (drop i b)) ≡
    decode (kind ∷ get_or b (i + 1) 0 ∷ get_or b (i + 2) 0 ∷ get_or b (i + 3) 0 ∷ get_or b (i + 4) 0 ∷ get_or b (i + 5) 0 ∷ get_or b (i + 6) 0 ∷ get_or b (i + 7) 0 ∷ [])
decode_at b i kind h e = rw (eight_elements b i h, e) refl

-- each kind: its record where all of its tests pass, and else none

abbrev pub only_if_lem : List Bool → Record → Option Record
only_if_lem tests x = select ((all_of tests, Some x) ∷ []) None

-- test number i fails; or all pass
pub refuses : (i : ℕ) (tests : List Bool) (x : Record) → get_or tests i true ≡ false → None ≡ only_if_lem tests x
refuses i tests x e = sym (select_next (Some x) [] None (one_fails i tests e) ∙ select_last None)

pub accepts : (tests : List Bool) (x : Record) → all_of tests ≡ true → Some x ≡ only_if_lem tests x
accepts tests x e = sym (select_here (Some x) [] None e)

pub zero_first : (a : ℕ) → eqb 0 a ≡ eqb a 0
zero_first a =
    test_eq (eqb 0 a) (eqb a 0)
    (λ t. to_T (eqb a 0) (eq-eqb a 0 (sym (eqb→eq 0 a t))))
    (λ t. to_T (eqb 0 a) (eq-eqb 0 a (sym (eqb→eq a 0 t))))

zero_word : (a b : ℕ) → eqb 0 (a + 256 * b) ≡ zeros (a ∷ b ∷ [])
zero_word a b =
    test_eq (eqb 0 (a + 256 * b)) (zeros (a ∷ b ∷ []))
    (λ t. let e : 0 ≡ a + 256 * b = eqb→eq 0 (a + 256 * b) t in
    each_all (eqb 0) (a ∷ b ∷ []) (λ x p. to_T (eqb 0 x) (eq-eqb 0 x p)) (omega arith, (omega arith, tt)))
    (λ t. let h : Each (λ x. 0 ≡ x) (a ∷ b ∷ []) = all_each (eqb 0) (a ∷ b ∷ []) (λ x. eqb→eq 0 x) t in
    to_T (eqb 0 (a + 256 * b)) (eq-eqb 0 (a + 256 * b) (omega arith)))

module _ (p b2 b3 b4 b5 b6 b7 : ℕ) where
  pub decode_rule : decode (1 ∷ p ∷ b2 ∷ b3 ∷ b4 ∷ b5 ∷ b6 ∷ b7 ∷ []) ≡
      only_if_lem (leb 1 p ∷ leb p 8 ∷ leb b2 1 ∷ eqb b3 0 ∷ zeros (b4 ∷ b5 ∷ []) ∷ zeros (b6 ∷ b7 ∷ []) ∷ []) (rule p (eqb b2 1))
  unfolding decode select all_of
  decode_rule = rw (← zero_first b3) (simp (and_assoc, and-true))

  pub decode_range : decode (2 ∷ p ∷ b2 ∷ b3 ∷ b4 ∷ b5 ∷ b6 ∷ b7 ∷ []) ≡
      only_if_lem (leb p 7 ∷ zeros (b2 ∷ b3 ∷ []) ∷ leb (b4 + 256 * b5) (b6 + 256 * b7) ∷ []) (range p (record { lowest = b4 + 256 * b5; highest = b6 + 256 * b7 }))
  unfolding decode select all_of
  decode_range = refl

  pub decode_output : decode (3 ∷ p ∷ b2 ∷ b3 ∷ b4 ∷ b5 ∷ b6 ∷ b7 ∷ []) ≡
      only_if_lem (eqb p 0 ∷ zeros (b2 ∷ b3 ∷ []) ∷ []) (output (b4 + 256 * b5 + 65536 * (b6 + 256 * b7)))
  unfolding decode select all_of
  decode_output = rw (← zero_first p) (simp (and_assoc, and-true))

  pub decode_term : decode (4 ∷ p ∷ b2 ∷ b3 ∷ b4 ∷ b5 ∷ b6 ∷ b7 ∷ []) ≡
      only_if_lem (leb p 7 ∷ zeros (b2 ∷ b3 ∷ []) ∷ zeros (b6 ∷ b7 ∷ []) ∷ leb 1 (b4 + 256 * b5) ∷ []) (term p (b4 + 256 * b5))
  unfolding decode select all_of
  decode_term = rw (← zero_word b6 b7) (simp (and_assoc, and-true))

  pub decode_default : decode (5 ∷ p ∷ b2 ∷ b3 ∷ b4 ∷ b5 ∷ b6 ∷ b7 ∷ []) ≡
      only_if_lem (leb p 1 ∷ zeros (b2 ∷ b3 ∷ []) ∷ zeros (b4 ∷ b5 ∷ []) ∷ zeros (b6 ∷ b7 ∷ []) ∷ []) (default (mark_of (eqb p 1)))
  unfolding decode select all_of
  decode_default = simp (and_assoc, and-true)

  pub decode_hexadecimal : decode (6 ∷ p ∷ b2 ∷ b3 ∷ b4 ∷ b5 ∷ b6 ∷ b7 ∷ []) ≡
      only_if_lem (leb p 7 ∷ is_shift b2 ∷ eqb b3 0 ∷ zeros (b4 ∷ b5 ∷ []) ∷ zeros (b6 ∷ b7 ∷ []) ∷ []) (hexadecimal p b2)
  unfolding decode select all_of
  decode_hexadecimal = rw (← zero_first b3) (simp (and_assoc, and-true))

pub decode_unknown : (kind : ℕ) (rest : List ℕ) → kind ≢ 1 → kind ≢ 2 → kind ≢ 3 → kind ≢ 4 → kind ≢ 5 → kind ≢ 6 → decode (kind ∷ rest) ≡ None
unfolding decode select all_of
decode_unknown kind rest h1 h2 h3 h4 h5 h6 =
    simp (ne_eqb kind 1 h1, ne_eqb kind 2 h2, ne_eqb kind 3 h3, ne_eqb kind 4 h4, ne_eqb kind 5 h5, ne_eqb kind 6 h6)

-- a shift, by a choice of four
abbrev pub FourShifts : ℕ → Type 0
FourShifts n = (n ≡ 0) ⊎ ((n ≡ 4) ⊎ ((n ≡ 8) ⊎ (n ≡ 12)))

pub shift_known : (n : ℕ) → FourShifts n → is_shift n ≡ true
shift_known n (inl e) = rw e refl
shift_known n (inr (inl e)) = rw e refl
shift_known n (inr (inr (inl e))) = rw e refl
shift_known n (inr (inr (inr e))) = rw e refl

pub shift_unknown : (n : ℕ) → (FourShifts n → ⊥) → is_shift n ≡ false
shift_unknown n h =
    simp (ne_eqb n 0 (λ e. h (inl e)), ne_eqb n 4 (λ e. h (inr (inl e))), ne_eqb n 8 (λ e. h (inr (inr (inl e)))), ne_eqb n 12 (λ e. h (inr (inr (inr e)))))

-- the fields of a decoded record

abbrev pub FittingRecord : Record → Type 0
FittingRecord (rule k a) = (1 ≤ k) × (k ≤ 8)
FittingRecord (range p r) = (p ≤ 7) × (r.lowest ≤ r.highest) × (r.highest < 65536)
FittingRecord (output c) = c < 2 ^ 32
FittingRecord (term p a) = (p ≤ 7) × (1 ≤ a) × (a < 65536)
FittingRecord (default k) = Unit {0}
FittingRecord (hexadecimal p shift) = (p ≤ 7) × T (is_shift shift)

abbrev IfRecord : Option Record → Type 0
IfRecord None = Unit {0}
IfRecord (Some x) = FittingRecord x

byte_at : (b : List ℕ) (i : ℕ) → Each (λ x. x < 256) b → get_or b i 0 < 256
byte_at [] i e = omega arith
byte_at (x ∷ b) zero e = e.0
byte_at (x ∷ b) (suc i) e = byte_at b i e.1

fits : (b : List ℕ) → Each (λ x. x < 256) b → IfRecord (decode b)
unfolding decode
fits b e =
    let lo : get_or b 4 0 + 256 * get_or b 5 0 < 65536 = omega (arith, byte_at b 4 e, byte_at b 5 e) in
    let hi : get_or b 6 0 + 256 * get_or b 7 0 < 65536 = omega (arith, byte_at b 6 e, byte_at b 7 e) in
    by_cases IfRecord _ None (
      λ t. let h = holds _ t in (leb→le _ _ h.1.0, leb→le _ _ h.1.1.0),
      λ _. (
        λ t. let h = holds _ t in (leb→le _ _ h.1.0, leb→le _ _ h.1.1.1.0, hi),
        λ _. (
          λ _. omega arith,
          λ _. (
            λ t. let h = holds _ t in (leb→le _ _ h.1.0, leb→le _ _ h.1.1.1.0, lo),
            λ _. (λ _. tt, λ _. (λ t. let h = holds _ t in (leb→le _ _ h.1.0, h.1.1.0), λ _. tt)),
          ),
        ),
      ),
    )

pub decode_fits : (b : List ℕ) → Each (λ x. x < 256) b → (x : Record) → decode b ≡ Some x → FittingRecord x
decode_fits b e x p = subst IfRecord p (fits b e)
