-- The bytes of a record hold what is read from them, and what eight bytes are read to has those bytes.
-- Numbers by dividing by 256 and by the two cases of a sign; records by the tests of their kind.
use mathlib.Core.Bool.{Bool, true, false, cond}
use mathlib.Core.List.{List, [], ◌∷◌}
use Rattle.std.specs.Prelude.{None, Some}
use mathlib.Core.Logic.{◌≢◌}
use mathlib.Core.Path.{◌≡◌, refl, sym, ap, subst, ◌∙◌}
use Prim.Native.Nat.{ℕ, zero, suc, ◌+◌, ◌*◌, ◌-◌, ◌/◌, ◌%◌, ◌^◌, ◌≤◌, ◌<◌}
use native.Mathlib.Decide.{ℕ_discrete}
use native.Mathlib.Nat.{mod-eq_of_lt, div-eq_of_lt, add-mul-div_left, add-mul-mod_self_left}
use native.Mathlib.Omega.{arith}
use lib.Dec.{T, eqb, ltb, leb→le, le→leb, ltb→lt, nltb→le, eqb→eq, lit<}
use lib.IntN.{ℤ, pos, negsuc, sub_ℕ}
use lib.ListN.{length}
use Rattle.lists.specs.Lists.{Each}
use Rattle.lists.specs.Decide.{all_of}
use Rattle.lists.proofs.Laws.Tests.{of_cond, of_T, holds, to_all_of, by_cases, neqb→ne}
use Rattle.lists.proofs.Laws.Each.{all_each}
use Rattle.meaning.specs.Table.{Range, is_shift, Mark, unmarked, marked}
use Rattle.meaning.specs.Record.{Record, rule, range, output, term, default, hexadecimal, mark_of, zeros, decode}
use Rattle.meaning.specs.Reader.{signed}
use Rattle.meaning.specs.WellFormed.{WellFormedRange, Signed}
use Rattle.meaning.specs.Records.{Bytes, little_endian, twos_complement, rule_record, range_record, output_record, term_record, mark_byte, default_record, digit_record}
use Rattle.meaning.proofs.Laws.Decoding.{only_if_lem, accepts, decode_rule, decode_range, decode_output, decode_term, decode_default, decode_hexadecimal, decode_unknown}

-- numbers of bytes

first_byte : (n a x : ℕ) → a < 256 → little_endian (suc n) (a + 256 * x) ≡ a ∷ little_endian n x
unfolding little_endian
first_byte n a x h =
    let e : (a + 256 * x) % 256 ≡ a = add-mul-mod_self_left a 256 x ∙ mod-eq_of_lt h in
    let f : (a + 256 * x) / 256 ≡ x = omega (arith, add-mul-div_left a x (lit< {m = 0} {n = 256} tt), div-eq_of_lt h) in
    cc

last_byte : (a : ℕ) → a < 256 → little_endian 1 a ≡ a ∷ []
unfolding little_endian
last_byte a h = ap (λ x. x ∷ []) (mod-eq_of_lt h)

two_bytes : (a b : ℕ) → a < 256 → b < 256 → little_endian 2 (a + 256 * b) ≡ a ∷ b ∷ []
two_bytes a b h k = first_byte 1 a b h ∙ ap (λ l. a ∷ l) (last_byte b k)

four_bytes : (a b c d : ℕ) → a < 256 → b < 256 → c < 256 → d < 256 → little_endian 4 (a + 256 * b + 65536 * (c + 256 * d)) ≡ a ∷ b ∷ c ∷ d ∷ []
four_bytes a b c d h k l m =
    let e : a + 256 * b + 65536 * (c + 256 * d) ≡ a + 256 * (b + 256 * (c + 256 * d)) = omega arith in
    ap (little_endian 4) e
    ∙ first_byte 3 a (b + 256 * (c + 256 * d)) h
    ∙ ap (λ x. a ∷ x) (first_byte 2 b (c + 256 * d) k ∙ ap (λ x. b ∷ x) (two_bytes c d l m))

pub two_read : (x : ℕ) → x < 65536 → x % 256 + 256 * (x / 256 % 256) ≡ x
two_read x h = omega arith

four_read : (x : ℕ) → x < 4294967296 → x % 256 + 256 * (x / 256 % 256) + 65536 * (x / 256 / 256 % 256 + 256 * (x / 256 / 256 / 256 % 256)) ≡ x
four_read x h = omega arith

-- signed numbers of n bits

module _ (n : ℕ) (half : 2 ^ n ≡ 2 * 2 ^ (n - 1)) where
  -- a number below 2 ^ n is itself, or less by 2 ^ n
  signed_by : (P : ℤ → Type 0) (x : ℕ) → x < 2 ^ n → (x < 2 ^ (n - 1) → P (pos x)) → (2 ^ (n - 1) ≤ x → P (negsuc (2 ^ n - suc x))) → P (signed n x)
  unfolding signed
  signed_by P x h p q =
      of_cond P (ltb x (2 ^ (n - 1))) (pos x) (sub_ℕ x (2 ^ n)) (λ t. p (ltb→lt x (2 ^ (n - 1)) t))
      (λ u.
      of_cond P (ltb x (2 ^ n)) (negsuc (2 ^ n - suc x)) (pos (x - 2 ^ n)) (λ _. q (nltb→le x (2 ^ (n - 1)) u))
      (λ t. let k : 2 ^ n ≤ x = nltb→le x (2 ^ n) t in absurd (omega arith)))

  pub bits_of_signed : (x : ℕ) → x < 2 ^ n → twos_complement n (signed n x) ≡ x
  unfolding twos_complement
  bits_of_signed x h = signed_by (λ z. twos_complement n z ≡ x) x h (λ _. refl) (λ _. omega arith)

  pub signed_fits : (x : ℕ) → x < 2 ^ n → Signed n (signed n x)
  signed_fits x h = signed_by (Signed n) x h (λ k. k) (λ k. omega arith)

  pub signed_named : (x : ℕ) → x < 2 ^ n → 1 ≤ x → signed n x ≢ pos 0
  signed_named x h p =
      signed_by (λ z. z ≢ pos 0) x h
      (λ _ e. let z : x ≡ 0 = cc in omega arith)
      (λ _ e. let z : ◌≡◌ {A = ℕ} 0 1 = cc in omega arith)

  pub bits_below : (z : ℤ) → Signed n z → twos_complement n z < 2 ^ n
  unfolding twos_complement
  bits_below (pos x) h = omega arith
  bits_below (negsuc x) h = omega arith

  pub bits_named : (z : ℤ) → Signed n z → z ≢ pos 0 → 1 ≤ twos_complement n z
  unfolding twos_complement
  bits_named (pos zero) h d = absurd (d refl)
  bits_named (pos (suc x)) h d = omega arith
  bits_named (negsuc x) h d = omega arith

  pub signed_of_bits : (z : ℤ) → Signed n z → signed n (twos_complement n z) ≡ z
  unfolding twos_complement
  signed_of_bits (pos x) h = signed_by (λ y. y ≡ pos x) x (omega arith) (λ _. refl) (λ k. absurd (omega arith))
  signed_of_bits (negsuc x) h =
      signed_by (λ y. y ≡ negsuc x) (2 ^ n - suc x) (omega arith) (λ k. absurd (omega arith))
      (λ _. let e : 2 ^ n - suc (2 ^ n - suc x) ≡ x = omega arith in ap negsuc e)

pub half_16 : 2 ^ 16 ≡ 2 * 2 ^ (16 - 1)
half_16 = refl

pub half_32 : 2 ^ 32 ≡ 2 * 2 ^ (32 - 1)
half_32 = refl

-- records

abbrev pub bytes_of : Record → List ℕ
bytes_of (rule k a) = rule_record k a
bytes_of (range p r) = range_record p r
bytes_of (output c) = output_record (signed 32 c)
bytes_of (term p a) = term_record (record { position = p; coefficient = signed 16 a })
bytes_of (default m) = default_record m
bytes_of (hexadecimal p shift) = digit_record p shift

pub no_record : {x : Record} → None ≡ Some x → ⊥
no_record e = let z : ◌≡◌ {A = ℕ} 0 1 = cc in omega arith

pub only_some : (tests : List Bool) (x y : Record) → only_if_lem tests x ≡ Some y → Each T tests × (x ≡ y)
only_some tests x y = by_cases (λ o. o ≡ Some y → Each T tests × (x ≡ y)) ((all_of tests, Some x) ∷ []) None (λ t e. (holds tests t, cc), λ _ e. absurd (no_record e))

all_zero_lem : (bs : List ℕ) → T (zeros bs) → Each (λ x. 0 ≡ x) bs
all_zero_lem bs t = all_each (eqb 0) bs (λ x. eqb→eq 0 x) t

flag : (x : ℕ) → x ≤ 1 → x ≡ cond (eqb x 1) 1 0
flag x h = of_cond (λ y. x ≡ y) (eqb x 1) 1 0 (λ t. eqb→eq x 1 t) (λ t. let d : x ≢ 1 = neqb→ne x 1 t in omega arith)

mark_flag : (x : ℕ) → x ≤ 1 → x ≡ mark_byte (mark_of (eqb x 1))
mark_flag x h = go (eqb x 1) refl
  where
    go : (b : Bool) → eqb x 1 ≡ b → x ≡ mark_byte (mark_of b)
    go true e = eqb→eq x 1 (rw e tt)
    go false e = let d : x ≢ 1 = neqb→ne x 1 (rw e tt) in omega arith

module _ (p b2 b3 b4 b5 b6 b7 : ℕ) (y : Record) where
  abbrev Of : ℕ → Type 0
  Of kind = Bytes (kind ∷ p ∷ b2 ∷ b3 ∷ b4 ∷ b5 ∷ b6 ∷ b7 ∷ []) → decode (kind ∷ p ∷ b2 ∷ b3 ∷ b4 ∷ b5 ∷ b6 ∷ b7 ∷ []) ≡ Some y →
      kind ∷ p ∷ b2 ∷ b3 ∷ b4 ∷ b5 ∷ b6 ∷ b7 ∷ [] ≡ bytes_of y

  of_rule : Of 1
  of_rule s e =
      let o = only_some _ _ y (sym (decode_rule p b2 b3 b4 b5 b6 b7) ∙ e) in
      let flag-2 : b2 ≡ cond (eqb b2 1) 1 0 = flag b2 (leb→le b2 1 o.0.1.1.0) in
      let zero-3 : b3 ≡ 0 = eqb→eq b3 0 o.0.1.1.1.0 in
      let zeros-4 : Each (λ x. 0 ≡ x) (b4 ∷ b5 ∷ []) = all_zero_lem (b4 ∷ b5 ∷ []) o.0.1.1.1.1.0 in
      let zeros-6 : Each (λ x. 0 ≡ x) (b6 ∷ b7 ∷ []) = all_zero_lem (b6 ∷ b7 ∷ []) o.0.1.1.1.1.1.0 in
      let bytes : 1 ∷ p ∷ b2 ∷ b3 ∷ b4 ∷ b5 ∷ b6 ∷ b7 ∷ [] ≡ rule_record p (eqb b2 1) = cc in
      bytes ∙ ap bytes_of o.1

  of_range : Of 2
  of_range s e =
      let o = only_some _ _ y (sym (decode_range p b2 b3 b4 b5 b6 b7) ∙ e) in
      let zeros-2 : Each (λ x. 0 ≡ x) (b2 ∷ b3 ∷ []) = all_zero_lem (b2 ∷ b3 ∷ []) o.0.1.0 in
      let low = two_bytes b4 b5 s.1.1.1.1.0 s.1.1.1.1.1.0 in
      let high = two_bytes b6 b7 s.1.1.1.1.1.1.0 s.1.1.1.1.1.1.1.0 in
      let r : Range = record { lowest = b4 + 256 * b5; highest = b6 + 256 * b7 } in
      let bytes : 2 ∷ p ∷ b2 ∷ b3 ∷ b4 ∷ b5 ∷ b6 ∷ b7 ∷ [] ≡ range_record p r = rw (low, high) (cc) in
      bytes ∙ ap bytes_of o.1

  of_output : Of 3
  of_output s e =
      let o = only_some _ _ y (sym (decode_output p b2 b3 b4 b5 b6 b7) ∙ e) in
      let zero-1 : p ≡ 0 = eqb→eq p 0 o.0.0 in
      let zeros-2 : Each (λ x. 0 ≡ x) (b2 ∷ b3 ∷ []) = all_zero_lem (b2 ∷ b3 ∷ []) o.0.1.0 in
      let small : Each (λ x. x < 256) (b4 ∷ b5 ∷ b6 ∷ b7 ∷ []) = s.1.1.1.1 in
      let x = b4 + 256 * b5 + 65536 * (b6 + 256 * b7) in
      let constant = bits_of_signed 32 half_32 x (let l : x < 4294967296 = omega arith in l) in
      let all = four_bytes b4 b5 b6 b7 small.0 small.1.0 small.1.1.0 small.1.1.1.0 in
      let bytes : 3 ∷ p ∷ b2 ∷ b3 ∷ b4 ∷ b5 ∷ b6 ∷ b7 ∷ [] ≡ output_record (signed 32 x) = rw (constant, all) (cc) in
      bytes ∙ ap bytes_of o.1

  of_term : Of 4
  of_term s e =
      let o = only_some _ _ y (sym (decode_term p b2 b3 b4 b5 b6 b7) ∙ e) in
      let zeros-2 : Each (λ x. 0 ≡ x) (b2 ∷ b3 ∷ []) = all_zero_lem (b2 ∷ b3 ∷ []) o.0.1.0 in
      let zeros-6 : Each (λ x. 0 ≡ x) (b6 ∷ b7 ∷ []) = all_zero_lem (b6 ∷ b7 ∷ []) o.0.1.1.0 in
      let small : Each (λ x. x < 256) (b4 ∷ b5 ∷ []) = (s.1.1.1.1.0, (s.1.1.1.1.1.0, tt)) in
      let x = b4 + 256 * b5 in
      let coefficient = bits_of_signed 16 half_16 x (let l : x < 65536 = omega arith in l) in
      let both_bytes = two_bytes b4 b5 small.0 small.1.0 in
      let bytes : 4 ∷ p ∷ b2 ∷ b3 ∷ b4 ∷ b5 ∷ b6 ∷ b7 ∷ [] ≡ term_record (record { position = p; coefficient = signed 16 x }) = rw (coefficient, both_bytes) (cc) in
      bytes ∙ ap bytes_of o.1

  of_default : Of 5
  of_default s e =
      let o = only_some _ _ y (sym (decode_default p b2 b3 b4 b5 b6 b7) ∙ e) in
      let mark-1 : p ≡ mark_byte (mark_of (eqb p 1)) = mark_flag p (leb→le p 1 o.0.0) in
      let zeros-2 : Each (λ x. 0 ≡ x) (b2 ∷ b3 ∷ []) = all_zero_lem (b2 ∷ b3 ∷ []) o.0.1.0 in
      let zeros-4 : Each (λ x. 0 ≡ x) (b4 ∷ b5 ∷ []) = all_zero_lem (b4 ∷ b5 ∷ []) o.0.1.1.0 in
      let zeros-6 : Each (λ x. 0 ≡ x) (b6 ∷ b7 ∷ []) = all_zero_lem (b6 ∷ b7 ∷ []) o.0.1.1.1.0 in
      let bytes : 5 ∷ p ∷ b2 ∷ b3 ∷ b4 ∷ b5 ∷ b6 ∷ b7 ∷ [] ≡ default_record (mark_of (eqb p 1)) = cc in
      bytes ∙ ap bytes_of o.1

  of_hexadecimal : Of 6
  of_hexadecimal s e =
      let o = only_some _ _ y (sym (decode_hexadecimal p b2 b3 b4 b5 b6 b7) ∙ e) in
      let zero-3 : b3 ≡ 0 = eqb→eq b3 0 o.0.1.1.0 in
      let zeros-4 : Each (λ x. 0 ≡ x) (b4 ∷ b5 ∷ []) = all_zero_lem (b4 ∷ b5 ∷ []) o.0.1.1.1.0 in
      let zeros-6 : Each (λ x. 0 ≡ x) (b6 ∷ b7 ∷ []) = all_zero_lem (b6 ∷ b7 ∷ []) o.0.1.1.1.1.0 in
      let bytes : 6 ∷ p ∷ b2 ∷ b3 ∷ b4 ∷ b5 ∷ b6 ∷ b7 ∷ [] ≡ digit_record p b2 = cc in
      bytes ∙ ap bytes_of o.1

  of_kind : (kind : ℕ) → Of kind
  of_kind kind s e =
      elim (ℕ_discrete kind 1) [
        | yes k ↦ subst Of (sym k) of_rule s e
        | no h1 ↦ elim (ℕ_discrete kind 2) [
          | yes k ↦ subst Of (sym k) of_range s e
          | no h2 ↦ elim (ℕ_discrete kind 3) [
            | yes k ↦ subst Of (sym k) of_output s e
            | no h3 ↦ elim (ℕ_discrete kind 4) [
              | yes k ↦ subst Of (sym k) of_term s e
              | no h4 ↦ elim (ℕ_discrete kind 5) [
                | yes k ↦ subst Of (sym k) of_default s e
                | no h5 ↦ elim (ℕ_discrete kind 6) [
                  | yes k ↦ subst Of (sym k) of_hexadecimal s e
                  | no h6 ↦ absurd (no_record (sym (decode_unknown kind _ h1 h2 h3 h4 h5 h6) ∙ e))
                ]
              ]
            ]
          ]
        ]
      ]

-- what eight bytes are read to has those bytes
pub encode_decode : (b : List ℕ) → length b ≡ 8 → Bytes b → (x : Record) → decode b ≡ Some x → b ≡ bytes_of x
encode_decode [] l s x e = absurd (omega arith)
encode_decode (a ∷ []) l s x e = absurd (omega arith)
encode_decode (a ∷ b ∷ []) l s x e = absurd (omega arith)
encode_decode (a ∷ b ∷ c ∷ []) l s x e = absurd (omega arith)
encode_decode (a ∷ b ∷ c ∷ d ∷ []) l s x e = absurd (omega arith)
encode_decode (a ∷ b ∷ c ∷ d ∷ f ∷ []) l s x e = absurd (omega arith)
encode_decode (a ∷ b ∷ c ∷ d ∷ f ∷ g ∷ []) l s x e = absurd (omega arith)
encode_decode (a ∷ b ∷ c ∷ d ∷ f ∷ g ∷ h ∷ []) l s x e = absurd (omega arith)
encode_decode (a ∷ b ∷ c ∷ d ∷ f ∷ g ∷ h ∷ i ∷ []) l s x e = of_kind b c d f g h i x a s e
encode_decode (a ∷ b ∷ c ∷ d ∷ f ∷ g ∷ h ∷ i ∷ j ∷ k) l s x e = absurd (omega arith)

-- and the bytes of a record are read to it

only_if : (tests : List Bool) (x : Record) → Each T tests → only_if_lem tests x ≡ Some x
only_if tests x h = sym (accepts tests x (of_T (all_of tests) (to_all_of tests h)))

pub read_rule : (k : ℕ) (a : Bool) → 1 ≤ k → k ≤ 8 → decode (rule_record k a) ≡ Some (rule k a)
read_rule k true h l = decode_rule k 1 0 0 0 0 0 ∙ only_if _ _ (le→leb 1 k h, (le→leb k 8 l, (tt, (tt, (tt, (tt, tt))))))
read_rule k false h l = decode_rule k 0 0 0 0 0 0 ∙ only_if _ _ (le→leb 1 k h, (le→leb k 8 l, (tt, (tt, (tt, (tt, tt))))))

pub read_range : (p : ℕ) (r : Range) → p ≤ 7 → WellFormedRange r → decode (range_record p r) ≡ Some (range p r)
unfolding little_endian
read_range p r h w =
    let o : r.lowest ≤ r.highest = w.ordered in
    let c : r.highest < 65536 = w.character in
    let lo : r.lowest % 256 + 256 * (r.lowest / 256 % 256) ≡ r.lowest = two_read r.lowest (omega arith) in
    let hi : r.highest % 256 + 256 * (r.highest / 256 % 256) ≡ r.highest = two_read r.highest c in
    decode_range p 0 0 (r.lowest % 256) (r.lowest / 256 % 256) (r.highest % 256) (r.highest / 256 % 256)
    ∙ rw (lo, hi) (only_if _ _ (le→leb p 7 h, (tt, (le→leb _ _ o, tt))))

pub read_output : (c : ℤ) → Signed 32 c → decode (output_record c) ≡ Some (output (twos_complement 32 c))
unfolding little_endian
read_output c s =
    let x = twos_complement 32 c in
    decode_output 0 0 0 (x % 256) (x / 256 % 256) (x / 256 / 256 % 256) (x / 256 / 256 / 256 % 256)
    ∙ rw (four_read x (bits_below 32 half_32 c s)) (only_if _ _ (tt, (tt, tt)))

pub read_term : (p : ℕ) (a : ℤ) → p ≤ 7 → Signed 16 a → a ≢ pos 0 →
    decode (term_record (record { position = p; coefficient = a })) ≡ Some (term p (twos_complement 16 a))
unfolding little_endian
read_term p a h s d =
    let x = twos_complement 16 a in
    decode_term p 0 0 (x % 256) (x / 256 % 256) 0 0
    ∙ rw (two_read x (bits_below 16 half_16 a s)) (only_if _ _ (le→leb p 7 h, (tt, (tt, (le→leb 1 x (bits_named 16 half_16 a s d), tt)))))

pub read_default : (m : Mark) → decode (default_record m) ≡ Some (default m)
read_default unmarked = decode_default 0 0 0 0 0 0 0 ∙ only_if _ _ (tt, (tt, (tt, (tt, tt))))
read_default marked = decode_default 1 0 0 0 0 0 0 ∙ only_if _ _ (tt, (tt, (tt, (tt, tt))))

pub read_hexadecimal : (p shift : ℕ) → p ≤ 7 → T (is_shift shift) → decode (digit_record p shift) ≡ Some (hexadecimal p shift)
read_hexadecimal p shift h s = decode_hexadecimal p shift 0 0 0 0 0 ∙ only_if _ _ (le→leb p 7 h, (s, (tt, (tt, (tt, tt)))))
