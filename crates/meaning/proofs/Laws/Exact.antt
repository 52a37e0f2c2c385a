-- A block writes modulo 65536 what its group writes exactly, where the values are characters.
-- A sum modulo 65536 differs from the signed sum by a multiple of 65536; below 65536 that leaves one number. A digit's one coefficient
-- picks its character out, of which 16 bits are enough for the digit.
use mathlib.Core.List.{List, [], ◌∷◌, ◌++◌, map}
use mathlib.Core.Logic.{◌≢◌}
use mathlib.Core.Path.{◌≡◌, refl, sym, ap, ap₂, subst, ◌∙◌}
use Prim.Native.Nat.{ℕ, zero, suc, ◌+◌, ◌*◌, ◌/◌, ◌%◌, ◌≤◌, ◌<◌, ◌-◌}
use native.Mathlib.Nat.{mul-zero, mul-suc, zero-mul, zero-add, add-zero, add_comm}
use native.Mathlib.Omega.{arith}
use borrow.Author.Tests.{le-ltb}
use lib.Dec.{T, eqb, eqb→eq, leb→le}
use lib.IntN.{ℤ, pos, negsuc, nat_abs, ◌+ℤ◌, ◌*ℤ◌, +ℤ_idr, +ℤ_assoc, *ℤ-zero, *ℤ_comm, suc_ℤ-*ℤ}
use lib.ListN.{length, get_or, take, drop, replicate}
use lib.Seq.{get_or-append-add, get_or-take, get_or-drop}
use Rattle.lists.specs.Lists.{Each, flat_map, tab_from}
use Rattle.lists.proofs.Laws.Tests.{or_cases}
use Rattle.lists.proofs.Laws.Each.{each_get_d}
use Rattle.lists.proofs.Laws.Parts.{length_pad, get_d_pad, get_d_rows}
use Rattle.lists.proofs.Laws.Sets.{tab_map}
use Rattle.meaning.specs.Table.{Output, sum, digit, Group, is_shift, Characters}
use Rattle.meaning.specs.Value.{dot, nibble, hex_digit, value, IsCharacter}
use Rattle.meaning.specs.Meaning.{written}
use Rattle.meaning.specs.Block.{word, bit, entry, block, at, word_sum, value_by, entry_value, block_output, block_size, entry_size}
use Rattle.meaning.proofs.Laws.Shape.{Within}
use Rattle.meaning.proofs.Laws.Seven.{sum_swap}

-- z and n differ by a multiple of 65536
record Same (z : ℤ) (n : ℕ) : Type 0 where
  under : ℕ
  over : ℕ
  eq : z +ℤ pos (65536 * under) ≡ pos (n + 65536 * over)

same_word : (z : ℤ) → Same z (word z)
unfolding word
same_word (pos n) = record { under = 0; over = n / 65536; eq = ap pos (omega arith) }
same_word (negsuc n) =
    record { under = n / 65536 + 1; over = 0; eq = rw (le-ltb (65536 * (n / 65536 + 1)) (suc n) (omega arith)) (ap pos (omega arith)) }

same_add : (z y : ℤ) (n m : ℕ) → Same z n → Same y m → Same (z +ℤ y) (n + m)
same_add z y n m h k =
    record {
      under = h.under + k.under;
      over = h.over + k.over;
      eq =
          ap (λ x. z +ℤ y +ℤ x) (ap pos (omega arith))
          ∙ sym (sum_swap z y (pos (65536 * h.under)) (pos (65536 * k.under)))
          ∙ ap₂ ◌+ℤ◌ h.eq k.eq
          ∙ ap pos (omega arith);
    }

same_mul : (a : ℤ) (n c : ℕ) → Same a n → Same (a *ℤ pos c) (n * c)
same_mul a n zero h = rw (*ℤ-zero, mul-zero) (record { under = 0; over = 0; eq = refl })
same_mul a n (suc c) h =
    let e : a *ℤ pos (suc c) ≡ a *ℤ pos c +ℤ a = *ℤ_comm a (pos (suc c)) ∙ suc_ℤ-*ℤ (pos c) a ∙ ap (λ x. x +ℤ a) (*ℤ_comm (pos c) a) in
    rw (e, mul-suc) (same_add (a *ℤ pos c) a (n * c) n (same_mul a n c h) h)

same_mod : (z : ℤ) (n : ℕ) → Same z n → Same z (n % 65536)
same_mod z n h = record { under = h.under; over = h.over + n / 65536; eq = h.eq ∙ ap pos (omega arith) }

same_one : (z : ℤ) (n m : ℕ) → Same z n → Same z m → n < 65536 → m < 65536 → n ≡ m
same_one z n m h k ln lm =
    let a = 65536 * h.under in
    let b = 65536 * k.under in
    let e : pos (n + 65536 * h.over + b) ≡ pos (m + 65536 * k.over + a) =
    ap (λ x. x +ℤ pos b) (sym h.eq) ∙ +ℤ_assoc z (pos a) (pos b) ∙ ap (λ x. z +ℤ pos x) (add_comm a b)
    ∙ sym (+ℤ_assoc z (pos b) (pos a)) ∙ ap (λ x. x +ℤ pos a) k.eq in
    let f : n + 65536 * h.over + b ≡ m + 65536 * k.over + a = ap nat_abs e in
    omega arith

sum_same : (z : ℤ) (v : ℕ) (ks : List ℤ) (w : List ℕ) → Same z v → Same (z +ℤ dot ks w) (word_sum v (map word ks) w)
unfolding dot word_sum
sum_same z v [] w h = rw +ℤ_idr h
sum_same z v (a ∷ ks) [] h = rw +ℤ_idr h
sum_same z v (a ∷ ks) (c ∷ w) h =
    rw (← +ℤ_assoc z (a *ℤ pos c) (dot ks w))
    (sum_same (z +ℤ a *ℤ pos c) ((v + word a * c) % 65536) ks w
    (same_mod (z +ℤ a *ℤ pos c) (v + word a * c) (same_add z (a *ℤ pos c) v (word a * c) h (same_mul a (word a) c (same_word a)))))

sum_below_lem : (v : ℕ) (ks w : List ℕ) → v < 65536 → word_sum v ks w < 65536
unfolding word_sum
sum_below_lem v [] w h = h
sum_below_lem v (a ∷ ks) [] h = h
sum_below_lem v (a ∷ ks) (c ∷ w) h = sum_below_lem ((v + a * c) % 65536) ks w (omega arith)

pub word_below : (z : ℤ) → word z < 65536
unfolding word
word_below (pos n) = omega arith
word_below (negsuc n) = omega arith

same_character : (z : ℤ) → IsCharacter z → Same z (nat_abs z) × (nat_abs z < 65536)
same_character (pos n) h = (record { under = 0; over = 0; eq = refl }, let l = leb→le n 65535 h.high.le in omega arith)
same_character (negsuc n) h = absurd h.low.le

pub exact : (c : ℤ) (ks : List ℤ) (w : List ℕ) → IsCharacter (value (sum c ks) w) →
    word_sum (word c) (map word ks) w ≡ nat_abs (value (sum c ks) w)
unfolding value
exact c ks w h =
    let v = value (sum c ks) w in
    let s = same_character v h in
    same_one v (word_sum (word c) (map word ks) w) (nat_abs v) (sum_same c (word c) ks w (same_word c)) s.0
    (sum_below_lem (word c) (map word ks) w (word_below c)) s.1

-- a sum depends only on the coefficients read, and a missing one counts as 0

sum_nil : (v : ℕ) (ks : List ℕ) → word_sum v ks [] ≡ v
unfolding word_sum
sum_nil v [] = refl
sum_nil v (a ∷ ks) = refl

sum_step : (v : ℕ) (ks : List ℕ) (c : ℕ) (w : List ℕ) → v < 65536 →
    word_sum v ks (c ∷ w) ≡ word_sum ((v + at ks 0 * c) % 65536) (drop 1 ks) w
unfolding word_sum
sum_step v [] c w h = rw zero-mul (omega arith)
sum_step v (a ∷ ks) c w h = refl

pub sum_reads : (v : ℕ) (xs ys w : List ℕ) → v < 65536 → ((j : ℕ) → j < length w → at xs j ≡ at ys j) → word_sum v xs w ≡ word_sum v ys w
sum_reads v xs ys [] h e = sum_nil v xs ∙ sym (sum_nil v ys)
sum_reads v xs ys (c ∷ w) h e =
    sum_step v xs c w h
    ∙ ap (λ a. word_sum ((v + a * c) % 65536) (drop 1 xs) w) (e 0 (omega arith))
    ∙ sum_reads ((v + at ys 0 * c) % 65536) (drop 1 xs) (drop 1 ys) w (omega arith)
    (λ j k. get_or-drop 1 xs j 0 ∙ e (1 + j) (omega arith) ∙ sym (get_or-drop 1 ys j 0))
    ∙ sym (sum_step v ys c w h)

-- a digit

-- the coefficients of a digit: 1 at its position
abbrev pub one_at : ℕ → List ℕ
one_at p = replicate p 0 ++ (1 ∷ [])

pub one_here : (p : ℕ) → at (one_at p) p ≡ 1
one_here zero = refl
one_here (suc p) = one_here p

pub one_elsewhere : (p j : ℕ) → j ≢ p → at (one_at p) j ≡ 0
one_elsewhere zero zero n = absurd (n refl)
one_elsewhere zero (suc j) n = refl
one_elsewhere (suc p) zero n = refl
one_elsewhere (suc p) (suc j) n = one_elsewhere p j (omega arith)

pub sum_one : (p : ℕ) (w : List ℕ) → word_sum 0 (one_at p) w ≡ at w p % 65536
unfolding word_sum
sum_one zero [] = refl
sum_one zero (c ∷ w) = omega arith
sum_one (suc p) [] = refl
sum_one (suc p) (c ∷ w) = ap (λ v. word_sum v (one_at p) w) (ap (λ v. (0 + v) % 65536) (zero-mul c)) ∙ sum_one p w

-- what holds of the four shifts
pub by_shift : (P : ℕ → Type 0) (n : ℕ) → T (is_shift n) → P 0 → P 4 → P 8 → P 12 → P n
by_shift P n t a b c d =
    let one : (m : ℕ) → P m → T (eqb n m) → P n = λ m x e. subst P (sym (eqb→eq n m e)) x in
    or_cases (eqb n 0) _ t (one 0 a) (λ t. or_cases (eqb n 4) _ t (one 4 b) (λ t. or_cases (eqb n 8) _ t (one 8 c) (λ t. or_cases (eqb n 12) _ t (one 12 d) (λ t. absurd t))))

pub nibble_mod : (n c : ℕ) → T (is_shift n) → nibble n (c % 65536) ≡ nibble n c
unfolding nibble
nibble_mod n c t = by_shift (λ n. nibble n (c % 65536) ≡ nibble n c) n t (omega arith) (omega arith) (omega arith) (omega arith)

-- the words of a block

pub length_entry : (o : Output) → length (entry o) ≡ entry_size
unfolding entry
length_entry (sum c ks) = ap (λ n. suc (suc n)) (length_pad (entry_size - 2) (map word ks))
length_entry (digit p shift) = ap (λ n. suc (suc n)) (length_pad (entry_size - 2) (one_at p))

pub length_block : (g : Group) → length (block g) ≡ block_size
unfolding block
length_block g = length_pad block_size _

pub block_size_lem : (g : Group) → at (block g) 0 ≡ g.size
unfolding block
block_size_lem g = get_d_pad block_size _ 0 (omega arith)

pub block_anchored : (g : Group) → at (block g) 1 ≡ bit g.anchored
unfolding block
block_anchored g = get_d_pad block_size _ 1 (omega arith)

pub block_count : (g : Group) → at (block g) 2 ≡ length g.outputs
unfolding block
block_count g = get_d_pad block_size _ 2 (omega arith)

-- word j of the entry of output i
pub block_entry : (g : Group) (i j : ℕ) (d : Output) → length g.outputs ≤ 8 → i < length g.outputs → j < entry_size →
    at (block g) (3 + entry_size * i + j) ≡ at (entry (get_or g.outputs i d)) j
unfolding block
block_entry g i j d few h k =
    let head = g.size ∷ bit g.anchored ∷ length g.outputs ∷ [] in
    let place : 3 + entry_size * i + j ≡ 3 + (entry_size * i + j) = omega arith in
    ap (at (block g)) place
    ∙ get_d_pad block_size _ (3 + (entry_size * i + j)) (omega arith)
    ∙ get_or-append-add head (flat_map entry g.outputs) (entry_size * i + j) 0
    ∙ get_d_rows entry entry_size length_entry g.outputs i j d h k

-- the coefficients read at a place are the entry's
coefficients_same : (o : Output) (b w ks : List ℕ) (n : ℕ) (v : ℕ) → length w ≤ 8 → v < 65536 →
    ((j : ℕ) → j < entry_size → at b (n + j) ≡ at (entry o) j) → ((j : ℕ) → j < 8 → at (entry o) (suc (suc j)) ≡ at ks j) →
    word_sum v (take (length w) (drop (n + 2) b)) w ≡ word_sum v ks w
coefficients_same o b w ks n v few small e k =
    sum_reads v (take (length w) (drop (n + 2) b)) ks w small
    (λ j h.
    let place : n + 2 + j ≡ n + suc (suc j) = omega arith in
    get_or-take (length w) (drop (n + 2) b) j 0 h
    ∙ get_or-drop (n + 2) b j 0
    ∙ ap (at b) place
    ∙ e (suc (suc j)) (omega arith)
    ∙ k j (omega arith))

-- what is written by words that agree, from place n on, with an entry's
entry_writes : (o : Output) (b w : List ℕ) (n : ℕ) → length w ≤ 8 → Within (length w) o → IsCharacter (value o w) →
    ((j : ℕ) → j < entry_size → at b (n + j) ≡ at (entry o) j) →
    value_by (at b n) (at b (n + 1)) (take (length w) (drop (n + 2) b)) w ≡ nat_abs (value o w)
unfolding entry value
entry_writes (sum c ks) b w n few within h e =
    ap₂ (λ sort v. value_by sort v (take (length w) (drop (n + 2) b)) w) (rw add-zero at (e 0 (omega arith))) (e 1 (omega arith))
    ∙ coefficients_same (sum c ks) b w (map word ks) n (word c) few (word_below c) e (λ j h. get_d_pad (entry_size - 2) (map word ks) j h)
    ∙ exact c ks w h
entry_writes (digit p shift) b w n few within h e =
    ap₂ (λ sort v. value_by sort v (take (length w) (drop (n + 2) b)) w) (rw add-zero at (e 0 (omega arith))) (e 1 (omega arith))
    ∙ ap (λ c. hex_digit (nibble shift c))
    (coefficients_same (digit p shift) b w (one_at p) n 0 few (omega arith) e (λ j h. get_d_pad (entry_size - 2) (one_at p) j h) ∙ sum_one p w)
    ∙ ap hex_digit (nibble_mod shift (at w p) within.1)

pub block_writes : (g : Group) (w b : List ℕ) → g.size ≤ 8 → length g.outputs ≤ 8 → length w ≡ g.size → Each (Within g.size) g.outputs →
    Each (λ o. IsCharacter (value o w)) g.outputs → ((j : ℕ) → j < block_size → at b j ≡ at (block g) j) → block_output b w ≡ written g w
unfolding entry_value block_output written
block_writes g w b small few size within safe e =
    let f : ℕ → ℕ → ℕ = λ k i. value_by (at b (3 + entry_size * i)) (at b (4 + entry_size * i)) (take k (drop (5 + entry_size * i) b)) w in
    let d = sum (pos 0) [] in
    ap₂ (λ k n. tab_from 0 n (f k)) (e 0 (omega arith) ∙ block_size_lem g ∙ sym size) (e 2 (omega arith) ∙ block_count g)
    ∙ tab_map (f (length w)) (λ o. nat_abs (value o w)) 0 g.outputs d
    (λ i h.
    let n = 3 + entry_size * i in
    let one : 4 + entry_size * i ≡ n + 1 = omega arith in
    let two : 5 + entry_size * i ≡ n + 2 = omega arith in
    rw zero-add
    (ap₂ (λ m k. value_by (at b n) (at b m) (take (length w) (drop k b)) w) one two
    ∙ entry_writes (get_or g.outputs i d) b w n (omega arith)
    (subst (λ k. Within k (get_or g.outputs i d)) (sym size) (each_get_d (Within g.size) g.outputs i d within h))
    (each_get_d (λ o. IsCharacter (value o w)) g.outputs i d safe h)
    (λ j k. e (n + j) (omega arith) ∙ block_entry g i j d few h k)))

-- what a group writes where the values are characters
pub written_characters : (g : Group) (w : List ℕ) → Each (λ o. IsCharacter (value o w)) g.outputs → Characters (written g w)
unfolding written
written_characters g w safe = each g.outputs safe
  where
    each : (os : List Output) → Each (λ o. IsCharacter (value o w)) os → Characters (map (λ o. nat_abs (value o w)) os)
    each [] a = tt
    each (o ∷ os) a = ((same_character (value o w) a.0).1, each os a.1)
