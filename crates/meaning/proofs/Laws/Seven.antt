-- Refusal 7's test says what refusal 7 asks: at a group whose positions are filled, it passes exactly if each word that fits has a
-- character for its value. A value is least and greatest at the extreme words, and these fit.
use mathlib.Core.Bool.{Bool, true, false, cond, beq}
use mathlib.Core.List.{List, [], ◌∷◌}
use mathlib.Core.Path.{◌≡◌, sym, ap, ◌∙◌, subst}
use Prim.Native.Nat.{ℕ, suc, ◌+◌, ◌*◌, ◌-◌, min, max, ◌≤◌, ◌<◌}
use native.Mathlib.Omega.{arith}
use native.Mathlib.Nat.{mul-add, add-sub_of_le, mod-lt}
use native.Mathlib.Decide.{dec_le}
use lib.Dec.{T, leb, leb→le, le→leb, lit<}
use lib.IntN.{ℤ, pos, negsuc, neg_ℤ, ◌+ℤ◌, ◌*ℤ◌, +ℤ_idr, +ℤ_assoc, +ℤ_comm, +ℤ_invl, neg_ℤ-+ℤ}
use lib.ListN.{get_or}
use lib.Signed.{le_z, non_neg}
use Rattle.lists.specs.Lists.{all, Each}
use Rattle.lists.specs.Decide.{for_below}
use Rattle.lists.proofs.Laws.Tests.{and_left, and_right, both, or_left, or_right, or_cases, of_cond, of_between, to_between, below}
use Rattle.lists.proofs.Laws.Each.{each_both, all_each, each_all}
use Rattle.meaning.specs.Table.{Range, Output, sum, digit, Group, Table, within, in_ranges, groups}
use Rattle.meaning.specs.Value.{dot, nibble, hex_digit, value, fits_word, IsCharacter, SafeOutput, SafeTable, lowest_of, highest_of, extreme, safe_output, safe}
use Rattle.meaning.proofs.Laws.Groups.{SafeGroup}

-- each position has a range, and no range is empty
abbrev pub Ordered : Range → Type 0
Ordered r = r.lowest ≤ r.highest

abbrev pub FilledPosition : List Range → Type 0
FilledPosition [] = ⊥
FilledPosition (r ∷ rs) = Each Ordered (r ∷ rs)

abbrev pub FilledGroup : Group → Type 0
FilledGroup g = Each FilledPosition g.ranges

abbrev pub Filled : Table → Type 0
Filled t = Each FilledGroup (groups t)

-- a ⊑ b: b is a and a natural number
infix 50 ◌⊑◌
record ◌⊑◌ (a b : ℤ) : Type 0 where
  by : ℕ
  more : b ≡ a +ℤ pos by

⊑_refl : (a : ℤ) → a ⊑ a
⊑_refl a = record { by = 0; more = sym (+ℤ_idr a) }

pub sum_swap : (a c m n : ℤ) → (a +ℤ m) +ℤ (c +ℤ n) ≡ (a +ℤ c) +ℤ (m +ℤ n)
sum_swap a c m n =
    +ℤ_assoc a m (c +ℤ n)
    ∙ ap (λ x. a +ℤ x) (sym (+ℤ_assoc m c n) ∙ ap (λ x. x +ℤ n) (+ℤ_comm m c) ∙ +ℤ_assoc c m n)
    ∙ sym (+ℤ_assoc a c (m +ℤ n))

⊑-add : {a b c d : ℤ} → a ⊑ b → c ⊑ d → (a +ℤ c) ⊑ (b +ℤ d)
⊑-add {a} {b} {c} {d} h k = record { by = h.by + k.by; more = rw (h.more, k.more) (sum_swap a c (pos h.by) (pos k.by)) }

-- a coefficient that is not negative, and one that is
apart : (k m n : ℕ) → m ≤ n → k * n ≡ k * m + k * (n - m)
apart k m n h = ap (λ x. k * x) (sym (add-sub_of_le h)) ∙ mul-add k m (n - m)

up : (k m n : ℕ) → m ≤ n → (pos k *ℤ pos m) ⊑ (pos k *ℤ pos n)
up k m n h = record { by = k * (n - m); more = ap pos (apart k m n h) }

cancel : (x d : ℕ) → neg_ℤ (pos (x + d)) +ℤ pos d ≡ neg_ℤ (pos x)
cancel x d =
    ap (λ z. z +ℤ pos d) (neg_ℤ-+ℤ (pos x) (pos d))
    ∙ +ℤ_assoc (neg_ℤ (pos x)) (neg_ℤ (pos d)) (pos d)
    ∙ ap (λ z. neg_ℤ (pos x) +ℤ z) (+ℤ_invl (pos d))
    ∙ +ℤ_idr (neg_ℤ (pos x))

down : (k m n : ℕ) → m ≤ n → (negsuc k *ℤ pos n) ⊑ (negsuc k *ℤ pos m)
down k m n h =
    let d = suc k * (n - m) in
    record { by = d; more = sym (ap (λ x. neg_ℤ (pos x) +ℤ pos d) (apart (suc k) m n h) ∙ cancel (suc k * m) d) }

-- what is between two characters is one
low_up : (a b : ℤ) → a ⊑ b → T (le_z (pos 0) a) → T (le_z (pos 0) b)
low_up (pos n) b h t = subst (λ (z : ℤ). T (le_z (pos 0) z)) (sym h.more) (le→leb 0 (n + h.by) (omega arith))
low_up (negsuc n) b h t = absurd t

high_down : (a b : ℤ) → a ⊑ b → T (le_z b (pos 65535)) → T (le_z a (pos 65535))
high_down (negsuc n) b h t = tt
high_down (pos n) b h t =
    let s : T (leb (n + h.by) 65535) = subst (λ (z : ℤ). T (le_z z (pos 65535))) h.more t in
    le→leb n 65535 (omega (arith, leb→le (n + h.by) 65535 s))

-- a character in the ranges is between their ends
between : (rs : List Range) (c : ℕ) → T (in_ranges rs c) → (lowest_of rs ≤ c) × (c ≤ highest_of rs)
unfolding lowest_of highest_of
between [] c t = absurd t
between (r ∷ []) c t = or_cases (within c r) false t (of_between r.lowest r.highest c) (λ u. absurd u)
between (r ∷ (s ∷ rs)) c t =
    or_cases (within c r) (in_ranges (s ∷ rs) c) t
    (λ u. let h = of_between r.lowest r.highest c u in omega arith)
    (λ u. let h = between (s ∷ rs) c u in omega arith)

-- the value at the extreme word of a sign is least (true) or greatest (false)
abbrev Toward : Bool → ℤ → ℤ → Type 0
Toward true a b = a ⊑ b
Toward false a b = b ⊑ a

toward_refl : (sign : Bool) (a : ℤ) → Toward sign a a
toward_refl true a = ⊑_refl a
toward_refl false a = ⊑_refl a

toward_add : (sign : Bool) (a b c d : ℤ) → Toward sign a b → Toward sign c d → Toward sign (a +ℤ c) (b +ℤ d)
toward_add true a b c d h k = ⊑-add h k
toward_add false a b c d h k = ⊑-add h k

-- the extreme character of some ranges
abbrev end_of : Bool → ℤ → List Range → ℕ
end_of sign a rs = cond (beq (non_neg a) sign) (lowest_of rs) (highest_of rs)

term_toward : (sign : Bool) (a : ℤ) (rs : List Range) (c : ℕ) → T (in_ranges rs c) → Toward sign (a *ℤ pos (end_of sign a rs)) (a *ℤ pos c)
term_toward true (pos k) rs c t = up k (lowest_of rs) c (between rs c t).0
term_toward true (negsuc k) rs c t = down k c (highest_of rs) (between rs c t).1
term_toward false (pos k) rs c t = up k c (highest_of rs) (between rs c t).1
term_toward false (negsuc k) rs c t = down k (lowest_of rs) c (between rs c t).0

dot_toward : (sign : Bool) (ks : List ℤ) (ps : List (List Range)) (w : List ℕ) → T (fits_word ps w) →
    Toward sign (dot ks (extreme sign ks ps)) (dot ks w)
unfolding dot fits_word extreme
dot_toward sign [] ps w t = toward_refl sign (pos 0)
dot_toward sign (a ∷ ks) [] [] t = toward_refl sign (pos 0)
dot_toward sign (a ∷ ks) [] (c ∷ w) t = absurd t
dot_toward sign (a ∷ ks) (rs ∷ ps) [] t = absurd t
dot_toward sign (a ∷ ks) (rs ∷ ps) (c ∷ w) t =
    toward_add sign (a *ℤ pos (end_of sign a rs)) (a *ℤ pos c) (dot ks (extreme sign ks ps)) (dot ks w)
    (term_toward sign a rs c (and_left (in_ranges rs c) (fits_word ps w) t)) (dot_toward sign ks ps w (and_right (in_ranges rs c) (fits_word ps w) t))

-- and the extreme words fit, where the positions are filled
of_min : (P : ℕ → Type 0) (a b : ℕ) → P a → P b → P (min a b)
of_min P a b p q = elim (dec_le a b) [ yes h ↦ subst P (omega arith) p | no h ↦ subst P (omega arith) q ]

of_max : (P : ℕ → Type 0) (a b : ℕ) → P a → P b → P (max a b)
of_max P a b p q = elim (dec_le a b) [ yes h ↦ subst P (omega arith) q | no h ↦ subst P (omega arith) p ]

ends_in : (r : Range) (rs : List Range) → Each Ordered (r ∷ rs) →
    T (in_ranges (r ∷ rs) (lowest_of (r ∷ rs))) × T (in_ranges (r ∷ rs) (highest_of (r ∷ rs)))
unfolding lowest_of highest_of
ends_in r [] h =
    let o : r.lowest ≤ r.highest = h.0 in
    (or_left (within r.lowest r) false (to_between r.lowest r.highest r.lowest (omega arith) o), or_left (within r.highest r) false (to_between r.lowest r.highest r.highest o (omega arith)))
ends_in r (s ∷ rs) h =
    let o : r.lowest ≤ r.highest = h.0 in
    let rest = ends_in s rs h.1 in
    let here : (c : ℕ) → T (within c r) → T (in_ranges (r ∷ s ∷ rs) c) = λ c. or_left (within c r) (in_ranges (s ∷ rs) c) in
    let later : (c : ℕ) → T (in_ranges (s ∷ rs) c) → T (in_ranges (r ∷ s ∷ rs) c) = λ c. or_right (within c r) (in_ranges (s ∷ rs) c) in
    let lo = lowest_of (s ∷ rs) in
    let hi = highest_of (s ∷ rs) in (
      of_min (λ c. T (in_ranges (r ∷ s ∷ rs) c)) r.lowest lo (here r.lowest (to_between r.lowest r.highest r.lowest (omega arith) o)) (later lo rest.0),
      of_max (λ c. T (in_ranges (r ∷ s ∷ rs) c)) r.highest hi (here r.highest (to_between r.lowest r.highest r.highest o (omega arith))) (later hi rest.1),
    )

extreme_fits : (sign : Bool) (ks : List ℤ) (ps : List (List Range)) → Each FilledPosition ps → T (fits_word ps (extreme sign ks ps))
unfolding extreme fits_word
extreme_fits sign ks [] h = tt
extreme_fits sign ks ([] ∷ ps) h = absurd h.0
extreme_fits sign [] ((r ∷ rs) ∷ ps) h =
    both (in_ranges (r ∷ rs) (lowest_of (r ∷ rs))) (fits_word ps (extreme sign [] ps)) (ends_in r rs h.0).0 (extreme_fits sign [] ps h.1)
extreme_fits sign (a ∷ ks) ((r ∷ rs) ∷ ps) h =
    both (in_ranges (r ∷ rs) (end_of sign a (r ∷ rs))) (fits_word ps (extreme sign ks ps))
    (of_cond (λ c. T (in_ranges (r ∷ rs) c)) (beq (non_neg a) sign) (lowest_of (r ∷ rs)) (highest_of (r ∷ rs))
    (λ _. (ends_in r rs h.0).0)
    (λ _. (ends_in r rs h.0).1))
    (extreme_fits sign ks ps h.1)

-- a digit is a character whatever the word

nibble_below : (shift c : ℕ) → nibble shift c < 16
unfolding nibble
nibble_below shift c = mod-lt _ (lit< {m = 0} {n = 16} tt)

digit_below : (v : ℕ) → v < 16 → T (leb (hex_digit v) 65535)
unfolding hex_digit for_below
digit_below v h = below 16 (λ x. leb (hex_digit x) 65535) tt v h

digit_character : (p shift : ℕ) (w : List ℕ) → IsCharacter (value (digit p shift) w)
unfolding value
digit_character p shift w =
    let v = nibble shift (get_or w p 0) in
    let n = hex_digit v in
    record { low = record { le = le→leb 0 n (omega arith) }; high = record { le = digit_below v (nibble_below shift (get_or w p 0)) } }

pub safe_every : (ps : List (List Range)) (o : Output) → T (safe_output ps o) → SafeOutput ps o
unfolding safe_output SafeOutput value
safe_every ps (sum c ks) t w f =
    let toward : (sign : Bool) → Toward sign (c +ℤ dot ks (extreme sign ks ps)) (c +ℤ dot ks w) =
    λ sign. toward_add sign c c (dot ks (extreme sign ks ps)) (dot ks w) (toward_refl sign c) (dot_toward sign ks ps w f) in
    let lo = c +ℤ dot ks (extreme true ks ps) in
    let hi = c +ℤ dot ks (extreme false ks ps) in
    record {
      low = record { le = low_up lo (c +ℤ dot ks w) (toward true) (and_left (le_z (pos 0) lo) (le_z hi (pos 65535)) t) };
      high = record { le = high_down (c +ℤ dot ks w) hi (toward false) (and_right (le_z (pos 0) lo) (le_z hi (pos 65535)) t) };
    }
safe_every ps (digit p shift) t w f = digit_character p shift w

pub every_safe : (ps : List (List Range)) (o : Output) → Each FilledPosition ps → SafeOutput ps o → T (safe_output ps o)
unfolding safe_output SafeOutput
every_safe ps (sum c ks) f h =
    let lo = extreme true ks ps in
    let hi = extreme false ks ps in
    both (le_z (pos 0) (value (sum c ks) lo)) (le_z (value (sum c ks) hi) (pos 65535))
    (h lo (extreme_fits true ks ps f)).low.le
    (h hi (extreme_fits false ks ps f)).high.le
every_safe ps (digit p shift) f h = tt

pub safe_table : (t : Table) → T (safe t) → SafeTable t
unfolding safe SafeTable
safe_table t h =
    all_each (λ g. all (safe_output g.ranges) g.outputs) (groups t)
    (λ g k. all_each (safe_output g.ranges) g.outputs (safe_every g.ranges) k) h

pub table_safe : (t : Table) → Filled t → SafeTable t → T (safe t)
unfolding safe SafeTable
table_safe t f h =
    each_all (λ g. all (safe_output g.ranges) g.outputs) (groups t)
    (λ g k. each_all (safe_output g.ranges) g.outputs (λ o s. every_safe g.ranges o k.0 s) k.1) (each_both FilledGroup SafeGroup (groups t) f h)
