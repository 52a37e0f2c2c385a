-- Numbers of 16 and 32 bits kept modulo 65536 and 2 ^ 32: the bits that a signed number was read from; and the word of a flag.
-- By the two cases of `signed`, below half and from half on.
use mathlib.Core.Bool.{Bool, true, false}
use mathlib.Core.Path.{◌≡◌, refl, ap, ap₂, ◌∙◌}
use Prim.Native.Nat.{ℕ, suc, ◌+◌, ◌-◌, ◌*◌, ◌%◌, ◌/◌, ◌^◌, ◌≤◌, ◌<◌}
use native.Mathlib.Nat.{mod-eq_of_lt}
use native.Mathlib.Omega.{arith}
use lib.Dec.{ltb, nltb→le}
use lib.IntN.{ℤ, pos, negsuc, sub_ℕ}
use Rattle.lists.proofs.Laws.Tests.{of_cond}
use Rattle.meaning.specs.Block.{word, bit}
use Rattle.meaning.specs.Reader.{signed}
use Rattle.meaning.specs.bridge.Flat.{bits}

-- a number below 2 ^ n is itself, or less by 2 ^ n
signed_cases : (P : ℤ → Type 0) (n x : ℕ) → x < 2 ^ n → P (pos x) → P (negsuc (2 ^ n - suc x)) → P (signed n x)
unfolding signed
signed_cases P n x h p q =
    of_cond P (ltb x (2 ^ (n - 1))) (pos x) (sub_ℕ x (2 ^ n)) (λ _. p)
    (λ _. of_cond P (ltb x (2 ^ n)) (negsuc (2 ^ n - suc x)) (pos (x - 2 ^ n)) (λ _. q) (λ t. let k : 2 ^ n ≤ x = nltb→le x (2 ^ n) t in absurd (omega arith)))

pub word_signed : (a : ℕ) → a < 65536 → word (signed 16 a) ≡ a
unfolding word
word_signed a h =
    signed_cases (λ z. word z ≡ a) 16 a h (mod-eq_of_lt h)
    (let m : 65536 - suc a < 65536 = omega arith in
    let e : (65536 - suc a) % 65536 ≡ 65536 - suc a = mod-eq_of_lt m in
    omega arith)

pub word_constant : (c : ℕ) → c < 2 ^ 32 → word (signed 32 c) ≡ c % 65536
unfolding word
word_constant c h =
    signed_cases (λ z. word z ≡ c % 65536) 32 c h refl
    (let k : c < 4294967296 = h in let e : 65535 - (4294967296 - suc c) % 65536 ≡ c % 65536 = omega arith in e)

bits_signed : (c : ℕ) → c < 2 ^ 32 → bits (signed 32 c) ≡ c
bits_signed c h =
    signed_cases (λ z. bits z ≡ c) 32 c h (mod-eq_of_lt h)
    (let m : 2 ^ 32 - suc c < 2 ^ 32 = omega arith in
    let e : (2 ^ 32 - suc c) % 2 ^ 32 ≡ 2 ^ 32 - suc c = mod-eq_of_lt m in
    omega arith)

pub high_signed : (c : ℕ) → c < 2 ^ 32 → bits (signed 32 c) / 65536 ≡ c / 65536
high_signed c h = ap (λ x. x / 65536) (bits_signed c h)

pub halves_signed : (c : ℕ) → c < 2 ^ 32 → word (signed 32 c) + 65536 * (bits (signed 32 c) / 65536) ≡ c
halves_signed c h = ap₂ (λ x y. x + 65536 * y) (word_constant c h) (high_signed c h) ∙ omega arith

pub bit_small : (b : Bool) → bit b ≤ 1
bit_small true = omega arith
bit_small false = omega arith
