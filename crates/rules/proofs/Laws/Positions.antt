-- The positions that coefficients name, as one number of which bit p is 1 if the coefficient of position p is not 0.
-- By recursion on the coefficients: half of the number is that of the coefficients but the first.
use Rattle.std.proofs.Common.{◌≡◌, ℕ, zero, suc, ◌+◌, ◌*◌, ◌/◌, ◌%◌, ◌^◌, ◌<◌, ◌≤◌, Bool, true, false, not, eqb, ◌≢◌, List, [], ◌∷◌, length, get_or, ℤ, pos, nat_abs, sym, refl, ap, ◌∙◌, mul_comm, one-mul, pow-suc, arith, lit<, pow_mono, shl_exact}
use native.Mathlib.Nat.{div-div-eq-div-mul}
use borrow.Author.Tests.{eqb-false}
use Rattle.lists.proofs.Laws.Tests.{of_T}
use Rattle.meaning.specs.Table.{Output, sum, digit}
use Rattle.meaning.specs.Reader.{coefficient_at, put_at, add_term}
use Rattle.meaning.specs.Block.{bit}
use Rattle.meaning.proofs.Laws.Terms.{some_there}
use Rattle.meaning.proofs.Laws.Numbers.{bit_small}
use Rattle.meaning.proofs.Laws.Shape.{Within, IsSum}
use Rattle.rules.specs.bridge.Summary.{is_named}

abbrev some : ℤ → Bool
some k = not (eqb (nat_abs k) 0)

abbrev positions_of : List ℤ → ℕ
positions_of [] = 0
positions_of (k ∷ ks) = bit (some k) + 2 * positions_of ks

twice : (p : ℕ) → 2 ^ suc p ≡ 2 * 2 ^ p
twice p = pow-suc 2 p ∙ mul_comm (2 ^ p) 2

-- a bit of a number, and of its half

first_bit : (b : Bool) (n : ℕ) → is_named (bit b + 2 * n) 0 ≡ b
first_bit true n = ap (λ k. eqb k 1) (let e : (1 + 2 * n) / 1 % 2 ≡ 1 = omega arith in e)
first_bit false n = ap (λ k. eqb k 1) (let e : (0 + 2 * n) / 1 % 2 ≡ 0 = omega arith in e)

later_bit : (n p : ℕ) → is_named n (suc p) ≡ is_named (n / 2) p
later_bit n p = ap (λ k. eqb (k % 2) 1) (ap (λ q. n / q) (twice p) ∙ sym (div-div-eq-div-mul n 2 (2 ^ p)))

half : (b : Bool) (n : ℕ) → (bit b + 2 * n) / 2 ≡ n
half true n = omega arith
half false n = omega arith

position_named : (p : ℕ) (ks : List ℤ) → is_named (positions_of ks) p ≡ some (get_or ks p (pos 0))
position_named zero [] = refl
position_named zero (k ∷ ks) = first_bit (some k) (positions_of ks)
position_named (suc p) [] = later_bit 0 p ∙ position_named p []
position_named (suc p) (k ∷ ks) = later_bit (positions_of (k ∷ ks)) p ∙ ap (λ n. is_named n p) (half (some k) (positions_of ks)) ∙ position_named p ks

-- one more coefficient, at a position that had none

one_bit : (a : ℤ) → a ≢ pos 0 → bit (some a) ≡ 1
one_bit a n = ap bit (of_T (some a) (some_there a n))

positions_put : (p : ℕ) (a : ℤ) (ks : List ℤ) → a ≢ pos 0 → get_or ks p (pos 0) ≡ pos 0 → positions_of (put_at p a ks) ≡ positions_of ks + 2 ^ p
positions_put zero a [] n z = omega (arith, one_bit a n)
positions_put zero a (k ∷ ks) n z = omega (arith, one_bit a n, ap (λ k. bit (some k)) z)
positions_put (suc p) a [] n z = omega (arith, positions_put p a [] n z, twice p)
positions_put (suc p) a (k ∷ ks) n z = omega (arith, positions_put p a ks n z, twice p)

-- the number is small

positions_small : (ks : List ℤ) → positions_of ks < 2 ^ length ks
positions_small [] = omega arith
positions_small (k ∷ ks) = omega (arith, bit_small (some k), positions_small ks, twice (length ks))

positions_fit : (ks : List ℤ) → length ks ≤ 8 → positions_of ks < 256
positions_fit ks h = omega (arith, positions_small ks, pow_mono h)

-- and stays so with one more position
named_below : (w n p : ℕ) → n < 2 ^ w → p < w → is_named n p ≡ false → n + 2 ^ p < 2 ^ w
named_below zero n p h l e = absurd (omega arith)
named_below (suc w) n zero h l e = omega (arith, eqb-false (n / 1 % 2) 1 e, twice w)
named_below (suc w) n (suc p) h l e =
    omega (arith, named_below w (n / 2) p (omega (arith, twice w)) (omega arith) (sym (later_bit n p) ∙ e), twice w, twice p)

pub named_more : (n p : ℕ) → n < 256 → p < 8 → is_named n p ≡ false → n + 2 ^ p < 256
named_more n p h l e = named_below 8 n p h l e

-- the machine's shift gives a position's bit
pub one_shifted : (p : ℕ) → p < 8 → (1 * 2 ^ p) % 2 ^ 64 ≡ 2 ^ p
one_shifted p h = shl_exact {a = 1} 1 p 64 (lit< tt) (omega arith) ∙ one-mul (2 ^ p)

-- the positions that the terms of an output character have named

abbrev pub named_by : Output → ℕ
named_by (sum c ks) = positions_of ks
named_by (digit q shift) = 0

pub output_named : (o : Output) (p : ℕ) → is_named (named_by o) p ≡ some (coefficient_at o p)
output_named (sum c ks) p = position_named p ks
output_named (digit q shift) p = position_named p []

pub named_term : (p : ℕ) (a : ℤ) (o : Output) → IsSum o → a ≢ pos 0 → coefficient_at o p ≡ pos 0 → named_by (add_term p a o) ≡ named_by o + 2 ^ p
named_term p a (sum c ks) i n z = positions_put p a ks n z
named_term p a (digit q shift) i n z = absurd i

pub named_fit : (k : ℕ) (o : Output) → k ≤ 8 → Within k o → named_by o < 256
named_fit k (sum c ks) l w = positions_fit ks (omega arith)
named_fit k (digit q shift) l w = omega arith
