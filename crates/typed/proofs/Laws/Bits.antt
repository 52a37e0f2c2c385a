-- The bytes of a number, and the bits that stand for a signed one.
-- A negative number is met by adding 2 ^ 16 or 2 ^ 32. Assumes nothing.
use mathlib.Core.List.{List, [], ◌∷◌}
use mathlib.Core.Path.{◌≡◌, refl, ◌∙◌}
use Prim.Native.Nat.{ℕ, ◌/◌, ◌%◌, ◌<◌}
use native.Mathlib.Omega.{arith}
use lib.IntN.{ℤ, pos, negsuc}
use lib.ListN.{get_or}
use lib.Signed.{mag}
use mir.Syntax.{w16, w32}
use mir.Val.{to_z, of_z}
use Rattle.std.proofs.lemmas.Int.{of_z-to_z}
use Rattle.meaning.specs.Records.{little_endian, twos_complement}

-- bytes that are those of a number

pub two_bytes : (x : ℕ) {b : List ℕ} → b ≡ x % 256 ∷ x / 256 % 256 ∷ [] → get_or b 0 0 ∷ get_or b 1 0 ∷ [] ≡ little_endian 2 x
unfolding little_endian
two_bytes x e = rw e

pub four_bytes : (x : ℕ) {b : List ℕ} → b ≡ x % 256 ∷ x / 256 % 256 ∷ x / 65536 % 256 ∷ x / 16777216 % 256 ∷ [] →
    get_or b 0 0 ∷ get_or b 1 0 ∷ get_or b 2 0 ∷ get_or b 3 0 ∷ [] ≡ little_endian 4 x
unfolding little_endian
four_bytes x e =
    let p : x / 65536 ≡ x / 256 / 256 = omega arith in
    let q : x / 16777216 ≡ x / 256 / 256 / 256 = omega arith in
    rw (e, p, q) refl

-- the bits of a signed number, of 16 and of 32

unsigned_16 : (z : ℤ) → of_z w16 z ≡ twos_complement 16 z
unfolding twos_complement
unsigned_16 (pos n) = refl
unsigned_16 (negsuc n) = refl

below_16 : (z : ℤ) → mag z < 32768 → of_z w16 z < 65536
below_16 (pos n) h = omega arith
below_16 (negsuc n) h = omega arith

pub bits_16 : (z : ℤ) → mag z < 32768 → of_z w16 (to_z w16 (of_z w16 z)) ≡ twos_complement 16 z
bits_16 z h = of_z-to_z w16 (of_z w16 z) (below_16 z h) ∙ unsigned_16 z

unsigned_32 : (z : ℤ) → of_z w32 z ≡ twos_complement 32 z
unfolding twos_complement
unsigned_32 (pos n) = refl
unsigned_32 (negsuc n) = refl

below_32 : (z : ℤ) → mag z < 2147483648 → of_z w32 z < 4294967296
below_32 (pos n) h = omega arith
below_32 (negsuc n) h = omega arith

pub bits_32 : (z : ℤ) → mag z < 2147483648 → of_z w32 (to_z w32 (of_z w32 z)) ≡ twos_complement 32 z
bits_32 z h = of_z-to_z w32 (of_z w32 z) (below_32 z h) ∙ unsigned_32 z
