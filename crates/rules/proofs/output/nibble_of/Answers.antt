-- `rules::output::nibble_of` meets its contract: a shift to the right divides by a power of two.
-- A shift of 16 or more leaves nothing of a character of 16 bits.
use Rattle.std.proofs.Common.{◌≡◌, ◌/◌, ◌^◌, lt_of_lt_of_le, pow_mono, rules}
use native.Mathlib.Nat.{div-eq_of_lt}
use Rattle.meaning.specs.Value.{nibble}
use Rattle.rules.proofs.output.nibble_of.Goals as goal

pub returns-then-shift-lt16 : goal.returns-then-shift-lt16
unfolding nibble
returns-then-shift-lt16 c = search rules

pub returns : goal.returns
unfolding nibble
returns c =
    let a = c.args in
    let none : a.character / 2 ^ a.shift ≡ 0 = div-eq_of_lt (lt_of_lt_of_le c.ranges.character.fits (pow_mono {i = 16} c.if-shift-lt16.false)) in
    rw none
