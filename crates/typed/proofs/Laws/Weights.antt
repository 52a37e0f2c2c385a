-- Each record that is taken in makes the summary's weight greater, and no weight is above 81,539.
-- By the tests that the record has passed, and the limits of the summary's numbers. Assumes nothing.
use mathlib.Core.Path.{◌≡◌, ap, subst}
use Prim.Native.Nat.{ℕ, suc, ◌+◌, ◌*◌, ◌≤◌, ◌<◌}
use native.Mathlib.Omega.{arith}
use lib.Dec.{eqb, eqb→eq, nltb→le}
use lib.Pow.{pow_pos}
use Rattle.lists.proofs.Laws.Tests.{of_not, of_cond, by_cases, neqb→ne}
use Rattle.meaning.specs.Refusal.{Outcome, refused, accepted}
use Rattle.meaning.specs.Block.{bit}
use Rattle.meaning.specs.Record.{Record, rule, range, output, term, default, hexadecimal}
use Rattle.meaning.proofs.Laws.Numbers.{bit_small}
use Rattle.rules.specs.bridge.Summary.{defaulted, slot_number, admit, FittingLast, Fitting}
use Rattle.rules.specs.declared.reader.Reader.{Reader}
use Rattle.rules.specs.declared.reader.Last.{Last}
use Rattle.rules.proofs.Laws.Stepping.{range_comes, marked_there}
use Rattle.typed.specs.bridge.Stream.{weight}

-- what the last group adds
abbrev part : Last → ℕ
part l = 4 * l.positions + l.slots + 256 * l.outputs + l.named

part_small : (l : Last) → FittingLast l → part l ≤ 2339
part_small l f =
    let a = f.positions in
    let b = f.slots in
    let c = f.outputs in
    let d = f.named in
    omega arith

pub weight_small : (r : Reader) → Fitting r → weight r ≤ 81539
weight_small r f =
    let a = part_small r.last f.last in
    let b = bit_small (defaulted r) in
    let c = f.rules in
    omega arith

-- a range: at the next position, or one more at the last
range_grows : (r : Reader) (p : ℕ) → r.last.slots ≤ 4 → p ≤ r.last.positions → r.last.positions ≤ p + 1 →
    4 * r.last.positions + r.last.slots < 4 * (p + 1) + (slot_number r p + 1)
range_grows r p s m n =
    of_cond (λ k. 4 * r.last.positions + r.last.slots < 4 * (p + 1) + (k + 1)) (eqb p r.last.positions) 0 r.last.slots
    (λ t. let e = eqb→eq p r.last.positions t in omega arith)
    (λ t. let d = neqb→ne p r.last.positions t in omega arith)

abbrev Heavier : ℕ → Outcome Reader → Type 0
Heavier n (refused k) = Unit {0}
Heavier n (accepted r) = n < weight r

admit_heavier : (r : Reader) (x : Record) → Fitting r → Heavier (weight r) (admit r x)
unfolding admit
admit_heavier r (rule k a) f =
    let h = part_small r.last f.last in
    by_cases (Heavier (weight r)) _ _ (
      λ _. tt,
      λ d. (λ _. tt, λ _. (λ _. tt, λ _. let e = ap bit (of_not (defaulted r) d) in omega arith)),
    )
admit_heavier r (range p c) f =
    by_cases (Heavier (weight r)) _ _ (
      λ _. tt,
      λ d. (
        λ _. tt,
        λ g. (λ _. tt, λ _. let h = range_grows r p f.last.slots (nltb→le r.last.positions p g) (range_comes r p c.lowest d).next in omega arith),
      ),
    )
admit_heavier r (output c) f =
    let h = f.last.named in
    by_cases (Heavier (weight r)) _ _ (λ _. tt, λ _. (λ _. tt, λ _. (λ _. tt, λ _. omega arith)))
admit_heavier r (term p a) f =
    by_cases (Heavier (weight r)) _ _ (λ _. tt, λ _. omega (arith, pow_pos p))
admit_heavier r (default k) f =
    let h = part_small r.last f.last in
    let i = ap bit (marked_there k) in
    by_cases (Heavier (weight r)) _ _ (
      λ _. tt,
      λ d. (λ _. tt, λ _. let e = ap bit (of_not (defaulted r) d) in omega arith),
    )
admit_heavier r (hexadecimal p shift) f =
    let h = f.last.named in
    by_cases (Heavier (weight r)) _ _ (λ _. tt, λ _. (λ _. tt, λ _. (λ _. tt, λ _. omega arith)))

pub weight_grows : (r r' : Reader) (x : Record) → Fitting r → admit r x ≡ accepted r' → suc (weight r) ≤ weight r'
weight_grows r r' x f e = subst (Heavier (weight r)) e (admit_heavier r x f)
