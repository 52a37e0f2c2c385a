-- `output_safe` meets its contract: refusal 7's test compares the least and the greatest value.
-- Assumes nothing.
use Rattle.std.proofs.Common.{◌≡◌, ◌+◌, ◌*◌, ◌^◌, ◌≤◌, Bool, List, map, take, drop, ℤ, ◌+ℤ◌, sym, ap, subst, ◌∙◌, arith, eq-eqb}
use Rattle.std.specs.Int.RustNames.{unsigned_abs}
use mir.Syntax.{w64}
use mir.Val.{of_z, to_z}
use Rattle.meaning.specs.Table.{Range, sum}
use Rattle.meaning.specs.Block.{at, block_size, entry_size}
use Rattle.meaning.specs.Reader.{signed}
use Rattle.meaning.specs.Value.{safe_output}
use Rattle.meaning.specs.bridge.Flat.{pattern_at, sum_at, safe_output_at}
use Rattle.meaning.proofs.Laws.Extremes.{unsafe_low, safe_high}
use Rattle.rules.proofs.Laws.Signs.{number_widened, number_added}
use Rattle.rules.proofs.loaded.Loaded.output_safe.Goals as goal
use Rattle.rules.proofs.loaded.Loaded.output_safe.Goals.{After-extreme_sums-least, Start}

-- the group's pattern and the output character's coefficients
abbrev pattern : Start → List (List Range)
pattern s = let a = s.args in pattern_at a.self.now.words.now a.group (at a.self.now.words.now (block_size * a.group))

abbrev coefficients : Start → List ℤ
coefficients s = let a = s.args in map (signed 16) (take (at a.self.now.words.now (block_size * a.group)) (drop (block_size * a.group + 5 + entry_size * a.number) a.self.now.words.now))

-- what the machine makes of the constant and of a sum
whole : (c : After-extreme_sums-least) {y d : ℤ} → unsigned_abs y ≤ 2 ^ 35 → y ≡ d →
    to_z w64 (of_z w64 (to_z w64 (of_z w64 c.from-constant.result) +ℤ to_z w64 (of_z w64 y))) ≡ signed 32 c.constant_of.result +ℤ d
whole c {y} small e =
    let k = c.constant_of.result in
    number_added k y (omega arith) small c.from-constant.result (number_widened k (omega arith) (record { sfits = c.cast_signed.type_inv }) c.cast_signed.ensures c.from-constant.ensures) ∙ ap (λ b. signed 32 k +ℤ b) e

-- the answer by the constant that was read, and by the one in the array, which is a sum's
by-constant : {b : Bool} (c : After-extreme_sums-least) → let s = (goal.at.After-extreme_sums-least c).Start in
    b ≡ safe_output (pattern s) (sum (signed 32 c.constant_of.result) (coefficients s)) →
    b ≡ safe_output_at s.args.self.now.words.now s.args.group s.args.number
unfolding sum_at
by-constant {b} c e = let s = (goal.at.After-extreme_sums-least c).Start in
    rw (eq-eqb _ _ c.if-self-group-ne0.false) (subst (λ k. b ≡ safe_output (pattern s) (sum (signed 32 k) (coefficients s))) c.constant_of.ensures e)

pub returns-then-constant-least-ge0 : goal.returns-then-constant-least-ge0
returns-then-constant-least-ge0 c =
    let s = (goal.at.returns-then-constant-least-ge0 c).After-extreme_sums-least in
    let sums = c.extreme_sums-least.ensures in
    by-constant s
    (sym
    (safe_high (pattern (goal.at.After-extreme_sums-least s).Start) (signed 32 c.constant_of.result) (coefficients (goal.at.After-extreme_sums-least s).Start)
    (whole s sums.small.0 sums.least) (whole s sums.small.1 sums.greatest) c.if-constant-least-ge0.true))

pub returns-else-constant-least-ge0 : goal.returns-else-constant-least-ge0
returns-else-constant-least-ge0 c =
    let s = (goal.at.returns-else-constant-least-ge0 c).After-extreme_sums-least in
    let sums = c.extreme_sums-least.ensures in
    let unsafe = c.if-constant-least-ge0.false in
    by-constant s
    (unsafe
    ∙ sym
    (unsafe_low (pattern (goal.at.After-extreme_sums-least s).Start) (signed 32 c.constant_of.result) (coefficients (goal.at.After-extreme_sums-least s).Start)
    (whole s sums.small.0 sums.least) unsafe))
