-- `extreme_sums` meets its contract: the loop goes from the last position to the first, and keeps the sums over those passed, at most 2^32 a position.
-- Assumes nothing.
use Rattle.std.proofs.Common.{◌≡◌, ℕ, ◌+◌, ◌-◌, ◌*◌, ◌^◌, ◌<◌, ◌≤◌, Bool, true, false, cond, length, ℤ, pos, ◌+ℤ◌, ◌*ℤ◌, sym, ◌∙◌, arith}
use Rattle.std.specs.Bool.{beq}
use Rattle.std.specs.Int.Signed.{non_neg}
use Rattle.std.specs.Int.RustNames.{unsigned_abs}
use mir.Syntax.{w64}
use mir.Val.{of_z, to_z}
use Rattle.meaning.specs.Block.{at, block_size, entry_size}
use Rattle.meaning.specs.Reader.{signed}
use Rattle.meaning.specs.Value.{lowest_of, highest_of}
use Rattle.meaning.specs.bridge.Flat.{ranges_at}
use Rattle.meaning.proofs.Laws.Extremes.{sum_from, sum_last, sum_before, sum_whole}
use Rattle.rules.proofs.Laws.Signs.{by_sign, word_widened, product_added, product_bound}
use Rattle.rules.proofs.loaded.Loaded.extreme_sums.Goals as goal
use Rattle.rules.proofs.loaded.Loaded.extreme_sums.Goals.{After-from-in-loop-p, then-coefficient-lt0, else-coefficient-lt0}

pub loop-p-init : goal.loop-p-init
loop-p-init c =
    let a = c.args in
    let small : at a.self.now.words.now (block_size * a.group) ≤ 8 = a.self.now.flat.size a.group (omega arith) in
    let none : (sign : Bool) → pos 0 ≡ sum_from sign a.self.now.words.now a.group a.number c.from-size.result = λ sign. rw c.from-size.ensures (sym (sum_last sign a.self.now.words.now a.group a.number)) in
    record {
      least_small = omega (arith, c.from-size.ensures);
      greatest_small = omega (arith, c.from-size.ensures);
      least = none true;
      greatest = none false;
    }

-- the coefficient of the turn, and the character where it gives least (true), or greatest
abbrev coefficient : After-from-in-loop-p → ℕ
coefficient c = let a = c.args in at a.self.now.words.now (block_size * a.group + 5 + entry_size * a.number + (c.loop-p.p - 1))

abbrev end : After-from-in-loop-p → Bool → ℕ
end c sign = let a = c.args in
    let rs = ranges_at a.self.now.words.now (8 * a.group + (c.loop-p.p - 1)) in
    cond (beq (non_neg (signed 16 (coefficient c))) sign) (lowest_of rs) (highest_of rs)

widened : (c : After-from-in-loop-p) → to_z w64 (of_z w64 c.from-coefficient.result) ≡ signed 16 (coefficient c)
widened c = word_widened (coefficient c) (omega arith) (record { sfits = c.cast_signed.type_inv }) c.cast_signed.ensures c.from-coefficient.ensures

ends : (c : After-from-in-loop-p) → let low = c.if-coefficient-lt0.low in
    (low.0 ≡ end c true) × (low.1 ≡ end c false) × (low.0 < 2 ^ 16) × (low.1 < 2 ^ 16)
ends c = let e = c.place_ends-ends in
    let sign = by_sign (signed 16 (coefficient c)) in
    elim c.if-coefficient-lt0.branch [
      | then-coefficient-lt0 w ↦ rw (w.low-is, sign, rw (widened c) at w.if-coefficient-lt0.true) (e.ensures.highest, e.ensures.lowest, omega arith, omega arith)
      | else-coefficient-lt0 w ↦ rw (w.low-is, sign, rw (widened c) at w.if-coefficient-lt0.false) (e.ensures.lowest, e.ensures.highest, omega arith, omega arith)
    ]

-- one sum after the turn
turn : (c : After-from-in-loop-p) (sign : Bool) (s : ℤ) (x : ℕ) → unsigned_abs s + c.loop-p.p * 2 ^ 32 ≤ 2 ^ 35 → x < 2 ^ 16 → x ≡ end c sign → {g : ℤ} → g ≡ pos x →
    s ≡ sum_from sign c.args.self.now.words.now c.args.group c.args.number c.loop-p.p →
    let after = to_z w64 (of_z w64 (s +ℤ to_z w64 (of_z w64 (to_z w64 (of_z w64 c.from-coefficient.result) *ℤ to_z w64 (of_z w64 g))))) in
    (unsigned_abs after + (c.loop-p.p - 1) * 2 ^ 32 ≤ 2 ^ 35) × (after ≡ sum_from sign c.args.self.now.words.now c.args.group c.args.number (c.loop-p.p - 1))
turn c sign s x small character e d passed = let a = c.args in
    let loaded = a.self.now.words.now in
    let few : at loaded (block_size * a.group) ≤ 8 = a.self.now.flat.size a.group (omega arith) in
    let fit : block_size * a.group + 5 + entry_size * a.number + at loaded (block_size * a.group) ≤ length loaded = omega (arith, a.self.now.flat.long) in
    let step = sum_before sign loaded a.group a.number c.loop-p.p (omega arith) (omega (arith, c.from-size.ensures)) fit in
    let word : coefficient c < 2 ^ 16 = omega arith in
    let sum = product_added s (coefficient c) x (omega arith) word character c.from-coefficient.result (widened c) d in
    let bound = product_bound s (coefficient c) x (omega arith) word character in
    (rw sum (omega (arith, bound)), sum ∙ rw (e, passed) (sym step))

pub loop-p-preserved : goal.loop-p-preserved
loop-p-preserved c =
    let inv = c.loop-p.invariant in
    let e = ends c in
    let least = turn c true _ _ inv.least_small e.2 e.0 c.from.ensures inv.least in
    let greatest = turn c false _ _ inv.greatest_small e.3 e.1 c.from-in-loop-p.ensures inv.greatest in
    record { least_small = least.0; greatest_small = greatest.0; least = least.1; greatest = greatest.1 }

pub returns-clause-least : goal.returns-clause-least
returns-clause-least c =
    let a = c.args in c.loop-p.invariant.least ∙ sum_whole true a.self.now.words.now a.group a.number c.loop-p.p (omega arith)

pub returns-clause-greatest : goal.returns-clause-greatest
returns-clause-greatest c =
    let a = c.args in c.loop-p.invariant.greatest ∙ sum_whole false a.self.now.words.now a.group a.number c.loop-p.p (omega arith)
