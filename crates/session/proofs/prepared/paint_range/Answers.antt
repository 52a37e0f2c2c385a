-- `prepared::paint_range` meets its contract. The invariant: the places before c have the class, those before `from` what they had.
-- The measure is the number of places left. Assumes nothing.
use mathlib.Core.Bool.{cond}
use mathlib.Core.Path.{◌≡◌, refl, sym, ap, ◌∙◌}
use Prim.Native.Nat.{◌+◌}
use native.Mathlib.Omega.{arith}
use borrow.Author.Rules.{rules}
use borrow.Author.Tests.{lt-ltb, le-ltb}
use lib.ListN.{length, get_or, replicate}
use Rattle.session.proofs.Laws.Reading.{painted}
use Rattle.session.proofs.prepared.paint_range.Invariants.{due}
use Rattle.session.proofs.prepared.paint_range.Goals as goal

pub loop-c-init : goal.loop-c-init
loop-c-init c =
    let a = c.args in
    (refl, omega arith, omega arith, λ i h. ap (λ b. cond b (get_or a.classes.now i 0) a.class) (sym (lt-ltb i a.from h)))

pub loop-c-preserved : goal.loop-c-preserved
loop-c-preserved c =
    let l = c.loop-c in
    let a = c.args in
    let filled : c.fill.new.self ≡ replicate (length c.fill.new.self) a.class = search rules in (
      search rules,
      omega arith,
      omega arith,
      painted (due a.classes.now a.from a.class) l.classes c.fill.new.self _ l.c (l.c + 16) a.class (omega arith)
          (filled ∙ ap (λ n. replicate n a.class) (search rules)) l.invariant.3
          (λ i low high. ap (λ b. cond b (get_or a.classes.now i 0) a.class) (le-ltb i a.from (omega (arith, low, l.invariant.1)))),
    )

pub shape_of-classes : goal.shape_of-classes
shape_of-classes c = c.loop-c.invariant.0

pub returns : goal.returns
returns c = let l = c.loop-c in (l.invariant.0, λ i h. l.invariant.3 i (omega (arith, h, c.loop-c-test.false)))
