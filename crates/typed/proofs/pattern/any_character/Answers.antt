-- `typed::pattern::any_character` meets its contract: a place below the length has a character.
-- Assumes nothing.
use mathlib.Core.Path.{sym, ap, ◌∙◌}
use Prim.Native.Nat.{◌+◌}
use native.Mathlib.Nat.{le_refl}
use native.Mathlib.Omega.{arith}
use lib.ListN.{drop}
use Rattle.expression.specs.bridge.Text.{got}
use Rattle.typed.proofs.Laws.Readings.{no_value, value, character_there, character_past}
use Rattle.typed.proofs.pattern.any_character.Goals as goal

pub returns-in_err-c : goal.returns-in_err-c
returns-in_err-c c = rw c.from_residual.ensures (no_value (character_past c.args.s.now c.args.at c.in_err-c.ensures.lookup.3))

pub returns : goal.returns
returns c =
    let a = c.args in
    let h = c.in_ok-c.ensures.lookup in
    let l = h.3.0 in
    value (record {
      from = omega arith;
      to = omega arith;
      is = character_there a.s.now a.at l ∙ ap (λ x. got x (drop (a.at + 1) a.s.now)) (sym (h.4 (le_refl _) 0));
    })
