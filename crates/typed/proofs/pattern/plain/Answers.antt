-- `typed::pattern::plain` meets its contract: the ways through it are those through the definition.
-- Assumes nothing.
use mathlib.Core.Bool.{Bool}
use mathlib.Core.List.{List}
use mathlib.Core.Path.{sym, ◌∙◌}
use Prim.Native.Nat.{ℕ}
use lib.Dec.{eqb}
use Rattle.lists.specs.Lists.{any}
use Rattle.expression.proofs.Laws.Steps.{further}
use Rattle.typed.proofs.Laws.Readings.{read_none, read_some, no_value, value, contains_any, plain_none, plain_escaped, plain_special, plain_bare}
use Rattle.typed.proofs.pattern.plain.Goals as goal

-- the test of a list of characters
abbrev one_of : List ℕ → ℕ → Bool
one_of w c = any (eqb c) w

pub returns-in_err-c : goal.returns-in_err-c
returns-in_err-c c = rw c.from_residual.ensures (no_value (plain_none (one_of c.args.special.now) _ (read_none c.any_character.ensures c.in_err-c.was)))

pub returns-then-c-eq-BACKSLASH : goal.returns-then-c-eq-BACKSLASH
returns-then-c-eq-BACKSLASH c =
    let g = read_some c.any_character.ensures c.in_ok-c.was in
    further g.from c.any_character-then-c-eq-BACKSLASH.ensures (sym (plain_escaped (one_of c.args.special.now) _ _ _ g.is c.if-c-eq-BACKSLASH.true))

pub returns-then-contains : goal.returns-then-contains
returns-then-contains c =
    let g = read_some c.any_character.ensures c.in_ok-c.was in
    no_value (plain_special (one_of c.args.special.now) _ _ _ g.is c.if-c-eq-BACKSLASH.false
    (sym (contains_any c.args.special.now c.in_ok-c.c) ∙ sym c.contains.ensures.value ∙ c.if-contains.true))

pub returns : goal.returns
returns c =
    let g = read_some c.any_character.ensures c.in_ok-c.was in
    value (record {
      from = g.from;
      to = g.to;
      is = plain_bare (one_of c.args.special.now) _ _ _ g.is c.if-c-eq-BACKSLASH.false
          (sym (contains_any c.args.special.now c.in_ok-c.c) ∙ sym c.contains.ensures.value ∙ c.if-contains.false);
    })
