-- `uses::uses_sound` meets its contract: the sum is what was consumed just where the default's count is what the rules and the pairs leave of it.
-- Past the sum the tests of counts that the machine lacks decide.
use mathlib.Core.Bool.{Bool}
use mathlib.Core.List.{List}
use mathlib.Core.Path.{◌≡◌, sym, ap, ◌∙◌}
use Prim.Native.Nat.{ℕ, ◌+◌, ◌-◌, ◌≤◌}
use native.Mathlib.Omega.{arith}
use borrow.Author.Rules.{rules}
use lib.Dec.{eqb}
use lib.ListN.{take, drop}
use Rattle.std.specs.Prelude.{Some}
use Rattle.std.specs.Option.{option_eq}
use Rattle.std.proofs.lemmas.List.{drop-take}
use Rattle.lists.specs.Lists.{all}
use Rattle.lists.proofs.Laws.Tests.{all_stops, all_next}
use Rattle.meaning.specs.Table.{default_number}
use Rattle.meaning.specs.Block.{at}
use Rattle.automaton.specs.Sound.{rule_count}
use Rattle.automaton.proofs.Laws.Words.{sound_header_lem}
use Rattle.reckoning.specs.Uses.{characters_used, sound_uses}
use Rattle.session.proofs.Laws.Counting.{less_is}
use Rattle.session.proofs.uses.uses_sound.Goals as goal
use Rattle.session.proofs.uses.uses_sound.Goals.{After-eq, After-rule_count, then-eq, else-eq}

-- the sum is what was consumed
sum : (c : After-eq) → c.eq.result ≡ eqb (characters_used c.args.machine.words.all.now c.args.uses.now) c.args.consumed
unfolding characters_used
sum c = let uses = c.args.uses.now in
    c.eq.ensures
    ∙ ap (λ o. option_eq eqb o (Some (at uses default_number))) c.left_to_default.ensures
    ∙ less_is c.args.consumed _ (at uses default_number)
    ∙ ap (λ n. eqb n c.args.consumed) (omega arith)

few : (c : After-rule_count) → c.rule_count.result ≤ 32
few c = omega (arith, c.rule_count.ensures, (sound_header_lem c.args.machine.words.all.now c.args.machine.sound).few_rules)

pub offset_bounds-uses-rule_count : goal.offset_bounds-uses-rule_count
offset_bounds-uses-rule_count c = omega (arith, few c)

pub slice_bounds-all_unused-count : goal.slice_bounds-all_unused-count
slice_bounds-all_unused-count c = few c

pub slice_bounds-all_unused-start : goal.slice_bounds-all_unused-start
slice_bounds-all_unused-start c = let h = few c in search rules

-- the counts of the rules that the machine lacks
others : (w uses : List ℕ) {r : Bool} {n : ℕ} → n ≡ rule_count w → n ≤ 32 → r ≡ all (eqb 0) (take (32 - n) (drop n uses)) →
    r ≡ all (eqb 0) (drop (rule_count w) (take default_number uses))
others w uses {r} {n} e b k =
    let whole : n + (32 - n) ≡ 32 = omega arith in
    k
    ∙ ap (all (eqb 0)) (sym (drop-take n (32 - n) uses) ∙ ap (λ m. drop n (take m uses)) whole)
    ∙ ap (λ m. all (eqb 0) (drop m (take 32 uses))) e

pub returns-then-all_unused : goal.returns-then-all_unused
unfolding sound_uses
returns-then-all_unused c =
    let a = c.args in
    let e = sum (goal.at.returns-then-all_unused c).After-eq in
    let few = (sound_header_lem a.machine.words.all.now c.args.machine.sound).few_rules in
    elim c.if-eq.branch [
      | then-eq w ↦
          let o = others a.machine.words.all.now a.uses.now w.rule_count.ensures (omega (arith, w.rule_count.ensures, few)) w.all_unused.ensures in
          c.defaults_sound.ensures ∙ sym (all_next _ (sym e ∙ w.if-eq.true) ∙ all_next _ (sym o ∙ sym w.value-is ∙ c.if-all_unused.true))
      | else-eq w ↦ cc
    ]

pub returns-else-all_unused : goal.returns-else-all_unused
unfolding sound_uses
returns-else-all_unused c =
    let a = c.args in
    let e = sum (goal.at.returns-else-all_unused c).After-eq in
    let few = (sound_header_lem a.machine.words.all.now c.args.machine.sound).few_rules in
    elim c.if-eq.branch [
      | then-eq w ↦
          let o = others a.machine.words.all.now a.uses.now w.rule_count.ensures (omega (arith, w.rule_count.ensures, few)) w.all_unused.ensures in
          c.if-all_unused.false ∙ sym (all_next _ (sym e ∙ w.if-eq.true) ∙ all_stops _ (sym o ∙ sym w.value-is ∙ c.if-all_unused.false))
      | else-eq w ↦ c.if-all_unused.false ∙ sym (all_stops _ (sym e ∙ w.if-eq.false))
    ]
