-- `search::class_leading` meets its contract: the library's search of a range finds the first class that passes.
-- Assumes nothing.
use Rattle.std.proofs.Common.{rules, arith, ◌≡◌, ◌≤◌, ℕ, Bool, true, false, ap, ◌∙◌}
use borrow.Author.Tests.{tests}
use Rattle.std.proofs.lemmas.Iterator.{first_from_Range, serves_from_Range}
use Rattle.std.specs.Prelude.{option_map}
use Rattle.automaton.proofs.Laws.Words.{sound_header_lem}
use Rattle.witness.specs.bridge.Search.{leading, first_below}
use Rattle.witness.proofs.Laws.Search.{first_is}
use Rattle.witness.proofs.search.class_leading.Goals as goal

pub overflow_cast-classes : goal.overflow_cast-classes
overflow_cast-classes c = let few = (sound_header_lem c.args.machine.words.all.now c.args.machine.sound).few_classes in omega arith

pub find-requires-clause-callable : goal.find-requires-clause-callable
find-requires-clause-callable c =
    let few : c.class_count-classes.result ≤ 64 = let h = (sound_header_lem c.args.machine.words.all.now c.args.machine.sound).few_classes in omega arith in
    serves_from_Range (λ x q k. search (rules, tests)) (λ x l h. search rules)

pub returns : goal.returns
returns c =
    let w = c.args.machine.words.all.now in
    let p : ℕ → Bool = leading w c.args.from.0 c.args.to.0 in
    let found = first_from_Range _ _ _ c.find.result (λ k. p k ≡ true) (λ k. p k ≡ false) c.find.ensures.ran (λ x q k. search (rules, tests)) (λ x q k. search (rules, tests)) in
    let numbers : option_map (λ s. s.0) c.map.result ≡ c.find.result = search (rules, tests) in
    numbers ∙ first_is p c.class_count-classes.result c.find.result found ∙ ap (λ n. first_below n p) c.class_count-classes.ensures
