-- `search::state_telling` meets its contract: the library's search of a range finds the first state that passes.
-- Assumes nothing.
use Rattle.std.proofs.Common.{rules, arith, ◌≡◌, ◌≤◌, ◌<◌, ℕ, Bool, true, false, ap, ◌∙◌}
use borrow.Author.Tests.{tests}
use Rattle.std.proofs.lemmas.Iterator.{first_from_Range, serves_from_Range}
use Rattle.std.specs.Prelude.{option_map}
use Rattle.automaton.proofs.Laws.Words.{sound_header_lem}
use Rattle.witness.specs.bridge.Search.{telling, first_below}
use Rattle.witness.proofs.Laws.Search.{first_is}
use Rattle.witness.proofs.search.state_telling.Goals as goal

pub overflow_cast-states : goal.overflow_cast-states
overflow_cast-states c = let few = (sound_header_lem c.args.machine.words.all.now c.args.machine.sound).few_states in omega arith

pub find-requires-clause-callable : goal.find-requires-clause-callable
find-requires-clause-callable c =
    let few : c.state_count-states.result ≤ 256 = let h = (sound_header_lem c.args.machine.words.all.now c.args.machine.sound).few_states in omega arith in
    serves_from_Range (λ x q k. search (rules, tests)) (λ x l h. let k : x < 256 = omega arith in λ y e _ _ _ _ _ _ _ _. omega (arith, k, e))

pub returns : goal.returns
returns c =
    let w = c.args.machine.words.all.now in
    let p : ℕ → Bool = telling w c.args.rule in
    let found = first_from_Range _ _ _ c.find.result (λ k. p k ≡ true) (λ k. p k ≡ false) c.find.ensures.ran (λ x q k. search (rules, tests)) (λ x q k. search (rules, tests)) in
    let numbers : option_map (λ s. s.0) c.map.result ≡ c.find.result = search (rules, tests) in
    numbers ∙ first_is p c.state_count-states.result c.find.result found ∙ ap (λ n. first_below n p) c.state_count-states.ensures
