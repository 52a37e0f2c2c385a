-- `gather::place_of` meets its contract: the starts passed are those below the new one.
-- Assumes nothing.
use Rattle.std.proofs.Common.{rules, tests, ◌≡◌, ℕ, List, [], ◌∷◌, Bool, cond, ltb, take, drop, refl, suc, ◌+◌, ◌-◌, arith, ap, ◌∙◌}
use Rattle.std.specs.List.{prefix_len}
use Rattle.std.specs.Iterator.Adapters.{take_while_source}
use Rattle.std.specs.Slice.Iter.{iter_rest}
use Rattle.std.proofs.lemmas.Iterator.{YieldsList-from_slice}
use Rattle.std.proofs.lemmas.Iterator.Consumers.{count_from_yields_List}
use Rattle.std.proofs.lemmas.Iterator.Search.{YieldsList-from_take_while}
use Rattle.std.proofs.lemmas.List.Folds.{length-prefix_len}
use Rattle.automaton.specs.Layout.{classes_from}
use Rattle.automaton.specs.bridge.Gathered.{place_in}
use Rattle.machine.proofs.gather.place_of.Goals as goal

passed : (x : ℕ) (ys : List ℕ) → prefix_len (λ y. ltb y x) ys ≡ place_in x ys
passed x [] = refl
passed x (y ∷ ys) = let e : suc (prefix_len (λ z. ltb z x) ys) ≡ suc (place_in x ys) = ap suc (passed x ys) in ap (λ n. cond (ltb y x) n 0) (omega arith)

pub returns : goal.returns
returns c =
    let a = c.args in
    let starts = take a.count (drop classes_from a.words.now) in
    let below : ℕ → Bool = λ y. ltb y a.start in
    let n : 6 + a.count - 6 ≡ a.count = omega arith in
    let left : iter_rest (take_while_source c.take_while.result) ≡ starts = ap iter_rest c.take_while.ensures.source ∙ c.iter.ensures.rest ∙ ap (λ k. take k (drop classes_from a.words.now)) n in
    count_from_yields_List c.take_while.result c.count.result c.count.ensures.ran
    (YieldsList-from_take_while _ below (YieldsList-from_slice starts left) c.take_while.ensures.closure c.take_while.ensures.done (λ x b q k. search (rules, tests)))
    ∙ length-prefix_len below starts ∙ passed a.start starts
