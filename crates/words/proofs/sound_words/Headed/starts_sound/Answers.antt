-- `Headed::starts_sound` meets its contract: the first start is tested, and that each is below the next.
-- Assumes nothing.
use Rattle.std.proofs.Common.{◌≡◌, ◌+◌, ◌-◌, ltb, take, drop, sym, ap, ◌∙◌, arith, of_calls, rules, eq-eqb}
use borrow.Author.Tests.{tests}
use Rattle.std.proofs.lemmas.Fn.{always_returns_same}
use Rattle.lists.proofs.Laws.Tests.{all_next, all_last}
use Rattle.automaton.specs.Layout.{classes_from}
use Rattle.automaton.specs.Sound.{sound_starts}
use Rattle.words.proofs.Laws.Classes.{starts_tested}
use Rattle.words.proofs.sound_words.Headed.starts_sound.Goals as goal

pub returns-then-class_start-eq0 : goal.returns-then-class_start-eq0
unfolding sound_starts
returns-then-class_start-eq0 c =
    let s = c.args.self in
    let w = s.words.all.now in
    let n = c.class_count.result in
    let part = take (classes_from + n - classes_from) (drop classes_from w) in
    let same : part ≡ take n (drop classes_from w) = ap (λ m. take m (drop classes_from w)) (omega arith) in
    let each = c.is_sorted_by.ensures.cases ltb (always_returns_same _ _ _ (λ a r f k. search (rules, of_calls, tests))) in
    starts_tested w n (omega (arith, s.words.whole, s.classes, c.class_count.ensures)) _ (rw same at each)
    ∙ rw c.class_count.ensures (sym (all_next _ (eq-eqb _ _ (sym c.class_start.ensures ∙ c.if-class_start-eq0.true)) ∙ all_last _))
