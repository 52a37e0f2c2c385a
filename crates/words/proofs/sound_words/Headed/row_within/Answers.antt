-- `Headed::row_within` meets its contract: the loop keeps that the words joined so far are 0 just where each target before has passed.
use Rattle.std.proofs.Common.{◌≡◌, ℕ, ◌+◌, ◌-◌, ◌*◌, ◌<◌, ◌≤◌, Bool, ◌&&◌, eqb, List, length, take, drop, length-take-le, length-drop, get_or-take, get_or-drop, sym, refl, ap, ◌∙◌, add-one, arith}
use Rattle.lists.specs.Decide.{for_below}
use Rattle.lists.proofs.Laws.Tests.{joined_none}
use Rattle.meaning.specs.Block.{at}
use Rattle.automaton.specs.Layout.{targets_from}
use Rattle.words.specs.bridge.Levels.{row_within}
use Rattle.words.proofs.Laws.Levels.{passes_by_stray}
use Rattle.words.proofs.sound_words.Headed.row_within.Invariants.{test}
use Rattle.words.proofs.sound_words.Headed.row_within.Goals as goal

pub loop-word-init : goal.loop-word-init
unfolding for_below
loop-word-init c = refl

-- the targets that the loop goes over, and the word at a place of them
module _ (w : List ℕ) (from wide : ℕ) (long : from + wide ≤ length w) where
  abbrev row : List ℕ
  row = take (from + wide - from) (drop from w)

  row_size : length row ≡ wide
  row_size =
      let e : from + wide - from ≡ wide = omega arith in
      length-take-le (from + wide - from) (drop from w) (omega (arith, length-drop from w)) ∙ e

  row_at : (k : ℕ) → k < wide → at row k ≡ at w (from + k)
  row_at k h = get_or-take (from + wide - from) (drop from w) k 0 (omega arith) ∙ get_or-drop from w k 0

-- one target more
next : (p : ℕ → Bool) (k : ℕ) → for_below k p && p k ≡ for_below (k + 1) p
unfolding for_below
next p k = ap (λ n. for_below n p) (sym (add-one k))

pub loop-word-preserved : goal.loop-word-preserved
loop-word-preserved c =
    let a = c.args in
    let w = a.self.words.all.now in
    let from = targets_from + 64 * c.from.result in
    let long : from + a.wide ≤ length w = omega (arith, a.self.words.whole, c.from.ensures, c.requires) in
    let k = c.loop-word.word-index in
    let here = rw (row_at w from a.wide long k (omega (arith, row_size w from a.wide long, c.loop-word-test.true))) at c.stray-astray.ensures in
    let p = test w from a.low a.high in
    sym (joined_none c.loop-word.astray c.stray-astray.result)
    ∙ ap (λ b. b && eqb 0 c.stray-astray.result) c.loop-word.invariant
    ∙ ap (λ b. for_below k p && b) (passes_by_stray (at w (from + k)) a.low a.high (omega arith) here)
    ∙ next p k

pub returns : goal.returns
unfolding row_within
returns c =
    let a = c.args in
    let w = a.self.words.all.now in
    let from = targets_from + 64 * c.from.result in
    let long : from + a.wide ≤ length w = omega (arith, a.self.words.whole, c.from.ensures, c.requires) in
    let all : c.loop-word.word-index ≡ a.wide = omega (arith, row_size w from a.wide long, c.loop-word-test.false, c.loop-word.auto.word-index-end) in
    c.loop-word.invariant ∙ ap (λ n. for_below n (test w from a.low a.high)) all ∙ ap (λ s. for_below a.wide (test w (targets_from + 64 * s) a.low a.high)) c.from.ensures
