-- `gather::put_in` meets its contract. The invariant: the words up to i are those moved, and the one carried comes next.
-- Assumes nothing.
use mathlib.Core.List.{◌∷◌}
use mathlib.Core.Path.{◌≡◌, refl, ap, ◌∙◌}
use Prim.Native.Nat.{◌<◌, ◌≤◌, ◌+◌, ◌-◌}
use native.Mathlib.Omega.{arith}
use borrow.Author.Rules.{rules}
use lib.ListN.{set, length, get_or, drop}
use lib.Seq.{paste}
use Rattle.automaton.proofs.Laws.Placing.{move_start, move_next, move_ahead, move_end}
use Rattle.machine.proofs.gather.put_in.Goals as goal

pub loop-i-init : goal.loop-i-init
loop-i-init c =
    let a = c.args in
    let e : 0 ≡ a.place - a.place = omega arith in
    (search rules, refl, move_start a.words.now a.place a.start, ap (λ k. get_or (a.start ∷ drop a.place a.words.now) k 0) e)

pub loop-i-preserved : goal.loop-i-preserved
loop-i-preserved c =
    let a = c.args in
    let h : a.place ≤ c.loop-i.i = search rules in
    let k : c.loop-i.i < length a.words.now = search rules in (
      search rules,
      search rules,
      ap (λ v. set v c.loop-i.i c.loop-i.carried) c.loop-i.invariant.2
          ∙ ap (set (paste a.words.now a.place (a.start ∷ drop a.place a.words.now) (c.loop-i.i - a.place)) c.loop-i.i) c.loop-i.invariant.3
          ∙ move_next a.words.now a.place a.start c.loop-i.i h k,
      ap (λ v. get_or v c.loop-i.i 0) c.loop-i.invariant.2 ∙ move_ahead a.words.now a.place a.start c.loop-i.i h k,
    )

pub returns : goal.returns
returns c =
    let a = c.args in
    let e : c.loop-i.i ≡ a.end + 1 = search rules in
    c.loop-i.invariant.2 ∙ ap (λ k. paste a.words.now a.place (a.start ∷ drop a.place a.words.now) (k - a.place)) e
    ∙ move_end a.words.now a.place a.start a.end c.requires.0
