-- `states::Met::find` meets its contract. The invariant: no state from i on is the one looked for.
-- One that is found is the first, since no state is there twice. Assumes nothing.
use Rattle.std.proofs.Common.{arith, ◌-◌, sym, ◌∙◌}
use native.Mathlib.Decide.{dec_lt}
use Rattle.automaton.proofs.Laws.Looking.{looked_found, looked_none}
use Rattle.machine.proofs.states.Met.find.Goals as goal

pub returns-then-words-i-clause-number : goal.returns-then-words-i-clause-number
returns-then-words-i-clause-number c n f h =
    let a = c.args in
    let m = a.self.now in
    let p = c.if-self-i.true in
    let q = c.if-words-i.true in
    sym (looked_found a.words.now m.sets m.count a.depth a.set n f h (c.loop-i.i - 1) (omega arith)
    (λ j k e d. c.requires.by_index_2 j (c.loop-i.i - 1) k (omega arith) (e ∙ sym p) (d ∙ sym q)) p q)

pub returns-clause-number : goal.returns-clause-number
returns-clause-number c n f h =
    let a = c.args in
    let m = a.self.now in
    sym (looked_none a.words.now m.sets m.count a.depth a.set n f h
    (λ j k e d. elim (dec_lt j c.loop-i.i) [ yes p ↦ c.requires.by_index j (omega arith) d | no p ↦ c.loop-i.invariant j (omega arith) k e d ]))
