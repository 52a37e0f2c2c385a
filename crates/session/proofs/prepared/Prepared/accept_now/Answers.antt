-- `prepared::Prepared::accept_now` meets its contract: each case is that of the definition.
-- Assumes nothing.
use mathlib.Core.Bool.{cond}
use mathlib.Core.Path.{sym, ap, ◌∙◌}
use Rattle.automaton.specs.Sound.{accept_word}
use Rattle.session.specs.bridge.Running.{accept_now}
use Rattle.session.proofs.prepared.Prepared.accept_now.Goals as goal
use Rattle.session.proofs.prepared.Prepared.accept_now.Goals.{Start}

pub returns-then-stuck : goal.returns-then-stuck
returns-then-stuck c =
    let a = c.args in
    c.accept_at.ensures ∙ ap (λ b. accept_now a.self.now.machine.words.all.now a.state.0 b a.ended) (sym c.if-stuck.true)

pub returns-then-ended : goal.returns-then-ended
returns-then-ended c =
    let a = c.args in
    c.accept_at_end.ensures ∙ sym (λ i. accept_now a.self.now.machine.words.all.now a.state.0 (c.if-stuck.false i) (c.if-ended.true i))

pub returns-then-settled : goal.returns-then-settled
returns-then-settled c =
    let a = c.args in
    let test = c.settled.ensures in
    c.accept_at-then-settled.ensures
    ∙ ap (λ b. cond b (accept_word a.self.now.machine.words.all.now a.state.0) 0) (sym c.if-settled.true ∙ test)
    ∙ sym (λ i. accept_now a.self.now.machine.words.all.now a.state.0 (c.if-stuck.false i) (c.if-ended.false i))

pub returns : goal.returns
returns c =
    let a = c.args in
    let test = c.settled.ensures in
    ap (λ b. cond b (accept_word a.self.now.machine.words.all.now a.state.0) 0) (sym c.if-settled.false ∙ test)
    ∙ sym (λ i. accept_now a.self.now.machine.words.all.now a.state.0 (c.if-stuck.false i) (c.if-ended.false i))
