-- The terms of nine numbers are fed by position. The invariant: feeding the terms from the position on, to the state so far, is feeding all.
-- Assumes nothing.
use mathlib.Core.Path.{refl, sym, ap, subst, ◌∙◌}
use Prim.Native.Nat.{◌+◌}
use native.Mathlib.Omega.{arith}
use lib.IntN.{pos}
use lib.ListN.{get_or}
use mir.Syntax.{w16, w32}
use mir.Val.{to_z, of_z}
use Rattle.expression.proofs.Laws.Numbers.{back, zero_bits, other_bits}
use Rattle.typed.specs.bridge.Answers.{state_of, SameLoans}
use Rattle.typed.proofs.Laws.Loans.{loans_on}
use Rattle.typed.proofs.Laws.Shorts.{short_at, cut, within_each}
use Rattle.typed.proofs.Laws.Terms.{no_term, term_fed, terms_step, terms_end}
use Rattle.typed.proofs.output.feed_terms.Goals as goal
use Rattle.typed.proofs.output.feed_terms.Goals.{then-coefficient-ne0, else-coefficient-ne0}

pub overflow_cast-coefficient : goal.overflow_cast-coefficient
overflow_cast-coefficient c =
    let ns = c.args.part.now.numbers in
    let p = c.loop-position.position in
    let h = short_at ns p (within_each ns c.requires) in
    rw (c.from.ensures, back (get_or ns (p + 1) (pos 0)) (omega arith)) (record { sfits = h })

pub loop-position-preserved : goal.loop-position-preserved
loop-position-preserved c =
    let ns = c.args.part.now.numbers in
    let p = c.loop-position.position in
    let k = get_or ns (p + 1) (pos 0) in
    let st = state_of c.loop-position.records in
    let n = c.args.part.now.small.count in
    let l = c.loop-position-test.true in
    let at = c.from.ensures in
    let h = short_at ns p (within_each ns c.requires) in
    record {
      state = terms_step ns p st (omega arith) refl (elim c.if-coefficient-ne0.branch [
        | then-coefficient-ne0 w ↦ ap state_of w.records-is ∙ term_fed p k st (other_bits k (λ z. w.if-coefficient-ne0.true (ap (λ q. of_z w32 (get_or ns (q + 1) (pos 0))) at ∙ z))) (ap (λ q. to_z w16 (of_z w16 (to_z w32 (of_z w32 (get_or ns (q + 1) (pos 0)))))) at ∙ cut k h) w.term_record.ensures w.feed.ensures.state
        | else-coefficient-ne0 w ↦ ap state_of w.records-is ∙ no_term p k st (zero_bits k (omega arith) (ap (λ q. of_z w32 (get_or ns (q + 1) (pos 0))) (sym at) ∙ w.if-coefficient-ne0.false))
      ])
          ∙ c.loop-position.invariant.state;
      same_loans = elim c.if-coefficient-ne0.branch [
        | then-coefficient-ne0 w ↦ subst (SameLoans c.args.records.now) (sym w.records-is) (loans_on c.loop-position.invariant.same_loans w.feed.ensures.same_loans)
        | else-coefficient-ne0 w ↦ subst (SameLoans c.args.records.now) (sym w.records-is) c.loop-position.invariant.same_loans
      ];
    }

pub returns-clause-state : goal.returns-clause-state
returns-clause-state c =
    let n = c.args.part.now.small.count in
    let l = c.loop-position-test.false in
    terms_end c.args.part.now.numbers c.loop-position.position (c.loop-position.position + 1) (state_of c.loop-position.records) (omega arith) ∙ c.loop-position.invariant.state
