-- `choose_at` meets its contract. The invariant: the best among the rules before is kept, with its length.
-- Assumes nothing.
use Rattle.std.proofs.Common.{◌≡◌, ◌*◌, ◌≤◌, ◌∙◌, sym, arith}
use Rattle.meaning.specs.Block.{at, block_size}
use Rattle.meaning.specs.Meaning.{or_default, choose}
use Rattle.meaning.specs.bridge.Flat.{table_at}
use Rattle.meaning.proofs.Laws.Choosing.{kept_none, kept_skip, kept_longer, kept_shorter, kept_choose}
use Rattle.rules.specs.bridge.Modes.{the_mode}
use Rattle.rules.proofs.loaded.Loaded.choose_at.Goals as goal
use Rattle.rules.proofs.loaded.Loaded.choose_at.Goals.{After-loop-rule, then-size-least+then-fits_at, else-size-least, else-size-least-via-then-size-least+else-fits_at, else-size-least-via-else-size-least}

pub loop-rule-init : goal.loop-rule-init
loop-rule-init c = let t = c.args.self.now in kept_none t.words.now t.rules (the_mode t.mode) c.args.rest.now

pub loop-rule-preserved : goal.loop-rule-preserved
loop-rule-preserved c =
    let t = c.args.self.now in
    let here = c.loop-rule in
    let small : at t.words.now (block_size * here.rule) ≤ 8 = t.flat.size here.rule (omega arith) in
    let shorter = kept_shorter t.words.now t.rules (the_mode t.mode) c.args.rest.now here.rule here.best here.least c.loop-rule-test.true here.invariant in
    let skip = kept_skip t.words.now t.rules (the_mode t.mode) c.args.rest.now here.rule here.best here.least c.loop-rule-test.true here.invariant in
    let longer = kept_longer t.words.now t.rules (the_mode t.mode) c.args.rest.now here.rule here.best here.least c.loop-rule-test.true here.invariant in
    elim c.if-size-least.branch [
      | then-size-least+then-fits_at w ↦ rw (w.best-is, w.least-is, c.from-size.ensures) (shorter w.fits_at.result (omega (arith, c.from-size.ensures)) w.fits_at.ensures w.if-fits_at.true)
      | else-size-least w ↦ rw (w.best-is, w.least-is) (elim w.else-size-least.branch [
        | else-size-least-via-then-size-least+else-fits_at v ↦ skip v.fits_at.result v.fits_at.ensures v.if-fits_at.false
        | else-size-least-via-else-size-least v ↦ longer (omega (arith, c.from-size.ensures)) small
      ])
    ]

-- what is kept chooses
chosen : (c : After-loop-rule) →
    let t = c.args.self.now in
    choose (table_at t.words.now t.rules (the_mode t.mode)) c.args.rest.now ≡ or_default (the_mode t.mode) c.args.rest.now c.loop-rule.best
chosen c = let t = c.args.self.now in
    let e : c.loop-rule.rule ≡ t.rules = omega arith in
    kept_choose t.words.now t.rules (the_mode t.mode) c.args.rest.now c.loop-rule.best c.loop-rule.least (rw e at c.loop-rule.invariant)

pub returns-in-Some : goal.returns-in-Some
returns-in-Some c = sym (chosen (goal.at.returns-in-Some c).After-loop-rule ∙ rw c.in-Some.is)

pub returns-in-None : goal.returns-in-None
returns-in-None c = c.fall.ensures ∙ sym (chosen (goal.at.returns-in-None c).After-loop-rule ∙ rw c.in-None.is)
