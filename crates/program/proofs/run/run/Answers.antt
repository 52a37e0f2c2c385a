-- `run` meets its contract: for each answer of compiling, what the definition gives it.
-- Assumes nothing.
use mathlib.Core.Path.{sym, ap, ◌∙◌}
use Prim.Native.Nat.{ℕ}
use lib.ListN.{length-replicate}
use Rattle.automaton.specs.Layout.{word_count}
use Rattle.rules.specs.Answers.{outcome_of}
use Rattle.program.proofs.Laws.Turns.{ran_by}
use Rattle.program.proofs.run.run.Goals as goal

pub returns-in-Ok : goal.returns-in-Ok
returns-in-Ok c =
    let compiled = c.compile.ensures in
    let answer = sym (ap outcome_of c.in-Ok.is) ∙ compiled.answer in
    ran_by _ _ _ _ _ (length-replicate {A = ℕ} word_count 0) answer compiled.words c.convert_input.ensures

pub returns-in-Err : goal.returns-in-Err
returns-in-Err c =
    let compiled = c.compile.ensures in
    let answer = sym (ap outcome_of c.in-Err.is) ∙ compiled.answer in
    ran_by _ _ _ _ _ (length-replicate {A = ℕ} word_count 0) answer compiled.words c.refuse.ensures
