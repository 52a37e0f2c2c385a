-- `check::witness` meets its contract: what is searched are the words of an accepted table.
-- Assumes nothing.
use Rattle.std.proofs.Common.{◌≡◌, T, sym, ap, refl, arith, ◌∙◌}
use Rattle.std.proofs.lemmas.Result.{err_from_is_err_and}
use Rattle.meaning.specs.Refusal.{refused, accepted}
use Rattle.meaning.specs.Records.{Bytes}
use Rattle.rules.specs.Answers.{number_of, outcome_of}
use Rattle.rules.proofs.Laws.Loading.{each_known}
use Rattle.automaton.proofs.Laws.Words.{sound_header_lem}
use Rattle.automaton.specs.Compile.{compile}
use Rattle.automaton.specs.Sound.{sound}
use Rattle.witness.specs.bridge.Search.{searched}
use Rattle.witness.proofs.Laws.Judged.{later_sound, accepted_checked, refused_checked}
use Rattle.witness.proofs.check.witness.Goals as goal
use Rattle.witness.proofs.check.witness.Goals.{After-compile, In_ok-compile}

bytes : (k : After-compile) → Bytes k.args.table.now
bytes k = each_known 256 k.args.table.now (λ i. omega (arith, k.type_inv.table i))

pub returns-in_err-compile : goal.returns-in_err-compile
returns-in_err-compile c =
    let a = c.args in
    let n = number_of c.in_err-compile.field-0.0 in
    let p = err_from_is_err_and c.from_residual.result c.from_residual.ensures.1 in
    (refused n, refused_checked a.table.now a.words.now c.compile.new.words c.compile.ensures.words a.rule n (sym c.compile.ensures.answer ∙ ap outcome_of c.in_err-compile.was), rw (p.1, p.2) refl)

-- accepted
answered : (c : In_ok-compile) → (compile c.args.table.now c.args.words.now).answer ≡ accepted tt
answered c = sym c.compile.ensures.answer ∙ ap outcome_of c.in_ok-compile.was

-- so the words are sound
left_sound : (c : In_ok-compile) → T (sound c.compile.new.words)
left_sound c = let a = c.args in
    later_sound a.table.now a.words.now c.compile.new.words c.compile.ensures.words (bytes (goal.at.In_ok-compile c).After-compile) (answered c)

pub invariant_of-machine : goal.invariant_of-machine
invariant_of-machine c = record { whole = (sound_header_lem c.compile.new.words (left_sound c)).long }

pub invariant_of-machine-2 : goal.invariant_of-machine-2
invariant_of-machine-2 c = record { sound = left_sound (goal.at.invariant_of-machine-2 c).In_ok-compile }

pub returns : goal.returns
returns c =
    let a = c.args in
    let k = (goal.at.returns c).In_ok-compile in
    let later = c.compile.new.words in
    (accepted (searched later a.rule), accepted_checked a.table.now a.words.now later c.compile.ensures.words (bytes (goal.at.returns c).After-compile) (answered k) a.rule, ap accepted c.search.ensures)
