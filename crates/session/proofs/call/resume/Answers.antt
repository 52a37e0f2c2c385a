-- `call::resume` meets its contract: the run from what the session holds is the definition's, and the places gathered are its store.
-- The session was admitted, so it is sound and the call leaves a sound one: no number overflows.
use mathlib.Core.Bool.{Bool}
use mathlib.Core.List.{List, [], ◌++◌}
use mathlib.Core.Path.{◌≡◌, ap, subst, ◌∙◌}
use Prim.Native.Nat.{ℕ, ◌-◌}
use native.Mathlib.Omega.{arith}
use borrow.Author.Rules.{rules}
use lib.ListN.{length, take, drop}
use Rattle.lists.specs.Lists.{pad}
use Rattle.meaning.specs.Direct.{over}
use Rattle.session.specs.Keeping.{together, session_of}
use Rattle.meaning.specs.Meaning.{text_of}
use Rattle.automaton.specs.Automaton.{from_words}
use Rattle.reckoning.specs.Machine.{run, start}
use Rattle.session.specs.bridge.Running.{Lent, EndsAs, put}
use Rattle.session.specs.declared.run.Ran.{Ran}
use Rattle.reckoning.proofs.Laws.Answers.{Admitted}
use Rattle.session.proofs.Laws.Resuming.{admitted, count_inside, run_asks, gather_asks, small, same_outcome}
use Rattle.session.proofs.call.resume.Goals as goal
use Rattle.session.proofs.call.resume.Goals.{Start}

known : (s : Start) → let a = s.args in Admitted a.machine.words.all.now (session_of (together a.kept a.uses.now)) (length a.piece.now) s.requires.0
known s = let a = s.args in admitted a.machine.words.all.now (session_of (together a.kept a.uses.now)) (length a.piece.now) s.requires.0 s.requires.1

eight : (s : Start) → length s.args.kept.held ≡ 8
eight s = search rules

-- what the run ends as, by the characters given to it; and these are those held
abbrev Ends : List ℕ → List ℕ → ℕ → Bool → Lent → Lent → Ran → List ℕ → Type 0
Ends w piece q ended found has ran given =
    let r = run (from_words w) ended (start given piece q) in
    EndsAs w (given ++ piece) r found.uses ran has × (has.output ≡ put found.output 0 (text_of (from_words w).write r.final.log))

from_held : (w piece : List ℕ) (q : ℕ) (ended : Bool) (found has : Lent) (ran : Ran) {given held : List ℕ} → given ≡ held →
    Ends w piece q ended found has ran given → Ends w piece q ended found has ran held
from_held w piece q ended found has ran e r = subst (Ends w piece q ended found has ran) e r

pub held-requires : goal.held-requires
held-requires c =
    let a = c.args in
    let k = known (goal.at.held-requires c).Start in
    let n = eight (goal.at.held-requires c).Start in
    omega (arith, count_inside a.machine.words.all.now a.kept a.uses.now a.piece.now a.ended _ k n, n)

pub run_words-ran-requires : goal.run_words-ran-requires
run_words-ran-requires c =
    let a = c.args in
    let k = known (goal.at.run_words-ran-requires c).Start in
    let n = eight (goal.at.run_words-ran-requires c).Start in
    rw c.held.ensures (run_asks a.machine.words.all.now a.kept a.uses.now a.piece.now a.ended _ k n (length a.output.now) c.requires.2 c.told-uses)

pub gather-requires : goal.gather-requires
gather-requires c =
    let a = c.args in
    let k = known (goal.at.gather-requires c).Start in
    let n = eight (goal.at.gather-requires c).Start in
    let f = from_held a.machine.words.all.now a.piece.now a.kept.state.0 a.ended _ _ _ c.held.ensures c.run_words-ran.ensures in
    rw c.held.ensures (gather_asks a.machine.words.all.now a.kept a.uses.now a.piece.now a.ended _ k n c.run_words-ran.result _ f.0)

pub later-requires : goal.later-requires
later-requires c =
    let a = c.args in
    let k = known (goal.at.later-requires c).Start in
    let n = eight (goal.at.later-requires c).Start in
    let f = from_held a.machine.words.all.now a.piece.now a.kept.state.0 a.ended _ _ _ c.held.ensures c.run_words-ran.ensures in
    small a.machine.words.all.now a.kept a.uses.now a.piece.now a.ended _ k n c.run_words-ran.result _ f.0

pub returns : goal.returns
unfolding pad
returns c =
    let a = c.args in
    let k = known (goal.at.returns c).Start in
    let n = eight (goal.at.returns c).Start in
    let f = from_held a.machine.words.all.now a.piece.now a.kept.state.0 a.ended _ _ _ c.held.ensures c.run_words-ran.ensures in
    same_outcome a.machine.words.all.now a.kept a.uses.now a.piece.now a.ended _ k n c.run_words-ran.result _ f.0 a.output.now _ c.later.result f.1
    (c.gather.ensures ∙ ap (λ g. over (take (c.run_words-ran.result.at - c.run_words-ran.result.from) (drop c.run_words-ran.result.from (g ++ a.piece.now))) (pad 8 [])) c.held.ensures) c.later.ensures
