-- `kept::path_to` meets its contract: the loop keeps that the characters from the next on lead from the state to the same end.
-- Assumes nothing.
use mathlib.Core.List.{◌∷◌}
use mathlib.Core.Path.{◌≡◌, refl, sym, ap, ◌∙◌}
use Prim.Native.Nat.{◌+◌, suc}
use native.Mathlib.Omega.{arith}
use lib.ListN.{length, get_or, drop}
use lib.Seq.{drop-cons, drop-length}
use Rattle.automaton.specs.Automaton.{from_words}
use Rattle.automaton.proofs.Laws.Words.{sound_header_lem}
use Rattle.reckoning.specs.Session.{path}
use Rattle.session.specs.bridge.Later.{path_of}
use Rattle.reckoning.proofs.Laws.Keeping.{path_stops, path_goes, path_inside}
use Rattle.session.proofs.kept.path_to.Goals as goal
use Rattle.session.proofs.kept.path_to.Goals.{In-loop-c}

-- in the loop, the character is the next
onward : (l : In-loop-c) → let m = from_words l.args.machine.words.all.now in let held = l.args.held.now in let i = l.loop-c.c-index in
    path m 0 held ≡ path m l.loop-c.state.0 (get_or held i 0 ∷ drop (i + 1) held)
onward l =
    let m = from_words l.args.machine.words.all.now in
    let held = l.args.held.now in
    let i = l.loop-c.c-index in
    let n : suc i ≡ i + 1 = omega arith in
    l.loop-c.invariant.1
    ∙ ap (path m l.loop-c.state.0) (drop-cons held i 0 l.loop-c-test.true)
    ∙ ap (λ k. path m l.loop-c.state.0 (get_or held i 0 ∷ drop k held)) n

pub loop-c-init : goal.loop-c-init
loop-c-init c = ((sound_header_lem c.args.machine.words.all.now c.args.machine.sound).some_state, refl)

pub next_state-requires : goal.next_state-requires
next_state-requires c = c.loop-c.invariant.0

pub returns-in_err-state : goal.returns-in_err-state
returns-in_err-state c =
    let m = from_words c.args.machine.words.all.now in
    ap path_of c.from_residual.ensures ∙ sym (onward (goal.at.returns-in_err-state c).In-loop-c ∙ path_stops m c.loop-c.state.0 _ _ (sym c.in_err-state.ensures))

pub loop-c-preserved : goal.loop-c-preserved
loop-c-preserved c =
    let w = c.args.machine.words.all.now in
    let q = c.loop-c.state.0 in
    let led = sym c.in_ok-state.ensures in
    (path_inside w c.args.machine.sound q _ _ c.loop-c.invariant.0 led, onward (goal.at.loop-c-preserved c).In-loop-c ∙ path_goes (from_words w) q _ _ _ led)

pub returns : goal.returns
unfolding path
returns c =
    let m = from_words c.args.machine.words.all.now in
    let held = c.args.held.now in
    let e : c.loop-c.c-index ≡ length held = omega arith in
    sym (c.loop-c.invariant.1 ∙ ap (λ n. path m c.loop-c.state.0 (drop n held)) e ∙ ap (path m c.loop-c.state.0) (drop-length held))
