-- `run::run_from` meets its contract. The invariant: the run has ended as the machine's, or goes on to the machine's end.
-- The measure is the turns that are left at most. Assumes nothing.
use mathlib.Core.Bool.{Bool, true, false, cond}
use mathlib.Core.List.{List}
use mathlib.Core.Path.{◌≡◌, refl, sym, subst}
use Prim.Native.Nat.{ℕ, ◌-◌, ◌<◌, ◌≤◌}
use native.Mathlib.Omega.{arith}
use lib.Dec.{eqb}
use lib.ListN.{length, drop}
use Rattle.meaning.specs.Meaning.{text_of}
use Rattle.automaton.specs.Automaton.{from_words}
use Rattle.reckoning.specs.Machine.{Ended, start, run}
use Rattle.session.specs.bridge.Running.{Continue, Turn, left_by, whole, put, Lent, lent, EndsAs, less_steps}
use Rattle.session.proofs.Laws.Running.{Underway, Stage, to_go, stage_on, ends_put, beyond_on}
use Rattle.session.proofs.Laws.Beginning.{first, begins_at, ends_as}
use Rattle.session.proofs.run.run_from.Goals as goal
use Rattle.session.proofs.run.run_from.Goals.{After-advance-turn, At-loop-turn, In-Break, In-Continue}

pub loop-turn-init : goal.loop-turn-init
loop-turn-init c =
    let a = c.args in
    let t = a.text.now in
    let asks = c.requires.runnable in (
      begins_at a.machine.words.all.now t.given.now t.piece.now a.ended asks.0.0 a.state.0 asks.0.1 (lent a.output.now a.uses.now) asks.1.0.1
          asks.1.1.0 asks.1.1.1 _ refl refl c.beginning-start.ensures refl refl,
      refl,
    )

abbrev text : At-loop-turn → List ℕ
text t = whole t.args.text.now

abbrev end : At-loop-turn → Ended
end t = let a = t.args in first a.machine.words.all.now a.text.now.given.now a.text.now.piece.now a.ended a.state.0

abbrev has : At-loop-turn → Lent
has t = let l = t.loop-turn in lent l.output l.uses

-- the loop's turn, as it is told
here : (t : At-loop-turn) (n : Turn) → t.loop-turn.turn ≡ n →
    let a = t.args in
    Stage a.machine.words.all.now (text t) a.ended (length a.output.now) (end t) a.uses.now n (has t) × (drop (left_by n).count (has t).output ≡ drop (left_by n).count a.output.now)
here t n e =
    let a = t.args in
    subst (λ k. Stage a.machine.words.all.now (text t) a.ended (length a.output.now) (end t) a.uses.now k (has t) × (drop (left_by k).count (has t).output ≡ drop (left_by k).count a.output.now))
    e t.loop-turn.invariant

-- the run goes on
going : (d : In-Continue) →
    let a = d.args in
    let l = d.loop-turn in
    Underway a.machine.words.all.now (whole a.text.now) a.ended (length l.output) (end (goal.at.In-Continue d).At-loop-turn) a.uses.now d.in-Continue.run' (lent l.output l.uses)
going d =
    let a = d.args in
    let l = d.loop-turn in
    let t = (goal.at.In-Continue d).At-loop-turn in
    subst (λ n. Underway a.machine.words.all.now (text t) a.ended n (end t) a.uses.now d.in-Continue.run' (has t)) (sym l.auto.output) (here t _ d.in-Continue.is).0

pub advance-turn-requires : goal.advance-turn-requires
advance-turn-requires c = let h = going (goal.at.advance-turn-requires c).In-Continue in record { placed = (h.0, h.1) }

abbrev after : After-advance-turn → Lent
after d = lent d.advance-turn.new.output d.advance-turn.new.uses

-- the next turn
went_on : (d : After-advance-turn) →
    let a = d.args in
    let l = d.loop-turn in
    let t = (goal.at.After-advance-turn d).At-loop-turn in
    Stage a.machine.words.all.now (text t) a.ended (length l.output) (end t) a.uses.now d.advance-turn.result (after d) × (to_go (text t) d.advance-turn.result < to_go (text t) (Continue d.in-Continue.run'))
went_on d =
    let a = d.args in
    let l = d.loop-turn in
    let t = (goal.at.After-advance-turn d).At-loop-turn in
    stage_on a.machine.words.all.now (text t) a.ended (length l.output) (end t) a.uses.now d.in-Continue.run' (has t) (after d) d.advance-turn.result d.advance-turn.ensures.advances (going (goal.at.After-advance-turn d).In-Continue).2

pub loop-turn-smaller : goal.loop-turn-smaller
loop-turn-smaller c =
    let d = (goal.at.loop-turn-smaller c).After-advance-turn in
    let t = (goal.at.loop-turn-smaller c).At-loop-turn in
    subst (λ n. to_go (text t) c.advance-turn.result < to_go (text t) n) (sym c.in-Continue.is) (went_on d).1

pub loop-turn-preserved : goal.loop-turn-preserved
loop-turn-preserved c =
    let l = c.loop-turn in
    let a = c.args in
    let d = (goal.at.loop-turn-preserved c).After-advance-turn in
    let t = (goal.at.loop-turn-preserved c).At-loop-turn in (
      subst (λ n. Stage a.machine.words.all.now (text t) a.ended n (end t) a.uses.now c.advance-turn.result (after d)) l.auto.output (went_on d).0,
      beyond_on c.in-Continue.run' (left_by c.advance-turn.result) a.output.now l.output (after d).output (here t _ c.in-Continue.is).1 c.advance-turn.ensures.beyond,
    )

-- the run has ended as the machine's, with the steps counted once
finished : (c : In-Break) →
    let a = c.args in
    let t = a.text.now in
    let made = length t.given.now - c.beginning-start.result in
    (made ≤ c.in-Break.ran.steps)
    × EndsAs a.machine.words.all.now (whole t) (run (from_words a.machine.words.all.now) a.ended (start t.given.now t.piece.now a.state.0)) a.uses.now
    (less_steps c.in-Break.ran made) (lent c.loop-turn.output c.loop-turn.uses)
finished c =
    let a = c.args in
    let t = a.text.now in
    let asks = c.requires.runnable in
    let l = (goal.at.In-Break c).At-loop-turn in
    ends_as a.machine.words.all.now t.given.now t.piece.now a.ended asks.0.0 a.state.0 asks.0.1 a.uses.now c.in-Break.ran (has l) _ c.beginning-start.ensures
    (here l _ c.in-Break.is).0

pub overflow_sub-text : goal.overflow_sub-text
overflow_sub-text c =
    let a = c.args in omega (arith, below (eqb a.state.0 0) (length a.text.now.given.now), c.beginning-start.ensures)
  where
    below : (b : Bool) (n : ℕ) → cond b 0 n ≤ n
    below true n = omega arith
    below false n = omega arith

pub counted_once-requires : goal.counted_once-requires
counted_once-requires c = (finished (goal.at.counted_once-requires c).In-Break).0

pub returns-in-Break : goal.returns-in-Break
returns-in-Break c =
    let l = c.loop-turn in
    let a = c.args in
    let t = a.text.now in
    let w = a.machine.words.all.now in
    let r = run (from_words w) a.ended (start t.given.now t.piece.now a.state.0) in
    let now = lent l.output l.uses in
    let f = (finished (goal.at.returns-in-Break c).In-Break).1 in
    let beyond = (here (goal.at.returns-in-Break c).At-loop-turn _ c.in-Break.is).1 in
    subst (λ ran. EndsAs w (whole t) r a.uses.now ran now × (now.output ≡ put a.output.now 0 (text_of (from_words w).write r.final.log))) (sym c.counted_once.ensures)
    (f, ends_put w (whole t) r a.uses.now _ now a.output.now f l.auto.output beyond)
