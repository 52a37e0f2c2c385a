-- `prepared::Prepared::fall_back` meets its contract: no rule is named, so the machine's step is to roll back, to wait or to close.
-- Assumes nothing.
use mathlib.Core.Bool.{Bool, true, false}
use mathlib.Core.List.{List}
use mathlib.Core.Logic.{◌≢◌}
use mathlib.Core.Path.{◌≡◌, sym, subst, ◌∙◌}
use Prim.Native.Nat.{ℕ, ◌≤◌, ◌<◌}
use native.Mathlib.Omega.{arith}
use lib.ListN.{length}
use Rattle.session.specs.bridge.Running.{whole, lent, Move, Back, Wait, Close, Decides, Stands, accept_now}
use Rattle.session.proofs.Laws.Turning.{stuck_backs, pause_waits, end_backs, end_closes, wait_moves, close_moves}
use Rattle.session.proofs.prepared.Prepared.fall_back.Goals as goal
use Rattle.session.proofs.prepared.Prepared.fall_back.Goals.{Joined-not-stuck, Start, then-not-stuck+else-not-ended+else-run, else-not-stuck}

abbrev text : Start → List ℕ
text s = whole s.args.text.now

-- where the run stands, and that no rule is named there
abbrev Standing : Start → Bool → Type 0
Standing s stuck = Stands s.args.self.now.machine.words.all.now (text s) stuck s.args.run.state.0 s.args.run.at

standing : (s : Start) (stuck : Bool) → s.args.stuck ≡ stuck → Standing s stuck
standing s stuck e = subst (Standing s) e s.requires.stands.0

none : (s : Start) (stuck ended : Bool) → s.args.stuck ≡ stuck → s.args.ended ≡ ended → accept_now s.args.self.now.machine.words.all.now s.args.run.state.0 stuck ended ≡ 0
none s stuck ended e f = sym (λ i. accept_now s.args.self.now.machine.words.all.now s.args.run.state.0 (e i) (f i)) ∙ s.requires.stands.1

-- the machine's step is the move, whether or not the input has ended
abbrev Decided : Start → Move → Bool → Type 0
Decided s v ended = Decides s.args.self.now.machine.words.all.now (text s) ended s.args.run.state.0 s.args.run.from s.args.run.at v

-- the store is given back before a character without a target
stuck-here : (s : Start) → s.args.stuck ≡ true → (s.args.run.from < length (text s)) × Decided s Back s.args.ended
stuck-here s e = let a = s.args in
    let P = s.requires.placed.0 in
    let i = (standing s true e).0 in (
      omega (arith, i, P.order),
      stuck_backs a.self.now.machine.words.all.now (text s) s.args.self.now.machine.sound a.run.state.0 P.state a.run.from a.run.at a.ended (standing s true e) (none s true a.ended e (λ _. a.ended)),
    )

-- and at the end, where there is one
left_over : (s : Start) → s.args.stuck ≡ false → s.args.ended ≡ true → s.args.run.from ≢ s.args.run.at →
    (s.args.run.from < length (text s)) × Decided s Back s.args.ended
left_over s e f d = let a = s.args in
    let P = s.requires.placed.0 in
    let i : a.run.from < a.run.at = omega (arith, P.order, d) in (
      omega (arith, i, P.inside),
      subst (Decided s Back) (sym f)
          (end_backs a.self.now.machine.words.all.now (text s) s.args.self.now.machine.sound a.run.state.0 P.state a.run.from a.run.at (standing s false e) i (none s false true e f)),
    )

rolls : (j : Joined-not-stuck) → (j.args.run.from < length (text (goal.at.Joined-not-stuck j).Start)) × Decided (goal.at.Joined-not-stuck j).Start Back j.args.ended
rolls j = elim j.if-not-stuck.branch [
  | then-not-stuck+else-not-ended+else-run w ↦ left_over (goal.at.Joined-not-stuck j).Start w.if-not-stuck.true w.if-not-ended.false w.if-run.false
  | else-not-stuck w ↦ stuck-here (goal.at.Joined-not-stuck j).Start w.if-not-stuck.false
]

pub returns-then-not-ended : goal.returns-then-not-ended
returns-then-not-ended c =
    let a = c.args in
    let e = c.if-not-stuck.true in
    let f = c.if-not-ended.true in
    let P = c.requires.placed.0 in
    let decided : Decided (goal.at.returns-then-not-ended c).Start Wait a.ended =
    subst (Decided (goal.at.returns-then-not-ended c).Start Wait) (sym f)
    (pause_waits a.self.now.machine.words.all.now (text (goal.at.returns-then-not-ended c).Start) c.args.self.now.machine.sound a.run.state.0 P.state a.run.from a.run.at (standing (goal.at.returns-then-not-ended c).Start false e) (none (goal.at.returns-then-not-ended c).Start false false e f)) in
    let both = wait_moves a.self.now.machine.words.all.now (text (goal.at.returns-then-not-ended c).Start) c.args.self.now.machine.sound a.run (lent a.output.now a.uses.now) P c.requires.placed.1 c.waiting.result a.ended decided c.waiting.ensures in
    record { advances = both.0; beyond = both.1 }

pub halted-requires : goal.halted-requires
halted-requires c = let P = c.requires.placed.0 in omega (arith, P.few, P.order, P.inside, P.short)

pub returns-then-run : goal.returns-then-run
returns-then-run c =
    let a = c.args in
    let e = c.if-not-stuck.true in
    let f = c.if-not-ended.false in
    let P = c.requires.placed.0 in
    let empty : a.run.at ≤ a.run.from = omega (arith, c.if-run.true) in
    let decided : Decided (goal.at.returns-then-run c).Start Close a.ended =
    subst (Decided (goal.at.returns-then-run c).Start Close) (sym f)
    (end_closes a.self.now.machine.words.all.now (text (goal.at.returns-then-run c).Start) c.args.self.now.machine.sound a.run.state.0 P.state a.run.from a.run.at (standing (goal.at.returns-then-run c).Start false e) empty (none (goal.at.returns-then-run c).Start false true e f)) in
    let both = close_moves a.self.now.machine.words.all.now (text (goal.at.returns-then-run c).Start) c.args.self.now.machine.sound a.run (lent a.output.now a.uses.now) P c.requires.placed.1 c.halted.result a.ended decided c.halted.ensures in
    record { advances = both.0; beyond = both.1 }

pub roll_back-requires : goal.roll_back-requires
roll_back-requires c = record { placed = c.requires.placed; from_in_bounds = (rolls (goal.at.roll_back-requires c).Joined-not-stuck).0 }

pub returns : goal.returns
returns c =
    let known = c.roll_back.ensures in
    record { advances = known.moves_at (rolls (goal.at.returns c).Joined-not-stuck).1; beyond = known.beyond }
