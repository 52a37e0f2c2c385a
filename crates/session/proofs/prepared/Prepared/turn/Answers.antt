-- `prepared::Prepared::turn` meets its contract: what is read on leads to the same end, and what is done there is the machine's next step.
-- Assumes nothing.
use Rattle.std.proofs.Common.{ap}
use mathlib.Core.Bool.{false, false≢true}
use mathlib.Core.List.{List}
use mathlib.Core.Path.{◌≡◌, refl, sym, ap, ◌∙◌}
use Prim.Native.Nat.{ℕ, ◌≤◌}
use native.Mathlib.Omega.{arith}
use lib.ListN.{length}
use Rattle.words.specs.bridge.Readings.{word_of}
use Rattle.automaton.proofs.Laws.Words.{sound_header_lem}
use Rattle.session.specs.bridge.Running.{Continue, whole, Lent, lent, Emit, Fits, Decides, Placed, Passes, Stands, read_to}
use Rattle.session.proofs.Laws.Running.{of_not_true, of_not_false}
use Rattle.session.proofs.Laws.Turning.{rule_decides, stands, read_more, advances_after}
use Rattle.session.proofs.prepared.Prepared.turn.Goals as goal
use Rattle.session.proofs.prepared.Prepared.turn.Goals.{After-read_on-ahead, In-Some, Joined-else-not-ahead, Start, else-not-ahead-via-then-not-ahead+else-ahead-len, else-not-ahead-via-else-not-ahead}

abbrev text : Start → List ℕ
text s = whole s.args.text.now

-- what the run is lent
abbrev has : Start → Lent
has s = lent s.args.output.now s.args.uses.now

-- the run that has read on
passes : (d : After-read_on-ahead) →
    let a = d.args in
    Passes a.self.now.machine.words.all.now (text (goal.at.After-read_on-ahead d).Start) (length a.output.now) a.run (has (goal.at.After-read_on-ahead d).Start) (read_to a.run d.read_on-ahead.result) (has (goal.at.After-read_on-ahead d).Start)
passes d = d.read_on-ahead.ensures.passes (has (goal.at.After-read_on-ahead d).Start) d.requires.placed.0

here : (d : After-read_on-ahead) →
    let a = d.args in
    Placed a.self.now.machine.words.all.now (text (goal.at.After-read_on-ahead d).Start) (length a.output.now) (read_to a.run d.read_on-ahead.result)
here d = (passes d).0

there : (j : Joined-else-not-ahead) →
    let a = j.read_on-ahead.result in
    Stands j.args.self.now.machine.words.all.now (text (goal.at.Joined-else-not-ahead j).Start) a.stuck a.state.0 a.at
there j = let a = j.read_on-ahead.result in
    let past : a.stuck ≡ false → length (text (goal.at.Joined-else-not-ahead j).Start) ≤ a.at =
    λ e. elim j.else-not-ahead.branch [
      | else-not-ahead-via-then-not-ahead+else-ahead-len w ↦ omega (arith, w.if-ahead-len.false, w.len.ensures)
      | else-not-ahead-via-else-not-ahead w ↦ absurd (false≢true (sym e ∙ of_not_false a.stuck w.if-not-ahead.false))
    ] in
    stands j.args.self.now.machine.words.all.now (text (goal.at.Joined-else-not-ahead j).Start) j.args.run a j.read_on-ahead.ensures a.stuck refl past (here (goal.at.Joined-else-not-ahead j).After-read_on-ahead).inside

pub overflow_add-read : goal.overflow_add-read
overflow_add-read c = let P = here (goal.at.overflow_add-read c).After-read_on-ahead in omega (arith, P.few, P.order, P.inside, P.short)

pub returns-then-ahead-len : goal.returns-then-ahead-len
returns-then-ahead-len c =
    let a = c.args in
    let more = c.if-ahead-len.true in record {
      advances = read_more a.self.now.machine.words.all.now (text (goal.at.returns-then-ahead-len c).Start) a.ended a.run (has (goal.at.returns-then-ahead-len c).Start) c.read_on-ahead.result c.read_on-ahead.ensures c.requires.placed.0 c.requires.placed.1
          (of_not_true c.read_on-ahead.result.stuck c.if-not-ahead.true) (omega (arith, more, c.len.ensures));
      beyond = (omega arith, refl);
    }

pub accept_now-requires : goal.accept_now-requires
accept_now-requires c =
    let h = sound_header_lem c.args.self.now.machine.words.all.now c.args.self.now.machine.sound in
    omega (arith, (here (goal.at.accept_now-requires c).After-read_on-ahead).state, h.few_states)

pub fall_back-requires : goal.fall_back-requires
fall_back-requires c = record { placed = (here (goal.at.fall_back-requires c).After-read_on-ahead, c.requires.placed.1); stands = (there (goal.at.fall_back-requires c).Joined-else-not-ahead, sym c.accept_now.ensures ∙ ap word_of c.in_default.is) }

pub returns-in_default : goal.returns-in_default
returns-in_default c =
    let f = c.fall_back in
    let a = c.args in record {
      advances = advances_after a.self.now.machine.words.all.now (text (goal.at.returns-in_default c).Start) a.ended (length a.output.now) a.run (read_to a.run c.read_on-ahead.result) f.result (has (goal.at.returns-in_default c).Start) (has (goal.at.returns-in_default c).Start) _ (passes (goal.at.returns-in_default c).After-read_on-ahead) f.ensures.advances;
      beyond = f.ensures.beyond;
    }

-- the rule that is named is the machine's next step
ruled : (r : In-Some) →
    let a = r.read_on-ahead.result in
    let g = r.in-Some.rule in
    Decides r.args.self.now.machine.words.all.now (text (goal.at.In-Some r).Start) r.args.ended a.state.0 r.args.run.from a.at (Emit g) × Fits r.args.self.now.machine.words.all.now a.state.0 (Emit g)
ruled r = let a = r.read_on-ahead.result in
    rule_decides r.args.self.now.machine.words.all.now (text (goal.at.In-Some r).Start) r.args.self.now.machine.sound a.state.0 (here (goal.at.In-Some r).After-read_on-ahead).state r.args.run.from a.at a.stuck r.args.ended r.in-Some.rule
    (there (goal.at.In-Some r).Joined-else-not-ahead) (ap word_of (sym r.in-Some.is) ∙ r.accept_now.ensures)

pub emit_rule-requires : goal.emit_rule-requires
emit_rule-requires c = record { placed = (here (goal.at.emit_rule-requires c).After-read_on-ahead, c.requires.placed.1); fits = (ruled (goal.at.emit_rule-requires c).In-Some).1 }

pub returns : goal.returns
returns c =
    let f = c.emit_rule in
    let a = c.args in record {
      advances = advances_after a.self.now.machine.words.all.now (text (goal.at.returns c).Start) a.ended (length a.output.now) a.run (read_to a.run c.read_on-ahead.result) (Continue f.result) (has (goal.at.returns c).Start) (has (goal.at.returns c).Start) _ (passes (goal.at.returns c).After-read_on-ahead) (f.ensures.moves a.ended (ruled (goal.at.returns c).In-Some).0);
      beyond = f.ensures.beyond;
    }
