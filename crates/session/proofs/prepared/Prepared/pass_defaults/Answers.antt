-- `prepared::Prepared::pass_defaults` meets its contract: nothing is done, or defaults are emitted and counted.
-- Assumes nothing.
use mathlib.Core.List.{List}
use mathlib.Core.Path.{◌≡◌, refl, sym, ap, subst, ◌∙◌}
use Prim.Native.Nat.{ℕ, ◌+◌, ◌-◌, ◌<◌}
use native.Mathlib.Omega.{arith}
use lib.ListN.{length, get_or}
use Rattle.meaning.specs.Table.{default_number}
use Rattle.rules.specs.bridge.Modes.{the_mode}
use Rattle.session.specs.bridge.Counting.{bumped, Counted}
use Rattle.session.specs.bridge.Running.{whole, lent, Passes, PassesByDefaults, Beyond}
use Rattle.session.specs.declared.run.Ran.{Ran}
use Rattle.session.proofs.Laws.Counting.{counted_bumped, counted_room}
use Rattle.session.proofs.Laws.Reading.{passes_same}
use Rattle.session.proofs.prepared.Prepared.pass_defaults.Goals as goal
use Rattle.session.proofs.prepared.Prepared.pass_defaults.Goals.{Else-run, Joined-self, Start, in-Paired, in-Single}

abbrev text : Start → List ℕ
text s = whole s.args.text.now

-- nothing is done
nothing : (s : Start) →
    let a = s.args in
    let has = lent a.output.now a.uses.now in
    Passes a.self.now.machine.words.all.now (text s) (length a.output.now) a.run has a.run has
    × (Counted a.uses.now a.run.from × Beyond a.run a.output.now a.run a.output.now)
nothing s = let a = s.args in (
  passes_same a.self.now.machine.words.all.now (text s) (length a.output.now) a.run a.run (lent a.output.now a.uses.now) s.requires.placed.0 refl refl refl refl refl,
  (s.requires.placed.1, (omega arith, refl)),
)

pub returns-then-run : goal.returns-then-run
returns-then-run c =
    let both = nothing (goal.at.returns-then-run c).Start in
    record { passes = both.0; counted = both.1 }

pub returns-in-Absent : goal.returns-in-Absent
returns-in-Absent c =
    let both = nothing (goal.at.returns-in-Absent c).Start in
    record { passes = both.0; counted = both.1 }

empty : (l : Else-run) → l.args.run.from ≡ l.args.run.at
empty l = omega (arith, l.if-run.false, l.requires.placed.0.order)

pub emit_defaults-next-requires : goal.emit_defaults-next-requires
emit_defaults-next-requires c = record { mode = sym c.args.self.now.its_mode ∙ ap the_mode c.in-Single.is; placed = (c.requires.placed.0, empty (goal.at.emit_defaults-next-requires c).Else-run) }

pub emit_defaults-next-requires-in-Paired : goal.emit_defaults-next-requires-in-Paired
emit_defaults-next-requires-in-Paired c = record { mode = sym c.args.self.now.its_mode ∙ ap the_mode c.in-Paired.is; placed = (c.requires.placed.0, empty (goal.at.emit_defaults-next-requires-in-Paired c).Else-run) }

-- defaults were emitted
abbrev Emitted : Start → Ran → List ℕ → Type 0
Emitted s next output = let a = s.args in
    (length output ≡ length a.output.now)
    × (PassesByDefaults a.self.now.machine.words.all.now (text s) a.run a.output.now next output × Beyond a.run a.output.now next output)

module _ (s : Start) (next : Ran) (output : List ℕ) (E : Emitted s next output) where
  passes : let a = s.args in
      Passes a.self.now.machine.words.all.now (text s) (length a.output.now) a.run (lent a.output.now a.uses.now) next
      (lent output (bumped a.uses.now default_number (next.from - a.run.from)))
  passes = E.1.0.1 s.args.uses.now s.requires.placed.1.whole

  room : get_or s.args.uses.now default_number 0 + (next.from - s.args.run.from) < 18446744073709551616
  room =
      let P = passes.0 in
      counted_room s.args.uses.now default_number (next.from - s.args.run.from) s.args.run.from s.requires.placed.1 (omega (arith, E.1.0.0, P.order, P.inside, P.short))

  counted : (uses : List ℕ) → uses ≡ bumped s.args.uses.now default_number (next.from - s.args.run.from) →
      let a = s.args in
      Passes a.self.now.machine.words.all.now (text s) (length a.output.now) a.run (lent a.output.now a.uses.now) next (lent output uses)
      × (Counted uses next.from × Beyond a.run a.output.now next output)
  counted uses e =
      let a = s.args in
      let h = E.1.0.0 in
      let more = counted_bumped a.uses.now default_number (next.from - a.run.from) a.run.from next.from s.requires.placed.1 (omega arith) in (
        subst (λ l. Passes a.self.now.machine.words.all.now (text s) (length a.output.now) a.run (lent a.output.now a.uses.now) next (lent output l)) (sym e) passes,
        (subst (λ l. Counted l next.from) (sym e) more, E.1.1),
      )

emitted : (j : Joined-self) → Emitted (goal.at.Joined-self j).Start j.match-self.next j.match-self.output
emitted j =
    let s = (goal.at.Joined-self j).Start in
    elim j.match-self.branch [
      | in-Single w ↦
          let e = w.emit_defaults-next in
          subst (λ n. Emitted s n j.match-self.output) (sym w.next-is) (subst (Emitted s e.result) (sym w.output-is) (e.auto.output, (e.ensures.passes_by_defaults, e.ensures.beyond)))
      | in-Paired w ↦
          let e = w.emit_defaults-next-in-Paired in
          subst (λ n. Emitted s n j.match-self.output) (sym w.next-is) (subst (Emitted s e.result) (sym w.output-is) (e.auto.output, (e.ensures.passes_by_defaults, e.ensures.beyond)))
    ]

pub overflow_sub-next : goal.overflow_sub-next
overflow_sub-next c = (emitted (goal.at.overflow_sub-next c).Joined-self).1.0.0

pub count_uses-requires : goal.count_uses-requires
count_uses-requires c =
    let j = (goal.at.count_uses-requires c).Joined-self in
    (c.requires.placed.1.whole, omega arith, room (goal.at.count_uses-requires c).Start j.match-self.next j.match-self.output (emitted j))

pub returns : goal.returns
returns c =
    let j = (goal.at.returns c).Joined-self in
    let both = counted (goal.at.returns c).Start j.match-self.next j.match-self.output (emitted j) _ c.count_uses.ensures in
    record { passes = both.0; counted = both.1 }
