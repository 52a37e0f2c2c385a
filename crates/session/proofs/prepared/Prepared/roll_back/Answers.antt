-- `prepared::Prepared::roll_back` meets its contract: what it leads to is the machine's fall, and each case is done as it says.
-- Assumes nothing.
use mathlib.Core.List.{List}
use mathlib.Core.Path.{◌≡◌, sym, ap, ◌∙◌}
use Prim.Native.Nat.{ℕ}
use native.Mathlib.Omega.{arith}
use lib.ListN.{drop}
use Rattle.automaton.specs.Sound.{mode_at}
use Rattle.automaton.specs.Automaton.{from_words}
use Rattle.reckoning.specs.Machine.{fall}
use Rattle.session.specs.bridge.Running.{whole, lent, fall_of}
use Rattle.session.specs.declared.run.Fall.{Fall as Falls}
use Rattle.session.proofs.Laws.Running.{mode_words}
use Rattle.session.proofs.Laws.Falling.{pair_room, default_there}
use Rattle.session.proofs.Laws.Turning.{one_moves, pair_moves, stop_moves, leave_moves}
use Rattle.session.proofs.prepared.Prepared.roll_back.Goals as goal
use Rattle.session.proofs.prepared.Prepared.roll_back.Goals.{After-fall_at, Start}

abbrev text : Start → List ℕ
text s = whole s.args.text.now

-- the fall, by the words and by their automaton
told : (d : After-fall_at) (f : Falls) → d.fall_at.result ≡ f →
    let a = d.args in fall (mode_at a.self.now.machine.words.all.now) a.ended (drop a.run.from (text (goal.at.After-fall_at d).Start)) ≡ fall_of f
told d f e = ap (λ m. fall m d.args.ended (drop d.args.run.from (text (goal.at.After-fall_at d).Start))) (sym d.args.self.now.its_mode) ∙ sym d.fall_at.ensures ∙ ap fall_of e

falls : (d : After-fall_at) (f : Falls) → d.fall_at.result ≡ f →
    let a = d.args in fall (from_words a.self.now.machine.words.all.now).default a.ended (drop a.run.from (text (goal.at.After-fall_at d).Start)) ≡ fall_of f
falls d f e = let a = d.args in
    ap (λ m. fall m a.ended (drop a.run.from (text (goal.at.After-fall_at d).Start))) (sym (mode_words a.self.now.machine.words.all.now)) ∙ told d f e

pub halted-requires : goal.halted-requires
halted-requires c = let P = c.requires.placed.0 in omega (arith, P.few, P.order, P.inside, P.short)

pub take_one-requires : goal.take_one-requires
take_one-requires c = record { placed = c.requires.placed; from_in_bounds = (c.requires.from_in_bounds, default_there c.args.self.now.machine.words.all.now (drop c.args.run.from (text (goal.at.take_one-requires c).Start)) c.args.ended _ _ (told (goal.at.take_one-requires c).After-fall_at _ c.in-One.is)) }

pub take_pair-requires : goal.take_pair-requires
take_pair-requires c = record { placed = c.requires.placed; from_in_bounds = pair_room c.args.self.now.machine.words.all.now (text (goal.at.take_pair-requires c).Start) c.args.run.from c.args.ended c.args.self.now.machine.sound c.requires.from_in_bounds (told (goal.at.take_pair-requires c).After-fall_at _ c.in-Pair.is) }

pub leaving-requires : goal.leaving-requires
leaving-requires c =
    let P = c.requires.placed.0 in
    (omega (arith, P.order, P.inside, P.short), omega (arith, P.few, P.order, P.inside, P.short))

pub returns-in-Nowhere : goal.returns-in-Nowhere
returns-in-Nowhere c =
    let a = c.args in
    let both = stop_moves a.self.now.machine.words.all.now (text (goal.at.returns-in-Nowhere c).Start) c.args.self.now.machine.sound a.run (lent a.output.now a.uses.now) c.requires.placed.0 c.requires.placed.1 c.halted.result a.ended c.requires.from_in_bounds
    (falls (goal.at.returns-in-Nowhere c).After-fall_at _ c.in-Nowhere.is) c.halted.ensures in
    record { moves_at = both.0; beyond = both.1 }

pub returns-in-One : goal.returns-in-One
returns-in-One c =
    let a = c.args in
    let both = one_moves a.self.now.machine.words.all.now (text (goal.at.returns-in-One c).Start) c.args.self.now.machine.sound a.run (lent a.output.now a.uses.now) c.requires.placed.0 c.requires.placed.1 c.take_one.result a.ended c.requires.from_in_bounds
    _ c.take_one.ensures (falls (goal.at.returns-in-One c).After-fall_at _ c.in-One.is)
    (default_there a.self.now.machine.words.all.now (drop a.run.from (text (goal.at.returns-in-One c).Start)) a.ended _ _ (told (goal.at.returns-in-One c).After-fall_at _ c.in-One.is)) in
    record { moves_at = both.0; beyond = both.1 }

pub returns-in-Pair : goal.returns-in-Pair
returns-in-Pair c =
    let a = c.args in
    let room = pair_room a.self.now.machine.words.all.now (text (goal.at.returns-in-Pair c).Start) a.run.from a.ended c.args.self.now.machine.sound c.requires.from_in_bounds (told (goal.at.returns-in-Pair c).After-fall_at _ c.in-Pair.is) in
    let both = pair_moves a.self.now.machine.words.all.now (text (goal.at.returns-in-Pair c).Start) c.args.self.now.machine.sound a.run (lent a.output.now a.uses.now) c.requires.placed.0 c.requires.placed.1 c.take_pair.result a.ended c.requires.from_in_bounds
    _ c.take_pair.ensures (falls (goal.at.returns-in-Pair c).After-fall_at _ c.in-Pair.is) room.0 room.1 in
    record { moves_at = both.0; beyond = both.1 }

pub returns-in-Keep : goal.returns-in-Keep
returns-in-Keep c =
    let a = c.args in
    let both = leave_moves a.self.now.machine.words.all.now (text (goal.at.returns-in-Keep c).Start) c.args.self.now.machine.sound a.run (lent a.output.now a.uses.now) c.requires.placed.0 c.requires.placed.1 c.leaving.result a.ended c.requires.from_in_bounds
    (falls (goal.at.returns-in-Keep c).After-fall_at _ c.in-Keep.is) c.leaving.ensures in
    record { moves_at = both.0; beyond = both.1 }
