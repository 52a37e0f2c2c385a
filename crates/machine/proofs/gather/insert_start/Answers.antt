-- `gather::insert_start` meets its contract: there is no more room, or the start is there, or it is one too many, or it is put in.
-- Assumes nothing.
use Prim.Native.Nat.{◌≤◌, ◌<◌}
use Rattle.automaton.specs.Layout.{states_from}
use lib.ListN.{length}
use native.Mathlib.Omega.{arith}
use Rattle.automaton.proofs.Laws.Placing.{place_few, met_full, met_there, met_over, met_new}
use Rattle.machine.proofs.gather.insert_start.Goals as goal
use Rattle.machine.proofs.gather.insert_start.Goals.{After-place_of-place, Start}

-- the place found is among the starts or at their end
few : (c : After-place_of-place) → c.place_of-place.result ≤ c.args.count
few c = let a = c.args in omega (arith, c.place_of-place.ensures, place_few a.words.now a.count a.start)

-- there is room for all starts, and the count is one of these
room : (s : Start) → states_from < length s.args.words.now
room s = omega (arith, s.requires.0)

pub returns-then-count-gt64-clause-met : goal.returns-then-count-gt64-clause-met
returns-then-count-gt64-clause-met c =
    let a = c.args in
    met_full a.words.now a.count a.start (room (goal.at.returns-then-count-gt64-clause-met c).Start) c.requires.1 c.if-count-gt64.true

pub overflow_add-place : goal.overflow_add-place
overflow_add-place c = omega (arith, few c)

pub returns-then-stands_at : goal.returns-then-stands_at
returns-then-stands_at c =
    let a = c.args in
    record {
      met = met_there a.words.now a.count a.start (room (goal.at.returns-then-stands_at c).Start) c.requires.1 c.place_of-place.result c.place_of-place.ensures c.stands_at.result c.stands_at.ensures
          c.if-count-gt64.false c.if-stands_at.true;
      few = c.if-count-gt64.false;
    }

pub returns-then-count-eq64 : goal.returns-then-count-eq64
returns-then-count-eq64 c =
    let a = c.args in
    record {
      met = met_over a.words.now a.count a.start (room (goal.at.returns-then-count-eq64 c).Start) c.requires.1 c.place_of-place.result c.place_of-place.ensures c.stands_at.result c.stands_at.ensures
          c.if-count-eq64.true c.if-stands_at.false;
      few = omega arith;
    }

pub overflow_add-place-2 : goal.overflow_add-place-2
overflow_add-place-2 c = omega (arith, few (goal.at.overflow_add-place-2 c).After-place_of-place)

pub put_in-requires : goal.put_in-requires
put_in-requires c = omega (arith, few (goal.at.put_in-requires c).After-place_of-place)

pub returns : goal.returns
returns c =
    let a = c.args in
    let h : a.count < 64 = omega (arith, c.if-count-gt64.false, c.if-count-eq64.false) in
    record {
      met = met_new a.words.now a.count a.start (room (goal.at.returns c).Start) c.requires.1 c.place_of-place.result c.place_of-place.ensures c.stands_at.result c.stands_at.ensures
          _ h c.if-stands_at.false c.put_in.ensures;
      few = omega arith;
    }
