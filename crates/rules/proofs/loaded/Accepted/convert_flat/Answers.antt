-- `convert_flat` meets its contract. The invariant: the whole conversion is a log so far and the conversion of what is left.
-- A turn adds the group chosen to that log; the measure is the characters left. Assumes nothing.
use Rattle.std.proofs.Common.{◌≡◌, ◌-◌, length, take, drop, ap, arith, length-drop}
use lib.Seq.{take_all}
use Rattle.meaning.specs.Table.{Table}
use Rattle.meaning.specs.Meaning.{choose}
use Rattle.meaning.specs.bridge.Flat.{table_at}
use Rattle.rules.specs.bridge.Modes.{the_mode}
use Rattle.meaning.proofs.Laws.Refusal.{accepted_same}
use Rattle.meaning.proofs.Laws.Writing.{Taken, choice_taken, reached_start, reached_close, reached_stop, reached_room, reached_step}
use Rattle.rules.proofs.loaded.Accepted.convert_flat.Goals as goal
use Rattle.rules.proofs.loaded.Accepted.convert_flat.Goals.{After-choose_marked, In-Some, Start}

-- the array as a table
abbrev table : Start → Table
table s = let t = s.args.self.now.table in table_at t.words.now t.rules (the_mode t.mode)

pub loop-place-init : goal.loop-place-init
loop-place-init c = reached_start (table (goal.at.loop-place-init c).Start) c.args.self.now.table.words.now c.args.input.now c.args.output.now

-- what is left of the input, and the choice for it
rest-is : (c : After-choose_marked) → let rest = drop c.loop-place.place c.args.input.now in take (length c.args.input.now - c.loop-place.place) rest ≡ rest
rest-is c = take_all _ _ (omega (arith, length-drop c.loop-place.place c.args.input.now))

choice : (c : After-choose_marked) → c.choose_marked.result ≡ choose (table (goal.at.After-choose_marked c).Start) (drop c.loop-place.place c.args.input.now)
choice c = rw (rest-is c) at c.choose_marked.ensures

pub returns-in_default : goal.returns-in_default
returns-in_default c =
    let both = reached_stop c.loop-place.invariant c.loop-place-test.true (choice (goal.at.returns-in_default c).After-choose_marked) c.in_default.is in
    record { answer = accepted_same _ _ both.0; text = both.1 }

taken :
    (c : In-Some) →
    Taken (table (goal.at.In-Some c).Start) c.args.self.now.table.words.now c.args.input.now c.loop-place.place c.in-Some.group
taken c = let m = c.args.self.now in
    choice_taken m.table.words.now m.table.rules (the_mode m.table.mode) c.args.input.now
    c.loop-place.place c.in-Some.group m.table.few m.positive m.single c.loop-place-test.true (choice (goal.at.In-Some c).After-choose_marked) c.in-Some.is

pub write_chosen-count-requires : goal.write_chosen-count-requires
write_chosen-count-requires c =
    let k = taken (goal.at.write_chosen-count-requires c).In-Some in
    record {
      group_bound = k.below;
      group_in_bounds = omega (arith, k.room, length-drop c.loop-place.place c.args.input.now, ap length (rest-is (goal.at.write_chosen-count-requires c).After-choose_marked));
      group_in_bounds_2 = reached_room c.loop-place.invariant k c.requires.input_in_bounds;
    }

pub size_of-place-requires : goal.size_of-place-requires
size_of-place-requires c = (taken (goal.at.size_of-place-requires c).In-Some).below

pub overflow_add-place : goal.overflow_add-place
overflow_add-place c = omega (arith, (taken (goal.at.overflow_add-place c).In-Some).room, c.size_of-place.ensures)

pub loop-place-smaller : goal.loop-place-smaller
loop-place-smaller c =
    let k = taken (goal.at.loop-place-smaller c).In-Some in
    omega (arith, k.room, k.positive, c.size_of-place.ensures)

pub loop-place-preserved : goal.loop-place-preserved
loop-place-preserved c =
    let w = c.write_chosen-count in
    rw c.size_of-place.ensures
    (reached_step c.loop-place.invariant (taken (goal.at.loop-place-preserved c).In-Some) w.new.output w.result w.ensures.value
    (rw (rest-is (goal.at.loop-place-preserved c).After-choose_marked) at w.ensures.output_after))

pub returns : goal.returns
returns c =
    let both = reached_close c.loop-place.invariant c.loop-place-test.false in
    record { answer = accepted_same _ _ both.0; text = both.1 }
