-- `typed::sink::Records::feed` meets its contract. A check that has refused stays; else the record is tested, and if it was taken in its bytes are put.
-- By what the functions called ensure; the bytes put so far are few, by the weight of the summary. Assumes nothing.
use mathlib.Core.Path.{sym, ap, ◌∙◌}
use Prim.Native.Nat.{◌<◌, ◌≤◌, ◌%◌}
use native.Mathlib.Omega.{arith}
use Rattle.lists.specs.Lists.{Each}
use Rattle.rules.specs.Answers.{outcome_of}
use Rattle.rules.proofs.Laws.Loading.{each_known}
use Rattle.typed.specs.bridge.Answers.{state_of}
use Rattle.typed.proofs.Laws.Feeding.{feed_idle, count_small, one_taken_in, one_taken_held, one_left_out, one_held_still}
use Rattle.typed.proofs.sink.Records.feed.Goals as goal
use Rattle.typed.proofs.sink.Records.feed.Goals.{In-Ok, After-load_records-self}

bytes : (c : In-Ok) → Each (λ b. b < 256) c.args.bytes.now
bytes c = each_known 256 c.args.bytes.now (λ i. c.fits-bytes i)

few : (c : In-Ok) → c.args.self.now.sink.count ≤ 652312
few c = count_small (state_of c.args.self.now) c.in-Ok.reader c.args.self.now.sink.ready (ap outcome_of c.in-Ok.is)

pub returns-in_default-clause-state : goal.returns-in_default-clause-state
returns-in_default-clause-state c = sym (feed_idle c.args.bytes.now (state_of c.args.self.now) _ (ap outcome_of c.in_default.is))

pub load_records-self-requires : goal.load_records-self-requires
load_records-self-requires c = record { table_len = ap (λ n. n % 8) c.told-bytes; fitting = (c.args.self.now.sink.ready.reading _ (ap outcome_of c.in-Ok.is)).0 }

pub invariant_of-self : goal.invariant_of-self
invariant_of-self c =
    let done = c.load_records-self.ensures in
    record {
      ready = one_held_still (state_of c.args.self.now) c.in-Ok.reader c.args.self.now.sink.ready (ap outcome_of c.in-Ok.is)
          c.args.bytes.now c.told-bytes (bytes (goal.at.invariant_of-self c).In-Ok) c.load_records-self.result done.answer done.array;
    }

pub put-requires : goal.put-requires
put-requires c = let l = few (goal.at.put-requires c).In-Ok in omega arith

pub overflow_add-self : goal.overflow_add-self
overflow_add-self c = let l = few (goal.at.overflow_add-self c).In-Ok in omega arith

pub invariant_of-self-then-is_ok : goal.invariant_of-self-then-is_ok
invariant_of-self-then-is_ok c =
    let done = c.load_records-self.ensures in
    record {
      ready = one_taken_held (state_of c.args.self.now) c.in-Ok.reader c.args.self.now.sink.ready (ap outcome_of c.in-Ok.is)
          c.args.bytes.now c.told-bytes (bytes (goal.at.invariant_of-self-then-is_ok c).In-Ok) c.load_records-self.result done.answer done.array
          (sym c.is_ok.ensures.value ∙ c.if-is_ok.true);
    }

pub returns-then-is_ok-clause-state : goal.returns-then-is_ok-clause-state
returns-then-is_ok-clause-state c =
    let done = c.load_records-self.ensures in
    rw c.put.ensures (one_taken_in (state_of c.args.self.now) c.in-Ok.reader c.args.self.now.sink.ready (ap outcome_of c.in-Ok.is)
    c.args.bytes.now c.told-bytes (bytes (goal.at.returns-then-is_ok-clause-state c).In-Ok) c.load_records-self.result done.answer done.array
    (sym c.is_ok.ensures.value ∙ c.if-is_ok.true))

pub returns-else-is_ok-clause-state : goal.returns-else-is_ok-clause-state
returns-else-is_ok-clause-state c =
    let done = c.load_records-self.ensures in
    one_left_out (state_of c.args.self.now) c.in-Ok.reader c.args.self.now.sink.ready (ap outcome_of c.in-Ok.is)
    c.args.bytes.now c.told-bytes (bytes (goal.at.returns-else-is_ok-clause-state c).In-Ok) c.load_records-self.result done.answer done.array
    (sym c.is_ok.ensures.value ∙ c.if-is_ok.false)
