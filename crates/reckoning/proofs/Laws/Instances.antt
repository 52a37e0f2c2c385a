-- Demand 3 holds of two lists of calls with document 01's values and of one of request [8], and with request [9] of two that leave characters held.
-- The reckoning and Definition 7 are computed from the tables' bytes; what was served follows by the demand.
use mathlib.Core.Bool.{true, false}
use mathlib.Core.List.{List, []}
use Rattle.std.specs.Prelude.{None}
use mathlib.Core.Path.{◌≡◌, refl, sym, ap, subst, ◌∙◌}
use Prim.Native.Nat.{ℕ, ◌≤◌}
use native.Mathlib.Omega.{arith}
use lib.Dec.{T, leb, ltb, leb→le, ltb→lt}
use lib.ListN.{length}
use Rattle.lists.specs.Lists.{Each, all, pad}
use Rattle.lists.proofs.Laws.Each.{all_each}
use Rattle.lists.proofs.Laws.Parts.{length_pad}
use Rattle.meaning.specs.Refusal.{Outcome, refused, accepted}
use Rattle.meaning.specs.Table.{Characters, unmarked, Table}
use Rattle.meaning.specs.Reader.{read_table}
use Rattle.meaning.specs.Meaning.{covered}
use Rattle.meaning.specs.Choices.{choice_of, chosen_in, chosen_at}
use Rattle.meaning.specs.Samples.{t1, t2, t3_marked}
use Rattle.meaning.proofs.Laws.Direct.{read_keeps}
use Rattle.meaning.proofs.Laws.Opened.{rules_opened}
use Rattle.automaton.specs.Classes.{starts}
use Rattle.automaton.specs.States.{states}
use Rattle.automaton.specs.Layout.{word_count}
use Rattle.automaton.specs.Compile.{compile}
use Rattle.automaton.specs.Claims.{KeepsCompiling}
use Rattle.automaton.proofs.Laws.Compile.{compiled_by}
use Rattle.automaton.proofs.Laws.Opened.{machine_opened}
use Rattle.reckoning.specs.Machine.{Open, Ended, fall_back, step, steps, run}
use Rattle.reckoning.specs.Uses.{uses_of}
use Rattle.reckoning.specs.Session.{Session}
use Rattle.reckoning.specs.Calls.{received_by}
use Rattle.reckoning.specs.Reckoning.{piece, accepted_pieces, Served, unserved, serve, no_input, ran, ran_text, reckoned, reckon}
use Rattle.reckoning.specs.Claims.{Agrees, OutcomesAgree}
use Rattle.reckoning.specs.Needs.{HeldOfNeed}
use Rattle.reckoning.specs.Instances.{Case, served_as, input_as, Holds, Over, closing, stopping, pairing, waiting, unpaired, Firm, Instances, HeldInstances}
use Rattle.reckoning.proofs.Laws.Demand3.{outcomes_agree}
use Rattle.reckoning.proofs.Laws.Needs.{nothing_held}

abbrev table_in : Outcome Table → Table
table_in (refused n) = record { rules = []; default = None; mark = unmarked }
table_in (accepted t) = t

-- the session that a run over n characters leaves
abbrev left_by : Table → Ended → ℕ → Session
left_by t r n =
    record {
      status = r.status;
      state = r.final.state;
      held = pad 8 r.final.store;
      count = length r.final.store;
      received = received_by r.status n (covered r.final.log);
      produced = length (ran_text t r);
      steps = r.final.steps;
      uses = uses_of r.final.log;
    }

module _ (x : Case) (t : Table) where
  abbrev input : List ℕ
  input = x.input

  -- what is computed of a case: its table's bytes, its table, the reckoning, and the plain machine's run over the input
  record Computed : Type 0 where
    bytes : T (all (λ z. ltb z 256) x.table)
    read : read_table x.table ≡ accepted t
    classes : T (leb (length (starts t)) 64)
    states : T (leb (length (states t)) 256)
    pieces : T (all (λ c. all (λ z. ltb z 65536) (piece c)) x.calls)
    reckons : reckon t x.calls no_input ≡ input_as x
    writes : ran_text t (ran t input x.ended) ≡ x.output
    leaves : left_by t (ran t input x.ended) (length input) ≡ x.session

  module _ (c : Computed) where
    keeping : KeepsCompiling x.table t
    keeping =
        record {
          keeps = read_keeps x.table t (all_each (λ z. ltb z 256) x.table (λ z l. ltb→lt z 256 l) c.bytes) c.read;
          classes = leb→le _ 64 c.classes;
          states = leb→le _ 256 c.states;
        }

    characters_fed : Each (λ d. Characters (piece d)) x.calls
    characters_fed =
        all_each (λ d. all (λ z. ltb z 65536) (piece d)) x.calls (λ d h. all_each (λ z. ltb z 65536) (piece d) (λ z l. ltb→lt z 65536 l) h) c.pieces

    abbrev served : List ℕ → Served
    served buffer = serve (compile x.table buffer).words x.calls unserved

    -- the demand, with the reckoning's values
    by_demand : (buffer : List ℕ) → word_count ≤ length buffer → Agrees t x.calls (served buffer) (input_as x) (ran t input x.ended)
    unfolding OutcomesAgree
    by_demand buffer room =
        subst (λ i. Agrees t x.calls (served buffer) i (ran t i.characters i.ended)) c.reckons
        (outcomes_agree t _ (compiled_by x.table buffer t keeping room) x.calls characters_fed)

    serves : (buffer : List ℕ) → word_count ≤ length buffer → served buffer ≡ served_as x
    serves buffer room =
        let a = by_demand buffer room in
        let r = ran t input x.ended in
        let session : (served buffer).session ≡ left_by t r (length input) =
        λ j. record {
          status = a.status j;
          state = a.state j;
          held = a.held j;
          count = a.count j;
          received = a.received j;
          produced = a.produced j;
          steps = a.steps j;
          uses = a.uses j;
        } in
        λ j. record { answers = a.answers j; output = (a.output ∙ c.writes) j; session = (session ∙ c.leaves) j }

    some_room : word_count ≤ length (pad word_count [])
    some_room = let e = length_pad word_count [] in omega arith

    holds : Holds x t
    holds =
        record {
          keeps = keeping;
          serves = serves;
          reckons = c.reckons;
          agrees =
              subst (λ v. Agrees t x.calls v (input_as x) (ran t input x.ended)) (serves (pad word_count []) some_room)
              (by_demand (pad word_count []) some_room);
        }

    -- request [9], of the case's values
    needs : x.session.status ≡ Open → HeldOfNeed t input x.session
    needs o =
        let buffer = pad word_count [] in
        let e = serves buffer some_room in
        let v = served buffer in
        let is_open_lem : v.session.status ≡ Open = ap (λ (z : Served). z.session.status) e ∙ o in
        let h = nothing_held t _ (compiled_by x.table buffer t keeping some_room) x.calls characters_fed is_open_lem in
        let same : accepted_pieces x.calls v.answers ≡ input =
        sym (by_demand buffer some_room).input in
        subst (λ u. HeldOfNeed t u x.session) same (subst (λ (z : Served). HeldOfNeed t (accepted_pieces x.calls v.answers) z.session) e h)

abbrev table1 : Table
table1 = table_in (read_table t1)

abbrev table2 : Table
table2 = table_in (read_table t2)

abbrev table3 : Table
table3 = table_in (read_table t3_marked)

closing_computed : Computed closing table1
unfolding rules_opened machine_opened fall_back step steps run ran reckoned reckon closing
closing_computed = record { bytes = tt; read = refl; classes = tt; states = tt; pieces = tt; reckons = refl; writes = refl; leaves = refl }

closing_over : Over closing table1 true
unfolding rules_opened closing
closing_over = record { over = tt; text = refl; closes = refl; place = refl }

stopping_computed : Computed stopping table2
unfolding rules_opened machine_opened fall_back step steps run ran reckoned reckon stopping
stopping_computed = record { bytes = tt; read = refl; classes = tt; states = tt; pieces = tt; reckons = refl; writes = refl; leaves = refl }

stopping_over : Over stopping table2 false
unfolding rules_opened stopping
stopping_over = record { over = tt; text = refl; closes = refl; place = refl }

pairing_computed : Computed pairing table3
unfolding rules_opened machine_opened fall_back step steps run ran reckoned reckon pairing
pairing_computed = record { bytes = tt; read = refl; classes = tt; states = tt; pieces = tt; reckons = refl; writes = refl; leaves = refl }

pairing_over : Over pairing table3 true
unfolding rules_opened pairing
pairing_over = record { over = tt; text = refl; closes = refl; place = refl }

-- the demand's last field, whose conditions the case meets
stopping_firm : Firm table2
unfolding stopping Firm
stopping_firm more c ended =
    let a = (holds stopping table2 stopping_computed).agrees in
    let f = a.firm refl refl more c ended in
    (f.0 ∙ stopping_over.text, f.1 ∙ stopping_over.place, f.2 ∙ sym a.steps)

pub instances : Instances
unfolding Instances
instances = (
  (table1, holds closing table1 closing_computed, closing_over),
  (table2, holds stopping table2 stopping_computed, stopping_over, stopping_firm),
  (table3, holds pairing table3 pairing_computed, pairing_over),
)

-- characters held

waiting_computed : Computed waiting table1
unfolding rules_opened machine_opened fall_back step steps run ran reckoned reckon waiting
waiting_computed = record { bytes = tt; read = refl; classes = tt; states = tt; pieces = tt; reckons = refl; writes = refl; leaves = refl }

unpaired_computed : Computed unpaired table3
unfolding rules_opened machine_opened fall_back step steps run ran reckoned reckon unpaired
unpaired_computed = record { bytes = tt; read = refl; classes = tt; states = tt; pieces = tt; reckons = refl; writes = refl; leaves = refl }

pub held_instances : HeldInstances
unfolding rules_opened chosen_at chosen_in choice_of waiting unpaired HeldInstances
held_instances = (
  (
    table1,
    holds waiting table1 waiting_computed,
    record { is_open_lem = refl; holds = omega arith; one_chosen = refl; other_chosen = refl; needs = needs waiting table1 waiting_computed refl },
  ),
  (
    table3,
    holds unpaired table3 unpaired_computed,
    record { is_open_lem = refl; holds = omega arith; one_chosen = refl; other_chosen = refl; needs = needs unpaired table3 unpaired_computed refl },
  ),
)
