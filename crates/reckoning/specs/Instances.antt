-- Demand 3 on two lists of calls, with the values that document 01 gives, on one of request [8] and on two of request [9], with that claim; so that
-- none of their conditions is empty.
use Rattle.std.specs.Prelude.{Bool, true, false, ◌||◌, List, [], ◌∷◌, ◌++◌, ◌≡◌, ℕ, ◌≤◌, ◌<◌, T, length}
use Rattle.std.specs.Prelude.{Some}
use Prim.Native.String.{String}
use Rattle.lists.specs.Lists.{pad}
use Rattle.meaning.specs.Refusal.{Outcome, refused, accepted}
use Rattle.meaning.specs.Table.{Characters, Table}
use Rattle.meaning.specs.Meaning.{convert, meaning_text, meaning_place}
use Rattle.meaning.specs.Choices.{Choice, the_rule, the_default, the_pair, chosen_at}
use Rattle.meaning.specs.Samples.{characters, t1, t2, t3_marked}
use Rattle.automaton.specs.Layout.{word_count}
use Rattle.automaton.specs.Compile.{compile}
use Rattle.automaton.specs.Claims.{KeepsCompiling}
use Rattle.reckoning.specs.Machine.{Status, Open, Closed, Stopped}
use Rattle.reckoning.specs.Session.{Session, consumed}
use Rattle.reckoning.specs.Calls.{Answer}
use Rattle.reckoning.specs.Reckoning.{Call, of_feed, of_finish, Served, unserved, serve, Input, no_input, ran, reckon}
use Rattle.reckoning.specs.Claims.{is_stopped, Agrees}
use Rattle.reckoning.specs.Needs.{HeldOfNeed}

-- calls of a table's machine, what becomes of them, and the input that they make
pub record Case : Type 0 where
  pub table : List ℕ
  pub calls : List Call
  pub answers : List (Outcome Answer)
  pub output : List ℕ
  pub session : Session
  pub input : List ℕ
  pub ended : Bool

abbrev pub served_as : Case → Served
served_as x = record { answers = x.answers; output = x.output; session = x.session }

abbrev pub input_as : Case → Input
input_as x = record { answers = x.answers; characters = x.input; ended = x.ended }

-- the case is as the definitions say for its table, t, whatever buffer it is compiled into
pub record Holds (x : Case) (t : Table) : Type 0 where
  pub keeps : KeepsCompiling x.table t
  pub serves : (buffer : List ℕ) → word_count ≤ length buffer → serve (compile x.table buffer).words x.calls unserved ≡ served_as x
  pub reckons : reckon t x.calls no_input ≡ input_as x
  -- demand 3, of these values
  pub agrees : Agrees t x.calls (served_as x) (input_as x) (ran t x.input x.ended)

-- the case is of a whole conversion, and what Definition 7 makes of its input
pub record Over (x : Case) (t : Table) (closed : Bool) : Type 0 where
  -- a finish was accepted, or a feed has stopped the session, as the fields `text`, `closed` and `stopped` of the demand ask
  pub over : T (x.ended || is_stopped x.session.status)
  pub text : meaning_text t x.input ≡ x.output
  pub closes : (convert t x.input).closed ≡ closed
  pub place : meaning_place t x.input ≡ consumed x.session

-- the case is of an open session that holds characters, with two ways for the input to go on and what Definition 7 then chooses at the place of the
-- first held one
pub record Held (x : Case) (t : Table) (one : List ℕ) (one_Choice : Choice) (other : List ℕ) (other_choice : Choice) : Type 0 where
  pub is_open_lem : x.session.status ≡ Open
  pub holds : 0 < x.session.count
  pub one_chosen : chosen_at t (x.input ++ one) (consumed x.session) ≡ Some one_Choice
  pub other_chosen : chosen_at t (x.input ++ other) (consumed x.session) ≡ Some other_choice
  -- request [9], of these values
  pub needs : HeldOfNeed t x.input x.session

abbrev answer : ℕ → Status → Outcome Answer
answer count status = accepted (record { count = count; status = status })

-- a feed and a finish with so much room
abbrev feed_of : String → ℕ → Call
feed_of text room = of_feed (characters text) (pad room [])

abbrev finish_of : ℕ → Call
finish_of room = of_finish (pad room [])

-- a session: status, state, what is held; received, produced, steps; how often each rule, the default and pairs were used
abbrev session_with : Status → ℕ → List ℕ → ℕ → ℕ → ℕ → List ℕ → ℕ → ℕ → Session
session_with status state held received produced steps rules default pairs =
    record {
      status = status;
      state = state;
      held = pad 8 held;
      count = length held;
      received = received;
      produced = produced;
      steps = steps;
      uses = pad 32 rules ++ (default ∷ pairs ∷ []);
    }

-- "With T1 below and input `A&#38;` ... it prints 0041 0026 end 6 10", in two pieces that part a pattern: E is 5, and two characters are
-- held between them. The default was used once and rule 1, of five characters, once.
unfoldable pub closing : Case
closing =
    record {
      table = t1;
      calls = feed_of "A&#" 15 ∷ feed_of "38;" 25 ∷ finish_of 0 ∷ [];
      answers = answer 1 Open ∷ answer 1 Open ∷ answer 0 Closed ∷ [];
      output = characters "A&";
      session = session_with Closed 0 [] 6 2 10 (0 ∷ 1 ∷ []) 1 0;
      input = characters "A&#38;";
      ended = true;
    }

-- T2's line "ab", with "Y", stopped, 1 and 4: one character is held, so the second piece asks for room 2, and what comes after the stop is
-- refused. Rule 1 was used once.
unfoldable pub stopping : Case
stopping =
    record {
      table = t2;
      calls = feed_of "a" 1 ∷ feed_of "b" 1 ∷ feed_of "b" 2 ∷ finish_of 0 ∷ [];
      answers = answer 0 Open ∷ refused 15 ∷ answer 1 Stopped ∷ refused 13 ∷ [];
      output = characters "Y";
      session = session_with Stopped 0 [] 1 1 4 (0 ∷ 1 ∷ []) 0 0;
      input = characters "ab";
      ended = false;
    }

-- Request [8], under T3 with the mark: a pair fed unit by unit, and a first unit that is left at the end. Each first unit waits after its back;
-- the pair costs two takes and one emit more, the other unit a take and an emit, and the end is closed.
unfoldable pub pairing : Case
pairing =
    record {
      table = t3_marked;
      calls = of_feed (55296 ∷ []) (pad 1 []) ∷ of_feed (56320 ∷ []) (pad 2 []) ∷ of_feed (56319 ∷ []) (pad 1 []) ∷ finish_of 1 ∷ [];
      answers = answer 0 Open ∷ answer 2 Open ∷ answer 0 Open ∷ answer 1 Closed ∷ [];
      output = 55296 ∷ 56320 ∷ 56319 ∷ [];
      session = session_with Closed 0 [] 3 3 8 [] 1 1;
      input = 55296 ∷ 56320 ∷ 56319 ∷ [];
      ended = true;
    }

-- T1 after `A&#`, whose last character is refused once, for a buffer of 9 where 10 is asked. `A` cost a back, a take and an emit, and two characters
-- were taken since; they lead to state 2.
unfoldable pub waiting : Case
waiting =
    record {
      table = t1;
      calls = feed_of "A&" 10 ∷ feed_of "#" 9 ∷ feed_of "#" 10 ∷ [];
      answers = answer 1 Open ∷ refused 15 ∷ answer 0 Open ∷ [];
      output = characters "A";
      session = session_with Open 2 (characters "&#") 3 1 5 [] 1 0;
      input = characters "A&#";
      ended = false;
    }

-- T3 with the mark, after a character of the default's and a first unit, whose back is counted.
unfoldable pub unpaired : Case
unpaired =
    record {
      table = t3_marked;
      calls = of_feed (65 ∷ 55296 ∷ []) (pad 2 []) ∷ [];
      answers = answer 1 Open ∷ [];
      output = 65 ∷ [];
      session = session_with Open 0 (55296 ∷ []) 2 1 4 [] 1 0;
      input = 65 ∷ 55296 ∷ [];
      ended = false;
    }

-- "the same for every input that begins with this one", of T2
unfoldable pub Firm : Table → Type 0
Firm t =
    (more : List ℕ) → Characters more → (ended : Bool) →
    let input = characters "ab" ++ more in
    (meaning_text t input ≡ characters "Y") × (meaning_place t input ≡ 1) × ((ran t input ended).final.steps ≡ 4)

unfoldable pub Instances : Type 0
Instances =
    ((t : Table) × Holds closing t × Over closing t true)
    × ((t : Table) × Holds stopping t × Over stopping t false × Firm t)
    × ((t : Table) × Holds pairing t × Over pairing t true)

-- Ending there, T1's third rule takes the `&#`; before `38;` its second rule takes it with what follows. A first unit is left to the default on
-- one unit at the end, and before a second unit to the default on a pair.
unfoldable pub HeldInstances : Type 0
HeldInstances =
    ((t : Table) × Holds waiting t × Held waiting t [] (the_rule 2) (characters "38;") (the_rule 1))
    × ((t : Table) × Holds unpaired t × Held unpaired t [] the_default (56320 ∷ []) the_pair)
