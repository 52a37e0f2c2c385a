-- "Demand 3 is a single claim about the whole list": a list of calls in turn, and the reckoning from the table and the calls alone.
use Rattle.std.specs.Prelude.{Bool, true, false, not, ◌||◌, List, [], ◌∷◌, ◌++◌, ℕ, ◌+◌, ◌-◌, ◌*◌, ltb, length, take}
use Rattle.lists.specs.Lists.{fold_left, pad}
use Rattle.lists.specs.Decide.{select}
use Rattle.meaning.specs.Refusal.{Outcome, refused, accepted}
use Rattle.meaning.specs.Table.{Table, expansion}
use Rattle.meaning.specs.Meaning.{text_of, covered}
use Rattle.meaning.specs.Direct.{limit}
use Rattle.automaton.specs.Automaton.{from_table}
use Rattle.reckoning.specs.Machine.{Ended, start, run}
use Rattle.reckoning.specs.Uses.{uses_of}
use Rattle.reckoning.specs.Session.{Session, fresh, is_open}
use Rattle.reckoning.specs.Calls.{Answer, CallOutcome, received_by, feed, finish}

-- a feed of a piece, or a finish, with the output buffer as found
pub data Call : Type 0 where
  of_feed : List ℕ → List ℕ → Call
  of_finish : List ℕ → Call

abbrev pub piece : Call → List ℕ
piece (of_feed p buffer) = p
piece (of_finish buffer) = []

abbrev pub buffer_of : Call → List ℕ
buffer_of (of_feed p buffer) = buffer
buffer_of (of_finish buffer) = buffer

abbrev pub room : Call → ℕ
room c = length (buffer_of c)

abbrev pub ends : Call → Bool
ends (of_feed p buffer) = false
ends (of_finish buffer) = true

-- The calls as they are made, each "lent the compiled words and the session as the last call left it": each one's answer, "the joined
-- outputs, those of accepted calls in order", and the session at the end.
pub record Served : Type 0 where
  pub answers : List (Outcome Answer)
  pub output : List ℕ
  pub session : Session

-- no call yet
abbrev pub before : Session → Served
before s = record { answers = []; output = []; session = s }

abbrev pub unserved : Served
unserved = before fresh

abbrev pub called : List ℕ → Session → Call → CallOutcome
called w s (of_feed p buffer) = feed w s p buffer
called w s (of_finish buffer) = finish w s buffer

-- the characters written, of a buffer as the call left it
abbrev pub output_by : Outcome Answer → List ℕ → List ℕ
output_by (refused n) buffer = []
output_by (accepted a) buffer = take a.count buffer

-- one call more, of this outcome
abbrev pub and_then : CallOutcome → Served → Served
and_then o v =
    record {
      answers = v.answers ++ (o.answer ∷ []);
      output = v.output ++ output_by o.answer o.output;
      session = o.session;
    }

abbrev pub serve_call : List ℕ → Served → Call → Served
serve_call w v c = and_then (called w v.session c) v

unfoldable pub serve : List ℕ → List Call → Served → Served
serve w [] v = v
serve w (c ∷ cs) v = serve w cs (serve_call w v c)

-- the same of calls that a caller made from the session s, and saw to have these outcomes
abbrev pub seen : Session → List CallOutcome → Served
seen s outcomes = fold_left and_then outcomes (before s)

-- "The accepted pieces joined", whatever else the calls answer, and whether a finish was accepted
abbrev pub accepted_pieces : {A : Type 0} → List Call → List (Outcome A) → List ℕ
accepted_pieces [] answers = []
accepted_pieces (c ∷ cs) [] = []
accepted_pieces (c ∷ cs) (refused n ∷ answers) = accepted_pieces cs answers
accepted_pieces (c ∷ cs) (accepted a ∷ answers) = piece c ++ accepted_pieces cs answers

abbrev pub accepted_end : {A : Type 0} → List Call → List (Outcome A) → Bool
accepted_end [] answers = false
accepted_end (c ∷ cs) [] = false
accepted_end (c ∷ cs) (refused n ∷ answers) = accepted_end cs answers
accepted_end (c ∷ cs) (accepted a ∷ answers) = ends c || accepted_end cs answers

-- The reckoning: the calls' answers, the input so far, and whether it has its end.
pub record Input : Type 0 where
  pub answers : List (Outcome Answer)
  pub characters : List ℕ
  pub ended : Bool

-- "The input is empty at first, without an end."
abbrev pub no_input : Input
no_input = record { answers = []; characters = []; ended = false }

-- "the plain machine, with the states, classes and groups defined above from the table, runs from an empty store and state 0 over the input
-- so far, as one piece, until it waits, closes or stops"
unfoldable pub ran : Table → List ℕ → Bool → Ended
ran t characters ended = run (from_table t) ended (start [] characters 0)

-- what it wrote over the input
abbrev pub ran_text : Table → Ended → List ℕ
ran_text t r = text_of (from_table t).write r.final.log

-- "The session has its status (waiting is open), its state, the characters it holds and its steps; produced counts what it wrote, and
-- consumed the characters that emits removed from its store. Received is the input's length, or consumed when stopped.": of n characters
abbrev pub session_by : Table → Ended → ℕ → Session
session_by t r n =
    record {
      status = r.status;
      state = r.final.state;
      held = pad 8 r.final.store;
      count = length r.final.store;
      received = received_by r.status n (covered r.final.log);
      produced = length (ran_text t r);
      steps = r.final.steps;
      uses = uses_of r.final.log;
    }

-- "If it closed or stopped, the call is refused by 13. Else 14 takes the input's length as received, and 15 the number of characters that
-- the machine holds as held"
unfoldable pub reckoned : Table → Ended → ℕ → Call → Outcome (Unit {0})
reckoned t r received c =
    select (
    (not (is_open r.status), refused 13)
    ∷ (ltb limit (received + length (piece c)), refused 14)
    ∷ (ltb (room c) (expansion t * (length r.final.store + length (piece c))), refused 15)
    ∷ []) (accepted tt)

-- "Feed and finish ... answer its count and the status": how much more the machine wrote with the call than before it, and its status
abbrev pub answer_by : Table → Ended → Ended → Answer
answer_by t before after = record { count = length (ran_text t after) - length (ran_text t before); status = after.status }

-- "A refused call changes nothing. An accepted feed adds its piece to the input; an accepted finish gives it its end."
abbrev pub input_by : Table → Outcome (Unit {0}) → Input → Call → Input
input_by t (refused n) i c = record { answers = i.answers ++ (refused n ∷ []); characters = i.characters; ended = i.ended }
input_by t (accepted u) i c =
    let answer = answer_by t (ran t i.characters i.ended) (ran t (i.characters ++ piece c) (ends c)) in
    record { answers = i.answers ++ (accepted answer ∷ []); characters = i.characters ++ piece c; ended = ends c }

abbrev pub reckon_call : Table → Input → Call → Input
reckon_call t i c = input_by t (reckoned t (ran t i.characters i.ended) (length i.characters) c) i c

unfoldable pub reckon : Table → List Call → Input → Input
reckon t [] i = i
reckon t (c ∷ cs) i = reckon t cs (reckon_call t i c)
