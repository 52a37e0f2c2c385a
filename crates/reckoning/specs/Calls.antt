-- Feed and finish: what they answer and leave.
use Rattle.std.specs.Prelude.{Bool, true, false, not, List, [], ◌∷◌, ℕ, ◌+◌, ◌*◌, ltb, length}
use Rattle.lists.specs.Lists.{pad}
use Rattle.lists.specs.Decide.{select}
use Rattle.meaning.specs.Refusal.{Outcome, refused, accepted}
use Rattle.meaning.specs.Meaning.{text_of, covered}
use Rattle.meaning.specs.Direct.{limit, over}
use Rattle.automaton.specs.Sound.{sound, expansion_word}
use Rattle.automaton.specs.Automaton.{Automaton, from_words}
use Rattle.reckoning.specs.Machine.{Status, Open, Closed, Stopped, Ended, start, run}
use Rattle.reckoning.specs.Uses.{uses_after}
use Rattle.reckoning.specs.Session.{Session, consumed, store, is_open, sound_session}

-- "answer its count and the status"
pub record Answer : Type 0 where
  pub count : ℕ
  pub status : Status

pub record CallOutcome : Type 0 where
  pub answer : Outcome Answer
  pub session : Session
  pub output : List ℕ

-- "Feed and finish 11 to 15", for a piece of n characters (none at a finish) and a buffer of so much room
unfoldable pub admits : List ℕ → Session → ℕ → ℕ → Outcome (Unit {0})
admits w s n room =
    select (
    (not (sound w), refused 11)
    ∷ (not (sound_session w s), refused 12)
    ∷ (not (is_open s.status), refused 13)
    ∷ (ltb limit (s.received + n), refused 14)
    ∷ (ltb room (expansion_word w * (s.count + n)), refused 15)
    ∷ []) (accepted tt)

-- "When stopped, nothing is held and received equals consumed."
abbrev pub received_by : Status → ℕ → ℕ → ℕ
received_by Open received gone = received
received_by Closed received gone = received
received_by Stopped received gone = gone

-- the machine goes on from the session over the piece
abbrev pub resumed : Automaton → Session → List ℕ → Bool → Ended
resumed m s piece ended = run m ended (start (store s) piece s.state)

-- the session after a run over n more characters that wrote so many
abbrev pub later : Session → ℕ → ℕ → Ended → Session
later s n written r =
    record {
      status = r.status;
      state = r.final.state;
      held = pad 8 r.final.store;
      count = length r.final.store;
      received = received_by r.status (s.received + n) (consumed s + covered r.final.log);
      produced = s.produced + written;
      steps = s.steps + r.final.steps;
      uses = uses_after s.uses r.final.log;
    }

-- "every other refusal changes nothing"
abbrev pub call_by : Outcome (Unit {0}) → Automaton → Session → List ℕ → Bool → List ℕ → CallOutcome
call_by (refused n) m s piece ended buffer = record { answer = refused n; session = s; output = buffer }
call_by (accepted u) m s piece ended buffer =
    let r = resumed m s piece ended in
    let text = text_of m.write r.final.log in
    record {
      answer = accepted (record { count = length text; status = r.status });
      session = later s (length piece) (length text) r;
      output = over text buffer;
    }

-- words, session, piece, output buffer as found
unfoldable pub feed : List ℕ → Session → List ℕ → List ℕ → CallOutcome
feed w s piece buffer = call_by (admits w s (length piece) (length buffer)) (from_words w) s piece false buffer

unfoldable pub finish : List ℕ → Session → List ℕ → CallOutcome
finish w s buffer = call_by (admits w s 0 (length buffer)) (from_words w) s [] true buffer

-- what a call over a piece, ended or not, runs to, writes and leaves where it is accepted
module _ (w : List ℕ) (s : Session) (p : List ℕ) (e : Bool) where
  abbrev pub ran_on : Ended
  ran_on = resumed (from_words w) s p e

  abbrev pub text_on : List ℕ
  text_on = text_of (from_words w).write ran_on.final.log

  abbrev pub left_on : Session
  left_on = later s (length p) (length text_on) ran_on
