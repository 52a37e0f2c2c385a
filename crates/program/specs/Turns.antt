-- What the program does between its reads and its writes: from the bytes that were read to those that are printed.
use Rattle.std.specs.Prelude.{Bool, true, false, List, [], ◌∷◌, ◌++◌, ◌≡◌, ℕ, ◌≤◌, length}
use Rattle.meaning.specs.Refusal.{Outcome, refused, accepted}
use Rattle.automaton.specs.Layout.{word_count}
use Rattle.automaton.specs.Compile.{compile}
use Rattle.reckoning.specs.Session.{Session, fresh, is_open}
use Rattle.reckoning.specs.Calls.{Answer, CallOutcome, feed, finish}
use Rattle.session.specs.Keeping.{session_of}
use Rattle.program.specs.declared.feeding.Ending.{Ending}
use Rattle.program.specs.Text.{RefusalLine, Printed}

-- "feeds standard input, one character a byte": a read of no bytes is the input's end
abbrev pub call_on : List ℕ → Session → List ℕ → List ℕ → CallOutcome
call_on w s [] buffer = finish w s buffer
call_on w s (b ∷ bytes) buffer = feed w s (b ∷ bytes) buffer

-- a session that is still open waits for more
abbrev pub waits : Outcome Answer → Bool
waits (accepted a) = is_open a.status
waits (refused n) = false

-- the call's session is kept, another piece is read if it waits for more, and the call's text is printed
pub record Turned (o : CallOutcome) (later : Session) (going : Bool) (printed : List ℕ) : Type 0 where
  pub session : later ≡ o.session
  pub waiting : going ≡ waits o.answer
  pub text : Printed o printed

-- A turn on the bytes that a read gave: at most 16,384, with an output buffer of 131,136 places, whatever these held.
pub record TurnOn (w : List ℕ) (s : Session) (bytes : List ℕ) (later : Session) (going : Bool) (printed : List ℕ) : Type 0 where
  pub short : length bytes ≤ 16384
  pub buffer : List ℕ
  pub room : length buffer ≡ 131136
  pub turned : Turned (call_on w s bytes buffer) later going printed

-- `Turns w input printed s going`: turn by turn on the next bytes of the input, the first from a fresh session and each other from the
-- session that the last one left while that waited for more, these bytes were printed, and the last one left s.
pub data Turns (w : List ℕ) : List ℕ → List ℕ → Session → Bool → Type 0 where
  no_turn : Turns w [] [] fresh true
  a_turn : {input printed : List ℕ} {s : Session} {bytes text : List ℕ} {later : Session} {going : Bool} → Turns w input printed s true
      → TurnOn w s bytes later going text → Turns w (input ++ bytes) (printed ++ text) later going

-- The conversion of standard input, from its first read to its last write.
pub record Converted (w : List ℕ) (e : Ending) : Type 0 where
  -- what the reads gave, joined: some bytes, as many as were read. And what was handed to the writes, joined.
  pub input : List ℕ
  pub reads : e.read ≡ length input
  pub printed : List ℕ
  pub hands : e.handed ≡ length printed
  pub turns : Turns w input printed (session_of e.session) e.going
  -- it ends where the session no longer waits, unless a read or a write failed
  pub ended : e.failed ≡ false → e.going ≡ false

-- Of a refused table the line is handed to a write, and nothing is read.
pub record Refused (number : ℕ) (e : Ending) : Type 0 where
  pub line : List ℕ
  pub refuses : RefusalLine number line
  pub hands : e.handed ≡ length line
  pub unread : e.read ≡ 0

-- compiled words are fed
abbrev pub EndsBy : Outcome (Unit {0}) → List ℕ → Ending → Type 0
EndsBy (accepted u) w e = Converted w e
EndsBy (refused n) w e = Refused n e

-- What is proved of the program on a table's bytes. Not proved, as it is I/O: that these are the bytes of the file, that the input is what
-- standard input holds, and that what was handed to a write arrived.
pub record Ran (table : List ℕ) (e : Ending) : Type 0 where
  -- the words' array as compiling found it
  pub found : List ℕ
  pub room : length found ≡ word_count
  pub ends : EndsBy (compile table found).answer (compile table found).words e
