-- An input in two pieces: what compiling, two feeds and a finish come to, one output after the other in one buffer.
use Rattle.std.specs.Prelude.{cond, List, ◌++◌, ℕ, ◌+◌, eqb, take, drop}
use Rattle.meaning.specs.Refusal.{Outcome, refused, accepted}
use Rattle.automaton.specs.Compile.{compile}
use Rattle.reckoning.specs.Session.{Session, fresh}
use Rattle.reckoning.specs.Calls.{Answer, CallOutcome, feed, finish}

-- how far the calls have led: the refusal that ended them, if any, the session, and how many characters of the output are written
pub record Turn : Type 0 where
  pub answer : Outcome (Unit {0})
  pub session : Session
  pub written : ℕ

abbrev pub count_of : Outcome Answer → ℕ
count_of (refused n) = 0
count_of (accepted a) = a.count

-- "13 session not open": it has come as far as it can
abbrev pub passed_by : Outcome Answer → Outcome (Unit {0})
passed_by (refused n) = cond (eqb n 13) (accepted tt) (refused n)
passed_by (accepted a) = accepted tt

-- a call that was lent the output from k on
abbrev pub turn_by : ℕ → Outcome Answer → Session → Turn
turn_by k a s = record { answer = passed_by a; session = s; written = k + count_of a }

abbrev pub turn : ℕ → List ℕ → CallOutcome → Turn × List ℕ
turn k buffer o = (turn_by k o.answer o.session, take k buffer ++ o.output)

unfoldable pub feed_on : List ℕ → List ℕ → Session → ℕ → List ℕ → Turn × List ℕ
feed_on w piece s k buffer = turn k buffer (feed w s piece (drop k buffer))

unfoldable pub finish_on : List ℕ → Session → ℕ → List ℕ → Turn × List ℕ
finish_on w s k buffer = turn k buffer (finish w s (drop k buffer))

-- a refusal ends the conversion
abbrev pub next_by : Outcome (Unit {0}) → Turn × List ℕ → (Session → ℕ → List ℕ → Turn × List ℕ) → Turn × List ℕ
next_by (refused n) v f = v
next_by (accepted u) v f = f v.0.session v.0.written v.1

abbrev pub next : Turn × List ℕ → (Session → ℕ → List ℕ → Turn × List ℕ) → Turn × List ℕ
next v f = next_by v.0.answer v f

-- the second piece and the end
unfoldable pub rest_of : List ℕ → List ℕ → Session → ℕ → List ℕ → Turn × List ℕ
rest_of w second s k buffer = next (feed_on w second s k buffer) (finish_on w)

unfoldable pub pieces : List ℕ → List ℕ → List ℕ → List ℕ → Turn × List ℕ
pieces w first second buffer = next (feed_on w first fresh 0 buffer) (rest_of w second)

-- a table that is not compiled is not used
abbrev pub if_compiled : Outcome (Unit {0}) → List ℕ → Turn × List ℕ → Turn × List ℕ
if_compiled (refused n) buffer v = (record { answer = refused n; session = fresh; written = 0 }, buffer)
if_compiled (accepted u) buffer v = v

-- table, pieces, words and output as found
unfoldable pub in_two : List ℕ → List ℕ → List ℕ → List ℕ → List ℕ → Turn × List ℕ
in_two table first second words buffer =
    let o = compile table words in
    if_compiled o.answer buffer (pieces o.words first second buffer)
