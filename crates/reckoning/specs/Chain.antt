-- Request [10] of document 02, "Two tables in a row": a chain of two machines, what its calls answer and leave.
use Rattle.std.specs.Prelude.{Bool, true, false, ◌&&◌, ◌||◌, not, List, [], ◌∷◌, ◌++◌, ◌≡◌, ℕ, ◌+◌, ◌*◌, ◌≤◌, T, ltb, length, take, drop}
use Rattle.lists.specs.Decide.{select}
use Rattle.meaning.specs.Refusal.{Outcome, refused, accepted, RefusedBy}
use Rattle.meaning.specs.Direct.{limit, over}
use Rattle.automaton.specs.Sound.{sound, expansion_word}
use Rattle.reckoning.specs.Machine.{Status, Open, Closed, Stopped}
use Rattle.reckoning.specs.Session.{Session, is_open, sound_session}
use Rattle.reckoning.specs.Calls.{Answer, CallOutcome, feed, finish, ran_on, text_on, left_on}
use Rattle.reckoning.specs.Reckoning.{Call, of_feed, of_finish, piece, buffer_of, room, ends, called}
use Rattle.reckoning.specs.Claims.{is_stopped}

-- a feed or a finish, with the output buffer and the middle buffer as found
pub record ChainCall : Type 0 where
  pub call : Call
  pub middle : List ℕ

-- "each call answers the second's output count and both statuses"
pub record ChainAnswer : Type 0 where
  pub count : ℕ
  pub first : Status
  pub second : Status

pub record ChainOutcome : Type 0 where
  pub answer : Outcome ChainAnswer
  pub first : Session
  pub second : Session
  pub middle : List ℕ
  pub output : List ℕ

-- "the least middle length, the first's E times (held + piece), at finish E times its held"
abbrev pub least_middle : List ℕ → Session → ℕ → ℕ
least_middle w s n = expansion_word w * (s.count + n)

abbrev pub is_closed : Status → Bool
is_closed Open = false
is_closed Closed = true
is_closed Stopped = false

-- "Each of 11 to 14 is tested for the first, then the second"; "Refusal 14 tests both sessions, the second with the least middle length as
-- its piece"; "18: ... tested after 14 and before 15"; "15 asks the second's E times the sum of its held and that least middle length": the
-- words of both, their sessions, the piece's length, the lengths of the middle and the output buffer
unfoldable pub admits_chain : List ℕ → List ℕ → Session → Session → ℕ → ℕ → ℕ → Outcome (Unit {0})
admits_chain w₁ w₂ s₁ s₂ n middle room =
    let least = least_middle w₁ s₁ n in
    select (
    (not (sound w₁), refused 11)
    ∷ (not (sound w₂), refused 11)
    ∷ (not (sound_session w₁ s₁), refused 12)
    ∷ (not (sound_session w₂ s₂), refused 12)
    ∷ (not (is_open s₁.status), refused 13)
    ∷ (not (is_open s₂.status), refused 13)
    ∷ (ltb limit (s₁.received + n), refused 14)
    ∷ (ltb limit (s₂.received + least), refused 14)
    ∷ (ltb middle least, refused 18)
    ∷ (ltb room (expansion_word w₂ * (s₂.count + least)), refused 15)
    ∷ []) (accepted tt)

-- The first runs over the piece into the middle buffer, the second over what the first wrote. "Finish closes the first, then the second."
-- "Otherwise a stop of the first ends it, the second isn't finished": the second has its end only where the first closed.
module _ (w₁ w₂ : List ℕ) (s₁ s₂ : Session) where
  abbrev pub chain_on : List ℕ → Bool → List ℕ → List ℕ → ChainOutcome
  chain_on p e middle buffer =
      let between = text_on w₁ s₁ p e in
      let e₂ = e && is_closed (ran_on w₁ s₁ p e).status in
      let text = text_on w₂ s₂ between e₂ in
      record {
        answer = accepted (record { count = length text; first = (ran_on w₁ s₁ p e).status; second = (ran_on w₂ s₂ between e₂).status });
        first = left_on w₁ s₁ p e;
        second = left_on w₂ s₂ between e₂;
        middle = over between middle;
        output = over text buffer;
      }

  -- "every other refusal changes nothing"
  abbrev pub chain_by : Outcome (Unit {0}) → ChainCall → ChainOutcome
  chain_by (refused n) c = record { answer = refused n; first = s₁; second = s₂; middle = c.middle; output = buffer_of c.call }
  chain_by (accepted u) c = chain_on (piece c.call) (ends c.call) c.middle (buffer_of c.call)

  unfoldable pub chained : ChainCall → ChainOutcome
  chained c = chain_by (admits_chain w₁ w₂ s₁ s₂ (length (piece c.call)) (length c.middle) (room c.call)) c

-- what is asked of an accepted call, of a piece of n characters and buffers of so much room, one field a test
pub record ChainAdmitted (w₁ w₂ : List ℕ) (s₁ s₂ : Session) (n middle room : ℕ) : Type 0 where
  pub words₁ : T (sound w₁)
  pub words₂ : T (sound w₂)
  pub kept₁ : T (sound_session w₁ s₁)
  pub kept₂ : T (sound_session w₂ s₂)
  pub open₁ : s₁.status ≡ Open
  pub open₂ : s₂.status ≡ Open
  -- "Refusal 14 tests both sessions, the second with the least middle length as its piece."
  pub limit₁ : s₁.received + n ≤ limit
  pub limit₂ : s₂.received + least_middle w₁ s₁ n ≤ limit
  -- 18 and 15
  pub enough : least_middle w₁ s₁ n ≤ middle
  pub room_left : expansion_word w₂ * (s₂.count + least_middle w₁ s₁ n) ≤ room

-- a call is accepted exactly when all of it holds
unfoldable pub ChainTests : Type 0
ChainTests =
    (w₁ w₂ : List ℕ) (s₁ s₂ : Session) (c : ChainCall) →
    let asked = ChainAdmitted w₁ w₂ s₁ s₂ (length (piece c.call)) (length c.middle) (room c.call) in
    ((a : ChainAnswer) → (chained w₁ w₂ s₁ s₂ c).answer ≡ accepted a → asked)
    × (asked → (a : ChainAnswer) × ((chained w₁ w₂ s₁ s₂ c).answer ≡ accepted a))

-- the refusals of a chain's call, in the order of their tests
abbrev pub chain_refusals : List ℕ
chain_refusals = 11 ∷ 12 ∷ 13 ∷ 14 ∷ 18 ∷ 15 ∷ []

-- Demand 1 for a call that found the sessions s₁ and s₂, and came to o: "an accepted answer or one of the numbered refusals"; "every other refusal
-- changes nothing. Words beyond those written stay as found."
pub record ChainAnswers (s₁ s₂ : Session) (c : ChainCall) (o : ChainOutcome) : Type 0 where
  pub numbered : RefusedBy chain_refusals o.answer
  pub unchanged : (n : ℕ) → o.answer ≡ refused n → (o.first ≡ s₁) × (o.second ≡ s₂) × (o.middle ≡ c.middle) × (o.output ≡ buffer_of c.call)
  -- "each call answers the second's output count and both statuses"
  pub answered : (a : ChainAnswer) → o.answer ≡ accepted a →
      (o.second.produced ≡ s₂.produced + a.count) × (a.first ≡ o.first.status) × (a.second ≡ o.second.status)
  pub beyond : (a : ChainAnswer) → o.answer ≡ accepted a → drop a.count o.output ≡ drop a.count (buffer_of c.call)
  -- the middle buffer, behind the k characters that the first wrote
  pub beyond_middle : (k : ℕ) → o.first.produced ≡ s₁.produced + k → drop k o.middle ≡ drop k c.middle
  pub whole : length o.output ≡ room c.call
  pub whole_middle : length o.middle ≡ length c.middle

unfoldable pub ChainCallsAnswer : Type 0
ChainCallsAnswer = (w₁ w₂ : List ℕ) (s₁ s₂ : Session) (c : ChainCall) → ChainAnswers s₁ s₂ c (chained w₁ w₂ s₁ s₂ c)

-- a machine's call, into another buffer
abbrev pub into : Call → List ℕ → Call
into (of_feed p buffer) other = of_feed p other
into (of_finish buffer) other = of_finish other

-- how the second's part of an accepted call is made: f is its feed, answered by fed, of which the chain came to a and o; ended says whether it has
-- its end, too
pub record SecondMade (w : List ℕ) (ended : Bool) (f : CallOutcome) (fed : Answer) (a : ChainAnswer) (o : ChainOutcome) : Type 0 where
  -- "the second isn't finished", nor where it stopped: the feed is all
  pub feeds : T (not ended || is_stopped fed.status) → (a.count ≡ fed.count) × (a.second ≡ fed.status) × (o.second ≡ f.session) × (o.output ≡ f.output)
  -- "Finish closes the first, then the second.": the finish goes on from the feed and writes behind it
  pub finishes : T ended → fed.status ≡ Open →
      let g = finish w f.session (drop fed.count f.output) in
      (last : Answer) × (g.answer ≡ accepted last) × (a.count ≡ fed.count + last.count) × (a.second ≡ last.status) × (o.second ≡ g.session)
      × (o.output ≡ take fed.count f.output ++ g.output)

-- "A chain of two compiled machines feeds the first one's output to the second through a lent middle buffer": an accepted call is made of calls
-- of the two machines
pub record ChainMade (w₁ w₂ : List ℕ) (s₁ s₂ : Session) (c : ChainCall) (a : ChainAnswer) (o : ChainOutcome) : Type 0 where
  pub first : Answer
  pub first_answer : (called w₁ s₁ (into c.call c.middle)).answer ≡ accepted first
  pub first_status : a.first ≡ first.status
  pub first_session : o.first ≡ (called w₁ s₁ (into c.call c.middle)).session
  pub middle : o.middle ≡ (called w₁ s₁ (into c.call c.middle)).output
  pub fed : Answer
  pub fed_answer : (feed w₂ s₂ (take first.count o.middle) (buffer_of c.call)).answer ≡ accepted fed
  pub second : SecondMade w₂ (ends c.call && is_closed first.status) (feed w₂ s₂ (take first.count o.middle) (buffer_of c.call)) fed a o

-- of every accepted call, where the second session has its eight places
unfoldable pub ChainsMade : Type 0
ChainsMade =
    (w₁ w₂ : List ℕ) (s₁ s₂ : Session) (c : ChainCall) (a : ChainAnswer) → length s₂.held ≡ 8 →
    (chained w₁ w₂ s₁ s₂ c).answer ≡ accepted a → ChainMade w₁ w₂ s₁ s₂ c a (chained w₁ w₂ s₁ s₂ c)
