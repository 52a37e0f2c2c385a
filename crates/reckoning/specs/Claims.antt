-- Demand 3, one field a sentence, and for the outcome functions; demand 1 for feed and finish, that accepted calls keep a session sound, and request [2].
use Rattle.std.specs.Prelude.{Bool, true, false, ◌||◌, List, [], ◌∷◌, ◌++◌, ◌≢◌, ◌↔◌, ◌≡◌, ℕ, ◌+◌, ◌*◌, ◌≤◌, ◌<◌, T, length, drop}
use Rattle.lists.specs.Lists.{Each, pad}
use Rattle.meaning.specs.Refusal.{refused, accepted, RefusedBy}
use Rattle.meaning.specs.Table.{Characters, Table, longest, default_number, pair_number}
use Rattle.meaning.specs.Block.{at}
use Rattle.meaning.specs.Meaning.{covered, convert, meaning_text, meaning_place}
use Rattle.automaton.specs.Sound.{rule_count, sound}
use Rattle.automaton.specs.Claims.{Compiled}
use Rattle.automaton.specs.Automaton.{Automaton, from_table}
use Rattle.reckoning.specs.Machine.{Configuration, Status, Open, Closed, Stopped, Ended}
use Rattle.reckoning.specs.Uses.{uses_of, characters_used}
use Rattle.reckoning.specs.Session.{Session, consumed, settled, sound_session}
use Rattle.reckoning.specs.Calls.{Answer, CallOutcome, received_by}
use Rattle.reckoning.specs.Reckoning.{Call, piece, buffer_of, called, accepted_pieces, Served, unserved, serve, Input, no_input, ran, ran_text, reckon}

abbrev pub is_stopped : Status → Bool
is_stopped Open = false
is_stopped Closed = false
is_stopped Stopped = true

-- "No next character and no end yet: wait": nothing is unread, no default is due, and the state is none "whose go equals its end". A first unit
-- that a back left (request [8]) is in the store, as a session keeps it.
pub record Waits (m : Automaton) (ended : Bool) (c : Configuration) : Type 0 where
  pub no_end : ended ≡ false
  pub unread : c.unread ≡ []
  pub due : c.due ≡ false
  pub state : settled m c.state ≡ false

-- Demand 3: v is what the calls cs answered, wrote and left, i is the reckoning's input, r the plain machine's run over it.
pub record Agrees (t : Table) (cs : List Call) (v : Served) (i : Input) (r : Ended) : Type 0 where
  -- "Each call is accepted, or refused with its number, exactly as document 01 reckons."
  -- An accepted one answers the plain machine's status after it and how much more that machine wrote.
  pub answers : v.answers ≡ i.answers
  -- "The accepted pieces joined are the input, of n characters."
  pub input : i.characters ≡ accepted_pieces cs v.answers
  -- "After the list the joined outputs, the session and the steps counted are those reckoned there by the plain machine on the whole input."
  pub output : v.output ≡ ran_text t r
  pub status : v.session.status ≡ r.status
  pub state : v.session.state ≡ r.final.state
  pub held : v.session.held ≡ pad 8 r.final.store
  pub count : v.session.count ≡ length r.final.store
  pub steps : v.session.steps ≡ r.final.steps
  pub produced : v.session.produced ≡ length (ran_text t r)
  pub consumes : consumed v.session ≡ covered r.final.log
  pub received : v.session.received ≡ received_by r.status (length i.characters) (covered r.final.log)
  -- "Demand 3's equality over lists of calls then includes all 33 counts, each the number of the plain machine's emits that wrote that
  -- group's output." (request [2]); "and pairs have a count of their own" (request [8])
  pub uses : v.session.uses ≡ uses_of r.final.log
  -- "until it waits, closes or stops": a run that is open had no step left to take
  pub waits : r.status ≡ Open → Waits (from_table t) i.ended r.final
  -- "The steps are at most (L + 3) times n, plus 1, where L is the longest pattern."
  pub bound : v.session.steps ≤ (longest t + 3) * length i.characters + 1
  -- "Once a finish is accepted or a feed has stopped the session, the joined outputs are the text of demand 2's definition for the input."
  pub text : T (i.ended || is_stopped v.session.status) → v.output ≡ meaning_text t i.characters
  -- "The session is then closed exactly when that definition reaches the input's end,"
  pub closed : T (i.ended || is_stopped v.session.status) → (v.session.status ≡ Closed) ↔ ((convert t i.characters).closed ≡ true)
  -- "and otherwise stopped at its place": "consumed is that place"
  pub stopped : T (i.ended || is_stopped v.session.status) → (convert t i.characters).closed ≡ false →
      (v.session.status ≡ Stopped) × (consumed v.session ≡ meaning_place t i.characters)
  -- "Where a feed stopped it, the definition's text and place and the plain machine's steps are the same for every input that begins with
  -- this one.", ended or not
  pub firm : i.ended ≡ false → v.session.status ≡ Stopped → (more : List ℕ) → Characters more → (ended : Bool) →
      (meaning_text t (i.characters ++ more) ≡ meaning_text t i.characters)
      × (meaning_place t (i.characters ++ more) ≡ meaning_place t i.characters)
      × ((ran t (i.characters ++ more) ended).final.steps ≡ r.final.steps)

-- the same, where the input and the run are the reckoning's own
abbrev pub Agreed : Table → List Call → Served → Type 0
Agreed t cs v = let i = reckon t cs no_input in Agrees t cs v i (ran t i.characters i.ended)

-- "Take every table that keeps document 01's rules for compiling, and so compiles by demand 2, and every list of feeds and finishes of its
-- machine from a fresh session, refused ones included, whatever the pieces and output lengths."
unfoldable pub OutcomesAgree : Type 0
OutcomesAgree =
    (t : Table) (w : List ℕ) → Compiled t w → (cs : List Call) → Each (λ c. Characters (piece c)) cs → Agreed t cs (serve w cs unserved)

-- Demand 1 for a feed or finish that found the session s and the buffer, and came to o: "an accepted answer or one of the numbered
-- refusals"; "every other refusal changes nothing. Words beyond those written stay as found."
pub record CallAnswers (s : Session) (buffer : List ℕ) (o : CallOutcome) : Type 0 where
  pub numbered : RefusedBy (11 ∷ 12 ∷ 13 ∷ 14 ∷ 15 ∷ []) o.answer
  pub unchanged : (n : ℕ) → o.answer ≡ refused n → (o.session ≡ s) × (o.output ≡ buffer)
  pub beyond : (a : Answer) → o.answer ≡ accepted a → drop a.count o.output ≡ drop a.count buffer
  pub whole : length o.output ≡ length buffer

unfoldable pub CallsAnswer : Type 0
CallsAnswer = (w : List ℕ) (s : Session) (c : Call) → CallAnswers s (buffer_of c) (called w s c)

-- An accepted call, of any words, leaves a session of eight places sound, and of eight places.
unfoldable pub CallsKeep : Type 0
CallsKeep =
    (w : List ℕ) (s : Session) (c : Call) (a : Answer) → length s.held ≡ 8 → (called w s c).answer ≡ accepted a →
    T (sound_session w (called w s c).session) × (length (called w s c).session.held ≡ 8)

-- Request [2] of a session under the words w: "the sum over rules of count times K, plus the default's count, is the consumed total",
-- "counts of rules or a default that the machine lacks being 0". Of request [8]: "A pair adds 2 to the consumed total that the use counts sum
-- to, and pairs have a count of their own, 0 without the mark."
pub record AddsUp (w : List ℕ) (s : Session) : Type 0 where
  pub sum : characters_used w s.uses ≡ consumed s
  pub lacking : (g : ℕ) → rule_count w ≤ g → g < 32 → at s.uses g ≡ 0
  pub undefaulted : at w 5 ≡ 0 → at s.uses default_number ≡ 0
  pub unmarked : at w 5 ≢ 2 → at s.uses pair_number ≡ 0

-- "A sound session satisfies this too"
unfoldable pub SoundAddsUp : Type 0
SoundAddsUp = (w : List ℕ) (s : Session) → T (sound w) → T (sound_session w s) → AddsUp w s

-- "(refusal 12)": one that does not is refused by 12
unfoldable pub RefusesOthers : Type 0
RefusesOthers = (w : List ℕ) (s : Session) (c : Call) → T (sound w) → (AddsUp w s → ⊥) → (called w s c).answer ≡ refused 12
