-- The list of turns: a turn that leaves its session waiting has received more, within what refusal 14 allows, and a piece adds its turn to the list.
-- An accepted feed that waits has received its piece, and a finish leaves no session waiting.
use mathlib.Core.Bool.{Bool, true, false, ◌&&◌, not, cond, false≢true}
use mathlib.Core.List.{List, [], ◌∷◌, ◌++◌}
use mathlib.Core.Path.{◌≡◌, refl, sym, ap, subst, ◌∙◌}
use Prim.Native.Nat.{ℕ, ◌+◌, ◌-◌, ◌*◌, ◌≤◌, ◌<◌}
use native.Mathlib.Omega.{arith}
use lib.ListN.{length, length-append}
use Rattle.meaning.specs.Refusal.{Outcome, refused, accepted}
use Rattle.meaning.specs.Direct.{limit}
use Rattle.automaton.specs.Automaton.{from_words}
use Rattle.automaton.specs.Layout.{word_count}
use Rattle.automaton.specs.Compile.{compile}
use Rattle.reckoning.specs.Machine.{Status, Open, Closed, Stopped}
use Rattle.reckoning.specs.Session.{Session, fresh, store, is_open}
use Rattle.reckoning.specs.Calls.{admits, received_by, resumed, call_by, feed, finish}
use Rattle.reckoning.proofs.Laws.Rounds.{NotOpen, trace_ended}
use Rattle.reckoning.proofs.Laws.Kept.{call_tells}
use Rattle.reckoning.proofs.Laws.Answers.{Admits, admission}
use Rattle.session.specs.Keeping.{session_of}
use Rattle.session.specs.declared.kept.Session as Code
use Rattle.program.specs.declared.feeding.Ending.{Ending}
use Rattle.program.specs.Turns.{call_on, waits, Turns, no_turn, a_turn, EndsBy, Ran}
use Rattle.program.specs.bridge.Piece.{Taken}

received_open : (t : Status) (all gone : ℕ) → is_open t ≡ true → received_by t all gone ≡ all
received_open Open all gone e = refl
received_open Closed all gone e = absurd (false≢true e)
received_open Stopped all gone e = absurd (false≢true e)

open_not : (t : Status) → NotOpen t → is_open t ≡ true → ⊥
open_not Open n e = n
open_not Closed n e = false≢true e
open_not Stopped n e = false≢true e

module _ (w : List ℕ) (s : Session) where
  fed : (o : Outcome (Unit {0})) (piece buffer : List ℕ) → Admits w s (length piece) (length buffer) o →
      let c = call_by o (from_words w) s piece false buffer in
      waits c.answer ≡ true → (c.session.received ≡ s.received + length piece) × (s.received + length piece ≤ limit)
  fed (refused n) piece buffer h e = absurd (false≢true e)
  fed (accepted u) piece buffer h e = (received_open (resumed (from_words w) s piece false).status _ _ e, h.passed.1)

  finished : (o : Outcome (Unit {0})) (buffer : List ℕ) → Admits w s 0 (length buffer) o →
      waits (call_by o (from_words w) s [] true buffer).answer ≡ true → ⊥
  finished (refused n) buffer h e = false≢true e
  finished (accepted u) buffer h e =
      let tells = call_tells w h.sound_words s [] true h.sound_session_lem h.passed.0 in
      let ended : NotOpen (resumed (from_words w) s [] true).status = subst NotOpen (sym tells.status) (trace_ended (from_words w) 0 (store s ++ [])) in
      open_not (resumed (from_words w) s [] true).status ended e

  -- a turn that leaves its session waiting was on some bytes, which it has received
  pub waiting_received : (bytes buffer : List ℕ) → let c = call_on w s bytes buffer in
      waits c.answer ≡ true → (0 < length bytes) × (c.session.received ≡ s.received + length bytes) × (s.received + length bytes ≤ limit)
  unfolding feed finish
  waiting_received [] buffer e = absurd (finished (admits w s 0 (length buffer)) buffer (admission w s 0 (length buffer)) e)
  waiting_received (b ∷ bytes) buffer e =
      let piece = b ∷ bytes in
      let got = fed (admits w s (length piece) (length buffer)) piece buffer (admission w s (length piece) (length buffer)) e in
      (omega arith, got.0, got.1)

-- the same of the list of turns: what it has received is the input so far
pub turns_received : {w input printed : List ℕ} {s : Session} {going : Bool} → Turns w input printed s going → going ≡ true →
    (s.received ≡ length input) × (length input ≤ limit)
unfolding fresh
turns_received no_turn e = (refl, omega arith)
turns_received {w} (a_turn {input} {printed} {s} {bytes} ts t) e =
    let before = turns_received ts refl in
    let got = waiting_received w s bytes t.buffer (sym t.turned.waiting ∙ e) in
    let all = length-append input bytes in
    let more = ap (λ (x : Session). x.received) t.turned.session in
    (omega arith, omega arith)

-- how far the pieces have come
pub record Come (w : List ℕ) (e : Ending) : Type 0 where
  pub input : List ℕ
  pub reads : e.read ≡ length input
  pub printed : List ℕ
  pub hands : e.handed ≡ length printed
  pub turns : Turns w input printed (session_of e.session) e.going
  pub few : e.going ≡ true → e.handed ≤ 655744 * e.read

pub come_first : (w : List ℕ) (s : Code.Session) → session_of s ≡ fresh →
    Come w (record { session = s; going = true; failed = false; read = 0; handed = 0 })
come_first w s e =
    record { input = []; reads = refl; printed = []; hands = refl; turns = rw e no_turn; few = λ _. omega arith }

-- what refusal 14 lets be read yet, and nothing where no other piece is read
abbrev pub left : Ending → ℕ
left e = cond (e.going && not e.failed) (limit + 1 - e.read) 0

less : (going failed : Bool) (m n : ℕ) → 0 < n → (going ≡ true → m < n) → cond (going && not failed) m 0 < n
less true true m n z h = z
less true false m n z h = h refl
less false failed m n z h = z

-- where another piece is read
module _ (w : List ℕ) (e : Ending) (k : Come w e) (g : e.going ≡ true) where
  pub come_bounded : (e.read ≤ limit) × (e.handed ≤ 655744 * e.read)
  come_bounded = let most = (turns_received k.turns g).1 in (omega (arith, k.reads), k.few g)

  module _ (p : Ending) (t : Taken w e.session p) where
    longer : p.going ≡ true → e.read < e.read + p.read
    longer waits =
        let got = waiting_received w (session_of e.session) t.bytes t.turn.buffer (sym t.turn.turned.waiting ∙ waits) in
        omega (arith, t.reads)

    -- the pieces with this one
    abbrev pub added : Ending
    added = record { session = p.session; going = p.going; failed = p.failed; read = e.read + p.read; handed = e.handed + p.handed }

    -- a piece's turn is added to the list
    pub come_next : Come w added
    come_next =
        record {
          input = k.input ++ t.bytes;
          reads = omega (arith, k.reads, t.reads, length-append k.input t.bytes);
          printed = k.printed ++ t.text;
          hands = omega (arith, k.hands, t.hands, length-append k.printed t.text);
          turns = a_turn (rw g at k.turns) t.turn;
          few = λ waits. let more = longer waits in omega (arith, k.few g, t.few);
        }

    -- where the session waits, more was read, so that less is left
    pub come_less : not e.failed ≡ true → left added < left e
    come_less fine =
        let room : 0 < limit + 1 - e.read = omega (arith, come_bounded.0) in
        rw (g, fine) (less p.going p.failed _ _ room (λ waits. let more = longer waits in omega (arith, come_bounded.0)))

-- what the program comes to, by what compiling came to
pub ran_by : (table found w : List ℕ) (o : Outcome (Unit {0})) (e : Ending) → length found ≡ word_count → o ≡ (compile table found).answer →
    w ≡ (compile table found).words → EndsBy o w e → Ran table e
ran_by table found w o e room answer words ends = record { found = found; room = room; ends = rw (answer, words) at ends }
