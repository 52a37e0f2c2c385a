-- The machine's run told in rounds: from an empty store and state 0 it walks forward, then emits, rolls back, stops, closes or waits.
-- A trace is the whole run as data; `Run` shows that the machine's steps do what the trace of store and unread characters tells.
use mathlib.Core.Bool.{Bool, true, false}
use mathlib.Core.List.{List, [], ◌∷◌}
use Prim.Native.Nat.{ℕ, zero, suc, pred, ◌+◌}
use lib.ListN.{length, take}
use Rattle.meaning.specs.Meaning.{Emission}
use Rattle.automaton.specs.Automaton.{Automaton, after}
use Rattle.reckoning.specs.Machine.{Status, Open, Closed, Stopped, Fall, nowhere, taking, keeping, fall}
use Rattle.reckoning.specs.Session.{settled}

-- what a walk from state 0 comes to: it waits in the state after all that it read, closes, stops after so many reads, accepts a rule after
-- so many, or rolls back after so many and takes so many characters for the default's group, of one or of a pair
pub data Round : Type 0 where
  waits : Round
  closes : Round
  stops : ℕ → Round
  accepts : ℕ → ℕ → Round
  -- reads, group, characters
  defaults : ℕ → ℕ → ℕ → Round

-- what a roll-back leads to, which the round's whole input decides
abbrev pub back : Fall → ℕ → Round
back nowhere d = stops d
back (taking g k) d = defaults d g k
back keeping d = waits

-- the state's accept, the next character's target, the fall, the reads so far
abbrev pub on_character : ℕ → ℕ → Fall → ℕ → (ℕ → Round) → Round
on_character (suc r) p b d f = accepts r d
on_character zero (suc p) b d f = f (suc p)
on_character zero zero b d f = back b d

-- whether the state is settled, its accept, the reads so far
abbrev pub on_wait : Bool → ℕ → ℕ → Round
on_wait true g d = accepts (pred g) d
on_wait false g d = waits

-- the state's accept at the end, the fall, the reads so far
abbrev pub on_end : ℕ → Fall → ℕ → Round
on_end (suc r) b d = accepts r d
on_end zero b zero = closes
on_end zero b (suc d) = back b (suc d)

abbrev pub on_nothing : Automaton → Bool → Fall → ℕ → ℕ → Round
on_nothing A false b d q = on_wait (settled A q) (A.accept q) d
on_nothing A true b d q = on_end (A.accept_at_end q) b d

-- from state q, after d reads
unfoldable pub walk : Automaton → Bool → Fall → ℕ → ℕ → List ℕ → Round
walk A e b d q [] = on_nothing A e b d q
walk A e b d q (x ∷ u) = on_character (A.accept q) (A.target q x) b d (λ p. walk A e b (suc d) p u)

-- what a roll-back leads to, of a round over u
abbrev pub fall_at : Automaton → Bool → List ℕ → Fall
fall_at A e u = fall A.default e u

-- one round
abbrev pub round : Automaton → Bool → List ℕ → Round
round A e u = walk A e (fall_at A e u) 0 0 u

-- a whole run: what it waits with or how it ends, after its emissions; it names no state, so that automata that number theirs otherwise
-- have the same traces
pub data Trace : Type 0 where
  waiting : List ℕ → Trace
  closing : Trace
  stopping : ℕ → Trace
  -- rule, word
  accepting : ℕ → List ℕ → Trace → Trace
  -- how many characters were read and given back, and what is taken after: group, word
  defaulting : ℕ → ℕ → List ℕ → Trace → Trace

abbrev pub last_of : Bool → Trace
last_of false = waiting []
last_of true = closing

abbrev pub handle : Round → List ℕ → (ℕ → Trace) → Trace
handle waits u f = waiting u
handle closes u f = closing
handle (stops d) u f = stopping d
handle (accepts r d) u f = accepting r (take d u) (f (pred d))
handle (defaults d g k) u f = defaulting d g (take k u) (f (pred k))

-- the trace of the input less its first k characters: each round skips what it emitted
unfoldable pub trace : Automaton → Bool → ℕ → List ℕ → Trace
trace A e k [] = last_of e
trace A e zero (x ∷ u) = handle (round A e (x ∷ u)) (x ∷ u) (λ k. trace A e k u)
trace A e (suc k) (x ∷ u) = trace A e k u

-- What a trace tells: its steps, emissions, held characters and status, and for an automaton the state, which is that after what is held:
-- 0 for a unit that was left, since state 0 has no target for it.

unfoldable pub cost : Trace → ℕ
cost (waiting h) = length h
cost closing = 1
cost (stopping d) = d + 2
cost (accepting r w t) = length w + 1 + cost t
cost (defaulting d g w t) = d + length w + 2 + cost t

unfoldable pub log_of : Trace → List Emission
log_of (waiting h) = []
log_of closing = []
log_of (stopping d) = []
log_of (accepting r w t) = record { group = r; word = w } ∷ log_of t
log_of (defaulting d g w t) = record { group = g; word = w } ∷ log_of t

unfoldable pub held_of : Trace → List ℕ
held_of (waiting h) = h
held_of closing = []
held_of (stopping d) = []
held_of (accepting r w t) = held_of t
held_of (defaulting d g w t) = held_of t

abbrev pub state_of : Automaton → Trace → ℕ
state_of A t = after A 0 (held_of t)

unfoldable pub status_of : Trace → Status
status_of (waiting h) = Open
status_of closing = Closed
status_of (stopping d) = Stopped
status_of (accepting r w t) = status_of t
status_of (defaulting d g w t) = status_of t

-- goes on with f where a trace waits
unfoldable pub graft : Trace → (List ℕ → Trace) → Trace
graft (waiting h) f = f h
graft closing f = closing
graft (stopping d) f = stopping d
graft (accepting r w t) f = accepting r w (graft t f)
graft (defaulting d g w t) f = defaulting d g w (graft t f)
