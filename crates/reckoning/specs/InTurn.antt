-- Lists of calls as their caller sees them: each call is known by its contract alone, and finds what the last one left. Of calls of any kind.
use Rattle.std.specs.Prelude.{List, [], ◌∷◌, ◌++◌, map}

-- A caller of functions that change a state. A call has an outcome; states, calls and outcomes have the caller's own form.
pub record Caller (State Call Outcome : Type 0) : Type 1 where
  -- what is held between calls, and of which state it is the form
  pub Held : Type 0
  pub Is : Held → State → Type 0
  -- a call that was made, with what it was lent and what came back: which call that is, its outcome, and what is held after it
  pub Made : Type 0
  pub call : Made → Call
  pub outcome : Made → Outcome
  pub left : Made → Held
  -- the contract of the function that was called, which found this held
  pub Meets : Held → Made → Type 0

module _ {State Call Outcome : Type 0} (k : Caller State Call Outcome) where
  -- "Each call is lent the compiled words and the session as the last call left it": each met its contract, and nothing else is known of it.
  unfoldable pub InTurn : k.Held → List k.Made → Type 0
  InTurn held [] = Unit {0}
  InTurn held (m ∷ ms) = k.Meets held m × InTurn (k.left m) ms

  -- Of every list of calls in turn from the state s, refused calls included: P holds of the calls and of the outcomes that the caller saw.
  unfoldable pub EveryList : State → (List Call → List Outcome → Type 0) → Type 0
  EveryList s P = (held : k.Held) → k.Is held s → (ms : List k.Made) → InTurn held ms → P (map k.call ms) (map k.outcome ms)

  -- Of every call that is made after such a list: P holds of the calls and outcomes before it, of the call and of its outcome.
  unfoldable pub EveryNext : State → (List Call → List Outcome → Call → Outcome → Type 0) → Type 0
  EveryNext s P =
      (held : k.Held) → k.Is held s → (ms : List k.Made) (m : k.Made) → InTurn held (ms ++ (m ∷ [])) →
      P (map k.call ms) (map k.outcome ms) (k.call m) (k.outcome m)
