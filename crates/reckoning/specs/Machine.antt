-- "The plain machine": the rollback machine over any automaton, one counted step at a time.
use Rattle.std.specs.Prelude.{Bool, true, false, ◌&&◌, not, cond, List, [], ◌∷◌, ◌++◌, ℕ, zero, suc, pred, ◌+◌, ◌*◌, eqb, ltb, length, get_or, take, drop}
use Rattle.lists.specs.Lists.{is_empty}
use Rattle.lists.specs.Decide.{select}
use Rattle.meaning.specs.Table.{Mode, Absent, Single, Paired, is_first, is_pair, default_number, pair_number}
use Rattle.meaning.specs.Meaning.{Emission}
use Rattle.automaton.specs.Sound.{used}
use Rattle.automaton.specs.Automaton.{Automaton}

-- "It holds a store, the unread characters and a state."
pub record Configuration : Type 0 where
  pub store : List ℕ
  -- "first from those given back, then from the piece"
  pub unread : List ℕ
  pub state : ℕ
  -- a roll-back was made, and the default is due
  pub due : Bool
  -- what was emitted, newest last
  pub log : List Emission
  pub steps : ℕ

pub data Status : Type 0 where
  Open Closed Stopped : Status

-- a step leads on, or ends the run
pub data Step : Type 0 where
  onward : Configuration → Step
  halt : Status → Configuration → Step

-- *emit*: "writes from the store, empties it and sets state 0"
abbrev pub emit : Configuration → ℕ → Step
emit c g =
    onward (record {
      store = [];
      unread = c.unread;
      state = 0;
      due = false;
      log = c.log ++ (record { group = g; word = c.store } ∷ []);
      steps = c.steps + 1;
    })

-- *take*: the next character is read into the store, to state q
abbrev pub read : Configuration → ℕ → Step
read c q =
    onward (record {
      store = c.store ++ take 1 c.unread;
      unread = drop 1 c.unread;
      state = q;
      due = c.due;
      log = c.log;
      steps = c.steps + 1;
    })

-- *back*: "store and character become unread again, state 0"
abbrev pub roll_back : Configuration → Step
roll_back c =
    onward (record { store = []; unread = c.store ++ c.unread; state = 0; due = true; log = c.log; steps = c.steps + 1 })

-- *stop*, which "drops what is unread", and *close*
abbrev pub end : Status → Configuration → Step
end s c = halt s (record { store = []; unread = []; state = 0; due = false; log = c.log; steps = c.steps + 1 })

-- waiting with what was given back: it is held at state 0, and nothing is counted
abbrev pub hold : Configuration → Step
hold c = halt Open (record { store = c.store ++ c.unread; unread = []; state = 0; due = false; log = c.log; steps = c.steps })

-- What a roll-back leads to: nothing is taken; so many characters are, for the group of a number; or the machine waits.
pub data Fall : Type 0 where
  nowhere : Fall
  taking : ℕ → ℕ → Fall
  keeping : Fall

-- a marked default, before one character or two
abbrev pub fall_one : Bool → Fall
fall_one true = keeping
fall_one false = taking default_number 1

abbrev pub fall_two : Bool → Fall
fall_two true = taking pair_number 2
fall_two false = taking default_number 1

-- "with a default *take* one ..., without one *stop*"; under the mark, a pair is taken whole, and "a first unit with nothing readable after
-- it waits, and at the input's end it is treated alone"
abbrev pub fall : Mode → Bool → List ℕ → Fall
fall Absent ended u = nowhere
fall Single ended u = taking default_number 1
fall Paired ended [] = taking default_number 1
fall Paired ended (x ∷ []) = fall_one (not ended && is_first x)
fall Paired ended (x ∷ (y ∷ u)) = fall_two (is_pair x y)

-- the takes, "only when the next unit or the end is known", then the *emit*
abbrev pub fall_by : Fall → Configuration → Step
fall_by nowhere c = end Stopped c
fall_by (taking g k) c = cond (ltb (length c.store) k) (read c 0) (emit c g)
fall_by keeping c = hold c

module _ (m : Automaton) (ended : Bool) where
  -- after a roll-back: what was taken since and what is unread decide
  unfoldable pub fall_back : Configuration → Step
  fall_back c = fall_by (fall m.default ended (c.store ++ c.unread)) c

  -- The four cases of the paper, in its order.
  unfoldable pub step : Configuration → Step
  step c =
      let go = m.accept c.state in
      let at_end = m.accept_at_end c.state in
      let next = not (is_empty c.unread) in
      let target = m.target c.state (get_or c.unread 0 0) in
      select (
      (c.due, fall_back c)
      ∷ (used go && eqb go at_end, emit c (pred go))
      ∷ (next && used go, emit c (pred go))
      ∷ (next && used target, read c target)
      ∷ (next, roll_back c)
      ∷ (not ended, halt Open c)
      ∷ (used at_end, emit c (pred at_end))
      ∷ (not (is_empty c.store), roll_back c)
      ∷ []) (end Closed c)

-- how a run ended
pub record Ended : Type 0 where
  pub status : Status
  pub final : Configuration

abbrev pub follow : Step → (Configuration → Ended) → Ended
follow (onward c) f = f c
follow (halt s c) f = record { status = s; final = c }

-- at most n steps
unfoldable pub steps : Automaton → Bool → ℕ → Configuration → Ended
steps m ended zero c = record { status = Open; final = c }
steps m ended (suc n) c = follow (step m ended c) (λ d. steps m ended n d)

-- "until it waits, closes or stops": L + 3 is at most 11, so 11 steps for each character and for the end are enough
unfoldable pub run : Automaton → Bool → Configuration → Ended
run m ended c = steps m ended (11 * (length c.store + length c.unread + 1)) c

abbrev pub start_by : Bool → List ℕ → List ℕ → ℕ → Configuration
start_by false held unread state = record { store = held; unread = unread; state = state; due = false; log = []; steps = 0 }
start_by true held unread state = record { store = []; unread = held ++ unread; state = state; due = true; log = []; steps = 0 }

-- the machine resumed: what is held at state 0 was given back, and its roll-back is not counted again
abbrev pub start : List ℕ → List ℕ → ℕ → Configuration
start held unread state = start_by (not (is_empty held) && eqb state 0) held unread state
