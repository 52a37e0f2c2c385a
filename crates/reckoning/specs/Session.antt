-- "Sessions": what is kept between calls, and when it is sound.
use Rattle.std.specs.Prelude.{Bool, true, false, ◌&&◌, ◌||◌, not, cond, List, [], ◌∷◌, ℕ, ◌+◌, ◌-◌, ◌*◌, eqb, leb, take, drop}
use Rattle.std.specs.Prelude.{Option, None, Some}
use Rattle.lists.specs.Lists.{all, pad}
use Rattle.lists.specs.Decide.{all_of}
use Rattle.meaning.specs.Table.{Mode, Absent, Single, Paired, is_first}
use Rattle.meaning.specs.Direct.{limit}
use Rattle.automaton.specs.Sound.{used, longest_word, expansion_word}
use Rattle.automaton.specs.Automaton.{Automaton, from_words}
use Rattle.reckoning.specs.Machine.{Status, Open, Closed, Stopped}
use Rattle.reckoning.specs.Uses.{use_counts, sound_uses}

pub record Session : Type 0 where
  pub status : Status
  pub state : ℕ
  -- "held characters (the store, others 0)": eight places, and how many of them are in use
  pub held : List ℕ
  pub count : ℕ
  pub received : ℕ
  pub produced : ℕ
  pub steps : ℕ
  -- "The session gains 33 counts" (request [2]), and one of pairs (request [8])
  pub uses : List ℕ

-- "Fresh: open, all 0."
unfoldable pub fresh : Session
fresh = record { status = Open; state = 0; held = pad 8 []; count = 0; received = 0; produced = 0; steps = 0; uses = pad use_counts [] }

-- "Consumed is received less held."
abbrev pub consumed : Session → ℕ
consumed s = s.received - s.count

abbrev pub store : Session → List ℕ
store s = take s.count s.held

abbrev pub is_open : Status → Bool
is_open Open = true
is_open Closed = false
is_open Stopped = false

-- "a state whose go equals its end"
abbrev pub settled : Automaton → ℕ → Bool
settled m q = used (m.accept q) && eqb (m.accept q) (m.accept_at_end q)

abbrev pub path_if : Bool → Option ℕ → Option ℕ
path_if true r = r
path_if false r = None

-- where the characters lead by targets, "neither through nor to a state whose go equals its end"
unfoldable pub path : Automaton → ℕ → List ℕ → Option ℕ
path m q [] = Some q
path m q (c ∷ cs) = let r = m.target q c in path_if (used r && not (settled m r)) (path m r cs)

abbrev pub is_at : ℕ → Option ℕ → Bool
is_at q None = false
is_at q (Some r) = eqb q r

abbrev pub is_paired : Mode → Bool
is_paired Absent = false
is_paired Single = false
is_paired Paired = true

-- "A waiting first unit left by a back is one held character at state 0": "where the mark is set, the unit is a first unit and state 0 has no
-- target for it"
abbrev pub is_left : Automaton → ℕ → List ℕ → Bool
is_left m q [] = false
is_left m q (x ∷ []) = eqb q 0 && (is_paired m.default && (is_first x && eqb (m.target 0 x) 0))
is_left m q (x ∷ (y ∷ h)) = false

-- an open session may be in the state and hold the characters
abbrev pub stands_at : Automaton → ℕ → List ℕ → Bool
stands_at m q h = is_at q (path m 0 h) || is_left m q h

unfoldable pub sound_session : List ℕ → Session → Bool
sound_session w s =
    let cost = longest_word w + 3 in
    all_of (
    -- "received at most 1,099,511,627,776 and at least held; produced at most E times consumed; held places not in use are 0"
    leb s.received limit
    ∷ leb s.count s.received
    ∷ leb s.produced (expansion_word w * consumed s)
    ∷ leb s.count 8
    ∷ all (eqb 0) (drop s.count s.held)
    -- "A sound session satisfies this too" (request [2])
    ∷ sound_uses w s.uses (consumed s)
    ∷ cond (is_open s.status)
    -- "open, the held characters lead from state 0 to the state ..., and steps are at most (L + 3) times consumed plus held"; or a first unit was left
    (all_of (stands_at (from_words w) s.state (store s) ∷ leb s.steps (cost * consumed s + s.count) ∷ []))
    -- "closed or stopped, state 0, nothing held, steps at most (L + 3) times (consumed + 1)"
    (all_of (eqb s.state 0 ∷ eqb s.count 0 ∷ leb s.steps (cost * (consumed s + 1)) ∷ []))
    ∷ [])
