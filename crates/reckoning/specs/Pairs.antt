-- Request [8] of document 02, "Pairs outside the basic plane", for the plain machine and for sessions, one field a sentence. That a pair adds 2 to
-- the total and has a count of its own is in `AddsUp`, the text by Definition 7 so amended in `Agrees`.
use Rattle.std.specs.Prelude.{Bool, true, false, List, [], ◌∷◌, ◌++◌, ◌↔◌, ◌≡◌, ℕ, ◌+◌, T}
use Rattle.meaning.specs.Table.{Paired, is_first, is_second, default_number, pair_number}
use Rattle.meaning.specs.Block.{at}
use Rattle.meaning.specs.Meaning.{Emission}
use Rattle.automaton.specs.Sound.{sound}
use Rattle.automaton.specs.Automaton.{Automaton, from_words}
use Rattle.reckoning.specs.Machine.{Configuration, Open, halt, step, steps, start}
use Rattle.reckoning.specs.Session.{stands_at}

-- after a *back* that left u unread, and after an *emit*; n steps were counted
abbrev pub backed : List ℕ → List Emission → ℕ → Configuration
backed u log n = record { store = []; unread = u; state = 0; due = true; log = log; steps = n }

abbrev pub emitted : List ℕ → List Emission → ℕ → Configuration
emitted u log n = record { store = []; unread = u; state = 0; due = false; log = log; steps = n }

-- the machine holds x at state 0
abbrev pub holding : ℕ → List Emission → ℕ → Configuration
holding x log n = record { store = x ∷ []; unread = []; state = 0; due = false; log = log; steps = n }

-- under the mark, of a first unit x and any log and steps so far
pub record UnitLeft (A : Automaton) (x : ℕ) (log : List Emission) (n : ℕ) : Type 0 where
  -- "The pair costs two takes and one emit after the back."
  pub costs : (ended : Bool) (y : ℕ) (u : List ℕ) → T (is_second y) → (more : ℕ) →
      steps A ended (3 + more) (backed (x ∷ y ∷ u) log n) ≡ steps A ended more (emitted u (log ++ (record { group = pair_number; word = x ∷ y ∷ [] } ∷ [])) (n + 3))
  -- "A first unit with nothing readable after it waits"; "A waiting first unit left by a back is one held character at state 0; the back is
  -- counted before the wait"
  pub waits : step A false (backed (x ∷ []) log n) ≡ halt Open (holding x log n)
  -- "and at the input's end it is treated alone": one take and one emit
  pub alone : (more : ℕ) →
      steps A true (2 + more) (backed (x ∷ []) log n) ≡ steps A true more (emitted [] (log ++ (record { group = default_number; word = x ∷ [] } ∷ [])) (n + 2))

pub record PairsRun : Type 0 where
  pub left : (A : Automaton) → A.default ≡ Paired → (x : ℕ) → T (is_first x) → (log : List Emission) (n : ℕ) → UnitLeft A x log n
  -- "and the takes only when the next unit or the end is known": a session that holds it goes on as after the back, which is not counted again
  pub goes_on : (x : ℕ) (piece : List ℕ) → start (x ∷ []) piece 0 ≡ backed (x ∷ piece) [] 0
  -- "A sound session allows it where the mark is set, the unit is a first unit and state 0 has no target for it."
  pub allows : (w : List ℕ) → T (sound w) → (x : ℕ) → T (stands_at (from_words w) 0 (x ∷ [])) ↔ ((at w 5 ≡ 2) × T (is_first x) × ((from_words w).target 0 x ≡ 0))
  -- "one held character": never more at state 0
  pub one_only_lem : (w : List ℕ) (x y : ℕ) (held : List ℕ) → T (stands_at (from_words w) 0 (x ∷ y ∷ held)) → ⊥
