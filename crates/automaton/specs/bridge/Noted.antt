-- The compiler on its way: which states it has met, and what the words and the sets hold then.
use Rattle.std.specs.Prelude.{Option, None, Some, List, [], ◌∷◌, ◌≡◌, ℕ, zero, suc, ◌+◌, ◌*◌, ◌^◌, ◌≤◌, ◌<◌, length, get_or, take, drop}
use Rattle.lists.specs.Lists.{flat_map}
use Rattle.meaning.specs.Table.{Table}
use Rattle.meaning.specs.Block.{at}
use Rattle.automaton.specs.Classes.{starts}
use Rattle.automaton.specs.States.{State, initial, states, accept_at_end_of, accept_of}
use Rattle.automaton.specs.Layout.{word_count, target_words, blocks_from, classes_from, states_from, targets_from, targets_size}
use Rattle.automaton.specs.Sound.{depth_word, accept_at_end_word, accept_word}
use Rattle.automaton.specs.bridge.Build.{state_of, added_from}

-- the list when the states before number s are done
unfoldable pub done_at : Table → ℕ → List State
done_at t zero = initial t ∷ []
done_at t (suc s) = added_from t (get_or (states t) s (initial t)) (starts t) (done_at t s)

-- and the first k class starts of state s
unfoldable pub reached_at : Table → ℕ → ℕ → List State
reached_at t s k = added_from t (get_or (states t) s (initial t)) (take k (starts t)) (done_at t s)

-- of a column of words, the first m are those wanted, and the others up to `most` are 0
pub record Filled (column wanted : ℕ → ℕ) (m most : ℕ) : Type 0 where
  pub within : m ≤ most
  pub done : (i : ℕ) → i < m → column i ≡ wanted i
  pub blank : (i : ℕ) → m ≤ i → i < most → column i ≡ 0

-- The states of the list are met, `count` of them, with their sets of n rules kept as numbers.
-- Of the first e states the accept at the end is noted, of the first a the accept, and of the targets, 64 a state, the first m.
-- Nothing else stands in the words of states and targets.
pub record Noted (t : Table) (n : ℕ) (qs : List State) (e a m : ℕ) (w sets : List ℕ) (count : ℕ) : Type 0 where
  pub room : word_count ≤ length w
  pub places : length sets ≡ 256
  pub narrow : length (starts t) ≤ 64
  pub class_starts : (k : ℕ) → k < length (starts t) → at w (classes_from + k) ≡ get_or (starts t) k 0
  pub counted : length qs ≡ count
  pub few : count ≤ 256
  pub met : (i : ℕ) → i < count → state_of n (depth_word w i) (at sets i) ≡ get_or qs i (initial t)
  pub fit : (i : ℕ) → i < count → at sets i < 2 ^ n
  -- no state is deeper than its number
  pub shallow : (i : ℕ) → i < count → depth_word w i ≤ i
  pub unmet : (i : ℕ) → count ≤ i → i < 256 → depth_word w i ≡ 0
  pub ends : Filled (accept_at_end_word w) (λ i. accept_at_end_of t (get_or (states t) i (initial t))) e 256
  pub accepts : Filled (accept_word w) (λ i. accept_of t (get_or (states t) i (initial t))) a 256
  pub targets : Filled (λ i. at w (targets_from + i)) (at (flat_map (target_words t) (states t))) m targets_size

-- when the accepts of the first a states are noted, and the targets of the states before s and of the first k classes of state s
abbrev pub NotedAt : Table → ℕ → ℕ → ℕ → ℕ → List ℕ → List ℕ → ℕ → Type 0
NotedAt t n a s k w sets count = Noted t n (reached_at t s k) a a (64 * s + k) w sets count

-- the words of neither states nor targets are as they were
pub record Kept (w w' : List ℕ) : Type 0 where
  pub size : length w' ≡ length w
  pub front : take states_from w' ≡ take states_from w
  pub back : drop blocks_from w' ≡ drop blocks_from w

-- a step on the way, which answers whether there was room: there is none where there are more states than 256
pub record Onward (t : Table) (n a s k : ℕ) (w w' sets : List ℕ) (count : ℕ) (result : Option (Unit {0})) : Type 0 where
  pub kept : Kept w w'
  pub noted : result ≡ Some tt → NotedAt t n a s k w' sets count
  pub over : result ≡ None → 256 < length (states t)
