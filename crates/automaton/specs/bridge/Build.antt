-- The compiler as it is run: a set of rules as a number, and states added to a list as they are met.
use Rattle.std.specs.Prelude.{cond, List, [], ◌∷◌, ◌++◌, ℕ, zero, suc, ◌+◌, ◌*◌, ◌/◌, ◌%◌, eqb, length}
use Rattle.lists.specs.Lists.{fold_left, find_from, tab_from, is_some, or_else}
use Rattle.meaning.specs.Table.{Table}
use Rattle.meaning.specs.Block.{at}
use Rattle.automaton.specs.States.{State, successor, same_state, inhabited}
use Rattle.automaton.specs.Layout.{states_from}

-- the rules of a set that is kept as a number, numbered from i: bit by bit, the lowest first
unfoldable pub members_from : ℕ → ℕ → ℕ → List ℕ
members_from i zero set = []
members_from i (suc n) set = let rest = members_from (suc i) n (set / 2) in cond (eqb (set % 2) 1) (i ∷ rest) rest

-- a state of n rules with its set kept as a number
abbrev pub state_of : ℕ → ℕ → ℕ → State
state_of n depth set = record { depth = depth; members = members_from 0 n set }

-- a state's number in a list, which is that of its end where the state is not there
unfoldable pub number_in : State → List State → ℕ
number_in q qs = or_else (length qs) (find_from 0 (same_state q) qs)

-- the list with the state, at its end where it was not there
unfoldable pub added : State → List State → List State
added q qs = cond (is_some (find_from 0 (same_state q) qs)) qs (qs ++ (q ∷ []))

-- the states met from q by the class starts in turn
unfoldable pub added_from : Table → State → List ℕ → List State → List State
added_from t q cs qs = fold_left (λ c rs. let s = successor t q c in cond (inhabited s) (added s rs) rs) cs qs

-- the states that the words' depths and the sets hold, `count` of them
unfoldable pub states_at : List ℕ → List ℕ → ℕ → ℕ → List State
states_at words sets n count = tab_from 0 count (λ i. state_of n (at words (states_from + 3 * i)) (at sets i))
