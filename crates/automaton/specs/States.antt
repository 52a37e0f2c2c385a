-- "Machine words": states, from a table.
use Rattle.std.specs.Prelude.{Bool, ◌&&◌, not, cond, List, [], ◌∷◌, ◌++◌, map, ℕ, zero, suc, eqb, ltb, length, get_or}
use Rattle.lists.specs.Lists.{filter, flat_map, find_from, same_list, up_to, is_empty, or_else}
use Rattle.meaning.specs.Table.{Table, in_ranges, rule_at, longest}
use Rattle.automaton.specs.Classes.{starts}

-- "A state is a pair: depth d, and the set of rules": the rules' numbers, rising
pub record State : Type 0 where
  pub depth : ℕ
  pub members : List ℕ

-- 0 for none, else the first number + 1
abbrev pub first_number : List ℕ → ℕ
first_number [] = 0
first_number (n ∷ ns) = suc n

module _ (t : Table) where
  -- "State 0 has depth 0 and all rules"
  unfoldable pub initial : State
  initial = record { depth = 0; members = up_to (length t.rules) }

  -- A state's *end*, "the lowest rule of either sort with K = d": the rule accepted if the input ends here, + 1; 0 for none.
  unfoldable pub accept_at_end_of : State → ℕ
  accept_at_end_of q = first_number (filter (λ r. eqb (rule_at t r).size q.depth) q.members)

  -- A state's *go*, "the lowest unanchored rule in the set with K = d": the rule accepted at once, + 1; 0 for none.
  unfoldable pub accept_of : State → ℕ
  accept_of q = first_number (filter (λ r. eqb (rule_at t r).size q.depth && not (rule_at t r).anchored) q.members)

  -- the rules of the state that are longer and take the character at the next position
  abbrev pub longer_rules : State → ℕ → List ℕ
  longer_rules q c = filter (λ r. ltb q.depth (rule_at t r).size && in_ranges (get_or (rule_at t r).ranges q.depth []) c) q.members

  -- The state that a character leads to. "A state with a go has no successors": it leads to an empty set, as where no rule goes on.
  unfoldable pub successor : State → ℕ → State
  successor q c = record { depth = suc q.depth; members = cond (eqb (accept_of q) 0) (longer_rules q c) [] }

unfoldable pub same_state : State → State → Bool
same_state p q = eqb p.depth q.depth && same_list p.members q.members

-- "with non-empty sets"
abbrev pub inhabited : State → Bool
inhabited q = not (is_empty q.members)

-- each state once, where it stands first
unfoldable pub distinct : List State → List State
distinct [] = []
distinct (q ∷ qs) = q ∷ filter (λ p. not (same_state q p)) (distinct qs)

-- the states one deeper: "numbered by depth, then lowest parent, then lowest class that leads there from it"
unfoldable pub next_level : Table → List ℕ → List State → List State
next_level t ss qs = distinct (filter inhabited (flat_map (λ q. map (successor t q) ss) qs))

-- the states of one depth and of n more
unfoldable pub levels : Table → List ℕ → ℕ → List State → List State
levels t ss zero qs = qs
levels t ss (suc n) qs = qs ++ levels t ss n (next_level t ss qs)

-- all states by number, "only states reached from" state 0: depths 0 to L
unfoldable pub states : Table → List State
states t = levels t (starts t) (longest t) (initial t ∷ [])

-- the number of the state that a class leads to, of whose characters c is one; 0 for none
unfoldable pub target_of : Table → List State → State → ℕ → ℕ
target_of t qs q c = let s = successor t q c in cond (inhabited s) (or_else 0 (find_from 0 (same_state s) qs)) 0
