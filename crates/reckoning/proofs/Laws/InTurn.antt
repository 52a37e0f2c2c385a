-- Calls in turn whose contracts tell their outcomes have, call by call, the outcomes that the outcome function gives: so what holds of these
-- holds of what every such caller sees. Of calls of any kind.
use mathlib.Core.List.{List, [], ◌∷◌, ◌++◌, map}
use mathlib.Core.Path.{◌≡◌, refl, sym, ap, subst, subst₂, ◌∙◌}
use Rattle.reckoning.specs.InTurn.{Caller, InTurn, EveryList, EveryNext}

module _ {State Call Outcome : Type 0} (called : State → Call → Outcome) (later : Outcome → State) where
  -- the outcomes of calls, each from the state that the last one left
  unfoldable pub outcomes_of : State → List Call → List Outcome
  outcomes_of s [] = []
  outcomes_of s (c ∷ cs) = called s c ∷ outcomes_of (later (called s c)) cs

  -- and the state that they leave
  unfoldable pub state_after : State → List Call → State
  state_after s [] = s
  state_after s (c ∷ cs) = state_after (later (called s c)) cs

  -- what is asked of a caller: where a state was held, a call that met its contract had its outcome and left that outcome's state
  pub record Tells (k : Caller State Call Outcome) : Type 0 where
    pub came : (held : k.Held) (s : State) (m : k.Made) → k.Is held s → k.Meets held m → k.outcome m ≡ called s (k.call m)
    pub leaves : (held : k.Held) (s : State) (m : k.Made) → k.Is held s → k.Meets held m → k.Is (k.left m) (later (k.outcome m))

  module _ (k : Caller State Call Outcome) (tells : Tells k) where
    all_came : (ms : List k.Made) (held : k.Held) (s : State) → k.Is held s → InTurn k held ms →
        map k.outcome ms ≡ outcomes_of s (map k.call ms)
    unfolding InTurn outcomes_of
    all_came [] held s is made = refl
    all_came (m ∷ ms) held s is made =
        let o = tells.came held s m is made.0 in
        let rest = all_came ms (k.left m) (later (k.outcome m)) (tells.leaves held s m is made.0) made.1 in
        (λ i. o i ∷ rest i) ∙ ap (λ x. called s (k.call m) ∷ outcomes_of (later x) (map k.call ms)) o

    -- THE LAW OF CALLERS
    pub every_list : (s : State) (P : List Call → List Outcome → Type 0) → ((cs : List Call) → P cs (outcomes_of s cs)) → EveryList k s P
    unfolding EveryList
    every_list s P holds held is ms made = subst (P (map k.call ms)) (sym (all_came ms held s is made)) (holds (map k.call ms))

    next_came : (ms : List k.Made) (m : k.Made) (held : k.Held) (s : State) → k.Is held s → InTurn k held (ms ++ (m ∷ [])) →
        InTurn k held ms × (k.outcome m ≡ called (state_after s (map k.call ms)) (k.call m))
    unfolding InTurn state_after
    next_came [] m held s is made = (tt, tells.came held s m is made.0)
    next_came (n ∷ ms) m held s is made =
        let o = tells.came held s n is made.0 in
        let rest = next_came ms m (k.left n) (later (k.outcome n)) (tells.leaves held s n is made.0) made.1 in
        ((made.0, rest.0), rest.1 ∙ ap (λ x. called (state_after (later x) (map k.call ms)) (k.call m)) o)

    pub every_next : (s : State) (P : List Call → List Outcome → Call → Outcome → Type 0) →
        ((cs : List Call) (c : Call) → P cs (outcomes_of s cs) c (called (state_after s cs) c)) → EveryNext k s P
    unfolding EveryNext
    every_next s P holds held is ms m made =
        let cs = map k.call ms in
        let n = next_came ms m held s is made in
        subst₂ (λ os o. P cs os (k.call m) o) (sym (all_came ms held s is n.0)) (sym n.1) (holds cs (k.call m))
