-- The list of a table's states: what each is, in what order they stand, and that it holds every state that a class leads to.
-- By recursion on the levels: all states of a level have its depth, and at the greatest depth no rule goes on.
use mathlib.Core.Bool.{Bool, true, false, ◌&&◌, not, cond}
use mathlib.Core.List.Memᴰ
use mathlib.Core.List.{List, [], ◌∷◌, ◌++◌, map, append-nil, Memᴰ}
use mathlib.Core.Logic.{⊎_elim, ◌≢◌, ◌⊎◌, inl, inr}
use Rattle.std.specs.Prelude.{Option, None, Some}
use mathlib.Core.Path.{◌≡◌, refl, sym, ap, subst, ◌∙◌}
use Prim.Native.Nat.{ℕ, zero, suc, ◌+◌, ◌≤◌, ◌<◌}
use native.Mathlib.Decide.{ℕ_discrete, dec_lt}
use native.Mathlib.Omega.{arith}
use lib.Dec.{T, T_not, not_T, eqb, ltb, eqb→eq, eqb_refl, ltb→lt}
use lib.ListN.{length, get_or}
use Rattle.lists.specs.Lists.{Each, filter, flat_map, find_from, same_list, is_empty, or_else}
use Rattle.lists.proofs.Laws.Tests.{either, split, of_cond, of_not, and_left, and_right, both, ne→neqb}
use Rattle.lists.proofs.Laws.Each.{each_append, each_weaken, each_at, each_get_d, each_map, each_filter}
use Rattle.lists.proofs.Laws.Members.{mem_filter, mem_map, mem_flat_map, same_list_lem, list_same}
use Rattle.lists.proofs.Laws.Sets.{filter_none, each_up_to}
use Rattle.meaning.specs.Table.{Table, in_ranges, rule_at, longest}
use Rattle.meaning.proofs.Laws.Groups.{longest_le}
use Rattle.automaton.specs.Classes.{starts}
use Rattle.automaton.specs.States.{State, initial, accept_of, longer_rules, successor, same_state, inhabited, distinct, next_level, levels, states, target_of}
use Rattle.automaton.proofs.Laws.Good.{state_at}

-- what the numbering gives of a table's states; c is any character
pub record Numbered (t : Table) : Type 0 where
  pub some_state : 0 < length (states t)
  pub first : state_at t 0 ≡ initial t
  pub depths : (s : ℕ) → s < length (states t) → (state_at t s).depth ≤ longest t
  pub deep : (s : ℕ) → s < length (states t) → 0 < s → 1 ≤ (state_at t s).depth
  pub members : (s : ℕ) → s < length (states t) → Each (λ r. r < length t.rules) (state_at t s).members
  pub below : (s c : ℕ) → target_of t (states t) (state_at t s) c < length (states t)
  pub deeper : (s c : ℕ) → target_of t (states t) (state_at t s) c ≢ 0 →
      (state_at t (target_of t (states t) (state_at t s) c)).depth ≡ suc (state_at t s).depth
  pub later : (s c : ℕ) → s < length (states t) → target_of t (states t) (state_at t s) c ≢ 0 → s < target_of t (states t) (state_at t s) c
  pub no_way_on : (s c : ℕ) → accept_of t (state_at t s) ≢ 0 → target_of t (states t) (state_at t s) c ≡ 0

-- equal states, and where a state stands

pub same_state_lem : (p q : State) → T (same_state p q) → p ≡ q
unfolding same_state
same_state_lem p q t =
    let d : p.depth ≡ q.depth = eqb→eq p.depth q.depth (and_left (eqb p.depth q.depth) (same_list p.members q.members) t) in
    let m : p.members ≡ q.members = same_list_lem p.members q.members (and_right (eqb p.depth q.depth) (same_list p.members q.members) t) in
    λ i. record { depth = d i; members = m i }

pub state_same : (p q : State) → p ≡ q → T (same_state p q)
unfolding same_state
state_same p q e =
    subst (λ q. T (eqb p.depth q.depth && same_list p.members q.members)) e
    (both (eqb p.depth p.depth) (same_list p.members p.members) (eqb_refl p.depth) (list_same p.members))

mem_distinct : (qs : List State) {q : State} → Memᴰ q qs → Memᴰ q (distinct qs)
unfolding distinct
mem_distinct [] m = absurd (Memᴰ.not-nil m)
mem_distinct (p ∷ qs) {q} m =
    ⊎_elim (λ e. Memᴰ.head e)
    (λ r. split (same_state p q) (λ t. Memᴰ.head (sym (same_state_lem p q t)))
    (λ n. Memᴰ.tail (mem_filter (λ x. not (same_state p x)) (distinct qs) n (mem_distinct qs r))))
    (Memᴰ.cases_cons m)

pub each_distinct : (P : State → Type 0) (qs : List State) → Each P qs → Each P (distinct qs)
unfolding distinct
each_distinct P [] a = tt
each_distinct P (q ∷ qs) a = (a.0, each_filter P (λ p. not (same_state q p)) (distinct qs) (each_distinct P qs a.1))

-- what a search counted from i says of x: it is at the place found, or nowhere
abbrev Found : ℕ → State → List State → State → Option ℕ → Type 0
Found i x qs d None = Memᴰ x qs → ⊥
Found i x qs d (Some k) = (n : ℕ) × (k ≡ i + n) × (n < length qs) × (get_or qs n d ≡ x)

found : (i : ℕ) (x : State) (qs : List State) (d : State) → Found i x qs d (find_from i (same_state x) qs)
found i x [] d = λ m. Memᴰ.not-nil m
found i x (q ∷ qs) d =
    either (λ b. Found i x (q ∷ qs) d (elim b [ true ↦ Some i | false ↦ find_from (suc i) (same_state x) qs ])) (same_state x q)
    (λ t. (0, omega arith, omega arith, sym (same_state_lem x q t)))
    (λ n. later n (find_from (suc i) (same_state x) qs) (found (suc i) x qs d))
  where
    later : T (not (same_state x q)) → (o : Option ℕ) → Found (suc i) x qs d o → Found i x (q ∷ qs) d o
    later n None f = λ m. ⊎_elim (λ e. T_not (same_state x q) n (state_same x q e)) f (Memᴰ.cases_cons m)
    later n (Some k) f = (suc f.0, let z : k ≡ suc i + f.0 = f.1 in omega arith, let z : f.0 < length qs = f.2 in omega arith, f.3)

-- targets

module _ (t : Table) (qs : List State) (q : State) (c : ℕ) where
  looked_up : (d : State) (o : Option ℕ) → Found 0 (successor t q c) qs d o → (or_else 0 o ≢ 0) ⊎ Memᴰ (successor t q c) qs →
      (or_else 0 o < length qs) × (get_or qs (or_else 0 o) d ≡ successor t q c)
  looked_up d None f (inl h) = absurd (h refl)
  looked_up d None f (inr m) = absurd (f m)
  looked_up d (Some k) f h = let e : k ≡ f.0 = let z : k ≡ 0 + f.0 = f.1 in omega arith in rw e (f.2, f.3)

  -- a target is below the number of states, and is the successor
  pub target_found : (d : State) → target_of t qs q c ≢ 0 → (target_of t qs q c < length qs) × (get_or qs (target_of t qs q c) d ≡ successor t q c)
  unfolding target_of
  target_found d =
      of_cond (λ k. k ≢ 0 → (k < length qs) × (get_or qs k d ≡ successor t q c)) (inhabited (successor t q c))
      (or_else 0 (find_from 0 (same_state (successor t q c)) qs)) 0
      (λ _ h. looked_up d (find_from 0 (same_state (successor t q c)) qs) (found 0 (successor t q c) qs d) (inl h)) (λ _ h. absurd (h refl))

  -- a successor that is one of the states is the target
  pub target_there : (d : State) → T (inhabited (successor t q c)) → Memᴰ (successor t q c) qs → get_or qs (target_of t qs q c) d ≡ successor t q c
  unfolding target_of
  target_there d h m =
      of_cond (λ k. get_or qs k d ≡ successor t q c) (inhabited (successor t q c))
      (or_else 0 (find_from 0 (same_state (successor t q c)) qs)) 0
      (λ _. (looked_up d (find_from 0 (same_state (successor t q c)) qs) (found 0 (successor t q c) qs d) (inr m)).1)
      (λ n. absurd (T_not (inhabited (successor t q c)) n h))

  -- a rule accepted at once leaves no target
  pub target_none : accept_of t q ≢ 0 → target_of t qs q c ≡ 0
  unfolding target_of successor
  target_none h =
      ap
      (λ b.
      let s : State = record { depth = suc q.depth; members = cond b (longer_rules t q c) [] } in
      cond (inhabited s) (or_else 0 (find_from 0 (same_state s) qs)) 0)
      (of_not (eqb (accept_of t q) 0) (ne→neqb (accept_of t q) 0 h))

-- levels

-- each state is at least as deep as those before it
abbrev pub Deepening : List State → Type 0
Deepening [] = Unit {0}
Deepening (q ∷ qs) = Each (λ p. q.depth ≤ p.depth) qs × Deepening qs

deepening_at : (qs : List State) (d : State) (i j : ℕ) → Deepening qs → i ≤ j → j < length qs → (get_or qs i d).depth ≤ (get_or qs j d).depth
deepening_at [] d i j o h k = absurd (omega arith)
deepening_at (q ∷ qs) d zero zero o h k = omega arith
deepening_at (q ∷ qs) d zero (suc j) o h k = each_get_d (λ p. q.depth ≤ p.depth) qs j d o.0 (omega arith)
deepening_at (q ∷ qs) d (suc i) zero o h k = absurd (omega arith)
deepening_at (q ∷ qs) d (suc i) (suc j) o h k = deepening_at qs d i j o.1 (omega arith) (omega arith)

-- r is the number of a rule
abbrev pub IsRule : Table → ℕ → Type 0
IsRule t r = r < length t.rules

-- rule r is longer than the state is deep, and takes the character next
abbrev pub goes_on_lem : Table → State → ℕ → ℕ → Bool
goes_on_lem t q c r = ltb q.depth (rule_at t r).size && in_ranges (get_or (rule_at t r).ranges q.depth []) c

module _ (t : Table) where
  -- a state of depth d, over rules of the table
  pub record Level (d : ℕ) (q : State) : Type 0 where
    pub depth : q.depth ≡ d
    pub members : Each (IsRule t) q.members

  -- of a depth from d to d + n
  record Between (d n : ℕ) (q : State) : Type 0 where
    low : d ≤ q.depth
    high : q.depth ≤ d + n
    members : Each (IsRule t) q.members

  level_between : (d n : ℕ) (qs : List State) → Each (Level d) qs → Each (Between d n) qs
  level_between d n qs a =
      each_weaken (Level d) (Between d n) qs
      (λ q l. let z : q.depth ≡ d = l.depth in record { low = omega arith; high = omega arith; members = l.members }) a

  between_wider : (d n : ℕ) (qs : List State) → Each (Between (suc d) n) qs → Each (Between d (suc n)) qs
  between_wider d n qs a =
      each_weaken (Between (suc d) n) (Between d (suc n)) qs
      (λ q b. record {
        low = let z : suc d ≤ q.depth = b.low in omega arith;
        high = let z : q.depth ≤ suc d + n = b.high in omega arith;
        members = b.members;
      }) a

  level_then : (d n : ℕ) (qs ps : List State) → Each (Level d) qs → Each (Between d n) ps → Deepening ps → Deepening (qs ++ ps)
  level_then d n [] ps a b o = o
  level_then d n (q ∷ qs) ps a b o = (
    each_weaken (Between d n) (λ p. q.depth ≤ p.depth) (qs ++ ps)
        (λ p h. let z : q.depth ≡ d = a.0.depth in let y : d ≤ p.depth = h.low in omega arith)
        (each_append (Between d n) qs ps (level_between d n qs a.1) b),
    level_then d n qs ps a.1 b o,
  )

  pub level_initial : Level 0 (initial t)
  unfolding initial
  level_initial = record { depth = refl; members = each_up_to (length t.rules) }

  level_successor : (d : ℕ) (q : State) (c : ℕ) → Level d q → Level (suc d) (successor t q c)
  unfolding successor
  level_successor d q c l = record {
    depth = ap suc l.depth;
    members = of_cond (Each (IsRule t)) (eqb (accept_of t q) 0) (longer_rules t q c) []
        (λ _. each_filter (IsRule t) (goes_on_lem t q c) q.members l.members)
        (λ _. tt);
  }

  -- at the greatest depth no rule goes on
  pub last_level : (q : State) (c : ℕ) → Level (longest t) q → T (inhabited (successor t q c)) → ⊥
  unfolding successor
  last_level q c l =
      of_cond (λ m. T (not (is_empty m)) → ⊥) (eqb (accept_of t q) 0) (longer_rules t q c) []
      (λ _. subst (λ m. T (not (is_empty m))) (filter_none (goes_on_lem t q c) q.members
      (each_weaken (IsRule t) (λ r. T (not (goes_on_lem t q c r))) q.members short l.members)))
      (λ _ h. h)
    where
      short : (r : ℕ) → IsRule t r → T (not (goes_on_lem t q c r))
      short r h = not_T (goes_on_lem t q c r) (λ v.
          let i : q.depth < (rule_at t r).size =
          ltb→lt q.depth (rule_at t r).size (and_left (ltb q.depth (rule_at t r).size) (in_ranges (get_or (rule_at t r).ranges q.depth []) c) v) in
          let j : (rule_at t r).size ≤ longest t = longest_le t r h in
          let k : q.depth ≡ longest t = l.depth in
          omega arith)

  module _ (ss : List ℕ) where
    -- the successors of the states of a level
    abbrev pub onward : List State → List State
    onward qs = flat_map (λ q. map (successor t q) ss) qs

    pub level_next : (d : ℕ) (qs : List State) → Each (Level d) qs → Each (Level (suc d)) (next_level t ss qs)
    unfolding next_level
    level_next d qs a = each_distinct (Level (suc d)) (filter inhabited (onward qs)) (each_filter (Level (suc d)) inhabited (onward qs) (next qs a))
      where
        next : (qs : List State) → Each (Level d) qs → Each (Level (suc d)) (onward qs)
        next [] a = tt
        next (q ∷ qs) a =
            each_append (Level (suc d)) (map (successor t q) ss) (onward qs)
            (each_map (Level (suc d)) (successor t q) ss (λ c. level_successor d q c a.0)) (next qs a.1)

    levels_between : (n d : ℕ) (qs : List State) → Each (Level d) qs → Each (Between d n) (levels t ss n qs)
    unfolding levels
    levels_between zero d qs a = level_between d 0 qs a
    levels_between (suc n) d qs a =
        each_append (Between d (suc n)) qs (levels t ss n (next_level t ss qs)) (level_between d (suc n) qs a)
        (between_wider d n (levels t ss n (next_level t ss qs)) (levels_between n (suc d) (next_level t ss qs) (level_next d qs a)))

    levels_deepen : (n d : ℕ) (qs : List State) → Each (Level d) qs → Deepening (levels t ss n qs)
    unfolding levels
    levels_deepen zero d qs a = subst Deepening (append-nil qs) (level_then d 0 qs [] a tt tt)
    levels_deepen (suc n) d qs a =
        level_then d (suc n) qs (levels t ss n (next_level t ss qs)) a
        (between_wider d n (levels t ss n (next_level t ss qs)) (levels_between n (suc d) (next_level t ss qs) (level_next d qs a)))
        (levels_deepen n (suc d) (next_level t ss qs) (level_next d qs a))

    levels_front : (n : ℕ) (qs : List State) {q : State} → Memᴰ q qs → Memᴰ q (levels t ss n qs)
    unfolding levels
    levels_front zero qs m = m
    levels_front (suc n) qs m = Memᴰ.append_left (levels t ss n (next_level t ss qs)) m

    levels_closed : (n d : ℕ) (qs : List State) → Each (Level d) qs → d + n ≡ longest t → {q : State} (c : ℕ) → Memᴰ c ss →
        T (inhabited (successor t q c)) → Memᴰ q (levels t ss n qs) → Memᴰ (successor t q c) (levels t ss n qs)
    unfolding levels next_level
    levels_closed zero d qs a e {q} c k h m =
        let z : d ≡ longest t = omega arith in
        absurd (last_level q c (subst (λ i. Level i q) z (each_at (Level d) a m)) h)
    levels_closed (suc n) d qs a e {q} c k h m =
        Memᴰ.append_right qs
        (⊎_elim
        (λ i. levels_front n (next_level t ss qs)
        (mem_distinct (filter inhabited (onward qs))
        (mem_filter inhabited (onward qs) h (mem_flat_map (λ p. map (successor t p) ss) qs i (mem_map (successor t q) ss k)))))
        (λ i. levels_closed n (suc d) (next_level t ss qs) (level_next d qs a) (omega arith) c k h i)
        (Memᴰ.append_cases qs m))

    levels_first : (n : ℕ) (q d : State) → (0 < length (levels t ss n (q ∷ []))) × (get_or (levels t ss n (q ∷ [])) 0 d ≡ q)
    unfolding levels
    levels_first zero q d = (omega arith, refl)
    levels_first (suc n) q d = (omega arith, refl)

    levels_deep : (n : ℕ) (q d : State) (s : ℕ) → Level 0 q → s < length (levels t ss n (q ∷ [])) → 0 < s → 1 ≤ (get_or (levels t ss n (q ∷ [])) s d).depth
    unfolding levels
    levels_deep n q d zero l h k = absurd (omega arith)
    levels_deep zero q d (suc s) l h k = absurd (omega arith)
    levels_deep (suc n) q d (suc s) l h k =
        (each_get_d (Between 1 n) (levels t ss n (next_level t ss (q ∷ []))) s d
        (levels_between n 1 (next_level t ss (q ∷ [])) (level_next 0 (q ∷ []) (l, tt))) (omega arith)).low

  -- all states

  states_between : Each (Between 0 (longest t)) (states t)
  unfolding states
  states_between = levels_between (starts t) (longest t) 0 (initial t ∷ []) (level_initial, tt)

  pub states_closed : {q : State} (c : ℕ) → Memᴰ c (starts t) → T (inhabited (successor t q c)) → Memᴰ q (states t) →
      Memᴰ (successor t q c) (states t)
  unfolding states
  states_closed c k h m = levels_closed (starts t) (longest t) 0 (initial t ∷ []) (level_initial, tt) (omega arith) c k h m

  states_first : (0 < length (states t)) × (state_at t 0 ≡ initial t)
  unfolding states
  states_first = levels_first (starts t) (longest t) (initial t) (initial t)

  pub states_deepen : Deepening (states t)
  unfolding states
  states_deepen = levels_deepen (starts t) (longest t) 0 (initial t ∷ []) (level_initial, tt)

  states_deep : (s : ℕ) → s < length (states t) → 0 < s → 1 ≤ (state_at t s).depth
  unfolding states
  states_deep s h k = levels_deep (starts t) (longest t) (initial t) (initial t) s level_initial h k

  pub successor_depth : (q : State) (c : ℕ) → (successor t q c).depth ≡ suc q.depth
  unfolding successor
  successor_depth q c = refl

  pub numbered : Numbered t
  numbered = record {
    some_state = states_first.0;
    first = states_first.1;
    depths = λ s h. let z : (state_at t s).depth ≤ 0 + longest t = (between s h).high in omega arith;
    deep = states_deep;
    members = λ s h. (between s h).members;
    below = λ s c. elim (ℕ_discrete (target s c) 0) [ yes e ↦ rw e states_first.0 | no n ↦ (target_found t (states t) (state_at t s) c (initial t) n).0 ];
    deeper = deeper;
    later = λ s c h n. elim (dec_lt s (target s c)) [
      | yes p ↦ p
      | no p ↦
          let y : (state_at t (target s c)).depth ≡ suc (state_at t s).depth = deeper s c n in
          let z : (state_at t (target s c)).depth ≤ (state_at t s).depth = deepening_at (states t) (initial t) (target s c) s states_deepen (omega arith) h in
          absurd (omega arith)
    ];
    no_way_on = λ s c h. target_none t (states t) (state_at t s) c h;
  }
    where
      target : ℕ → ℕ → ℕ
      target s c = target_of t (states t) (state_at t s) c

      between : (s : ℕ) → s < length (states t) → Between 0 (longest t) (state_at t s)
      between s h = each_get_d (Between 0 (longest t)) (states t) s (initial t) states_between h

      deeper : (s c : ℕ) → target s c ≢ 0 → (state_at t (target s c)).depth ≡ suc (state_at t s).depth
      deeper s c n = ap (λ (q : State). q.depth) (target_found t (states t) (state_at t s) c (initial t) n).1 ∙ successor_depth (state_at t s) c
