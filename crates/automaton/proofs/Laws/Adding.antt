-- Adding states to a list, each where it is not there yet: what is added, that none stands twice, and that a level's successors are the next level.
-- States of different depth differ, so no successor of a level is in the levels up to it.
use mathlib.Core.Bool.{Bool, true, false, ◌&&◌, ◌||◌, not, cond}
use mathlib.Core.List.Memᴰ
use mathlib.Core.List.{List, [], ◌∷◌, ◌++◌, map, append-nil, append_assoc, Memᴰ}
use mathlib.Core.Logic.{⊎_elim}
use Rattle.std.specs.Prelude.{Option, None, Some}
use mathlib.Core.Path.{◌≡◌, refl, sym, ap, subst, ◌∙◌}
use Prim.Native.Nat.{ℕ, zero, suc, ◌+◌, ◌≤◌, ◌<◌}
use native.Mathlib.Decide.{dec_lt}
use native.Mathlib.Nat.{add-zero}
use native.Mathlib.Omega.{arith}
use lib.Dec.{T, T_not, not_T}
use lib.ListN.{length, get_or, drop, length-append, get_or-append}
use lib.Seq.{append_snoc, get_or-append_seam}
use Rattle.lists.specs.Lists.{fold_left, any, Each, filter, find_from, is_some, or_else}
use Rattle.lists.proofs.Laws.Folds.{fold_left_append, flat_map_append}
use Rattle.lists.proofs.Laws.Tests.{either, test_eq, and_right, both, or_left, or_right, of_cond, of_T}
use Rattle.lists.proofs.Laws.Each.{each_append, each_weaken, each_filter, each_map}
use Rattle.lists.proofs.Laws.Members.{mem_get_d}
use Rattle.lists.proofs.Laws.Sets.{filter_filter, filter_same, filter_none, filter_all}
use Rattle.meaning.specs.Table.{Table, longest}
use Rattle.automaton.specs.States.{State, successor, same_state, inhabited, distinct, next_level, levels}
use Rattle.automaton.specs.bridge.Build.{number_in, added, added_from}
use Rattle.automaton.proofs.Laws.Levels.{same_state_lem, state_same, each_distinct, Deepening, Level, last_level, onward, level_next}

-- lists and searches

each_of : {A : Type 0} (P : A → Type 0) → ((x : A) → P x) → (xs : List A) → Each P xs
each_of P f [] = tt
each_of P f (x ∷ xs) = (f x, each_of P f xs)

pub each_member : {A : Type 0} (xs : List A) → Each (λ x. Memᴰ x xs) xs
each_member [] = tt
each_member (x ∷ xs) = (
  Memᴰ.head refl,
  each_weaken (λ y. Memᴰ y xs) (λ y. Memᴰ y (x ∷ xs)) xs (λ y m. Memᴰ.tail m) (each_member xs),
)

pub front_length : {A : Type 0} (xs ys : List A) → ((rest : List A) × (ys ≡ xs ++ rest)) → length xs ≤ length ys
front_length xs ys f = let e : length ys ≡ length xs + length f.0 = ap length f.1 ∙ length-append xs f.0 in omega arith

module _ {A : Type 0} (p : A → Bool) where
  pub some_any : (i : ℕ) (xs : List A) → is_some (find_from i p xs) ≡ any p xs
  some_any i [] = refl
  some_any i (x ∷ xs) =
      either (λ b. is_some {A = ℕ} (elim b [ true ↦ Some i | false ↦ find_from (suc i) p xs ]) ≡ b || any p xs) (p x) (λ _. refl) (λ _. some_any (suc i) xs)

  any_append : (xs ys : List A) → any p (xs ++ ys) ≡ any p xs || any p ys
  any_append [] ys = refl
  any_append (x ∷ xs) ys = either (λ b. b || any p (xs ++ ys) ≡ b || any p xs || any p ys) (p x) (λ _. refl) (λ _. any_append xs ys)

  -- what is found in a front is found in the whole
  find_front : (i n : ℕ) (xs ys : List A) → find_from i p xs ≡ Some n → find_from i p (xs ++ ys) ≡ Some n
  find_front i n [] ys = λ e. cc
  find_front i n (x ∷ xs) ys =
      either
      (λ b. elim b [ true ↦ Some i | false ↦ find_from (suc i) p xs ] ≡ Some n →
      elim b [ true ↦ Some i | false ↦ find_from (suc i) p (xs ++ ys) ] ≡ Some n) (p x)
      (λ _ e. e) (λ _. find_front (suc i) n xs ys)

  -- what is not is looked for behind it
  find_behind : (i : ℕ) (xs ys : List A) → find_from i p xs ≡ None → find_from i p (xs ++ ys) ≡ find_from (i + length xs) p ys
  find_behind i [] ys = λ e. rw add-zero refl
  find_behind i (x ∷ xs) ys =
      either
      (λ b. ◌≡◌ {A = Option ℕ} (elim b [ true ↦ Some i | false ↦ find_from (suc i) p xs ]) None →
      elim b [ true ↦ Some i | false ↦ find_from (suc i) p (xs ++ ys) ] ≡ find_from (i + suc (length xs)) p ys) (p x)
      (λ _ e. cc) (λ _ e. find_behind (suc i) xs ys e ∙ ap (λ j. find_from j p ys) (omega arith))

-- states added one after the other

abbrev pub inside : List State → State → Bool
inside qs q = any (same_state q) qs

abbrev pub added_all : List State → List State → List State
added_all xs qs = fold_left (λ x rs. cond (inhabited x) (added x rs) rs) xs qs

abbrev pub fresh : List State → State → Bool
fresh qs q = not (inside qs q)

same_sym : (x y : State) → same_state x y ≡ same_state y x
same_sym x y =
    test_eq (same_state x y) (same_state y x) (λ e. state_same y x (sym (same_state_lem x y e))) (λ e. state_same x y (sym (same_state_lem y x e)))

not_or : (a b : Bool) → not (a || (b || false)) ≡ not b && not a
not_or true true = refl
not_or true false = refl
not_or false true = refl
not_or false false = refl

-- those that were not there, each once, where it stands first
abbrev pub new_of : List State → List State → List State
new_of xs qs = filter (fresh qs) (distinct (filter inhabited xs))

pub all_new : (xs qs : List State) → added_all xs qs ≡ qs ++ new_of xs qs
unfolding distinct added
all_new [] qs = sym (append-nil qs)
all_new (x ∷ xs) qs =
    either
    (λ b. added_all xs (cond b (added x qs) qs) ≡ qs ++ filter (fresh qs) (distinct (cond b (x ∷ filter inhabited xs) (filter inhabited xs)))) (inhabited x)
    (λ _. subst (λ b. added_all xs (cond b qs (qs ++ x ∷ [])) ≡ qs ++ cond (fresh qs x) (x ∷ rest) rest) (sym (some_any (same_state x) 0 qs))
    (either (λ b. added_all xs (cond b qs (qs ++ x ∷ [])) ≡ qs ++ cond (not b) (x ∷ rest) rest) (inside qs x)
    (λ c. all_new xs qs ∙ ap (λ l. qs ++ l) (sym (there c)))
    (λ _. all_new xs (qs ++ x ∷ []) ∙ append_snoc qs x (filter (fresh (qs ++ x ∷ [])) ones) ∙ ap (λ l. qs ++ x ∷ l) (sym joined))))
    (λ _. all_new xs qs)
  where
    ones : List State
    ones = distinct (filter inhabited xs)

    other : State → Bool
    other y = not (same_state x y)

    rest : List State
    rest = filter (fresh qs) (filter other ones)

    there : T (inside qs x) → rest ≡ filter (fresh qs) ones
    there c =
        filter_filter other (fresh qs) ones
        ∙ filter_same (λ y. other y && fresh qs y) (fresh qs) ones (each_of (λ y. other y && fresh qs y ≡ fresh qs y)
        (λ y. test_eq (other y && fresh qs y) (fresh qs y) (and_right (other y) (fresh qs y))
        (λ n. both (other y) (fresh qs y) (not_T (same_state x y) (λ e. T_not (inside qs y) n (subst (λ z. T (inside qs z)) (same_state_lem x y e) c))) n)) ones)

    joined : rest ≡ filter (fresh (qs ++ x ∷ [])) ones
    joined =
        filter_filter other (fresh qs) ones
        ∙ filter_same (λ y. other y && fresh qs y) (fresh (qs ++ x ∷ [])) ones (each_of (λ y. other y && fresh qs y ≡ fresh (qs ++ x ∷ []) y)
        (λ y. sym (ap not (any_append (same_state y) qs (x ∷ [])) ∙ not_or (inside qs y) (same_state y x) ∙ ap (λ b. not b && fresh qs y) (same_sym y x))) ones)

pub all_append : (xs ys qs : List State) → added_all (xs ++ ys) qs ≡ added_all ys (added_all xs qs)
all_append xs ys qs = fold_left_append (λ x rs. cond (inhabited x) (added x rs) rs) xs ys qs

pub each_new : (P : State → Type 0) (xs qs : List State) → Each P xs → Each P (new_of xs qs)
each_new P xs qs a =
    each_filter P (fresh qs) (distinct (filter inhabited xs)) (each_distinct P (filter inhabited xs) (each_filter P inhabited xs a))

pub mem_inside : (qs : List State) {q : State} → Memᴰ q qs → T (inside qs q)
mem_inside [] m = absurd (Memᴰ.not-nil m)
mem_inside (p ∷ qs) {q} m =
    ⊎_elim (λ e. or_left (same_state q p) (inside qs q) (state_same q p e)) (λ r. or_right (same_state q p) (inside qs q) (mem_inside qs r))
    (Memᴰ.cases_cons m)

-- no state stands twice

abbrev pub Once : List State → Type 0
Once qs = (i j : ℕ) (d : State) → i < j → j < length qs → get_or qs i d ≡ get_or qs j d → ⊥

once_added : (x : State) (qs : List State) → Once qs → Once (added x qs)
unfolding added
once_added x qs o = of_cond Once (is_some (find_from 0 (same_state x) qs)) qs (qs ++ x ∷ []) (λ _. o) (λ n i j d h l e.
    let front : get_or (qs ++ x ∷ []) i d ≡ get_or qs i d = get_or-append qs (x ∷ []) d i (omega (arith, length-append qs (x ∷ []))) in
    elim (dec_lt j (length qs)) [
      | yes p ↦ o i j d h p (sym front ∙ e ∙ get_or-append qs (x ∷ []) d j p)
      | no p ↦
          let z : j ≡ length qs = omega (arith, length-append qs (x ∷ [])) in
          let same : get_or qs i d ≡ x = sym front ∙ e ∙ ap (λ k. get_or (qs ++ x ∷ []) k d) z ∙ get_or-append_seam qs x [] d in
          T_not (inside qs x) (subst (λ b. T (not b)) (some_any (same_state x) 0 qs) n)
          (mem_inside qs (subst (λ q. Memᴰ q qs) same (mem_get_d qs i d (omega arith))))
    ])

pub once_from : (t : Table) (q : State) (cs : List ℕ) (qs : List State) → Once qs → Once (added_from t q cs qs)
unfolding added_from
once_from t q [] qs o = o
once_from t q (c ∷ cs) qs o =
    let x : State = successor t q c in
    once_from t q cs (cond (inhabited x) (added x qs) qs) (of_cond Once (inhabited x) (added x qs) qs (λ _. once_added x qs o) (λ _. o))

-- levels

-- a state that is deeper than all of a list is not in it
outside : (d : ℕ) (x : State) (qs : List State) → d < x.depth → Each (λ q. q.depth ≤ d) qs → T (fresh qs x)
outside d x [] h a = tt
outside d x (q ∷ qs) h a =
    either (λ b. T (not (b || inside qs x))) (same_state x q)
    (λ e. let z : x.depth ≡ q.depth = ap (λ (p : State). p.depth) (same_state_lem x q e) in let y : q.depth ≤ d = a.0 in absurd (omega arith))
    (λ _. outside d x qs h a.1)

pub from_all : (t : Table) (q : State) (cs : List ℕ) (qs : List State) → added_from t q cs qs ≡ added_all (map (successor t q) cs) qs
unfolding added_from
from_all t q [] qs = refl
from_all t q (c ∷ cs) qs = from_all t q cs (cond (inhabited (successor t q c)) (added (successor t q c) qs) qs)

module _ (t : Table) (ss : List ℕ) where
  pub each_onward : (P : State → Type 0) (qs : List State) → Each (λ q. (c : ℕ) → P (successor t q c)) qs → Each P (onward t ss qs)
  each_onward P [] a = tt
  each_onward P (q ∷ qs) a =
      each_append P (map (successor t q) ss) (onward t ss qs) (each_map P (successor t q) ss a.0) (each_onward P qs a.1)

  shallow : (d : ℕ) (qs : List State) → Each (Level t d) qs → Each (λ q. q.depth ≤ d) qs
  shallow d qs a = each_weaken (Level t d) (λ q. q.depth ≤ d) qs (λ q l. let z : q.depth ≡ d = l.depth in omega arith) a

  level_added : (d : ℕ) (front qs : List State) → Each (λ q. q.depth ≤ d) front → Each (Level t d) qs →
      added_all (onward t ss qs) (front ++ qs) ≡ front ++ qs ++ next_level t ss qs
  unfolding next_level
  level_added d front qs f a =
      all_new (onward t ss qs) (front ++ qs)
      ∙ ap (λ l. front ++ qs ++ l) (filter_all (fresh (front ++ qs)) (next_level t ss qs)
      (each_weaken (Level t (suc d)) (λ x. T (fresh (front ++ qs) x)) (next_level t ss qs)
      (λ x l. outside d x (front ++ qs) (let z : x.depth ≡ suc d = l.depth in omega arith)
      (each_append (λ q. q.depth ≤ d) front qs f (shallow d qs a))) (level_next t ss d qs a)))

  pub levels_added : (n d : ℕ) (front qs : List State) → Each (λ q. q.depth ≤ d) front → Each (Level t d) qs → d + n ≡ longest t →
      added_all (onward t ss (levels t ss n qs)) (front ++ qs) ≡ front ++ levels t ss n qs
  unfolding levels distinct
  levels_added zero d front qs f a e =
      let z : d ≡ longest t = omega arith in
      all_new (onward t ss qs) (front ++ qs)
      ∙ ap (λ l. front ++ qs ++ filter (fresh (front ++ qs)) (distinct l)) (filter_none inhabited (onward t ss qs)
      (each_onward (λ x. T (not (inhabited x))) qs
      (each_weaken (Level t d) (λ q. (c : ℕ) → T (not (inhabited (successor t q c)))) qs
      (λ q l c. not_T (inhabited (successor t q c)) (last_level t q c (subst (λ i. Level t i q) z l))) a)))
      ∙ append-nil (front ++ qs)
  levels_added (suc n) d front qs f a e =
      let next : List State = next_level t ss qs in
      let more : List State = levels t ss n next in
      ap (λ l. added_all l (front ++ qs)) (flat_map_append (λ q. map (successor t q) ss) qs more)
      ∙ all_append (onward t ss qs) (onward t ss more) (front ++ qs)
      ∙ ap (added_all (onward t ss more)) (level_added d front qs f a)
      ∙ levels_added n (suc d) (front ++ qs) next
      (each_weaken (λ q. q.depth ≤ d) (λ q. q.depth ≤ suc d) (front ++ qs) (λ q h. omega arith)
      (each_append (λ q. q.depth ≤ d) front qs f (shallow d qs a)))
      (level_next t ss d qs a) (omega arith)
      ∙ append_assoc front qs more

pub deepening_from : (qs : List State) (s : ℕ) (d : State) → Deepening qs → s < length qs → Each (λ q. (get_or qs s d).depth ≤ q.depth) (drop s qs)
deepening_from [] s d o h = absurd (omega arith)
deepening_from (q ∷ qs) zero d o h = (omega arith, o.0)
deepening_from (q ∷ qs) (suc s) d o h = deepening_from qs s d o.1 (omega arith)

-- a state's number when it has been added is its number in every longer list
pub number_added : (q : State) (qs rest : List State) → find_from 0 (same_state q) (added q qs ++ rest) ≡ Some (number_in q qs)
unfolding added number_in
number_added q qs rest = at (find_from 0 (same_state q) qs) refl
  where
    at : (o : Option ℕ) → find_from 0 (same_state q) qs ≡ o → find_from 0 (same_state q) (cond (is_some o) qs (qs ++ q ∷ []) ++ rest) ≡ Some (or_else (length qs) o)
    at (Some n) e = find_front (same_state q) 0 n qs rest e
    at None e =
        ap (find_from 0 (same_state q)) (append_snoc qs q rest)
        ∙ find_behind (same_state q) 0 qs (q ∷ rest) e
        ∙ ap (λ b. elim b [ true ↦ Some (0 + length qs) | false ↦ find_from (suc (0 + length qs)) (same_state q) rest ]) (of_T (same_state q q) (state_same q q refl))
        ∙ ap {B = Option ℕ} Some (omega arith)
