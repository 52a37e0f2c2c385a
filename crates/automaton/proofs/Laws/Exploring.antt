-- States added to one list as they are met stand there in the order of their numbers, and what is noted on the way is final.
-- Each list on the way is a front of the states; what is still to be added is deeper than the state at hand.
use mathlib.Core.Bool.{true, false, not, cond}
use mathlib.Core.List.{List, [], ◌∷◌, ◌++◌, map, append-nil, append_assoc, Memᴰ}
use Rattle.std.specs.Prelude.{Option, None, Some}
use mathlib.Core.Path.{◌≡◌, refl, sym, ap, subst, ◌∙◌}
use Prim.Native.Nat.{ℕ, zero, suc, ◌+◌, ◌-◌, ◌≤◌, ◌<◌}
use native.Mathlib.Decide.{dec_lt}
use native.Mathlib.Omega.{arith}
use lib.Dec.{T}
use lib.ListN.{length, get_or, take, drop, length-append, take-append-drop, get_or-append}
use lib.Seq.{take-suc, take-length, drop-cons, drop-length, get_or-append-add}
use Rattle.lists.specs.Lists.{Each, find_from, is_some, or_else}
use Rattle.lists.proofs.Laws.Folds.{fold_left_append}
use Rattle.lists.proofs.Laws.Tests.{either, of_cond, of_T, of_not}
use Rattle.lists.proofs.Laws.Each.{each_front, each_weaken, each_get_d, each_anywhere}
use Rattle.lists.proofs.Laws.Members.{mem_get_d}
use Rattle.meaning.specs.Table.{Table, longest}
use Rattle.automaton.specs.Classes.{starts}
use Rattle.automaton.specs.States.{State, initial, successor, same_state, inhabited, states, target_of}
use Rattle.automaton.specs.bridge.Build.{number_in, added, added_from}
use Rattle.automaton.specs.bridge.Noted.{done_at, reached_at}
use Rattle.automaton.proofs.Laws.Good.{state_at}
use Rattle.automaton.proofs.Laws.Levels.{level_initial, onward, states_closed, states_deepen, successor_depth, numbered}
use Rattle.automaton.proofs.Laws.Adding.{each_member, front_length, some_any, inside, added_all, new_of, all_new, all_append, each_new, mem_inside, Once, once_from, from_all, each_onward, levels_added, deepening_from, number_added}

-- the state met next, by class start number k from state s
abbrev pub met_at : Table → ℕ → ℕ → State
met_at t s k = successor t (get_or (reached_at t s k) s (initial t)) (get_or (starts t) k 0)

-- the target of class number k of state s
abbrev pub target_at : Table → ℕ → ℕ → ℕ
target_at t s k = target_of t (states t) (get_or (states t) s (initial t)) (get_or (starts t) k 0)

-- the states before number s done

module _ (t : Table) where
  from_append : (q : State) (xs ys : List ℕ) (qs : List State) → added_from t q (xs ++ ys) qs ≡ added_from t q ys (added_from t q xs qs)
  unfolding added_from
  from_append q xs ys qs = fold_left_append (λ c rs. cond (inhabited (successor t q c)) (added (successor t q c) rs) rs) xs ys qs

  from_new : (q : State) (cs : List ℕ) (qs : List State) → added_from t q cs qs ≡ qs ++ new_of (map (successor t q) cs) qs
  from_new q cs qs = from_all t q cs qs ∙ all_new (map (successor t q) cs) qs

  -- the successors of state s and of those after it
  abbrev ahead : ℕ → List State
  ahead s = onward t (starts t) (drop s (states t))

  done_rest : (s : ℕ) → s ≤ length (states t) → added_all (ahead s) (done_at t s) ≡ states t
  unfolding done_at states
  done_rest zero h = levels_added t (starts t) (longest t) 0 [] (initial t ∷ []) tt (level_initial t, tt) (omega arith)
  done_rest (suc s) h =
      let q : State = state_at t s in
      sym (ap (λ l. added_all (onward t (starts t) l) (done_at t s)) (drop-cons (states t) s (initial t) h)
      ∙ all_append (map (successor t q) (starts t)) (ahead (suc s)) (done_at t s)
      ∙ ap (added_all (ahead (suc s))) (sym (from_all t q (starts t) (done_at t s))))
      ∙ done_rest s (omega arith)

  done_front : (s : ℕ) → s ≤ length (states t) → states t ≡ done_at t s ++ new_of (ahead s) (done_at t s)
  done_front s h = sym (done_rest s h) ∙ all_new (ahead s) (done_at t s)

  -- no state is there twice

  done_once : (s : ℕ) → Once (done_at t s)
  unfolding done_at
  done_once zero = λ i j d h l e. omega arith
  done_once (suc s) = once_from t (state_at t s) (starts t) (done_at t s) (done_once s)

  pub reached_once : (s k : ℕ) → Once (reached_at t s k)
  unfolding reached_at
  reached_once s k = once_from t (state_at t s) (take k (starts t)) (done_at t s) (done_once s)

  -- what is still to be added is deeper than state s, so state s is there
  done_long : (s : ℕ) → s < length (states t) → s < length (done_at t s)
  done_long s h = elim (dec_lt s (length (done_at t s))) [ yes p ↦ p | no p ↦ absurd (late (s - length (done_at t s)) (omega arith)) ]
    where
      rest : List State
      rest = new_of (ahead s) (done_at t s)

      Deeper : State → Type 0
      Deeper x = (state_at t s).depth < x.depth

      deeper : Each Deeper rest
      deeper =
          each_new Deeper (ahead s) (done_at t s) (each_onward t (starts t) Deeper (drop s (states t))
          (each_weaken (λ q. (state_at t s).depth ≤ q.depth) (λ q. (c : ℕ) → Deeper (successor t q c)) (drop s (states t))
          (λ q k c. let z : (successor t q c).depth ≡ suc q.depth = successor_depth t q c in omega arith)
          (deepening_from (states t) s (initial t) (states_deepen t) h)))

      late : (j : ℕ) → length (done_at t s) + j ≡ s → ⊥
      late j e =
          let f : states t ≡ done_at t s ++ rest = done_front s (omega arith) in
          let l : length (states t) ≡ length (done_at t s) + length rest = ap length f ∙ length-append (done_at t s) rest in
          let g : state_at t s ≡ get_or rest j (initial t) =
          ap (λ l. get_or l s (initial t)) f ∙ ap (λ i. get_or (done_at t s ++ rest) i (initial t)) (sym e) ∙ get_or-append-add (done_at t s) rest j (initial t) in
          let y : (state_at t s).depth ≡ (get_or rest j (initial t)).depth = ap (λ (q : State). q.depth) g in
          let z : (state_at t s).depth < (get_or rest j (initial t)).depth = each_get_d Deeper rest j (initial t) deeper (omega arith) in
          omega arith

  -- the lists on the way

  pub reached_start : reached_at t 0 0 ≡ initial t ∷ []
  unfolding reached_at done_at added_from
  reached_start = refl

  pub reached_row : (s : ℕ) → reached_at t (suc s) 0 ≡ reached_at t s (length (starts t))
  unfolding reached_at done_at added_from
  reached_row s = ap (λ cs. added_from t (state_at t s) cs (done_at t s)) (sym (take-length (starts t)))

  done_end : done_at t (length (states t)) ≡ states t
  done_end =
      ap (λ l. added_all (onward t (starts t) l) (done_at t (length (states t)))) (sym (drop-length (states t))) ∙ done_rest (length (states t)) (omega arith)

  pub reached_end : reached_at t (length (states t)) 0 ≡ states t
  unfolding reached_at added_from
  reached_end = done_end

  -- state s is one of the states, or is state 0 where there is no such number, so its successors are there in the end
  end_stays : (s : ℕ) (cs : List ℕ) → Each (λ c. Memᴰ c (starts t)) cs → added_from t (state_at t s) cs (states t) ≡ states t
  unfolding added_from added
  end_stays s [] a = refl
  end_stays s (c ∷ cs) a =
      let x : State = successor t (state_at t s) c in
      ap (added_from t (state_at t s) cs) (of_cond (λ l. l ≡ states t) (inhabited x) (added x (states t)) (states t)
      (λ i. ap (λ b. cond b (states t) (states t ++ x ∷ []))
      (some_any (same_state x) 0 (states t) ∙ of_T (inside (states t) x) (mem_inside (states t) (states_closed t c a.0 i there))))
      (λ _. refl))
      ∙ end_stays s cs a.1
    where
      there : Memᴰ (state_at t s) (states t)
      there =
          each_anywhere (λ q. Memᴰ q (states t)) (states t) s (initial t) (each_member (states t))
          (subst (λ q. Memᴰ q (states t)) (numbered t).first (mem_get_d (states t) 0 (initial t) (numbered t).some_state))

  -- every one is a front of the states
  pub reached_front : (s : ℕ) → s ≤ length (states t) → (k : ℕ) → (rest : List State) × (states t ≡ reached_at t s k ++ rest)
  unfolding reached_at done_at
  reached_front s h k = elim (dec_lt s (length (states t))) [
    | yes p ↦ (
      here ++ later,
      done_front (suc s) p
          ∙ ap (λ l. l ++ later)
          (ap (λ cs. added_from t q cs (done_at t s)) (sym (take-append-drop k (starts t)))
          ∙ from_append q (take k (starts t)) (drop k (starts t)) (done_at t s)
          ∙ from_new q (drop k (starts t)) (reached_at t s k))
          ∙ append_assoc (reached_at t s k) here later,
    )
    | no p ↦
        let e : s ≡ length (states t) = omega arith in (
          [],
          sym (append-nil (reached_at t s k) ∙ ap (added_from t q (take k (starts t))) (rw e done_end)
              ∙ end_stays s (take k (starts t)) (each_front (λ c. Memᴰ c (starts t)) (take k (starts t)) (drop k (starts t))
              (rw take-append-drop (each_member (starts t))))),
        )
  ]
    where
      q : State
      q = state_at t s

      later : List State
      later = new_of (ahead (suc s)) (done_at t (suc s))

      here : List State
      here = new_of (map (successor t q) (drop k (starts t))) (reached_at t s k)

  pub reached_length : (s : ℕ) → s ≤ length (states t) → (k : ℕ) → length (reached_at t s k) ≤ length (states t)
  reached_length s h k = front_length (reached_at t s k) (states t) (reached_front s h k)

  module _ (s : ℕ) (h : s < length (states t)) where
    -- state s is there, and is final
    pub reached_long : (k : ℕ) → s < length (reached_at t s k)
    unfolding reached_at
    reached_long k =
        let new : List State = new_of (map (successor t (state_at t s)) (take k (starts t))) (done_at t s) in
        let e : length (reached_at t s k) ≡ length (done_at t s) + length new =
        ap length (from_new (state_at t s) (take k (starts t)) (done_at t s)) ∙ length-append (done_at t s) new in
        let z : s < length (done_at t s) = done_long s h in
        omega arith

    pub reached_same : (k i : ℕ) (d : State) → i < length (reached_at t s k) → get_or (reached_at t s k) i d ≡ get_or (states t) i d
    reached_same k i d j =
        let f : (rest : List State) × (states t ≡ reached_at t s k ++ rest) = reached_front s (omega arith) k in
        sym (ap (λ l. get_or l i d) f.1 ∙ get_or-append (reached_at t s k) f.0 d i j)

    pub reached_state : (k : ℕ) → get_or (reached_at t s k) s (initial t) ≡ get_or (states t) s (initial t)
    reached_state k = reached_same k s (initial t) (reached_long k)

    module _ (k : ℕ) (j : k < length (starts t)) where
      pub met_final : met_at t s k ≡ successor t (get_or (states t) s (initial t)) (get_or (starts t) k 0)
      met_final = ap (λ q. successor t q (get_or (starts t) k 0)) (reached_state k)

      -- one class start more
      pub reached_class : reached_at t s (suc k) ≡ cond (inhabited (met_at t s k)) (added (met_at t s k) (reached_at t s k)) (reached_at t s k)
      unfolding reached_at added_from
      reached_class =
          ap (λ cs. added_from t (state_at t s) cs (done_at t s)) (take-suc (starts t) k 0 j)
          ∙ from_append (state_at t s) (take k (starts t)) (get_or (starts t) k 0 ∷ []) (done_at t s)
          ∙ ap (λ q. cond (inhabited q) (added q (reached_at t s k)) (reached_at t s k)) (sym met_final)

      met_front : T (inhabited (met_at t s k)) → (rest : List State) × (states t ≡ added (met_at t s k) (reached_at t s k) ++ rest)
      met_front i =
          let f : (rest : List State) × (states t ≡ reached_at t s (suc k) ++ rest) = reached_front s (omega arith) (suc k) in (
            f.0,
            f.1 ∙ ap (λ l. l ++ f.0) (reached_class
                ∙ ap (λ b. cond b (added (met_at t s k) (reached_at t s k)) (reached_at t s k)) (of_T (inhabited (met_at t s k)) i)),
          )

      -- what is noted when a state is met is the final target
      pub noted_target : target_at t s k ≡ cond (inhabited (met_at t s k)) (number_in (met_at t s k) (reached_at t s k)) 0
      unfolding target_of
      noted_target =
          ap (λ q. cond (inhabited q) (or_else 0 (find_from 0 (same_state q) (states t))) 0) (sym met_final)
          ∙ either
          (λ b. cond b (or_else 0 (find_from 0 (same_state (met_at t s k)) (states t))) 0 ≡ cond b (number_in (met_at t s k) (reached_at t s k)) 0)
          (inhabited (met_at t s k))
          (λ i. let f : (rest : List State) × (states t ≡ added (met_at t s k) (reached_at t s k) ++ rest) = met_front i in
          ap (λ l. or_else 0 (find_from 0 (same_state (met_at t s k)) l)) f.1
          ∙ ap (or_else 0) (number_added (met_at t s k) (reached_at t s k) f.0))
          (λ _. refl)

      -- the three ways on: no state, a state that is there, a new state

      pub met_none : T (not (inhabited (met_at t s k))) → (reached_at t s (suc k) ≡ reached_at t s k) × (target_at t s k ≡ 0)
      met_none n =
          let e : inhabited (met_at t s k) ≡ false = of_not (inhabited (met_at t s k)) n in (
            reached_class ∙ ap (λ b. cond b (added (met_at t s k) (reached_at t s k)) (reached_at t s k)) e,
            noted_target ∙ ap (λ b. cond b (number_in (met_at t s k) (reached_at t s k)) 0) e,
          )

      met_some : T (inhabited (met_at t s k)) → (o : Option ℕ) → find_from 0 (same_state (met_at t s k)) (reached_at t s k) ≡ o →
          (reached_at t s (suc k) ≡ cond (is_some o) (reached_at t s k) (reached_at t s k ++ met_at t s k ∷ [])) × (target_at t s k ≡ or_else (length (reached_at t s k)) o)
      unfolding added number_in
      met_some i o p =
          let e : inhabited (met_at t s k) ≡ true = of_T (inhabited (met_at t s k)) i in (
            reached_class
                ∙ ap (λ b. cond b (added (met_at t s k) (reached_at t s k)) (reached_at t s k)) e
                ∙ ap (λ r. cond (is_some r) (reached_at t s k) (reached_at t s k ++ met_at t s k ∷ [])) p,
            noted_target ∙ ap (λ b. cond b (number_in (met_at t s k) (reached_at t s k)) 0) e ∙ ap (or_else (length (reached_at t s k))) p,
          )

      pub met_there : (n : ℕ) → T (inhabited (met_at t s k)) → find_from 0 (same_state (met_at t s k)) (reached_at t s k) ≡ Some n →
          (reached_at t s (suc k) ≡ reached_at t s k) × (target_at t s k ≡ n)
      met_there n i p = met_some i (Some n) p

      pub met_new : T (inhabited (met_at t s k)) → find_from 0 (same_state (met_at t s k)) (reached_at t s k) ≡ None →
          (reached_at t s (suc k) ≡ reached_at t s k ++ met_at t s k ∷ []) × (target_at t s k ≡ length (reached_at t s k))
      met_new i p = met_some i None p

      -- where a new state is met there are more states than are in the list
      pub reached_more : T (inhabited (met_at t s k)) → find_from 0 (same_state (met_at t s k)) (reached_at t s k) ≡ None →
          length (reached_at t s k) < length (states t)
      reached_more i p =
          let e : length (reached_at t s (suc k)) ≡ length (reached_at t s k) + 1 =
          ap length (met_new i p).0 ∙ length-append (reached_at t s k) (met_at t s k ∷ []) in
          let l : length (reached_at t s (suc k)) ≤ length (states t) = reached_length s (omega arith) (suc k) in
          omega arith

      pub too_many_lem : 256 ≤ length (reached_at t s k) → T (inhabited (met_at t s k)) → find_from 0 (same_state (met_at t s k)) (reached_at t s k) ≡ None →
          256 < length (states t)
      too_many_lem n i e = let z : length (reached_at t s k) < length (states t) = reached_more i e in omega arith

  -- a list that does not go on to state s is complete
  pub reached_stop : (s : ℕ) → s ≤ length (states t) → length (reached_at t s 0) ≤ s → reached_at t s 0 ≡ states t
  reached_stop s h l =
      elim (dec_lt s (length (states t))) [
        | yes p ↦ let z : s < length (reached_at t s 0) = reached_long s p 0 in absurd (omega arith)
        | no p ↦ let e : s ≡ length (states t) = omega arith in rw e reached_end
      ]
