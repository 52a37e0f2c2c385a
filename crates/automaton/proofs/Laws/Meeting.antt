-- What the compiler notes for a class and for a state is right: the final target, the state met, and what is accepted.
-- The state met is the successor, and the list on the way is a front of the states, so its number there is final.
use mathlib.Core.Bool.{not, cond}
use mathlib.Core.List.{List, [], ◌∷◌, ◌++◌, map}
use mathlib.Core.Logic.{◌≢◌}
use Rattle.std.specs.Prelude.{None, Some}
use mathlib.Core.Path.{◌≡◌, sym, ap, subst, ◌∙◌}
use Prim.Native.Nat.{ℕ, zero, suc, ◌+◌, ◌-◌, ◌*◌, ◌^◌, ◌≤◌, ◌<◌}
use native.Mathlib.Decide.{dec_lt}
use native.Mathlib.Numerals.{add-one}
use native.Mathlib.Omega.{arith}
use borrow.Author.Tests.{eq-eqb, ne_eqb}
use lib.Dec.{T, eqb}
use lib.ListN.{length, get_or, drop, set, length-map, length-drop, get_or-map, get_or-eq_default}
use lib.Seq.{get_or-drop}
use Rattle.lists.specs.Lists.{flat_map, find_from}
use Rattle.lists.proofs.Laws.Tests.{to_T}
use Rattle.lists.proofs.Laws.Each.{each_get_d}
use Rattle.lists.proofs.Laws.Parts.{length_pad, get_d_pad, get_d_rows, get_d_there}
use Rattle.meaning.specs.Table.{Table}
use Rattle.meaning.specs.Block.{at}
use Rattle.automaton.specs.Classes.{starts}
use Rattle.automaton.specs.States.{State, initial, states, successor, same_state, inhabited, longer_rules, accept_of, accept_at_end_of, target_of}
use Rattle.automaton.specs.Layout.{target_words, classes_from, states_from, targets_from, targets_size}
use Rattle.automaton.specs.Sound.{depth_word}
use Rattle.automaton.specs.bridge.Build.{members_from, state_of, number_in, states_at}
use Rattle.automaton.specs.bridge.Noted.{Noted, NotedAt, reached_at}
use Rattle.automaton.proofs.Laws.Good.{state_at}
use Rattle.automaton.proofs.Laws.Levels.{states_deepen}
use Rattle.automaton.proofs.Laws.Adding.{deepening_from}
use Rattle.automaton.proofs.Laws.Sets.{inhabited_set}
use Rattle.automaton.proofs.Laws.Exploring.{met_at, target_at, reached_long, reached_same, reached_state, reached_row, reached_once, met_final, met_none, met_there, met_new, too_many_lem}
use Rattle.automaton.proofs.Laws.Looking.{found_some, found_none}
use Rattle.automaton.proofs.Laws.Noting.{filled_skip, noted_end, noted_accept, noted_put, noted_list, noted_add, noted_blank}

-- the target words, row by row
module _ (t : Table) (s : ℕ) (h : s < length (states t)) where
  abbrev row : List ℕ
  row = map (target_of t (states t) (state_at t s)) (starts t)

  row_word : (j : ℕ) → j < 64 → at (flat_map (target_words t) (states t)) (64 * s + j) ≡ at row j
  row_word j l =
      get_d_rows (target_words t) 64 (λ p. length_pad 64 (map (target_of t (states t) p) (starts t))) (states t) s j (initial t) h l
      ∙ get_d_pad 64 row j l

  row_target : (j : ℕ) → j < 64 → j < length (starts t) → at (flat_map (target_words t) (states t)) (64 * s + j) ≡ target_at t s j
  row_target j l k =
      let f : ℕ → ℕ = target_of t (states t) (state_at t s) in
      row_word j l ∙ get_d_there row j 0 (f 0) (omega (arith, length-map (starts t) f)) ∙ get_or-map f (starts t) j 0

  row_blank : (j : ℕ) → j < 64 → length (starts t) ≤ j → at (flat_map (target_words t) (states t)) (64 * s + j) ≡ 0
  row_blank j l k = row_word j l ∙ get_or-eq_default row 0 (omega (arith, length-map (starts t) (target_of t (states t) (state_at t s))))

-- The ways on from class k of state s, where x is the set of the rules that go on and r the number that the state met has:
-- no state, one that is there, one that there is no room for, a new one.
pub record Ways (t : Table) (n s k : ℕ) (w sets : List ℕ) (count x : ℕ) : Type 0 where
  pub nothing : x ≡ 0 → NotedAt t n (suc s) s (suc k) w sets count
  pub there : x ≢ 0 → (r : ℕ) → r ≡ number_in (state_of n (depth_word w s + 1) x) (states_at w sets n count) → r ≢ count →
      NotedAt t n (suc s) s (suc k) (set w (targets_from + 64 * s + k) r) sets count
  pub over : x ≢ 0 → (r : ℕ) → r ≡ number_in (state_of n (depth_word w s + 1) x) (states_at w sets n count) → r ≡ count → 256 ≤ count → 256 < length (states t)
  pub new : x ≢ 0 → (r : ℕ) → r ≡ number_in (state_of n (depth_word w s + 1) x) (states_at w sets n count) → r ≡ count → count < 256 →
      NotedAt t n (suc s) s (suc k) (set (set w (states_from + 3 * count) (depth_word w s + 1)) (targets_from + 64 * s + k) count) (set sets count x) (count + 1)

-- a class of state s

module _ (t : Table) (n s : ℕ) (h : s < length (states t)) where
  -- it is one of those met
  pub noted_here : (a k : ℕ) (w sets : List ℕ) (count : ℕ) → NotedAt t n a s k w sets count → s < count
  noted_here a k w sets count N = subst (λ c. s < c) N.counted (reached_long t s h k)

  module _ (k : ℕ) (w sets : List ℕ) (count : ℕ) (j : k < length (starts t)) (N : NotedAt t n (suc s) s k w sets count) where
    noted_long : s < count
    noted_long = noted_here (suc s) k w sets count N

    -- the states up to state s are no deeper than it
    pub noted_depths : (i : ℕ) → i < s + 1 → depth_word w i ≡ depth_word w s + 1 → ⊥
    noted_depths i l e =
        let long : s < count = noted_long in
        let place : i + (s - i) ≡ s = omega arith in
        let order : (state_at t i).depth ≤ (get_or (drop i (states t)) (s - i) (initial t)).depth =
        each_get_d (λ q. (state_at t i).depth ≤ q.depth) (drop i (states t)) (s - i) (initial t)
        (deepening_from (states t) i (initial t) (states_deepen t) (omega arith)) (omega (arith, length-drop i (states t))) in
        let last : (get_or (drop i (states t)) (s - i) (initial t)).depth ≡ (state_at t s).depth =
        ap (λ (q : State). q.depth) (get_or-drop i (states t) (s - i) (initial t) ∙ ap (λ j. state_at t j) place) in
        omega (arith, depth i (omega arith), depth s long)
      where
        depth : (j : ℕ) → j < count → depth_word w j ≡ (state_at t j).depth
        depth j b = ap (λ (q : State). q.depth) (N.met j b ∙ reached_same t s h k j (initial t) (subst (λ c. j < c) (sym N.counted) b))

    -- no state is there twice
    pub noted_once : (i j : ℕ) → i < j → j < count → at sets i ≡ at sets j → depth_word w i ≡ depth_word w j → ⊥
    noted_once i j l b e d =
        reached_once t s k i j (initial t) l (subst (λ c. j < c) (sym N.counted) b)
        (sym (N.met i (omega arith)) ∙ ap (λ y. state_of n (depth_word w i) y) e ∙ ap (λ y. state_of n y (at sets j)) d ∙ N.met j b)

    noted_place : 64 * s + k < targets_size
    noted_place =
        let l : s < count = noted_long in
        let few : count ≤ 256 = N.few in
        let narrow : length (starts t) ≤ 64 = N.narrow in
        omega arith

    wanted : at (flat_map (target_words t) (states t)) (64 * s + k) ≡ target_at t s k
    wanted = let narrow : length (starts t) ≤ 64 = N.narrow in row_target t s h k (omega arith) j

    next : {qs : List State} {w' sets' : List ℕ} {count' : ℕ} → Noted t n qs (suc s) (suc s) (suc (64 * s + k)) w' sets' count' → reached_at t s (suc k) ≡ qs →
        NotedAt t n (suc s) s (suc k) w' sets' count'
    next {qs} {w'} {sets'} {count'} M e =
        let z : suc (64 * s + k) ≡ 64 * s + suc k = omega arith in
        subst (λ m. Noted t n (reached_at t s (suc k)) (suc s) (suc s) m w' sets' count') z
        (subst (λ l. Noted t n l (suc s) (suc s) (suc (64 * s + k)) w' sets' count') (sym e) M)

    no_class : T (not (inhabited (met_at t s k))) → NotedAt t n (suc s) s (suc k) w sets count
    no_class i =
        let m = met_none t s h k j i in
        next (noted_blank N (suc (64 * s + k)) (filled_skip N.targets noted_place (wanted ∙ m.1))) m.0

    -- the state met, by the set of its rules as a number
    module _ (x : ℕ) (b : x < 2 ^ n) (e : members_from 0 n x ≡ longer_rules t (state_of n (depth_word w s) (at sets s)) (at w (classes_from + k)))
        (z : accept_of t (state_at t s) ≡ 0) where
      abbrev here : State
      here = state_of n (depth_word w s) (at sets s)

      met_is : met_at t s k ≡ state_of n (depth_word w s + 1) x
      unfolding successor
      met_is =
          ap (λ q. successor t q (get_or (starts t) k 0)) (sym (N.met s noted_long))
          ∙ ap (successor t here) (sym (N.class_starts k j))
          ∙ ap (λ c. record { depth = suc (depth_word w s); members = cond (eqb c 0) (longer_rules t here (at w (classes_from + k))) [] })
          (ap (accept_of t) (N.met s noted_long ∙ reached_state t s h k) ∙ z)
          ∙ ap (λ l. record { depth = suc (depth_word w s); members = l }) (sym e)
          ∙ ap (λ d. state_of n d x) (sym (add-one (depth_word w s)))

      some_rule : x ≢ 0 → T (inhabited (met_at t s k))
      some_rule p =
          to_T (inhabited (met_at t s k)) (ap inhabited met_is ∙ inhabited_set n (depth_word w s + 1) x b ∙ ap not (ne_eqb x 0 p))

      module _ (r : ℕ) (f : r ≡ number_in (state_of n (depth_word w s + 1) x) (states_at w sets n count)) where
        number : r ≡ number_in (met_at t s k) (reached_at t s k)
        number = f ∙ ap (λ l. number_in (state_of n (depth_word w s + 1) x) l) (noted_list N) ∙ ap (λ q. number_in q (reached_at t s k)) (sym met_is)

        found : r ≢ count → find_from 0 (same_state (met_at t s k)) (reached_at t s k) ≡ Some (number_in (met_at t s k) (reached_at t s k))
        found g = found_some (met_at t s k) (reached_at t s k) (λ q. g (number ∙ q ∙ N.counted))

        missing : r ≡ count → find_from 0 (same_state (met_at t s k)) (reached_at t s k) ≡ None
        missing g = found_none (met_at t s k) (reached_at t s k) (sym number ∙ g ∙ sym N.counted)

      pub ways_on : Ways t n s k w sets count x
      ways_on =
          let i : targets_from + (64 * s + k) ≡ targets_from + 64 * s + k = omega arith in
          record {
            nothing = λ p.
                no_class
                (to_T (not (inhabited (met_at t s k))) (ap not (ap inhabited met_is ∙ inhabited_set n (depth_word w s + 1) x b ∙ ap not (eq-eqb x 0 p))));
            there = λ p r f g.
                let m = met_there t s h k j (number_in (met_at t s k) (reached_at t s k)) (some_rule p) (found r f g) in
                subst (λ y. NotedAt t n (suc s) s (suc k) (set w y r) sets count) i
                (next (noted_put N r noted_place (number r f ∙ sym (wanted ∙ m.1))) m.0);
            over = λ p r f g l. too_many_lem t s h k j (subst (λ c. 256 ≤ c) (sym N.counted) l) (some_rule p) (missing r f g);
            new = λ p r f g l.
                let m = met_new t s h k j (some_rule p) (missing r f g) in
                let low : depth_word w s ≤ s = N.shallow s noted_long in
                let long : s < count = noted_long in
                let w' : List ℕ = set w (states_from + 3 * count) (depth_word w s + 1) in
                subst (λ y. NotedAt t n (suc s) s (suc k) (set w' y count) (set sets count x) (count + 1)) i
                (subst (NotedAt t n (suc s) s (suc k) (set w' (targets_from + (64 * s + k)) count) (set sets count x)) (sym (add-one count))
                (next (noted_put (noted_add N (depth_word w s + 1) x l (omega arith) b) count noted_place (sym (wanted ∙ m.1 ∙ N.counted)))
                (m.0 ∙ ap (λ q. reached_at t s k ++ q ∷ []) met_is)));
          }

-- state s as a whole
module _ (t : Table) (n s : ℕ) (h : s < length (states t)) (w sets : List ℕ) (count : ℕ) where
  -- a state with an accept has no way on
  pub accepting : accept_of t (state_at t s) ≢ 0 → (k : ℕ) → k ≤ length (starts t) → NotedAt t n (suc s) s 0 w sets count → NotedAt t n (suc s) s k w sets count
  unfolding successor
  accepting g zero l N = N
  accepting g (suc k) l N = no_class t n s h k w sets count l (accepting g k (omega arith) N) no_way
    where
      no_way : T (not (inhabited (met_at t s k)))
      no_way =
          to_T (not (inhabited (met_at t s k)))
          (ap (λ q. not (inhabited q)) (met_final t s h k l)
          ∙ ap (λ b. not (inhabited (record { depth = suc (state_at t s).depth; members = cond b (longer_rules t (state_at t s) (get_or (starts t) k 0)) [] })))
          (ne_eqb (accept_of t (state_at t s)) 0 g))

  pub row_done : NotedAt t n (suc s) s (length (starts t)) w sets count → NotedAt t n (suc s) (suc s) 0 w sets count
  row_done N =
      subst (λ qs. Noted t n qs (suc s) (suc s) (64 * suc s + 0) w sets count) (sym (reached_row t s))
      (noted_blank N (64 * suc s + 0)
      (let narrow : length (starts t) ≤ 64 = N.narrow in
      let few : count ≤ 256 = N.few in
      let long : s < count = noted_here t n s h (suc s) (length (starts t)) w sets count N in
      record {
        within = omega arith;
        done = λ i l. elim (dec_lt i (64 * s + length (starts t))) [
          | yes p ↦ N.targets.done i p
          | no p ↦
              let z : 64 * s + (i - 64 * s) ≡ i = omega arith in
              N.targets.blank i (omega arith) (omega arith)
              ∙ sym (ap (at (flat_map (target_words t) (states t))) (sym z) ∙ row_blank t s h (i - 64 * s) (omega arith) (omega arith))
        ];
        blank = λ i l k. N.targets.blank i (omega arith) k;
      }))

  -- what it accepts
  pub accepts_noted : (end accept : ℕ) →
      end ≡ accept_at_end_of t (state_of n (depth_word w s) (at sets s)) → accept ≡ accept_of t (state_of n (depth_word w s) (at sets s)) →
      NotedAt t n s s 0 w sets count → NotedAt t n (suc s) s 0 (set (set w (states_from + 1 + 3 * s) end) (states_from + 2 + 3 * s) accept) sets count × (accept ≡ accept_of t (state_at t s))
  accepts_noted end accept p q N =
      let long : s < count = noted_here t n s h s 0 w sets count N in
      let few : count ≤ 256 = N.few in
      let same : state_of n (depth_word w s) (at sets s) ≡ state_at t s = N.met s long ∙ reached_state t s h 0 in
      (noted_accept (noted_end N end (omega arith) (p ∙ ap (accept_at_end_of t) same)) accept (omega arith) (q ∙ ap (accept_of t) same), q ∙ ap (accept_of t) same)
