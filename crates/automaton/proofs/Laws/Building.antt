-- The compiler's start and end: state 0 is noted first, and when no state is left the words of states and targets are the table's.
-- The list on the way is then that of all states, and each column holds its words and then zeros.
use mathlib.Core.List.{List, [], ◌∷◌, ◌++◌, map}
use mathlib.Core.Path.{◌≡◌, refl, sym, ap, subst, ◌∙◌}
use Prim.Native.Nat.{ℕ, zero, suc, ◌+◌, ◌*◌, ◌/◌, ◌%◌, ◌^◌, ◌≤◌, ◌<◌}
use native.Mathlib.Decide.{dec_lt}
use native.Mathlib.Nat.{mul-zero, mul-suc}
use native.Mathlib.Omega.{arith}
use lib.ListN.{length, get_or, take, drop, set, length-append, length-drop, take-append-drop, get_or-eq_default}
use lib.Seq.{get_or-take, get_or-drop, take-add, length-take-le, ext_get_or}
use Rattle.lists.specs.Lists.{flat_map, up_to, pad}
use Rattle.lists.proofs.Laws.Parts.{length_pad, get_d_pad, get_d_rows}
use Rattle.lists.proofs.Laws.Sets.{length_tab}
use Rattle.meaning.specs.Table.{Table, Mode}
use Rattle.meaning.specs.Block.{at}
use Rattle.meaning.specs.bridge.Flat.{table_at, group_at}
use Rattle.automaton.specs.Classes.{starts}
use Rattle.automaton.specs.States.{State, initial, states, target_of}
use Rattle.automaton.specs.Layout.{state_words, target_words, blocks_from, classes_from, states_from, states_size, targets_from, targets_size, word_count}
use Rattle.automaton.specs.bridge.Build.{members_from}
use Rattle.automaton.specs.bridge.Noted.{Noted, NotedAt, Kept, reached_at}
use Rattle.automaton.proofs.Laws.Good.{state_at}
use Rattle.automaton.proofs.Laws.Exploring.{reached_start, reached_stop, reached_length}
use Rattle.automaton.proofs.Laws.Noting.{noted_add}

-- the start, with state 0
module _ (t : Table) (n : ℕ) (w sets : List ℕ) (x : ℕ) where
  pub noted_start : word_count ≤ length w → length sets ≡ 256 → length (starts t) ≤ 64 → ((k : ℕ) → k < length (starts t) → at w (classes_from + k) ≡ get_or (starts t) k 0) →
      ((i : ℕ) → states_from ≤ i → i < blocks_from → at w i ≡ 0) → length t.rules ≡ n → members_from 0 n x ≡ up_to n → x < 2 ^ n → NotedAt t n 0 0 0 (set w states_from 0) (set sets 0 x) 1
  unfolding initial
  noted_start r p l c z e m b =
      subst (λ qs. Noted t n qs 0 0 0 (set w states_from 0) (set sets 0 x) 1)
      (ap (λ ms. record { depth = 0; members = ms } ∷ []) (m ∙ ap up_to (sym e)) ∙ sym (reached_start t))
      (noted_add none_noted 0 x (omega arith) (omega arith) b)
    where
      none_noted : Noted t n [] 0 0 0 w sets 0
      none_noted =
          record {
            room = r;
            places = p;
            narrow = l;
            class_starts = c;
            counted = refl;
            few = omega arith;
            met = λ i h. absurd (omega arith);
            fit = λ i h. absurd (omega arith);
            shallow = λ i h. absurd (omega arith);
            unmet = λ i h k. z (states_from + 3 * i) (omega arith) (omega arith);
            ends = record { within = omega arith; done = λ i h. absurd (omega arith); blank = λ i h k. z (states_from + 1 + 3 * i) (omega arith) (omega arith) };
            accepts = record { within = omega arith; done = λ i h. absurd (omega arith); blank = λ i h k. z (states_from + 2 + 3 * i) (omega arith) (omega arith) };
            targets = record { within = omega arith; done = λ i h. absurd (omega arith); blank = λ i h k. z (targets_from + i) (omega arith) (omega arith) };
          }

pub rules_counted : (loaded : List ℕ) (n : ℕ) (d : Mode) → length (table_at loaded n d).rules ≡ n
unfolding table_at
rules_counted loaded n d = length_tab (group_at loaded) 0 n

pub noted_below : (t : Table) (n a s k : ℕ) (w sets : List ℕ) (count : ℕ) → s ≤ length (states t) → NotedAt t n a s k w sets count → count ≤ length (states t)
noted_below t n a s k w sets count h N = subst (λ c. c ≤ length (states t)) N.counted (reached_length t s h k)

-- the end

length_rows : {A : Type 0} (f : A → List ℕ) (m : ℕ) → ((x : A) → length (f x) ≡ m) → (xs : List A) → length (flat_map f xs) ≡ m * length xs
length_rows f m e [] = sym (mul-zero m)
length_rows f m e (x ∷ xs) =
    let z : length (f x) ≡ m = e x in
    let r : length (flat_map f xs) ≡ m * length xs = length_rows f m e xs in
    length-append (f x) (flat_map f xs) ∙ omega (arith, mul-suc m (length xs))

-- a part of the words that has the elements of a list, and then zeros
part : (w xs : List ℕ) (p m : ℕ) → p + m ≤ length w → ((i : ℕ) → i < m → at w (p + i) ≡ at xs i) → take m (drop p w) ≡ pad m xs
part w xs p m h e =
    let l : length (take m (drop p w)) ≡ m = length-take-le m (drop p w) (omega (arith, length-drop p w)) in
    ext_get_or 0 (take m (drop p w)) (pad m xs) (l ∙ sym (length_pad m xs))
    (λ i j. let k : i < m = subst (λ y. i < y) l j in
    get_or-take m (drop p w) i 0 k ∙ get_or-drop p w i 0 ∙ e i k ∙ sym (get_d_pad m xs i k))

module _ (t : Table) (n s : ℕ) (w sets : List ℕ) (count : ℕ) (N : NotedAt t n s s 0 w sets count) (h : s ≤ length (states t)) (l : count ≤ s) where
  all_states : reached_at t s 0 ≡ states t
  all_states = reached_stop t s h (subst (λ c. c ≤ s) (sym N.counted) l)

  pub noted_count : count ≡ length (states t)
  noted_count = sym N.counted ∙ ap length all_states

  noted_state : (q : ℕ) → q < count → (r : ℕ) → r < 3 → at w (states_from + (3 * q + r)) ≡ at (state_words t (state_at t q)) r
  noted_state q b zero k =
      ap (at w) (omega arith) ∙ ap (λ (x : State). x.depth) (N.met q b ∙ ap (λ qs. get_or qs q (initial t)) all_states)
  noted_state q b (suc zero) k = ap (at w) (omega arith) ∙ N.ends.done q (omega arith)
  noted_state q b (suc (suc zero)) k = ap (at w) (omega arith) ∙ N.accepts.done q (omega arith)
  noted_state q b (suc (suc (suc r))) k = absurd (omega arith)

  no_state : (q : ℕ) → count ≤ q → q < 256 → (r : ℕ) → r < 3 → at w (states_from + (3 * q + r)) ≡ 0
  no_state q b c zero k = ap (at w) (omega arith) ∙ N.unmet q b c
  no_state q b c (suc zero) k = let e : count ≡ length (states t) = noted_count in ap (at w) (omega arith) ∙ N.ends.blank q (omega arith) c
  no_state q b c (suc (suc zero)) k = let e : count ≡ length (states t) = noted_count in ap (at w) (omega arith) ∙ N.accepts.blank q (omega arith) c
  no_state q b c (suc (suc (suc r))) k = absurd (omega arith)

  state_part : (i : ℕ) → i < states_size → at w (states_from + i) ≡ at (flat_map (state_words t) (states t)) i
  state_part i b =
      let e : 3 * (i / 3) + i % 3 ≡ i = omega arith in
      let c : count ≡ length (states t) = noted_count in
      elim (dec_lt (i / 3) count) [
        | yes p ↦
            ap (λ j. at w (states_from + j)) (sym e) ∙ noted_state (i / 3) p (i % 3) (omega arith)
            ∙ sym (get_d_rows (state_words t) 3 (λ q. refl) (states t) (i / 3) (i % 3) (initial t) (omega arith) (omega arith))
            ∙ ap (at (flat_map (state_words t) (states t))) e
        | no p ↦
            ap (λ j. at w (states_from + j)) (sym e) ∙ no_state (i / 3) (omega arith) (omega arith) (i % 3) (omega arith)
            ∙ sym (get_or-eq_default (flat_map (state_words t) (states t)) 0 (omega (arith, length_rows (state_words t) 3 (λ q. refl) (states t))))
      ]

  target_part : (i : ℕ) → i < targets_size → at w (targets_from + i) ≡ at (flat_map (target_words t) (states t)) i
  target_part i b =
      let c : count ≡ length (states t) = noted_count in
      elim (dec_lt i (64 * s + 0)) [
        | yes p ↦ N.targets.done i p
        | no p ↦
            N.targets.blank i (omega arith) b
            ∙ sym (get_or-eq_default (flat_map (target_words t) (states t)) 0
            (omega (arith, length_rows (target_words t) 64 (λ q. length_pad 64 (map (target_of t (states t) q) (starts t))) (states t))))
      ]

  noted_parts : w ≡ take states_from w ++ pad states_size (flat_map (state_words t) (states t)) ++ pad targets_size (flat_map (target_words t) (states t)) ++ drop blocks_from w
  noted_parts =
      let r : word_count ≤ length w = N.room in
      sym (take-append-drop blocks_from w)
      ∙ ap (λ v. v ++ drop blocks_from w)
      (take-add targets_from targets_size w
      ∙ ap (λ v. v ++ take targets_size (drop targets_from w)) (take-add states_from states_size w ∙ ap (λ v. take states_from w ++ v) (part w (flat_map (state_words t) (states t)) states_from states_size (omega arith) state_part))
      ∙ ap (λ v. take states_from w ++ pad states_size (flat_map (state_words t) (states t)) ++ v) (part w (flat_map (target_words t) (states t)) targets_from targets_size (omega arith) target_part))

  pub noted_words : {w₀ : List ℕ} → Kept w₀ w → w ≡ take states_from w₀ ++ pad states_size (flat_map (state_words t) (states t)) ++ pad targets_size (flat_map (target_words t) (states t)) ++ drop blocks_from w₀
  noted_words {w₀} k =
      noted_parts
      ∙ ap (λ v. v ++ pad states_size (flat_map (state_words t) (states t)) ++ pad targets_size (flat_map (target_words t) (states t)) ++ drop blocks_from w) k.front
      ∙ ap (λ v. take states_from w₀ ++ pad states_size (flat_map (state_words t) (states t)) ++ pad targets_size (flat_map (target_words t) (states t)) ++ v) k.back
