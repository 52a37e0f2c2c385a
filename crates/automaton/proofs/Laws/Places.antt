-- What the words of a table hold at each place, whatever words stand after them.
-- A part of known length is found by the lengths of the parts before it, and a state's words in it are rows of one length.
use mathlib.Core.List.{List, [], ◌++◌, map, append_assoc}
use mathlib.Core.Path.{◌≡◌, refl, ap, ◌∙◌}
use Prim.Native.Nat.{ℕ, ◌+◌, ◌*◌, ◌≤◌, ◌<◌}
use native.Mathlib.Omega.{arith}
use lib.ListN.{length, get_or, take, drop, length-append, get_or-map, length-map}
use lib.Seq.{take-append-le}
use Rattle.lists.specs.Lists.{flat_map, pad}
use Rattle.lists.proofs.Laws.Parts.{length_pad, get_d_pad, get_d_rows, take_pad, flat, get_d_part, get_d_there}
use Rattle.meaning.specs.Table.{Table, mode, longest, expansion}
use Rattle.meaning.specs.Block.{at}
use Rattle.automaton.specs.Classes.{starts}
use Rattle.automaton.specs.States.{State, initial, states, accept_at_end_of, accept_of, target_of}
use Rattle.automaton.specs.Layout.{word_count, state_words, target_words, parts, words, classes_from, states_from, states_size, targets_from, targets_size, mode_word}
use Rattle.automaton.specs.Sound.{class_count, longest_word, expansion_word, rule_count, state_count, depth_word, accept_at_end_word, accept_word, target_word}
use Rattle.automaton.proofs.Laws.Good.{state_at}

pub length_words : (t : Table) → length (words t) ≡ word_count
unfolding words parts
length_words t = simp (length-append, length_pad)

module _ (t : Table) (rest : List ℕ) where
  -- part number j begins at word n
  pub layout_part : (j n : ℕ) → length (flat (take j (parts t))) ≡ n → (i : ℕ) → i < length (get_or (parts t) j []) →
      at (words t ++ rest) (n + i) ≡ at (get_or (parts t) j []) i
  unfolding words
  layout_part j n e i h = rw (← e) (get_d_part (parts t) rest j i h)

  pub layout_states : state_count (words t ++ rest) ≡ length (states t)
  unfolding words parts
  layout_states = refl

  pub layout_classes : class_count (words t ++ rest) ≡ length (starts t)
  unfolding words parts
  layout_classes = refl

  pub layout_longest : longest_word (words t ++ rest) ≡ longest t
  unfolding words parts
  layout_longest = refl

  pub layout_expansion : expansion_word (words t ++ rest) ≡ expansion t
  unfolding words parts
  layout_expansion = refl

  pub layout_rules : rule_count (words t ++ rest) ≡ length t.rules
  unfolding words parts
  layout_rules = refl

  pub layout_default : at (words t ++ rest) 5 ≡ mode_word (mode t)
  unfolding words parts
  layout_default = refl

  pub layout_start : (k : ℕ) → k < 64 → at (words t ++ rest) (classes_from + k) ≡ get_or (starts t) k 0
  unfolding parts
  layout_start k h = layout_part 1 6 (simp length-append) k (omega (arith, length_pad 64 (starts t))) ∙ get_d_pad 64 (starts t) k h

  pub layout_starts : length (starts t) ≤ 64 → take (class_count (words t ++ rest)) (drop classes_from (words t ++ rest)) ≡ starts t
  unfolding words parts
  layout_starts h =
      let n = length (starts t) in
      ap (take n) (append_assoc (pad 64 (starts t)) (flat (drop 2 (parts t))) rest)
      ∙ take-append-le n (pad 64 (starts t)) (flat (drop 2 (parts t)) ++ rest) (omega (arith, length_pad 64 (starts t)))
      ∙ take_pad 64 (starts t) h

  -- word j of a state's three
  state_word : (s j : ℕ) → length (states t) ≤ 256 → s < length (states t) → j < 3 →
      at (words t ++ rest) (states_from + (3 * s + j)) ≡ at (state_words t (state_at t s)) j
  unfolding parts
  state_word s j few b h =
      let rows = flat_map (state_words t) (states t) in
      layout_part 2 states_from (simp (length-append, length_pad)) (3 * s + j) (omega (arith, length_pad states_size rows))
      ∙ get_d_pad states_size rows (3 * s + j) (omega arith)
      ∙ get_d_rows (state_words t) 3 (λ q. refl) (states t) s j (initial t) b h

  module _ (few : length (states t) ≤ 256) (s : ℕ) (b : s < length (states t)) where
    pub layout_depth : depth_word (words t ++ rest) s ≡ (state_at t s).depth
    layout_depth = ap (at (words t ++ rest)) (omega arith) ∙ state_word s 0 few b (omega arith)

    pub layout_accept_at_end : accept_at_end_word (words t ++ rest) s ≡ accept_at_end_of t (state_at t s)
    layout_accept_at_end = ap (at (words t ++ rest)) (omega arith) ∙ state_word s 1 few b (omega arith)

    pub layout_accept : accept_word (words t ++ rest) s ≡ accept_of t (state_at t s)
    layout_accept = ap (at (words t ++ rest)) (omega arith) ∙ state_word s 2 few b (omega arith)

    pub layout_target : length (starts t) ≤ 64 → (k : ℕ) → k < length (starts t) →
        target_word (words t ++ rest) s k ≡ target_of t (states t) (state_at t s) (get_or (starts t) k 0)
    unfolding parts
    layout_target narrow k h =
        let rows = flat_map (target_words t) (states t) in
        let f : State → ℕ → ℕ = target_of t (states t) in
        let q = state_at t s in
        ap (at (words t ++ rest)) (omega arith)
        ∙ layout_part 3 targets_from (simp (length-append, length_pad)) (64 * s + k) (omega (arith, length_pad targets_size rows))
        ∙ get_d_pad targets_size rows (64 * s + k) (omega arith)
        ∙ get_d_rows (target_words t) 64 (λ p. length_pad 64 (map (f p) (starts t))) (states t) s k (initial t) b (omega arith)
        ∙ get_d_pad 64 (map (f q) (starts t)) k (omega arith)
        ∙ get_d_there (map (f q) (starts t)) k 0 (f q 0) (omega (arith, length-map (starts t) (f q)))
        ∙ get_or-map (f q) (starts t) k 0
