-- The class of a character found by halving, and a group's output read from the words' blocks.
-- The starts rise, so those not above a character are the first ones; a block among the blocks is the words from its place on.
use mathlib.Core.List.{List, [], ◌∷◌, ◌++◌}
use mathlib.Core.Path.{◌≡◌, refl, sym, ap, ◌∙◌}
use Prim.Native.Nat.{ℕ, zero, suc, pred, ◌+◌, ◌-◌, ◌*◌, ◌≤◌, ◌<◌}
use native.Mathlib.Nat.{add-zero}
use native.Mathlib.Omega.{arith}
use borrow.Author.Tests.{le-leb, lt-leb}
use lib.Dec.{T, leb, ltb→lt, eqb→eq}
use lib.ListN.{length, take, drop, length-drop}
use lib.Seq.{length-take-le, take_all, get_or-take, get_or-drop, drop-drop}
use Rattle.lists.specs.Lists.{count}
use Rattle.lists.proofs.Laws.Tests.{holds, below}
use Rattle.meaning.specs.Block.{at, block_output, block_size, blocks_size}
use Rattle.automaton.specs.Classes.{class_of}
use Rattle.automaton.specs.Layout.{word_count, blocks_from, classes_from}
use Rattle.automaton.specs.Sound.{class_count, block_at, sound_starts, sound}
use Rattle.automaton.proofs.Laws.Words.{sound_header_lem}

-- as many numbers are at most c as stand before a place, where each before it is and none from it on
count_split : (c : ℕ) (ss : List ℕ) (n : ℕ) → n ≤ length ss →
    ((k : ℕ) → k < n → at ss k ≤ c) → ((k : ℕ) → n ≤ k → k < length ss → c < at ss k) → count (λ s. leb s c) ss ≡ n
count_split c [] n h front back = omega arith
count_split c (s ∷ ss) zero h front back =
    let rest = count_split c ss zero (omega arith) (λ k i. absurd (omega arith)) (λ k i j. back (suc k) (omega arith) (omega arith)) in
    rw (lt-leb s c (back 0 (omega arith) (omega arith))) (omega arith)
count_split c (s ∷ ss) (suc n) h front back =
    let rest = count_split c ss n (omega arith) (λ k i. front (suc k) (omega arith)) (λ k i j. back (suc k) (omega arith) (omega arith)) in
    rw (le-leb s c (front 0 (omega arith))) (omega arith)

-- numbers that rise from one place to the next rise from any place to a later one
rise : (f : ℕ → ℕ) (n : ℕ) → ((k : ℕ) → suc k < n → f k < f (suc k)) → (i d : ℕ) → i + d < n → f i ≤ f (i + d)
rise f n up i zero h = omega (arith, ap f (add-zero i))
rise f n up i (suc d) h = let e : i + suc d ≡ suc (i + d) = omega arith in omega (arith, ap f e, rise f n up i d (omega arith), up (i + d) (omega arith))

module _ (w : List ℕ) (sure : T (sound w)) where
  pub first_start : at w 6 ≡ 0
  unfolding sound sound_starts
  first_start = eqb→eq (at w 6) 0 (holds _ (holds _ sure).1.1.0).0

  start_below : (k : ℕ) → suc k < class_count w → at w (classes_from + k) < at w (classes_from + 1 + k)
  unfolding sound sound_starts
  start_below k h = ltb→lt (at w (classes_from + k)) (at w (classes_from + 1 + k)) (below (pred (class_count w)) _ (holds _ (holds _ sure).1.1.0).1.0 k (omega arith))

  pub starts_ordered : (i j : ℕ) → i ≤ j → j < class_count w → at w (classes_from + i) ≤ at w (classes_from + j)
  starts_ordered i j h b =
      let e : i + (j - i) ≡ j = omega arith in
      rw e at (rise (λ k. at w (classes_from + k)) (class_count w) (λ k l. let d : classes_from + 1 + k ≡ 6 + suc k = omega arith in rw d at (start_below k l)) i (j - i) (omega arith))

  -- the class whose start is not above the character, where the next one's is
  pub class_found : (c n : ℕ) → n < class_count w → at w (classes_from + n) ≤ c → (n + 1 < class_count w → c < at w (classes_from + (n + 1))) →
      class_of (take (class_count w) (drop classes_from w)) c ≡ n
  unfolding class_of
  class_found c n h low high =
      let ss = take (class_count w) (drop classes_from w) in
      let long = (sound_header_lem w sure).long in
      let few = (sound_header_lem w sure).few_classes in
      let size : length ss ≡ class_count w = length-take-le (class_count w) (drop classes_from w) (omega (arith, length-drop classes_from w)) in
      let is : (k : ℕ) → k < class_count w → at ss k ≡ at w (classes_from + k) = λ k l. get_or-take (class_count w) (drop classes_from w) k 0 l ∙ get_or-drop classes_from w k 0 in
      let all : count (λ s. leb s c) ss ≡ suc n =
      count_split c ss (suc n) (omega arith) (λ k l. omega (arith, is k (omega arith), starts_ordered k n (omega arith) h))
      (λ k l b. omega (arith, is k (omega arith), starts_ordered (n + 1) k (omega arith) (omega arith), high (omega arith))) in
      ap pred all

-- the words from the first block on
abbrev pub blocks_of : List ℕ → List ℕ
blocks_of w = take (length w - blocks_from) (drop blocks_from w)

pub blocks_long : (w : List ℕ) → word_count ≤ length w → blocks_size ≤ length (blocks_of w)
blocks_long w h = omega (arith, length-drop blocks_from w, length-take-le (length w - blocks_from) (drop blocks_from w) (omega (arith, length-drop blocks_from w)))

-- a block among them
module _ (w : List ℕ) (g : ℕ) where
  pub blocks_block : drop (block_size * g) (blocks_of w) ≡ block_at w g
  blocks_block =
      ap (drop (block_size * g)) (take_all (length w - blocks_from) (drop blocks_from w) (omega (arith, length-drop blocks_from w))) ∙ drop-drop (block_size * g) blocks_from w

  -- a word of the block, by its place p among the blocks' words
  blocks_at : (i p : ℕ) → p ≡ block_size * g + i → at (blocks_of w) p ≡ at (block_at w g) i
  blocks_at i p e = ap (at (blocks_of w)) e ∙ sym (get_or-drop (block_size * g) (blocks_of w) i 0) ∙ ap (λ b. at b i) blocks_block

  pub blocks_size_lem : at (blocks_of w) (block_size * g) ≡ at (block_at w g) 0
  blocks_size_lem = blocks_at 0 (block_size * g) (omega arith)

  pub blocks_count : at (blocks_of w) (block_size * g + 2) ≡ at (block_at w g) 2
  blocks_count = blocks_at 2 (block_size * g + 2) refl

  -- what the block writes, in the place of other words
  pub blocks_written : (store out after : List ℕ) (n : ℕ) →
      after
      ≡ take n out ++ block_output (drop (block_size * g) (blocks_of w)) (take (at (blocks_of w) (block_size * g)) store) ++ drop (n + at (blocks_of w) (block_size * g + 2)) out →
      after ≡ take n out ++ block_output (block_at w g) (take (at (block_at w g) 0) store) ++ drop (n + at (block_at w g) 2) out
  blocks_written store out after n e = e ∙ rw (blocks_size_lem, blocks_count, blocks_block) refl
