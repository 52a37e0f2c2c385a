-- "Sound words": a test that looks only at words in use.
use Rattle.std.specs.Prelude.{Bool, ◌&&◌, not, cond, List, [], ◌∷◌, ℕ, zero, suc, pred, ◌+◌, ◌*◌, eqb, leb, ltb, length, take, drop}
use Rattle.lists.specs.Lists.{any, count}
use Rattle.lists.specs.Decide.{all_of, for_below, implies}
use Rattle.meaning.specs.Table.{default_number, is_shift, Mode, Absent, Single, Paired, least}
use Rattle.meaning.specs.Block.{at, block_size, entry_size}
use Rattle.automaton.specs.Layout.{word_count, blocks_from, classes_from, states_from, targets_from}

abbrev pub class_count : List ℕ → ℕ
class_count w = at w 1

-- L
abbrev pub longest_word : List ℕ → ℕ
longest_word w = at w 2

-- E
abbrev pub expansion_word : List ℕ → ℕ
expansion_word w = at w 3

abbrev pub rule_count : List ℕ → ℕ
rule_count w = at w 4

-- the default's mode; sound words have no other number than 0, 1 and 2
abbrev pub word_mode : ℕ → Mode
word_mode zero = Absent
word_mode (suc zero) = Single
word_mode (suc (suc n)) = Paired

abbrev pub mode_at : List ℕ → Mode
mode_at w = word_mode (at w 5)

abbrev pub state_count : List ℕ → ℕ
state_count w = at w 0

abbrev pub depth_word : List ℕ → ℕ → ℕ
depth_word w s = at w (states_from + 3 * s)

-- end + 1
abbrev pub accept_at_end_word : List ℕ → ℕ → ℕ
accept_at_end_word w s = at w (states_from + 1 + 3 * s)

-- go + 1
abbrev pub accept_word : List ℕ → ℕ → ℕ
accept_word w s = at w (states_from + 2 + 3 * s)

-- of state s by class k
abbrev pub target_word : List ℕ → ℕ → ℕ → ℕ
target_word w s k = at w (targets_from + 64 * s + k)

-- the words from block g on: K, anchored, output count, then the output characters
abbrev pub block_at : List ℕ → ℕ → List ℕ
block_at w g = drop (blocks_from + block_size * g) w

abbrev pub between : ℕ → ℕ → ℕ → Bool
between lo hi x = leb lo x && leb x hi

-- not 0, which stands for none
abbrev pub used : ℕ → Bool
used n = not (eqb n 0)

-- of some coefficients "just one" is not 0, and it is 1
unfoldable pub one_only : List ℕ → Bool
one_only ks = all_of (eqb (count used ks) 1 ∷ any (eqb 1) ks ∷ [])

-- entry j of a block: "a known sort, and a digit entry has one of the four shifts and just one coefficient, of 1, below K"
unfoldable pub sound_entry : List ℕ → ℕ → Bool
sound_entry b j =
    let sort = at b (3 + entry_size * j) in
    let shift = at b (4 + entry_size * j) in
    let coefficients = take (at b 0) (drop (5 + entry_size * j) b) in
    all_of (leb sort 1 ∷ implies (eqb sort 1) (all_of (is_shift shift ∷ one_only coefficients ∷ [])) ∷ [])

module _ (w : List ℕ) where
  -- "states 1 to 256, classes 1 to 64, L 1 to 8, E 0 to 8, rules 1 to 32, default 0 or 1", or 2, and "E is then at least 1"
  unfoldable pub sound_header : Bool
  sound_header =
      all_of (
      between 1 256 (state_count w)
      ∷ between 1 64 (class_count w)
      ∷ between 1 8 (longest_word w)
      ∷ leb (expansion_word w) 8
      ∷ between 1 32 (rule_count w)
      ∷ leb (at w 5) 2
      ∷ leb (least (mode_at w)) (expansion_word w)
      ∷ [])

  -- "the class starts begin at 0 and rise strictly"
  unfoldable pub sound_starts : Bool
  sound_starts = all_of (eqb (at w 6) 0 ∷ for_below (pred (class_count w)) (λ k. ltb (at w (classes_from + k)) (at w (classes_from + 1 + k))) ∷ [])

  -- "blocks have K 1 to L (default 1), anchored 0 or 1 (default 0), output count at most E", and sound entries in use
  unfoldable pub sound_block : ℕ → ℕ → ℕ → Bool
  sound_block g most anchored =
      let b = block_at w g in
      all_of (between 1 most (at b 0) ∷ leb (at b 1) anchored ∷ leb (at b 2) (expansion_word w) ∷ for_below (at b 2) (sound_entry b) ∷ [])

  unfoldable pub sound_blocks : Bool
  sound_blocks =
      all_of (for_below (rule_count w) (λ g. sound_block g (longest_word w) 1) ∷ implies (used (at w 5)) (sound_block default_number 1 0) ∷ [])

  -- "end and go name rules below the count whose K is the depth": n is such a rule's number + 1
  unfoldable pub names_rule : ℕ → ℕ → Bool
  names_rule depth n = all_of (leb n (rule_count w) ∷ eqb (at (block_at w (pred n)) 0) depth ∷ [])

  -- "a target exceeds its state's number, is below the state count and lies one deeper"
  unfoldable pub sound_target : ℕ → ℕ → Bool
  sound_target s q = all_of (ltb s q ∷ ltb q (state_count w) ∷ eqb (depth_word w q) (suc (depth_word w s)) ∷ [])

  -- "state 0 has depth 0, others 1 to L"; "go's unanchored, and a go comes with an end"; "a state with a go has no targets"
  unfoldable pub sound_state : ℕ → Bool
  sound_state s =
      let depth = depth_word w s in
      let end = accept_at_end_word w s in
      let go = accept_word w s in
      all_of (
      cond (eqb s 0) (eqb depth 0) (between 1 (longest_word w) depth)
      ∷ implies (used end) (names_rule depth end)
      ∷ implies (used go) (all_of (names_rule depth go ∷ eqb (at (block_at w (pred go)) 1) 0 ∷ used end ∷ []))
      ∷ for_below (class_count w) (λ k. let q = target_word w s k in implies (used q) (all_of (not (used go) ∷ sound_target s q ∷ [])))
      ∷ [])

  unfoldable pub sound : Bool
  sound = all_of (leb word_count (length w) ∷ sound_header ∷ sound_starts ∷ sound_blocks ∷ for_below (state_count w) sound_state ∷ [])
