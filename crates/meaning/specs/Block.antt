-- A group's numbers, from which its output is worked out modulo 65536: what document 01 calls a block.
use Rattle.std.specs.Prelude.{Bool, true, false, cond, List, [], ◌∷◌, ◌++◌, map, ℕ, ◌+◌, ◌-◌, ◌*◌, ◌%◌, eqb, ℤ, pos, negsuc, length, get_or, take, drop, replicate}
use Rattle.lists.specs.Lists.{flat_map, tab_from, pad}
use Rattle.meaning.specs.Table.{Output, sum, digit, Group}
use Rattle.meaning.specs.Value.{nibble, hex_digit}

-- "Constants and coefficients are kept modulo 65536"
unfoldable pub word : ℤ → ℕ
word (pos n) = n % 65536
word (negsuc n) = 65535 - n % 65536

abbrev pub bit : Bool → ℕ
bit true = 1
bit false = 0

-- the words of an entry: a sort, "a constant and eight coefficients by position"
abbrev pub entry_size : ℕ
entry_size = 10

-- a block: "K, anchored, output count, then eight times" an entry
abbrev pub block_size : ℕ
block_size = 3 + 8 * entry_size

-- "33 blocks"
abbrev pub blocks_size : ℕ
blocks_size = 33 * block_size

-- an output character's entry: "a first word, 0 for a sum and 1 for a digit. A digit keeps its shift as constant and 1 at its position's
-- coefficient."
unfoldable pub entry : Output → List ℕ
entry (sum c ks) = 0 ∷ word c ∷ pad (entry_size - 2) (map word ks)
entry (digit p shift) = 1 ∷ shift ∷ pad (entry_size - 2) (replicate p 0 ++ (1 ∷ []))

-- "unused words are 0"
unfoldable pub block : Group → List ℕ
block g = pad block_size (g.size ∷ bit g.anchored ∷ length g.outputs ∷ flat_map entry g.outputs)

-- number i of a list of words
abbrev pub at : List ℕ → ℕ → ℕ
at w i = get_or w i 0

-- the sum modulo 65536: v, and each coefficient times its character
unfoldable pub word_sum : ℕ → List ℕ → List ℕ → ℕ
word_sum v [] w = v
word_sum v (a ∷ ks) [] = v
word_sum v (a ∷ ks) (c ∷ w) = word_sum ((v + a * c) % 65536) ks w

-- what an entry writes for a word, by its sort, its constant and its coefficients below K: the sum of the constant and the coefficients times
-- the characters; or the digit that the constant as shift gives of that sum without it, which with one coefficient of 1 is a character
abbrev pub value_by : ℕ → ℕ → List ℕ → List ℕ → ℕ
value_by sort constant ks w = cond (eqb sort 0) (word_sum constant ks w) (hex_digit (nibble constant (word_sum 0 ks w)))

-- what entry j of a block writes for a word
unfoldable pub entry_value : List ℕ → ℕ → List ℕ → ℕ
entry_value b j w = value_by (at b (3 + entry_size * j)) (at b (4 + entry_size * j)) (take (at b 0) (drop (5 + entry_size * j) b)) w

-- what a block writes for a word
unfoldable pub block_output : List ℕ → List ℕ → List ℕ
block_output b w = tab_from 0 (at b 2) (λ j. entry_value b j w)
