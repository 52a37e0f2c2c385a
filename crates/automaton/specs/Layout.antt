-- "Layout, 19,961 words": the machine words of a table.
use Rattle.std.specs.Prelude.{List, [], ◌∷◌, map, ℕ, ◌+◌, ◌*◌, length}
use Rattle.lists.specs.Lists.{flat_map, pad, optional}
use Rattle.meaning.specs.Table.{Table, longest, expansion, Mode, Absent, Single, Paired, mode}
use Rattle.meaning.specs.Block.{blocks_size, block, block_size}
use Rattle.automaton.specs.Classes.{starts}
use Rattle.automaton.specs.States.{State, states, accept_at_end_of, accept_of, target_of}

-- "from 6, 64 class starts"
abbrev pub classes_from : ℕ
classes_from = 6

-- "from 70, three words a state", of 256
abbrev pub states_from : ℕ
states_from = classes_from + 64

abbrev pub states_size : ℕ
states_size = 256 * 3

-- "from 838, 64 targets a state"
abbrev pub targets_from : ℕ
targets_from = states_from + states_size

abbrev pub targets_size : ℕ
targets_size = 256 * 64

-- "from 17222, 33 blocks"
abbrev pub blocks_from : ℕ
blocks_from = targets_from + targets_size

-- "19,961 words"
abbrev pub word_count : ℕ
word_count = blocks_from + blocks_size

-- "Header word 5 is 2 for this mode."
abbrev pub mode_word : Mode → ℕ
mode_word Absent = 0
mode_word Single = 1
mode_word Paired = 2

-- "0 states, 1 classes, 2 L, 3 E, 4 rules, 5 default (0 or 1)", or 2 for a marked one
abbrev pub header : Table → List ℕ
header t = length (states t) ∷ length (starts t) ∷ longest t ∷ expansion t ∷ length t.rules ∷ mode_word (mode t) ∷ []

-- "three words a state (depth, end + 1, go + 1; 0 for none)"
abbrev pub state_words : Table → State → List ℕ
state_words t q = q.depth ∷ accept_at_end_of t q ∷ accept_of t q ∷ []

-- "64 targets a state (0 for none)"
abbrev pub target_words : Table → State → List ℕ
target_words t q = pad 64 (map (target_of t (states t) q) (starts t))

-- the six parts, in order; "unused words are 0"
unfoldable pub parts : Table → List (List ℕ)
parts t =
    header t
    ∷ pad 64 (starts t)
    ∷ pad states_size (flat_map (state_words t) (states t))
    ∷ pad targets_size (flat_map (target_words t) (states t))
    ∷ pad (32 * block_size) (flat_map block t.rules)
    ∷ pad block_size (flat_map block (optional t.default))
    ∷ []

unfoldable pub words : Table → List ℕ
words t = flat_map (λ part. part) (parts t)
