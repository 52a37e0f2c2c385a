-- What is compiled of a table's loaded array.
use Rattle.std.specs.Prelude.{List, [], ◌∷◌, ◌++◌, ℕ, zero, suc, max, ◌*◌, ltb, length, drop}
use Rattle.lists.specs.Lists.{flat_map, pad}
use Rattle.lists.specs.Decide.{select}
use Rattle.meaning.specs.Refusal.{refused, accepted}
use Rattle.meaning.specs.Table.{Mode, Absent, Table}
use Rattle.meaning.specs.Block.{at, block_size}
use Rattle.meaning.specs.bridge.Flat.{table_at, expansion_at, blocks_of}
use Rattle.automaton.specs.Classes.{starts}
use Rattle.automaton.specs.States.{states}
use Rattle.automaton.specs.Layout.{word_count, mode_word, state_words, target_words, states_size, targets_size}
use Rattle.automaton.specs.Compile.{CompileOutcome}

-- L by the array
unfoldable pub longest_at : List ℕ → ℕ → ℕ
longest_at loaded zero = 0
longest_at loaded (suc n) = max (longest_at loaded n) (at loaded (block_size * n))

-- the header by the array, the table being the one read back of it
abbrev pub header_at : Table → List ℕ → ℕ → Mode → List ℕ
header_at t loaded n m =
    length (states t) ∷ length (starts t) ∷ longest_at loaded n ∷ expansion_at loaded n m ∷ n ∷ mode_word m ∷ []

-- the words by the array
unfoldable pub words_at : Table → List ℕ → ℕ → Mode → List ℕ
words_at t loaded n m =
    header_at t loaded n m
    ++ (pad 64 (starts t)
    ++ (pad states_size (flat_map (state_words t) (states t))
    ++ (pad targets_size (flat_map (target_words t) (states t))
    ++ blocks_of loaded)))

-- "8 a 65th class; 9 a 257th state", which leave the words zero, and else the words
unfoldable pub built_by : Table → List ℕ → ℕ → Mode → List ℕ → CompileOutcome
built_by t loaded n m rest =
    select (
    (ltb 64 (length (starts t)), record { answer = refused 8; words = pad word_count [] ++ rest })
    ∷ (ltb 256 (length (states t)), record { answer = refused 9; words = pad word_count [] ++ rest })
    ∷ []) (record { answer = accepted tt; words = words_at t loaded n m ++ rest })

-- the loaded array of a table compiled into words as found
abbrev pub built : List ℕ → ℕ → Mode → List ℕ → CompileOutcome
built loaded n m buffer = built_by (table_at loaded n Absent) loaded n m (drop word_count buffer)
