-- "Order: compiling 10, then 1, then records ..; at the table's end 4, 5, 7, 8, 9": rows as those of the table check, for the refusals that are
-- compiling's own.
use Rattle.std.specs.Prelude.{Bool, List, [], ◌∷◌, ◌++◌, ℕ, ◌+◌, ◌*◌}
use Rattle.lists.specs.Lists.{flat_map, up_to}
use Rattle.meaning.specs.Samples.{rule, span, out}
use Rattle.meaning.specs.Answered.{before}
use Rattle.automaton.specs.Layout.{word_count}
use Rattle.automaton.specs.Compile.{compilable}

-- a rule of one character, eight times
abbrev eight : ℕ → List ℕ
eight c = rule 8 0 ++ flat_map (λ p. span p c c) (up_to 8)

-- 32 of them, with each second character from c on. None shares a state with another but the first, so there are 1 + 32 * 8 = 257 states;
-- the class starts are 0 and those from c to c + 63, so 64 from 0, 65 from 1.
abbrev eights_from : ℕ → List ℕ
eights_from c = flat_map (λ i. eight (c + 2 * i)) (up_to 32)

unfoldable pub compile_order : List Bool
compile_order =
    -- no room, and a table of one byte
    before 10 1 (compilable (0 ∷ []) 0) (compilable (0 ∷ []) word_count)
    -- a value above 65535, and a 65th class
    ∷ before 7 8 (compilable (eights_from 1 ++ out 65536) word_count) (compilable (eights_from 1) word_count)
    -- a 65th class, and a 257th state
    ∷ before 8 9 (compilable (eights_from 1) word_count) (compilable (eights_from 0) word_count)
    ∷ []
