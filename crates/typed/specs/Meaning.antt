-- What a typed text means, without records: Definition 7's choice over its patterns, and its expressions over whole numbers.
use Rattle.std.specs.Prelude.{cond, List, [], ◌∷◌, map, ℕ, eqb, nat_abs, length, get_or}
use Rattle.std.specs.Prelude.{Option, None, Some}
use Rattle.lists.specs.Lists.{flat_map}
use Rattle.meaning.specs.Table.{Group, unmarked, Table, every_character, default_number}
use Rattle.meaning.specs.Meaning.{text_of, covered, Conversion, convert}
use Rattle.expression.specs.Grammar.{Tree}
use Rattle.expression.specs.Value.{value_at}
use Rattle.typed.specs.Grammar.{pattern, otherwise, Line}

-- the lines with a pattern, and those with `else`
abbrev pub rule_of : Line → List Line
rule_of l = elim l.head [ pattern p ↦ l ∷ [] | otherwise ↦ [] ]

abbrev pub default_of : Line → List Line
default_of l = elim l.head [ pattern p ↦ [] | otherwise ↦ l ∷ [] ]

-- a line's pattern as a group that writes nothing
abbrev pub group_of : Line → Group
group_of l =
    elim l.head [
      | pattern p ↦ record { size = length p.items; anchored = p.anchored; ranges = p.items; outputs = [] }
      | otherwise ↦ every_character []
    ]

abbrev pub first_of : {A : Type 0} → List A → Option A
first_of [] = None
first_of (x ∷ xs) = Some x

-- the patterns alone: rules are numbered from 0 in the text's order, and `else` is the default
unfoldable pub patterns : List Line → Table
patterns ls = record { rules = map group_of (flat_map rule_of ls); default = first_of (map group_of (flat_map default_of ls)); mark = unmarked }

abbrev pub silent : Line
silent = record { head = otherwise; outputs = [] }

-- the expressions of the line that has a number
unfoldable pub expressions : List Line → ℕ → List Tree
expressions ls n = cond (eqb n default_number) (get_or (flat_map default_of ls) 0 silent).outputs (get_or (flat_map rule_of ls) n silent).outputs

-- "with expressions read over whole numbers": what the line of a number writes for the characters that it was chosen for; in an accepted text no
-- value is negative
unfoldable pub writes : List Line → ℕ → List ℕ → List ℕ
writes ls n w = map (λ t. nat_abs (value_at w t)) (expressions ls n)

-- the choices made, in order
unfoldable pub choices : List Line → List ℕ → Conversion
choices ls input = convert (patterns ls) input

-- the text, and the place where the conversion ended
abbrev pub typed_text : List Line → List ℕ → List ℕ
typed_text ls input = text_of (writes ls) (choices ls input).log

abbrev pub typed_place : List Line → List ℕ → ℕ
typed_place ls input = covered (choices ls input).log
