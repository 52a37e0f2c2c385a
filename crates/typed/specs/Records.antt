-- The records of typed lines, and what refusal 17 asks of their expressions.
use Rattle.std.specs.Prelude.{Bool, ◌&&◌, List, ◌++◌, ℕ, ltb, ℤ, pos, length, get_or, drop, is_some}
use Rattle.std.specs.Int.Signed.{mag}
use Rattle.lists.specs.Lists.{all, flat_map}
use Rattle.meaning.specs.Table.{unmarked}
use Rattle.meaning.specs.Records.{rule_record, range_records, output_record, term_record, terms, default_record}
use Rattle.expression.specs.Grammar.{Tree, fold}
use Rattle.expression.specs.Parts.{Part, numbers, parts}
use Rattle.typed.specs.Grammar.{Head, pattern, otherwise, Line}

-- "Each part .. is brought to constant and coefficients"
abbrev pub part_of : Tree → Part
part_of t = fold parts t

abbrev pub constant : Part → ℤ
constant p = get_or (numbers p) 0 (pos 0)

abbrev pub coefficients : Part → List ℤ
coefficients p = drop 1 (numbers p)

-- in signed 16 bits; `mag` is n for n and for -(n + 1)
abbrev pub short : ℤ → Bool
short z = ltb (mag z) 32768

-- 17: "a product both of whose factors then have a coefficient other than 0, a constant or coefficient of any part outside signed 32 bits" (no part
-- was so), "or a final coefficient outside signed 16 bits"
unfoldable pub within17 : Part → Bool
within17 p = is_some p && all short (coefficients p)

unfoldable pub lines_within17 : List Line → Bool
lines_within17 ls = all (λ l. all (λ t. within17 (part_of t)) l.outputs) ls

-- "a final coefficient of 0 giving no record", "terms by position"
unfoldable pub output_records : Part → List ℕ
output_records p = output_record (constant p) ++ flat_map term_record (terms 0 (coefficients p))

unfoldable pub head_records : Head → List ℕ
head_records (pattern p) = rule_record (length p.items) p.anchored ++ range_records 0 p.items
head_records otherwise = default_record unmarked

unfoldable pub line_records : Line → List ℕ
line_records l = head_records l.head ++ flat_map (λ t. output_records (part_of t)) l.outputs

-- "the records come out in the text's order"
unfoldable pub records : List Line → List ℕ
records ls = flat_map line_records ls
