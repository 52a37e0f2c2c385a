-- A table as one flat array, and what is read back of it.
use Rattle.std.specs.Prelude.{Bool, ◌&&◌, cond, List, [], ◌∷◌, ◌++◌, map, ◌≡◌, ℕ, zero, suc, max, ◌+◌, ◌-◌, ◌*◌, ◌%◌, ◌/◌, ◌^◌, ◌≤◌, ◌<◌, eqb, ltb, ℤ, pos, negsuc, length, take, drop}
use Rattle.std.specs.Prelude.{Option, None, Some}
use Rattle.lists.specs.Lists.{flat_map, tab_from, pad, optional}
use Rattle.lists.specs.Decide.{for_below, implies, select}
use Rattle.meaning.specs.Table.{Range, Output, sum, digit, Group, Mark, unmarked, marked, Mode, Absent, Single, Paired, Table, present, least, default_number, pair_number}
use Rattle.meaning.specs.Reader.{signed}
use Rattle.meaning.specs.Block.{at, block, block_output, block_size, blocks_size, entry_size}
use Rattle.meaning.specs.Value.{safe_output}
use Rattle.meaning.specs.Refusal.{refused, accepted}
use Rattle.meaning.specs.Meaning.{Emission, text_of, covered, Conversion, convert}
use Rattle.meaning.specs.Direct.{limit, DirectOutcome, over}

-- a row of n numbers for each of the 32 rules that there may be, and one for the default
unfoldable pub rows : ℕ → (Group → List ℕ) → Table → List ℕ
rows n f t = pad (32 * n) (flat_map (λ g. pad n (f g)) t.rules) ++ pad n (flat_map (λ g. pad n (f g)) (optional t.default))

-- how many ranges each position has
unfoldable pub slot_words : Table → List ℕ
slot_words t = rows 8 (λ g. map length g.ranges) t

-- the ranges, four of two numbers for each position
unfoldable pub range_words : Table → List ℕ
range_words t = rows 64 (λ g. flat_map (λ rs. pad 8 (flat_map (λ r. r.lowest ∷ r.highest ∷ []) rs)) g.ranges) t

unfoldable pub block_words : Table → List ℕ
block_words t = rows block_size block t

-- an output character's constant in 32 bits
abbrev pub bits : ℤ → ℕ
bits (pos n) = n % 2 ^ 32
bits (negsuc n) = 2 ^ 32 - 1 - n % 2 ^ 32

-- its upper half; the lower half stands in the block, and a digit has none
abbrev pub high_of : Output → ℕ
high_of (sum c ks) = bits c / 65536
high_of (digit p shift) = 0

unfoldable pub high_words : Table → List ℕ
high_words t = rows 8 (λ g. map high_of g.outputs) t

-- The array: the blocks, how many ranges each position has, the ranges, the upper halves of the constants.
abbrev pub joined_words : List ℕ → List ℕ → List ℕ → List ℕ → List ℕ
joined_words blocks slots ranges highs = blocks ++ (slots ++ (ranges ++ highs))

unfoldable pub loaded_words : Table → List ℕ
loaded_words t = joined_words (block_words t) (slot_words t) (range_words t) (high_words t)

-- where its parts begin, and its length
abbrev pub slots_from : ℕ
slots_from = blocks_size

abbrev pub ranges_from : ℕ
ranges_from = slots_from + 33 * 8

abbrev pub highs_from : ℕ
highs_from = ranges_from + 33 * 64

abbrev pub loaded_size : ℕ
loaded_size = highs_from + 33 * 8

-- the blocks alone
abbrev pub blocks_of : List ℕ → List ℕ
blocks_of loaded = take blocks_size loaded

-- Read back: the ranges of place 8 g + p, position p of group g.
abbrev pub range_at : List ℕ → ℕ → ℕ → Range
range_at loaded place k =
    let i = ranges_from + 8 * place + 2 * k in record { lowest = at loaded i; highest = at loaded (i + 1) }

unfoldable pub ranges_at : List ℕ → ℕ → List Range
ranges_at loaded place = tab_from 0 (at loaded (slots_from + place)) (range_at loaded place)

unfoldable pub pattern_at : List ℕ → ℕ → ℕ → List (List Range)
pattern_at loaded g size = tab_from 0 size (λ p. ranges_at loaded (8 * g + p))

-- a group without its output characters
unfoldable pub group_at : List ℕ → ℕ → Group
group_at loaded g =
    let size = at loaded (block_size * g) in
    record { size = size; anchored = eqb (at loaded (block_size * g + 1)) 1; ranges = pattern_at loaded g size; outputs = [] }

-- a mode's default, and its mark
abbrev pub default_by : Mode → Group → Option Group
default_by Absent g = None
default_by Single g = Some g
default_by Paired g = Some g

abbrev pub mark_by : Mode → Mark
mark_by Absent = unmarked
mark_by Single = unmarked
mark_by Paired = marked

-- the first n groups as rules, and group 32 as the default if there is one
unfoldable pub table_at : List ℕ → ℕ → Mode → Table
table_at loaded n m =
    record {
      rules = tab_from 0 n (group_at loaded);
      default = default_by m (group_at loaded default_number);
      mark = mark_by m;
    }

-- output character j of group g is a sum
abbrev pub is_sum_at : List ℕ → ℕ → ℕ → Bool
is_sum_at loaded g j = eqb (at loaded (block_size * g + 3 + entry_size * j)) 0

-- that sum: its constant of 32 bits, and its coefficients of 16 bits below the group's length
unfoldable pub sum_at : List ℕ → ℕ → ℕ → Output
sum_at loaded g j =
    sum (signed 32 (at loaded (block_size * g + 4 + entry_size * j) + 65536 * at loaded (highs_from + 8 * g + j)))
    (map (signed 16) (take (at loaded (block_size * g)) (drop (block_size * g + 5 + entry_size * j) loaded)))

-- refusal 7's test on the array: each output character of a group, which a digit passes, each group
abbrev pub safe_output_at : List ℕ → ℕ → ℕ → Bool
safe_output_at loaded g j =
    implies (is_sum_at loaded g j) (safe_output (pattern_at loaded g (at loaded (block_size * g))) (sum_at loaded g j))

unfoldable pub safe_group_at : List ℕ → ℕ → Bool
safe_group_at loaded g = for_below (at loaded (block_size * g + 2)) (safe_output_at loaded g)

unfoldable pub safe_at : List ℕ → ℕ → Mode → Bool
safe_at loaded n m = for_below n (safe_group_at loaded) && implies (present m) (safe_group_at loaded default_number)

-- E by the array
unfoldable pub expansion_from : List ℕ → ℕ → ℕ → ℕ
expansion_from loaded zero most = most
expansion_from loaded (suc n) most = max (expansion_from loaded n most) (at loaded (block_size * n + 2))

abbrev pub expansion_at : List ℕ → ℕ → Mode → ℕ
expansion_at loaded n m = expansion_from loaded n (max (least m) (cond (present m) (at loaded (32 * block_size + 2)) 0))

-- Definition 7 by the array, and the text that its blocks write
abbrev pub flat_conversion : List ℕ → ℕ → Mode → List ℕ → Conversion
flat_conversion loaded n m input = convert (table_at loaded n m) input

-- how many characters group g takes and writes, by the array; a pair has no block
abbrev pub size_at : List ℕ → ℕ → ℕ
size_at loaded g = cond (eqb g pair_number) 2 (at loaded (block_size * g))

abbrev pub count_at : List ℕ → ℕ → ℕ
count_at loaded g = cond (eqb g pair_number) 2 (at loaded (block_size * g + 2))

-- a pair is written unchanged, and has no block
abbrev pub flat_write : List ℕ → ℕ → List ℕ → List ℕ
flat_write loaded g w = cond (eqb g pair_number) w (block_output (drop (block_size * g) loaded) w)

abbrev pub flat_text : List ℕ → List Emission → List ℕ
flat_text loaded log = text_of (flat_write loaded) log

-- "14, 15", then the conversion into the buffer
unfoldable pub flat_direct : List ℕ → ℕ → Mode → List ℕ → List ℕ → DirectOutcome
flat_direct loaded n m input buffer =
    let whole = flat_conversion loaded n m input in
    let text = flat_text loaded whole.log in
    select (
    (ltb limit (length input), record { answer = refused 14; output = buffer })
    ∷ (ltb (length buffer) (expansion_at loaded n m * length input), record { answer = refused 15; output = buffer })
    ∷ []) (record { answer = accepted (record { closed = whole.closed; place = covered whole.log; count = length text }); output = over text buffer })

-- the array is of its length, and the counts in it within their limits
pub record Flat (loaded : List ℕ) : Type 0 where
  pub long : length loaded ≡ loaded_size
  pub few : (p : ℕ) → p < 33 * 8 → at loaded (slots_from + p) ≤ 4
  pub size : (g : ℕ) → g < 33 → at loaded (block_size * g) ≤ 8
  pub outputs : (g : ℕ) → g < 33 → at loaded (block_size * g + 2) ≤ 8
