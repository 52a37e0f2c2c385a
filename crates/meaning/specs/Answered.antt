-- "Order: .. 1, then records from the first, each by 2, 3, 4, 6; at the table's end 4, 5, 7 .. Direct 1 to 7, 14, 15": small cases with two
-- faults, of refusals that are tested one after the other, as rows, and the test of a row.
use Rattle.std.specs.Prelude.{Bool, false, ◌&&◌, List, [], ◌∷◌, ◌++◌, ℕ, suc, ◌*◌, ◌≤◌, T, eqb, length}
use Rattle.lists.specs.Lists.{flat_map, up_to}
use Rattle.meaning.specs.Refusal.{Outcome, refused, accepted}
use Rattle.meaning.specs.Reader.{Reading, unfilled, LeadTo, read_table}
use Rattle.meaning.specs.Direct.{limit, admitted}
use Rattle.meaning.specs.Samples.{entry, rule, span, out}

-- refused by the number
abbrev pub refused_by : {A : Type 0} → ℕ → Outcome A → Bool
refused_by n (refused k) = eqb n k
refused_by n (accepted a) = false

-- with both faults the first number is answered; with the first fault mended, the second
abbrev pub before : {A : Type 0} → ℕ → ℕ → Outcome A → Outcome A → Bool
before first second both mended = refused_by first both && refused_by second mended

abbrev table : ℕ → ℕ → List ℕ → List ℕ → Bool
table first second both mended = before first second (read_table both) (read_table mended)

-- the records n times; n ranges of position 0; a record of no kind; a rule of one position that takes character 0; a default
abbrev times : ℕ → List ℕ → List ℕ
times n b = flat_map (λ i. b) (up_to n)

abbrev spans : ℕ → List ℕ
spans n = flat_map (λ i. span 0 (2 * i) (2 * i)) (up_to n)

abbrev unknown : List ℕ
unknown = entry 0 0 0 0 0

abbrev short : List ℕ
short = rule 1 0 ++ span 0 0 0

abbrev default : List ℕ
default = entry 5 0 0 0 0

unfoldable pub table_order : List Bool
table_order =
    -- a byte too many, behind a record of no kind
    table 1 2 (unknown ++ (0 ∷ [])) unknown
    -- of one record: a range, the first record of all, with its lowest above its highest
    ∷ table 2 3 (span 0 1 0) (span 0 0 0)
    -- a second default, with 2 in byte 1 or with the mark of request [8]
    ∷ table 2 3 (short ++ default ++ entry 5 2 0 0 0) (short ++ default ++ entry 5 1 0 0 0)
    -- a range of a position not below K, the one before it being skipped
    ∷ table 3 4 (rule 1 0 ++ span 1 0 0) (rule 2 0 ++ span 1 0 0)
    -- a 33rd rule, the 32nd being unfilled
    ∷ table 4 6 (times 31 short ++ rule 1 0 ++ rule 1 0) (times 32 short ++ rule 1 0)
    -- "records from the first": a fifth range, and behind it a record of no kind
    ∷ table 6 2 (rule 1 0 ++ spans 5 ++ unknown) (rule 1 0 ++ spans 4 ++ unknown)
    -- "at the table's end 4, 5", which do not meet (`EndsApart`): a fifth range, and a position unfilled; a ninth output character, and no rule
    ∷ table 6 4 (rule 2 0 ++ spans 5) (rule 2 0 ++ spans 4)
    ∷ table 6 5 (default ++ times 9 (out 0)) (default ++ times 8 (out 0))
    -- a value above 65535, and a rule unfilled, or none
    ∷ table 4 7 (short ++ out 65536 ++ rule 1 0) (short ++ out 65536 ++ short)
    ∷ table 5 7 (default ++ out 65536) (short ++ default ++ out 65536)
    -- direct conversion of one character too many, without room, the value above 65535 or not
    ∷ before 7 14 (admitted (short ++ out 65536) (suc limit) 0) (admitted (short ++ out 65535) (suc limit) 0)
    ∷ before 14 15 (admitted (short ++ out 0) (suc limit) 0) (admitted (short ++ out 0) limit 0)
    ∷ []

-- at the table's end, ranges that are unfilled are those of a rule
unfoldable pub EndsApart : Type 0
EndsApart = (b : List ℕ) (s : Reading) → LeadTo b s → T (unfilled s) → 1 ≤ length s.table.rules
