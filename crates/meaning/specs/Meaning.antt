-- "Meaning (Definition 7)": what a table makes of an input.
use Rattle.std.specs.Prelude.{Bool, true, false, ◌&&◌, ◌||◌, not, cond, List, [], ◌∷◌, map, ℕ, zero, suc, pred, ◌+◌, eqb, ltb, nat_abs, length, take}
use Rattle.std.specs.Prelude.{Option, None, Some}
use Rattle.lists.specs.Lists.{flat_map, fold}
use Rattle.meaning.specs.Table.{Group, Mode, Absent, Single, Paired, Table, mode, is_pair, rule_at, group, default_number, pair_number}
use Rattle.meaning.specs.Value.{value, fits_word}

-- "A rule fits if the next K characters exist and lie in its ranges and, when anchored, they are the last K of the input." The input goes
-- on with `rest`.
unfoldable pub fits : Group → List ℕ → Bool
fits g rest = fits_word g.ranges (take g.size rest) && (not g.anchored || eqb (length rest) g.size)

-- the choice so far against rule r, which fits or not: "the shortest is chosen, then the lowest number"
abbrev pub better : Table → Option ℕ → ℕ → Bool → Option ℕ
better t best r false = best
better t None r true = Some r
better t (Some b) r true = Some (cond (ltb (rule_at t r).size (rule_at t b).size) r b)

-- "of the rules that fit", those below n
unfoldable pub best : Table → ℕ → List ℕ → Option ℕ
best t zero rest = None
best t (suc r) rest = better t (best t r rest) r (fits (rule_at t r) rest)

-- "the next two characters are such a pair"
abbrev pub starts_pair : List ℕ → Bool
starts_pair [] = false
starts_pair (x ∷ []) = false
starts_pair (x ∷ (y ∷ rest)) = is_pair x y

-- "With none, the default is chosen", and under the mark, "where no rule fits and the next two characters are such a pair, the default
-- takes both"; none: "With no default either"
abbrev pub or_default : Mode → List ℕ → Option ℕ → Option ℕ
or_default m rest (Some r) = Some r
or_default Absent rest None = None
or_default Single rest None = Some default_number
or_default Paired rest None = Some (cond (starts_pair rest) pair_number default_number)

-- the number of the group chosen
unfoldable pub choose : Table → List ℕ → Option ℕ
choose t rest = or_default (mode t) rest (best t (length t.rules) rest)

-- what a group writes for a word; the values of an accepted table are not negative
unfoldable pub written : Group → List ℕ → List ℕ
written g w = map (λ o. nat_abs (value o w)) g.outputs

-- a group's number and the characters that it was chosen for
pub record Emission : Type 0 where
  pub group : ℕ
  pub word : List ℕ

-- what was written for a log of emissions, where `write` says what a group writes for a word
unfoldable pub text_of : (ℕ → List ℕ → List ℕ) → List Emission → List ℕ
text_of write log = flat_map (λ e. write e.group e.word) log

-- how many characters a log covers
unfoldable pub covered : List Emission → ℕ
covered log = fold (λ e n. length e.word + n) 0 log

-- the choices made, in order, and whether the end of the input closed the conversion
pub record Conversion : Type 0 where
  pub log : List Emission
  pub closed : Bool

abbrev pub chosen : Emission → Conversion → Conversion
chosen e c = record { log = e ∷ c.log; closed = c.closed }

-- "conversion stops at this place", or "the chosen group's output is written and the place moves on by K"
abbrev pub convert_by : Table → Option ℕ → List ℕ → (ℕ → Conversion) → Conversion
convert_by t None rest onward = record { log = []; closed = false }
convert_by t (Some n) rest onward =
    let k = (group t n).size in chosen (record { group = n; word = take k rest }) (onward (pred k))

-- the conversion of the rest of an input, less its first `skip` characters, which belong to the group chosen last
unfoldable pub convert_from : Table → ℕ → List ℕ → Conversion
convert_from t skip [] = record { log = []; closed = true }
convert_from t (suc skip) (c ∷ rest) = convert_from t skip rest
convert_from t zero (c ∷ rest) = convert_by t (choose t (c ∷ rest)) (c ∷ rest) (λ skip. convert_from t skip rest)

-- "Start at place 0"
unfoldable pub convert : Table → List ℕ → Conversion
convert t input = convert_from t 0 input

-- the text, and the place where the conversion ended
abbrev pub meaning_text : Table → List ℕ → List ℕ
meaning_text t input = text_of (λ n w. written (group t n) w) (convert t input).log

abbrev pub meaning_place : Table → List ℕ → ℕ
meaning_place t input = covered (convert t input).log
