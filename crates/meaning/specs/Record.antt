-- "Table records": the record that eight bytes hold, and refusal 2.
use Rattle.std.specs.Prelude.{Bool, true, false, List, [], ◌∷◌, ℕ, ◌+◌, ◌*◌, eqb, leb, get_or, drop}
use Rattle.std.specs.Prelude.{Option, None, Some}
use Rattle.lists.specs.Lists.{all}
use Rattle.lists.specs.Decide.{all_of, select}
use Rattle.meaning.specs.Table.{Range, is_shift, Mark, unmarked, marked}

-- a rule's K and whether it is anchored; a range's position; an output character's constant, 32 bits; a term's position and coefficient,
-- 16 bits; the default, with its mark; a hexadecimal digit's position and shift
pub data Record : Type 0 where
  rule : ℕ → Bool → Record
  range : ℕ → Range → Record
  output : ℕ → Record
  term : ℕ → ℕ → Record
  default : Mark → Record
  hexadecimal : ℕ → ℕ → Record

-- "may carry 1 in byte 1": whether it does
abbrev pub mark_of : Bool → Mark
mark_of true = marked
mark_of false = unmarked

-- "Bytes not named are zero"
abbrev pub zeros : List ℕ → Bool
zeros bs = all (eqb 0) bs

-- None is refusal 2: "unknown kind, a field outside its own range, a byte that must be zero and isn't, lowest above highest".
unfoldable pub decode : List ℕ → Option Record
decode b =
    let byte : ℕ → ℕ = λ i. get_or b i 0 in
    let kind = byte 0 in
    let p = byte 1 in
    let lo = byte 4 + 256 * byte 5 in
    let hi = byte 6 + 256 * byte 7 in
    select (
    (all_of (eqb kind 1 ∷ leb 1 p ∷ leb p 8 ∷ leb (byte 2) 1 ∷ zeros (drop 3 b) ∷ []), Some (rule p (eqb (byte 2) 1)))
    ∷ (all_of (eqb kind 2 ∷ leb p 7 ∷ zeros (byte 2 ∷ byte 3 ∷ []) ∷ leb lo hi ∷ []), Some (range p (record { lowest = lo; highest = hi })))
    ∷ (all_of (eqb kind 3 ∷ zeros (p ∷ byte 2 ∷ byte 3 ∷ []) ∷ []), Some (output (lo + 65536 * hi)))
    ∷ (all_of (eqb kind 4 ∷ leb p 7 ∷ zeros (byte 2 ∷ byte 3 ∷ hi ∷ []) ∷ leb 1 lo ∷ []), Some (term p lo))
    ∷ (all_of (eqb kind 5 ∷ leb p 1 ∷ zeros (drop 2 b) ∷ []), Some (default (mark_of (eqb p 1))))
    ∷ (all_of (eqb kind 6 ∷ leb p 7 ∷ is_shift (byte 2) ∷ zeros (drop 3 b) ∷ []), Some (hexadecimal p (byte 2)))
    ∷ []) None
