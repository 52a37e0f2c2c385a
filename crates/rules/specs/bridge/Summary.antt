-- The table check as it is run: a summary of the groups read so far instead of the groups, and the groups in one flat array.
use Rattle.std.specs.Prelude.{◌≡◌, ℕ, zero, suc, pred, ◌+◌, ◌*◌, ◌/◌, ◌%◌, ◌^◌, ◌<◌, ◌≤◌, Bool, false, cond, not, ◌&&◌, ◌||◌, T, List, [], ◌∷◌, take, drop, ◌==◌, nat_le, nat_lt, slice_set}
use Rattle.std.specs.Prelude.{Option, None, Some}
use Rattle.lists.specs.Decide.{select}
use Rattle.meaning.specs.Refusal.{Outcome, refused, accepted}
use Rattle.meaning.specs.Table.{present, default_number}
use Rattle.meaning.specs.Block.{bit, block_size, entry_size}
use Rattle.meaning.specs.Record.{Record, rule, range, output, term, default, hexadecimal, decode}
use Rattle.meaning.specs.bridge.Flat.{slots_from, ranges_from, highs_from}
use Rattle.rules.specs.bridge.Modes.{the_mode, marked_mode}
use Rattle.rules.specs.declared.mode.Mode.TheVariants as Mode
use Rattle.rules.specs.declared.reader.Reader.{Reader}
use Rattle.rules.specs.declared.reader.Last.{Last}

-- what is kept of a group that takes every character, as the default does, and of a rule that begins
abbrev pub every_last : Last
every_last = record { size = 1; positions = 1; slots = 1; highest = 65535; outputs = 0; named = 0 }

abbrev pub begun : ℕ → Last
begun k = record { size = k; positions = 0; slots = 0; highest = 0; outputs = 0; named = 0 }

-- nothing read yet; what is said of the last group is said of one that takes every character
abbrev pub started : Reader
started = record { kind = 0; rules = 0; mode = Mode.Absent; last = every_last }

-- there is a default
abbrev pub defaulted : Reader → Bool
defaulted r = present (the_mode r.mode)

abbrev pub ranges_read : Reader → Bool
ranges_read r = r.kind == 1 || r.kind == 2

abbrev pub gap : Reader → Bool
gap r = ranges_read r && nat_lt r.last.positions r.last.size

-- a term of the last output character has named the position: its bit is 1
abbrev pub is_named : ℕ → ℕ → Bool
is_named named p = named / 2 ^ p % 2 == 1

-- the number of a range among its position's
abbrev pub slot_number : Reader → ℕ → ℕ
slot_number r p = cond (p == r.last.positions) 0 r.last.slots

-- the summary after a record that changes the last group alone: its ranges, or its output characters
abbrev pub ranged_to : Reader → ℕ → ℕ → ℕ → Reader
ranged_to r positions slots highest =
    let l = r.last in
    record {
      kind = 2;
      rules = r.rules;
      mode = r.mode;
      last = record { size = l.size; positions = positions; slots = slots; highest = highest; outputs = l.outputs; named = l.named };
    }

abbrev pub summed_to : Reader → ℕ → ℕ → ℕ → Reader
summed_to r kind outputs named =
    let l = r.last in
    record {
      kind = kind;
      rules = r.rules;
      mode = r.mode;
      last = record { size = l.size; positions = l.positions; slots = l.slots; highest = l.highest; outputs = outputs; named = named };
    }

-- the summary with the record taken in
abbrev pub next : Reader → Record → Reader
next r (rule k a) = record { kind = 1; rules = r.rules + 1; mode = Mode.Absent; last = begun k }
next r (range p c) = ranged_to r (p + 1) (slot_number r p + 1) c.highest
next r (output c) = summed_to r 3 (r.last.outputs + 1) 0
next r (term p a) = summed_to r 4 r.last.outputs (r.last.named + 2 ^ p)
next r (hexadecimal p shift) = summed_to r 6 (r.last.outputs + 1) 0
next r (default k) = record { kind = 5; rules = r.rules; mode = marked_mode k; last = every_last }

-- one record by 3, 4, 6
unfoldable pub admit : Reader → Record → Outcome Reader
admit r (rule k a) =
    select ((defaulted r, refused 3) ∷ (gap r, refused 4) ∷ ((r.rules == 32), refused 6) ∷ []) (accepted (next r (rule k a)))
admit r (range p c) =
    let l = r.last in
    select (
    (not (ranges_read r) || nat_le l.size p || nat_lt (p + 1) l.positions || (p + 1 == l.positions && nat_le c.lowest l.highest), refused 3)
    ∷ (nat_lt l.positions p, refused 4)
    ∷ (p + 1 == l.positions && (l.slots == 4), refused 6)
    ∷ []) (accepted (next r (range p c)))
admit r (output c) =
    select (((r.kind == 0), refused 3) ∷ (gap r, refused 4) ∷ ((r.last.outputs == 8), refused 6) ∷ []) (accepted (next r (output c)))
admit r (term p a) =
    select ((not (r.kind == 3 || r.kind == 4) || nat_le r.last.size p || is_named r.last.named p, refused 3) ∷ []) (accepted (next r (term p a)))
admit r (hexadecimal p shift) =
    select ((r.kind == 0 || nat_le r.last.size p, refused 3) ∷ (gap r, refused 4) ∷ ((r.last.outputs == 8), refused 6) ∷ [])
    (accepted (next r (hexadecimal p shift)))
admit r (default k) = select ((defaulted r, refused 3) ∷ (gap r, refused 4) ∷ []) (accepted (next r (default k)))

-- "each by 2, 3, 4, 6"
abbrev pub admitted : Reader → Option Record → Outcome Reader
admitted r None = refused 2
admitted r (Some x) = admit r x

-- the last group's number
abbrev pub group_number : Reader → ℕ
group_number r = cond (defaulted r) default_number (pred r.rules)

-- The table's array with a range put in, an output character, a digit, and what a record puts in.
abbrev pub range_put : ℕ → ℕ → ℕ → ℕ → ℕ → List ℕ → List ℕ
range_put g p slot lowest highest l =
    let i = ranges_from + 64 * g + 8 * p + 2 * slot in slice_set (slice_set (slice_set l (slots_from + 8 * g + p) (slot + 1)) i lowest) (i + 1) highest

abbrev pub output_put : ℕ → ℕ → ℕ → List ℕ → List ℕ
output_put g j c l = slice_set (slice_set (slice_set l (block_size * g + 2) (j + 1)) (block_size * g + 4 + entry_size * j) (c % 65536)) (highs_from + 8 * g + j) (c / 65536)

abbrev pub digit_put : ℕ → ℕ → ℕ → ℕ → List ℕ → List ℕ
digit_put g j p shift l =
    let i = block_size * g + 3 + entry_size * j in slice_set (slice_set (slice_set (slice_set l (block_size * g + 2) (j + 1)) i 1) (i + 1) shift) (i + 2 + p) 1

abbrev pub loaded_by : Reader → Record → List ℕ → List ℕ
loaded_by r (rule k a) l = slice_set (slice_set l (block_size * r.rules) k) (block_size * r.rules + 1) (bit a)
loaded_by r (range p c) l = range_put (group_number r) p (slot_number r p) c.lowest c.highest l
loaded_by r (output c) l = output_put (group_number r) r.last.outputs c l
loaded_by r (hexadecimal p shift) l = digit_put (group_number r) r.last.outputs p shift l
loaded_by r (term p a) l = slice_set l (block_size * group_number r + 5 + entry_size * pred r.last.outputs + p) a
loaded_by r (default k) l = slice_set (slice_set (slice_set l (32 * block_size) 1) (slots_from + 32 * 8) 1) (ranges_from + 32 * 64 + 1) 65535

-- the array after a record: changed if the record was taken in
abbrev pub afterwards : Outcome Reader → List ℕ → List ℕ → List ℕ
afterwards (refused n) new old = old
afterwards (accepted r) new old = new

abbrev pub if_admitted : Reader → Record → List ℕ → List ℕ
if_admitted r x l = afterwards (admit r x) (loaded_by r x l) l

-- the same for a record that may be refused by 2
abbrev pub if_taken : Reader → Option Record → List ℕ → List ℕ
if_taken r None l = l
if_taken r (Some x) l = if_admitted r x l

-- the records in turn: the summary or the refusal, and the array
pub record Taken : Type 0 where
  pub answer : Outcome Reader
  pub loaded : List ℕ

abbrev pub take_on : Outcome Reader → List ℕ → (Reader → List ℕ → Taken) → Taken
take_on (refused n) l f = record { answer = refused n; loaded = l }
take_on (accepted r) l f = f r l

unfoldable pub take_records : ℕ → List ℕ → Reader → List ℕ → Taken
take_records zero b r l = record { answer = accepted r; loaded = l }
take_records (suc n) b r l =
    let x = decode (take 8 b) in take_on (admitted r x) (if_taken r x l) (λ r' l'. take_records n (drop 8 b) r' l')

-- what holds of every summary on the way: its numbers are within their limits
pub record FittingLast (l : Last) : Type 0 where
  pub size : l.size ≤ 8
  pub positions : l.positions ≤ 8
  pub slots : l.slots ≤ 4
  pub outputs : l.outputs ≤ 8
  pub named : l.named < 256

pub record Fitting (r : Reader) : Type 0 where
  pub rules : r.rules ≤ 32
  pub last : FittingLast r.last
  pub ranging : T (ranges_read r) → (1 ≤ r.rules) × (defaulted r ≡ false)
  pub grouped : T (not (r.kind == 0)) → defaulted r ≡ false → 1 ≤ r.rules
  pub writing : T (r.kind == 3 || r.kind == 4) → 1 ≤ r.last.outputs
