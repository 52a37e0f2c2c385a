-- "Table records" and "The table's author": bytes read to a table, or refused by 1 to 7.
use Rattle.std.specs.Prelude.{Bool, false, ◌&&◌, ◌||◌, not, cond, List, [], ◌∷◌, ◌++◌, ◌≡◌, ℕ, zero, suc, ◌-◌, ◌%◌, ◌/◌, ◌^◌, eqb, leb, ltb, ℤ, pos, nat_abs, length, get_or, take, drop}
use Rattle.std.specs.Prelude.{Option, None, Some}
use Rattle.std.proofs.Math.IntN.{sub_ℕ}
use Rattle.lists.specs.Lists.{at_last, last_d, is_some, or_else}
use Rattle.lists.specs.Decide.{select}
use Rattle.meaning.specs.Refusal.{Outcome, refused, accepted, and_then}
use Rattle.meaning.specs.Table.{Range, Output, sum, digit, Group, unmarked, Table, every_character}
use Rattle.meaning.specs.Record.{Record, rule, range, output, term, default, hexadecimal, decode}
use Rattle.meaning.specs.Value.{safe}

-- the groups read so far, the last of them perhaps unfinished, and the last record's kind, 0 for none
pub record Reading : Type 0 where
  pub table : Table
  pub kind : ℕ

unfoldable pub unread : Reading
unread = record { table = record { rules = []; default = None; mark = unmarked }; kind = 0 }

-- the group read last
unfoldable pub latest : Reading → Group
latest s = or_else (last_d (every_character []) s.table.rules) s.table.default

-- the coefficient of a position, 0 where no term has named it
abbrev pub coefficient_at : Output → ℕ → ℤ
coefficient_at (sum c ks) p = get_or ks p (pos 0)
coefficient_at (digit q shift) p = pos 0

-- "a position still occurs once": a term of the last output character has named it, since its coefficient, which is "not 0", stands there
unfoldable pub repeated : Reading → ℕ → Bool
repeated s p = not (eqb (nat_abs (coefficient_at (last_d (sum (pos 0) []) (latest s).outputs) p)) 0)

-- a range may come: after its rule or another range
abbrev pub ranging : Reading → Bool
ranging s = eqb s.kind 1 || eqb s.kind 2

-- "unfilled when the ranges end"
unfoldable pub unfilled : Reading → Bool
unfilled s = ranging s && ltb (length (latest s).ranges) (latest s).size

-- refusal 3: "a record where its kind can't come, a position not below K, ranges .. out of order", and of terms "no longer .. falling
-- positions .., only repeated ones"
unfoldable pub misplaced : Reading → Record → Bool
misplaced s (rule k a) = is_some s.table.default
misplaced s (default k) = is_some s.table.default
misplaced s (range p r) =
    let ps = (latest s).ranges in
    not (ranging s) || leb (latest s).size p || ltb (suc p) (length ps)
    || (eqb (suc p) (length ps) && leb r.lowest (last_d r (last_d [] ps)).highest)
misplaced s (output c) = eqb s.kind 0
misplaced s (hexadecimal p shift) = eqb s.kind 0 || leb (latest s).size p
misplaced s (term p a) = not (eqb s.kind 3 || eqb s.kind 4) || leb (latest s).size p || repeated s p

-- refusal 4: "a position skipped, or unfilled when the ranges end (at a record of kind 1, 3 or 5 ..)", and of kind 6
unfoldable pub skipping : Reading → Record → Bool
skipping s (rule k a) = unfilled s
skipping s (default k) = unfilled s
skipping s (range p r) = ltb (length (latest s).ranges) p
skipping s (output c) = unfilled s
skipping s (hexadecimal p shift) = unfilled s
skipping s (term p a) = false

-- refusal 6: "a 33rd rule, fifth range of a position, ninth output character"
unfoldable pub too_many : Reading → Record → Bool
too_many s (rule k a) = eqb (length s.table.rules) 32
too_many s (default k) = false
too_many s (range p r) = eqb (suc p) (length (latest s).ranges) && eqb (length (last_d [] (latest s).ranges)) 4
too_many s (output c) = eqb (length (latest s).outputs) 8
too_many s (hexadecimal p shift) = eqb (length (latest s).outputs) 8
too_many s (term p a) = false

-- the table with its last group changed
unfoldable pub change_latest : (Group → Group) → Table → Table
change_latest f t =
    elim t.default [
      | None ↦ record { rules = at_last f t.rules; default = None; mark = t.mark }
      | Some d ↦ record { rules = t.rules; default = Some (f d); mark = t.mark }
    ]

abbrev pub add_range : ℕ → Range → List (List Range) → List (List Range)
add_range p r ps = cond (eqb p (length ps)) (ps ++ ((r ∷ []) ∷ [])) (at_last (λ rs. rs ++ (r ∷ [])) ps)

-- "signed ones two's complement": x, read as a number of n bits
unfoldable pub signed : ℕ → ℕ → ℤ
signed n x = cond (ltb x (2 ^ (n - 1))) (pos x) (sub_ℕ x (2 ^ n))

-- a coefficient at its position, whatever came before, with 0 at the positions before it that have none
abbrev pub put_at : ℕ → ℤ → List ℤ → List ℤ
put_at zero a [] = a ∷ []
put_at zero a (k ∷ ks) = a ∷ ks
put_at (suc p) a [] = pos 0 ∷ put_at p a []
put_at (suc p) a (k ∷ ks) = k ∷ put_at p a ks

-- a digit "takes no terms"
abbrev pub add_term : ℕ → ℤ → Output → Output
add_term p a (sum c ks) = sum c (put_at p a ks)
add_term p a (digit q shift) = digit q shift

abbrev pub change_ranges : (List (List Range) → List (List Range)) → Group → Group
change_ranges f g = record { size = g.size; anchored = g.anchored; ranges = f g.ranges; outputs = g.outputs }

abbrev pub change_outputs : (List Output → List Output) → Group → Group
change_outputs f g = record { size = g.size; anchored = g.anchored; ranges = g.ranges; outputs = f g.outputs }

abbrev pub add_output : Output → Table → Table
add_output o t = change_latest (change_outputs (λ os. os ++ (o ∷ []))) t

-- the reading with the record taken in
unfoldable pub taken : Reading → Record → Reading
taken s (rule k a) =
    let g : Group = record { size = k; anchored = a; ranges = []; outputs = [] } in
    record { table = record { rules = s.table.rules ++ (g ∷ []); default = None; mark = unmarked }; kind = 1 }
taken s (range p r) = record { table = change_latest (change_ranges (add_range p r)) s.table; kind = 2 }
taken s (output c) = record { table = add_output (sum (signed 32 c) []) s.table; kind = 3 }
taken s (hexadecimal p shift) = record { table = add_output (digit p shift) s.table; kind = 6 }
taken s (term p a) = record { table = change_latest (change_outputs (at_last (add_term p (signed 16 a)))) s.table; kind = 4 }
taken s (default k) = record { table = record { rules = s.table.rules; default = Some (every_character []); mark = k }; kind = 5 }

-- one record, "each by 2, 3, 4, 6"
unfoldable pub read_one : Reading → Option Record → Outcome Reading
read_one s None = refused 2
read_one s (Some r) =
    select ((misplaced s r, refused 3) ∷ (skipping s r, refused 4) ∷ (too_many s r, refused 6) ∷ []) (accepted (taken s r))

-- "records from the first": n of them
unfoldable pub read_records : ℕ → List ℕ → Reading → Outcome Reading
read_records zero b s = accepted s
read_records (suc n) b s = and_then (read_one s (decode (take 8 b))) (λ s'. read_records n (drop 8 b) s')

-- the bytes are whole records, which are taken in one after another and lead to the reading s
abbrev pub LeadTo : List ℕ → Reading → Type 0
LeadTo b s = (length b % 8 ≡ 0) × (read_records (length b / 8) b unread ≡ accepted s)

-- "at the table's end 4, 5"
unfoldable pub read_end : Reading → Outcome Table
read_end s = select ((unfilled s, refused 4) ∷ (eqb (length s.table.rules) 0, refused 5) ∷ []) (accepted s.table)

-- refusals 1 to 6: what is asked of the records, values aside
unfoldable pub read_rules : List ℕ → Outcome Table
read_rules b = select ((not (eqb (length b % 8) 0), refused 1) ∷ []) (and_then (read_records (length b / 8) b unread) read_end)

-- the table check: refusals 1 to 7
unfoldable pub read_table : List ℕ → Outcome Table
read_table b = and_then (read_rules b) (λ t. select ((not (safe t), refused 7) ∷ []) (accepted t))
