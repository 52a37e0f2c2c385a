-- The table check as it is run gives the definition's answer, and leaves the array of the table that is read.
-- Record by record, by `admit_right`; what holds of every reading on the way holds of the table.
use Rattle.std.proofs.Common.{◌≡◌, ℕ, zero, suc, ◌+◌, ◌*◌, ◌/◌, ◌<◌, ◌≤◌, eqb, List, [], ◌∷◌, ◌++◌, map, length, get_or, take, drop, replicate, sym, refl, ap, ◌∙◌, subst, ap₂, add-zero, arith, take-append-drop}
use Rattle.std.specs.Prelude.{Option, None, Some}
use Rattle.lists.specs.Lists.{pad, Each, optional}
use Rattle.lists.specs.Decide.{select}
use Rattle.lists.proofs.Laws.Tests.{by_cases}
use Rattle.lists.proofs.Laws.Each.{each_append, each_front, each_back, each_weaken, each_get_d}
use Rattle.meaning.specs.Refusal.{Outcome, refused, accepted, and_then}
use Rattle.meaning.specs.Table.{Group, Table, groups}
use Rattle.meaning.specs.Record.{Record, decode}
use Rattle.meaning.specs.Reader.{Reading, unread, latest, unfilled, read_one, read_records, read_end, read_rules}
use Rattle.meaning.specs.Block.{at, block, block_size, blocks_size}
use Rattle.rules.specs.bridge.Summary.{started, gap, admit, admitted, loaded_by, afterwards, if_taken, Taken, take_on, take_records}
use Rattle.meaning.specs.bridge.Flat.{rows, slot_words, range_words, block_words, high_words, loaded_words, slots_from, loaded_size, Flat}
use Rattle.rules.specs.declared.reader.Reader.{Reader}
use Rattle.meaning.proofs.Laws.Refusal.{by_then}
use Rattle.meaning.proofs.Laws.Shape.{ShapedGroup, ShapedDefault, Shaped}
use Rattle.meaning.proofs.Laws.Narrow.{NarrowGroup, Narrow}
use Rattle.meaning.proofs.Laws.Rows.{pad_none, rows_of, length_rows_of, length_rows, rows_at, each_rows_of, each_rows}
use Rattle.meaning.proofs.Laws.Loaded.{joined_same, loaded_length, loaded_block, loaded_slot}
use Rattle.meaning.proofs.Laws.Stored.{slot_row}
use Rattle.rules.proofs.Laws.Represents.{summary, Read, unread_read}
use Rattle.meaning.proofs.Laws.Decoding.{decode_fits}
use Rattle.rules.proofs.Laws.Admitted.{Alike, admit_right}

-- what the check as run has taken in, beside what the definition has read
abbrev pub TakenRight : Taken → Outcome Reading → Type 0
TakenRight m (refused k) = m.answer ≡ refused k
TakenRight m (accepted s) = (m.answer ≡ accepted (summary s)) × (m.loaded ≡ loaded_words s.table) × Read s

onward : (s : Reading) (x : Record) (old : List ℕ) (f : Reader → List ℕ → Taken) (g : Reading → Outcome Reading) →
    ((s' : Reading) → Read s' → TakenRight (f (summary s') (loaded_words s'.table)) (g s')) →
    (a : Outcome Reader) (o : Outcome Reading) → Alike s x a o →
    TakenRight (take_on a (afterwards a (loaded_by (summary s) x (loaded_words s.table)) old) f) (and_then o g)
unfolding and_then
onward s x old f g h a (refused k) r = ap (λ a. (take_on a (afterwards a (loaded_by (summary s) x (loaded_words s.table)) old) f).answer) r
onward s x old f g h a (accepted s') r =
    subst (λ m. TakenRight m (g s')) (sym (ap₂ (λ a new. take_on a (afterwards a new old) f) r.0 r.1)) (h s' r.2)

-- one record, and those after it
first_right : (s : Reading) (b : List ℕ) (f : Reader → List ℕ → Taken) (g : Reading → Outcome Reading) → Each (λ x. x < 256) b → Read s →
    ((s' : Reading) → Read s' → TakenRight (f (summary s') (loaded_words s'.table)) (g s')) →
    (o : Option Record) → decode b ≡ o → TakenRight (take_on (admitted (summary s) o) (if_taken (summary s) o (loaded_words s.table)) f) (and_then (read_one s o) g)
unfolding read_one and_then
first_right s b f g e h rest None p = refl
first_right s b f g e h rest (Some x) p =
    onward s x (loaded_words s.table) f g rest (admit (summary s) x) (read_one s (Some x)) (admit_right s x h (decode_fits b e x p))

pub records_right : (n : ℕ) (b : List ℕ) (s : Reading) → Each (λ x. x < 256) b → Read s →
    TakenRight (take_records n b (summary s) (loaded_words s.table)) (read_records n b s)
unfolding take_records read_records
records_right zero b s e h = (refl, refl, h)
records_right (suc n) b s e h =
    let parts : Each (λ x. x < 256) (take 8 b ++ drop 8 b) = subst (Each (λ x. x < 256)) (sym (take-append-drop 8 b)) e in
    first_right s (take 8 b) (λ r' l'. take_records n (drop 8 b) r' l') (λ s'. read_records n (drop 8 b) s')
    (each_front (λ x. x < 256) (take 8 b) (drop 8 b) parts) h
    (λ s'. records_right n (drop 8 b) s' (each_back (λ x. x < 256) (take 8 b) (drop 8 b) parts)) (decode (take 8 b)) refl

-- the array of the empty table
unread_emptied : loaded_words unread.table ≡ pad loaded_size []
unfolding unread rows loaded_words slot_words range_words block_words high_words
unread_emptied =
    joined_same (sym (pad_none (32 * block_size) block_size)) (sym (pad_none 256 8)) (sym (pad_none 2048 64)) (sym (pad_none 256 8))
    ∙ sym
    (pad_none blocks_size (264 + (2112 + 264))
    ∙ ap (λ l. pad blocks_size [] ++ l) (pad_none 264 (2112 + 264) ∙ ap (λ l. pad 264 [] ++ l) (pad_none 2112 264)))

pub pad_zeros : (n : ℕ) → pad n [] ≡ replicate n 0
unfolding pad
pad_zeros zero = refl
pad_zeros (suc n) = ap (λ l. 0 ∷ l) (pad_zeros n)

pub take_right : (n : ℕ) (b : List ℕ) → Each (λ x. x < 256) b → TakenRight (take_records n b started (pad loaded_size [])) (read_records n b unread)
unfolding unread
take_right n b e = subst (λ l. TakenRight (take_records n b started l) (read_records n b unread)) unread_emptied (records_right n b unread e unread_read)

-- at the table's end

pub end_right : (s : Reading) → read_end s ≡ select ((gap (summary s), refused 4) ∷ (eqb (summary s).rules 0, refused 5) ∷ []) (accepted s.table)
unfolding read_end unfilled latest
end_right s = refl

-- what is read

abbrev IfNarrow : Outcome Table → Type 0
IfNarrow (refused n) = Unit {0}
IfNarrow (accepted t) = Narrow t

end_narrow : (s : Reading) → Read s → IfNarrow (read_end s)
unfolding read_end
end_narrow s h = by_cases IfNarrow _ (accepted s.table) (λ _. tt, λ _. (λ _. tt, λ _. h.narrow))

rules_narrow : (b : List ℕ) → Each (λ x. x < 256) b → IfNarrow (read_rules b)
unfolding read_rules
rules_narrow b e =
    let all = take_right (length b / 8) b e in
    by_cases IfNarrow _ _ (
      λ _. tt,
      λ _.
          by_then IfNarrow (read_records (length b / 8) b unread) read_end (λ n p. tt)
          (λ s p. end_narrow s (subst (TakenRight (take_records (length b / 8) b started (pad loaded_size []))) p all).2),
    )

pub read_narrow : (b : List ℕ) (t : Table) → Each (λ x. x < 256) b → read_rules b ≡ accepted t → Narrow t
read_narrow b t e p = subst IfNarrow p (rules_narrow b e)

-- the array of a table

block_size_lem : (g : Group) → get_or (block g) 0 0 ≡ g.size
unfolding block pad
block_size_lem g = refl

block_outputs : (g : Group) → get_or (block g) 2 0 ≡ length g.outputs
unfolding block pad
block_outputs g = refl

-- number j of each block is within a limit where it is so of each group
block_number : (t : Table) (j most : ℕ) → j < block_size → Each (λ g. get_or (block g) j 0 ≤ most) (groups t) → (g : ℕ) → g < 33 → at (loaded_words t) (block_size * g + j) ≤ most
unfolding block_words
block_number t j most k a g h =
    subst (λ x. x ≤ most) (sym (loaded_block t (block_size * g + j) (omega arith) ∙ rows_at block_size block t g j h k))
    (each_get_d (λ l. get_or l j 0 ≤ most) (rows_of block t.rules t.default) g [] (each_rows_of (λ l. get_or l j 0 ≤ most) block t (omega arith) a) (subst (λ m. g < m) (sym (length_rows_of block t.rules t.default)) h))

shaped_each : (P : Group → Type 0) (t : Table) → Shaped t → ((g : Group) → ShapedGroup g → P g) → ((g : Group) → ShapedDefault g → P g) → Each P (groups t)
shaped_each P t s f d = each_append P t.rules (optional t.default) (each_weaken ShapedGroup P t.rules f s.rules) (each_weaken ShapedDefault P (optional t.default) d s.default)

lengths : {A : Type 0} (xs : List (List A)) → Each (λ rs. length rs ≤ 4) xs → Each (λ x. x ≤ 4) (map length xs)
lengths [] a = tt
lengths (x ∷ xs) a = (a.0, lengths xs a.1)

slot_number_lem : (t : Table) → Narrow t → (p : ℕ) → p < 33 * 8 → at (loaded_words t) (slots_from + p) ≤ 4
unfolding slot_words
slot_number_lem t n p h =
    subst (λ x. x ≤ 4) (sym (loaded_slot t (slots_from + p) p refl h))
    (each_get_d (λ x. x ≤ 4) (slot_words t) p 0
    (each_rows (λ x. x ≤ 4) 8 slot_row t (omega arith) (each_weaken NarrowGroup (λ g. Each (λ x. x ≤ 4) (slot_row g)) (groups t) (λ g w. lengths g.ranges w.few) n)) (rw length_rows h))

pub flat_flat : (t : Table) → Shaped t → Narrow t → Flat (loaded_words t)
flat_flat t s n =
    record {
      long = loaded_length t;
      few = slot_number_lem t n;
      size = λ g h. subst (λ i. at (loaded_words t) i ≤ 8) (add-zero (block_size * g)) (block_number t 0 8 (omega arith) (shaped_each (λ g. get_or (block g) 0 0 ≤ 8) t s (λ g k. rw block_size_lem k.small) (λ g k. rw (block_size_lem, k.size) (omega arith))) g h);
      outputs = block_number t 2 8 (omega arith) (shaped_each (λ g. get_or (block g) 2 0 ≤ 8) t s (λ g k. rw block_outputs k.outputs) (λ g k. rw block_outputs k.outputs));
    }
