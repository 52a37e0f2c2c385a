-- Loading a table: how far its records have been taken, what the refusals of its end leave, and that the check's answer is the definition's.
-- Each record that is taken leaves the same work before and after; at the end the array is that of the table that is read.
use Rattle.std.proofs.Common.{◌≡◌, ℕ, zero, suc, ◌+◌, ◌*◌, ◌/◌, ◌%◌, ◌<◌, ◌≤◌, Bool, true, false, not, eqb, List, [], ◌∷◌, length, get_or, take, drop, sym, refl, ap, ◌∙◌, subst, arith, take-append-drop, drop-drop, take_all, eq-eqb, ne_eqb}
use Rattle.std.specs.Prelude.{Option, None, Some}
use Rattle.std.specs.Simd.{first_chunks}
use Rattle.lists.specs.Lists.{Each, pad}
use Rattle.lists.specs.Decide.{select}
use Rattle.lists.proofs.Laws.Each.{each_front, each_back}
use Rattle.meaning.specs.Refusal.{Outcome, refused, accepted, and_then}
use Rattle.meaning.specs.Record.{Record, rule, range, output, term, default, hexadecimal, decode}
use Rattle.rules.specs.bridge.Modes.{the_mode, kept_mode}
use Rattle.rules.specs.bridge.Summary.{started, gap, admitted, if_taken, Taken, take_on, take_records, Fitting}
use Rattle.rules.specs.declared.reader.Reader.{Reader}
use Rattle.rules.specs.declared.load.Load.{Load}
use Rattle.meaning.specs.Table.{Table, mode}
use Rattle.meaning.specs.Value.{safe}
use Rattle.meaning.specs.Reader.{Reading, unread, read_records, read_end, read_rules, read_table}
use Rattle.meaning.specs.bridge.Flat.{loaded_words, loaded_size, safe_at, Flat}
use Rattle.rules.specs.bridge.Readings.{end_of, LoadedBy}
use Rattle.meaning.proofs.Laws.Refusal.{accepted_not, accepted_same, refused_same}
use Rattle.meaning.proofs.Laws.Shape.{Shaped}
use Rattle.meaning.proofs.Laws.Reading.{read_shaped}
use Rattle.rules.proofs.Laws.Represents.{summary, kept_mode_lem, Read, read_fitting}
use Rattle.rules.proofs.Laws.Flattened.{TakenRight, take_right, end_right, flat_flat}
use Rattle.meaning.proofs.Laws.SafeFlat.{each_numbers, safe_flat}
use Rattle.meaning.proofs.Laws.Decoding.{FittingRecord, decode_fits}
use Rattle.rules.proofs.Laws.Stepping.{SmallRecord, admit_fitting, if_taken_length}

-- chunk number i of eight bytes each
pub chunk_at : (k i : ℕ) (b : List ℕ) → i < k → get_or (first_chunks 8 k b) i [] ≡ take 8 (drop (8 * i) b)
chunk_at zero i b h = absurd (omega arith)
chunk_at (suc k) zero b h = refl
chunk_at (suc k) (suc i) b h =
    let e : 8 + 8 * i ≡ 8 * suc i = omega arith in
    chunk_at k i (drop 8 b) (omega arith) ∙ ap (take 8) (drop-drop (8 * i) 8 b ∙ ap (λ n. drop n b) e)

-- what is known of a slice's elements by number
pub each_known : (most : ℕ) (b : List ℕ) → ((i : ℕ) → get_or b i 0 < most) → Each (λ x. x < most) b
each_known most b f = each_numbers (λ x. x < most) b 0 (λ i _. f i)

-- the records before a place have been taken: those left give what all of them give
pub record Passed (first : Reader) (table : List ℕ) (before now : List ℕ) (reader : Reader) (place : ℕ) : Type 0 where
  pub left : ℕ
  pub whole : place + 8 * left ≡ length table
  pub fitting : Fitting reader
  pub sized : length now ≡ loaded_size
  pub same : take_records (length table / 8) table first before ≡ take_records left (drop place table) reader now

pub passed_start : (first : Reader) (table : List ℕ) (m : List ℕ) → length table % 8 ≡ 0 → Fitting first → length m ≡ loaded_size → Passed first table m m first 0
passed_start first table m e f s = record { left = length table / 8; whole = omega arith; fitting = f; sized = s; same = refl }

small : (x : Record) → FittingRecord x → SmallRecord x
small (rule k a) f = f.1
small (range p c) f = tt
small (output c) f = tt
small (term p a) f = tt
small (default k) f = tt
small (hexadecimal p shift) f = tt

pub fitting_on : (r r' : Reader) (b : List ℕ) (x : Option Record) → Each (λ c. c < 256) b → decode b ≡ x → Fitting r → admitted r x ≡ accepted r' → Fitting r'
fitting_on r r' b None e d f p = absurd (accepted_not r' 2 (sym p))
fitting_on r r' b (Some x) e d f p = admit_fitting r r' x f (small x (decode_fits b e x d)) p

each_part : (n m : ℕ) (P : ℕ → Type 0) (b : List ℕ) → Each P b → Each P (take n (drop m b))
each_part n m P b e =
    let rest : Each P (drop m b) = each_back P (take m b) (drop m b) (subst (Each P) (sym (take-append-drop m b)) e) in
    each_front P (take n (drop m b)) (drop n (drop m b)) (subst (Each P) (sym (take-append-drop n (drop m b))) rest)

module _ {first : Reader} {table : List ℕ} {before now : List ℕ} {reader : Reader} {place : ℕ} (p : Passed first table before now reader place) where
  -- there is a record at a place that is below the length
  pub passed_room : place < length table → place + 8 ≤ length table
  passed_room h = go p.left p.whole
    where
      go : (k : ℕ) → place + 8 * k ≡ length table → place + 8 ≤ length table
      go zero e = absurd (omega arith)
      go (suc k) e = omega arith

  pub passed_end : length table ≤ place →
      let all = take_records (length table / 8) table first before in (accepted reader ≡ all.answer) × (now ≡ all.loaded)
  unfolding take_records
  passed_end h =
      let over : p.left ≡ 0 = omega (arith, p.whole) in
      let whole = p.same ∙ ap (λ k. take_records k (drop place table) reader now) over in
      (sym (ap (λ t. t.answer) whole), sym (ap (λ t. t.loaded) whole))

  module _ (inside : place < length table) (x : Option Record) (read : x ≡ decode (take 8 (drop place table))) where
    -- the records left are the one read and those after it
    next : (k : ℕ) × (suc k ≡ p.left) × (take_records (length table / 8) table first before
        ≡ take_on (admitted reader x) (if_taken reader x now) (λ r m. take_records k (drop (place + 8) table) r m))
    unfolding take_records
    next = go p.left p.whole p.same
      where
        go : (n : ℕ) → place + 8 * n ≡ length table → take_records (length table / 8) table first before ≡ take_records n (drop place table) reader now →
            (k : ℕ) × (suc k ≡ n) × (take_records (length table / 8) table first before
            ≡ take_on (admitted reader x) (if_taken reader x now) (λ r m. take_records k (drop (place + 8) table) r m))
        go zero e s = absurd (omega arith)
        go (suc k) e s = (
          k,
          refl,
          s ∙ ap (λ o. take_on (admitted reader o) (if_taken reader o now) (λ r m. take_records k (drop 8 (drop place table)) r m)) (sym read)
              ∙ ap (λ b. take_on (admitted reader x) (if_taken reader x now) (λ r m. take_records k b r m)) (drop-drop 8 place table),
        )

    module _ {after : List ℕ} (left : after ≡ if_taken reader x now) where
      pub passed_stop : (n : ℕ) → refused n ≡ admitted reader x →
          let all = take_records (length table / 8) table first before in (refused n ≡ all.answer) × (after ≡ all.loaded)
      passed_stop n e =
          let whole = next.2 ∙ ap (λ o. take_on o (if_taken reader x now) (λ r m. take_records next.0 (drop (place + 8) table) r m)) (sym e) in
          (sym (ap (λ t. t.answer) whole), left ∙ sym (ap (λ t. t.loaded) whole))

      pub passed_on : (r : Reader) → Each (λ c. c < 256) table → accepted r ≡ admitted reader x → Passed first table before after r (place + 8)
      passed_on r bytes e =
          subst (λ m. Passed first table before m r (place + 8)) (sym left) (record {
            left = next.0;
            whole = let a = next.1 in let b = p.whole in omega arith;
            fitting = fitting_on reader r (take 8 (drop place table)) x (each_part 8 place (λ c. c < 256) table bytes) (sym read) p.fitting (sym e);
            sized = if_taken_length reader x now ∙ p.sized;
            same = next.2 ∙ ap (λ o. take_on o (if_taken reader x now) (λ r m. take_records next.0 (drop (place + 8) table) r m)) (sym e);
          })

-- the table check: what it answers where the records are refused, and where they are taken

refused_loaded : (b : List ℕ) (n : ℕ) (loaded : List ℕ) → read_table b ≡ refused n → LoadedBy (read_table b) (refused n) loaded
refused_loaded b n loaded e = subst (λ o. LoadedBy o (refused n) loaded) (sym e) refl

pub ragged_loaded : (b loaded : List ℕ) → (length b % 8 ≡ 0 → ⊥) → LoadedBy (read_table b) (refused 1) loaded
unfolding read_table read_rules select and_then
ragged_loaded b loaded h = refused_loaded b 1 loaded (rw (ne_eqb (length b % 8) 0 h) refl)

module _ (b : List ℕ) (bytes : Each (λ x. x < 256) b) {first : List ℕ} (zeros : first ≡ pad loaded_size []) where
  abbrev taken_all : Taken
  taken_all = take_records (length b / 8) b started first

  all_right : TakenRight taken_all (read_records (length b / 8) b unread)
  all_right = subst (λ m. TakenRight (take_records (length b / 8) b started m) (read_records (length b / 8) b unread)) (sym zeros) (take_right (length b / 8) b bytes)

  module _ (whole : length b % 8 ≡ 0) where
    rules_read : (o : Outcome Reading) → read_records (length b / 8) b unread ≡ o → read_rules b ≡ and_then o read_end
    unfolding read_rules select
    rules_read o e = rw (eq-eqb (length b % 8) 0 whole, e) refl

    records_refused : (n : ℕ) → refused n ≡ taken_all.answer → read_table b ≡ refused n
    unfolding read_table and_then
    records_refused n e = go (read_records (length b / 8) b unread) refl all_right
      where
        go : (o : Outcome Reading) → read_records (length b / 8) b unread ≡ o → TakenRight taken_all o →
            and_then (read_rules b) (λ t. select ((not (safe t), refused 7) ∷ []) (accepted t)) ≡ refused n
        go (refused k) p r = rw (rules_read (refused k) p) (ap refused (sym (refused_same n k (e ∙ r))))
        go (accepted s) p r = absurd (accepted_not (summary s) n (sym (e ∙ r.0)))

    pub records_loaded : (n : ℕ) (loaded : List ℕ) → refused n ≡ taken_all.answer → LoadedBy (read_table b) (refused n) loaded
    records_loaded n loaded e = refused_loaded b n loaded (records_refused n e)

    -- what the tests at the table's end need
    abbrev EndNeeds : Reader → List ℕ → Type 0
    EndNeeds r l = (r.rules ≤ 32) × (gap r ≡ false → 1 ≤ r.rules → Flat l)

    abbrev EndLoads : Reader → List ℕ → Type 0
    EndLoads r l = LoadedBy (read_table b) (end_of r (safe_at l r.rules (the_mode r.mode))) l

    -- the reading at the end
    module _ (s : Reading) (read : read_records (length b / 8) b unread ≡ accepted s) (holds : Read s) where
      abbrev end : Table
      end = s.table

      end_shaped : gap (summary s) ≡ false → eqb (length end.rules) 0 ≡ false → Shaped end
      unfolding select and_then
      end_shaped g z = read_shaped b end (rules_read (accepted s) read ∙ end_right s ∙ rw (g, z))

      needs_read : EndNeeds (summary s) (loaded_words end)
      needs_read = (
        (read_fitting s holds).rules,
        λ g h. flat_flat end (end_shaped g (ne_eqb (length end.rules) 0 (λ e. omega arith))) holds.narrow,
      )

      answers : (g z f : Bool) → (g ≡ false → z ≡ false → f ≡ safe end) →
          LoadedBy (and_then (select ((g, refused 4) ∷ (z, refused 5) ∷ []) (accepted end)) (λ t. select ((not (safe t), refused 7) ∷ []) (accepted t)))
          (select ((g, refused 4) ∷ (z, refused 5) ∷ (not f, refused 7) ∷ []) (accepted (record { rules = length end.rules; mode = kept_mode (mode end) })))
          (loaded_words end)
      unfolding select and_then
      answers true z f h = refl
      answers false true f h = refl
      answers false false f h = rw (h refl refl) (last (safe end))
        where
          last : (f : Bool) → LoadedBy (select ((not f, refused 7) ∷ []) (accepted end))
              (select ((not f, refused 7) ∷ []) (accepted (record { rules = length end.rules; mode = kept_mode (mode end) }))) (loaded_words end)
          last true = (refl, refl)
          last false = refl

      loads_read : EndLoads (summary s) (loaded_words end)
      unfolding read_table and_then
      loads_read =
          rw (rules_read (accepted s) read, end_right s)
          (answers (gap (summary s)) (eqb (length end.rules) 0) _ (λ g z. ap (safe_at (loaded_words end) (length end.rules)) (kept_mode_lem (mode end)) ∙ safe_flat end (end_shaped g z) holds.narrow))

    module _ (reader : Reader) (m : List ℕ) (answer : accepted reader ≡ taken_all.answer) (array : m ≡ taken_all.loaded) where
      of_reading : (P : Reader → List ℕ → Type 0) → ((s : Reading) → read_records (length b / 8) b unread ≡ accepted s → Read s → P (summary s) (loaded_words s.table)) → P reader m
      of_reading P f = go (read_records (length b / 8) b unread) refl all_right
        where
          go : (o : Outcome Reading) → read_records (length b / 8) b unread ≡ o → TakenRight taken_all o → P reader m
          go (refused k) p r = absurd (accepted_not reader k (answer ∙ r))
          go (accepted s) p r =
              subst (λ x. P x m) (sym (accepted_same reader (summary s) (answer ∙ r.0))) (subst (P (summary s)) (sym (array ∙ r.1)) (f s p r.2))

      pub end_needs : EndNeeds reader m
      end_needs = of_reading EndNeeds needs_read

      pub end_loaded : (r : Outcome Load) → r ≡ end_of reader (safe_at m reader.rules (the_mode reader.mode)) →
          LoadedBy (read_table b) r m
      end_loaded r e = subst (λ x. LoadedBy (read_table b) x m) (sym e) (of_reading EndLoads loads_read)

-- an array of a loaded table's length is its first chunk of that length
pub only_chunk : (b : List ℕ) → length b ≡ loaded_size → get_or (first_chunks loaded_size (length b / loaded_size) b) 0 [] ≡ b
only_chunk b e =
    let one : length b / loaded_size ≡ 1 = omega (arith, e) in
    rw one (take_all loaded_size b (omega (arith, e)))
