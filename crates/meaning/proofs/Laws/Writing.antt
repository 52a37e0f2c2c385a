-- What a group writes, one sum after another, and a conversion, one choice after another.
-- Each law is one turn of a loop: a sum by one coefficient, an output by one character, a conversion by one group.
use mathlib.Core.Bool.{Bool, true, false, cond}
use mathlib.Core.List.{List, [], ◌∷◌, ◌++◌, append_assoc, append-nil}
use mathlib.Core.Logic.{◌≢◌}
use Rattle.std.specs.Prelude.{Option, None, Some}
use mathlib.Core.Path.{◌≡◌, refl, sym, ap, ap₂, subst, ◌∙◌}
use Prim.Native.Nat.{ℕ, zero, suc, pred, ◌+◌, ◌-◌, ◌*◌, ◌%◌, ◌≤◌, ◌<◌}
use native.Mathlib.Nat.{add-zero, zero-add, add_assoc}
use native.Mathlib.Numerals.{add-one}
use native.Mathlib.Omega.{arith}
use borrow.Author.Tests.{eq-eqb, ne_eqb}
use lib.Dec.{eqb, eqb→eq}
use lib.ListN.{length, get_or, take, drop, set, length-append, length-take, length-drop}
use lib.Seq.{length-take-le, take_all, take-append_seam, drop-append-add, drop-cons, get_or-drop, drop-drop, paste, paste-suc}
use Rattle.lists.specs.Lists.{tab_from, or_else}
use Rattle.lists.proofs.Laws.Tests.{of_cond}
use Rattle.lists.proofs.Laws.Sets.{get_d_tab, length_tab}
use Rattle.meaning.specs.Table.{Table, every_character, rule_at, default_number, group, Mode, Absent, Single, Paired, mode, present, pair_number, pair_group}
use Rattle.meaning.specs.Value.{nibble, hex_digit}
use Rattle.meaning.specs.Block.{at, word_sum, value_by, entry_value, block_output, block_size, entry_size}
use Rattle.meaning.specs.Meaning.{best, or_default, choose, Emission, text_of, covered, chosen, convert_by, convert_from, convert, starts_pair}
use Rattle.meaning.specs.bridge.Flat.{ranges_at, pattern_at, group_at, table_at, size_at, count_at, flat_text, flat_write}
use Rattle.meaning.specs.Refusal.{Outcome, accepted}
use Rattle.meaning.specs.Direct.{Converted, over}
use Rattle.meaning.proofs.Laws.Sums.{sum_from_lem}
use Rattle.meaning.proofs.Laws.Prefix.{fits_word_length}
use Rattle.meaning.proofs.Laws.Direct.{over_whole}
use Rattle.meaning.proofs.Laws.Choosing.{rule_at_lem, mode_at_lem}
use Rattle.meaning.proofs.Laws.Choice.{Fits, Chosen, best_chosen, pair_there}

-- what a sum comes to from v on, i coefficients after its first, which stands at `from`
abbrev pub sum_left : List ℕ → ℕ → List ℕ → ℕ → ℕ → ℕ
sum_left blocks from word i v = word_sum v (take (length word - i) (drop (from + i) blocks)) (drop i word)

module _ (blocks : List ℕ) (from : ℕ) (word : List ℕ) where
  pub sum_starts : (v : ℕ) → word_sum v (take (length word) (drop from blocks)) word ≡ sum_left blocks from word 0 v
  sum_starts v = let s : length word - 0 ≡ length word = omega arith in rw (s, add-zero from)

  pub sum_goes_on : (i v : ℕ) → from + length word ≤ length blocks → i < length word →
      sum_left blocks from word i v ≡ sum_left blocks from word (i + 1) ((v + at blocks (from + i) * at word i) % 65536)
  unfolding word_sum
  sum_goes_on i v h l =
      let s : length word - i ≡ suc (length word - (i + 1)) = omega arith in
      let a : from + (i + 1) ≡ suc (from + i) = omega arith in
      let p : from + i < length blocks = omega arith in
      rw (s, a, add-one i, drop-cons blocks (from + i) 0 p, drop-cons word i 0 l)

  pub sum_ends : (v : ℕ) → sum_left blocks from word (length word) v ≡ v
  unfolding word_sum
  sum_ends v = let s : length word - length word ≡ 0 = omega arith in rw s

-- what a block writes for a word
module _ (b w : List ℕ) where
  pub output_length : length (block_output b w) ≡ at b 2
  unfolding block_output
  output_length = length_tab _ 0 (at b 2)

  output_at_lem : (j : ℕ) → j < at b 2 → get_or (block_output b w) j 0 ≡ entry_value b j w
  unfolding block_output
  output_at_lem j h = get_d_tab _ 0 (at b 2) j 0 h ∙ rw (zero-add j)

  -- one more character
  pub written_more : (d : List ℕ) (count j : ℕ) → j < at b 2 → count + j < length d →
      set (paste d count (block_output b w) j) (count + j) (entry_value b j w) ≡ paste d count (block_output b w) (j + 1)
  written_more d count j h k =
      let text = block_output b w in
      ap (set (paste d count text j) (count + j)) (sym (output_at_lem j h))
      ∙ paste-suc d count text j 0 k (omega (arith, output_length))
      ∙ ap (paste d count text) (sym (add-one j))

  pub written_all : (d : List ℕ) (count : ℕ) → paste d count (block_output b w) (at b 2) ≡ take count d ++ block_output b w ++ drop (count + at b 2) d
  written_all d count = ap (λ u. take count d ++ u ++ drop (count + at b 2) d) (take_all (at b 2) (block_output b w) (omega (arith, output_length)))

-- the block of group g among others: its output count, and what an entry writes, by their places
abbrev pub group_text : List ℕ → ℕ → List ℕ → List ℕ
group_text blocks g w = block_output (drop (block_size * g) blocks) w

module _ (blocks : List ℕ) (g : ℕ) where
  pub group_count : at (drop (block_size * g) blocks) 2 ≡ at blocks (block_size * g + 2)
  group_count = get_or-drop (block_size * g) blocks 2 0

  -- by the places of its sort, its constant and its coefficients
  module _ (j : ℕ) (w : List ℕ) (size : length w ≡ at blocks (block_size * g)) where
    abbrev from : ℕ
    from = block_size * g + 3 + entry_size * j

    abbrev coefficients : List ℕ
    coefficients = take (length w) (drop (from + 2) blocks)

    entry_placed : entry_value (drop (block_size * g) blocks) j w ≡ value_by (at blocks from) (at blocks (from + 1)) coefficients w
    unfolding entry_value
    entry_placed =
        let c : block_size * g + (3 + entry_size * j) ≡ block_size * g + 3 + entry_size * j = omega arith in
        let d : block_size * g + (4 + entry_size * j) ≡ block_size * g + 3 + entry_size * j + 1 = omega arith in
        let e : block_size * g + (5 + entry_size * j) ≡ block_size * g + 3 + entry_size * j + 2 = omega arith in
        rw (get_or-drop (block_size * g) blocks (3 + entry_size * j) 0, c, get_or-drop (block_size * g) blocks (4 + entry_size * j) 0, d, get_or-drop (block_size * g) blocks 0 0, add-zero (block_size * g), drop-drop (5 + entry_size * j) (block_size * g) blocks, e, size)

    pub entry_sum : (v : ℕ) → at blocks from ≡ 0 → at blocks (from + 1) < 65536 → v ≡ (word_sum 0 coefficients w + at blocks (from + 1)) % 65536 →
        v ≡ entry_value (drop (block_size * g) blocks) j w
    entry_sum v sort few e = rw (entry_placed, eq-eqb (at blocks from) 0 sort) (e ∙ sym (sum_from_lem (at blocks (from + 1)) coefficients w few))

    pub entry_digit : (v : ℕ) → at blocks from ≢ 0 → v ≡ hex_digit (nibble (at blocks (from + 1)) (word_sum 0 coefficients w)) →
        v ≡ entry_value (drop (block_size * g) blocks) j w
    entry_digit v sort e = rw (entry_placed, ne_eqb (at blocks from) 0 sort) e

-- what a log in two parts writes and covers
pub text_append : (write : ℕ → List ℕ → List ℕ) (a b : List Emission) → text_of write (a ++ b) ≡ text_of write a ++ text_of write b
unfolding text_of
text_append write [] b = refl
text_append write (e ∷ a) b = ap (λ u. write e.group e.word ++ u) (text_append write a b) ∙ sym (append_assoc (write e.group e.word) _ _)

pub covered_append : (a b : List Emission) → covered (a ++ b) ≡ covered a + covered b
unfolding covered
covered_append [] b = sym (zero-add _)
covered_append (e ∷ a) b = ap (λ n. length e.word + n) (covered_append a b) ∙ sym (add_assoc (length e.word) _ _)

-- a conversion that skips characters is the conversion of what is left
pub convert_skip : (t : Table) (k : ℕ) (rest : List ℕ) → convert_from t k rest ≡ convert_from t 0 (drop k rest)
unfolding convert_from
convert_skip t zero rest = refl
convert_skip t (suc k) [] = refl
convert_skip t (suc k) (c ∷ rest) = convert_skip t k rest

-- one choice, of a group that has characters
pub convert_step : (t : Table) (rest : List ℕ) (n : ℕ) → 1 ≤ length rest → 1 ≤ (group t n).size → choose t rest ≡ Some n →
    convert_from t 0 rest ≡ chosen (record { group = n; word = take (group t n).size rest }) (convert_from t 0 (drop (group t n).size rest))
unfolding convert_from
convert_step t [] n h k p = absurd (omega arith)
convert_step t (c ∷ rest) n h k p = ap (λ o. convert_by t o (c ∷ rest) (λ skip. convert_from t skip rest)) p ∙ ap (chosen _) (onward (group t n).size k)
  where
    onward : (size : ℕ) → 1 ≤ size → convert_from t (pred size) rest ≡ convert_from t 0 (drop size (c ∷ rest))
    onward zero k = absurd (omega arith)
    onward (suc size) k = convert_skip t size rest

pub convert_stop : (t : Table) (rest : List ℕ) → 1 ≤ length rest → choose t rest ≡ None → convert_from t 0 rest ≡ record { log = []; closed = false }
unfolding convert_from
convert_stop t [] h p = absurd (omega arith)
convert_stop t (c ∷ rest) h p = ap (λ o. convert_by t o (c ∷ rest) (λ skip. convert_from t skip rest)) p

pub convert_end : (t : Table) (rest : List ℕ) → length rest ≡ 0 → convert_from t 0 rest ≡ record { log = []; closed = true }
unfolding convert_from
convert_end t [] h = refl
convert_end t (c ∷ rest) h = absurd (omega arith)

pub plain_size : (loaded : List ℕ) (g : ℕ) → g < 33 → size_at loaded g ≡ at loaded (block_size * g)
plain_size loaded g h = rw (ne_eqb g 33 (omega arith))

pub plain_count : (loaded : List ℕ) (g : ℕ) → g < 33 → count_at loaded g ≡ at loaded (block_size * g + 2)
plain_count loaded g h = rw (ne_eqb g 33 (omega arith))

-- what is written is as long, of a word of that size
pub written_count : (loaded : List ℕ) (g : ℕ) (w : List ℕ) → length w ≡ size_at loaded g → length (flat_write loaded g w) ≡ count_at loaded g
written_count loaded g w e = go (eqb g pair_number) e
  where
    go : (b : Bool) → length w ≡ cond b 2 (at loaded (block_size * g)) → length (cond b w (group_text loaded g w)) ≡ cond b 2 (at loaded (block_size * g + 2))
    go true e = e
    go false e = output_length (drop (block_size * g) loaded) w ∙ group_count loaded g

-- group g was chosen at the place, and its characters are there
pub record Taken (t : Table) (loaded input : List ℕ) (place g : ℕ) : Type 0 where
  pub choice : choose t (drop place input) ≡ Some g
  pub below : g < 34
  pub size : (group t g).size ≡ size_at loaded g
  pub positive : 1 ≤ size_at loaded g
  pub room : place + size_at loaded g ≤ length input

-- a rule of the table that fits has its block's size, and the rest is that long
rule_size : (loaded : List ℕ) (rules : ℕ) (d : Mode) (r : ℕ) (rest : List ℕ) → rules ≤ 32 → r < rules →
    Fits (table_at loaded rules d) r rest →
    ((group (table_at loaded rules d) r).size ≡ at loaded (block_size * r)) × (at loaded (block_size * r) ≤ length rest)
unfolding group group_at pattern_at
rule_size loaded rules d r rest few h f =
    let t = table_at loaded rules d in
    let size = at loaded (block_size * r) in
    let e : rule_at t r ≡ group_at loaded r = rule_at_lem loaded rules d r h in
    let fit : length (rule_at t r).ranges ≡ length (take (rule_at t r).size rest) =
    fits_word_length (rule_at t r).ranges (take (rule_at t r).size rest) f.match in
    let n : size ≡ length (take size rest) =
    sym (length_tab (λ p. ranges_at loaded (8 * r + p)) 0 size) ∙ ap (λ a. length a.ranges) (sym e) ∙ fit
    ∙ ap (λ a. length (take a.size rest)) e in (
      of_cond (λ a. a.size ≡ size) (eqb r pair_number) pair_group (cond (eqb r default_number) (or_else (every_character []) t.default) (rule_at t r))
          (λ b. let q : r ≡ 33 = eqb→eq r 33 b in absurd (omega arith))
          (λ _. of_cond (λ a. a.size ≡ size) (eqb r default_number) (or_else (every_character []) t.default) (rule_at t r)
          (λ b. let q : r ≡ 32 = eqb→eq r 32 b in absurd (omega arith)) (λ b. ap (λ a. a.size) e)),
      omega (arith, n, length-take size rest),
    )

-- the default, or a pair
module _ (loaded : List ℕ) (rules : ℕ) (rest : List ℕ) where
  abbrev Falls : Mode → ℕ → Type 0
  Falls d g = (g < 34) × ((group (table_at loaded rules d) g).size ≡ size_at loaded g) × (1 ≤ size_at loaded g) × (size_at loaded g ≤ length rest)

  default_taken : (d : Mode) (g : ℕ) → (present d ≡ true → at loaded (32 * block_size) ≡ 1) → 1 ≤ length rest → or_default d rest None ≡ Some g → Falls d g
  unfolding group table_at group_at
  default_taken Absent g one h p = let z : ◌≡◌ {A = ℕ} 0 1 = cc in absurd (omega arith)
  default_taken Single g one h p =
      let e : 32 ≡ g = cc in
      let o : at loaded (32 * block_size) ≡ 1 = one refl in
      subst (Falls Single) e (omega arith, refl, omega arith, omega arith)
  default_taken Paired g one h p = by (starts_pair rest) refl p
    where
      by : (b : Bool) → starts_pair rest ≡ b → Some (cond b pair_number default_number) ≡ Some g → Falls Paired g
      by true e q = let i : 33 ≡ g = cc in subst (Falls Paired) i (omega arith, refl, omega arith, pair_there rest (rw e tt))
      by false e q =
          let i : 32 ≡ g = cc in
          let o : at loaded (32 * block_size) ≡ 1 = one refl in
          subst (Falls Paired) i (omega arith, refl, omega arith, omega arith)

-- the choice is a rule that fits, or the default, or a pair
choose_taken : (loaded : List ℕ) (rules : ℕ) (d : Mode) (input : List ℕ) (place g : ℕ) → rules ≤ 32 →
    ((r : ℕ) → r < rules → 1 ≤ at loaded (block_size * r)) → (present d ≡ true → at loaded (32 * block_size) ≡ 1) → place < length input →
    choose (table_at loaded rules d) (drop place input) ≡ Some g → Taken (table_at loaded rules d) loaded input place g
unfolding choose table_at
choose_taken loaded rules d input place g few positive one h p =
    let t = table_at loaded rules d in
    let n = length t.rules in
    from (best t n (drop place input)) (best_chosen t n (drop place input)) p
  where
    from : (b : Option ℕ) → Chosen (table_at loaded rules d) (length (table_at loaded rules d).rules) (drop place input) b →
        or_default (mode (table_at loaded rules d)) (drop place input) b ≡ Some g → Taken (table_at loaded rules d) loaded input place g
    from None c q =
        let s : Falls loaded rules (drop place input) d g =
        default_taken loaded rules (drop place input) d g one (omega (arith, length-drop place input))
        (ap (λ m. or_default m (drop place input) None) (sym (mode_at_lem loaded rules d)) ∙ q) in
        record { choice = p; below = s.0; size = s.1; positive = s.2; room = omega (arith, s.3, length-drop place input) }
    from (Some r) c q =
        let e : r ≡ g = cc in
        let l : r < length (tab_from 0 rules (group_at loaded)) = c.0 in
        let b : r < rules = omega (arith, length_tab (group_at loaded) 0 rules) in
        let s : ((group (table_at loaded rules d) r).size ≡ at loaded (block_size * r)) × (at loaded (block_size * r) ≤ length (drop place input)) =
        rule_size loaded rules d r (drop place input) few b c.1 in
        let z : size_at loaded r ≡ at loaded (block_size * r) = plain_size loaded r (omega arith) in
        let o : 1 ≤ at loaded (block_size * r) = positive r b in
        subst (Taken (table_at loaded rules d) loaded input place) e
        (record { choice = p ∙ ap Some (sym e); below = omega arith; size = s.0 ∙ sym z; positive = omega arith; room = omega (arith, s.1, length-drop place input) })

pub choice_taken : {o : Option ℕ} (loaded : List ℕ) (rules : ℕ) (d : Mode) (input : List ℕ) (place g : ℕ) → rules ≤ 32 →
    ((r : ℕ) → r < rules → 1 ≤ at loaded (block_size * r)) → (present d ≡ true → at loaded (32 * block_size) ≡ 1) → place < length input →
    o ≡ choose (table_at loaded rules d) (drop place input) → o ≡ Some g → Taken (table_at loaded rules d) loaded input place g
choice_taken loaded rules d input place g few positive one h p q = choose_taken loaded rules d input place g few positive one h (sym p ∙ q)

-- the text in front of a buffer, longer by what was put after it
pub over_more : (text more buffer : List ℕ) →
    take (length text) (over text buffer) ++ more ++ drop (length text + length more) (over text buffer) ≡ over (text ++ more) buffer
over_more text more buffer =
    ap₂ (λ a b. a ++ more ++ b) (take-append_seam text (drop (length text) buffer))
    (drop-append-add text (drop (length text) buffer) (length more) ∙ drop-drop (length more) (length text) buffer)
    ∙ ap (λ n. text ++ more ++ drop n buffer) (sym (length-append text more))

abbrev pub answered : Bool → ℕ → ℕ → Outcome Converted
answered b place count = accepted (record { closed = b; place = place; count = count })

-- a conversion under way: the log so far, and what is left from `place` on
pub record Reached (t : Table) (loaded input buffer output : List ℕ) (place count : ℕ) : Type 0 where
  pub log : List Emission
  pub whole : (convert t input).log ≡ log ++ (convert_from t 0 (drop place input)).log
  pub closed : (convert t input).closed ≡ (convert_from t 0 (drop place input)).closed
  pub within : place ≤ length input
  pub placed : covered log ≡ place
  pub counted : length (flat_text loaded log) ≡ count
  pub written : output ≡ over (flat_text loaded log) buffer

pub reached_start : (t : Table) (loaded input buffer : List ℕ) → Reached t loaded input buffer buffer 0 0
unfolding convert text_of covered
reached_start t loaded input buffer = record { log = []; whole = refl; closed = refl; within = omega arith; placed = refl; counted = refl; written = refl }

-- what a conversion that ended answers and leaves
abbrev pub Finished : Table → List ℕ → List ℕ → List ℕ → List ℕ → ℕ → ℕ → Bool → Type 0
Finished t loaded input buffer output place count b =
    (answered b place count ≡ answered (convert t input).closed (covered (convert t input).log) (length (flat_text loaded (convert t input).log)))
    × (output ≡ over (flat_text loaded (convert t input).log) buffer)

module _ {t : Table} {loaded input buffer output : List ℕ} {place count : ℕ} (r : Reached t loaded input buffer output place count) where
  reached_end : (b : Bool) → convert_from t 0 (drop place input) ≡ record { log = []; closed = b } → Finished t loaded input buffer output place count b
  reached_end b p =
      let e : (convert t input).log ≡ r.log = r.whole ∙ ap (λ c. r.log ++ c.log) p ∙ append-nil r.log in
      let f : (convert t input).closed ≡ b = r.closed ∙ ap (λ c. c.closed) p in
      rw (e, f) (rw (r.placed, r.counted), r.written)

  pub reached_close : length input ≤ place → Finished t loaded input buffer output place count true
  reached_close h = reached_end true (convert_end t (drop place input) (omega (arith, length-drop place input)))

  pub reached_stop : {o : Option ℕ} → place < length input → o ≡ choose t (drop place input) → o ≡ None → Finished t loaded input buffer output place count false
  reached_stop h p q = reached_end false (convert_stop t (drop place input) (omega (arith, length-drop place input)) (sym p ∙ q))

  -- one more group
  module _ {g : ℕ} (k : Taken t loaded input place g) where
    abbrev emission : Emission
    emission = record { group = g; word = take (size_at loaded g) (drop place input) }

    abbrev more : List ℕ
    more = flat_write loaded g emission.word

    abbrev left : List ℕ
    left = drop (place + size_at loaded g) input

    after : convert_from t 0 (drop place input) ≡ chosen emission (convert_from t 0 left)
    after =
        convert_step t (drop place input) g (omega (arith, k.room, k.positive, length-drop place input)) (omega (arith, k.size, k.positive)) k.choice
        ∙ ap (λ n. chosen (record { group = g; word = take n (drop place input) }) (convert_from t 0 (drop n (drop place input)))) k.size
        ∙ ap (λ u. chosen emission (convert_from t 0 u)) (drop-drop (size_at loaded g) place input)

    whole_after : (convert t input).log ≡ (r.log ++ emission ∷ []) ++ (convert_from t 0 left).log
    whole_after = r.whole ∙ ap (λ c. r.log ++ c.log) after ∙ sym (append_assoc r.log (emission ∷ []) _)

    text_after : flat_text loaded (r.log ++ emission ∷ []) ≡ flat_text loaded r.log ++ more
    unfolding text_of
    text_after = text_append (flat_write loaded) r.log (emission ∷ []) ∙ ap (λ u. flat_text loaded r.log ++ u) (append-nil more)

    word_length : length emission.word ≡ size_at loaded g
    word_length = length-take-le (size_at loaded g) (drop place input) (omega (arith, k.room, length-drop place input))

    more_length : length more ≡ count_at loaded g
    more_length = written_count loaded g emission.word word_length

    count_after : length (flat_text loaded (r.log ++ emission ∷ [])) ≡ count + count_at loaded g
    count_after = ap length text_after ∙ length-append (flat_text loaded r.log) more ∙ ap₂ (λ a b. a + b) r.counted more_length

    pub reached_room : length (flat_text loaded (convert t input).log) ≤ length buffer → count + count_at loaded g ≤ length output
    reached_room l =
        let front = flat_text loaded (r.log ++ emission ∷ []) in
        let back = flat_text loaded (convert_from t 0 left).log in
        let whole : length (flat_text loaded (convert t input).log) ≡ length front + length back =
        ap (λ log. length (flat_text loaded log)) whole_after ∙ ap length (text_append (flat_write loaded) (r.log ++ emission ∷ []) (convert_from t 0 left).log)
        ∙ length-append front back in
        let fits : length (flat_text loaded r.log) ≤ length buffer = omega (arith, whole, count_after, r.counted, l) in
        omega (arith, whole, count_after, l, ap length r.written ∙ over_whole (flat_text loaded r.log) buffer fits)

    pub reached_step : (output' : List ℕ) (count' : ℕ) → count' ≡ count + count_at loaded g →
        output' ≡ take count output ++ more ++ drop (count + count_at loaded g) output →
        Reached t loaded input buffer output' (place + size_at loaded g) count'
    unfolding covered
    reached_step output' count' q e =
        let text = flat_text loaded r.log in
        let word : length emission.word ≡ size_at loaded g =
        length-take-le (size_at loaded g) (drop place input) (omega (arith, k.room, length-drop place input)) in
        record {
          log = r.log ++ emission ∷ [];
          whole = whole_after;
          closed = r.closed ∙ ap (λ c. c.closed) after;
          within = k.room;
          placed = omega (arith, covered_append r.log (emission ∷ []), r.placed, word);
          counted = count_after ∙ sym q;
          written =
              e ∙ ap (λ o. take count o ++ more ++ drop (count + count_at loaded g) o) r.written
              ∙ ap₂ (λ c m. take c (over text buffer) ++ more ++ drop (c + m) (over text buffer)) (sym r.counted) (sym more_length)
              ∙ over_more text more buffer ∙ ap (λ u. over u buffer) (sym text_after);
        }
