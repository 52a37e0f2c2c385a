-- Direct conversion by the array of an accepted table is direct conversion by the table.
-- Each group chosen is a rule that fits or the default, so its values are characters, and its block writes them exactly; or it is a pair, which is
-- written unchanged.
use Rattle.std.proofs.Common.{◌≡◌, ℕ, zero, suc, pred, ◌+◌, ◌*◌, ◌<◌, ◌≤◌, max, Bool, true, false, cond, T, ltb, List, [], ◌∷◌, ◌++◌, length, get_or, take, drop, sym, refl, ap, ◌∙◌, subst, ap₂, add-zero, mul-le-mul_right, arith, lit<, length-take-le, get_or-drop, le-ltb, lt-ltb, ne_eqb}
use mathlib.Core.Bool.{or-false}
use Rattle.std.specs.Prelude.{Option, None, Some}
use native.Mathlib.Decide.{ℕ_discrete}
use Rattle.lists.proofs.Laws.Options.{some_same, none_not}
use Rattle.lists.specs.Lists.{Each, greatest, optional}
use Rattle.lists.specs.Decide.{select}
use Rattle.lists.proofs.Laws.Tests.{and-true, to_between}
use Rattle.lists.proofs.Laws.Each.{each_append, each_front, each_back, each_get_d}
use Rattle.lists.proofs.Laws.Sets.{greatest_above, greatest_le}
use Rattle.meaning.specs.Refusal.{Outcome, refused, accepted, and_then}
use Rattle.meaning.specs.Table.{Characters, Group, Mark, unmarked, marked, Mode, Absent, Single, Paired, Table, mode_of, mode, present, least, every_character, groups, rule_at, group, default_number, pair_number, expansion}
use Rattle.meaning.specs.Value.{fits_word, SafeTable}
use Rattle.meaning.specs.Reader.{read_table}
use Rattle.meaning.specs.Block.{at, block, block_output, block_size}
use Rattle.meaning.specs.Meaning.{best, starts_pair, or_default, choose, written, text_of, Conversion, convert_by, convert_from, convert, meaning_text, covered}
use Rattle.meaning.specs.Direct.{limit, Converted, DirectOutcome, over, admitted, direct_by, checked, direct}
use Rattle.meaning.specs.bridge.Flat.{block_words, loaded_words, expansion_from, expansion_at, flat_conversion, flat_write, flat_text, flat_direct, Flat}
use Rattle.rules.specs.bridge.Modes.{the_mode}
use Rattle.rules.specs.bridge.Readings.{LoadedBy}
use Rattle.rules.specs.declared.mode.Mode.{Mode as Kept}
use Rattle.rules.specs.declared.load.Load.{Load}
use Rattle.meaning.proofs.Laws.Refusal.{accepted_same, accepted_not, refused_same}
use Rattle.meaning.proofs.Laws.Shape.{Within, ShapedDefault, Shaped}
use Rattle.meaning.proofs.Laws.Narrow.{Narrow}
use Rattle.meaning.proofs.Laws.Groups.{rule_shaped, default_each, group_rule, group_default, some_default, written_pair, SafeGroup, safe_group}
use Rattle.meaning.proofs.Laws.Choice.{Fits, fits_room, Chosen, best_chosen}
use Rattle.meaning.proofs.Laws.Length.{writes, text_short}
use Rattle.meaning.proofs.Laws.Exact.{block_size_lem, block_count, block_writes}
use Rattle.meaning.proofs.Laws.Direct.{table_rules, table_values}
use Rattle.meaning.proofs.Laws.Reading.{read_shaped}
use Rattle.meaning.proofs.Laws.Rows.{rows_at, rows_of, rows_of_rule, rows_of_default}
use Rattle.meaning.proofs.Laws.Loaded.{loaded_block}
use Rattle.rules.proofs.Laws.Represents.{kept_mode_lem}
use Rattle.rules.proofs.Laws.Flattened.{read_narrow, flat_flat}
use Rattle.meaning.proofs.Laws.SafeFlat.{each_numbers}
use Rattle.meaning.proofs.Laws.Bare.{conversion_flat}

-- the greatest count of output characters

module _ (loaded : List ℕ) where
  from_most : (n most : ℕ) → most ≤ expansion_from loaded n most
  unfolding expansion_from
  from_most zero most = omega arith
  from_most (suc n) most = let h = from_most n most in omega arith

  from_above : (n most k : ℕ) → k < n → at loaded (block_size * k + 2) ≤ expansion_from loaded n most
  unfolding expansion_from
  from_above zero most k h = absurd (omega arith)
  from_above (suc n) most k h =
      elim (ℕ_discrete k n) [ yes e ↦ rw e (omega arith) | no d ↦ let i = from_above n most k (omega arith) in omega arith ]

  from_below : (n most limit : ℕ) → most ≤ limit → ((k : ℕ) → k < n → at loaded (block_size * k + 2) ≤ limit) → expansion_from loaded n most ≤ limit
  unfolding expansion_from
  from_below zero most limit h f = h
  from_below (suc n) most limit h f =
      let a = from_below n most limit h (λ k i. f k (omega arith)) in let b = f n (omega arith) in omega arith

pub expansion_eight : (loaded : List ℕ) (n : ℕ) (d : Mode) → Flat loaded → n ≤ 32 → expansion_at loaded n d ≤ 8
expansion_eight loaded n d f h = from_below loaded n _ 8 (first d) (λ k i. f.outputs k (omega arith))
  where
    first : (d : Mode) → max (least d) (cond (present d) (at loaded (32 * block_size + 2)) 0) ≤ 8
    first Absent = omega arith
    first Single = omega (arith, f.outputs 32 (lit< tt))
    first Paired = omega (arith, f.outputs 32 (lit< tt))

-- the refusals and the conversion, by the array

module _ (loaded : List ℕ) (n : ℕ) (d : Mode) (input buffer : List ℕ) where
  abbrev outcome : DirectOutcome
  outcome = flat_direct loaded n d input buffer

  pub flat_long : limit < length input → (refused 14 ≡ outcome.answer) × (buffer ≡ outcome.output)
  unfolding flat_direct select
  flat_long h = rw (lt-ltb limit (length input) h) (refl, refl)

  module _ (short : length input ≤ limit) where
    pub flat_narrow : length buffer < expansion_at loaded n d * length input → (refused 15 ≡ outcome.answer) × (buffer ≡ outcome.output)
    unfolding flat_direct select
    flat_narrow h = rw (le-ltb limit (length input) short, lt-ltb (length buffer) (expansion_at loaded n d * length input) h) (refl, refl)

    pub flat_converted : {r : Outcome Converted} {o : List ℕ} → expansion_at loaded n d * length input ≤ length buffer →
        let whole = flat_conversion loaded n d input in
        let text = flat_text loaded whole.log in
        r ≡ accepted (record { closed = whole.closed; place = covered whole.log; count = length text }) →
        o ≡ over text buffer → (r ≡ outcome.answer) × (o ≡ outcome.output)
    unfolding flat_direct select
    flat_converted h p q =
        rw (le-ltb limit (length input) short, le-ltb (length buffer) (expansion_at loaded n d * length input) h) (p, q)

    pub expansion_fits : expansion_at loaded n d ≤ 8 → expansion_at loaded n d * length input ≤ 8796093022208
    expansion_fits h = let a : expansion_at loaded n d * length input ≤ 8 * length input = mul-le-mul_right (length input) h in omega (arith, short)

-- a group that is chosen: a rule that fits, the default, or a pair
pub choose_cases : {X : Type 0} (t : Table) (u : List ℕ) (n : ℕ) → choose t u ≡ Some n →
    (n < length t.rules → Fits t n u → X) → (n ≡ default_number → present (mode t) ≡ true → X) → (n ≡ pair_number → T (starts_pair u) → X) → X
unfolding choose
choose_cases {X} t u n e f d p = go (best t (length t.rules) u) (best_chosen t (length t.rules) u) e
  where
    by_pair : (b : Bool) → starts_pair u ≡ b → present (mode t) ≡ true → Some (cond b pair_number default_number) ≡ Some n → X
    by_pair true i h q = p (sym (some_same pair_number n q)) (rw i tt)
    by_pair false i h q = d (sym (some_same default_number n q)) h

    none_left : (m : Mode) → mode t ≡ m → or_default m u None ≡ Some n → X
    none_left Absent h q = absurd (none_not n q)
    none_left Single h q = d (sym (some_same default_number n q)) (ap present h)
    none_left Paired h q = by_pair (starts_pair u) refl (ap present h) q

    go : (o : Option ℕ) → Chosen t (length t.rules) u o → or_default (mode t) u o ≡ Some n → X
    go None c q = none_left (mode t) refl q
    go (Some r) c q = let z = some_same r n q in f (subst (λ m. m < length t.rules) z c.0) (subst (λ m. Fits t m u) z c.1)

pub every_fits : (g : Group) (x : ℕ) → ShapedDefault g → x < 65536 → T (fits_word g.ranges (x ∷ []))
unfolding fits_word
every_fits g x s h = rw (s.ranges, or-false, and-true) (to_between 0 65535 x (omega arith) (omega arith))

module _ (t : Table) (s : Shaped t) where
  -- the block of a rule, and of the default

  loaded_rule : (r : ℕ) → r < length t.rules → (j : ℕ) → j < block_size → at (loaded_words t) (block_size * r + j) ≡ at (block (rule_at t r)) j
  unfolding block_words
  loaded_rule r h j i =
      let few : length t.rules ≤ 32 = s.few_rules in
      loaded_block t (block_size * r + j) (omega arith)
      ∙ rows_at block_size block t r j (omega arith) i
      ∙ ap (λ l. at l j) (rows_of_rule block t.rules t.default r (every_character []) few h)

  loaded_default : (g : Group) → t.default ≡ Some g → (j : ℕ) → j < block_size → at (loaded_words t) (block_size * 32 + j) ≡ at (block g) j
  unfolding block_words
  loaded_default g e j i =
      loaded_block t (block_size * 32 + j) (omega arith)
      ∙ rows_at block_size block t 32 j (lit< tt) i
      ∙ ap (λ d. at (get_or (rows_of block t.rules d) 32 []) j) e
      ∙ ap (λ l. at l j) (rows_of_default block t.rules g)

  rule_size : (r : ℕ) → r < length t.rules → 1 ≤ at (loaded_words t) (block_size * r)
  rule_size r h =
      subst (λ i. 1 ≤ at (loaded_words t) i) (add-zero (block_size * r)) (subst (λ x. 1 ≤ x) (sym (loaded_rule r h 0 (lit< tt) ∙ block_size_lem (rule_at t r))) (rule_shaped t s r h).positive)

  default_one : present (mode t) ≡ true → at (loaded_words t) (32 * block_size) ≡ 1
  default_one e =
      let d = some_default t.default t.mark e in
      loaded_default d.0 d.1 0 (lit< tt) ∙ block_size_lem d.0 ∙ (default_each ShapedDefault t d.0 d.1 s.default).size

  -- the expansion

  pub expansion_flat : expansion_at (loaded_words t) (length t.rules) (mode t) ≡ expansion t
  unfolding expansion
  expansion_flat =
      let F = expansion_at (loaded_words t) (length t.rules) (mode t) in
      let G = greatest (λ g. length g.outputs) (groups t) in
      let E = max (least (mode t)) G in
      let below : Each (λ g. length g.outputs ≤ E) (groups t) = greatest_above (λ g. length g.outputs) E (groups t) (omega arith) in
      let most = from_most (loaded_words t) (length t.rules) (max (least (mode t)) (cond (present (mode t)) (at (loaded_words t) (32 * block_size + 2)) 0)) in
      let a : F ≤ E =
      from_below (loaded_words t) (length t.rules) _ E (first_below_lem E t.default t.mark refl (omega arith) (each_back (λ g. length g.outputs ≤ E) t.rules (optional t.default) below))
      (λ k h. subst (λ x. x ≤ E) (sym (count_rule k h)) (each_get_d (λ g. length g.outputs ≤ E) t.rules k (every_character []) (each_front (λ g. length g.outputs ≤ E) t.rules (optional t.default) below) h)) in
      let b : G ≤ F =
      greatest_le (λ g. length g.outputs) F (groups t)
      (each_append (λ g. length g.outputs ≤ F) t.rules (optional t.default)
      (each_numbers (λ g. length g.outputs ≤ F) t.rules (every_character []) (λ k h. subst (λ x. x ≤ F) (count_rule k h) (from_above (loaded_words t) (length t.rules) _ k h)))
      (first_above F t.default t.mark refl (omega arith))) in
      omega arith
    where
      count_rule : (k : ℕ) → k < length t.rules → at (loaded_words t) (block_size * k + 2) ≡ length (rule_at t k).outputs
      count_rule k h = loaded_rule k h 2 (lit< tt) ∙ block_count (rule_at t k)

      count_default : (g : Group) → t.default ≡ Some g → at (loaded_words t) (32 * block_size + 2) ≡ length g.outputs
      count_default g e = loaded_default g e 2 (lit< tt) ∙ block_count g

      first_below_lem : (E : ℕ) (o : Option Group) (k : Mark) → t.default ≡ o → least (mode_of o k) ≤ E → Each (λ g. length g.outputs ≤ E) (optional o) →
          max (least (mode_of o k)) (cond (present (mode_of o k)) (at (loaded_words t) (32 * block_size + 2)) 0) ≤ E
      first_below_lem E None k e h a = omega arith
      first_below_lem E (Some g) unmarked e h a = let i = a.0 in let c = count_default g e in omega arith
      first_below_lem E (Some g) marked e h a = let i = a.0 in let c = count_default g e in omega arith

      first_above : (F : ℕ) (o : Option Group) (k : Mark) → t.default ≡ o → cond (present (mode_of o k)) (at (loaded_words t) (32 * block_size + 2)) 0 ≤ F →
          Each (λ g. length g.outputs ≤ F) (optional o)
      first_above F None k e a = tt
      first_above F (Some g) k e a = (let c = count_default g e in omega (arith, there k a), tt)
        where
          there : (k : Mark) → cond (present (mode_of (Some g) k)) (at (loaded_words t) (32 * block_size + 2)) 0 ≤ F → at (loaded_words t) (32 * block_size + 2) ≤ F
          there unmarked a = a
          there marked a = a

  -- what is written

  module _ (safe : SafeTable t) where
    group_writes : (g : Group) (n : ℕ) (w : List ℕ) → group t n ≡ g → ((j : ℕ) → j < block_size → at (loaded_words t) (block_size * n + j) ≡ at (block g) j) →
        g.size ≤ 8 → length g.outputs ≤ 8 → Each (Within g.size) g.outputs → length w ≡ g.size → T (fits_word g.ranges w) → SafeGroup g →
        block_output (drop (block_size * n) (loaded_words t)) w ≡ writes t n w
    group_writes g n w named row small few within size takes safe =
        block_writes g w (drop (block_size * n) (loaded_words t)) small few size within (safe_group g w takes safe) (λ j h. get_or-drop (block_size * n) (loaded_words t) j 0 ∙ row j h)
        ∙ ap (λ a. written a w) (sym named)

    pair_writes : (c : ℕ) (rest : List ℕ) → T (starts_pair (c ∷ rest)) → let w = take (group t pair_number).size (c ∷ rest) in w ≡ writes t pair_number w
    unfolding group
    pair_writes c [] p = absurd p
    pair_writes c (y ∷ rest) p = sym (written_pair c y)

    chosen_writes : (n : ℕ) (c : ℕ) (rest : List ℕ) → c < 65536 → choose t (c ∷ rest) ≡ Some n →
        let w = take (group t n).size (c ∷ rest) in flat_write (loaded_words t) n w ≡ writes t n w
    unfolding SafeTable
    chosen_writes n c rest small e =
        choose_cases t (c ∷ rest) n e
        (λ h f.
        let g = rule_at t n in
        let few : length t.rules ≤ 32 = s.few_rules in
        let shape = rule_shaped t s n h in
        let named : group t n ≡ g = group_rule t n s h in
        let w = take g.size (c ∷ rest) in
        subst (λ k. let w = take k (c ∷ rest) in flat_write (loaded_words t) n w ≡ writes t n w) (sym (ap (λ a. a.size) named))
        (rw (ne_eqb n 33 (omega arith)) (group_writes g n w named (loaded_rule n h) shape.small shape.outputs shape.reaches (length-take-le g.size (c ∷ rest) (fits_room t n (c ∷ rest) s h f)) f.match
        (each_get_d SafeGroup t.rules n (every_character []) (each_front SafeGroup t.rules (optional t.default) safe) h))))
        (λ z d.
        let o = some_default t.default t.mark d in
        let g = o.0 in
        let shape = default_each ShapedDefault t g o.1 s.default in
        let one : g.size ≡ 1 = shape.size in
        let named : group t default_number ≡ g = group_default t g o.1 in
        subst (λ m. let w = take (group t m).size (c ∷ rest) in flat_write (loaded_words t) m w ≡ writes t m w) (sym z)
        (subst (λ k. let w = take k (c ∷ rest) in block_output (drop (block_size * 32) (loaded_words t)) w ≡ writes t 32 w) (sym (ap (λ a. a.size) named ∙ one))
        (group_writes g 32 (c ∷ []) named (loaded_default g o.1) (omega arith) shape.outputs (subst (λ k. Each (Within k) g.outputs) (sym one) shape.reaches) (sym one) (every_fits g c shape small)
        (default_each SafeGroup t g o.1 (each_back SafeGroup t.rules (optional t.default) safe)))))
        (λ z p.
        subst (λ m. let w = take (group t m).size (c ∷ rest) in flat_write (loaded_words t) m w ≡ writes t m w) (sym z) (pair_writes c rest p))

    text_from : (skip : ℕ) (rest : List ℕ) → Characters rest → flat_text (loaded_words t) (convert_from t skip rest).log ≡ text_of (writes t) (convert_from t skip rest).log
    unfolding convert_from text_of
    text_from skip [] e = refl
    text_from (suc skip) (c ∷ rest) e = text_from skip rest e.1
    text_from zero (c ∷ rest) e = go (choose t (c ∷ rest)) refl (λ skip. text_from skip rest e.1)
      where
        go : (o : Option ℕ) → choose t (c ∷ rest) ≡ o →
            ((skip : ℕ) → flat_text (loaded_words t) (convert_from t skip rest).log ≡ text_of (writes t) (convert_from t skip rest).log) →
            flat_text (loaded_words t) (convert_by t o (c ∷ rest) (λ skip. convert_from t skip rest)).log
            ≡ text_of (writes t) (convert_by t o (c ∷ rest) (λ skip. convert_from t skip rest)).log
        go None p h = refl
        go (Some n) p h = ap₂ ◌++◌ (chosen_writes n c rest e.0 p) (h (pred (group t n).size))

    module _ (narrow : Narrow t) (u : List ℕ) (characters : Characters u) where
      abbrev conversion : Conversion
      conversion = flat_conversion (loaded_words t) (length t.rules) (mode t) u

      text_flat : flat_text (loaded_words t) conversion.log ≡ meaning_text t u
      unfolding convert
      text_flat =
          ap (λ c. flat_text (loaded_words t) c.log) (conversion_flat t u s narrow) ∙ text_from 0 u characters

      text_room : length (flat_text (loaded_words t) conversion.log) ≤ expansion_at (loaded_words t) (length t.rules) (mode t) * length u
      text_room = rw (text_flat, expansion_flat) (text_short t s u)

      direct_flat : (buffer : List ℕ) → flat_direct (loaded_words t) (length t.rules) (mode t) u buffer
          ≡ direct_by (select ((ltb limit (length u), refused 14) ∷ (ltb (length buffer) (expansion t * length u), refused 15) ∷ []) (accepted t)) u buffer
      unfolding flat_direct select
      direct_flat buffer =
          rw (text_flat, expansion_flat, conversion_flat t u s narrow) (go (ltb limit (length u)) (ltb (length buffer) (expansion t * length u)))
        where
          go : (a b : Bool) → select ((a, direct_by (refused 14) u buffer) ∷ (b, direct_by (refused 15) u buffer) ∷ []) (direct_by (accepted t) u buffer)
              ≡ direct_by (select ((a, refused 14) ∷ (b, refused 15) ∷ []) (accepted t)) u buffer
          go true b = refl
          go false true = refl
          go false false = refl

-- a table that was loaded, or refused

loaded_refused : (o : Outcome Table) (n : ℕ) (loaded : List ℕ) → LoadedBy o (refused n) loaded → o ≡ refused n
loaded_refused (refused k) n loaded e = ap refused (refused_same k n (sym e))
loaded_refused (accepted t) n loaded e = absurd (accepted_not _ n (sym e.0))

-- what holds of the array of the table that is read
of_loaded : (P : List ℕ → ℕ → Mode → Type 0) (o : Outcome Table) (n : ℕ) (d : Kept) (loaded : List ℕ) →
    LoadedBy o (accepted (record { rules = n; mode = d })) loaded →
    ((t : Table) → o ≡ accepted t → P (loaded_words t) (length t.rules) (mode t)) → P loaded n (the_mode d)
of_loaded P (refused k) n d loaded e f = absurd (accepted_not _ k e)
of_loaded P (accepted t) n d loaded e f =
    let same = accepted_same _ _ e.0 in
    rw (e.1, ap (λ (l : Load). l.rules) same, ap (λ (l : Load). l.mode) same, kept_mode_lem (mode t)) (f t refl)

-- what the conversion by the array needs
pub record Ready (loaded : List ℕ) (n : ℕ) (d : Mode) (input : List ℕ) : Type 0 where
  pub flat : Flat loaded
  pub few : n ≤ 32
  pub positive : (g : ℕ) → g < n → 1 ≤ at loaded (block_size * g)
  pub default : present d ≡ true → at loaded (32 * block_size) ≡ 1
  pub room : length (flat_text loaded (flat_conversion loaded n d input).log) ≤ expansion_at loaded n d * length input

module _ (b : List ℕ) where
  -- a table that is read keeps what the laws above ask
  module _ (t : Table) (e : read_table b ≡ accepted t) (bytes : Each (λ x. x < 256) b) where
    pub is_shaped : Shaped t
    is_shaped = read_shaped b t (table_rules b t e)

    pub is_narrow : Narrow t
    is_narrow = read_narrow b t bytes (table_rules b t e)

    is_safe : SafeTable t
    is_safe = table_values b t e

    read_ready : (input : List ℕ) → Characters input → Ready (loaded_words t) (length t.rules) (mode t) input
    read_ready input c =
        record {
          flat = flat_flat t is_shaped is_narrow;
          few = is_shaped.few_rules;
          positive = rule_size t is_shaped;
          default = default_one t is_shaped;
          room = text_room t is_shaped is_safe is_narrow input c;
        }

    read_direct : (input buffer : List ℕ) → Characters input →
        flat_direct (loaded_words t) (length t.rules) (mode t) input buffer ≡ direct b input buffer
    unfolding direct admitted and_then
    read_direct input buffer c = rw e (direct_flat t is_shaped is_safe is_narrow input c buffer)

  module _ (r : Outcome Load) (loaded : List ℕ) (l : LoadedBy (read_table b) r loaded) where
    module _ (n : ℕ) (d : Kept) (e : r ≡ accepted (record { rules = n; mode = d })) where
      pub of_read : (P : List ℕ → ℕ → Mode → Type 0) →
          ((t : Table) → read_table b ≡ accepted t → P (loaded_words t) (length t.rules) (mode t)) → P loaded n (the_mode d)
      of_read P f = of_loaded P (read_table b) n d loaded (subst (λ x. LoadedBy (read_table b) x loaded) e l) f

      pub loaded_ready : Each (λ x. x < 256) b → (input : List ℕ) → Characters input → Ready loaded n (the_mode d) input
      loaded_ready bytes input c = of_read (λ l n d. Ready l n d input) (λ t e. read_ready t e bytes input c)

      pub loaded_direct : {r : Outcome Converted} {o : List ℕ} → Each (λ x. x < 256) b → (input buffer : List ℕ) → Characters input →
          r ≡ (flat_direct loaded n (the_mode d) input buffer).answer → o ≡ (flat_direct loaded n (the_mode d) input buffer).output → (r ≡ (direct b input buffer).answer) × (o ≡ (direct b input buffer).output)
      loaded_direct {r} {o} bytes input buffer c p q =
          subst (λ x. (r ≡ x.answer) × (o ≡ x.output))
          (of_read (λ l n d. flat_direct l n d input buffer ≡ direct b input buffer) (λ t e. read_direct t e bytes input buffer c)) (p, q)

      pub loaded_checked : accepted tt ≡ checked b
      unfolding and_then
      loaded_checked = of_read (λ l n d. accepted tt ≡ checked b) (λ t e. rw e refl)

    module _ (n : ℕ) (e : r ≡ refused n) where
      pub is_refused : read_table b ≡ refused n
      is_refused = loaded_refused (read_table b) n loaded (subst (λ x. LoadedBy (read_table b) x loaded) e l)

      pub refused_direct : (input buffer : List ℕ) → (refused n ≡ (direct b input buffer).answer) × (buffer ≡ (direct b input buffer).output)
      unfolding direct admitted and_then
      refused_direct input buffer = rw is_refused (refl, refl)

      pub refused_checked : refused n ≡ checked b
      unfolding and_then
      refused_checked = rw is_refused refl
