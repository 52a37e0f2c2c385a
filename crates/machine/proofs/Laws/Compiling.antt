-- What is compiled of the loaded array of a table is what is compiled of the table: states, accepts and targets look at no output character.
-- The words are put together part by part, each at the place where the parts before it end.
use mathlib.Core.Bool.{Bool, true, false, ◌&&◌, not, cond}
use mathlib.Core.List.{List, [], ◌∷◌, ◌++◌, map, append_assoc, append-nil}
use Rattle.std.specs.Prelude.{Option, Some, None}
use mathlib.Core.Path.{◌≡◌, refl, sym, ap, ap₂, subst, ◌∙◌}
use Prim.Native.Nat.{ℕ, zero, suc, max, ◌+◌, ◌-◌, ◌*◌, ◌≤◌, ◌<◌}
use native.Mathlib.Nat.{zero-add, add-zero}
use native.Mathlib.Omega.{arith}
use borrow.Author.Tests.{lt-ltb, le-ltb}
use lib.Dec.{eqb, ltb, ltb→lt, nltb→le}
use lib.ListN.{length, get_or, take, drop, set, length-map, length-append, get_or-append}
use lib.Seq.{take_at, drop_at, drop-drop, get_or-drop, get_or-append-add, length-take-le}
use Rattle.lists.specs.Lists.{Each, filter, flat_map, greatest, tab_from, up_to, pad, optional, or_else, find_from}
use Rattle.lists.specs.Decide.{select}
use Rattle.lists.proofs.Laws.Options.{some_same, none_not}
use Rattle.lists.proofs.Laws.Tests.{split}
use Rattle.lists.proofs.Laws.Parts.{length_pad, get_d_pad}
use Rattle.meaning.specs.Refusal.{Outcome, refused, accepted, and_then}
use Rattle.meaning.specs.Table.{Group, unmarked, Mode, Absent, Table, mode, rule_at, in_ranges, longest}
use Rattle.meaning.specs.Block.{at, block, block_size, blocks_size}
use Rattle.meaning.specs.Reader.{read_table}
use Rattle.meaning.specs.bridge.Flat.{rows, block_words, loaded_words, blocks_of, group_at, table_at, expansion_at, Flat}
use Rattle.rules.specs.bridge.Modes.{the_mode}
use Rattle.rules.specs.bridge.Readings.{LoadedBy}
use Rattle.rules.specs.declared.mode.Mode.{Mode as Kept}
use Rattle.meaning.proofs.Laws.Shape.{Shaped}
use Rattle.meaning.proofs.Laws.Narrow.{Narrow}
use Rattle.meaning.proofs.Laws.Loaded.{loaded_blocks}
use Rattle.rules.proofs.Laws.Flattened.{flat_flat}
use Rattle.meaning.proofs.Laws.Bare.{bare_group, rule_at_bare, table_flat}
use Rattle.rules.specs.declared.load.Load.{Load}
use Rattle.meaning.proofs.Laws.Rows.{pad_pad, pad_none}
use Rattle.meaning.proofs.Laws.Direct.{table_refused}
use Rattle.rules.proofs.Laws.Converting.{of_read, is_shaped, is_narrow, is_refused, expansion_flat}
use Rattle.automaton.specs.Classes.{starts}
use Rattle.automaton.specs.States.{State, first_number, initial, accept_at_end_of, accept_of, successor, same_state, inhabited, distinct, next_level, levels, states, target_of}
use Rattle.automaton.specs.Layout.{word_count, mode_word, state_words, target_words, parts, words, blocks_from, classes_from, states_from, states_size, targets_size}
use Rattle.automaton.specs.Compile.{CompileOutcome, small, compilable, compile_by, compile}
use Rattle.machine.specs.bridge.Building.{longest_at, header_at, words_at, built_by, built}
use Rattle.automaton.specs.Starts.{ranges_of, Cleared}
use Rattle.automaton.proofs.Laws.Gathering.{Gathered, same_starts, ranges_bare}
use Rattle.automaton.proofs.Laws.Compile.{compile_answers}

-- six stores
pub header_put : (w : List ℕ) (a b c d e f : ℕ) → 6 ≤ length w →
    set (set (set (set (set (set w 0 a) 1 b) 2 c) 3 d) 4 e) 5 f ≡ (a ∷ b ∷ c ∷ d ∷ e ∷ f ∷ []) ++ drop classes_from w
header_put [] a b c d e f h = absurd (omega arith)
header_put (x ∷ []) a b c d e f h = absurd (omega arith)
header_put (x ∷ y ∷ []) a b c d e f h = absurd (omega arith)
header_put (x ∷ y ∷ z ∷ []) a b c d e f h = absurd (omega arith)
header_put (x ∷ y ∷ z ∷ u ∷ []) a b c d e f h = absurd (omega arith)
header_put (x ∷ y ∷ z ∷ u ∷ v ∷ []) a b c d e f h = absurd (omega arith)
header_put (x ∷ y ∷ z ∷ u ∷ v ∷ s ∷ w) a b c d e f h = refl

-- the table read back of the array, without its default

abbrev plain : Table → Table
plain t = record { rules = map bare_group t.rules; default = None; mark = unmarked }

table_plain : (t : Table) → Shaped t → Narrow t → table_at (loaded_words t) (length t.rules) Absent ≡ plain t
unfolding table_at
table_plain t s w = ap (λ u. record { rules = u.rules; default = None; mark = unmarked }) (table_flat t s w)

-- the ranges that the compiler meets are the table's
pub ranges_loaded : (t : Table) → Shaped t → Narrow t → ranges_of (table_at (loaded_words t) (length t.rules) Absent) ≡ ranges_of t
ranges_loaded t s w = ap ranges_of (table_plain t s w) ∙ ranges_bare t

module _ (t : Table) where
  rule_plain : (r : ℕ) → rule_at (plain t) r ≡ bare_group (rule_at t r)
  rule_plain r = rule_at_bare t r

  starts_plain : starts (plain t) ≡ starts t
  starts_plain = same_starts (plain t) t (ranges_bare t)

  longest_plain : longest (plain t) ≡ longest t
  unfolding longest
  longest_plain = same t.rules
    where
      same : (gs : List Group) → greatest (λ g. g.size) (map bare_group gs) ≡ greatest (λ g. g.size) gs
      same [] = refl
      same (g ∷ gs) = ap (max g.size) (same gs)

  initial_plain : initial (plain t) ≡ initial t
  unfolding initial
  initial_plain = ap (λ n. record { depth = 0; members = up_to n }) (length-map t.rules bare_group)

  accept_plain : accept_of (plain t) ≡ accept_of t
  unfolding accept_of
  accept_plain = λ i q. first_number (filter (λ r. eqb (rule_plain r i).size q.depth && not (rule_plain r i).anchored) q.members)

  end_plain : accept_at_end_of (plain t) ≡ accept_at_end_of t
  unfolding accept_at_end_of
  end_plain = λ i q. first_number (filter (λ r. eqb (rule_plain r i).size q.depth) q.members)

  successor_plain : successor (plain t) ≡ successor t
  unfolding successor
  successor_plain = λ i q c. record {
    depth = suc q.depth;
    members = cond (eqb (accept_plain i q) 0) (filter (λ r. ltb q.depth (rule_plain r i).size && in_ranges (get_or (rule_plain r i).ranges q.depth []) c) q.members) [];
  }

  levels_plain : (ss : List ℕ) (n : ℕ) (qs : List State) → levels (plain t) ss n qs ≡ levels t ss n qs
  unfolding levels next_level
  levels_plain ss zero qs = refl
  levels_plain ss (suc n) qs =
      ap (λ l. qs ++ l) (levels_plain ss n (next_level (plain t) ss qs)
      ∙ (λ i. levels t ss n (distinct (filter inhabited (flat_map (λ q. map (successor_plain i q) ss) qs)))))

  states_plain : states (plain t) ≡ states t
  unfolding states
  states_plain = (λ i. levels (plain t) (starts_plain i) (longest_plain i) (initial_plain i ∷ [])) ∙ levels_plain (starts t) (longest t) (initial t ∷ [])

  target_plain : target_of (plain t) ≡ target_of t
  unfolding target_of
  target_plain = λ i qs q c. cond (inhabited (successor_plain i q c)) (or_else 0 (find_from 0 (same_state (successor_plain i q c)) qs)) 0

  -- the parts

  state_words_plain : flat_map (state_words (plain t)) (states (plain t)) ≡ flat_map (state_words t) (states t)
  state_words_plain = λ i. flat_map (λ q. q.depth ∷ end_plain i q ∷ accept_plain i q ∷ []) (states_plain i)

  target_words_plain : flat_map (target_words (plain t)) (states (plain t)) ≡ flat_map (target_words t) (states t)
  target_words_plain = λ i. flat_map (λ q. pad 64 (map (target_plain i (states_plain i) q) (starts_plain i))) (states_plain i)

  blocks_plain : block_words t ≡ pad (32 * block_size) (flat_map block t.rules) ++ pad block_size (flat_map block (optional t.default))
  unfolding block_words rows block
  blocks_plain = λ i. pad (32 * block_size) (flat_map (λ g. whole g i) t.rules) ++ pad block_size (flat_map (λ g. whole g i) (optional t.default))
    where
      whole : (g : Group) → pad block_size (block g) ≡ block g
      whole g = pad_pad block_size (g.size ∷ _)

-- L by the array
module _ (loaded : List ℕ) where
  greatest_next : (i n : ℕ) → greatest (λ g. g.size) (tab_from i (suc n) (group_at loaded))
      ≡ max (greatest (λ g. g.size) (tab_from i n (group_at loaded))) (at loaded (block_size * (i + n)))
  unfolding group_at
  greatest_next i zero = let e : at loaded (block_size * (i + 0)) ≡ at loaded (block_size * i) = ap (λ k. at loaded (block_size * k)) (add-zero i) in omega arith
  greatest_next i (suc n) =
      let e : at loaded (block_size * (suc i + n)) ≡ at loaded (block_size * (i + suc n)) = ap (λ k. at loaded (block_size * k)) (omega arith) in
      let h = greatest_next (suc i) n in omega arith

  longest_at_lem : (n : ℕ) → longest_at loaded n ≡ longest (table_at loaded n Absent)
  unfolding longest_at longest table_at
  longest_at_lem zero = refl
  longest_at_lem (suc n) =
      ap (λ m. max m (at loaded (block_size * n))) (longest_at_lem n)
      ∙ ap (λ k. max (greatest (λ g. g.size) (tab_from 0 n (group_at loaded))) (at loaded (block_size * k))) (sym (zero-add n))
      ∙ sym (greatest_next 0 n)

-- words that are 0, and class starts put into them

pub drop_later : (m n : ℕ) (a b : List ℕ) → drop m a ≡ drop m b → drop (m + n) a ≡ drop (m + n) b
drop_later m n a b e = sym (drop-drop n m a) ∙ ap (drop n) e ∙ drop-drop n m b

module _ (w : List ℕ) (zeros : w ≡ pad word_count [] ++ drop word_count w) where
  zero_at : (i : ℕ) → i < word_count → at w i ≡ 0
  zero_at i h =
      ap (λ l. at l i) zeros ∙ get_or-append (pad word_count []) (drop word_count w) 0 i (subst (λ n. i < n) (sym (length_pad word_count [])) h)
      ∙ get_d_pad word_count [] i h

  zero_starts : take 64 (drop classes_from w) ≡ pad 64 []
  zero_starts =
      ap (λ l. take 64 (drop classes_from l)) (zeros ∙ ap (λ l. l ++ drop word_count w) (pad_none classes_from (word_count - classes_from)) ∙ append_assoc (pad classes_from []) (pad (word_count - classes_from) []) (drop word_count w))
      ∙ ap (take 64) (drop_at (pad classes_from []) (pad (word_count - classes_from) [] ++ drop word_count w) classes_from (length_pad classes_from []))
      ∙ ap (take 64) (ap (λ l. l ++ drop word_count w) (pad_none 64 (word_count - states_from)) ∙ append_assoc (pad 64 []) (pad (word_count - states_from) []) (drop word_count w))
      ∙ take_at (pad 64 []) (pad (word_count - states_from) [] ++ drop word_count w) 64 (length_pad 64 [])

  -- words as they are before the first range is met
  pub before_ranges : word_count ≤ length w → Cleared w
  before_ranges room = record { room = room; zeros = zero_starts }

  module _ (ss v : List ℕ) (n : ℕ) (g : Gathered ss w v n) where
    pub gathered_back : drop word_count v ≡ drop word_count w
    gathered_back = drop_later states_from (word_count - states_from) v w g.same.back

    pub gathered_zero : (i : ℕ) → states_from ≤ i → i < blocks_from → at v i ≡ 0
    gathered_zero i a b =
        let e : i ≡ states_from + (i - states_from) = omega arith in
        ap (at v) e ∙ sym (get_or-drop states_from v (i - states_from) 0) ∙ ap (λ l. at l (i - states_from)) g.same.back ∙ get_or-drop states_from w (i - states_from) 0 ∙ ap (at w) (sym e) ∙ zero_at i (omega arith)

    pub gathered_number : n ≤ 64 → n ≡ length ss
    gathered_number h = omega (arith, g.number)

    pub gathered_over : 64 < n → 64 < length ss
    gathered_over h = omega (arith, g.number)

    pub gathered_start : word_count ≤ length w → n ≤ 64 → (k : ℕ) → k < length ss → at v (classes_from + k) ≡ get_or ss k 0
    gathered_start room h k i =
        let few : length ss ≤ 64 = omega (arith, gathered_number h) in
        let six : length (take classes_from w) ≡ 6 = length-take-le 6 w (omega arith) in
        let whole : length (take classes_from w ++ pad 64 ss) ≡ states_from = length-append (take classes_from w) (pad 64 ss) ∙ omega (arith, six, length_pad 64 ss) in
        ap (λ l. at l (classes_from + k)) (g.filled few)
        ∙ get_or-append (take classes_from w ++ pad 64 ss) (drop states_from w) 0 (classes_from + k) (omega arith)
        ∙ ap (λ m. at (take classes_from w ++ pad 64 ss) (m + k)) (sym six)
        ∙ get_or-append-add (take classes_from w) (pad 64 ss) k 0
        ∙ get_d_pad 64 ss k (omega arith)

-- the words put together
pub assembled : (w w1 w2 w3 w4 h s a b blocks : List ℕ) → word_count ≤ length w → length h ≡ 6 → length s ≡ 64 → length a ≡ states_size → length b ≡ targets_size →
    w1 ≡ take classes_from w ++ s ++ drop states_from w → w2 ≡ take states_from w1 ++ a ++ b ++ drop blocks_from w1 → w3 ≡ h ++ drop classes_from w2 → w4 ≡ take blocks_from w3 ++ blocks ++ drop word_count w3 →
    w4 ≡ (h ++ (s ++ (a ++ (b ++ blocks)))) ++ drop word_count w
assembled w w1 w2 w3 w4 h s a b blocks room lh ls la lb e1 e2 e3 e4 =
    e4
    ∙ ap₂ (λ x y. x ++ blocks ++ y) (ap (take blocks_from) third ∙ take_at front rest blocks_from front_length) last
    ∙ ap (λ x. x ++ drop word_count w)
    (append_assoc h (s ++ (a ++ b)) blocks ∙ ap (λ x. h ++ x) (append_assoc s (a ++ b) blocks ∙ ap (λ x. s ++ x) (append_assoc a b blocks)))
  where
    p : List ℕ
    p = take classes_from w

    rest : List ℕ
    rest = drop blocks_from w1

    front : List ℕ
    front = h ++ (s ++ (a ++ b))

    six : length p ≡ 6
    six = length-take-le 6 w (omega arith)

    seventy : length (p ++ s) ≡ states_from
    seventy = length-append p s ∙ omega (arith, six)

    front_length : length front ≡ blocks_from
    front_length =
        length-append h (s ++ (a ++ b)) ∙ omega (arith, length-append s (a ++ b), length-append a b)

    second : w2 ≡ p ++ (s ++ (a ++ (b ++ rest)))
    second =
        e2 ∙ ap (λ x. x ++ a ++ b ++ rest) (ap (take states_from) e1 ∙ take_at (p ++ s) (drop states_from w) states_from seventy)
        ∙ append_assoc (p ++ s ++ a) b rest ∙ append_assoc (p ++ s) a (b ++ rest) ∙ append_assoc p s (a ++ (b ++ rest))

    third : w3 ≡ front ++ rest
    third =
        e3 ∙ ap (λ x. h ++ x) (ap (drop classes_from) second ∙ drop_at p (s ++ (a ++ (b ++ rest))) 6 six)
        ∙ sym (append_assoc h (s ++ (a ++ b)) rest ∙ ap (λ x. h ++ x) (append_assoc s (a ++ b) rest ∙ ap (λ x. s ++ x) (append_assoc a b rest)))

    behind : drop states_from w1 ≡ drop states_from w
    behind = ap (drop states_from) e1 ∙ drop_at (p ++ s) (drop states_from w) states_from seventy

    last : drop word_count w3 ≡ drop word_count w
    last =
        sym (drop-drop blocks_size blocks_from w3) ∙ ap (drop blocks_size) (ap (drop blocks_from) third ∙ drop_at front rest blocks_from front_length)
        ∙ drop-drop blocks_size blocks_from w1 ∙ drop_later states_from (word_count - states_from) w1 w behind

-- the same with the six words as they were counted
pub put_together : (t : Table) (n : ℕ) (d : Mode) (w w1 w2 w3 w4 loaded : List ℕ) (q c l e : ℕ) → word_count ≤ length w →
    q ≡ length (states t) → c ≡ length (starts t) → l ≡ longest_at loaded n → e ≡ expansion_at loaded n d →
    w1 ≡ take classes_from w ++ pad 64 (starts t) ++ drop states_from w →
    w2 ≡ take states_from w1 ++ pad states_size (flat_map (state_words t) (states t)) ++ pad targets_size (flat_map (target_words t) (states t)) ++ drop blocks_from w1 →
    w3 ≡ (q ∷ c ∷ l ∷ e ∷ n ∷ mode_word d ∷ []) ++ drop classes_from w2 → w4 ≡ take blocks_from w3 ++ blocks_of loaded ++ drop word_count w3 →
    w4 ≡ words_at t loaded n d ++ drop word_count w
unfolding words_at
put_together t n d w w1 w2 w3 w4 loaded q c l e room eq ec el ee e1 e2 e3 e4 =
    assembled w w1 w2 w3 w4 (header_at t loaded n d) (pad 64 (starts t)) (pad states_size (flat_map (state_words t) (states t)))
    (pad targets_size (flat_map (target_words t) (states t))) (blocks_of loaded) room refl (length_pad 64 _) (length_pad states_size _) (length_pad targets_size _) e1 e2
    (e3 ∙ (λ i. (eq i ∷ ec i ∷ el i ∷ ee i ∷ n ∷ mode_word d ∷ []) ++ drop classes_from w2)) e4

-- the count of states as it is answered

module _ (n : ℕ) where
  abbrev counted_by : Bool → Option ℕ
  counted_by b = cond b None (Some n)

  pub states_over : None ≡ counted_by (ltb 256 n) → 256 < n
  states_over e =
      split (ltb 256 n) (λ t. ltb→lt 256 n t)
      (λ f. absurd (none_not n (e ∙ ap counted_by (le-ltb 256 n (nltb→le 256 n f)))))

  pub states_few : (r : ℕ) → Some r ≡ counted_by (ltb 256 n) → (n ≤ 256) × (r ≡ n)
  states_few r e =
      split (ltb 256 n) (λ t. absurd (none_not r (sym (e ∙ ap counted_by (lt-ltb 256 n (ltb→lt 256 n t))))))
      (λ f. let few : n ≤ 256 = nltb→le 256 n f in (few, some_same r n (e ∙ ap counted_by (le-ltb 256 n few))))

-- words that were cleared

module _ (w v : List ℕ) (e : v ≡ pad word_count [] ++ drop word_count w) where
  pub cleared_back : drop word_count v ≡ drop word_count w
  cleared_back = ap (drop word_count) e ∙ drop_at (pad word_count []) (drop word_count w) word_count (length_pad word_count [])

  pub cleared : v ≡ pad word_count [] ++ drop word_count v
  cleared = e ∙ ap (λ l. pad word_count [] ++ l) (sym cleared_back)

-- what is built, by the counts of classes and states

module _ (t : Table) (loaded : List ℕ) (n : ℕ) (d : Mode) (rest : List ℕ) where
  pub built_classes : 64 < length (starts t) → built_by t loaded n d rest ≡ record { answer = refused 8; words = pad word_count [] ++ rest }
  unfolding built_by select
  built_classes h = rw (lt-ltb 64 (length (starts t)) h) refl

  module _ (few : length (starts t) ≤ 64) where
    pub built_states : 256 < length (states t) → built_by t loaded n d rest ≡ record { answer = refused 9; words = pad word_count [] ++ rest }
    unfolding built_by select
    built_states h = rw (le-ltb 64 (length (starts t)) few, lt-ltb 256 (length (states t)) h) refl

    pub built_words : length (states t) ≤ 256 → built_by t loaded n d rest ≡ record { answer = accepted tt; words = words_at t loaded n d ++ rest }
    unfolding built_by select
    built_words h = rw (le-ltb 64 (length (starts t)) few, le-ltb 256 (length (states t)) h) refl

-- by the array of a table what is compiled of it

module _ (t : Table) (s : Shaped t) (w : Narrow t) where
  abbrev n : ℕ
  n = length t.rules

  abbrev d : Mode
  d = mode t

  words_flat : words_at (plain t) (loaded_words t) n d ≡ words t
  unfolding words_at words parts
  words_flat =
      λ i. (length (states_plain t i) ∷ length (starts_plain t i) ∷ most i ∷ expansion_flat t s i ∷ n ∷ mode_word d ∷ [])
      ++ (pad 64 (starts_plain t i) ++ (pad states_size (state_words_plain t i) ++ (pad targets_size (target_words_plain t i) ++ blocks i)))
    where
      most : longest_at (loaded_words t) n ≡ longest t
      most = longest_at_lem (loaded_words t) n ∙ ap longest (table_plain t s w) ∙ longest_plain t

      blocks : blocks_of (loaded_words t) ≡ pad (32 * block_size) (flat_map block t.rules) ++ (pad block_size (flat_map block (optional t.default)) ++ [])
      blocks = loaded_blocks t ∙ blocks_plain t ∙ ap (λ l. pad (32 * block_size) (flat_map block t.rules) ++ l) (sym (append-nil (pad block_size (flat_map block (optional t.default)))))

  built_flat : (buffer found : List ℕ) → drop word_count buffer ≡ drop word_count found →
      built (loaded_words t) n d buffer ≡ compile_by (small t) found
  unfolding built_by select small
  built_flat buffer found e =
      ap₂ (λ u r. built_by u (loaded_words t) n d r) (table_plain t s w) e
      ∙ (λ i. chosen (ltb 64 (length (starts_plain t i))) (ltb 256 (length (states_plain t i))) (words_flat i))
      ∙ go (ltb 64 (length (starts t))) (ltb 256 (length (states t)))
    where
      rest : List ℕ
      rest = drop word_count found

      chosen : Bool → Bool → List ℕ → CompileOutcome
      chosen a b ws =
          select (
          (a, record { answer = refused 8; words = pad word_count [] ++ rest }) ∷ (b, record { answer = refused 9; words = pad word_count [] ++ rest }) ∷ [])
          (record { answer = accepted tt; words = ws ++ rest })

      go : (a b : Bool) → chosen a b (words t) ≡ compile_by (select ((a, refused 8) ∷ (b, refused 9) ∷ []) (accepted t)) found
      go true b = refl
      go false true = refl
      go false false = refl

-- compiling

module _ (b w : List ℕ) where
  pub compile_short : length w < word_count → (refused 10 ≡ (compile b w).answer) × (w ≡ (compile b w).words)
  unfolding compile compilable select
  compile_short h = rw (lt-ltb (length w) word_count h) (refl, refl)

  module _ (room : word_count ≤ length w) where
    compile_long : compile b w ≡ compile_by (and_then (read_table b) small) w
    unfolding compile compilable select
    compile_long = rw (le-ltb (length w) word_count room) refl

    module _ (r : Outcome Load) (loaded : List ℕ) (l : LoadedBy (read_table b) r loaded) where
      pub compile_refused : (n : ℕ) → r ≡ refused n → (refused n ≡ (compile b w).answer) × (pad word_count [] ++ drop word_count w ≡ (compile b w).words)
      unfolding and_then
      compile_refused n e =
          let q : read_table b ≡ refused n = is_refused b r loaded l n e in
          let a : (compile b w).answer ≡ refused n = ap (λ o. o.answer) (compile_long ∙ ap (λ o. compile_by (and_then o small) w) q) in
          (sym a, sym ((compile_answers b w).zeros n a (λ z. subst (λ m. read_table b ≡ refused m → ⊥) (sym z) (table_refused b 10) q)))

      module _ (n : ℕ) (d : Kept) (e : r ≡ accepted (record { rules = n; mode = d })) (bytes : Each (λ x. x < 256) b) where
        pub compile_flat : Flat loaded × (n ≤ 32)
        compile_flat = of_read b r loaded l n d e (λ l n d. Flat l × (n ≤ 32))
            (λ t q. (flat_flat t (is_shaped b t q bytes) (is_narrow b t q bytes), (is_shaped b t q bytes).few_rules))

        pub compile_built : (buffer : List ℕ) → drop word_count buffer ≡ drop word_count w → built loaded n (the_mode d) buffer ≡ compile b w
        unfolding and_then
        compile_built buffer z = of_read b r loaded l n d e (λ l n d. built l n d buffer ≡ compile b w)
            (λ t q. built_flat t (is_shaped b t q bytes) (is_narrow b t q bytes) buffer w z ∙ sym (compile_long ∙ ap (λ o. compile_by (and_then o small) w) q))
