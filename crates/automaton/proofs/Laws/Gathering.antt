-- Words that hold class starts hold them and the new one after it is met, in whatever order, and the words elsewhere stay; so after all ranges of
-- a table they hold its starts. Range by range, since ranges met are their edges met one after another.
use mathlib.Core.Bool.{Bool, cond}
use mathlib.Core.List.{List, [], ◌∷◌, ◌++◌, map, append-nil, append_assoc}
use mathlib.Core.Path.{◌≡◌, refl, sym, ap, ap₂, subst, ◌∙◌}
use Prim.Native.Nat.{ℕ, zero, suc, min, ◌+◌, ◌-◌, ◌≤◌, ◌<◌}
use native.Mathlib.Nat.{add-zero, zero-add}
use native.Mathlib.Numerals.{add-one}
use native.Mathlib.Omega.{arith}
use borrow.Author.Tests.{lt-ltb, le-ltb}
use lib.Dec.{ltb, ltb→lt, nltb→le}
use lib.ListN.{length, take, drop, length-append, length-take, length-drop, take-append-drop}
use lib.Seq.{take_at, drop_at, take-take, drop-drop, take-add, take-append-add, drop-append-add, length-take-le}
use Rattle.lists.specs.Lists.{fold, fold_left, flat_map, tab_from, pad}
use Rattle.lists.proofs.Laws.Folds.{fold_left_append, fold_left_flat_map, flat_map_flat_map}
use Rattle.lists.proofs.Laws.Tests.{split}
use Rattle.lists.proofs.Laws.Parts.{take_pad}
use Rattle.meaning.specs.Table.{Range, Group, Table}
use Rattle.meaning.proofs.Laws.Bare.{bare_group, bare}
use Rattle.automaton.specs.Classes.{insert, edges, all_edges, starts}
use Rattle.automaton.specs.Layout.{classes_from, states_from}
use Rattle.automaton.specs.Starts.{pattern_ranges, ranges_of, Gathering, holding, with_starts, meet, meet_range, meet_ranges, SameElsewhere, Cleared}
use Rattle.automaton.proofs.Laws.Inserting.{length_insert, insert_all, insert_all_fold}

-- parts of lists

pub drop_taken : (m k : ℕ) (l : List ℕ) → m ≤ length l → drop m (take (m + k) l) ≡ take k (drop m l)
drop_taken m k l h = ap (drop m) (take-add m k l) ∙ drop_at (take m l) (take k (drop m l)) m (length-take-le m l h)

pad_append : (n : ℕ) (xs : List ℕ) → length xs ≤ n → pad n xs ≡ xs ++ pad (n - length xs) []
unfolding pad
pad_append n [] h = let e : n ≡ n - 0 = omega arith in ap (λ k. pad k []) e
pad_append zero (x ∷ xs) h = absurd (omega arith)
pad_append (suc n) (x ∷ xs) h =
    let e : n - length xs ≡ suc n - suc (length xs) = omega arith in
    ap (λ k. x ∷ k) (pad_append n xs (omega arith) ∙ ap (λ k. xs ++ pad k []) e)

drop_zeros : (k n : ℕ) → drop k (pad n []) ≡ pad (n - k) []
unfolding pad
drop_zeros zero n = let e : n ≡ n - 0 = omega arith in ap (λ m. pad m []) e
drop_zeros (suc k) zero = let e : 0 ≡ 0 - suc k = omega arith in ap (λ m. pad m []) e
drop_zeros (suc k) (suc n) = let e : n - k ≡ suc n - suc k = omega arith in drop_zeros k n ∙ ap (λ m. pad m []) e

-- words that are the same elsewhere

same_none : (w : List ℕ) → SameElsewhere w w
same_none w = record { front = refl; back = refl; size = refl }

same_then : {u v w : List ℕ} → SameElsewhere u v → SameElsewhere v w → SameElsewhere u w
same_then a b = record { front = b.front ∙ a.front; back = b.back ∙ a.back; size = b.size ∙ a.size }

-- the words with other starts from word 6 on

module _ (ss w : List ℕ) (few : length ss ≤ 64) (room : states_from < length w) where
  abbrev m : ℕ
  m = length ss

  abbrev v : List ℕ
  v = drop classes_from w

  abbrev to_64 : 64 ≡ m + (64 - m)
  to_64 = omega arith

  six : length (take classes_from w) ≡ 6
  six = length-take-le 6 w (omega arith)

  behind : drop classes_from (with_starts ss w) ≡ ss ++ drop m v
  behind = drop_at (take classes_from w) (ss ++ drop (classes_from + m) w) 6 six ∙ ap (λ l. ss ++ l) (sym (drop-drop m 6 w))

  with_same : SameElsewhere w (with_starts ss w)
  with_same = record {
    front = take_at (take classes_from w) (ss ++ drop (classes_from + m) w) 6 six;
    back = sym (drop-drop 64 6 (with_starts ss w)) ∙ ap (drop 64) behind ∙ past ∙ drop-drop 64 6 w;
    size = length-append (take classes_from w) (ss ++ drop (classes_from + m) w)
        ∙ omega (arith, six, length-append ss (drop (classes_from + m) w), length-drop (classes_from + m) w);
  }
    where
      past : drop 64 (ss ++ drop m v) ≡ drop 64 v
      past =
          ap (λ k. drop k (ss ++ drop m v)) to_64 ∙ drop-append-add ss (drop m v) (64 - m) ∙ drop-drop (64 - m) m v
          ∙ ap (λ k. drop k v) (sym to_64)

  -- the zeros behind fewer starts
  with_zeros : (old : List ℕ) → length old ≤ m → take 64 v ≡ pad 64 old → take 64 (drop classes_from (with_starts ss w)) ≡ pad 64 ss
  with_zeros old h e =
      ap (take 64) behind ∙ ap (λ k. take k (ss ++ drop m v)) to_64 ∙ take-append-add ss (drop m v) (64 - m)
      ∙ ap (λ l. ss ++ l) zeros ∙ sym (pad_append 64 ss few)
    where
      n : ℕ
      n = length old

      zeros : take (64 - m) (drop m v) ≡ pad (64 - m) []
      zeros =
          let i : m ≤ length v = omega (arith, length-drop classes_from w) in
          let j : n ≤ 64 = omega arith in
          let k : m ≡ n + (m - n) = omega arith in
          let l : 64 - n - (m - n) ≡ 64 - m = omega arith in
          sym (drop_taken m (64 - m) v i) ∙ ap (λ a. drop m (take a v)) (sym to_64) ∙ ap (drop m) (e ∙ pad_append 64 old j)
          ∙ ap (λ a. drop a (old ++ pad (64 - n) [])) k ∙ drop-append-add old (pad (64 - n) []) (m - n)
          ∙ drop_zeros (m - n) (64 - n) ∙ ap (λ a. pad a []) l

-- a start met: it is a 65th, or the words hold it

module _ (x : ℕ) (g : Gathering) where
  abbrev held : List ℕ
  held = take g.count (drop classes_from g.words)

  abbrev new : List ℕ
  new = insert x held

  abbrev by_test : Bool → Gathering
  by_test b = cond b (holding g.words 65) (holding (with_starts new g.words) (length new))

  pub meet_put : length new ≤ 64 → meet x g ≡ holding (with_starts new g.words) (length new)
  unfolding meet
  meet_put h = ap by_test (le-ltb 64 (length new) h)

  pub meet_over : 64 < length new → meet x g ≡ holding g.words 65
  unfolding meet
  meet_over h = ap by_test (lt-ltb 64 (length new) h)

  meet_cases : (P : Gathering → Type 0) → (64 < length new → P (holding g.words 65)) → (length new ≤ 64 → P (holding (with_starts new g.words) (length new))) →
      P (meet x g)
  meet_cases P over put =
      split (ltb 64 (length new)) (λ t. let h : 64 < length new = ltb→lt 64 (length new) t in subst P (sym (meet_over h)) (over h))
      (λ n. let h : length new ≤ 64 = nltb→le 64 (length new) n in subst P (sym (meet_put h)) (put h))

  pub meet_few : (meet x g).count ≤ 65
  meet_few = meet_cases (λ k. k.count ≤ 65) (λ _. omega arith) (λ h. omega arith)

  meet_same : states_from < length g.words → SameElsewhere g.words (meet x g).words
  meet_same room =
      meet_cases (λ k. SameElsewhere g.words k.words) (λ _. same_none g.words) (λ h. with_same new g.words h room)

-- the words hold these starts, and the count is their number; past 64 of them it is 65, and nothing is said of the words
pub record Holds (ss : List ℕ) (g : Gathering) : Type 0 where
  pub number : g.count ≡ min 65 (length ss)
  pub kept : length ss ≤ 64 → take 64 (drop classes_from g.words) ≡ pad 64 ss

meet_holds : (x : ℕ) (ss : List ℕ) (g : Gathering) → states_from < length g.words → Holds ss g → Holds (insert x ss) (meet x g)
meet_holds x ss g room h =
    split (ltb 64 (length ss)) (λ t. full (ltb→lt 64 (length ss) t)) (λ n. more (nltb→le 64 (length ss) n))
  where
    old : List ℕ
    old = held x g

    grows : length ss ≤ length (insert x ss)
    grows = length_insert x ss

    full : 64 < length ss → Holds (insert x ss) (meet x g)
    full i =
        let e : g.count ≡ 65 = omega (arith, h.number) in
        let l : length old ≡ 65 = length-take g.count (drop classes_from g.words) ∙ omega (arith, length-drop classes_from g.words) in
        let j : 64 < length (insert x old) = omega (arith, length_insert x old) in
        subst (Holds (insert x ss)) (sym (meet_over x g j)) (record { number = omega (arith, grows); kept = λ k. absurd (omega (arith, grows)) })

    more : length ss ≤ 64 → Holds (insert x ss) (meet x g)
    more i =
        let e : g.count ≡ length ss = omega (arith, h.number) in
        let j : g.count ≤ 64 = omega arith in
        let same : old ≡ ss =
        sym (take-take g.count 64 (drop classes_from g.words) j) ∙ ap (take g.count) (h.kept i) ∙ ap (λ k. take k (pad 64 ss)) e ∙ take_pad 64 ss i in
        let longer : length ss ≤ length (insert x old) = subst (λ k. length ss ≤ length (insert x k)) (sym same) grows in
        subst (λ k. Holds (insert x k) (meet x g)) same (meet_cases x g (Holds (insert x old))
        (λ k. record { number = omega arith; kept = λ f. absurd (omega arith) })
        (λ k. record { number = omega arith; kept = λ _. with_zeros (insert x old) g.words k room ss longer (h.kept i) }))

-- starts met one after another

abbrev meet_all : List ℕ → Gathering → Gathering
meet_all es g = fold_left meet es g

all_few : (es : List ℕ) (g : Gathering) → g.count ≤ 65 → (meet_all es g).count ≤ 65
all_few [] g h = h
all_few (e ∷ es) g h = all_few es (meet e g) (meet_few e g)

all_same : (es : List ℕ) (g : Gathering) → states_from < length g.words → SameElsewhere g.words (meet_all es g).words
all_same [] g room = same_none g.words
all_same (e ∷ es) g room =
    let s : SameElsewhere g.words (meet e g).words = meet_same e g room in
    same_then s (all_same es (meet e g) (subst (λ n. states_from < n) (sym s.size) room))

all_holds : (es ss : List ℕ) (g : Gathering) → states_from < length g.words → Holds ss g → Holds (insert_all es ss) (meet_all es g)
all_holds [] ss g room h = h
all_holds (e ∷ es) ss g room h =
    all_holds es (insert e ss) (meet e g) (subst (λ n. states_from < n) (sym (meet_same e g room).size) room) (meet_holds e ss g room h)

-- ranges met are their edges met

ranges_in_turn : (rs : List Range) (g : Gathering) → meet_ranges rs g ≡ meet_all (flat_map edges rs) g
ranges_in_turn rs g = fold_left_flat_map meet edges rs g

pub range_holds : (r : Range) (ss : List ℕ) (g : Gathering) → states_from < length g.words → Holds ss g → Holds (insert_all (edges r) ss) (meet_range r g)
range_holds r ss g room h = all_holds (edges r) ss g room h

pub ranges_few : (rs : List Range) (g : Gathering) {g' : Gathering} → g' ≡ meet_ranges rs g → g.count ≤ 65 → g'.count ≤ 65
ranges_few rs g e h = subst (λ k. k.count ≤ 65) (sym (e ∙ ranges_in_turn rs g)) (all_few (flat_map edges rs) g h)

module _ (rs : List Range) (g : Gathering) (room : states_from < length g.words) where
  pub ranges_same : SameElsewhere g.words (meet_ranges rs g).words
  ranges_same = subst (λ k. SameElsewhere g.words k.words) (sym (ranges_in_turn rs g)) (all_same (flat_map edges rs) g room)

  pub ranges_hold : (ss : List ℕ) → Holds ss g → Holds (insert_all (flat_map edges rs) ss) (meet_ranges rs g)
  ranges_hold ss h = subst (Holds (insert_all (flat_map edges rs) ss)) (sym (ranges_in_turn rs g)) (all_holds (flat_map edges rs) ss g room h)

-- ranges met after others

pub ranges_then : (qs rs : List Range) (g : Gathering) → meet_ranges (qs ++ rs) g ≡ meet_ranges rs (meet_ranges qs g)
ranges_then qs rs g = fold_left_append meet_range qs rs g

walk_next : {A : Type 0} (g : A → List Range) (f : ℕ → A) (i n : ℕ) → flat_map g (tab_from i (suc n) f) ≡ flat_map g (tab_from i n f) ++ g (f (i + n))
walk_next g f i zero = append-nil (g (f i)) ∙ ap (λ k. g (f k)) (sym (add-zero i))
walk_next g f i (suc n) =
    let e : suc i + n ≡ i + suc n = omega arith in
    ap (λ k. g (f i) ++ k) (walk_next g f (suc i) n ∙ ap (λ k. flat_map g (tab_from (suc i) n f) ++ g (f k)) e)
    ∙ sym (append_assoc (g (f i)) (flat_map g (tab_from (suc i) n f)) (g (f (i + suc n))))

-- a turn of a walk over elements by number, each with some ranges
pub ranges_next : {A : Type 0} (h : A → List Range) (f : ℕ → A) (k : ℕ) (g : Gathering) {g' g'' : Gathering} →
    g' ≡ meet_ranges (flat_map h (tab_from 0 k f)) g → g'' ≡ meet_ranges (h (f k)) g' → g'' ≡ meet_ranges (flat_map h (tab_from 0 (k + 1) f)) g
ranges_next h f k g a b =
    b ∙ ap (meet_ranges (h (f k))) a
    ∙ sym (ap (λ m. meet_ranges (flat_map h (tab_from 0 m f)) g) (add-one k)
    ∙ ap (λ rs. meet_ranges rs g) (walk_next h f 0 k)
    ∙ ranges_then (flat_map h (tab_from 0 k f)) (h (f (0 + k))) g
    ∙ ap (λ m. meet_ranges (h (f m)) (meet_ranges (flat_map h (tab_from 0 k f)) g)) (zero-add k))

-- the same over ranges by number
each_alone : (i n : ℕ) (f : ℕ → Range) → flat_map (λ r. r ∷ []) (tab_from i n f) ≡ tab_from i n f
each_alone i zero f = refl
each_alone i (suc n) f = ap (λ rs. f i ∷ rs) (each_alone (suc i) n f)

pub range_next : (f : ℕ → Range) (k : ℕ) (g : Gathering) {g' g'' : Gathering} →
    g' ≡ meet_ranges (tab_from 0 k f) g → g'' ≡ meet_range (f k) g' → g'' ≡ meet_ranges (tab_from 0 (k + 1) f) g
range_next f k g a b =
    ranges_next (λ r. r ∷ []) f k g (a ∙ ap (λ rs. meet_ranges rs g) (sym (each_alone 0 k f))) b ∙ ap (λ rs. meet_ranges rs g) (each_alone 0 (k + 1) f)

-- where no more starts fit, no range changes anything

module _ (w : List ℕ) (room : states_from < length w) where
  meet_stays : (x : ℕ) → meet x (holding w 65) ≡ holding w 65
  meet_stays x =
      let l : length (held x (holding w 65)) ≡ 65 = length-take 65 (drop classes_from w) ∙ omega (arith, length-drop classes_from w) in
      meet_over x (holding w 65) (omega (arith, length_insert x (held x (holding w 65))))

  all_stay : (es : List ℕ) → meet_all es (holding w 65) ≡ holding w 65
  all_stay [] = refl
  all_stay (e ∷ es) = ap (meet_all es) (meet_stays e) ∙ all_stay es

  pub range_over : (r : Range) (g : Gathering) → holding w 65 ≡ meet r.lowest g → holding w 65 ≡ meet_range r g
  range_over r g e =
      let rest = cond (ltb r.highest 65535) (suc r.highest ∷ []) [] in
      sym (all_stay rest) ∙ ap (meet_all rest) e

  pub ranges_stay : (rs : List Range) → holding w 65 ≡ meet_ranges rs (holding w 65)
  ranges_stay rs = sym (ranges_in_turn rs (holding w 65) ∙ all_stay (flat_map edges rs))

  module _ {A : Type 0} (h : A → List Range) (f : ℕ → A) (g : Gathering) where
    full_on : (m d : ℕ) → holding w 65 ≡ meet_ranges (flat_map h (tab_from 0 m f)) g → holding w 65 ≡ meet_ranges (flat_map h (tab_from 0 (m + d) f)) g
    full_on m zero e = e ∙ ap (λ n. meet_ranges (flat_map h (tab_from 0 n f)) g) (sym (add-zero m))
    full_on m (suc d) e =
        let i : m + d + 1 ≡ m + suc d = omega arith in
        ranges_next h f (m + d) g (full_on m d e) (ranges_stay (h (f (m + d))))
        ∙ ap (λ n. meet_ranges (flat_map h (tab_from 0 n f)) g) i

    -- a walk over n elements ends where no more starts fit
    pub ranges_full : (k n : ℕ) → k < n → {g' : Gathering} →
        g' ≡ meet_ranges (flat_map h (tab_from 0 k f)) g → holding w 65 ≡ meet_ranges (h (f k)) g' → holding w 65 ≡ meet_ranges (flat_map h (tab_from 0 n f)) g
    ranges_full k n l a b =
        let i : k + 1 + (n - (k + 1)) ≡ n = omega arith in
        full_on (k + 1) (n - (k + 1)) (ranges_next h f k g a b) ∙ ap (λ m. meet_ranges (flat_map h (tab_from 0 m f)) g) i

  pub range_full : (f : ℕ → Range) (g : Gathering) (k n : ℕ) → k < n → {g' : Gathering} →
      g' ≡ meet_ranges (tab_from 0 k f) g → holding w 65 ≡ meet_range (f k) g' → holding w 65 ≡ meet_ranges (tab_from 0 n f) g
  range_full f g k n l a b =
      ranges_full (λ r. r ∷ []) f g k n l (a ∙ ap (λ rs. meet_ranges rs g) (sym (each_alone 0 k f))) b ∙ ap (λ rs. meet_ranges rs g) (each_alone 0 n f)

-- the edges of a range met

module _ (r : Range) (g : Gathering) where
  abbrev with_edges : Bool → Gathering
  with_edges b = meet_all (cond b (suc r.highest ∷ []) []) (meet r.lowest g)

  pub range_both : r.highest < 65535 → meet_range r g ≡ meet (r.highest + 1) (meet r.lowest g)
  range_both h = ap with_edges (lt-ltb r.highest 65535 h) ∙ ap (λ x. meet x (meet r.lowest g)) (sym (add-one r.highest))

  pub range_low : 65535 ≤ r.highest → meet_range r g ≡ meet r.lowest g
  range_low h = ap with_edges (le-ltb r.highest 65535 h)

-- all starts: they stand among the words, n of them, and n is 65 for more than 64
pub record Gathered (ss before after : List ℕ) (n : ℕ) : Type 0 where
  pub number : n ≡ min 65 (length ss)
  pub filled : length ss ≤ 64 → after ≡ take classes_from before ++ pad 64 ss ++ drop states_from before
  pub same : SameElsewhere before after

edges_of_ranges : (t : Table) → flat_map edges (ranges_of t) ≡ all_edges t
edges_of_ranges t = flat_map_flat_map edges (λ g. pattern_ranges g.ranges) t.rules ∙ positions t.rules
  where
    positions : (gs : List Group) → flat_map (λ g. flat_map edges (pattern_ranges g.ranges)) gs ≡ flat_map (λ g. flat_map (flat_map edges) g.ranges) gs
    positions [] = refl
    positions (g ∷ gs) = ap₂ ◌++◌ (flat_map_flat_map edges (λ rs. rs) g.ranges) (positions gs)

pub starts_in_turn : (t : Table) → starts t ≡ insert_all (flat_map edges (ranges_of t)) (0 ∷ [])
unfolding starts
starts_in_turn t = sym (insert_all_fold (flat_map edges (ranges_of t)) (0 ∷ []) ∙ ap (fold insert (0 ∷ [])) (edges_of_ranges t))

-- 0 is a start of cleared words
pub zero_holds : (w : List ℕ) → Cleared w → Holds (0 ∷ []) (holding w 1)
unfolding pad
zero_holds w c = record { number = refl; kept = λ _. c.zeros }

pub gathered : (t : Table) (w : List ℕ) → Cleared w → let g = meet_ranges (ranges_of t) (holding w 1) in Gathered (starts t) w g.words g.count
gathered t w c = record { number = held.number; filled = whole; same = elsewhere }
  where
    room : states_from < length w
    room = omega (arith, c.room)

    g : Gathering
    g = meet_ranges (ranges_of t) (holding w 1)

    held : Holds (starts t) g
    held = subst (λ ss. Holds ss g) (sym (starts_in_turn t)) (ranges_hold (ranges_of t) (holding w 1) room (0 ∷ []) (zero_holds w c))

    elsewhere : SameElsewhere w g.words
    elsewhere = ranges_same (ranges_of t) (holding w 1) room

    whole : length (starts t) ≤ 64 → g.words ≡ take classes_from w ++ pad 64 (starts t) ++ drop states_from w
    whole h =
        sym (take-append-drop states_from g.words)
        ∙ ap₂ ◌++◌ (take-add 6 64 g.words ∙ ap₂ ◌++◌ elsewhere.front (held.kept h)) elsewhere.back

-- the starts are told by the ranges, in which output characters play no part

pub same_starts : (s t : Table) → ranges_of s ≡ ranges_of t → starts s ≡ starts t
same_starts s t e = starts_in_turn s ∙ ap (λ rs. insert_all (flat_map edges rs) (0 ∷ [])) e ∙ sym (starts_in_turn t)

pub ranges_bare : (t : Table) → ranges_of (bare t) ≡ ranges_of t
ranges_bare t = same t.rules
  where
    same : (gs : List Group) → flat_map (λ g. pattern_ranges g.ranges) (map bare_group gs) ≡ flat_map (λ g. pattern_ranges g.ranges) gs
    same [] = refl
    same (g ∷ gs) = ap (λ k. pattern_ranges g.ranges ++ k) (same gs)
