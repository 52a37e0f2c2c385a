-- What is described is read: the reader accepts the records of a well formed table as that table.
-- The records of each position, output character and group are taken in, in turn, and lead to the table with that part at its end.
use mathlib.Core.Bool.{Bool, true, false, ◌&&◌, ◌||◌, not, cond}
use mathlib.Core.List.{List, [], ◌∷◌, ◌++◌, append-nil, append_assoc}
use Rattle.std.specs.Prelude.{Option, None, Some}
use mathlib.Core.Logic.{◌≢◌}
use mathlib.Core.Path.{◌≡◌, refl, sym, ap, subst, ◌∙◌}
use Prim.Native.Nat.{ℕ, suc, ◌+◌, ◌*◌, ◌/◌, ◌%◌, ◌≤◌, ◌<◌}
use native.Mathlib.Nat.{mul-suc, mul-div_right, mul-mod_right}
use native.Mathlib.Omega.{arith}
use lib.Dec.{T, T_not, not_T, eqb, leb, ltb, leb→le, ltb→lt, eqb→eq, eqb_refl, lit<}
use lib.IntN.{ℤ, pos, nat_abs}
use lib.ListN.{length, get_or, length-append}
use lib.Seq.{append_snoc, take_at, drop_at}
use Rattle.lists.specs.Lists.{Each, flat_map, at_last, last_d, optional}
use Rattle.lists.proofs.Laws.Tests.{of_T, of_not, refute, neither, or_cases, by_cases, eq→eqb, ne→neqb}
use Rattle.lists.proofs.Laws.Each.{each_weaken}
use Rattle.lists.proofs.Laws.Reordered.{reordered_sym, reordered_each}
use Rattle.lists.proofs.Laws.Last.{last_d_snoc}
use Rattle.meaning.specs.Refusal.{accepted, and_then}
use Rattle.meaning.specs.Table.{Range, Output, sum, digit, Group, Table, every_character, is_shift, Mark, unmarked}
use Rattle.meaning.specs.Record.{Record, rule, range, output, term, default, hexadecimal, decode}
use Rattle.meaning.specs.Reader.{signed, Reading, unread, latest, repeated, unfilled, misplaced, skipping, too_many, change_latest, add_range, put_at, add_term, change_ranges, change_outputs, add_output, taken, read_one, read_records, read_end, read_rules}
use Rattle.meaning.specs.WellFormed.{WellFormedRange, Rising, WellFormedPosition, Signed, WellFormedOutput, WellFormedRule, WellFormedDefault, WellFormed}
use Rattle.meaning.specs.Records.{little_endian, twos_complement, rule_record, range_record, output_record, Term, term_record, default_record, digit_record, Joined, range_records, terms, OutputRecords, RuleRecords, DefaultRecords, Records}
use Rattle.meaning.proofs.Laws.Terms.{there_none, Named, New, Fits, terms_fit, all_put, any_order, by_position}
use Rattle.meaning.proofs.Laws.Encoding.{signed_of_bits, half_16, half_32, read_rule, read_range, read_output, read_term, read_default, read_hexadecimal}

-- tests that fail

pub not_both : (a b : Bool) → (T a → T (not b)) → T (not (a && b))
not_both true b f = f tt
not_both false b f = tt

pub not_leb : (m n : ℕ) → n < m → T (not (leb m n))
not_leb m n h = not_T (leb m n) (λ t. let k = leb→le m n t in omega arith)

pub not_ltb : (m n : ℕ) → n ≤ m → T (not (ltb m n))
not_ltb m n h = not_T (ltb m n) (λ t. let k = ltb→lt m n t in omega arith)

-- the bytes lead from one reading to another, record by record
data Reads : Reading → List ℕ → Reading → Type 0 where
  stay : {s : Reading} → Reads s [] s
  next : {s s' s'' : Reading} (c : List ℕ) {d : List ℕ} → length c ≡ 8 → read_one s (decode c) ≡ accepted s' → Reads s' d s'' → Reads s (c ++ d) s''

then : {s s' s'' : Reading} {b c : List ℕ} → Reads s b s' → Reads s' c s'' → Reads s (b ++ c) s''
then stay r = r
then {s} {s'' = s''} {c = c} (next a {d = d} l e q) r = subst (λ x. Reads s x s'') (sym (append_assoc a d c)) (next a l e (then q r))

moved : {s s' s'' : Reading} {b c : List ℕ} → b ≡ c → s' ≡ s'' → Reads s b s' → Reads s c s''
moved {s} {s'' = s''} {b} e f r = subst (λ c. Reads s c s'') e (subst (Reads s b) f r)

one : (s s' : Reading) (c : List ℕ) (x : Record) → length c ≡ 8 → decode c ≡ Some x →
    T (not (misplaced s x)) → T (not (skipping s x)) → T (not (too_many s x)) → taken s x ≡ s' → Reads s c s'
unfolding read_one
one s s' c x l e m n o t =
    let a : read_one s (decode c) ≡ accepted s' =
    ap (read_one s) e
    ∙ by_cases (λ r. r ≡ accepted s') _ (accepted (taken s x)) (
      λ u. absurd (T_not (misplaced s x) m u),
      λ _. (λ u. absurd (T_not (skipping s x) n u), λ _. (λ u. absurd (T_not (too_many s x) o u), λ _. ap accepted t)),
    ) in
    subst (λ b. Reads s b s') (append-nil c) (next c l a stay)

counted : {s s' : Reading} {b : List ℕ} → Reads s b s' → (n : ℕ) × (length b ≡ 8 * n) × (read_records n b s ≡ accepted s')
unfolding read_records and_then
counted stay = (0, refl, refl)
counted (next c {d = d} l e r) =
    let k = counted r in (
      suc k.0,
      length-append c d ∙ omega (arith, k.1, mul-suc 8 k.0),
      rw (take_at c d 8 l, drop_at c d 8 l, e) k.2,
    )

-- a reading whose last group is g: the default, with its mark, or a rule

abbrev pub holding : Option Mark → List Group → Group → Table
holding (Some m) rs g = record { rules = rs; default = Some g; mark = m }
holding None rs g = record { rules = rs ++ (g ∷ []); default = None; mark = unmarked }

abbrev pub at : Option Mark → List Group → Group → ℕ → Reading
at d rs g kind = record { table = holding d rs g; kind = kind }

pub latest_at : (d : Option Mark) (rs : List Group) (g : Group) (kind : ℕ) → latest (at d rs g kind) ≡ g
unfolding latest
latest_at (Some m) rs g kind = refl
latest_at None rs g kind = last_d_snoc (every_character []) rs g

pub at_last_snoc : {A : Type 0} (f : A → A) (xs : List A) (x : A) → at_last f (xs ++ (x ∷ [])) ≡ xs ++ (f x ∷ [])
at_last_snoc f [] x = refl
at_last_snoc f (y ∷ []) x = refl
at_last_snoc f (y ∷ (z ∷ zs)) x = ap (λ l. y ∷ l) (at_last_snoc f (z ∷ zs) x)

pub change_at : (f : Group → Group) (d : Option Mark) (rs : List Group) (g : Group) → change_latest f (holding d rs g) ≡ holding d rs (f g)
unfolding change_latest
change_at f (Some m) rs g = refl
change_at f None rs g = λ i. record { rules = at_last_snoc f rs g i; default = None; mark = unmarked }

-- ranges

module _ (d : Option Mark) (gs : List Group) where
  range_read : (g : Group) (kind p : ℕ) (r : Range) → T (eqb kind 1 || eqb kind 2) → g.size ≤ 8 → p < g.size →
      p ≤ length g.ranges → length g.ranges ≤ suc p →
      (suc p ≡ length g.ranges → ((last_d r (last_d [] g.ranges)).highest < r.lowest) × (length (last_d [] g.ranges) ≢ 4)) →
      WellFormedRange r → Reads (at d gs g kind) (range_record p r) (at d gs (change_ranges (add_range p r) g) 2)
  unfolding little_endian misplaced skipping too_many taken
  range_read g kind p r k e l h m a w =
      let ps = g.ranges in
      let t1 = not (eqb kind 1 || eqb kind 2) in
      let t2 = leb g.size p in
      let t3 = ltb (suc p) (length ps) in
      let here = eqb (suc p) (length ps) in
      let touching = leb r.lowest (last_d r (last_d [] ps)).highest in
      let above : T here → ((last_d r (last_d [] ps)).highest < r.lowest) × (length (last_d [] ps) ≢ 4) = λ t. a (eqb→eq (suc p) (length ps) t) in
      one (at d gs g kind) _ (range_record p r) (range p r) refl (read_range p r (omega arith) w)
      (rw latest_at
      (neither (t1 || t2 || t3) (here && touching)
      (neither (t1 || t2) t3 (neither t1 t2 (refute (eqb kind 1 || eqb kind 2) k) (not_leb g.size p l)) (not_ltb (suc p) (length ps) m))
      (not_both here touching (λ t. not_leb r.lowest (last_d r (last_d [] ps)).highest (above t).0))))
      (rw latest_at (not_ltb (length ps) p h))
      (rw latest_at (not_both here (eqb (length (last_d [] ps)) 4) (λ t. ne→neqb (length (last_d [] ps)) 4 (above t).1)))
      (ap (λ t. record { table = t; kind = 2 }) (change_at (change_ranges (add_range p r)) d gs g))

-- each starts above the last's end
rising_at : (qs : List Range) (r : Range) (rs : List Range) → 1 ≤ length qs → Rising (qs ++ (r ∷ rs)) → (last_d r qs).highest < r.lowest
rising_at [] r rs n h = absurd (omega arith)
rising_at (q ∷ []) r rs n h = h.0
rising_at (q ∷ (p ∷ qs)) r rs n h = rising_at (p ∷ qs) r rs (omega arith) h.1

-- a range at a place of its own, and beside others
pub add_new : (r : Range) (ps : List (List Range)) → add_range (length ps) r ps ≡ ps ++ ((r ∷ []) ∷ [])
add_new r ps = ap (λ b. cond b (ps ++ ((r ∷ []) ∷ [])) (at_last (λ rs. rs ++ (r ∷ [])) ps)) (of_T (eqb (length ps) (length ps)) (eqb_refl (length ps)))

pub add_beside : (r : Range) (ps : List (List Range)) (qs : List Range) → add_range (length ps) r (ps ++ (qs ∷ [])) ≡ ps ++ ((qs ++ (r ∷ [])) ∷ [])
add_beside r ps qs =
    let n : length (ps ++ (qs ∷ [])) ≡ length ps + 1 = length-append ps (qs ∷ []) in
    let differ : length ps ≢ length (ps ++ (qs ∷ [])) = λ e. omega arith in
    ap (λ b. cond b (ps ++ (qs ∷ []) ++ ((r ∷ []) ∷ [])) (at_last (λ rs. rs ++ (r ∷ [])) (ps ++ (qs ∷ []))))
    (of_not (eqb (length ps) (length (ps ++ (qs ∷ [])))) (ne→neqb (length ps) (length (ps ++ (qs ∷ []))) differ))
    ∙ at_last_snoc (λ rs. rs ++ (r ∷ [])) ps qs

module _ (d : Option Mark) (gs : List Group) (k : ℕ) (small : k ≤ 8) (anchored : Bool) where
  -- the group with the ranges read so far
  abbrev ranged : List (List Range) → Group
  ranged ps = record { size = k; anchored = anchored; ranges = ps; outputs = [] }

  beside_read : (ps : List (List Range)) (qs rs : List Range) → length ps < k → 1 ≤ length qs → length (qs ++ rs) ≤ 4 → Rising (qs ++ rs) → Each WellFormedRange rs →
      Reads (at d gs (ranged (ps ++ (qs ∷ []))) 2) (flat_map (range_record (length ps)) rs) (at d gs (ranged (ps ++ ((qs ++ rs) ∷ []))) 2)
  beside_read ps qs [] l n f h w = moved refl (ap (λ q. at d gs (ranged (ps ++ (q ∷ []))) 2) (sym (append-nil qs))) stay
  beside_read ps qs (r ∷ rs) l n f h w =
      let p = length ps in
      let count : length (ps ++ (qs ∷ [])) ≡ p + 1 = length-append ps (qs ∷ []) in
      let last : last_d [] (ps ++ (qs ∷ [])) ≡ qs = last_d_snoc [] ps qs in
      let many : length (qs ++ (r ∷ rs)) ≡ length qs + suc (length rs) = length-append qs (r ∷ rs) in
      let join : qs ++ (r ∷ []) ++ rs ≡ qs ++ (r ∷ rs) = append_snoc qs r rs in
      let here : Reads (at d gs (ranged (ps ++ (qs ∷ []))) 2) (range_record p r) (at d gs (ranged (ps ++ ((qs ++ (r ∷ [])) ∷ []))) 2) =
      moved refl (ap (λ q. at d gs (ranged q) 2) (add_beside r ps qs))
      (range_read d gs (ranged (ps ++ (qs ∷ []))) 2 p r tt small l (omega arith) (omega arith)
      (λ _. rw last (rising_at qs r rs n h, λ e. omega arith)) w.0) in
      let rest = beside_read ps (qs ++ (r ∷ [])) rs l (rw length-append (omega arith)) (rw join f) (rw join h) w.1 in
      then here (moved refl (ap (λ q. at d gs (ranged (ps ++ (q ∷ []))) 2) join) rest)

  position_read : (ps : List (List Range)) (rs : List Range) (kind : ℕ) → T (eqb kind 1 || eqb kind 2) → length ps < k → WellFormedPosition rs →
      Reads (at d gs (ranged ps) kind) (flat_map (range_record (length ps)) rs) (at d gs (ranged (ps ++ (rs ∷ []))) 2)
  position_read ps [] kind t l w = let n : 1 ≤ 0 = w.some_range in absurd (omega arith)
  position_read ps (r ∷ rs) kind t l w =
      let p = length ps in
      let here : Reads (at d gs (ranged ps) kind) (range_record p r) (at d gs (ranged (ps ++ ((r ∷ []) ∷ []))) 2) =
      moved refl (ap (λ q. at d gs (ranged q) 2) (add_new r ps))
      (range_read d gs (ranged ps) kind p r t small l (omega arith) (omega arith) (λ e. absurd (omega arith)) w.ranges.0) in
      then here (beside_read ps (r ∷ []) rs l (omega arith) w.few_ranges w.rising w.ranges.1)

  positions_read : (ps qs : List (List Range)) (kind : ℕ) → T (eqb kind 1 || eqb kind 2) → length ps + length qs ≤ k → Each WellFormedPosition qs →
      (kind' : ℕ) × T (eqb kind' 1 || eqb kind' 2) × Reads (at d gs (ranged ps) kind) (range_records (length ps) qs) (at d gs (ranged (ps ++ qs)) kind')
  positions_read ps [] kind t l w = (kind, t, moved refl (ap (λ q. at d gs (ranged q) kind) (sym (append-nil ps))) stay)
  positions_read ps (q ∷ qs) kind t l w =
      let count : length (ps ++ (q ∷ [])) ≡ suc (length ps) = length-append ps (q ∷ []) ∙ omega arith in
      let here = position_read ps q kind t (omega arith) w.0 in
      let rest = positions_read (ps ++ (q ∷ [])) qs 2 tt (omega arith) w.1 in
      let more : Reads (at d gs (ranged (ps ++ (q ∷ []))) 2) (range_records (suc (length ps)) qs) (at d gs (ranged (ps ++ (q ∷ qs))) rest.0) =
      moved (ap (λ i. range_records i qs) count) (ap (λ l. at d gs (ranged l) rest.0) (append_snoc ps q qs)) rest.2 in
      (rest.0, rest.1, then here more)

-- output characters and their terms

-- the group with the output characters read so far; its ranges are all there
module _ (d : Option Mark) (gs : List Group) (k : ℕ) (small : k ≤ 8) (anchored : Bool) (ranges : List (List Range)) (full : length ranges ≡ k) where
  abbrev writing : List Output → Group
  writing os = record { size = k; anchored = anchored; ranges = ranges; outputs = os }

  filled : (os : List Output) (kind : ℕ) → T (not (unfilled (at d gs (writing os) kind)))
  unfolding unfilled
  filled os kind = rw latest_at (not_both (eqb kind 1 || eqb kind 2) (ltb (length ranges) k) (λ _. not_ltb (length ranges) k (omega arith)))

  -- one more of them, of kind 3 or 6: there is room, and it stands at the end
  room : (os : List Output) (kind : ℕ) → length os < 8 → T (not (eqb (length (latest (at d gs (writing os) kind)).outputs) 8))
  room os kind l = rw latest_at (ne→neqb (length os) 8 (λ e. omega arith))

  added : (os : List Output) (o : Output) (kind : ℕ) → record { table = add_output o (holding d gs (writing os)); kind = kind } ≡ at d gs (writing (os ++ (o ∷ []))) kind
  added os o kind = ap (λ t. record { table = t; kind = kind }) (change_at (change_outputs (λ l. l ++ (o ∷ []))) d gs (writing os))

  output_read : (os : List Output) (c : ℤ) (kind : ℕ) → kind ≢ 0 → length os < 8 → Signed 32 c →
      Reads (at d gs (writing os) kind) (output_record c) (at d gs (writing (os ++ (sum c [] ∷ []))) 3)
  unfolding little_endian misplaced skipping too_many taken
  output_read os c kind n l s =
      one (at d gs (writing os) kind) _ (output_record c) (output (twos_complement 32 c)) refl (read_output c s)
      (ne→neqb kind 0 n)
      (filled os kind)
      (room os kind l)
      (added os (sum (signed 32 (twos_complement 32 c)) []) 3 ∙ ap (λ z. at d gs (writing (os ++ (sum z [] ∷ []))) 3) (signed_of_bits 32 half_32 c s))

  digit_read : (os : List Output) (p shift kind : ℕ) → kind ≢ 0 → length os < 8 → p < k → T (is_shift shift) →
      Reads (at d gs (writing os) kind) (digit_record p shift) (at d gs (writing (os ++ (digit p shift ∷ []))) 6)
  unfolding misplaced skipping too_many taken
  digit_read os p shift kind n l h s =
      one (at d gs (writing os) kind) _ (digit_record p shift) (hexadecimal p shift) refl (read_hexadecimal p shift (omega arith) s)
      (rw latest_at (neither (eqb kind 0) (leb k p) (ne→neqb kind 0 n) (not_leb k p h)))
      (filled os kind)
      (room os kind l)
      (added os (digit p shift) 6)

  term_read : (os : List Output) (c : ℤ) (ks : List ℤ) (kind : ℕ) (x : Term) → T (eqb kind 3 || eqb kind 4) → Fits k x → get_or ks x.position (pos 0) ≡ pos 0 →
      Reads (at d gs (writing (os ++ (sum c ks ∷ []))) kind) (term_record x) (at d gs (writing (os ++ (sum c (put_at x.position x.coefficient ks) ∷ []))) 4)
  unfolding little_endian misplaced skipping too_many taken repeated
  term_read os c ks kind x t f new =
      let p = x.position in
      let a = x.coefficient in
      let g = writing (os ++ (sum c ks ∷ [])) in
      let z = signed 16 (twos_complement 16 a) in
      let t1 = not (eqb kind 3 || eqb kind 4) in
      one (at d gs g kind) _ (term_record x) (term p (twos_complement 16 a)) refl (read_term p a (omega (arith, f.0)) f.1 f.2)
      (rw (latest_at, last_d_snoc (sum (pos 0) []) os (sum c ks))
      (neither (t1 || leb k p) (not (eqb (nat_abs (get_or ks p (pos 0))) 0))
      (neither t1 (leb k p) (refute (eqb kind 3 || eqb kind 4) t) (not_leb k p f.0)) (there_none (get_or ks p (pos 0)) new)))
      tt
      tt
      (ap (λ t. record { table = t; kind = 4 }) (change_at (change_outputs (at_last (add_term p z))) d gs g)
      ∙ ap (λ l. at d gs (writing l) 4) (at_last_snoc (add_term p z) os (sum c ks))
      ∙ ap (λ y. at d gs (writing (os ++ (add_term p y (sum c ks) ∷ []))) 4) (signed_of_bits 16 half_16 a f.1))

  terms_read : (os : List Output) (c : ℤ) (ks : List ℤ) (kind : ℕ) (xs : List Term) → T (eqb kind 3 || eqb kind 4) → Each (Fits k) xs → New xs ks →
      (kind' : ℕ) × T (eqb kind' 3 || eqb kind' 4)
      × Reads (at d gs (writing (os ++ (sum c ks ∷ []))) kind) (flat_map term_record xs) (at d gs (writing (os ++ (sum c (all_put xs ks) ∷ []))) kind')
  terms_read os c ks kind [] t f n = (kind, t, stay)
  terms_read os c ks kind (x ∷ xs) t f n =
      let rest = terms_read os c (put_at x.position x.coefficient ks) 4 xs tt f.1 n.1 in
      (rest.0, rest.1, then (term_read os c ks kind x t f.0 n.0) rest.2)

  -- an output character with its terms
  whole_read : (os : List Output) (o : Output) (b : List ℕ) (kind : ℕ) → kind ≢ 0 → length os < 8 → WellFormedOutput k o → OutputRecords o b →
      (kind' : ℕ) × (kind' ≢ 0) × Reads (at d gs (writing os) kind) b (at d gs (writing (os ++ (o ∷ []))) kind')
  whole_read os (digit p shift) b kind n l w r = (6, λ e. omega arith, moved (sym r) refl (digit_read os p shift kind n l w.below w.shifts))
  whole_read os (sum c ks) b kind n l w r =
      let here = output_read os c kind n l w.constant in
      let fit : Each (Fits k) (terms 0 ks) = terms_fit k 0 ks (omega (arith, w.below)) w.coefficients in
      let sorted = by_position ks w.last_named in
      let turned = reordered_sym r.1 in
      let new = any_order turned (each_weaken (Fits k) Named (terms 0 ks) (λ x f. f.2) fit) [] sorted.0 in
      let rest = terms_read os c [] 3 r.0 tt (reordered_each (Fits k) turned fit) new.0 in
      let all : all_put r.0 [] ≡ ks = sym new.1 ∙ sorted.1 in
      (rest.0, kind_some rest.0 rest.1, moved (sym r.2) (ap (λ y. at d gs (writing (os ++ (sum c y ∷ []))) rest.0) all) (then here rest.2))
    where
      kind_some : (j : ℕ) → T (eqb j 3 || eqb j 4) → j ≢ 0
      kind_some j t e = or_cases (eqb j 3) (eqb j 4) t (λ u. omega (arith, eqb→eq j 3 u)) (λ u. omega (arith, eqb→eq j 4 u))

  outputs_read : (os new : List Output) (b : List ℕ) (kind : ℕ) → kind ≢ 0 → length os + length new ≤ 8 → Each (WellFormedOutput k) new → Joined OutputRecords new b →
      (kind' : ℕ) × Reads (at d gs (writing os) kind) b (at d gs (writing (os ++ new)) kind')
  outputs_read os [] b kind n l w j = (kind, moved (sym j) (ap (λ y. at d gs (writing y) kind) (sym (append-nil os))) stay)
  outputs_read os (o ∷ new) b kind n l w j =
      let here = whole_read os o j.0 kind n (omega arith) w.0 j.2 in
      let rest = outputs_read (os ++ (o ∷ [])) new j.1 here.0 here.1 (rw length-append (omega arith)) w.1 j.3 in
      (rest.0, moved (sym j.4) (ap (λ y. at d gs (writing y) rest.0) (append_snoc os o new)) (then here.2 rest.1))

-- groups

abbrev between : List Group → ℕ → Reading
between gs kind = record { table = record { rules = gs; default = None; mark = unmarked }; kind = kind }

rule_read : (gs : List Group) (kind : ℕ) (g : Group) (b : List ℕ) → T (not (unfilled (between gs kind))) → length gs < 32 → WellFormedRule g → RuleRecords g b →
    (kind' : ℕ) × T (not (unfilled (between (gs ++ (g ∷ [])) kind'))) × Reads (between gs kind) b (between (gs ++ (g ∷ [])) kind')
unfolding misplaced skipping too_many taken
rule_read gs kind g b u l w r =
    let k = g.size in
    let a = g.anchored in
    let here : Reads (between gs kind) (rule_record k a) (at None gs (ranged None gs k w.short a []) 1) =
    one (between gs kind) _ (rule_record k a) (rule k a) refl (read_rule k a w.long w.short) tt u (ne→neqb (length gs) 32 (λ e. omega arith)) refl in
    let mid = positions_read None gs k w.short a [] g.ranges 1 tt (omega (arith, w.places)) w.positions in
    let rest = outputs_read None gs k w.short a g.ranges w.places [] g.outputs r.written mid.0 (kind_some mid.0 mid.1) (omega (arith, w.few_outputs)) w.outputs r.outputs in
    (rest.0, filled None gs k w.short a g.ranges w.places g.outputs rest.0, moved (sym r.bytes) refl (then (then here mid.2) rest.1))
  where
    kind_some : (j : ℕ) → T (eqb j 1 || eqb j 2) → j ≢ 0
    kind_some j t e = or_cases (eqb j 1) (eqb j 2) t (λ u. omega (arith, eqb→eq j 1 u)) (λ u. omega (arith, eqb→eq j 2 u))

rules_read : (gs rs : List Group) (kind : ℕ) (b : List ℕ) → T (not (unfilled (between gs kind))) → length gs + length rs ≤ 32 → Each WellFormedRule rs → Joined RuleRecords rs b →
    (kind' : ℕ) × T (not (unfilled (between (gs ++ rs) kind'))) × Reads (between gs kind) b (between (gs ++ rs) kind')
rules_read gs [] kind b u l w j =
    (kind, subst (λ y. T (not (unfilled (between y kind)))) (sym (append-nil gs)) u, moved (sym j) (ap (λ y. between y kind) (sym (append-nil gs))) stay)
rules_read gs (g ∷ rs) kind b u l w j =
    let here = rule_read gs kind g j.0 u (omega arith) w.0 j.2 in
    let rest = rules_read (gs ++ (g ∷ [])) rs here.0 j.1 here.1 (rw length-append (omega arith)) w.1 j.3 in
    let join : gs ++ (g ∷ []) ++ rs ≡ gs ++ (g ∷ rs) = append_snoc gs g rs in (
      rest.0,
      subst (λ y. T (not (unfilled (between y rest.0)))) join rest.1,
      moved (sym j.4) (ap (λ y. between y rest.0) join) (then here.2 rest.2),
    )

abbrev after : List Group → Option Group → Mark → ℕ → Reading
after gs d m kind = record { table = record { rules = gs; default = d; mark = m }; kind = kind }

default_read : (gs : List Group) (d : Option Group) (m : Mark) (kind : ℕ) (b : List ℕ) → (d ≡ None → m ≡ unmarked) → T (not (unfilled (between gs kind))) → Each WellFormedDefault (optional d) → Joined (DefaultRecords m) (optional d) b →
    (kind' : ℕ) × T (not (unfilled (after gs d m kind'))) × Reads (between gs kind) b (after gs d m kind')
unfolding misplaced skipping too_many taken
default_read gs None m kind b k u w j =
    let same : between gs kind ≡ after gs None m kind = ap (λ y. after gs None y kind) (sym (k refl)) in
    (kind, subst (λ y. T (not (unfilled y))) same u, moved (sym j) same stay)
default_read gs (Some g) m kind b k u w j =
    let ranges = (every_character []).ranges in
    let r : DefaultRecords m g j.0 = j.2 in
    let one_place : 1 ≤ 8 = omega arith in
    let here : Reads (between gs kind) (default_record m) (at (Some m) gs (every_character []) 5) =
    one (between gs kind) _ (default_record m) (default m) refl (read_default m) tt u tt refl in
    let rest = outputs_read (Some m) gs 1 one_place false ranges refl [] g.outputs r.written 5 (λ e. omega arith) (omega (arith, w.0.few_outputs)) w.0.outputs r.outputs in
    let same : at (Some m) gs (every_character g.outputs) rest.0 ≡ after gs (Some g) m rest.0 = ap (λ y. after gs (Some y) m rest.0) (sym w.0.acts) in (
      rest.0,
      subst (λ y. T (not (unfilled y))) same (filled (Some m) gs 1 one_place false ranges refl g.outputs rest.0),
      moved (sym (j.4 ∙ ap (λ y. j.0 ++ y) j.3 ∙ append-nil j.0 ∙ r.bytes)) same (then here rest.1),
    )

-- the table

pub described_read : (b : List ℕ) (t : Table) → Records b t → WellFormed t → read_rules b ≡ accepted t
unfolding read_rules read_end and_then unread unfilled
described_read b t r w =
    let few : length t.rules ≤ 32 = w.few_rules in
    let some_rule : 1 ≤ length t.rules = w.some_rule in
    let rules = rules_read [] t.rules 0 r.first tt (omega arith) w.rules r.rules in
    let last = default_read t.rules t.default t.mark rules.0 r.last w.no_mark rules.1 w.default r.default in
    let s = after t.rules t.default t.mark last.0 in
    let all : Reads unread b s = moved (sym r.bytes) refl (then rules.2 last.2) in
    let count = counted all in
    let whole : length b % 8 ≡ 0 = ap (λ n. n % 8) count.1 ∙ mul-mod_right 8 count.0 in
    let records : length b / 8 ≡ count.0 = ap (λ n. n / 8) count.1 ∙ mul-div_right count.0 (lit< {m = 0} {n = 8} tt) in
    let end : read_end s ≡ accepted t =
    by_cases (λ o. o ≡ accepted t) _ (accepted t) (
      λ u. absurd (T_not (unfilled s) last.1 u),
      λ _. (λ u. let none_left = eqb→eq (length t.rules) 0 u in absurd (omega arith), λ _. refl),
    ) in
    by_cases (λ o. o ≡ accepted t) _ _ (
      λ u. absurd (T_not (eqb (length b % 8) 0) u (eq→eqb (length b % 8) 0 whole)),
      λ _. ap (λ n. and_then (read_records n b unread) read_end) records ∙ ap (λ o. and_then o read_end) count.2 ∙ end,
    )
