-- What reading leaves true of a table: its lengths are within their limits and its positions filled.
-- Each record keeps that of the groups read so far, where only the last rule may still lack ranges, and only while ranges may come.
use mathlib.Core.Bool.{Bool, true, false, ◌&&◌, ◌||◌, not}
use mathlib.Core.List.{List, [], ◌∷◌, ◌++◌}
use Rattle.std.specs.Prelude.{Option, None, Some}
use mathlib.Core.Logic.{◌≢◌}
use mathlib.Core.Path.{◌≡◌, refl, sym, ap, subst}
use Prim.Native.Nat.{ℕ, zero, suc, ◌/◌, ◌≤◌, ◌<◌}
use native.Mathlib.Omega.{arith}
use lib.Dec.{T, eqb, leb, ltb, leb→le, nleb→lt, nltb→le, eqb→eq}
use lib.IntN.{ℤ}
use lib.ListN.{length, take, drop, length-append}
use Rattle.lists.specs.Lists.{any, Each, at_last, last_d, is_some, or_else, optional}
use Rattle.lists.proofs.Laws.Tests.{of_T, not_not, or_none, or_cases, of_cond, holds, by_cases, neqb→ne}
use Rattle.lists.proofs.Laws.Each.{each_append, each_weaken, each_both, each_at_last}
use Rattle.meaning.specs.Refusal.{Outcome, refused, accepted}
use Rattle.meaning.specs.Table.{Range, Output, sum, digit, Group, Table, every_character, is_shift, Mark}
use Rattle.meaning.specs.Record.{Record, rule, range, output, term, default, hexadecimal, decode}
use Rattle.meaning.specs.Reader.{signed, Reading, unread, latest, repeated, ranging, unfilled, misplaced, skipping, too_many, change_latest, add_range, add_term, change_ranges, change_outputs, taken, read_one, read_records, read_end, read_rules}
use Rattle.meaning.specs.Answered.{EndsApart}
use Rattle.meaning.proofs.Laws.Terms.{put_length}
use Rattle.meaning.proofs.Laws.Refusal.{by_then, Says}
use Rattle.meaning.proofs.Laws.Shape.{Within, ShapedGroup, ShapedDefault, Shaped}
use Rattle.meaning.proofs.Laws.Seven.{Ordered, FilledPosition, FilledGroup, Filled}

-- the last element, and those before it

pub at_last_length : {A : Type 0} (f : A → A) (xs : List A) → length (at_last f xs) ≡ length xs
at_last_length f [] = refl
at_last_length f (x ∷ []) = refl
at_last_length f (x ∷ (y ∷ ys)) = ap suc (at_last_length f (y ∷ ys))

pub last_each : {A : Type 0} (P : A → Type 0) (f : A → A) (d : A) (xs : List A) → (P (last_d d xs) → P (f (last_d d xs))) → Each P xs → Each P (at_last f xs)
last_each P f d [] h a = tt
last_each P f d (x ∷ []) h a = (h a.0, tt)
last_each P f d (x ∷ (y ∷ ys)) h a = (a.0, last_each P f x (y ∷ ys) h a.1)

-- P holds of each element but the last
abbrev pub Before : {A : Type 0} → (A → Type 0) → List A → Type 0
Before P [] = Unit {0}
Before P (x ∷ []) = Unit {0}
Before P (x ∷ (y ∷ ys)) = P x × Before P (y ∷ ys)

before_at_last : {A : Type 0} (P : A → Type 0) (f : A → A) (xs : List A) → Before P xs → Before P (at_last f xs)
before_at_last P f [] a = tt
before_at_last P f (x ∷ []) a = tt
before_at_last P f (x ∷ (y ∷ [])) a = (a.0, tt)
before_at_last P f (x ∷ (y ∷ (z ∷ zs))) a = (a.0, before_at_last P f (y ∷ (z ∷ zs)) a.1)

before_snoc : {A : Type 0} (P : A → Type 0) (xs : List A) (z : A) → Each P xs → Before P (xs ++ (z ∷ []))
before_snoc P [] z a = tt
before_snoc P (x ∷ []) z a = (a.0, tt)
before_snoc P (x ∷ (y ∷ ys)) z a = (a.0, before_snoc P (y ∷ ys) z a.1)

before_last : {A : Type 0} (P : A → Type 0) (d : A) (xs : List A) → Before P xs → P (last_d d xs) → Each P xs
before_last P d [] a h = tt
before_last P d (x ∷ []) a h = (h, tt)
before_last P d (x ∷ (y ∷ ys)) a h = (a.0, before_last P x (y ∷ ys) a.1 h)

-- output characters of a group of size k
abbrev pub Outputs : ℕ → List Output → Type 0
Outputs k os = (length os ≤ 8) × Each (Within k) os

-- a group that may still lack ranges; with enough of them; the default, but for its output characters
pub record Begun (g : Group) : Type 0 where
  pub positive : 1 ≤ g.size
  pub small : g.size ≤ 8
  pub places : length g.ranges ≤ g.size
  pub outputs : Outputs g.size g.outputs
  pub filled : FilledGroup g

abbrev pub Full : Group → Type 0
Full g = g.size ≤ length g.ranges

abbrev pub Plain : Group → Type 0
Plain g = Begun g × (g ≡ every_character g.outputs)

-- every rule is full; but the last, where a range may come, and then there is no default
abbrev pub Ended : Bool → Table → Type 0
Ended true t = Before Full t.rules × T (not (is_some t.default))
Ended false t = Each Full t.rules

pub record Kept (ranges : Bool) (t : Table) : Type 0 where
  pub few : length t.rules ≤ 32
  pub rules : Each Begun t.rules
  pub default : Each Plain (optional t.default)
  pub ended : Ended ranges t

abbrev pub KeptReading : Reading → Type 0
KeptReading s = Kept (ranging s) s.table

-- the group read last
abbrev pub top : List Group → Option Group → Group
top rs d = or_else (last_d (every_character []) rs) d

pub all_full : (s : Reading) → KeptReading s → T (not (unfilled s)) → Each Full s.table.rules
unfolding unfilled latest
all_full s k t = go s.table.default (ranging s) k t
  where
    rs : List Group
    rs = s.table.rules

    go : (d : Option Group) (b : Bool) → Kept b (record { rules = rs; default = d; mark = s.table.mark }) → T (not (b && ltb (length (top rs d).ranges) (top rs d).size)) → Each Full rs
    go d false k t = k.ended
    go None true k t = before_last Full (every_character []) rs k.ended.0 (nltb→le (length (top rs None).ranges) (top rs None).size t)
    go (Some g) true k t = absurd k.ended.1

-- an output character or a term

outputs_begun : (h : List Output → List Output) (g : Group) → (Outputs g.size g.outputs → Outputs g.size (h g.outputs)) → Begun g → Begun (change_outputs h g)
outputs_begun h g f b = record { positive = b.positive; small = b.small; places = b.places; outputs = f b.outputs; filled = b.filled }

outputs_kept : (h : List Output → List Output) (b : Bool) (rs : List Group) (d : Option Group) (m : Mark) → Kept b (record { rules = rs; default = d; mark = m }) → Each Full rs →
    (Outputs (top rs d).size (top rs d).outputs → Outputs (top rs d).size (h (top rs d).outputs)) →
    Kept false (change_latest (change_outputs h) (record { rules = rs; default = d; mark = m }))
unfolding change_latest
outputs_kept h b rs None m k e f =
    record {
      few = let l : length rs ≤ 32 = k.few in omega (arith, at_last_length (change_outputs h) rs);
      rules = last_each Begun (change_outputs h) (every_character []) rs (outputs_begun h (top rs None) f) k.rules;
      default = tt;
      ended = each_at_last Full (change_outputs h) rs (λ g x. x) e;
    }
outputs_kept h b rs (Some d) m k e f =
    record {
      few = k.few;
      rules = k.rules;
      default = ((outputs_begun h d f k.default.0.0, ap (change_outputs h) k.default.0.1), tt);
      ended = e;
    }

output_more : (o : Output) (k : ℕ) (os : List Output) → Within k o → T (not (eqb (length os) 8)) → Outputs k os → Outputs k (os ++ (o ∷ []))
output_more o k os w t h =
    let n : length os ≤ 8 = h.0 in
    let other : length os ≢ 8 = neqb→ne (length os) 8 t in
    (rw length-append (omega arith), each_append (Within k) os (o ∷ []) h.1 (w, tt))

term_within : (p k : ℕ) (a : ℤ) (o : Output) → p < k → Within k o → Within k (add_term p a o)
term_within p k a (sum c ks) l w = put_length p k a ks l w
term_within p k a (digit q shift) l w = w

term_more : (p k : ℕ) (a : ℤ) (os : List Output) → p < k → Outputs k os → Outputs k (at_last (add_term p a) os)
term_more p k a os l h = (rw at_last_length h.0, each_at_last (Within k) (add_term p a) os (λ o. term_within p k a o l) h.1)

-- a range

add_range_filled : (p : ℕ) (r : Range) (ps : List (List Range)) → Ordered r → Each FilledPosition ps → Each FilledPosition (add_range p r ps)
add_range_filled p r ps o h =
    of_cond (λ qs. Each FilledPosition qs) (eqb p (length ps)) (ps ++ ((r ∷ []) ∷ [])) (at_last (λ rs. rs ++ (r ∷ [])) ps)
    (λ _. each_append FilledPosition ps ((r ∷ []) ∷ []) h ((o, tt), tt))
    (λ _. each_at_last FilledPosition (λ rs. rs ++ (r ∷ [])) ps more h)
  where
    more : (rs : List Range) → FilledPosition rs → FilledPosition (rs ++ (r ∷ []))
    more [] f = absurd f
    more (s ∷ rs) f = each_append Ordered (s ∷ rs) (r ∷ []) f (o, tt)

add_range_places : (p : ℕ) (r : Range) (ps : List (List Range)) (k : ℕ) → p < k → p ≤ length ps → length ps ≤ k → length (add_range p r ps) ≤ k
add_range_places p r ps k l m h =
    of_cond (λ qs. length qs ≤ k) (eqb p (length ps)) (ps ++ ((r ∷ []) ∷ [])) (at_last (λ rs. rs ++ (r ∷ [])) ps)
    (λ t. let e : p ≡ length ps = eqb→eq p (length ps) t in rw length-append (omega arith))
    (λ _. rw at_last_length h)

range_begun : (p : ℕ) (r : Range) (g : Group) → Ordered r → p < g.size → p ≤ length g.ranges → Begun g → Begun (change_ranges (add_range p r) g)
range_begun p r g o l m b =
    record {
      positive = b.positive;
      small = b.small;
      places = add_range_places p r g.ranges g.size l m b.places;
      outputs = b.outputs;
      filled = add_range_filled p r g.ranges o b.filled;
    }

range_kept : (p : ℕ) (r : Range) (rs : List Group) (d : Option Group) (z : Mark) → Ordered r → p < (top rs d).size → p ≤ length (top rs d).ranges →
    Kept true (record { rules = rs; default = d; mark = z }) → Kept true (change_latest (change_ranges (add_range p r)) (record { rules = rs; default = d; mark = z }))
unfolding change_latest
range_kept p r rs None z o l m k =
    let f = change_ranges (add_range p r) in
    record {
      few = let n : length rs ≤ 32 = k.few in omega (arith, at_last_length f rs);
      rules = last_each Begun f (every_character []) rs (range_begun p r (top rs None) o l m) k.rules;
      default = tt;
      ended = (before_at_last Full f rs k.ended.0, tt);
    }
range_kept p r rs (Some d) z o l m k = absurd k.ended.1

-- one record

-- what its fields are known to be
abbrev pub Fields : Option Record → Type 0
Fields None = Unit {0}
Fields (Some (rule k a)) = (1 ≤ k) × (k ≤ 8)
Fields (Some (range p r)) = Ordered r
Fields (Some (output c)) = Unit {0}
Fields (Some (term p a)) = Unit {0}
Fields (Some (default k)) = Unit {0}
Fields (Some (hexadecimal p shift)) = T (is_shift shift)

decode_fields : (b : List ℕ) → Fields (decode b)
unfolding decode
decode_fields b =
    by_cases Fields _ None (
      λ t. let h = holds _ t in (leb→le _ _ h.1.0, leb→le _ _ h.1.1.0),
      λ _. (λ t. leb→le _ _ (holds _ t).1.1.1.0, λ _. (λ _. tt, λ _. (λ _. tt, λ _. (λ _. tt, λ _. (λ t. (holds _ t).1.1.0, λ _. tt))))),
    )

-- where a term may come, the ranges have ended
ended_before : (s : Reading) → T (eqb s.kind 3 || eqb s.kind 4) → T (not (unfilled s))
unfolding unfilled
ended_before s t =
    let P : ℕ → Type 0 = λ k. T (not ((eqb k 1 || eqb k 2) && ltb (length (latest s).ranges) (latest s).size)) in
    or_cases (eqb s.kind 3) (eqb s.kind 4) t
    (λ e. subst P (sym (eqb→eq s.kind 3 e)) tt)
    (λ e. subst P (sym (eqb→eq s.kind 4 e)) tt)

pub taken_kept : (s : Reading) (r : Record) → Fields (Some r) → T (not (misplaced s r)) → T (not (skipping s r)) → T (not (too_many s r)) →
    KeptReading s → KeptReading (taken s r)
unfolding taken misplaced skipping too_many latest
taken_kept s (rule k a) f m n o h =
    let full : Each Full s.table.rules = all_full s h n in
    let len : length s.table.rules ≤ 32 = h.few in
    let other : length s.table.rules ≢ 32 = neqb→ne (length s.table.rules) 32 o in
    record {
      few = rw length-append (omega arith);
      rules = each_append Begun s.table.rules _ h.rules (record { positive = f.0; small = f.1; places = omega arith; outputs = (omega arith, tt); filled = tt }, tt);
      default = tt;
      ended = (before_snoc Full s.table.rules _ full, tt);
    }
taken_kept s (range p r) f m n o h =
    let g = top s.table.rules s.table.default in
    let ps = g.ranges in
    let a = not (ranging s) in
    let b = leb g.size p in
    let c = ltb (suc p) (length ps) in
    let t = or_none a b (or_none (a || b) c (or_none (a || b || c) _ m).0).0 in
    range_kept p r s.table.rules s.table.default s.table.mark f (nleb→lt g.size p t.1) (nltb→le (length ps) p n)
    (subst (λ b. Kept b s.table) (of_T (ranging s) (not_not (ranging s) t.0)) h)
taken_kept s (output c) f m n o h =
    let g = top s.table.rules s.table.default in
    outputs_kept _ (ranging s) s.table.rules s.table.default s.table.mark h (all_full s h n) (output_more _ g.size g.outputs (omega arith) o)
taken_kept s (hexadecimal p shift) f m n o h =
    let g = top s.table.rules s.table.default in
    let below : p < g.size = nleb→lt g.size p (or_none (eqb s.kind 0) (leb g.size p) m).1 in
    outputs_kept _ (ranging s) s.table.rules s.table.default s.table.mark h (all_full s h n) (output_more (digit p shift) g.size g.outputs (below, f) o)
taken_kept s (term p a) f m n o h =
    let g = top s.table.rules s.table.default in
    let kinds = eqb s.kind 3 || eqb s.kind 4 in
    let u = or_none (not kinds) (leb g.size p) (or_none (not kinds || leb g.size p) (repeated s p) m).0 in
    outputs_kept (at_last (add_term p (signed 16 a))) (ranging s) s.table.rules s.table.default s.table.mark h (all_full s h (ended_before s (not_not kinds u.0)))
    (term_more p g.size (signed 16 a) g.outputs (nleb→lt g.size p u.1))
taken_kept s (default k) f m n o h =
    record {
      few = h.few;
      rules = h.rules;
      default = ((record { positive = omega arith; small = omega arith; places = omega arith; outputs = (omega arith, tt); filled = ((omega arith, tt), tt) }, refl), tt);
      ended = all_full s h n;
    }

abbrev pub record_refusals : List ℕ
record_refusals = 1 ∷ 2 ∷ 3 ∷ 4 ∷ 5 ∷ 6 ∷ []

abbrev Read : {A : Type 0} → (A → Type 0) → Outcome A → Type 0
Read P o = Says record_refusals P o

one_kept : (s : Reading) (r : Option Record) → Fields r → KeptReading s → Read KeptReading (read_one s r)
unfolding read_one
one_kept s None f h = tt
one_kept s (Some r) f h = by_cases (Read KeptReading) _ (accepted (taken s r)) (λ _. tt, λ m. (λ _. tt, λ n. (λ _. tt, λ o. taken_kept s r f m n o h)))

records_kept : (n : ℕ) (b : List ℕ) (s : Reading) → KeptReading s → Read KeptReading (read_records n b s)
unfolding read_records
records_kept zero b s h = h
records_kept (suc n) b s h =
    let one = one_kept s (decode (take 8 b)) (decode_fields (take 8 b)) h in
    by_then (Read KeptReading) (read_one s (decode (take 8 b))) (λ s'. read_records n (drop 8 b) s')
    (λ k e. subst (Read KeptReading) e one) (λ s' e. records_kept n (drop 8 b) s' (subst (Read KeptReading) e one))

pub unread_kept : KeptReading unread
unfolding unread
unread_kept = record { few = omega arith; rules = tt; default = tt; ended = tt }

-- the table's end

-- without a rule nothing is unfilled
unfilled_rule : (s : Reading) → KeptReading s → T (unfilled s) → 1 ≤ length s.table.rules
unfolding unfilled latest
unfilled_rule s k t = go s.table.rules s.table.default s.table.mark (ranging s) k t
  where
    go : (rs : List Group) (d : Option Group) (m : Mark) (b : Bool) → Kept b (record { rules = rs; default = d; mark = m }) →
        T (b && ltb (length (top rs d).ranges) (top rs d).size) → 1 ≤ length rs
    go (g ∷ rs) d m b k t = omega arith
    go [] d m false k t = absurd t
    go [] None m true k t = absurd t
    go [] (Some g) m true k t = absurd k.ended.1

pub ends_apart : EndsApart
unfolding EndsApart
ends_apart b s l = unfilled_rule s (subst (Read KeptReading) l.1 (records_kept (length b / 8) b unread unread_kept))

abbrev WellRead : Table → Type 0
WellRead t = Shaped t × Filled t

plain_shaped : (g : Group) → Plain g → ShapedDefault g
plain_shaped g p =
    record {
      size = ap (λ g. g.size) p.1;
      anchored = ap (λ g. g.anchored) p.1;
      ranges = ap (λ g. g.ranges) p.1;
      outputs = p.0.outputs.0;
      reaches = subst (λ k. Each (Within k) g.outputs) (ap (λ g. g.size) p.1) p.0.outputs.1;
    }

full_shaped : (g : Group) → Begun g × Full g → ShapedGroup g
full_shaped g h =
    let b = h.0 in
    record { positive = b.positive; small = b.small; places = omega arith; outputs = b.outputs.0; reaches = b.outputs.1 }

end_kept : (s : Reading) → KeptReading s → Read WellRead (read_end s)
unfolding read_end
end_kept s h =
    let t = s.table in
    by_cases (Read WellRead) _ (accepted t) (
      λ _. tt,
      λ n. (
        λ _. tt,
        λ m. (
          record {
            some_rule = let other : length t.rules ≢ 0 = neqb→ne (length t.rules) 0 m in omega arith;
            few_rules = h.few;
            rules = each_weaken (λ g. Begun g × Full g) ShapedGroup t.rules full_shaped (each_both Begun Full t.rules h.rules (all_full s h n));
            default = each_weaken Plain ShapedDefault (optional t.default) plain_shaped h.default;
          },
          each_append FilledGroup t.rules (optional t.default)
              (each_weaken Begun FilledGroup t.rules (λ g b. b.filled) h.rules)
              (each_weaken Plain FilledGroup (optional t.default) (λ g b. b.0.filled) h.default),
        ),
      ),
    )

rules_read : (b : List ℕ) → Read WellRead (read_rules b)
unfolding read_rules
rules_read b =
    let all = records_kept (length b / 8) b unread unread_kept in
    by_cases (Read WellRead) _ _ (
      λ _. tt,
      λ _.
          by_then (Read WellRead) (read_records (length b / 8) b unread) read_end
          (λ n e. subst (Read KeptReading) e all) (λ s e. end_kept s (subst (Read KeptReading) e all)),
    )

pub read_shaped : (b : List ℕ) (t : Table) → read_rules b ≡ accepted t → Shaped t
read_shaped b t e = (subst (Read WellRead) e (rules_read b)).0

pub read_filled : (b : List ℕ) (t : Table) → read_rules b ≡ accepted t → Filled t
read_filled b t e = (subst (Read WellRead) e (rules_read b)).1

pub read_refused : (b : List ℕ) (n : ℕ) → read_rules b ≡ refused n → T (any (eqb n) record_refusals)
read_refused b n e = subst (Read WellRead) e (rules_read b)
