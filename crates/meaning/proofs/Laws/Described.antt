-- What is read is described: bytes that the reader accepts as a table are its records, and it is well formed.
-- Each record that is taken in keeps that of the bytes and the groups read so far.
use mathlib.Core.Bool.{Bool, true, false, ◌&&◌, ◌||◌, not}
use mathlib.Core.List.{List, [], ◌∷◌, ◌++◌, append-nil, append_assoc}
use Rattle.std.specs.Prelude.{Option, None, Some}
use mathlib.Core.Logic.{◌≢◌}
use mathlib.Core.Path.{◌≡◌, refl, sym, ap, subst, ◌∙◌}
use Prim.Native.Nat.{ℕ, zero, suc, ◌+◌, ◌*◌, ◌/◌, ◌%◌, ◌≤◌, ◌<◌}
use native.Mathlib.Nat.{mul-suc, div-add-mod}
use native.Mathlib.Omega.{arith}
use lib.Dec.{T, eqb, leb, ltb, nleb→lt, nltb→le, eqb→eq}
use lib.IntN.{pos}
use lib.ListN.{length, take, drop, length-append, length-take, length-drop, take-append-drop}
use Rattle.lists.specs.Lists.{Each, at_last, last_d, is_some, optional}
use Rattle.lists.proofs.Laws.Tests.{not_not, or_none, or_cases, of_cond, by_cases, eq→eqb, neqb→ne}
use Rattle.lists.proofs.Laws.Each.{each_append, each_front, each_back, each_weaken, each_both}
use Rattle.lists.proofs.Laws.Parts.{no_elements}
use Rattle.lists.proofs.Laws.Reordered.{reordered_same}
use Rattle.lists.proofs.Laws.Last.{last_d_snoc, last_at_last}
use Rattle.meaning.specs.Refusal.{Outcome, refused, accepted}
use Rattle.meaning.specs.Table.{Range, Output, sum, digit, Group, Table, every_character, groups, Mark, unmarked}
use Rattle.meaning.specs.Record.{Record, rule, range, output, term, default, hexadecimal, decode}
use Rattle.meaning.specs.Reader.{signed, Reading, unread, latest, coefficient_at, repeated, ranging, misplaced, skipping, too_many, change_latest, add_range, add_term, change_ranges, change_outputs, add_output, taken, read_one, read_records, read_end, read_rules}
use Rattle.meaning.specs.WellFormed.{WellFormedRange, Rising, WellFormedPosition, Signed, WellFormedOutput, WellFormedRule, WellFormedDefault, WellFormed}
use Rattle.meaning.specs.Records.{Bytes, output_record, Joined, OutputRecords, Records}
use Rattle.meaning.proofs.Laws.Refusal.{by_then}
use Rattle.meaning.proofs.Laws.Shape.{Within, IsSum, ShapedGroup, ShapedDefault, Shaped}
use Rattle.meaning.proofs.Laws.Terms.{none_there, put_each, put_length, put_named}
use Rattle.meaning.proofs.Laws.Reading.{at_last_length, last_each, top, read_shaped}
use Rattle.meaning.proofs.Laws.Decoding.{FittingRecord, decode_fits}
use Rattle.meaning.proofs.Laws.Encoding.{signed_fits, signed_named, half_16, half_32, bytes_of, encode_decode}
use Rattle.meaning.proofs.Laws.Appended.{joined_snoc, joined_last, term_sum, term_written, rule_outputs, default_outputs, rule_ranges, table_latest, table_rule, table_default, top_changed}

-- ranges and output characters stay well formed

rising_more : (rs : List Range) (r : Range) → 1 ≤ length rs → Rising rs → (last_d r rs).highest < r.lowest → Rising (rs ++ (r ∷ []))
rising_more [] r n h k = tt
rising_more (q ∷ []) r n h k = (k, tt)
rising_more (q ∷ (p ∷ rs)) r n h k = (h.0, rising_more (p ∷ rs) r (omega arith) h.1 k)

position_more : (r : Range) (rs : List Range) → WellFormedRange r → (last_d r rs).highest < r.lowest → length rs ≢ 4 →
    WellFormedPosition rs → WellFormedPosition (rs ++ (r ∷ []))
position_more r rs f h d w =
    let n : length (rs ++ (r ∷ [])) ≡ length rs + 1 = length-append rs (r ∷ []) in
    let few : length rs ≤ 4 = w.few_ranges in
    record {
      some_range = omega arith;
      few_ranges = omega arith;
      ranges = each_append WellFormedRange rs (r ∷ []) w.ranges (f, tt);
      rising = rising_more rs r w.some_range w.rising h;
    }

positions_more : (p : ℕ) (r : Range) (ps : List (List Range)) → WellFormedRange r →
    (p ≢ length ps → ((last_d r (last_d [] ps)).highest < r.lowest) × (length (last_d [] ps) ≢ 4)) →
    Each WellFormedPosition ps → Each WellFormedPosition (add_range p r ps)
positions_more p r ps f h w =
    of_cond (λ qs. Each WellFormedPosition qs) (eqb p (length ps)) (ps ++ ((r ∷ []) ∷ [])) (at_last (λ rs. rs ++ (r ∷ [])) ps)
    (λ _. each_append WellFormedPosition ps ((r ∷ []) ∷ []) w (record { some_range = omega arith; few_ranges = omega arith; ranges = (f, tt); rising = tt }, tt))
    (λ t.
    let k = h (neqb→ne p (length ps) t) in
    last_each WellFormedPosition (λ rs. rs ++ (r ∷ [])) [] ps (position_more r (last_d [] ps) f k.0 k.1) w)

one_named : pos 1 ≢ pos 0
one_named e = let z : ◌≡◌ {A = ℕ} 1 0 = cc in omega arith

output_formed : (k c : ℕ) → FittingRecord (output c) → WellFormedOutput k (sum (signed 32 c) [])
output_formed k c h = record { constant = signed_fits 32 half_32 c h; coefficients = tt; below = omega arith; last_named = one_named }

term_formed : (k p a : ℕ) (o : Output) → FittingRecord (term p a) → p < k → WellFormedOutput k o → WellFormedOutput k (add_term p (signed 16 a) o)
term_formed k p a (sum c ks) h l w =
    let z = signed 16 a in
    record {
      constant = w.constant;
      coefficients = put_each (Signed 16) (omega arith) p z ks (signed_fits 16 half_16 a h.2) w.coefficients;
      below = put_length p k z ks l w.below;
      last_named = put_named (pos 1) p z ks (signed_named 16 half_16 a h.2 h.1) w.last_named;
    }
term_formed k p a (digit q shift) h l w = w

-- groups, as far as they are read
pub record Formed (g : Group) : Type 0 where
  pub positions : Each WellFormedPosition g.ranges
  pub outputs : Each (WellFormedOutput g.size) g.outputs

abbrev FormedTable : Table → Type 0
FormedTable t = Each Formed t.rules × Each Formed (optional t.default) × (t.default ≡ None → t.mark ≡ unmarked)

formed_latest : (f : Group → Group) (rs : List Group) (d : Option Group) (m : Mark) → (Formed (top rs d) → Formed (f (top rs d))) →
    FormedTable (record { rules = rs; default = d; mark = m }) → FormedTable (change_latest f (record { rules = rs; default = d; mark = m }))
unfolding change_latest
formed_latest f rs None m h w = (last_each Formed f (every_character []) rs h w.0, tt, w.2)
formed_latest f rs (Some g) m h w = (w.0, (h w.1.0, tt), λ e. absurd (let z : ◌≡◌ {A = ℕ} 0 1 = cc in omega arith))

some_latest : (f : Group → Group) (rs : List Group) (d : Option Group) (m : Mark) → 1 ≤ length (rs ++ optional d) → 1 ≤ length (groups (change_latest f (record { rules = rs; default = d; mark = m })))
unfolding change_latest
some_latest f rs None m n = rw length-append (omega (arith, at_last_length f rs, length-append {A = Group} rs []))
some_latest f rs (Some g) m n = rw length-append (omega arith)

none_latest : (f : Group → Group) (rs : List Group) (d : Option Group) (m : Mark) → d ≡ None → (change_latest f (record { rules = rs; default = d; mark = m })).default ≡ None
unfolding change_latest
none_latest f rs None m e = refl
none_latest f rs (Some g) m e = absurd (let z : ◌≡◌ {A = ℕ} 0 1 = cc in omega arith)

-- what has been read
pub record Described (s : Reading) (b : List ℕ) : Type 0 where
  pub records : Records b s.table
  pub formed : FormedTable s.table
  pub begun : s.kind ≢ 0 → 1 ≤ length (groups s.table)
  pub bare : T (ranging s) → ((latest s).outputs ≡ []) × (s.table.default ≡ None)
  pub writing : T (eqb s.kind 3 || eqb s.kind 4) → (1 ≤ length (latest s).outputs) × IsSum (last_d (sum (pos 0) []) (latest s).outputs)

pub is_none : {A : Type 0} (d : Option A) → T (not (is_some d)) → d ≡ None
is_none None t = refl
is_none (Some a) t = absurd t

and_fails : (a b : Bool) → T (not (a && b)) → T a → T (not b)
and_fails true b t u = t
and_fails false b t u = absurd u

every_formed : Formed (every_character [])
every_formed =
    record {
      positions = (record { some_range = omega arith; few_ranges = omega arith; ranges = (record { ordered = omega arith; character = omega arith }, tt); rising = tt }, tt);
      outputs = tt;
    }

ranging_begun : (s : Reading) → T (ranging s) → s.kind ≢ 0
ranging_begun s t e = or_cases (eqb s.kind 1) (eqb s.kind 2) t
    (λ u. let k : s.kind ≡ 1 = eqb→eq s.kind 1 u in omega arith) (λ u. let k : s.kind ≡ 2 = eqb→eq s.kind 2 u in omega arith)

writing_begun : (s : Reading) → T (eqb s.kind 3 || eqb s.kind 4) → s.kind ≢ 0
writing_begun s t e = or_cases (eqb s.kind 3) (eqb s.kind 4) t
    (λ u. let k : s.kind ≡ 3 = eqb→eq s.kind 3 u in omega arith) (λ u. let k : s.kind ≡ 4 = eqb→eq s.kind 4 u in omega arith)

-- an output character more, of kind 3 or 6
added_described : (s : Reading) (o : Output) (kind : ℕ) (e : List ℕ) → s.kind ≢ 0 → (T (eqb kind 1 || eqb kind 2) → ⊥) → (T (eqb kind 3 || eqb kind 4) → IsSum o) →
    OutputRecords o e → WellFormedOutput (top s.table.rules s.table.default).size o →
    (b : List ℕ) → Described s b → Described (record { table = add_output o s.table; kind = kind }) (b ++ e)
unfolding latest
added_described s o kind e begun ended sums r f b w =
    let rs = s.table.rules in
    let d = s.table.default in
    let k = s.table.mark in
    let g = top rs d in
    let more : List Output → List Output = λ os. os ++ (o ∷ []) in
    let change = change_outputs more in
    let some-group = w.begun begun in
    let listed : (v : List ℕ) → Joined OutputRecords g.outputs v → Joined OutputRecords (more g.outputs) (v ++ e) =
    λ v j. joined_snoc OutputRecords g.outputs o v e j r in
    record {
      records = table_latest change e rs d k some-group (rule_outputs more e g listed) (λ _. default_outputs more e g listed k) b w.records;
      formed = formed_latest change rs d k
          (λ v. record { positions = v.positions; outputs = each_append (WellFormedOutput g.size) g.outputs (o ∷ []) v.outputs (f, tt) }) w.formed;
      begun = λ _. some_latest change rs d k some-group;
      bare = λ t. absurd (ended t);
      writing = λ t. rw (top_changed change rs d k some-group, length-append, last_d_snoc (sum (pos 0) []) g.outputs o) (omega arith, sums t);
    }

taken_described : (s : Reading) (x : Record) → FittingRecord x → T (not (misplaced s x)) → T (not (skipping s x)) → T (not (too_many s x)) →
    (b : List ℕ) → Described s b → Described (taken s x) (b ++ bytes_of x)
unfolding taken misplaced skipping too_many latest repeated
taken_described s (rule k a) f m n o b w =
    let g : Group = record { size = k; anchored = a; ranges = []; outputs = [] } in
    let rs = s.table.rules in
    let none_yet = is_none s.table.default m in
    record {
      records = table_rule g (bytes_of (rule k a)) rs s.table.default s.table.mark unmarked none_yet (record { written = []; outputs = refl; bytes = refl }) b w.records;
      formed = (each_append Formed rs (g ∷ []) w.formed.0 (record { positions = tt; outputs = tt }, tt), tt, λ _. refl);
      begun = λ _. rw (append-nil, length-append) (omega arith);
      bare = λ _. (ap (λ h. h.outputs) (last_d_snoc (every_character []) rs g), refl);
      writing = λ t. absurd t;
    }
taken_described s (range p r) f m n o b w =
    let rs = s.table.rules in
    let d = s.table.default in
    let k = s.table.mark in
    let g = top rs d in
    let ps = g.ranges in
    let t1 = not (ranging s) in
    let t2 = leb g.size p in
    let t3 = ltb (suc p) (length ps) in
    let u4 = or_none (t1 || t2 || t3) _ m in
    let u3 = or_none (t1 || t2) t3 u4.0 in
    let u2 = or_none t1 t2 u3.0 in
    let going : T (ranging s) = not_not (ranging s) u2.0 in
    let l1 : length ps ≤ suc p = nltb→le (suc p) (length ps) u3.1 in
    let l2 : p ≤ length ps = nltb→le (length ps) p n in
    let some-group = w.begun (ranging_begun s going) in
    let bare = w.bare going in
    let change = change_ranges (add_range p r) in
    let here : WellFormedRange r = record { ordered = f.1; character = f.2 } in
    let last = last_d [] ps in
    let above : p ≢ length ps → ((last_d r last).highest < r.lowest) × (length last ≢ 4) =
    λ e.
    let same : T (eqb (suc p) (length ps)) = eq→eqb (suc p) (length ps) (omega arith) in
    (nleb→lt r.lowest (last_d r last).highest (and_fails (eqb (suc p) (length ps)) _ u4.1 same), neqb→ne (length last) 4 (and_fails (eqb (suc p) (length ps)) _ o same)) in
    record {
      records =
          table_latest change (bytes_of (range p r)) rs d k some-group
          (rule_ranges p r g bare.0 l2 l1)
          (λ t. absurd (subst (λ o. T (is_some o)) bare.1 t))
          b w.records;
      formed = formed_latest change rs d k (λ v. record { positions = positions_more p r ps here above v.positions; outputs = v.outputs }) w.formed;
      begun = λ _. some_latest change rs d k some-group;
      bare = λ _. (ap (λ h. h.outputs) (top_changed change rs d k some-group) ∙ bare.0, none_latest change rs d k bare.1);
      writing = λ t. absurd t;
    }
taken_described s (output c) f m n o b w =
    let e = output_record (signed 32 c) in
    added_described s (sum (signed 32 c) []) 3 e (neqb→ne s.kind 0 m) (λ t. t) (λ _. tt) ([], reordered_same [], sym (append-nil e)) (output_formed _ c f) b w
taken_described s (hexadecimal p shift) f m n o b w =
    let k = (top s.table.rules s.table.default).size in
    let u = or_none (eqb s.kind 0) (leb k p) m in
    added_described s (digit p shift) _ _ (neqb→ne s.kind 0 u.0) (λ t. t) (λ t. t) refl (record { below = nleb→lt k p u.1; shifts = f.1 }) b w
taken_described s (term p a) f m n o b w =
    let rs = s.table.rules in
    let d = s.table.default in
    let k = s.table.mark in
    let g = top rs d in
    let last = last_d (sum (pos 0) []) g.outputs in
    let z = signed 16 a in
    let e = bytes_of (term p a) in
    let t1 = eqb s.kind 3 || eqb s.kind 4 in
    let u3 = or_none (not t1 || leb g.size p) (repeated s p) m in
    let u2 = or_none (not t1) (leb g.size p) u3.0 in
    let going : T t1 = not_not t1 u2.0 in
    let below : p < g.size = nleb→lt g.size p u2.1 in
    let new : coefficient_at last p ≡ pos 0 = none_there (coefficient_at last p) u3.1 in
    let more : List Output → List Output = at_last (add_term p z) in
    let change = change_outputs more in
    let some-group = w.begun (writing_begun s going) in
    let some-output : 1 ≤ length g.outputs = (w.writing going).0 in
    let is_sum : IsSum last = (w.writing going).1 in
    let listed : (v : List ℕ) → Joined OutputRecords g.outputs v → Joined OutputRecords (more g.outputs) (v ++ e) =
    λ v. joined_last OutputRecords (add_term p z) e (sum (pos 0) []) g.outputs v some-output (term_written p z last is_sum (signed_named 16 half_16 a f.2 f.1) new) in
    record {
      records = table_latest change e rs d k some-group (rule_outputs more e g listed) (λ _. default_outputs more e g listed k) b w.records;
      formed = formed_latest change rs d k
          (λ v. record {
            positions = v.positions;
            outputs = last_each (WellFormedOutput g.size) (add_term p z) (sum (pos 0) []) g.outputs (term_formed g.size p a last f below) v.outputs;
          }) w.formed;
      begun = λ _. some_latest change rs d k some-group;
      bare = λ t. absurd t;
      writing = λ _. rw (top_changed change rs d k some-group, at_last_length, last_at_last (add_term p z) (sum (pos 0) []) g.outputs) (some-output, term_sum p z last is_sum);
    }
taken_described s (default k) f m n o b w =
    let rs = s.table.rules in
    let none_yet = is_none s.table.default m in
    record {
      records = table_default (every_character []) (bytes_of (default k)) rs s.table.default s.table.mark k none_yet (record { written = []; outputs = refl; bytes = refl }) b w.records;
      formed = (w.formed.0, (every_formed, tt), λ e. absurd (let z : ◌≡◌ {A = ℕ} 0 1 = cc in omega arith));
      begun = λ _. rw length-append (omega arith);
      bare = λ t. absurd t;
      writing = λ t. absurd t;
    }

-- one record, and record after record

abbrev IfRead : List ℕ → Outcome Reading → Type 0
IfRead b (refused n) = Unit {0}
IfRead b (accepted s) = Described s b

one_described : (s : Reading) (c : List ℕ) → length c ≡ 8 → Bytes c → (b : List ℕ) → Described s b → IfRead (b ++ c) (read_one s (decode c))
unfolding read_one
one_described s c l y b w = go (decode c) refl
  where
    go : (o : Option Record) → decode c ≡ o → IfRead (b ++ c) (read_one s o)
    go None e = tt
    go (Some x) e =
        by_cases (IfRead (b ++ c)) _ (accepted (taken s x)) (
          λ _. tt,
          λ m. (
            λ _. tt,
            λ n. (
              λ _. tt,
              λ k.
                  subst (λ d. Described (taken s x) (b ++ d)) (sym (encode_decode c l y x e))
                  (taken_described s x (decode_fits c y x e) m n k b w),
            ),
          ),
        )

records_described : (n : ℕ) (c : List ℕ) (s : Reading) (b : List ℕ) → length c ≡ 8 * n → Bytes c → Described s b → IfRead (b ++ c) (read_records n c s)
unfolding read_records
records_described zero c s b l y w = subst (Described s) (sym (ap (λ d. b ++ d) (no_elements c l) ∙ append-nil b)) w
records_described (suc n) c s b l y w =
    let here = take 8 c in
    let rest = drop 8 c in
    let parts : here ++ rest ≡ c = take-append-drop 8 c in
    let bytes : Bytes (here ++ rest) = subst Bytes (sym parts) y in
    let more : length rest ≡ 8 * n = rw length-drop (omega (arith, mul-suc 8 n)) in
    let one : length here ≡ 8 = rw length-take (omega (arith, mul-suc 8 n)) in
    let step = one_described s here one (each_front (λ x. x < 256) here rest bytes) b w in
    subst (λ d. IfRead d (read_records (suc n) c s)) (append_assoc b here rest ∙ ap (λ d. b ++ d) parts)
    (by_then (IfRead (b ++ here ++ rest)) (read_one s (decode here)) (λ s'. read_records n rest s')
    (λ k e. tt) (λ s' e. records_described n rest s' (b ++ here) more (each_back (λ x. x < 256) here rest bytes) (subst (IfRead (b ++ here)) e step)))

unread_described : Described unread []
unfolding unread
unread_described =
    record {
      records = record { first = []; last = []; rules = refl; default = refl; bytes = refl };
      formed = (tt, tt, λ _. refl);
      begun = λ d. absurd (d refl);
      bare = λ t. absurd t;
      writing = λ t. absurd t;
    }

all_described : (b : List ℕ) → Bytes b → length b % 8 ≡ 0 → IfRead b (read_records (length b / 8) b unread)
all_described b y whole = records_described (length b / 8) b unread [] (omega (arith, div-add-mod (length b) 8)) y unread_described

-- a group stands where records were taken in, the last not of kind 0
pub group_begun : (b : List ℕ) (s : Reading) → Bytes b → length b % 8 ≡ 0 → read_records (length b / 8) b unread ≡ accepted s → s.kind ≢ 0 → 1 ≤ length (groups s.table)
group_begun b s y whole e = (subst (IfRead b) e (all_described b y whole)).begun

-- the table

abbrev IfTable : List ℕ → Outcome Table → Type 0
IfTable b (refused n) = Unit {0}
IfTable b (accepted t) = Records b t × FormedTable t

table_described : (b : List ℕ) → Bytes b → IfTable b (read_rules b)
unfolding read_rules read_end
table_described b y =
    by_cases (IfTable b) _ _ (
      λ _. tt,
      λ u.
          let whole : length b % 8 ≡ 0 = eqb→eq (length b % 8) 0 (not_not (eqb (length b % 8) 0) u) in
          let all = all_described b y whole in
          by_then (IfTable b) (read_records (length b / 8) b unread) read_end
          (λ n e. tt)
          (λ s e.
          let w : Described s b = subst (IfRead b) e all in
          by_cases (IfTable b) _ (accepted s.table) (λ _. tt, λ _. (λ _. tt, λ _. (w.records, w.formed)))),
    )

rule_formed : (g : Group) → ShapedGroup g × Formed g → WellFormedRule g
rule_formed g h =
    record {
      long = h.0.positive;
      short = h.0.small;
      places = h.0.places;
      positions = h.1.positions;
      few_outputs = h.0.outputs;
      outputs = h.1.outputs;
    }

default_formed : (g : Group) → ShapedDefault g × Formed g → WellFormedDefault g
default_formed g h =
    record {
      acts = λ i. record { size = h.0.size i; anchored = h.0.anchored i; ranges = h.0.ranges i; outputs = g.outputs };
      few_outputs = h.0.outputs;
      outputs = subst (λ k. Each (WellFormedOutput k) g.outputs) h.0.size h.1.outputs;
    }

pub read_records_lem : (b : List ℕ) (t : Table) → Bytes b → read_rules b ≡ accepted t → Records b t
read_records_lem b t y e = (subst (IfTable b) e (table_described b y)).0

pub read_well_formed : (b : List ℕ) (t : Table) → Bytes b → read_rules b ≡ accepted t → WellFormed t
read_well_formed b t y e =
    let f = (subst (IfTable b) e (table_described b y)).1 in
    let s = read_shaped b t e in
    record {
      some_rule = s.some_rule;
      few_rules = s.few_rules;
      rules = each_weaken (λ g. ShapedGroup g × Formed g) WellFormedRule t.rules rule_formed (each_both ShapedGroup Formed t.rules s.rules f.0);
      default = each_weaken (λ g. ShapedDefault g × Formed g) WellFormedDefault (optional t.default) default_formed
          (each_both ShapedDefault Formed (optional t.default) s.default f.1);
      no_mark = f.2;
    }

-- a well formed table has the shape that the laws above ask for

outputs_within : (k : ℕ) (os : List Output) → Each (WellFormedOutput k) os → Each (Within k) os
outputs_within k os w = each_weaken (WellFormedOutput k) (Within k) os within w
  where
    within : (o : Output) → WellFormedOutput k o → Within k o
    within (sum c ks) v = v.below
    within (digit p shift) v = (v.below, v.shifts)

pub well_formed_shaped : (t : Table) → WellFormed t → Shaped t
well_formed_shaped t w =
    record {
      some_rule = w.some_rule;
      few_rules = w.few_rules;
      rules = each_weaken WellFormedRule ShapedGroup t.rules
          (λ g v. record { positive = v.long; small = v.short; places = v.places; outputs = v.few_outputs; reaches = outputs_within g.size g.outputs v.outputs })
          w.rules;
      default = each_weaken WellFormedDefault ShapedDefault (optional t.default)
          (λ g v. record {
            size = ap (λ h. h.size) v.acts;
            anchored = ap (λ h. h.anchored) v.acts;
            ranges = ap (λ h. h.ranges) v.acts;
            outputs = v.few_outputs;
            reaches = outputs_within 1 g.outputs v.outputs;
          })
          w.default;
    }
