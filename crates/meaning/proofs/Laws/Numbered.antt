-- Which refusal it is: 1 for the length, 2 for a record that is of no kind, 5 for a table without a record of a rule.
-- The records before the one at fault were taken in; a rule, once taken in, stays.
use mathlib.Core.Bool.{not}
use mathlib.Core.List.{List, [], ◌∷◌, ◌++◌}
use Rattle.std.specs.Prelude.{Option, None, Some}
use mathlib.Core.Logic.{◌≢◌, ◌↔◌}
use mathlib.Core.Path.{◌≡◌, refl, sym, ap, ap₂, subst, ◌∙◌}
use Prim.Native.Nat.{ℕ, zero, suc, ◌+◌, ◌*◌, ◌-◌, ◌/◌, ◌%◌, ◌≤◌, ◌<◌}
use native.Mathlib.Nat.{mul-suc, zero-add, suc-add, add-sub_of_le, mod-lt, div-add-mod}
use native.Mathlib.Omega.{arith}
use lib.Dec.{T, eqb, eqb→eq, lit<}
use lib.ListN.{length, get_or, take, drop, length-append, length-take, length-drop, take-append-drop}
use lib.Seq.{take-append-le, drop-append-le, drop-drop}
use Rattle.lists.specs.Lists.{any}
use Rattle.lists.proofs.Laws.Tests.{of_T, not_not, by_cases, select_here, ne→neqb, neqb→ne}
use Rattle.lists.proofs.Laws.Each.{each_front, each_back}
use Rattle.meaning.specs.Refusal.{Outcome, refused, accepted, and_then}
use Rattle.meaning.specs.Table.{Group, Table, Mark}
use Rattle.meaning.specs.Record.{Record, rule, range, output, term, default, hexadecimal, decode}
use Rattle.meaning.specs.Reader.{Reading, unread, change_latest, taken, read_one, read_records, LeadTo, read_end, read_rules}
use Rattle.meaning.specs.Records.{Bytes, Known, record_at}
use Rattle.meaning.specs.Records as described
use Rattle.meaning.proofs.Laws.Refusal.{by_then, accepted_not}
use Rattle.meaning.proofs.Laws.Reading.{at_last_length}
use Rattle.meaning.proofs.Laws.Encoding.{no_record, bytes_of, encode_decode, read_rule, read_range, read_output, read_term, read_default, read_hexadecimal}

-- bytes of a known record are read to a record
known_read : {r : List ℕ} → Known r → decode r ≡ None → ⊥
known_read (described.rule k a h l) e = no_record (sym e ∙ read_rule k a h l)
known_read (described.range p r h w) e = no_record (sym e ∙ read_range p r h w)
known_read (described.output c s) e = no_record (sym e ∙ read_output c s)
known_read (described.term x h s d) e = no_record (sym e ∙ read_term x.position x.coefficient h s d)
known_read (described.default m) e = no_record (sym e ∙ read_default m)
known_read (described.hexadecimal p shift h s) e = no_record (sym e ∙ read_hexadecimal p shift h s)

-- a record at fault

record Fault (c : List ℕ) (k : ℕ) : Type 0 where
  length_asked : k ≢ 1
  rule_asked : k ≢ 5
  unknown : k ≡ 2 → (i : ℕ) × (8 * i < length c) × (Known (record_at c i) → ⊥)

abbrev IfFault : {A : Type 0} → List ℕ → Outcome A → Type 0
IfFault c (refused k) = Fault c k
IfFault c (accepted s) = Unit {0}

one_fault : (s : Reading) (c : List ℕ) → 0 < length c → IfFault c (read_one s (decode (take 8 c)))
unfolding read_one
one_fault s c l = go (decode (take 8 c)) refl
  where
    other : (k : ℕ) → 3 ≤ k → k ≢ 5 → Fault c k
    other k h d = record { length_asked = λ e. omega arith; rule_asked = d; unknown = λ e. absurd (omega arith) }

    go : (o : Option Record) → decode (take 8 c) ≡ o → IfFault c (read_one s o)
    go None e = record { length_asked = λ q. omega arith; rule_asked = λ q. omega arith; unknown = λ _. (0, l, λ k. known_read k e) }
    go (Some x) e =
        by_cases (IfFault c) _ (accepted (taken s x)) (
          λ _. other 3 (omega arith) (λ q. omega arith),
          λ _. (λ _. other 4 (omega arith) (λ q. omega arith), λ _. (λ _. other 6 (omega arith) (λ q. omega arith), λ _. tt)),
        )

-- record number i after the first
pub record_next : (c : List ℕ) (i : ℕ) → record_at (drop 8 c) i ≡ record_at c (suc i)
record_next c i = ap (take 8) (drop-drop (8 * i) 8 c ∙ ap (λ n. drop n c) (let e : 8 + 8 * i ≡ 8 * suc i = omega (arith, mul-suc 8 i) in e))

fault_next : (c : List ℕ) (k : ℕ) → Fault (drop 8 c) k → Fault c k
fault_next c k f =
    record {
      length_asked = f.length_asked;
      rule_asked = f.rule_asked;
      unknown = λ e.
          let u = f.unknown e in
          let l : 8 * u.0 < length (drop 8 c) = u.1 in
          (suc u.0, omega (arith, mul-suc 8 u.0, length-drop 8 c), subst (λ r. Known r → ⊥) (record_next c u.0) u.2);
    }

records_fault : (n : ℕ) (c : List ℕ) (s : Reading) → length c ≡ 8 * n → IfFault c (read_records n c s)
unfolding read_records
records_fault zero c s l = tt
records_fault (suc n) c s l =
    let one = one_fault s c (omega (arith, mul-suc 8 n)) in
    by_then (IfFault c) (read_one s (decode (take 8 c))) (λ s'. read_records n (drop 8 c) s')
    (λ k e. subst (IfFault c) e one)
    (λ s' e. later (read_records n (drop 8 c) s') (records_fault n (drop 8 c) s' (length-drop 8 c ∙ omega (arith, mul-suc 8 n))))
  where
    later : (o : Outcome Reading) → IfFault (drop 8 c) o → IfFault c o
    later (refused k) f = fault_next c k f
    later (accepted r) f = tt

-- no rule

abbrev count : Reading → ℕ
count s = length s.table.rules

abbrev kind_of : List ℕ → ℕ
kind_of r = get_or r 0 0

change_count : (f : Group → Group) (rs : List Group) (d : Option Group) (m : Mark) → length (change_latest f (record { rules = rs; default = d; mark = m })).rules ≡ length rs
unfolding change_latest
change_count f rs None m = at_last_length f rs
change_count f rs (Some g) m = refl

-- a record that leaves the table without a rule is not one of a rule, and found it so
taken_none : (s : Reading) (x : Record) → count (taken s x) ≡ 0 → (count s ≡ 0) × (kind_of (bytes_of x) ≢ 1)
unfolding taken
taken_none s (rule k a) e = absurd (omega (arith, length-append {A = Group} s.table.rules (record { size = k; anchored = a; ranges = []; outputs = [] } ∷ [])))
taken_none s (range p r) e = (sym (change_count _ s.table.rules s.table.default s.table.mark) ∙ e, λ q. omega arith)
taken_none s (output c) e = (sym (change_count _ s.table.rules s.table.default s.table.mark) ∙ e, λ q. omega arith)
taken_none s (term p a) e = (sym (change_count _ s.table.rules s.table.default s.table.mark) ∙ e, λ q. omega arith)
taken_none s (default m) e = (e, λ q. omega arith)
taken_none s (hexadecimal p shift) e = (sym (change_count _ s.table.rules s.table.default s.table.mark) ∙ e, λ q. omega arith)

abbrev OneNone : List ℕ → Reading → Outcome Reading → Type 0
OneNone r s (refused k) = Unit {0}
OneNone r s (accepted s') = count s' ≡ 0 → (count s ≡ 0) × (kind_of r ≢ 1)

one_none : (s : Reading) (r : List ℕ) → length r ≡ 8 → Bytes r → OneNone r s (read_one s (decode r))
unfolding read_one
one_none s r l y = go (decode r) refl
  where
    go : (o : Option Record) → decode r ≡ o → OneNone r s (read_one s o)
    go None d = tt
    go (Some x) d =
        by_cases (OneNone r s) _ (accepted (taken s x)) (
          λ _. tt,
          λ _. (
            λ _. tt,
            λ _. (λ _. tt, λ _ z. let n = taken_none s x z in (n.0, λ k. n.1 (sym (ap kind_of (encode_decode r l y x d)) ∙ k))),
          ),
        )

abbrev NoRule : ℕ → List ℕ → Reading → Outcome Reading → Type 0
NoRule n c s (refused k) = Unit {0}
NoRule n c s (accepted s') = count s' ≡ 0 → (count s ≡ 0) × ((i : ℕ) → i < n → kind_of (record_at c i) ≢ 1)

records_none : (n : ℕ) (c : List ℕ) (s : Reading) → length c ≡ 8 * n → Bytes c → NoRule n c s (read_records n c s)
unfolding read_records
records_none zero c s l y = λ z. (z, λ i h. absurd (omega arith))
records_none (suc n) c s l y =
    let here = take 8 c in
    let rest = drop 8 c in
    let bytes : Bytes (here ++ rest) = subst Bytes (sym (take-append-drop 8 c)) y in
    let one = one_none s here (length-take 8 c ∙ omega (arith, mul-suc 8 n)) (each_front (λ x. x < 256) here rest bytes) in
    by_then (NoRule (suc n) c s) (read_one s (decode here)) (λ s'. read_records n rest s')
    (λ k e. tt)
    (λ s' e.
    later s' (subst (OneNone here s) e one) (read_records n rest s')
    (records_none n rest s' (length-drop 8 c ∙ omega (arith, mul-suc 8 n)) (each_back (λ x. x < 256) here rest bytes)))
  where
    at_each : kind_of (take 8 c) ≢ 1 → ((i : ℕ) → i < n → kind_of (record_at (drop 8 c) i) ≢ 1) → (i : ℕ) → i < suc n → kind_of (record_at c i) ≢ 1
    at_each h k zero l = h
    at_each h k (suc i) l = subst (λ r. kind_of r ≢ 1) (record_next c i) (k i (omega arith))

    later : (s' : Reading) → (count s' ≡ 0 → (count s ≡ 0) × (kind_of (take 8 c) ≢ 1)) → (o : Outcome Reading) → NoRule n (drop 8 c) s' o → NoRule (suc n) c s o
    later s' h (refused k) f = tt
    later s' h (accepted s'') f = λ z. let v = f z in let u = h v.0 in (u.0, at_each u.1 v.1)

-- records before and behind: those behind are read where those before were taken in

pub records_on : (n : ℕ) (c : List ℕ) (s : Reading) → length c ≡ 8 * n → (m : ℕ) (more : List ℕ) →
    read_records (n + m) (c ++ more) s ≡ and_then (read_records n c s) (λ s'. read_records m more s')
unfolding read_records and_then
records_on zero [] s l m more = ap (λ i. read_records i more s) (zero-add m)
records_on zero (x ∷ c) s l m more = absurd (omega arith)
records_on (suc n) c s l m more =
    let whole : length c ≡ 8 + 8 * n = l ∙ omega (arith, mul-suc 8 n) in
    let eight : 8 ≤ length c = omega arith in
    let rest : length (drop 8 c) ≡ 8 * n = length-drop 8 c ∙ omega arith in
    ap (λ i. read_records i (c ++ more) s) (suc-add n m)
    ∙ ap₂ (λ r d. and_then (read_one s (decode r)) (λ s'. read_records (n + m) d s')) (take-append-le 8 c more eight) (drop-append-le 8 c more eight)
    ∙ go (read_one s (decode (take 8 c))) (λ s'. records_on n (drop 8 c) s' rest m more)
  where
    go : (o : Outcome Reading) →
        ((s' : Reading) → read_records (n + m) (drop 8 c ++ more) s' ≡ and_then (read_records n (drop 8 c) s') (λ s''. read_records m more s'')) →
        and_then o (λ s'. read_records (n + m) (drop 8 c ++ more) s') ≡ and_then (and_then o (λ s'. read_records n (drop 8 c) s')) (λ s''. read_records m more s'')
    go (refused k) f = refl
    go (accepted s') f = f s'

-- the reading that records before others lead to
pub lead_back : (b e : List ℕ) (k : ℕ) (s' : Reading) → length e ≡ 8 * k → LeadTo (b ++ e) s' → (s : Reading) × LeadTo b s × (read_records k e s ≡ accepted s')
lead_back b e k s' l lead =
    let n = length b / 8 in
    let count : length (b ++ e) ≡ length b + length e = length-append b e in
    let rest : length (b ++ e) % 8 ≡ 0 = lead.0 in
    let whole : length b % 8 ≡ 0 = omega arith in
    let more : length (b ++ e) / 8 ≡ n + k = omega arith in
    by_then (λ o. o ≡ accepted s' → (s : Reading) × LeadTo b s × (read_records k e s ≡ accepted s')) (read_records n b unread) (λ s. read_records k e s)
    (λ j _ q. absurd (accepted_not s' j (sym q)))
    (λ s f q. (s, (whole, f), q))
    (sym (records_on n b unread (omega arith) k e) ∙ rw more at lead.1)

-- the table

-- 2, 3 and 6 are answered at a record, not at the table's end
abbrev at_record : List ℕ
at_record = 2 ∷ 3 ∷ 6 ∷ []

-- what a refusal before 7 says
record Said (b : List ℕ) (k : ℕ) : Type 0 where
  uneven : k ≡ 1 → length b % 8 ≢ 0
  unknown : k ≡ 2 → (i : ℕ) × (8 * i < length b) × (Known (record_at b i) → ⊥)
  no_rule : k ≡ 5 → Bytes b → (i : ℕ) → 8 * i < length b → kind_of (record_at b i) ≢ 1
  record_refused : T (any (eqb k) at_record) → (length b ≡ 8 * (length b / 8)) × (read_records (length b / 8) b unread ≡ refused k)

abbrev IfSaid : List ℕ → Outcome Table → Type 0
IfSaid b (refused k) = Said b k
IfSaid b (accepted t) = Unit {0}

rules_said : (b : List ℕ) → IfSaid b (read_rules b)
unfolding read_rules read_end
rules_said b =
    by_cases (IfSaid b) _ _ (
      λ u. record { uneven = λ _. neqb→ne (length b % 8) 0 u; unknown = λ e. absurd (omega arith); no_rule = λ e. absurd (omega arith); record_refused = λ t. absurd t },
      λ u.
          let rest : length b % 8 ≡ 0 = eqb→eq (length b % 8) 0 (not_not (eqb (length b % 8) 0) u) in
          let whole : length b ≡ 8 * (length b / 8) = omega (arith, div-add-mod (length b) 8) in
          by_then (IfSaid b) (read_records (length b / 8) b unread) read_end
          (λ k e.
          let f = subst (IfFault b) e (records_fault (length b / 8) b unread whole) in
          record { uneven = λ q. absurd (f.length_asked q); unknown = f.unknown; no_rule = λ q. absurd (f.rule_asked q); record_refused = λ _. (whole, e) })
          (λ s e.
          by_cases (IfSaid b) _ (accepted s.table) (
            λ _. record { uneven = λ q. absurd (omega arith); unknown = λ q. absurd (omega arith); no_rule = λ q. absurd (omega arith); record_refused = λ t. absurd t },
            λ _. (
              λ z. record {
                uneven = λ q. absurd (omega arith);
                unknown = λ q. absurd (omega arith);
                no_rule = λ _ y i l.
                    (subst (NoRule (length b / 8) b unread) e (records_none (length b / 8) b unread whole y) (eqb→eq (length s.table.rules) 0 z)).1 i (omega arith);
                record_refused = λ t. absurd t;
              },
              λ _. tt,
            ),
          )),
    )

pub rules_length : (b : List ℕ) → (read_rules b ≡ refused 1) ↔ (length b % 8 ≢ 0)
unfolding read_rules
rules_length b = (λ e. (subst (IfSaid b) e (rules_said b)).uneven refl, λ d. select_here (refused 1) [] _ (of_T (not (eqb (length b % 8) 0)) (ne→neqb (length b % 8) 0 d)))

pub rules_unknown : (b : List ℕ) → read_rules b ≡ refused 2 → (i : ℕ) × (8 * i < length b) × (Known (record_at b i) → ⊥)
rules_unknown b e = (subst (IfSaid b) e (rules_said b)).unknown refl

pub rules_no_rule : (b : List ℕ) → Bytes b → read_rules b ≡ refused 5 → (i : ℕ) → 8 * i < length b → get_or (record_at b i) 0 0 ≢ 1
rules_no_rule b y e = (subst (IfSaid b) e (rules_said b)).no_rule refl y

pub rules_for_good : (b : List ℕ) (k : ℕ) → read_rules b ≡ refused k → T (any (eqb k) (2 ∷ 3 ∷ 6 ∷ [])) → (more : List ℕ) (t : Table) → read_rules (b ++ more) ≡ accepted t → ⊥
unfolding read_rules and_then
rules_for_good b k e h more t =
    let r = (subst (IfSaid b) e (rules_said b)).record_refused h in
    let n = length b / 8 in
    let all = length (b ++ more) / 8 in
    let larger : n ≤ all = omega (arith, r.0, length-append b more, div-add-mod (length (b ++ more)) 8, mod-lt (length (b ++ more)) (lit< {m = 0} {n = 8} tt)) in
    let on : read_records all (b ++ more) unread ≡ refused k =
    ap (λ i. read_records i (b ++ more) unread) (sym (add-sub_of_le larger)) ∙ records_on n b unread r.0 (all - n) more ∙ ap (λ o. and_then o (λ s. read_records (all - n) more s)) r.1 in
    by_cases (λ o. o ≡ accepted t → ⊥) _ _ (
      λ _ q. accepted_not t 1 (sym q),
      λ _ q. accepted_not t k (sym q ∙ ap (λ o. and_then o read_end) on),
    )
