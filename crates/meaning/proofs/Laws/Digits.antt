-- Request [1]'s sentences hold of the definitions: bytes and values by the tests that define them, the refusals at a record because its tests
-- are those of kind 3 but for the position, and a term's because the record before it left kind 6.
use mathlib.Core.Bool.{Bool, true, false, ◌||◌, not, cond}
use mathlib.Core.List.{List, [], ◌∷◌, ◌++◌, append_assoc}
use mathlib.Core.Logic.{◌↔◌}
use Rattle.std.specs.Prelude.{None, Some}
use mathlib.Core.Path.{◌≡◌, refl, sym, ap, ◌∙◌}
use Prim.Native.Nat.{ℕ, suc, ◌+◌, ◌*◌, ◌/◌, ◌%◌, ◌^◌, ◌≤◌, ◌<◌}
use native.Mathlib.Nat.{mod-lt}
use native.Mathlib.Omega.{arith}
use lib.Dec.{T, T_not, eqb, leb, ltb, leb→le, le→leb, ltb→lt, nltb→le, eqb→eq, lit<}
use lib.IntN.{ℤ, pos, nat_abs}
use lib.ListN.{length, get_or, length-append, get_or-map}
use lib.Seq.{take_at}
use Rattle.lists.specs.Lists.{Each}
use Rattle.lists.specs.Decide.{all_of, select}
use Rattle.lists.proofs.Laws.Tests.{of_T, test_eq, or_left, or_right, or_cases, or_none, of_cond, by_cases, holds, to_all_of, eq→eqb, neqb→ne, select_here}
use Rattle.lists.proofs.Laws.Each.{all_each, each_all}
use Rattle.meaning.specs.Refusal.{refused, accepted, and_then}
use Rattle.meaning.specs.Table.{Range, sum, digit, Group, is_shift}
use Rattle.meaning.specs.Value.{dot, nibble, hex_digit, value, SafeOutput, safe_output}
use Rattle.meaning.specs.Record.{Record, output, term, hexadecimal, zeros, decode}
use Rattle.meaning.specs.WellFormed.{Signed}
use Rattle.meaning.specs.Records.{Bytes, little_endian, twos_complement, output_record, Term, term_record, digit_record, Known}
use Rattle.meaning.specs.Records as described
use Rattle.meaning.specs.Reader.{Reading, unread, latest, misplaced, skipping, too_many, change_outputs, taken, read_one, read_records, LeadTo, read_rules, read_table}
use Rattle.meaning.specs.Meaning.{written}
use Rattle.meaning.specs.Digits.{DigitAt, DigitsOut}
use Rattle.meaning.proofs.Laws.Refusal.{by_then, accepted_not, accepted_same, refused_same}
use Rattle.meaning.proofs.Laws.Seven.{safe_every}
use Rattle.meaning.proofs.Laws.Decoding.{only_if_lem}
use Rattle.meaning.proofs.Laws.Encoding.{read_output, read_term, read_hexadecimal}
use Rattle.meaning.proofs.Laws.Appended.{top_changed}
use Rattle.meaning.proofs.Laws.Described.{group_begun}
use Rattle.meaning.proofs.Laws.Numbered.{records_on, lead_back}
use Rattle.meaning.proofs.Laws.Direct.{refused_first}

-- a record of kind 6

kind_6 : (p shift : ℕ) (rest : List ℕ) → decode (6 ∷ p ∷ shift ∷ rest) ≡ only_if_lem (leb p 7 ∷ is_shift shift ∷ zeros rest ∷ []) (hexadecimal p shift)
unfolding decode select all_of
kind_6 p shift rest = refl

-- a record that is one is not refused by 2
not_2 : (s : Reading) (x : Record) → read_one s (Some x) ≡ refused 2 → ⊥
unfolding read_one
not_2 s x =
    by_cases (λ o. o ≡ refused 2 → ⊥) _ (accepted (taken s x)) (
      λ _ e. omega (arith, refused_same 3 2 e),
      λ _. (λ _ e. omega (arith, refused_same 4 2 e), λ _. (λ _ e. omega (arith, refused_same 6 2 e), λ _ e. accepted_not _ 2 e)),
    )

abbrev RightBytes : ℕ → ℕ → List ℕ → Type 0
RightBytes p shift rest = (p ≤ 7) × T (is_shift shift) × Each (λ x. x ≡ 0) rest

refused_2 : (s : Reading) (p shift : ℕ) (rest : List ℕ) → read_one s (decode (6 ∷ p ∷ shift ∷ rest)) ≡ refused 2 → RightBytes p shift rest → ⊥
refused_2 s p shift rest e h =
    let tests : List Bool = leb p 7 ∷ is_shift shift ∷ zeros rest ∷ [] in
    let all : T (all_of tests) = to_all_of tests (le→leb p 7 h.0, (h.1, (each_all (eqb 0) rest (λ x z. eq→eqb 0 x (sym z)) h.2, tt))) in
    not_2 s (hexadecimal p shift) (sym (ap (read_one s) (kind_6 p shift rest ∙ select_here (Some (hexadecimal p shift)) [] None (of_T (all_of tests) all))) ∙ e)

to_2 : (s : Reading) (p shift : ℕ) (rest : List ℕ) → (RightBytes p shift rest → ⊥) → read_one s (decode (6 ∷ p ∷ shift ∷ rest)) ≡ refused 2
unfolding read_one
to_2 s p shift rest h =
    ap (read_one s) (kind_6 p shift rest)
    ∙ by_cases (λ o. read_one s o ≡ refused 2) ((all_of (leb p 7 ∷ is_shift shift ∷ zeros rest ∷ []), Some (hexadecimal p shift)) ∷ []) None (
      λ t. let k = holds _ t in absurd (h (leb→le p 7 k.0, k.1.0, all_each (eqb 0) rest (λ x z. sym (eqb→eq 0 x z)) k.1.1.0)),
      λ _. refl,
    )

-- what a digit writes

module _ (g : Group) (j p shift : ℕ) (at : DigitAt g j p shift) (w : List ℕ) (v : ℕ) (e : v ≡ get_or w p 0 / 2 ^ shift % 16) where
  digit_written : get_or (written g w) j 0 ≡ cond (ltb v 10) (48 + v) (55 + v)
  unfolding written value dot nibble hex_digit
  digit_written =
      get_or-map (λ o. nat_abs (value o w)) g.outputs j (sum (pos 0) [])
      ∙ ap (λ o. nat_abs (value o w)) at
      ∙ ap (λ n. cond (ltb n 10) (48 + n) (55 + n)) (sym e)

  low_written : v < 10 → get_or (written g w) j 0 ≡ 48 + v
  low_written h =
      digit_written
      ∙ of_cond (λ n. n ≡ 48 + v) (ltb v 10) (48 + v) (55 + v) (λ _. refl) (λ t. let k = nltb→le v 10 t in absurd (omega arith))

  high_written : 10 ≤ v → (v ≤ 15) × (get_or (written g w) j 0 ≡ 55 + v)
  high_written h = (
    omega (arith, mod-lt (get_or w p 0 / 2 ^ shift) (lit< {m = 0} {n = 16} tt)),
    digit_written
        ∙ of_cond (λ n. n ≡ 55 + v) (ltb v 10) (48 + v) (55 + v) (λ t. let k = ltb→lt v 10 t in absurd (omega arith)) (λ _. refl),
  )

never_unsafe : (ps : List (List Range)) (p shift : ℕ) → SafeOutput ps (digit p shift)
unfolding safe_output
never_unsafe ps p shift = safe_every ps (digit p shift) tt

-- where it stands

-- with the same tests passed, the same refusal
same_refused : (a b c : Bool) (x y : Reading) (n : ℕ) →
    select ((a, refused 3) ∷ (b, refused 4) ∷ (c, refused 6) ∷ []) (accepted x) ≡ refused n →
    select ((a, refused 3) ∷ (b, refused 4) ∷ (c, refused 6) ∷ []) (accepted y) ≡ refused n
unfolding select
same_refused true b c x y n e = e
same_refused false true c x y n e = e
same_refused false false true x y n e = e
same_refused false false false x y n e = absurd (accepted_not x n e)

same_place : (s : Reading) (p shift c : ℕ) → p < (latest s).size → misplaced s (hexadecimal p shift) ≡ misplaced s (output c)
unfolding misplaced
same_place s p shift c h =
    test_eq (eqb s.kind 0 || leb (latest s).size p) (eqb s.kind 0)
    (λ t. or_cases (eqb s.kind 0) (leb (latest s).size p) t (λ u. u) (λ u. let k = leb→le (latest s).size p u in absurd (omega arith)))
    (or_left (eqb s.kind 0) (leb (latest s).size p))

as_kind_3 : (s : Reading) (p shift : ℕ) (c : ℤ) (n : ℕ) → p ≤ 7 → T (is_shift shift) → Signed 32 c → p < (latest s).size →
    (read_one s (decode (digit_record p shift)) ≡ refused n) ↔ (read_one s (decode (output_record c)) ≡ refused n)
unfolding read_one skipping too_many
as_kind_3 s p shift c n l t k h =
    let x = twos_complement 32 c in
    let d = taken s (hexadecimal p shift) in
    let o = taken s (output x) in
    let a = misplaced s (output x) in
    let same = same_place s p shift x h in
    rw (read_hexadecimal p shift l t, read_output c k) (
      λ e. same_refused a _ _ d o n (rw same at e),
      λ e. rw same (same_refused a _ _ o d n e),
    )

position_3 : (s : Reading) (p shift : ℕ) → p ≤ 7 → T (is_shift shift) → (latest s).size ≤ p → read_one s (decode (digit_record p shift)) ≡ refused 3
unfolding read_one misplaced
position_3 s p shift l t h =
    ap (read_one s) (read_hexadecimal p shift l t)
    ∙ select_here (refused 3) _ _ (of_T (eqb s.kind 0 || leb (latest s).size p) (or_right (eqb s.kind 0) _ (le→leb (latest s).size p h)))

-- the reading that it leads to

abbrev pub TakenTo : Reading → Record → Reading → Type 0
TakenTo s x s' = T (not (misplaced s x)) × (s' ≡ taken s x)

pub one_taken : (s s' : Reading) (x : Record) → read_one s (Some x) ≡ accepted s' → TakenTo s x s'
unfolding read_one
one_taken s s' x =
    by_cases (λ o. o ≡ accepted s' → TakenTo s x s') _ (accepted (taken s x)) (
      λ _ e. absurd (accepted_not s' 3 (sym e)),
      λ m. (
        λ _ e. absurd (accepted_not s' 4 (sym e)),
        λ _. (λ _ e. absurd (accepted_not s' 6 (sym e)), λ _ e. (m, accepted_same s' (taken s x) (sym e))),
      ),
    )

decoded_taken : (s s' : Reading) (p shift : ℕ) → read_one s (decode (digit_record p shift)) ≡ accepted s' → TakenTo s (hexadecimal p shift) s'
unfolding read_one
decoded_taken s s' p shift e =
    by_cases (λ o. read_one s o ≡ accepted s' → TakenTo s (hexadecimal p shift) s') ((all_of (leb p 7 ∷ is_shift shift ∷ true ∷ []), Some (hexadecimal p shift)) ∷ []) None
    (λ _. one_taken s s' (hexadecimal p shift), λ _ q. absurd (accepted_not s' 2 (sym q)))
    (sym (ap (read_one s) (kind_6 p shift (0 ∷ 0 ∷ 0 ∷ 0 ∷ 0 ∷ []))) ∙ e)

digit_taken : (s s' : Reading) (p shift : ℕ) → read_records 1 (digit_record p shift) s ≡ accepted s' → TakenTo s (hexadecimal p shift) s'
unfolding read_records
digit_taken s s' p shift =
    by_then (λ o. o ≡ accepted s' → TakenTo s (hexadecimal p shift) s') (read_one s (decode (digit_record p shift))) accepted
    (λ n _ q. absurd (accepted_not s' n (sym q)))
    (λ r e q. decoded_taken s s' p shift (e ∙ q))

digit_back : (b : List ℕ) (p shift : ℕ) (s' : Reading) → LeadTo (b ++ digit_record p shift) s' → (s : Reading) × LeadTo b s × TakenTo s (hexadecimal p shift) s'
digit_back b p shift s' lead = let back = lead_back b (digit_record p shift) 1 s' refl lead in (back.0, back.1, digit_taken back.0 s' p shift back.2)

appended : (b : List ℕ) (p shift : ℕ) (s s' : Reading) → Bytes b → LeadTo b s → LeadTo (b ++ digit_record p shift) s' →
    (latest s').outputs ≡ (latest s).outputs ++ (digit p shift ∷ [])
unfolding latest misplaced taken
appended b p shift s s' y lead on =
    let back = digit_back b p shift s' on in
    let same : back.0 ≡ s = accepted_same back.0 s (sym back.1.1 ∙ lead.1) in
    let t : TakenTo s (hexadecimal p shift) s' = rw same at back.2 in
    let begun = neqb→ne s.kind 0 (or_none (eqb s.kind 0) (leb (latest s).size p) t.0).0 in
    ap (λ r. (latest r).outputs) t.1
    ∙ ap (λ g. g.outputs) (top_changed (change_outputs (λ os. os ++ (digit p shift ∷ []))) s.table.rules s.table.default s.table.mark (group_begun b s y lead.0 lead.1 begun))

-- a term behind it

pub known_term : {r : List ℕ} → Known r → get_or r 0 0 ≡ 4 → (p : ℕ) × (a : ℕ) × (decode r ≡ Some (term p a))
known_term (described.rule k a h l) e = absurd (omega arith)
known_term (described.range p r h w) e = absurd (omega arith)
known_term (described.output c s) e = absurd (omega arith)
known_term (described.term x h s d) e = (_, _, read_term x.position x.coefficient h s d)
known_term (described.default m) e = absurd (omega arith)
known_term (described.hexadecimal p shift h s) e = absurd (omega arith)

term_3 : (s : Reading) (p a : ℕ) → s.kind ≡ 6 → read_one s (Some (term p a)) ≡ refused 3
unfolding read_one misplaced
term_3 s p a e = select_here (refused 3) _ _ (rw e refl)

-- records that are read up to a refusal are a table refused
refused_there : (b : List ℕ) (n k : ℕ) → length b ≡ 8 * n → read_records n b unread ≡ refused k → read_table b ≡ refused k
unfolding read_rules and_then
refused_there b n k l e =
    let whole : length b % 8 ≡ 0 = omega arith in
    let count : length b / 8 ≡ n = omega arith in
    refused_first b k (by_cases (λ o. o ≡ refused k) ((not (eqb (length b % 8) 0), refused 1) ∷ []) _ (
      λ u. absurd (T_not (eqb (length b % 8) 0) u (eq→eqb (length b % 8) 0 whole)),
      λ _. rw (count, e) refl,
    ))

term_refused : (b : List ℕ) (p shift : ℕ) (s : Reading) → LeadTo (b ++ digit_record p shift) s → (x : Term) → Known (term_record x) →
    (more : List ℕ) → length more % 8 ≡ 0 → read_table (b ++ digit_record p shift ++ term_record x ++ more) ≡ refused 3
unfolding read_records and_then little_endian taken
term_refused b p shift s lead x known more whole =
    let c = b ++ digit_record p shift in
    let n = length c / 8 in
    let j = length more / 8 in
    let rest : length c % 8 ≡ 0 = lead.0 in
    let last : s.kind ≡ 6 = ap (λ r. r.kind) (digit_back b p shift s lead).2.1 in
    let t = known_term known refl in
    let here : read_records (suc j) (term_record x ++ more) s ≡ refused 3 = rw (take_at (term_record x) more 8 refl, t.2, term_3 s t.0 t.1 last) refl in
    refused_there (c ++ term_record x ++ more) (n + suc j) 3 (omega (arith, length-append (c ++ term_record x) more, length-append c (term_record x)))
    (ap (λ l. read_records (n + suc j) l unread) (append_assoc c (term_record x) more)
    ∙ records_on n c unread (omega arith) (suc j) (term_record x ++ more)
    ∙ ap (λ o. and_then o (λ s'. read_records (suc j) (term_record x ++ more) s')) lead.1
    ∙ here)

pub digits_out : DigitsOut
digits_out =
    record {
      bytes = λ s p shift rest. (refused_2 s p shift rest, to_2 s p shift rest);
      stands = as_kind_3;
      position = position_3;
      next_output = appended;
      no_terms = term_refused;
      below_10 = low_written;
      from_10 = high_written;
      never_7 = never_unsafe;
    }
