-- Behind an output character and its terms so far, the positions with a coefficient are those that the terms have named; so one more term
-- is refused exactly if its position is among them. The output character begins with none, and each term adds its own.
use mathlib.Core.Bool.{Bool, true, false, ◌||◌, not, or-true, or-false, or_assoc}
use mathlib.Core.List.{List, [], ◌∷◌, ◌++◌}
use mathlib.Core.Logic.{◌↔◌}
use Rattle.std.specs.Prelude.{Option, None, Some}
use mathlib.Core.Path.{◌≡◌, refl, sym, ap, subst, ◌∙◌}
use Prim.Native.Nat.{ℕ, suc, ◌*◌, ◌≤◌, ◌<◌}
use native.Mathlib.Decide.{ℕ_discrete}
use native.Mathlib.Omega.{arith}
use lib.Dec.{T, eqb, leb, eqb_refl}
use lib.IntN.{ℤ, pos, nat_abs}
use lib.ListN.{length, drop, length-append}
use lib.Seq.{take_at, drop_at}
use Rattle.lists.specs.Lists.{any, flat_map, at_last}
use Rattle.lists.specs.Decide.{all_of, select}
use Rattle.lists.proofs.Laws.Tests.{or_right, of_T, of_not, by_cases, neqb→ne, ne→neqb, select_here}
use Rattle.lists.proofs.Laws.Each.{each_front, each_back}
use Rattle.lists.proofs.Laws.Last.{last_d_snoc, last_at_last}
use Rattle.meaning.specs.Refusal.{refused, accepted, and_then}
use Rattle.meaning.specs.Table.{Output, sum, digit}
use Rattle.meaning.specs.Record.{Record, output, term, decode}
use Rattle.meaning.specs.Records.{Bytes, little_endian, output_record, Term, term_record, Known}
use Rattle.meaning.specs.Reader.{Reading, latest, coefficient_at, repeated, misplaced, skipping, too_many, signed, add_term, change_outputs, taken, read_one, read_records, LeadTo}
use Rattle.meaning.proofs.Laws.Refusal.{refused_not, by_then, accepted_not, accepted_same, refused_same}
use Rattle.meaning.proofs.Laws.Shape.{IsSum}
use Rattle.meaning.proofs.Laws.Terms.{some_there, put_same}
use Rattle.meaning.proofs.Laws.Reading.{at_last_length}
use Rattle.meaning.proofs.Laws.Decoding.{FittingRecord, decode_fits}
use Rattle.meaning.proofs.Laws.Encoding.{signed_named, half_16}
use Rattle.meaning.proofs.Laws.Appended.{term_sum, top_changed}
use Rattle.meaning.proofs.Laws.Described.{group_begun}
use Rattle.meaning.proofs.Laws.Readable.{not_leb}
use Rattle.meaning.proofs.Laws.Numbered.{lead_back}
use Rattle.meaning.proofs.Laws.Digits.{TakenTo, one_taken, known_term}
use Rattle.meaning.proofs.Laws.Swapped.{last_output, taken_latest, repeated_other, OnlyTerm, only_term, that_term}

-- the last output character is there, and a sum
abbrev Summing : Reading → Type 0
Summing s = (1 ≤ length (latest s).outputs) × IsSum (last_output (latest s).outputs)

-- a term taken in

module _ (s : Reading) (p a : ℕ) (summing : Summing s) where
  abbrev z : ℤ
  z = signed 16 a

  outputs_after : (latest (taken s (term p a))).outputs ≡ at_last (add_term p z) (latest s).outputs
  outputs_after = ap (λ g. g.outputs) (taken_latest s p a)

  last_after : last_output (latest (taken s (term p a))).outputs ≡ add_term p z (last_output (latest s).outputs)
  last_after = ap last_output outputs_after ∙ last_at_last (add_term p z) (sum (pos 0) []) (latest s).outputs summing.0

  summing_after : Summing (taken s (term p a))
  summing_after = (
    subst (λ os. 1 ≤ length os) (sym outputs_after) (rw at_last_length summing.0),
    subst IsSum (sym last_after) (term_sum p z (last_output (latest s).outputs) summing.1),
  )

  repeated_now : 1 ≤ a → a < 65536 → repeated (taken s (term p a)) p ≡ true
  unfolding repeated
  repeated_now low high =
      ap (λ o. not (eqb (nat_abs (coefficient_at o p)) 0)) last_after ∙ of_T _ (there (last_output (latest s).outputs) summing.1)
    where
      there : (o : Output) → IsSum o → T (not (eqb (nat_abs (coefficient_at (add_term p z o) p)) 0))
      there (sum c ks) i = rw (put_same p z ks) (some_there z (signed_named 16 half_16 a high low))
      there (digit r shift) i = absurd i

  repeated_after : 1 ≤ a → a < 65536 → (q : ℕ) → repeated (taken s (term p a)) q ≡ repeated s q || eqb p q
  repeated_after low high q =
      elim (ℕ_discrete p q) [
        | yes e ↦ ap (repeated (taken s (term p a))) (sym e) ∙ repeated_now low high ∙ sym (ap (λ b. repeated s q || b) (of_T (eqb p q) (subst (λ k. T (eqb p k)) e (eqb_refl p))) ∙ or-true (repeated s q))
        | no n ↦ repeated_other s p a q n ∙ sym (ap (λ b. repeated s q || b) (of_not (eqb p q) (ne→neqb p q n)) ∙ or-false (repeated s q))
      ]

-- the first of some records that are all taken in, and the rest
first_taken : (e more : List ℕ) (m : ℕ) (s s' : Reading) → length e ≡ 8 → read_records (suc m) (e ++ more) s ≡ accepted s' →
    (x : Record) × (decode e ≡ Some x) × T (not (misplaced s x)) × (read_records m more (taken s x) ≡ accepted s')
unfolding read_records read_one and_then
first_taken e more m s s' l h = go (decode e) refl (subst (λ d. and_then (read_one s (decode d)) (λ r. read_records m (drop 8 (e ++ more)) r) ≡ accepted s') (take_at e more 8 l) h)
  where
    go : (o : Option Record) → decode e ≡ o → and_then (read_one s o) (λ r. read_records m (drop 8 (e ++ more)) r) ≡ accepted s' →
        (x : Record) × (decode e ≡ Some x) × T (not (misplaced s x)) × (read_records m more (taken s x) ≡ accepted s')
    go None q k = absurd (refused_not 2 s' k)
    go (Some x) q k =
        by_then (λ o. o ≡ accepted s' → (x : Record) × (decode e ≡ Some x) × T (not (misplaced s x)) × (read_records m more (taken s x) ≡ accepted s'))
        (read_one s (Some x)) (λ r. read_records m (drop 8 (e ++ more)) r)
        (λ n _ j. absurd (refused_not n s' j))
        (λ r i j.
        let t : TakenTo s x r = one_taken s r x i in
        (x, q, t.0, ap (λ d. read_records m d (taken s x)) (sym (drop_at e more 8 l)) ∙ ap (read_records m (drop 8 (e ++ more))) (sym t.1) ∙ j)) k

-- terms in turn
terms_length : (xs : List Term) → length (flat_map term_record xs) ≡ 8 * length xs
unfolding little_endian
terms_length [] = refl
terms_length (x ∷ xs) = length-append (term_record x) (flat_map term_record xs) ∙ omega (arith, terms_length xs)

terms_named : (xs : List Term) (s s' : Reading) → Summing s → T (eqb s.kind 3 || eqb s.kind 4) → Bytes (flat_map term_record xs) →
    read_records (length xs) (flat_map term_record xs) s ≡ accepted s' →
    T (eqb s'.kind 3 || eqb s'.kind 4) × ((q : ℕ) → repeated s' q ≡ repeated s q || any (λ y. eqb y.position q) xs)
unfolding read_records little_endian taken
terms_named [] s s' summing kind b e =
    let same : s ≡ s' = accepted_same s s' e in
    subst (λ r. T (eqb r.kind 3 || eqb r.kind 4) × ((q : ℕ) → repeated r q ≡ repeated s q || false)) same (kind, λ q. sym (or-false (repeated s q)))
terms_named (x ∷ xs) s s' summing kind b e =
    let rest = flat_map term_record xs in
    let here = first_taken (term_record x) rest (length xs) s s' refl e in
    let bytes : Bytes (term_record x) = each_front (λ n. n < 256) (term_record x) rest b in
    let t = that_term x.position here.0 (subst (OnlyTerm x.position) here.1 (only_term (term_record x) refl)) in
    let fits = subst FittingRecord t.1 (decode_fits (term_record x) bytes here.0 here.1) in
    let next = taken s (term x.position t.0) in
    let on = terms_named xs next s' (summing_after s x.position t.0 summing) tt (each_back (λ n. n < 256) (term_record x) rest b)
    (subst (λ r. read_records (length xs) rest (taken s r) ≡ accepted s') t.1 here.3) in (
      on.0,
      λ q.
          on.1 q
          ∙ ap (λ c. c || any (λ y. eqb y.position q) xs) (repeated_after s x.position t.0 summing fits.1 fits.2 q)
          ∙ or_assoc (repeated s q) (eqb x.position q) (any (λ y. eqb y.position q) xs),
    )

-- an output character begins without terms

kind_3 : (c : ℤ) → (k : ℕ) × (decode (output_record c) ≡ Some (output k))
unfolding little_endian decode select all_of
kind_3 c = (_, refl)

output_taken : (c : ℤ) (s s' : Reading) → read_records 1 (output_record c) s ≡ accepted s' → (k : ℕ) × TakenTo s (output k) s'
unfolding little_endian read_records
output_taken c s s' e =
    let k = kind_3 c in (
      k.0,
      by_then (λ o. o ≡ accepted s' → TakenTo s (output k.0) s') (read_one s (decode (output_record c))) accepted
          (λ n _ q. absurd (refused_not n s' q))
          (λ r f q. one_taken s s' (output k.0) (sym (ap (read_one s) k.1) ∙ f ∙ q)) e,
    )

record Begins (s : Reading) : Type 0 where
  summing : Summing s
  kind : T (eqb s.kind 3 || eqb s.kind 4)
  none_named : (q : ℕ) → repeated s q ≡ false

output_begins : (b : List ℕ) (c : ℤ) (s : Reading) → Bytes b → LeadTo (b ++ output_record c) s → Begins s
unfolding little_endian latest misplaced taken repeated
output_begins b c s bytes lead =
    let back = lead_back b (output_record c) 1 s refl lead in
    let before = back.0 in
    let on = output_taken c before s back.2 in
    let o : Output = sum (signed 32 on.0) [] in
    let change = change_outputs (λ os. os ++ (o ∷ [])) in
    let begun = group_begun b before bytes back.1.0 back.1.1 (neqb→ne before.kind 0 on.1.0) in
    let added : (latest s).outputs ≡ (latest before).outputs ++ (o ∷ []) =
    ap (λ r. (latest r).outputs) on.1.1 ∙ ap (λ g. g.outputs) (top_changed change before.table.rules before.table.default before.table.mark begun) in
    let last : last_output (latest s).outputs ≡ o = ap last_output added ∙ last_d_snoc (sum (pos 0) []) (latest before).outputs o in
    record {
      summing = (subst (λ os. 1 ≤ length os) (sym added) (rw length-append (omega arith)), subst IsSum (sym last) tt);
      kind = subst (λ r. T (eqb r.kind 3 || eqb r.kind 4)) (sym on.1.1) tt;
      none_named = λ q. ap (λ o. not (eqb (nat_abs (coefficient_at o q)) 0)) last;
    }

-- ONE MORE TERM IS REFUSED EXACTLY IF ITS POSITION WAS NAMED

one_more_term : (s : Reading) (p a : ℕ) → T (eqb s.kind 3 || eqb s.kind 4) → p < (latest s).size → (n : ℕ) →
    (read_one s (Some (term p a)) ≡ refused n) ↔ ((n ≡ 3) × T (repeated s p))
unfolding read_one misplaced skipping too_many
one_more_term s p a kind below n = (
  by_cases (λ o. o ≡ refused n → (n ≡ 3) × T (repeated s p)) _ (accepted (taken s (term p a))) (
    λ t e. (sym (refused_same 3 n e), only (eqb s.kind 3 || eqb s.kind 4) (leb (latest s).size p) (repeated s p) kind (not_leb (latest s).size p below) t),
    λ _. (λ t. absurd t, λ _. (λ t. absurd t, λ _ e. absurd (accepted_not _ n e))),
  ),
  λ h. select_here (refused 3) _ _ (of_T _ (or_right (not (eqb s.kind 3 || eqb s.kind 4) || leb (latest s).size p) (repeated s p) h.1)) ∙ ap refused (sym h.0),
)
  where
    only : (a b c : Bool) → T a → T (not b) → T (not a || b || c) → T c
    only true true c x y z = absurd y
    only true false c x y z = z
    only false b c x y z = absurd x

pub only_repeated : (b : List ℕ) (c : ℤ) (xs : List Term) (s : Reading) → Bytes (b ++ output_record c ++ flat_map term_record xs) →
    LeadTo (b ++ output_record c ++ flat_map term_record xs) s →
    (x : Term) → Known (term_record x) → x.position < (latest s).size → (n : ℕ) →
    (read_one s (decode (term_record x)) ≡ refused n) ↔ ((n ≡ 3) × T (any (λ y. eqb y.position x.position) xs))
unfolding little_endian
only_repeated b c xs s bytes lead x known below n =
    let rest = flat_map term_record xs in
    let back = lead_back (b ++ output_record c) rest (length xs) s (terms_length xs) lead in
    let front : Bytes (b ++ output_record c) = each_front (λ n. n < 256) (b ++ output_record c) rest bytes in
    let begins = output_begins b c back.0 (each_front (λ n. n < 256) b (output_record c) front) back.1 in
    let after = terms_named xs back.0 s begins.summing begins.kind (each_back (λ n. n < 256) (b ++ output_record c) rest bytes) back.2 in
    let named : repeated s x.position ≡ any (λ y. eqb y.position x.position) xs =
    after.1 x.position ∙ ap (λ d. d || any (λ y. eqb y.position x.position) xs) (begins.none_named x.position) in
    let t = known_term known refl in
    let place : t.0 ≡ x.position = subst (OnlyTerm x.position) t.2 (only_term (term_record x) refl) in
    rw (t.2, place, sym named) (one_more_term s x.position t.1 after.0 below n)
