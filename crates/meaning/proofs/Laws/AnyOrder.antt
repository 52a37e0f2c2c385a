-- Request [7]'s sentences hold of the definitions: tables that differ only in the order of terms are read alike, and inputs converted alike.
-- Neighbouring terms may change places (`Swapped`), and so may any number of them, one pair after another.
use mathlib.Core.Bool.{Bool, true, false, not}
use mathlib.Core.List.{List, [], ◌∷◌}
use mathlib.Core.Path.{◌≡◌, refl, sym, ap, subst, ◌∙◌, fun_ext}
use Prim.Native.Nat.{ℕ, zero, suc, ◌*◌, ◌/◌, ◌%◌, ◌<◌}
use lib.Dec.{eqb, ltb}
use lib.ListN.{length, take, drop, take-append-drop}
use Rattle.lists.specs.Lists.{Each, tab_from}
use Rattle.lists.specs.Decide.{select}
use Rattle.lists.specs.Reordered.{Reordered, none, kept, swapped, joined}
use Rattle.lists.proofs.Laws.Each.{each_front, each_back}
use Rattle.lists.proofs.Laws.Sets.{tab_shift, each_tab}
use Rattle.lists.proofs.Laws.Reordered.{reordered_sym, reordered_each}
use Rattle.meaning.specs.Refusal.{Outcome, refused, accepted, and_then}
use Rattle.meaning.specs.Table.{Table, expansion}
use Rattle.meaning.specs.Value.{safe}
use Rattle.meaning.specs.Record.{decode}
use Rattle.meaning.specs.Records.{Bytes, record_at}
use Rattle.meaning.specs.Reader.{Reading, unread, read_one, read_records, read_end, read_rules, read_table}
use Rattle.meaning.specs.Direct.{limit, Converted, admitted, direct_by, direct}
use Rattle.meaning.specs.AnyOrder.{IsTerm, DifferInTerms, ReadAlike, TermsInAnyOrder}
use Rattle.meaning.specs.Samples.{t1, t1_turned, t1_twice}
use Rattle.meaning.proofs.Laws.Opened.{rules_opened}
use Rattle.meaning.proofs.Laws.Refusal.{refused_not}
use Rattle.meaning.proofs.Laws.Decoding.{decode_fits}
use Rattle.meaning.proofs.Laws.Numbered.{record_next}
use Rattle.meaning.proofs.Laws.Repeated.{only_repeated}
use Rattle.meaning.proofs.Laws.Swapped.{only_term, swap_records}

-- what goes on from outcomes that are accepted alike

abbrev pub Passes : {A : Type 0} → Outcome A → Outcome A → Type 0
Passes {A} o o' = (a : A) → o ≡ accepted a → o' ≡ accepted a

pub then_passes : {A B : Type 0} (o o' : Outcome A) → Passes o o' → (f : A → Outcome B) → Passes (and_then o f) (and_then o' f)
unfolding and_then
then_passes (refused n) o' h f b e = absurd (refused_not n b e)
then_passes (accepted a) o' h f b e = rw (h a refl) e

goes_passes : {A B : Type 0} (o : Outcome A) (f g : A → Outcome B) → ((a : A) → Passes (f a) (g a)) → Passes (and_then o f) (and_then o g)
unfolding and_then
goes_passes (refused n) f g h b e = absurd (refused_not n b e)
goes_passes (accepted a) f g h b e = h a b e

test_passes : {A : Type 0} (x y : Bool) (n : ℕ) (o o' : Outcome A) → x ≡ y → Passes o o' → Passes (select ((x, refused n) ∷ []) o) (select ((y, refused n) ∷ []) o')
unfolding select
test_passes true y n o o' q h a e = absurd (refused_not n a e)
test_passes false y n o o' q h a e = rw (sym q) (h a e)

-- a list of records

read_all_lem : List (List ℕ) → Reading → Outcome Reading
read_all_lem [] s = accepted s
read_all_lem (x ∷ xs) s = and_then (read_one s (decode x)) (λ s'. read_all_lem xs s')

read_all : (n : ℕ) (b : List ℕ) (s : Reading) → read_records n b s ≡ read_all_lem (tab_from 0 n (record_at b)) s
unfolding read_records read_all_lem
read_all zero b s = refl
read_all (suc n) b s =
    let rest : tab_from 0 n (record_at (drop 8 b)) ≡ tab_from 1 n (record_at b) = ap (tab_from 0 n) (fun_ext (record_next b)) ∙ sym (tab_shift (record_at b) 0 n) in
    ap (and_then (read_one s (decode (take 8 b)))) (fun_ext (λ s'. read_all n (drop 8 b) s' ∙ ap (λ xs. read_all_lem xs s') rest))

reordered_read : {xs ys : List (List ℕ)} → Reordered IsTerm xs ys → Each Bytes xs → (s : Reading) → Passes (read_all_lem xs s) (read_all_lem ys s)
unfolding read_all_lem
reordered_read none b s z e = e
reordered_read (kept {x = x} {xs = xs} {ys = ys} r) b s z e =
    goes_passes (read_one s (decode x)) (λ s'. read_all_lem xs s') (λ s'. read_all_lem ys s') (λ s' z'. reordered_read r b.1 s' z') z e
reordered_read (swapped {x = x} {y = y} {xs = xs} i j) b s z e =
    swap_records s (λ s'. read_all_lem xs s') z _ _ (decode x) (decode y) (only_term x i) (only_term y j) (λ r k. decode_fits x b.0 r k) e
reordered_read (joined r q) b s z e = reordered_read q (reordered_each Bytes r b) s z (reordered_read r b s z e)

record_bytes : (b : List ℕ) → Bytes b → (i : ℕ) → Bytes (record_at b i)
record_bytes b e i =
    let behind : Bytes (drop (8 * i) b) = each_back (λ x. x < 256) (take (8 * i) b) (drop (8 * i) b) (subst Bytes (sym (take-append-drop (8 * i) b)) e) in
    each_front (λ x. x < 256) (record_at b i) (drop 8 (drop (8 * i) b)) (subst Bytes (sym (take-append-drop 8 (drop (8 * i) b))) behind)

-- tables

table_passes : (b c : List ℕ) → Bytes b → DifferInTerms b c → Passes (read_table b) (read_table c)
unfolding read_table read_rules
table_passes b c e d =
    let n = length b / 8 in
    let m = length c / 8 in
    then_passes _ _
    (test_passes (not (eqb (length b % 8) 0)) (not (eqb (length c % 8) 0)) 1 _ _ (ap (λ i. not (eqb (i % 8) 0)) d.lengths)
    (then_passes (read_records n b unread) (read_records m c unread)
    (λ s k. read_all m c unread ∙ reordered_read d.terms (each_tab (record_at b) Bytes (record_bytes b e) 0 n) unread s (sym (read_all n b unread) ∙ k)) read_end))
    (λ t. select ((not (safe t), refused 7) ∷ []) (accepted t))

-- direct conversion, by what it is admitted with

direct_alike : (o o' : Outcome Table) → Passes o o' → Passes o' o → (input buffer : List ℕ) →
    ((direct_by o input buffer).output ≡ (direct_by o' input buffer).output)
    × ((a : Converted) → (direct_by o input buffer).answer ≡ accepted a → (direct_by o' input buffer).answer ≡ accepted a)
direct_alike (accepted t) o' f g input buffer = rw (f t refl) (refl, λ a k. k)
direct_alike (refused n) (accepted t) f g input buffer = absurd (refused_not n t (g t refl))
direct_alike (refused n) (refused m) f g input buffer = (refl, λ a k. absurd (refused_not n a k))

-- TABLES THAT DIFFER ONLY IN THE ORDER OF TERMS ARE READ ALIKE.
pub read_alike : (b c : List ℕ) → Bytes b → Bytes c → DifferInTerms b c → ReadAlike b c
unfolding direct admitted
read_alike b c e e' d =
    let there = table_passes b c e d in
    let back = table_passes c b e' (record { lengths = sym d.lengths; terms = reordered_sym d.terms }) in
    record {
      table = λ t. (there t, back t);
      answer = λ input buffer a. (
        (direct_alike _ _ (then_passes _ _ there (room input buffer)) (then_passes _ _ back (room input buffer)) input buffer).1 a,
        (direct_alike _ _ (then_passes _ _ back (room input buffer)) (then_passes _ _ there (room input buffer)) input buffer).1 a,
      );
      output = λ input buffer. (direct_alike _ _ (then_passes _ _ there (room input buffer)) (then_passes _ _ back (room input buffer)) input buffer).0;
    }
  where
    room : List ℕ → List ℕ → Table → Outcome Table
    room input buffer t = select ((ltb limit (length input), refused 14) ∷ (ltb (length buffer) (expansion t * length input), refused 15) ∷ []) (accepted t)

-- T1 with its terms turned round is read to T1's table, and with a position twice, another between, it is refused by 3: computed

turned_read : read_table t1_turned ≡ read_table t1
unfolding rules_opened
turned_read = refl

twice_refused : read_table t1_twice ≡ refused 3
unfolding rules_opened
twice_refused = refl

pub terms_in_any_order : TermsInAnyOrder
terms_in_any_order = record { only_repeated = only_repeated; alike = read_alike; turned = turned_read; twice = twice_refused }
