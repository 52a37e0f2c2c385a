-- What taking in records leads to: a reading that is known, unless 2, 3 or 6 refuses one of them.
-- Records one after another are taken in where those before led; a record that changes the group read last leads to the group so changed.
use mathlib.Core.Bool.{not, ◌||◌}
use mathlib.Core.List.{List, [], ◌∷◌, ◌++◌}
use Rattle.std.specs.Prelude.{Option, None, Some}
use mathlib.Core.Path.{◌≡◌, refl, sym, subst, ◌∙◌}
use Prim.Native.Nat.{ℕ, zero, suc, ◌+◌, ◌*◌, ◌-◌}
use native.Mathlib.Omega.{arith}
use lib.Dec.{T, T_not, eqb, ltb}
use lib.ListN.{length, length-append}
use lib.Seq.{take_all}
use Rattle.lists.proofs.Laws.Tests.{by_cases}
use Rattle.meaning.specs.Refusal.{Outcome, refused, accepted, and_then}
use Rattle.meaning.specs.Table.{Group, Mark}
use Rattle.meaning.specs.Record.{Record, decode}
use Rattle.meaning.specs.Reader.{Reading, unfilled, misplaced, skipping, change_latest, taken, read_one, read_records}
use Rattle.meaning.proofs.Laws.Refusal.{Says}
use Rattle.meaning.proofs.Laws.Numbered.{records_on}
use Rattle.meaning.proofs.Laws.Readable.{not_both, not_ltb, holding, at, latest_at, change_at}
use Rattle.typed.proofs.Laws.Bytes.{Whole}

-- the records of b, taken in from s, lead to a reading with P, or one is refused, and not by 4
abbrev pub Goes : Reading → List ℕ → (Reading → Type 0) → Type 0
Goes s b P = (n : ℕ) → length b ≡ 8 * n → Says (2 ∷ 3 ∷ 6 ∷ []) P (read_records n b s)

pub goes_nowhere : (P : Reading → Type 0) (s : Reading) → P s → Goes s [] P
unfolding read_records
goes_nowhere P s h zero l = h
goes_nowhere P s h (suc n) l = absurd (omega arith)

pub goes_on : (P Q : Reading → Type 0) (s : Reading) (b c : List ℕ) → Whole b → Goes s b P → ((r : Reading) → P r → Goes r c Q) → Goes s (b ++ c) Q
unfolding and_then
goes_on P Q s b c w h k n l =
    let m = w.0 in
    let here : length b ≡ 8 * m = w.1 in
    let both = length-append b c in
    let rest : m + (n - m) ≡ n = omega arith in
    let later : length c ≡ 8 * (n - m) = omega arith in
    subst (λ i. Says (2 ∷ 3 ∷ 6 ∷ []) Q (read_records i (b ++ c) s)) rest
    (subst (Says (2 ∷ 3 ∷ 6 ∷ []) Q) (sym (records_on m b s here (n - m) c)) (go (n - m) later (read_records m b s) (h m here)))
  where
    go : (i : ℕ) → length c ≡ 8 * i → (o : Outcome Reading) → Says (2 ∷ 3 ∷ 6 ∷ []) P o → Says (2 ∷ 3 ∷ 6 ∷ []) Q (and_then o (λ r. read_records i c r))
    go i e (refused j) t = t
    go i e (accepted r) p = k r p i e

pub goes_so : (P Q : Reading → Type 0) (s : Reading) (b : List ℕ) → ((r : Reading) → P r → Q r) → Goes s b P → Goes s b Q
goes_so P Q s b f h n l = go (read_records n b s) (h n l)
  where
    go : (o : Outcome Reading) → Says (2 ∷ 3 ∷ 6 ∷ []) P o → Says (2 ∷ 3 ∷ 6 ∷ []) Q o
    go (refused j) t = t
    go (accepted r) p = f r p

-- one record: where it may come nothing is skipped, and it leads to the reading with it taken in
pub goes_one : (P : Reading → Type 0) (s : Reading) (b : List ℕ) (x : Record) → length b ≡ 8 → ((y : Record) → decode b ≡ Some y → x ≡ y) →
    (T (not (misplaced s x)) → T (not (skipping s x)) × P (taken s x)) → Goes s b P
unfolding read_records read_one and_then
goes_one P s b x e f h zero l = absurd (omega arith)
goes_one P s b x e f h (suc (suc n)) l = absurd (omega arith)
goes_one P s b x e f h (suc zero) l = rw (take_all 8 b (omega arith)) (go (decode b) f)
  where
    go : (o : Option Record) → ((y : Record) → o ≡ Some y → x ≡ y) → Says (2 ∷ 3 ∷ 6 ∷ []) P (and_then (read_one s o) (λ r. accepted r))
    go None g = tt
    go (Some y) g =
        subst (λ z. Says (2 ∷ 3 ∷ 6 ∷ []) P (and_then (read_one s (Some z)) (λ r. accepted r))) (g y refl)
        (by_cases (λ o. Says (2 ∷ 3 ∷ 6 ∷ []) P (and_then o (λ r. accepted r))) _ (accepted (taken s x)) (
          λ _. tt,
          λ m. (λ u. absurd (T_not (skipping s x) (h m).0 u), λ _. (λ _. tt, λ _. (h m).1)),
        ))

-- a reading whose last group is known, whatever its kind
pub by_table : (P : Reading → Type 0) (d : Option Mark) (gs : List Group) (g : Group) → ((kind : ℕ) → P (at d gs g kind)) → (s : Reading) → s.table ≡ holding d gs g → P s
by_table P d gs g h s e = subst P (λ i. record { table = sym e i; kind = s.kind }) (h s.kind)

pub filled : (d : Option Mark) (gs : List Group) (g : Group) → length g.ranges ≡ g.size → (kind : ℕ) → T (not (unfilled (at d gs g kind)))
unfolding unfilled
filled d gs g e kind = rw latest_at (not_both (eqb kind 1 || eqb kind 2) (ltb (length g.ranges) g.size) (λ _. not_ltb (length g.ranges) g.size (omega arith)))

-- the records of b lead from the last group g to the last group h
abbrev pub Leads : Option Mark → List Group → Group → List ℕ → Group → Type 0
Leads d gs g b h = (s : Reading) → s.table ≡ holding d gs g → Goes s b (λ r. r.table ≡ holding d gs h)

module _ (d : Option Mark) (gs : List Group) where
  pub leads_nowhere : (g : Group) → Leads d gs g [] g
  leads_nowhere g s e = goes_nowhere (λ r. r.table ≡ holding d gs g) s e

  pub leads_on : (g h i : Group) (b c : List ℕ) → Whole b → Leads d gs g b h → Leads d gs h c i → Leads d gs g (b ++ c) i
  leads_on g h i b c w l m s e = goes_on (λ r. r.table ≡ holding d gs h) (λ r. r.table ≡ holding d gs i) s b c w (l s e) m

  -- one record, by which the last group is changed
  pub leads_one : (f : Group → Group) (g : Group) (b : List ℕ) (x : Record) → length b ≡ 8 → ((y : Record) → decode b ≡ Some y → x ≡ y) →
      ((s : Reading) → (taken s x).table ≡ change_latest f s.table) → ((kind : ℕ) → T (not (skipping (at d gs g kind) x))) → Leads d gs g b (f g)
  leads_one f g b x l e c n =
      by_table (λ s. Goes s b (λ r. r.table ≡ holding d gs (f g))) d gs g
      (λ kind. goes_one (λ r. r.table ≡ holding d gs (f g)) (at d gs g kind) b x l e (λ _. (n kind, c (at d gs g kind) ∙ change_at f d gs g)))
