-- A record of the table check as it is run: refused alike, or taken in with the summary and the array of the table as it then is.
-- The tests are those of the definition; what each kind of record changes is shown in `TakenGroup`, `TakenRange`, `TakenOutput`,
-- `TakenDigit` and `TakenTerm`.
use Rattle.std.proofs.Common.{◌≡◌, ℕ, suc, ◌+◌, ◌≤◌, Bool, true, false, not, ◌&&◌, ◌||◌, T, eqb, ltb, leb, List, [], ◌∷◌, length, pos, refl, ap, ◌∙◌, ap₂, arith, eqb→eq}
use Rattle.std.specs.Prelude.{Some}
use Rattle.lists.specs.Lists.{Each, last_d}
use Rattle.lists.specs.Decide.{select}
use Rattle.meaning.specs.Refusal.{Outcome, refused, accepted}
use Rattle.meaning.specs.Table.{Range, sum}
use Rattle.meaning.specs.Record.{Record, rule, range, output, term, default, hexadecimal}
use Rattle.meaning.specs.Reader.{Reading, latest, repeated, ranging, unfilled, misplaced, skipping, too_many, taken, read_one}
use Rattle.rules.specs.bridge.Summary.{ranges_read, is_named, next, admit, loaded_by}
use Rattle.meaning.specs.bridge.Flat.{loaded_words}
use Rattle.rules.specs.declared.reader.Reader.{Reader}
use Rattle.meaning.proofs.Laws.Seven.{FilledPosition}
use Rattle.rules.proofs.Laws.Positions.{output_named}
use Rattle.rules.proofs.Laws.Represents.{latest_of, summary, summary_defaulted, Read, each_last, latest_begun}
use Rattle.meaning.proofs.Laws.Decoding.{FittingRecord}
use Rattle.rules.proofs.Laws.Taken.{Taken}
use Rattle.rules.proofs.Laws.TakenGroup.{rule_taken, default_taken}
use Rattle.rules.proofs.Laws.TakenRange.{range_taken}
use Rattle.rules.proofs.Laws.TakenOutput.{output_taken}
use Rattle.rules.proofs.Laws.TakenDigit.{digit_taken}
use Rattle.rules.proofs.Laws.TakenTerm.{term_taken}

-- what the check as run says, beside what the definition says
abbrev pub Alike : Reading → Record → Outcome Reader → Outcome Reading → Type 0
Alike s x o (refused k) = o ≡ refused k
Alike s x o (accepted s') = (o ≡ accepted (summary s')) × (loaded_by (summary s) x (loaded_words s.table) ≡ loaded_words s'.table) × Read s'

abbrev pub Right : Reading → Record → Outcome Reading → Type 0
Right s x o = Alike s x (admit (summary s) x) o

decided : (s : Reading) (x : Record) (a b c a' b' c' : Bool) → a ≡ a' → b ≡ b' → c ≡ c' → (T (not a') → T (not b') → T (not c') → Taken s x) →
    Alike s x (select ((a, refused 3) ∷ (b, refused 4) ∷ (c, refused 6) ∷ []) (accepted (next (summary s) x)))
    (select ((a', refused 3) ∷ (b', refused 4) ∷ (c', refused 6) ∷ []) (accepted (taken s x)))
unfolding select
decided s x a b c true b' c' p q r f = ap (λ a. select ((a, refused 3) ∷ (b, refused 4) ∷ (c, refused 6) ∷ []) (accepted (next (summary s) x))) p
decided s x a b c false true c' p q r f = ap₂ (λ a b. select ((a, refused 3) ∷ (b, refused 4) ∷ (c, refused 6) ∷ []) (accepted (next (summary s) x))) p q
decided s x a b c false false true p q r f = λ i. select ((p i, refused 3) ∷ (q i, refused 4) ∷ (r i, refused 6) ∷ []) (accepted (next (summary s) x))
decided s x a b c false false false p q r f =
    let h = f tt tt tt in
    let e : select ((a, refused 3) ∷ (b, refused 4) ∷ (c, refused 6) ∷ []) (accepted (next (summary s) x)) ≡ accepted (next (summary s) x) = λ i. select ((p i, refused 3) ∷ (q i, refused 4) ∷ (r i, refused 6) ∷ []) (accepted (next (summary s) x)) in
    (e ∙ ap accepted h.0, h.1, h.2)

-- where the tests are the same
alike : (s : Reading) (x : Record) → (T (not (misplaced s x)) → T (not (skipping s x)) → T (not (too_many s x)) → Taken s x) →
    Alike s x (select ((misplaced s x, refused 3) ∷ (skipping s x, refused 4) ∷ (too_many s x, refused 6) ∷ []) (accepted (next (summary s) x))) (read_one s (Some x))
unfolding read_one
alike s x f = decided s x (misplaced s x) (skipping s x) (too_many s x) (misplaced s x) (skipping s x) (too_many s x) refl refl refl f

and_same : (a x y : Bool) → (T a → x ≡ y) → a && x ≡ a && y
and_same true x y f = f tt
and_same false x y f = refl

-- the last range of positions that are filled
last_range : (r q : Range) (ps : List (List Range)) → 1 ≤ length ps → Each FilledPosition ps → (last_d q (last_d [] ps)).highest ≡ (last_d r (last_d [] ps)).highest
last_range r q [] h a = absurd (omega arith)
last_range r q (x ∷ xs) h a = go (last_d x xs) (each_last FilledPosition x xs a.0 a.1)
  where
    go : (rs : List Range) → FilledPosition rs → (last_d q rs).highest ≡ (last_d r rs).highest
    go [] f = absurd f
    go (y ∷ ys) f = refl

range_misplaced_lem : (s : Reading) (p : ℕ) (r : Range) → Read s →
    (not (ranges_read (summary s)) || leb (summary s).last.size p || ltb (p + 1) (summary s).last.positions || (eqb (p + 1) (summary s).last.positions && leb r.lowest (summary s).last.highest))
    ≡ misplaced s (range p r)
unfolding misplaced latest
range_misplaced_lem s p r h =
    let g = latest_of s.table in
    let ps = g.ranges in
    let x = (summary s).last.highest in
    let y = (last_d r (last_d [] ps)).highest in
    let one : p + 1 ≡ suc p = omega arith in
    ap (λ q. not (ranging s) || leb g.size p || ltb q (length ps) || (eqb q (length ps) && leb r.lowest x)) one
    ∙ ap (λ b. not (ranging s) || leb g.size p || ltb (suc p) (length ps) || b)
    (and_same (eqb (suc p) (length ps)) (leb r.lowest x) (leb r.lowest y)
    (λ t. let e : suc p ≡ length ps = eqb→eq (suc p) (length ps) t in
    ap (leb r.lowest) (last_range r (record { lowest = 0; highest = 0 }) ps (omega arith) (latest_begun s h).filled)))

term_misplaced_lem : (s : Reading) (p a : ℕ) →
    (not (eqb s.kind 3 || eqb s.kind 4) || leb (summary s).last.size p || is_named (summary s).last.named p) ≡ misplaced s (term p a)
unfolding misplaced latest repeated
term_misplaced_lem s p a =
    let g = latest_of s.table in
    ap (λ b. not (eqb s.kind 3 || eqb s.kind 4) || leb g.size p || b) (output_named (last_d (sum (pos 0) []) g.outputs) p)

pub admit_right : (s : Reading) (x : Record) → Read s → FittingRecord x → Right s x (read_one s (Some x))
unfolding read_one admit misplaced skipping too_many unfilled latest repeated select
admit_right s (rule k a) h f =
    decided s (rule k a) _ (skipping s (rule k a)) (too_many s (rule k a)) (misplaced s (rule k a)) (skipping s (rule k a)) (too_many s (rule k a)) (summary_defaulted s) refl refl
    (rule_taken s k a h f)
admit_right s (range p r) h f =
    let one : p + 1 ≡ suc p = omega arith in
    let ps = (latest_of s.table).ranges in
    decided s (range p r) _ (skipping s (range p r)) _ (misplaced s (range p r)) (skipping s (range p r)) (too_many s (range p r)) (range_misplaced_lem s p r h) refl
    (ap (λ q. eqb q (length ps) && eqb (length (last_d [] ps)) 4) one) (range_taken s p r h f)
admit_right s (output c) h f = alike s (output c) (output_taken s c h f)
admit_right s (term p a) h f =
    decided s (term p a) _ (skipping s (term p a)) (too_many s (term p a)) (misplaced s (term p a)) (skipping s (term p a)) (too_many s (term p a)) (term_misplaced_lem s p a) refl refl
    (term_taken s p a h f)
admit_right s (default k) h f =
    decided s (default k) _ (skipping s (default k)) (too_many s (default k)) (misplaced s (default k)) (skipping s (default k)) (too_many s (default k)) (summary_defaulted s) refl refl
    (default_taken s k h)
admit_right s (hexadecimal p shift) h f = alike s (hexadecimal p shift) (digit_taken s p shift h f)
