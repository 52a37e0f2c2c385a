-- Taking in one record: the summary's numbers stay within their limits, the array keeps its length, and what is written has its place.
-- By the tests that the record has passed.
use Rattle.std.proofs.Common.{◌≡◌, ℕ, pred, ◌+◌, ◌<◌, ◌≤◌, Bool, true, false, not, ◌&&◌, ◌||◌, T, eqb, ltb, leb, ◌≢◌, List, length, sym, refl, ap, ◌∙◌, subst, true≢false, arith, eqb→eq, nltb→le, T_not, length-set, eq-eqb}
use Rattle.std.specs.Prelude.{Option, None, Some}
use borrow.Author.Tests.{eqb-false}
use lib.Dec.{nleb→lt}
use Rattle.lists.proofs.Laws.Tests.{of_not, not_not, or_none, or_cases, of_cond, by_cases, neqb→ne}
use Rattle.meaning.specs.Refusal.{Outcome, refused, accepted}
use Rattle.meaning.specs.Table.{Mark, unmarked, marked, present}
use Rattle.meaning.specs.Record.{Record, rule, range, output, term, default, hexadecimal}
use Rattle.rules.specs.bridge.Modes.{the_mode, marked_mode}
use Rattle.rules.specs.bridge.Summary.{defaulted, every_last, started, ranges_read, is_named, admit, group_number, slot_number, summed_to, loaded_by, afterwards, if_taken, FittingLast, Fitting}
use Rattle.rules.specs.declared.reader.Reader.{Reader}
use Rattle.rules.proofs.Laws.Positions.{named_more}

pub fails : (b : Bool) → b ≡ false → T (not b)
fails true e = absurd (true≢false e)
fails false e = tt

-- the array, which the record changes if it is admitted
pub kept : {o : Outcome Reader} {n : ℕ} (new old : List ℕ) → o ≡ refused n → old ≡ afterwards o new old
kept new old e = ap (λ x. afterwards x new old) (sym e)

pub changed : {o : Outcome Reader} {r : Reader} (new old : List ℕ) → o ≡ accepted r → new ≡ afterwards o new old
changed new old e = ap (λ x. afterwards x new old) (sym e)

-- it keeps its length

loaded_by_length : (r : Reader) (x : Record) (l : List ℕ) → length (loaded_by r x l) ≡ length l
loaded_by_length r (rule k a) l = simp length-set
loaded_by_length r (range p c) l = simp length-set
loaded_by_length r (output c) l = simp length-set
loaded_by_length r (term p a) l = simp length-set
loaded_by_length r (hexadecimal p shift) l = simp length-set
loaded_by_length r (default k) l = simp length-set

pub if_taken_length : (r : Reader) (x : Option Record) (l : List ℕ) → length (if_taken r x l) ≡ length l
if_taken_length r None l = refl
if_taken_length r (Some x) l = go (admit r x)
  where
    go : (o : Outcome Reader) → length (afterwards o (loaded_by r x l) l) ≡ length l
    go (refused n) = refl
    go (accepted r') = loaded_by_length r x l

-- a range that may come: of a rule, at one of its positions, the next or the last, and in one of four places there

abbrev pub range_misplaced : Reader → ℕ → ℕ → Bool
range_misplaced r p lowest =
    not (ranges_read r) || leb r.last.size p || ltb (p + 1) r.last.positions || (eqb (p + 1) r.last.positions && leb lowest r.last.highest)

abbrev pub position_full : Reader → ℕ → Bool
position_full r p = eqb (p + 1) r.last.positions && eqb r.last.slots 4

pub record RangeComes (r : Reader) (p : ℕ) : Type 0 where
  pub ranging : T (ranges_read r)
  pub inside : p < r.last.size
  pub next : r.last.positions ≤ p + 1

pub range_comes : (r : Reader) (p lowest : ℕ) → T (not (range_misplaced r p lowest)) → RangeComes r p
range_comes r p lowest h =
    let a = not (ranges_read r) in
    let b = leb r.last.size p in
    let c = ltb (p + 1) r.last.positions in
    let t = or_none (a || b) c (or_none (a || b || c) (eqb (p + 1) r.last.positions && leb lowest r.last.highest) h).0 in
    let u = or_none a b t.0 in
    record { ranging = not_not (ranges_read r) u.0; inside = nleb→lt r.last.size p u.1; next = nltb→le (p + 1) r.last.positions t.1 }

pub slot_free : (r : Reader) (p : ℕ) → r.last.slots ≤ 4 → r.last.positions ≤ p + 1 → p ≤ r.last.positions → position_full r p ≡ false → slot_number r p < 4
slot_free r p s n m e =
    of_cond (λ k. k < 4) (eqb p r.last.positions) 0 r.last.slots (λ _. omega arith) (λ t. few (neqb→ne p r.last.positions t))
  where
    few : p ≢ r.last.positions → r.last.slots < 4
    few d =
        let last : p + 1 ≡ r.last.positions = omega arith in
        let four : eqb r.last.slots 4 ≡ false = subst (λ b. b && eqb r.last.slots 4 ≡ false) (eq-eqb (p + 1) r.last.positions last) e in
        let other : r.last.slots ≢ 4 = eqb-false r.last.slots 4 four in
        omega arith

-- a term that may come: after an output character or a term, at a position of the group that no term has named

abbrev pub term_misplaced : Reader → ℕ → Bool
term_misplaced r p = not (eqb r.kind 3 || eqb r.kind 4) || leb r.last.size p || is_named r.last.named p

pub record TermComes (r : Reader) (p : ℕ) : Type 0 where
  pub writing : T (eqb r.kind 3 || eqb r.kind 4)
  pub begun : T (not (eqb r.kind 0))
  pub inside : p < r.last.size
  pub new : is_named r.last.named p ≡ false

pub term_comes : (r : Reader) (p : ℕ) → T (not (term_misplaced r p)) → TermComes r p
term_comes r p h =
    let kinds = eqb r.kind 3 || eqb r.kind 4 in
    let v = or_none (not kinds || leb r.last.size p) (is_named r.last.named p) h in
    let u = or_none (not kinds) (leb r.last.size p) v.0 in
    let t = not_not kinds u.0 in
    record {
      writing = t;
      begun =
          or_cases (eqb r.kind 3) (eqb r.kind 4) t
          (λ e. subst (λ k. T (not (eqb k 0))) (sym (eqb→eq r.kind 3 e)) tt)
          (λ e. subst (λ k. T (not (eqb k 0))) (sym (eqb→eq r.kind 4 e)) tt);
      inside = nleb→lt r.last.size p u.1;
      new = of_not (is_named r.last.named p) v.1;
    }

-- a digit that may come: of a group that has begun, at one of its positions

abbrev pub digit_misplaced : Reader → ℕ → Bool
digit_misplaced r p = eqb r.kind 0 || leb r.last.size p

pub record DigitComes (r : Reader) (p : ℕ) : Type 0 where
  pub begun : T (not (eqb r.kind 0))
  pub inside : p < r.last.size

pub digit_comes : (r : Reader) (p : ℕ) → T (not (digit_misplaced r p)) → DigitComes r p
digit_comes r p h =
    let u = or_none (eqb r.kind 0) (leb r.last.size p) h in record { begun = u.0; inside = nleb→lt r.last.size p u.1 }

pub group_below : (r : Reader) → r.rules ≤ 32 → group_number r < 33
group_below r n = of_cond (λ k. k < 33) (defaulted r) 32 (pred r.rules) (λ _. omega arith) (λ _. omega arith)

-- a default record makes a default
pub marked_there : (k : Mark) → present (the_mode (marked_mode k)) ≡ true
marked_there unmarked = refl
marked_there marked = refl

-- the limits

abbrev pub SmallRecord : Record → Type 0
SmallRecord (rule k a) = k ≤ 8
SmallRecord (range p c) = Unit {0}
SmallRecord (output c) = Unit {0}
SmallRecord (term p a) = Unit {0}
SmallRecord (default k) = Unit {0}
SmallRecord (hexadecimal p shift) = Unit {0}

every_fitting : FittingLast every_last
every_fitting = record { size = omega arith; positions = omega arith; slots = omega arith; outputs = omega arith; named = omega arith }

pub started_fitting : Fitting started
started_fitting =
    record {
      rules = omega arith;
      last = every_fitting;
      ranging = λ t. absurd t;
      grouped = λ t. absurd t;
      writing = λ t. absurd t;
    }

-- one more output character, of a kind that is no range's
added_fitting : (r : Reader) (kind : ℕ) → Fitting r → T (not (eqb r.kind 0)) → r.last.outputs ≢ 8 → T (not (eqb kind 1 || eqb kind 2)) →
    Fitting (summed_to r kind (r.last.outputs + 1) 0)
added_fitting r kind f begun other past =
    let few : r.last.outputs ≤ 8 = f.last.outputs in
    record {
      rules = f.rules;
      last = record { size = f.last.size; positions = f.last.positions; slots = f.last.slots; outputs = omega arith; named = omega arith };
      ranging = λ t. absurd (T_not (eqb kind 1 || eqb kind 2) past t);
      grouped = λ _. f.grouped begun;
      writing = λ _. omega arith;
    }

abbrev Fit : Outcome Reader → Type 0
Fit (refused n) = Unit {0}
Fit (accepted r) = Fitting r

admit_fit : (r : Reader) (x : Record) → Fitting r → SmallRecord x → Fit (admit r x)
unfolding admit
admit_fit r (rule k a) f s =
    by_cases Fit _ _ (
      λ _. tt,
      λ d. (
        λ _. tt,
        λ g. (
          λ _. tt,
          λ n.
              let few : r.rules ≤ 32 = f.rules in
              let other : r.rules ≢ 32 = neqb→ne r.rules 32 n in
              record {
                rules = omega arith;
                last = record { size = s; positions = omega arith; slots = omega arith; outputs = omega arith; named = omega arith };
                ranging = λ _. (omega arith, refl);
                grouped = λ _ _. omega arith;
                writing = λ t. absurd t;
              },
        ),
      ),
    )
admit_fit r (range p c) f s =
    by_cases Fit _ _ (
      λ _. tt,
      λ d. (
        λ _. tt,
        λ g. (
          λ _. tt,
          λ n.
              let comes = range_comes r p c.lowest d in
              let inside : p < r.last.size = comes.inside in
              let small : r.last.size ≤ 8 = f.last.size in
              let near : p ≤ r.last.positions = nltb→le r.last.positions p g in
              let free : slot_number r p < 4 = slot_free r p f.last.slots comes.next near (of_not (position_full r p) n) in
              record {
                rules = f.rules;
                last = record { size = f.last.size; positions = omega arith; slots = omega arith; outputs = f.last.outputs; named = f.last.named };
                ranging = λ _. f.ranging comes.ranging;
                grouped = λ _ _. (f.ranging comes.ranging).0;
                writing = λ t. absurd t;
              },
        ),
      ),
    )
admit_fit r (output c) f s = by_cases Fit _ _ (λ _. tt, λ d. (λ _. tt, λ g. (λ _. tt, λ n. added_fitting r 3 f d (neqb→ne r.last.outputs 8 n) tt)))
admit_fit r (hexadecimal p shift) f s =
    by_cases Fit _ _ (
      λ _. tt,
      λ d. (λ _. tt, λ g. (λ _. tt, λ n. added_fitting r 6 f (digit_comes r p d).begun (neqb→ne r.last.outputs 8 n) tt)),
    )
admit_fit r (term p a) f s =
    by_cases Fit _ _ (
      λ _. tt,
      λ d.
          let comes = term_comes r p d in
          let inside : p < r.last.size = comes.inside in
          let small : r.last.size ≤ 8 = f.last.size in
          record {
            rules = f.rules;
            last = record { size = f.last.size; positions = f.last.positions; slots = f.last.slots; outputs = f.last.outputs; named = named_more r.last.named p f.last.named (omega arith) comes.new };
            ranging = λ t. absurd t;
            grouped = λ _. f.grouped comes.begun;
            writing = λ _. f.writing comes.writing;
          },
    )
admit_fit r (default k) f s =
    by_cases Fit _ _ (
      λ _. tt,
      λ d. (
        λ _. tt,
        λ g.
            record {
              rules = f.rules;
              last = every_fitting;
              ranging = λ t. absurd t;
              grouped = λ _ e. absurd (true≢false (sym (marked_there k) ∙ e));
              writing = λ t. absurd t;
            },
      ),
    )

pub admit_fitting : (r r' : Reader) (x : Record) → Fitting r → SmallRecord x → admit r x ≡ accepted r' → Fitting r'
admit_fitting r r' x f s e = subst Fit e (admit_fit r x f s)
