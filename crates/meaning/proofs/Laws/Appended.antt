-- What a record adds to the bytes of a table: a range, an output character, a term or a group at the end adds its own bytes at the end.
-- By recursion on the groups, positions, output characters and coefficients before it.
use mathlib.Core.List.{List, [], ◌∷◌, ◌++◌, append-nil, append_assoc}
use Rattle.std.specs.Prelude.{Option, None, Some}
use mathlib.Core.Logic.{◌≢◌}
use mathlib.Core.Path.{◌≡◌, refl, sym, ap, subst, ◌∙◌}
use Prim.Native.Nat.{ℕ, suc, pred, ◌+◌, ◌≤◌}
use native.Mathlib.Nat.{add-zero, add-suc, suc-add}
use native.Mathlib.Omega.{arith}
use lib.Dec.{T, eqb, eqb→eq}
use lib.IntN.{ℤ, pos}
use lib.ListN.{length, length-append}
use Rattle.lists.specs.Lists.{flat_map, at_last, last_d, is_some, optional}
use Rattle.lists.specs.Reordered.{kept, joined}
use Rattle.lists.proofs.Laws.Tests.{of_cond, neqb→ne}
use Rattle.lists.proofs.Laws.Reordered.{last_first}
use Rattle.lists.proofs.Laws.Last.{last_at_last}
use Rattle.meaning.specs.Table.{Range, Output, sum, digit, Group, every_character, Mark}
use Rattle.meaning.specs.Reader.{coefficient_at, change_latest, add_range, add_term, change_ranges, change_outputs}
use Rattle.meaning.specs.Records.{rule_record, range_record, output_record, Term, term_record, default_record, Joined, range_records, OutputRecords, RuleRecords, DefaultRecords, Records}
use Rattle.meaning.proofs.Laws.Shape.{IsSum}
use Rattle.meaning.proofs.Laws.Terms.{terms_put}
use Rattle.meaning.proofs.Laws.Reading.{top}

-- joined parts: one more, or more bytes of the last

pub joined_snoc : {A : Type 0} (R : A → List ℕ → Type 0) (xs : List A) (x : A) (b c : List ℕ) → Joined R xs b → R x c → Joined R (xs ++ (x ∷ [])) (b ++ c)
joined_snoc R [] x b c j r = (c, [], r, refl, ap (λ l. l ++ c) j ∙ sym (append-nil c))
joined_snoc R (y ∷ ys) x b c j r =
    (j.0, j.1 ++ c, j.2, joined_snoc R ys x j.1 c j.3 r, ap (λ l. l ++ c) j.4 ∙ append_assoc j.0 j.1 c)

pub joined_last : {A : Type 0} (R : A → List ℕ → Type 0) (f : A → A) (e : List ℕ) (d : A) (xs : List A) (b : List ℕ) → 1 ≤ length xs →
    ((c : List ℕ) → R (last_d d xs) c → R (f (last_d d xs)) (c ++ e)) → Joined R xs b → Joined R (at_last f xs) (b ++ e)
joined_last R f e d [] b n h j = absurd (omega arith)
joined_last R f e d (x ∷ []) b n h j = (
  j.0 ++ e,
  [],
  h j.0 j.2,
  refl,
  ap (λ l. l ++ e) (j.4 ∙ ap (λ l. j.0 ++ l) j.3 ∙ append-nil j.0) ∙ sym (append-nil (j.0 ++ e)),
)
joined_last R f e d (x ∷ (y ∷ ys)) b n h j =
    (j.0, j.1 ++ e, j.2, joined_last R f e x (y ∷ ys) j.1 (omega arith) h j.3, ap (λ l. l ++ e) j.4 ∙ append_assoc j.0 j.1 e)

flat_map_snoc : {A : Type 0} (f : A → List ℕ) (xs : List A) (x : A) → flat_map f (xs ++ (x ∷ [])) ≡ flat_map f xs ++ f x
flat_map_snoc f [] x = append-nil (f x)
flat_map_snoc f (y ∷ ys) x = ap (λ l. f y ++ l) (flat_map_snoc f ys x) ∙ sym (append_assoc (f y) (flat_map f ys) (f x))

-- a range's bytes

first_of : (i : ℕ) (r : Range) (ps : List (List Range)) → range_records i (ps ++ ((r ∷ []) ∷ [])) ≡ range_records i ps ++ range_record (i + length ps) r
first_of i r [] = append-nil (range_record i r ++ []) ∙ append-nil (range_record i r) ∙ ap (λ k. range_record k r) (sym (add-zero i))
first_of i r (q ∷ ps) =
    ap (λ l. flat_map (range_record i) q ++ l) (first_of (suc i) r ps ∙ ap (λ k. range_records (suc i) ps ++ range_record k r) (suc-add i (length ps) ∙ sym (add-suc i (length ps))))
    ∙ sym (append_assoc (flat_map (range_record i) q) (range_records (suc i) ps) (range_record (i + suc (length ps)) r))

next_of : (i : ℕ) (r : Range) (ps : List (List Range)) → 1 ≤ length ps →
    range_records i (at_last (λ rs. rs ++ (r ∷ [])) ps) ≡ range_records i ps ++ range_record (i + pred (length ps)) r
next_of i r [] n = absurd (omega arith)
next_of i r (q ∷ []) n =
    append-nil (flat_map (range_record i) (q ++ (r ∷ [])))
    ∙ flat_map_snoc (range_record i) q r
    ∙ ap (λ l. l ++ range_record i r) (sym (append-nil (flat_map (range_record i) q)))
    ∙ ap (λ k. flat_map (range_record i) q ++ [] ++ range_record k r) (sym (add-zero i))
next_of i r (q ∷ (p ∷ ps)) n =
    ap (λ l. flat_map (range_record i) q ++ l) (next_of (suc i) r (p ∷ ps) (omega arith) ∙ ap (λ k. range_records (suc i) (p ∷ ps) ++ range_record k r) (suc-add i (length ps) ∙ sym (add-suc i (length ps))))
    ∙ sym (append_assoc (flat_map (range_record i) q) (range_records (suc i) (p ∷ ps)) (range_record (i + suc (length ps)) r))

pub range_written : (p : ℕ) (r : Range) (ps : List (List Range)) → p ≤ length ps → length ps ≤ suc p →
    range_records 0 (add_range p r ps) ≡ range_records 0 ps ++ range_record p r
range_written p r ps h k =
    of_cond (λ qs. range_records 0 qs ≡ range_records 0 ps ++ range_record p r) (eqb p (length ps)) (ps ++ ((r ∷ []) ∷ [])) (at_last (λ rs. rs ++ (r ∷ [])) ps)
    (λ t. let e : p ≡ length ps = eqb→eq p (length ps) t in first_of 0 r ps ∙ ap (λ i. range_records 0 ps ++ range_record i r) (omega arith))
    (λ t. let e : p ≢ length ps = neqb→ne p (length ps) t in
    let q : 0 + pred (length ps) ≡ p = omega arith in
    next_of 0 r ps (omega arith) ∙ ap (λ i. range_records 0 ps ++ range_record i r) q)

-- a term's bytes

pub term_sum : (p : ℕ) (a : ℤ) (o : Output) → IsSum o → IsSum (add_term p a o)
term_sum p a (sum c ks) i = tt
term_sum p a (digit q shift) i = i

pub term_written : (p : ℕ) (a : ℤ) (o : Output) → IsSum o → a ≢ pos 0 → coefficient_at o p ≡ pos 0 → (b : List ℕ) → OutputRecords o b →
    OutputRecords (add_term p a o) (b ++ term_record (record { position = p; coefficient = a }))
term_written p a (digit q shift) i d z b w = absurd i
term_written p a (sum c ks) i d z b w =
    let x : Term = record { position = p; coefficient = a } in (
      w.0 ++ (x ∷ []),
      joined (last_first w.0 x) (joined (kept w.1) (terms_put 0 p p a ks (omega arith) d z)),
      ap (λ l. l ++ term_record x) w.2
          ∙ append_assoc (output_record c) (flat_map term_record w.0) (term_record x)
          ∙ ap (λ l. output_record c ++ l) (sym (flat_map_snoc term_record w.0 x)),
    )

-- groups

module _ (h : List Output → List Output) (e : List ℕ) (g : Group)
    (more : (w : List ℕ) → Joined OutputRecords g.outputs w → Joined OutputRecords (h g.outputs) (w ++ e)) where
  pub rule_outputs : (b : List ℕ) → RuleRecords g b → RuleRecords (change_outputs h g) (b ++ e)
  rule_outputs b w =
      record {
        written = w.written ++ e;
        outputs = more w.written w.outputs;
        bytes = ap (λ l. l ++ e) w.bytes ∙ append_assoc (rule_record g.size g.anchored ++ range_records 0 g.ranges) w.written e;
      }

  pub default_outputs : (k : Mark) (b : List ℕ) → DefaultRecords k g b → DefaultRecords k (change_outputs h g) (b ++ e)
  default_outputs k b w =
      record {
        written = w.written ++ e;
        outputs = more w.written w.outputs;
        bytes = ap (λ l. l ++ e) w.bytes ∙ append_assoc (default_record k) w.written e;
      }

none_written : (os : List Output) (w : List ℕ) → os ≡ [] → Joined OutputRecords os w → w ≡ []
none_written os w e j = subst (λ l. Joined OutputRecords l w) e j

pub rule_ranges : (p : ℕ) (r : Range) (g : Group) → g.outputs ≡ [] → p ≤ length g.ranges → length g.ranges ≤ suc p →
    (b : List ℕ) → RuleRecords g b → RuleRecords (change_ranges (add_range p r) g) (b ++ range_record p r)
rule_ranges p r g o h k b w =
    let bare : w.written ≡ [] = none_written g.outputs w.written o w.outputs in
    let first = rule_record g.size g.anchored in
    let here = range_records 0 g.ranges in
    let bytes : b ++ range_record p r ≡ first ++ range_records 0 (add_range p r g.ranges) ++ w.written =
    ap (λ l. l ++ range_record p r) (w.bytes ∙ ap (λ l. first ++ here ++ l) bare ∙ append-nil (first ++ here))
    ∙ append_assoc first here (range_record p r)
    ∙ ap (λ l. first ++ l) (sym (range_written p r g.ranges h k))
    ∙ sym (append-nil (first ++ range_records 0 (add_range p r g.ranges)))
    ∙ ap (λ l. first ++ range_records 0 (add_range p r g.ranges) ++ l) (sym bare) in
    record { written = w.written; outputs = w.outputs; bytes = bytes }

-- the table: its last group changed, a rule more, a default

pub table_latest : (f : Group → Group) (e : List ℕ) (rs : List Group) (d : Option Group) (m : Mark) → 1 ≤ length (rs ++ optional d) →
    ((b : List ℕ) → RuleRecords (top rs d) b → RuleRecords (f (top rs d)) (b ++ e)) →
    (T (is_some d) → (b : List ℕ) → DefaultRecords m (top rs d) b → DefaultRecords m (f (top rs d)) (b ++ e)) →
    (b : List ℕ) → Records b (record { rules = rs; default = d; mark = m }) → Records (b ++ e) (change_latest f (record { rules = rs; default = d; mark = m }))
unfolding change_latest
table_latest f e rs None m n h k b w =
    let some_rule : 1 ≤ length rs = omega (arith, length-append {A = Group} rs []) in
    record {
      first = w.first ++ e;
      last = [];
      rules = joined_last RuleRecords f e (every_character []) rs w.first some_rule h w.rules;
      default = refl;
      bytes = ap (λ l. l ++ e) (w.bytes ∙ ap (λ l. w.first ++ l) w.default ∙ append-nil w.first) ∙ sym (append-nil (w.first ++ e));
    }
table_latest f e rs (Some g) m n h k b w =
    record {
      first = w.first;
      last = w.last ++ e;
      rules = w.rules;
      default = joined_last (DefaultRecords m) f e g (g ∷ []) w.last (omega arith) (k tt) w.default;
      bytes = ap (λ l. l ++ e) w.bytes ∙ append_assoc w.first w.last e;
    }

pub table_rule : (g : Group) (e : List ℕ) (rs : List Group) (d : Option Group) (m k : Mark) → d ≡ None → RuleRecords g e →
    (b : List ℕ) → Records b (record { rules = rs; default = d; mark = m }) → Records (b ++ e) (record { rules = rs ++ (g ∷ []); default = None; mark = k })
table_rule g e rs None m k n r b w =
    record {
      first = w.first ++ e;
      last = [];
      rules = joined_snoc RuleRecords rs g w.first e w.rules r;
      default = refl;
      bytes = ap (λ l. l ++ e) (w.bytes ∙ ap (λ l. w.first ++ l) w.default ∙ append-nil w.first) ∙ sym (append-nil (w.first ++ e));
    }
table_rule g e rs (Some d) m k n r b w = absurd (let z : ◌≡◌ {A = ℕ} 0 1 = cc in omega arith)

pub table_default : (g : Group) (e : List ℕ) (rs : List Group) (d : Option Group) (m k : Mark) → d ≡ None → DefaultRecords k g e →
    (b : List ℕ) → Records b (record { rules = rs; default = d; mark = m }) → Records (b ++ e) (record { rules = rs; default = Some g; mark = k })
table_default g e rs None m k n r b w =
    record {
      first = w.first;
      last = e;
      rules = w.rules;
      default = (e, [], r, refl, sym (append-nil e));
      bytes = ap (λ l. l ++ e) (w.bytes ∙ ap (λ l. w.first ++ l) w.default ∙ append-nil w.first);
    }
table_default g e rs (Some d) m k n r b w = absurd (let z : ◌≡◌ {A = ℕ} 0 1 = cc in omega arith)

-- the last group after a change
pub top_changed : (f : Group → Group) (rs : List Group) (d : Option Group) (m : Mark) → 1 ≤ length (rs ++ optional d) →
    (let t = change_latest f (record { rules = rs; default = d; mark = m }) in top t.rules t.default ≡ f (top rs d))
unfolding change_latest
top_changed f rs None m n = last_at_last f (every_character []) rs (omega (arith, length-append {A = Group} rs []))
top_changed f rs (Some g) m n = refl
