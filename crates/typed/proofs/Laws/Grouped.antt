-- The records of a line's ranges and expressions lead to its group.
-- Range by range and term by term, each from where those before it led.
use mathlib.Core.Bool.{Bool, true}
use mathlib.Core.List.{List, [], ◌∷◌, ◌++◌, map, append-nil}
use Rattle.std.specs.Prelude.{is_some, Option, Some}
use mathlib.Core.Path.{◌≡◌, refl, sym, subst, ◌∙◌}
use Prim.Native.Nat.{ℕ, suc, ◌+◌, ◌/◌, ◌%◌, ◌≤◌}
use native.Mathlib.Omega.{arith}
use lib.IntN.{ℤ}
use lib.ListN.{length, length-append}
use lib.Seq.{append_snoc}
use Rattle.lists.specs.Lists.{Each, flat_map, at_last}
use Rattle.meaning.specs.Table.{Range, Output, sum, Group, Mark}
use Rattle.meaning.specs.Record.{Record, range, output, term, decode}
use Rattle.meaning.specs.Reader.{signed, skipping, add_range, put_at, add_term, change_ranges, change_outputs, taken}
use Rattle.meaning.specs.WellFormed.{Signed}
use Rattle.meaning.specs.Records.{little_endian, twos_complement, range_record, output_record, Term, term_record, range_records, terms}
use Rattle.meaning.proofs.Laws.Decoding.{decode_range}
use Rattle.meaning.proofs.Laws.Encoding.{only_some, two_read, signed_of_bits, half_16, half_32, read_output, read_term}
use Rattle.meaning.proofs.Laws.Terms.{all_put, Fits, terms_fit}
use Rattle.meaning.proofs.Laws.Readable.{not_ltb, latest_at, at_last_snoc, add_new, add_beside}
use Rattle.expression.specs.Grammar.{Tree}
use Rattle.expression.specs.bridge.Forms.{Proper}
use Rattle.typed.specs.Records.{part_of, constant, coefficients, output_records}
use Rattle.typed.proofs.Laws.Bytes.{ProperRange, ProperItem, range_long, output_long, term_long, whole_joined, output_whole, eight_coefficients}
use Rattle.typed.proofs.Laws.Taken.{filled, Leads, leads_nowhere, leads_on, leads_one}

pub known : (b : List ℕ) (x : Record) → decode b ≡ Some x → (y : Record) → decode b ≡ Some y → x ≡ y
known b x e y f = cc

-- ranges

one_range : (p : ℕ) (r : Range) → ProperRange r → (y : Record) → decode (range_record p r) ≡ Some y → range p r ≡ y
unfolding little_endian
one_range p r w y e =
    let a = r.lowest in
    let b = r.highest in
    let o = only_some _ _ y (sym (decode_range p 0 0 (a % 256) (a / 256 % 256) (b % 256) (b / 256 % 256)) ∙ e) in
    rw (two_read a w.low, two_read b w.high) at o.1

-- a group with given ranges and no output character, and one with given output characters
abbrev ranged : ℕ → Bool → List (List Range) → Group
ranged k anchored ps = record { size = k; anchored = anchored; ranges = ps; outputs = [] }

abbrev pub writing : Group → List Output → Group
writing g os = record { size = g.size; anchored = g.anchored; ranges = g.ranges; outputs = os }

module _ (d : Option Mark) (gs : List Group) (k : ℕ) (anchored : Bool) where
  abbrev group : List (List Range) → Group
  group ps = ranged k anchored ps

  range_leads : (ps : List (List Range)) (p : ℕ) (r : Range) → p ≤ length ps → ProperRange r → Leads d gs (group ps) (range_record p r) (group (add_range p r ps))
  unfolding taken skipping
  range_leads ps p r h w =
      leads_one d gs (change_ranges (add_range p r)) (group ps) (range_record p r) (range p r) (range_long p r) (one_range p r w) (λ s. refl)
      (λ kind. rw latest_at (not_ltb (length ps) p h))

  beside_lead : (ps : List (List Range)) (qs rs : List Range) → Each ProperRange rs →
      Leads d gs (group (ps ++ (qs ∷ []))) (flat_map (range_record (length ps)) rs) (group (ps ++ ((qs ++ rs) ∷ [])))
  beside_lead ps qs [] w =
      subst (λ q. Leads d gs (group (ps ++ (qs ∷ []))) [] (group (ps ++ (q ∷ [])))) (sym (append-nil qs)) (leads_nowhere d gs (group (ps ++ (qs ∷ []))))
  beside_lead ps qs (r ∷ rs) w =
      let p = length ps in
      let from = group (ps ++ (qs ∷ [])) in
      let more = qs ++ (r ∷ []) in
      let count : length (ps ++ (qs ∷ [])) ≡ p + 1 = length-append ps (qs ∷ []) in
      let here : Leads d gs from (range_record p r) (group (ps ++ (more ∷ []))) =
      subst (λ q. Leads d gs from (range_record p r) (group q)) (add_beside r ps qs) (range_leads (ps ++ (qs ∷ [])) p r (omega arith) w.0) in
      let rest : Leads d gs (group (ps ++ (more ∷ []))) (flat_map (range_record p) rs) (group (ps ++ ((qs ++ (r ∷ rs)) ∷ []))) =
      subst (λ q. Leads d gs (group (ps ++ (more ∷ []))) (flat_map (range_record p) rs) (group (ps ++ (q ∷ [])))) (append_snoc qs r rs) (beside_lead ps more rs w.1) in
      leads_on d gs from (group (ps ++ (more ∷ []))) _ (range_record p r) (flat_map (range_record p) rs) (1, range_long p r) here rest

  item_leads : (ps : List (List Range)) (rs : List Range) → ProperItem rs → Leads d gs (group ps) (flat_map (range_record (length ps)) rs) (group (ps ++ (rs ∷ [])))
  item_leads ps [] w = let n : 1 ≤ 0 = w.some_range in absurd (omega arith)
  item_leads ps (r ∷ rs) w =
      let p = length ps in
      let here : Leads d gs (group ps) (range_record p r) (group (ps ++ ((r ∷ []) ∷ []))) =
      subst (λ q. Leads d gs (group ps) (range_record p r) (group q)) (add_new r ps) (range_leads ps p r (omega arith) w.ranges.0) in
      leads_on d gs (group ps) (group (ps ++ ((r ∷ []) ∷ []))) _ (range_record p r) (flat_map (range_record p) rs) (1, range_long p r) here (beside_lead ps (r ∷ []) rs w.ranges.1)

  pub items_lead : (ps qs : List (List Range)) → Each ProperItem qs → Leads d gs (group ps) (range_records (length ps) qs) (group (ps ++ qs))
  items_lead ps [] w = subst (λ q. Leads d gs (group ps) [] (group q)) (sym (append-nil ps)) (leads_nowhere d gs (group ps))
  items_lead ps (q ∷ qs) w =
      let next = ps ++ (q ∷ []) in
      let count : length next ≡ suc (length ps) = length-append ps (q ∷ []) ∙ omega arith in
      let rest : Leads d gs (group next) (range_records (suc (length ps)) qs) (group (ps ++ (q ∷ qs))) =
      rw count at (subst (λ l. Leads d gs (group next) (range_records (length next) qs) (group l)) (append_snoc ps q qs) (items_lead next qs w.1)) in
      leads_on d gs (group ps) (group next) _ (flat_map (range_record (length ps)) q) (range_records (suc (length ps)) qs)
      (whole_joined (range_record (length ps)) (λ r. (1, range_long (length ps) r)) q) (item_leads ps q w.0) rest

-- coefficients as their terms give them: none behind the last that is not 0
abbrev pub trimmed : List ℤ → List ℤ
trimmed ks = all_put (terms 0 ks) []

-- an expression's output character
abbrev pub output_of : Tree → Output
output_of t = sum (constant (part_of t)) (trimmed (coefficients (part_of t)))

-- its positions are below 8, 17 does not refuse it, and its numbers are as wide as the fields of their records
pub record Fitting (t : Tree) : Type 0 where
  pub proper : Proper t
  pub fine : is_some (part_of t) ≡ true
  pub constant_32 : Signed 32 (constant (part_of t))
  pub coefficients_16 : Each (Signed 16) (coefficients (part_of t))

module _ (d : Option Mark) (gs : List Group) (g : Group) (full : length g.ranges ≡ g.size) where
  output_leads : (os : List Output) (c : ℤ) → Signed 32 c → Leads d gs (writing g os) (output_record c) (writing g (os ++ (sum c [] ∷ [])))
  unfolding taken skipping
  output_leads os c s =
      let x = twos_complement 32 c in
      subst (λ z. Leads d gs (writing g os) (output_record c) (writing g (os ++ (sum z [] ∷ [])))) (signed_of_bits 32 half_32 c s)
      (leads_one d gs (change_outputs (λ l. l ++ (sum (signed 32 x) [] ∷ []))) (writing g os) (output_record c) (output x) (output_long c) (known _ _ (read_output c s)) (λ s. refl)
      (filled d gs (writing g os) full))

  term_leads : (os : List Output) (c : ℤ) (ks : List ℤ) (x : Term) → Fits 8 x →
      Leads d gs (writing g (os ++ (sum c ks ∷ []))) (term_record x) (writing g (os ++ (sum c (put_at x.position x.coefficient ks) ∷ [])))
  unfolding taken skipping
  term_leads os c ks x f =
      let p = x.position in
      let a = x.coefficient in
      let n = twos_complement 16 a in
      let from = writing g (os ++ (sum c ks ∷ [])) in
      let b = term_record x in
      subst (λ z. Leads d gs from b (writing g (os ++ (add_term p z (sum c ks) ∷ [])))) (signed_of_bits 16 half_16 a f.1)
      (subst (λ l. Leads d gs from b (writing g l)) (at_last_snoc (add_term p (signed 16 n)) os (sum c ks))
      (leads_one d gs (change_outputs (at_last (add_term p (signed 16 n)))) from b (term p n) (term_long x) (known _ _ (read_term p a (omega (arith, f.0)) f.1 f.2)) (λ s. refl) (λ kind. tt)))

  terms_lead : (os : List Output) (c : ℤ) (ks : List ℤ) (xs : List Term) → Each (Fits 8) xs →
      Leads d gs (writing g (os ++ (sum c ks ∷ []))) (flat_map term_record xs) (writing g (os ++ (sum c (all_put xs ks) ∷ [])))
  terms_lead os c ks [] f = leads_nowhere d gs (writing g (os ++ (sum c ks ∷ [])))
  terms_lead os c ks (x ∷ xs) f =
      let more = put_at x.position x.coefficient ks in
      leads_on d gs (writing g (os ++ (sum c ks ∷ []))) (writing g (os ++ (sum c more ∷ []))) _ (term_record x) (flat_map term_record xs) (1, term_long x)
      (term_leads os c ks x f.0) (terms_lead os c more xs f.1)

  whole_leads : (os : List Output) (t : Tree) → Fitting t → Leads d gs (writing g os) (output_records (part_of t)) (writing g (os ++ (output_of t ∷ [])))
  unfolding output_records
  whole_leads os t w =
      let c = constant (part_of t) in
      let ks = coefficients (part_of t) in
      leads_on d gs (writing g os) (writing g (os ++ (sum c [] ∷ []))) _ (output_record c) (flat_map term_record (terms 0 ks)) (1, output_long c)
      (output_leads os c w.constant_32) (terms_lead os c [] (terms 0 ks) (terms_fit 8 0 ks (omega (arith, eight_coefficients t)) w.coefficients_16))

  pub outputs_lead : (os : List Output) (ts : List Tree) → Each Fitting ts → Leads d gs (writing g os) (flat_map (λ t. output_records (part_of t)) ts) (writing g (os ++ map output_of ts))
  outputs_lead os [] w = rw append-nil (leads_nowhere d gs (writing g os))
  outputs_lead os (t ∷ ts) w =
      let next = os ++ (output_of t ∷ []) in
      let rest : Leads d gs (writing g next) (flat_map (λ t. output_records (part_of t)) ts) (writing g (os ++ map output_of (t ∷ ts))) =
      rw (append_snoc os (output_of t) (map output_of ts)) at (outputs_lead next ts w.1) in
      leads_on d gs (writing g os) (writing g next) _ (output_records (part_of t)) (flat_map (λ t. output_records (part_of t)) ts) (output_whole t) (whole_leads os t w.0) rest
