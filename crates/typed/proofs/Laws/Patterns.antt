-- Patterns: the reader behind the quotation mark accepts what the grammar has, whatever stands behind it, and nothing else.
-- Each character, element and item shows by its first character which it is. Assumes nothing.
use mathlib.Core.Path.{◌≡◌, refl, sym, ap, subst, ◌∙◌}
use mathlib.Core.Bool.{Bool, true, false, cond}
use mathlib.Core.List.{List, [], ◌∷◌, ◌++◌, append_assoc}
use Prim.Native.Nat.{ℕ, suc, ◌≤◌, ◌<◌}
use native.Mathlib.Omega.{arith}
use borrow.Author.Tests.{eqb-true, ne_eqb}
use lib.Dec.{eqb}
use lib.ListN.{length, length-append}
use Rattle.meaning.specs.Table.{Range}
use Rattle.expression.specs.bridge.Text.{refused, got, map_read, first, behind}
use Rattle.expression.proofs.Laws.Sound.{Parsed, Sound, not_got, first_cons, map_got}
use Rattle.typed.specs.Grammar.{Pattern, Several, in_quotes, in_brackets, Plain, bare, escaped, range, Element, single, ranging, Item, character, bracketed, PatternText}
use Rattle.typed.specs.bridge.Reader.{then_read, several, any_number, any_character, plain, element, ends_bracket, elements, alone, item, ends_items, closing, pattern_of}
use Rattle.typed.proofs.Laws.Several.{then_got, several_sound, several_complete, any_complete, strict_by}

-- a text that begins with a character
pub begins : (z : ℕ) → eqb 0 z ≡ false → (t : List ℕ) → eqb (first t) z ≡ true → t ≡ z ∷ behind t
begins z n t e = first_cons (λ c. eqb c z) n t e ∙ ap (λ c. c ∷ behind t) (eqb-true (first t) z e)

-- one that needs a backslash and one that doesn't
differs : (special : ℕ → Bool) (c z : ℕ) → special c ≡ false → special z ≡ true → eqb c z ≡ false
differs special c z h k = ne_eqb c z (λ e. let q : ◌≡◌ {A = ℕ} 0 1 = ap (λ b. cond b 1 0) (sym h ∙ ap special e ∙ k) in omega arith)

any_got : (t : List ℕ) (c : ℕ) (rest : List ℕ) → any_character t ≡ got c rest → t ≡ c ∷ rest
unfolding any_character
any_got [] c rest e = not_got e
any_got (x ∷ t) c rest e = cc

module _ (special : ℕ → Bool) where
  plain_sound : Sound (Plain special) (plain special)
  unfolding Sound plain
  plain_sound [] c rest e = not_got e
  plain_sound (x ∷ t) c rest e = by (eqb x 92) refl (special x) refl e
    where
      by : (f : Bool) → eqb x 92 ≡ f → (g : Bool) → special x ≡ g → cond f (any_character t) (cond g refused (got x t)) ≡ got c rest → Parsed (Plain special) (x ∷ t) c rest
      by true y g z q = let h = any_got t c rest q in let k = eqb-true x 92 y in record { used = 92 ∷ (c ∷ []); whole = cc; reads = escaped }
      by false y true z q = not_got q
      by false y false z q = let h : x ≡ c = cc in record { used = c ∷ []; whole = cc; reads = bare (ap special (sym h) ∙ z) }

  -- where a backslash needs one itself
  plain_complete : special 92 ≡ true → {u : List ℕ} {c : ℕ} → Plain special u c → (r : List ℕ) → plain special (u ++ r) ≡ got c r
  unfolding plain any_character
  plain_complete k (bare {c = c} h) r = rw (differs special c 92 h k, h)
  plain_complete k escaped r = refl

  plain_begins : (z : ℕ) → special z ≡ true → eqb 92 z ≡ false → {u : List ℕ} {c : ℕ} → Plain special u c → (r : List ℕ) → eqb (first (u ++ r)) z ≡ false
  plain_begins z y n (bare {c = c} h) r = differs special c z h y
  plain_begins z y n escaped r = n

-- an element goes by what stands behind its first character
element_of : (t r : List ℕ) (a : ℕ) → plain in_brackets t ≡ got a r
    → element t ≡ cond (eqb (first r) 45) (map_read (range a) (plain in_brackets (behind r))) (got (range a a) r)
unfolding element then_read
element_of t r a e = rw e

element_sound : Sound Element element
unfolding Sound element
element_sound t x rest e =
    let s = then_got (plain in_brackets t) _ x rest e in
    by s.0 s.1 (plain_sound in_brackets t s.0 s.1 s.2) (eqb (first s.1) 45) refl s.3
  where
    by : (a : ℕ) (r : List ℕ) → Parsed (Plain in_brackets) t a r → (f : Bool) → eqb (first r) 45 ≡ f
        → cond f (map_read (range a) (plain in_brackets (behind r))) (got (range a a) r) ≡ got x rest → Parsed Element t x rest
    by a r p true y q =
        let m = map_got (range a) (plain in_brackets (behind r)) x rest q in
        let k = plain_sound in_brackets (behind r) m.0 rest m.1 in
        record {
          used = p.used ++ (45 ∷ k.used);
          whole = p.whole ∙ ap (λ v. p.used ++ v) (begins 45 refl r y ∙ ap (λ v. 45 ∷ v) k.whole) ∙ sym (append_assoc p.used (45 ∷ k.used) rest);
          reads = subst (λ (z : Range). Element (p.used ++ (45 ∷ k.used)) z) m.2 (ranging p.reads k.reads);
        }
    by a r p false y q =
        let h : range a a ≡ x = cc in
        let end : r ≡ rest = cc in
        record { used = p.used; whole = p.whole ∙ ap (λ v. p.used ++ v) end; reads = subst (λ (z : Range). Element p.used z) h (single p.reads) }

plain_long : {special : ℕ → Bool} {u : List ℕ} {c : ℕ} → Plain special u c → 1 ≤ length u
plain_long (bare e) = omega arith
plain_long escaped = omega arith

pub element_strict : (t : List ℕ) (x : Range) (r : List ℕ) → element t ≡ got x r → length r < length t
element_strict = strict_by Element element element_sound (λ u x d. long d)
  where
    long : {u : List ℕ} {x : Range} → Element u x → 1 ≤ length u
    long (single p) = plain_long p
    long (ranging {u = u} {v = v} p q) = omega (arith, length-append u (45 ∷ v))

element_complete : (u : List ℕ) (x : Range) (r : List ℕ) → Element u x → eqb (first r) 45 ≡ false → element (u ++ r) ≡ got x r
unfolding map_read
element_complete u x r (single {c = c} p) h = element_of (u ++ r) r c (plain_complete in_brackets refl p r) ∙ rw h
element_complete w x r (ranging {u = u} {v = v} {a = a} p q) h =
    element_of ((u ++ (45 ∷ v)) ++ r) (45 ∷ (v ++ r)) a (ap (plain in_brackets) (append_assoc u (45 ∷ v) r) ∙ plain_complete in_brackets refl p (45 ∷ (v ++ r)))
    ∙ ap (map_read (range a)) (plain_complete in_brackets refl q r)

-- no element begins with a closing bracket, nor with a minus sign
element_begins : (u : List ℕ) (x : Range) (r : List ℕ) → Element u x → (ends_bracket (u ++ r) ≡ false) × (eqb (first (u ++ r)) 45 ≡ false)
element_begins u x r (single p) = (plain_begins in_brackets 93 refl refl p r, plain_begins in_brackets 45 refl refl p r)
element_begins w x r (ranging {u = u} {v = v} p q) =
    rw (append_assoc u (45 ∷ v) r) (plain_begins in_brackets 93 refl refl p (45 ∷ (v ++ r)), plain_begins in_brackets 45 refl refl p (45 ∷ (v ++ r)))

-- what stands behind an opening bracket
elements_sound : Sound (λ u rs. Item (91 ∷ u) rs) elements
unfolding Sound elements any_number
elements_sound t rs rest e = by (ends_bracket t) refl e
  where
    -- there is one, since the text does not begin with what ends them
    some : (xs : List Range) (u r : List ℕ) → ends_bracket t ≡ false → t ≡ u ++ r → ends_bracket r ≡ true → Several Element u xs → Item (91 ∷ (u ++ (93 ∷ []))) xs
    some [] u r n w y d = let z : ◌≡◌ {A = ℕ} 0 1 = ap (λ b. cond b 1 0) (sym n ∙ ap ends_bracket (w ∙ ap (λ v. v ++ r) d) ∙ y) in absurd (omega arith)
    some (x ∷ xs) u r n w y d = bracketed d

    by : (f : Bool) → ends_bracket t ≡ f → cond f refused (then_read (several element ends_bracket (suc (length t)) t) (λ rs r. got rs (behind r))) ≡ got rs rest
        → Parsed (λ u rs. Item (91 ∷ u) rs) t rs rest
    by true n q = not_got q
    by false n q =
        let s = then_got (several element ends_bracket (suc (length t)) t) _ rs rest q in
        let k = several_sound element ends_bracket Element element_sound (suc (length t)) t s.0 s.1 s.2 in
        let p = k.0 in
        let same : s.0 ≡ rs = cc s.3 in
        let end : behind s.1 ≡ rest = cc s.3 in
        record {
          used = p.used ++ (93 ∷ []);
          whole = p.whole ∙ ap (λ v. p.used ++ v) (begins 93 refl s.1 k.1 ∙ ap (λ v. 93 ∷ v) end) ∙ sym (append_assoc p.used (93 ∷ []) rest);
          reads = subst (λ (xs : List Range). Item (91 ∷ (p.used ++ (93 ∷ []))) xs) same (some s.0 p.used s.1 n p.whole k.1 p.reads);
        }

elements_complete : (u : List ℕ) (x : Range) (xs : List Range) (r : List ℕ) → Several Element u (x ∷ xs) → elements (u ++ (93 ∷ r)) ≡ got (x ∷ xs) r
unfolding elements then_read
elements_complete u x xs r d =
    let n : ends_bracket (u ++ (93 ∷ r)) ≡ false =
    ap ends_bracket (ap (λ v. v ++ (93 ∷ r)) d.4 ∙ append_assoc d.0 d.1 (93 ∷ r)) ∙ (element_begins d.0 x (d.1 ++ (93 ∷ r)) d.2).0 in
    rw (n, any_complete element ends_bracket Element (λ r. eqb (first r) 45 ≡ false) element_complete element_begins element_strict (x ∷ xs) u (93 ∷ r) d refl refl)

item_sound : Sound Item item
unfolding Sound item
item_sound t x rest e = by (eqb (first t) 91) refl e
  where
    by : (f : Bool) → eqb (first t) 91 ≡ f → cond f (elements (behind t)) (map_read alone (plain in_quotes t)) ≡ got x rest → Parsed Item t x rest
    by true y q = let p = elements_sound (behind t) x rest q in record { used = 91 ∷ p.used; whole = begins 91 refl t y ∙ ap (λ v. 91 ∷ v) p.whole; reads = p.reads }
    by false y q =
        let m = map_got alone (plain in_quotes t) x rest q in
        let p = plain_sound in_quotes t m.0 rest m.1 in
        record { used = p.used; whole = p.whole; reads = subst (λ (z : List Range). Item p.used z) m.2 (character p.reads) }

item_complete : (u : List ℕ) (x : List Range) (r : List ℕ) → Item u x → item (u ++ r) ≡ got x r
unfolding item map_read
item_complete u x r (character p) = rw (plain_begins in_quotes 91 refl refl p r, plain_complete in_quotes refl p r)
item_complete w x r (bracketed {u = u} {r = y} {rs = ys} d) = ap elements (append_assoc u (93 ∷ []) r) ∙ elements_complete u y ys r d

-- no item begins with what ends them
item_begins : (u : List ℕ) (x : List Range) (r : List ℕ) → Item u x → ends_items (u ++ r) ≡ false
item_begins u x r (character p) = rw (plain_begins in_quotes 34 refl refl p r, plain_begins in_quotes 36 refl refl p r)
item_begins w x r (bracketed d) = refl

-- the end of a pattern
abbrev ending : Bool → List ℕ
ending anchored = cond anchored (36 ∷ []) []

closing_sound : (is : List (List Range)) (t : List ℕ) (p : Pattern) (rest : List ℕ) → closing is t ≡ got p rest
    → (f : Bool) × (record { items = is; anchored = f } ≡ p) × (1 ≤ length is) × (t ≡ ending f ++ (34 ∷ rest))
unfolding closing
closing_sound [] t p rest e = not_got e
closing_sound (i ∷ is) t p rest e = by (eqb (first t) 36) refl e
  where
    ended : (f : Bool) (u : List ℕ) (g : Bool) → eqb (first u) 34 ≡ g → cond g (got (record { items = i ∷ is; anchored = f }) (behind u)) refused ≡ got p rest
        → (record { items = i ∷ is; anchored = f } ≡ p) × (u ≡ 34 ∷ rest)
    ended f u true y q = let end : behind u ≡ rest = cc in (cc, begins 34 refl u y ∙ ap (λ v. 34 ∷ v) end)
    ended f u false y q = not_got q

    by : (f : Bool) → eqb (first t) 36 ≡ f
        → cond (eqb (first (cond f (behind t) t)) 34) (got (record { items = i ∷ is; anchored = f }) (behind (cond f (behind t) t))) refused ≡ got p rest
        → (f : Bool) × (record { items = i ∷ is; anchored = f } ≡ p) × (1 ≤ suc (length is)) × (t ≡ ending f ++ (34 ∷ rest))
    by true y q = let k = ended true (behind t) (eqb (first (behind t)) 34) refl q in (true, k.0, omega arith, begins 36 refl t y ∙ ap (λ v. 36 ∷ v) k.1)
    by false y q = let k = ended false t (eqb (first t) 34) refl q in (false, k.0, omega arith, k.1)

closing_complete : (is : List (List Range)) (f : Bool) (r : List ℕ) → 1 ≤ length is
    → (closing is (ending f ++ (34 ∷ r)) ≡ got (record { items = is; anchored = f }) r) × (ends_items (ending f ++ (34 ∷ r)) ≡ true)
unfolding closing
closing_complete [] f r h = absurd (omega arith)
closing_complete (i ∷ is) true r h = (refl, refl)
closing_complete (i ∷ is) false r h = (refl, refl)

-- what is accepted behind the quotation mark
pub patterns_sound : (text : List ℕ) (p : Pattern) (rest : List ℕ) → pattern_of text ≡ got p rest → Parsed (λ u p. PatternText (34 ∷ u) p) text p rest
unfolding pattern_of
patterns_sound text p rest e =
    let s = then_got (several item ends_items 9 text) closing p rest e in
    let k = several_sound item ends_items Item item_sound 9 text s.0 s.1 s.2 in
    let c = closing_sound s.0 s.1 p rest s.3 in
    let u : List ℕ = k.0.used ++ (ending c.0 ++ (34 ∷ [])) in
    let few = k.2 in
    record {
      used = u;
      whole =
          k.0.whole
          ∙ ap (λ v. k.0.used ++ v) (c.3 ∙ sym (append_assoc (ending c.0) (34 ∷ []) rest))
          ∙ sym (append_assoc k.0.used (ending c.0 ++ (34 ∷ [])) rest);
      reads =
          subst (λ (p : Pattern). PatternText (34 ∷ u) p) c.1
          (record { typed = k.0.used; items = k.0.reads; some_item = c.2; few_items = omega arith; whole = refl });
    }

pub patterns_complete : {u : List ℕ} {p : Pattern} → PatternText u p → (r : List ℕ) → pattern_of (behind (u ++ r)) ≡ got p r
unfolding pattern_of then_read
patterns_complete {u} {p} d r =
    let end : List ℕ = ending p.anchored ++ (34 ∷ r) in
    let c = closing_complete p.items p.anchored r d.some_item in
    let few = d.few_items in
    ap (λ v. pattern_of (behind (v ++ r))) d.whole
    ∙ ap pattern_of (append_assoc d.typed (ending p.anchored ++ (34 ∷ [])) r ∙ ap (λ v. d.typed ++ v) (append_assoc (ending p.anchored) (34 ∷ []) r))
    ∙ ap (λ x. then_read x closing)
    (several_complete item ends_items Item (λ _. Unit {0}) (λ u x r d _. item_complete u x r d) (λ u x r d. (item_begins u x r d, tt)) 9 p.items d.typed end d.items (omega arith) tt c.1)
    ∙ c.0
