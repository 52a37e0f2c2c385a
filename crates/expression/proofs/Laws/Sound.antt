-- What the readers accept the grammar has: the text begins with an expression, which is the tree, and what is left is the rest.
-- By recursion on the fuel of a chain and on the nesting. Assumes nothing.
use mathlib.Core.Path.{◌≡◌, refl, sym, ap, subst, ◌∙◌}
use mathlib.Core.Bool.{Bool, true, false, ◌&&◌, ◌||◌, cond}
use mathlib.Core.List.{List, [], ◌∷◌, ◌++◌, append_assoc, append-nil}
use Prim.Native.Nat.{ℕ, zero, suc, ◌+◌, ◌-◌, ◌*◌, ◌≤◌, ◌<◌}
use native.Mathlib.Omega.{arith}
use borrow.Author.Tests.{eqb-true, leb-true}
use lib.Dec.{eqb, leb}
use Rattle.expression.specs.Grammar.{is_blank, is_digit, Tree, number, place, Blanks, no_blanks, a_blank, Digits, no_digits, a_digit, decimal, Level, a_sum, a_product, a_factor, Reads, reads_number, reads_place, reads_parentheses, reads_one, reads_times, reads_alone, reads_plus, reads_minus}
use Rattle.expression.specs.bridge.Text.{Read, refused, got, map_read, rest_length, is_star, is_sign, skip, first, behind, digits, place_digit, closed, closed_by, join, joined, chain, chained, atom, factor, product, sum, within, trees}
use Rattle.expression.specs.bridge.Forms.{Proper}
use Rattle.expression.proofs.Laws.Numbers.{and_left, and_right}

-- the text is a part that P has as the tree, and then the rest
pub record Parsed {A : Type 0} (P : List ℕ → A → Type 0) (text : List ℕ) (t : A) (rest : List ℕ) : Type 0 where
  pub used : List ℕ
  pub whole : text ≡ used ++ rest
  pub reads : P used t

unfoldable pub Sound : {A : Type 0} → (List ℕ → A → Type 0) → (List ℕ → Read A) → Type 0
Sound {A} P reader = (text : List ℕ) (t : A) (rest : List ℕ) → reader text ≡ got t rest → Parsed P text t rest

pub not_got : {A X : Type 0} {a : A} {t : List ℕ} → refused ≡ got a t → X
not_got e = let z : ◌≡◌ {A = ℕ} 0 1 = cc in absurd (omega arith)

-- the blanks that are skipped
pub skip_split : (t : List ℕ) → (b : List ℕ) × Blanks b × (t ≡ b ++ skip t)
unfolding skip
skip_split [] = ([], no_blanks, refl)
skip_split (c ∷ t) = by (is_blank c) refl (skip_split t)
  where
    by : (f : Bool) → is_blank c ≡ f → (b : List ℕ) × Blanks b × (t ≡ b ++ skip t) → (b : List ℕ) × Blanks b × (c ∷ t ≡ b ++ cond f (skip t) (c ∷ t))
    by true e r = (c ∷ r.0, a_blank e r.1, ap (λ x. c ∷ x) r.2)
    by false e r = ([], no_blanks, refl)

-- a test that 0 fails passes only at a character
pub first_cons : (p : ℕ → Bool) → p 0 ≡ false → (u : List ℕ) → p (first u) ≡ true → u ≡ first u ∷ behind u
first_cons p z [] e = let q : ◌≡◌ {A = ℕ} 0 1 = ap (λ b. cond b 0 1) (sym e ∙ z) in absurd (omega arith)
first_cons p z (c ∷ u) e = refl

pub map_got : {A B : Type 0} (f : A → B) (r : Read A) (b : B) (t : List ℕ) → map_read f r ≡ got b t → (a : A) × (r ≡ got a t) × (f a ≡ b)
unfolding map_read
map_got f refused b t e = not_got e
map_got f (got a u) b t e = (a, ap (got a) (cc), cc)

chain_refused : {A : Type 0} (f : ℕ → A → A → A) (p : ℕ → Bool) (item : List ℕ → Read A) (n : ℕ) → chain f p item n refused ≡ refused
unfolding chain
chain_refused f p item zero = refl
chain_refused f p item (suc n) = refl

module _ {A : Type 0} (f : ℕ → A → A → A) (p : ℕ → Bool) (zero-fails : p 0 ≡ false) (item : List ℕ → Read A) (P Q : List ℕ → A → Type 0)
    (step : (u b v : List ℕ) (c : ℕ) (s t : A) → P u s → Blanks b → p c ≡ true → Q v t → P (u ++ (b ++ (c ∷ v))) (f c s t))
    (item_sound : Sound Q item) where
  abbrev On : ℕ → Type 0
  On n = (u : List ℕ) (a : A) (t : List ℕ) → P u a → (a' : A) (t' : List ℕ) → chain f p item n (got a t) ≡ got a' t' → Parsed (λ v x. P (u ++ v) x) t a' t'

  stopped : (u : List ℕ) (a : A) (t : List ℕ) → P u a → (a' : A) (t' : List ℕ) → got a t ≡ got a' t' → Parsed (λ v x. P (u ++ v) x) t a' t'
  stopped u a t h a' t' e = let same : a ≡ a' = cc in record { used = []; whole = cc; reads = subst (λ (x : A). P (u ++ []) x) same (subst (λ (v : List ℕ). P v a) (sym (append-nil u)) h) }

  operand : (n : ℕ) → On n → (u : List ℕ) (a : A) (t : List ℕ) → P u a → p (first (skip t)) ≡ true → (a' : A) (t' : List ℕ)
      → (d : Read A) → item (behind (skip t)) ≡ d → chain f p item n (joined f (first (skip t)) a d) ≡ got a' t' → Parsed (λ v x. P (u ++ v) x) t a' t'
  unfolding joined map_read Sound
  operand n on u a t h y a' t' refused q e = not_got (sym (chain_refused f p item n) ∙ e)
  operand n on u a t h y a' t' (got b r) q e =
      let c = first (skip t) in
      let i = item_sound (behind (skip t)) b r q in
      let s = skip_split t in
      let word : List ℕ = s.0 ++ (c ∷ i.used) in
      let k = on (u ++ word) (f c a b) r (step u s.0 i.used c a b h s.1 y i.reads) a' t' e in
      record {
        used = word ++ k.used;
        whole =
            s.2
            ∙ ap (λ x. s.0 ++ x) (first_cons p zero-fails (skip t) y ∙ ap (λ x. c ∷ x) i.whole)
            ∙ sym (append_assoc s.0 (c ∷ i.used) r)
            ∙ ap (λ x. word ++ x) k.whole
            ∙ sym (append_assoc word k.used t');
        reads = subst (λ (v : List ℕ). P v a') (append_assoc u word k.used) k.reads;
      }

  chain_sound : (n : ℕ) → On n
  unfolding chain
  chain_sound zero u a t h a' t' e = stopped u a t h a' t' e
  chain_sound (suc n) u a t h a' t' e = by (chain_sound n) (p (first (skip t))) refl e
    where
      by : On n → (b : Bool) → p (first (skip t)) ≡ b
          → cond b (chain f p item n (joined f (first (skip t)) a (item (behind (skip t))))) (got a t) ≡ got a' t' → Parsed (λ v x. P (u ++ v) x) t a' t'
      by on true y k = operand n on u a t h y a' t' (item (behind (skip t))) refl k
      by on false y k = stopped u a t h a' t' k

  -- a chain from an item that P has
  pub chained_sound : (text : List ℕ) (d : Read A) → ((t : A) (rest : List ℕ) → d ≡ got t rest → Parsed P text t rest)
      → (t : A) (rest : List ℕ) → chained f p item d ≡ got t rest → Parsed P text t rest
  unfolding chained
  chained_sound text refused first_sound t rest e = not_got (sym (chain_refused f p item 0) ∙ e)
  chained_sound text (got a r) first_sound t rest e =
      let i = first_sound a r refl in
      let k = chain_sound (rest_length (got a r)) i.used a r i.reads t rest e in
      record {
        used = i.used ++ k.used;
        whole = i.whole ∙ ap (λ x. i.used ++ x) k.whole ∙ sym (append_assoc i.used k.used rest);
        reads = k.reads;
      }

-- the digits that are read
digits_sound : (v : ℕ) (u : List ℕ) (w : ℕ) (rest : List ℕ) → v ≤ 65535 → digits v u ≡ got w rest
    → (ds : List ℕ) × Digits ds × (u ≡ ds ++ rest) × (w ≡ decimal v ds) × (w ≤ 65535)
unfolding digits decimal
digits_sound v [] w rest l e = let f : v ≡ w = cc in ([], no_digits, cc, sym f, omega arith)
digits_sound v (c ∷ u) w rest l e = by (is_digit c) refl (leb (v * 10 + (c - 48)) 65535) refl (digits_sound (v * 10 + (c - 48)) u w rest) e
  where
    by : (f : Bool) → is_digit c ≡ f → (g : Bool) → leb (v * 10 + (c - 48)) 65535 ≡ g
        → (v * 10 + (c - 48) ≤ 65535 → digits (v * 10 + (c - 48)) u ≡ got w rest
        → (ds : List ℕ) × Digits ds × (u ≡ ds ++ rest) × (w ≡ decimal (v * 10 + (c - 48)) ds) × (w ≤ 65535))
        → cond f (cond g (digits (v * 10 + (c - 48)) u) refused) (got v (c ∷ u)) ≡ got w rest
        → (ds : List ℕ) × Digits ds × (c ∷ u ≡ ds ++ rest) × (w ≡ decimal v ds) × (w ≤ 65535)
    by true d true k on q =
        let r = on (leb-true (v * 10 + (c - 48)) 65535 k) q in
        (c ∷ r.0, a_digit d r.1, ap (λ x. c ∷ x) r.2, r.3, r.4)
    by true d false k on q = not_got q
    by false d true k on q = let f : v ≡ w = cc in ([], no_digits, cc, sym f, omega arith)
    by false d false k on q = let f : v ≡ w = cc in ([], no_digits, cc, sym f, omega arith)

-- a number has a digit
number_sound : (n : ℕ) (b u : List ℕ) → Blanks b → is_digit (first u) ≡ true → (v : ℕ) (rest : List ℕ) → digits 0 u ≡ got v rest → Parsed (Reads a_factor n) (b ++ u) (number v) rest
unfolding digits decimal
number_sound n b [] bs d v rest e = let z : ◌≡◌ {A = ℕ} 0 1 = ap (λ x. cond x 1 0) d in absurd (omega arith)
number_sound n b (c ∷ u) bs d v rest e =
    by (leb (0 * 10 + (c - 48)) 65535) refl (ap (λ f. cond f (cond (leb (0 * 10 + (c - 48)) 65535) (digits (0 * 10 + (c - 48)) u) refused) (got 0 (c ∷ u))) (sym d) ∙ e)
  where
    by : (g : Bool) → leb (0 * 10 + (c - 48)) 65535 ≡ g → cond g (digits (0 * 10 + (c - 48)) u) refused ≡ got v rest → Parsed (Reads a_factor n) (b ++ (c ∷ u)) (number v) rest
    by true k q =
        let r = digits_sound (0 * 10 + (c - 48)) u v rest (leb-true (0 * 10 + (c - 48)) 65535 k) q in
        let l = r.4 in
        record {
          used = b ++ (c ∷ r.0);
          whole = ap (λ x. b ++ (c ∷ x)) r.2 ∙ sym (append_assoc b (c ∷ r.0) rest);
          reads = subst (λ (x : ℕ). Reads a_factor n (b ++ (c ∷ r.0)) (number x)) (sym r.3) (reads_number bs (a_digit d r.1) (subst (λ (x : ℕ). x ≤ 65535) r.3 l));
        }
    by false k q = not_got q

place_sound : (n : ℕ) (b u : List ℕ) → Blanks b → first u ≡ 120 → (k : ℕ) (rest : List ℕ) → place_digit (behind u) ≡ got k rest → Parsed (Reads a_factor n) (b ++ u) (place k) rest
unfolding place_digit
place_sound n b [] bs d k rest e = absurd (omega arith)
place_sound n b (x ∷ []) bs d k rest e = not_got e
place_sound n b (x ∷ (c ∷ u)) bs d k rest e = by (leb 48 c && leb c 55) refl e
  where
    by : (g : Bool) → leb 48 c && leb c 55 ≡ g → cond g (got (c - 48) u) refused ≡ got k rest → Parsed (Reads a_factor n) (b ++ (x ∷ (c ∷ u))) (place k) rest
    by true y q =
        let lo = leb-true 48 c (and_left (leb 48 c) (leb c 55) y) in
        let hi = leb-true c 55 (and_right (leb 48 c) (leb c 55) y) in
        let f : c - 48 ≡ k = cc in
        let r : u ≡ rest = cc in
        let m : 48 + k ≡ c = omega arith in
        record {
          used = b ++ (120 ∷ ((48 + k) ∷ []));
          whole = ap (λ z. b ++ (z ∷ (c ∷ u))) d ∙ ap (λ z. b ++ (120 ∷ (z ∷ u))) (sym m) ∙ ap (λ z. b ++ (120 ∷ ((48 + k) ∷ z))) r ∙ sym (append_assoc b (120 ∷ ((48 + k) ∷ [])) rest);
          reads = let below : k < 8 = omega arith in reads_place bs below;
        }
    by false y q = not_got q

atom_sound : (n : ℕ) (b u : List ℕ) → Blanks b → (t : Tree) (rest : List ℕ) → atom trees u ≡ got t rest → Parsed (Reads a_factor n) (b ++ u) t rest
unfolding atom
atom_sound n b u bs t rest e = by (is_digit (first u)) refl (eqb (first u) 120) refl e
  where
    by : (f : Bool) → is_digit (first u) ≡ f → (g : Bool) → eqb (first u) 120 ≡ g
        → cond f (map_read number (digits 0 u)) (cond g (map_read place (place_digit (behind u))) refused) ≡ got t rest → Parsed (Reads a_factor n) (b ++ u) t rest
    by true d g y q =
        let m = map_got number (digits 0 u) t rest q in
        subst (λ (x : Tree). Parsed (Reads a_factor n) (b ++ u) x rest) m.2 (number_sound n b u bs d m.0 rest m.1)
    by false d true y q =
        let m = map_got place (place_digit (behind u)) t rest q in
        subst (λ (x : Tree). Parsed (Reads a_factor n) (b ++ u) x rest) m.2 (place_sound n b u bs (eqb-true (first u) 120 y) m.0 rest m.1)
    by false d false y q = not_got q

-- the closing parenthesis and the blanks before it
pub closed_sound : {A : Type 0} (z : ℕ) → eqb 0 z ≡ false → (d : Read A) (t : A) (rest : List ℕ) → closed_by z d ≡ got t rest
    → (r e : List ℕ) × (d ≡ got t r) × Blanks e × (r ≡ e ++ (z ∷ rest))
unfolding closed_by
closed_sound z zf refused t rest e = not_got e
closed_sound z zf (got a r) t rest e = by (eqb (first (skip r)) z) refl e
  where
    by : (f : Bool) → eqb (first (skip r)) z ≡ f → cond f (got a (behind (skip r))) refused ≡ got t rest → (r' e : List ℕ) × (got a r ≡ got t r') × Blanks e × (r' ≡ e ++ (z ∷ rest))
    by true y q =
        let s = skip_split r in
        let f : a ≡ t = cc in
        let g : behind (skip r) ≡ rest = cc in (
          r,
          s.0,
          ap (λ x. got x r) f,
          s.1,
          s.2 ∙ ap (λ x. s.0 ++ x) (first_cons (λ c. eqb c z) zf (skip r) y ∙ ap (λ x. x ∷ behind (skip r)) (eqb-true (first (skip r)) z y) ∙ ap (λ x. z ∷ x) g),
        )
    by false y q = not_got q

-- what may stand in parentheses
abbrev Enclosed : ℕ → List ℕ → Tree → Type 0
Enclosed zero u t = ⊥
Enclosed (suc n) u t = Reads a_sum n u t

enclose : (n : ℕ) (u : List ℕ) (t : Tree) {b e : List ℕ} → Blanks b → Enclosed n u t → Blanks e → Reads a_factor n (b ++ (40 ∷ (u ++ (e ++ (41 ∷ []))))) t
enclose zero u t bs d es = absurd d
enclose (suc n) u t bs d es = reads_parentheses bs d es

module _ (n : ℕ) (inner-sound : Sound (Enclosed n) (within trees n)) where
  factor_sound : Sound (Reads a_factor n) (factor trees (within trees n))
  unfolding Sound factor
  factor_sound text t rest e = by (eqb (first (skip text)) 40) refl e
    where
      by : (f : Bool) → eqb (first (skip text)) 40 ≡ f → cond f (closed (within trees n (behind (skip text)))) (atom trees (skip text)) ≡ got t rest
          → Parsed (Reads a_factor n) text t rest
      by true y q =
          let s = skip_split text in
          let k = closed_sound 41 refl (within trees n (behind (skip text))) t rest q in
          let i = inner-sound (behind (skip text)) t k.0 k.2 in
          record {
            used = s.0 ++ (40 ∷ (i.used ++ (k.1 ++ (41 ∷ []))));
            whole =
                s.2
                ∙ ap (λ x. s.0 ++ x) (first_cons (λ c. eqb c 40) refl (skip text) y ∙ ap (λ x. x ∷ behind (skip text)) (eqb-true (first (skip text)) 40 y)
                ∙ ap (λ x. 40 ∷ x) (i.whole ∙ ap (λ x. i.used ++ x) (k.4 ∙ sym (append_assoc k.1 (41 ∷ []) rest)) ∙ sym (append_assoc i.used (k.1 ++ (41 ∷ [])) rest)))
                ∙ sym (append_assoc s.0 (40 ∷ (i.used ++ (k.1 ++ (41 ∷ [])))) rest);
            reads = enclose n i.used t s.1 i.reads k.3;
          }
      by false y q =
          let s = skip_split text in
          let i = atom_sound n s.0 (skip text) s.1 t rest q in
          record { used = i.used; whole = s.2 ∙ i.whole; reads = i.reads }

  one_sound : (text : List ℕ) (t : Tree) (rest : List ℕ) → factor trees (within trees n) text ≡ got t rest → Parsed (Reads a_product n) text t rest
  unfolding Sound
  one_sound text t rest e = let i = factor_sound text t rest e in record { used = i.used; whole = i.whole; reads = reads_one i.reads }

  times_step : (u b v : List ℕ) (c : ℕ) (s t : Tree) → Reads a_product n u s → Blanks b → is_star c ≡ true → Reads a_factor n v t
      → Reads a_product n (u ++ (b ++ (c ∷ v))) (join trees c s t)
  times_step u b v c s t d bs y e =
      subst (λ (x : ℕ). Reads a_product n (u ++ (b ++ (x ∷ v))) (join trees x s t)) (sym (eqb-true c 42 y)) (reads_times d bs e)

  product_sound : Sound (Reads a_product n) (product trees (within trees n))
  unfolding Sound product
  product_sound text =
      chained_sound (join trees) is_star refl (factor trees (within trees n)) (Reads a_product n) (Reads a_factor n) times_step factor_sound text (factor trees (within trees n) text) (one_sound text)

  alone_sound : (text : List ℕ) (t : Tree) (rest : List ℕ) → product trees (within trees n) text ≡ got t rest → Parsed (Reads a_sum n) text t rest
  unfolding Sound
  alone_sound text t rest e = let i = product_sound text t rest e in record { used = i.used; whole = i.whole; reads = reads_alone i.reads }

  sign_step : (u b v : List ℕ) (c : ℕ) (s t : Tree) → Reads a_sum n u s → Blanks b → is_sign c ≡ true → Reads a_product n v t
      → Reads a_sum n (u ++ (b ++ (c ∷ v))) (join trees c s t)
  sign_step u b v c s t d bs y e = by (eqb c 43) refl y
    where
      by : (f : Bool) → eqb c 43 ≡ f → f || eqb c 45 ≡ true → Reads a_sum n (u ++ (b ++ (c ∷ v))) (join trees c s t)
      by true q k = subst (λ (x : ℕ). Reads a_sum n (u ++ (b ++ (x ∷ v))) (join trees x s t)) (sym (eqb-true c 43 q)) (reads_plus d bs e)
      by false q k = subst (λ (x : ℕ). Reads a_sum n (u ++ (b ++ (x ∷ v))) (join trees x s t)) (sym (eqb-true c 45 k)) (reads_minus d bs e)

  pub sum_sound_by : Sound (Reads a_sum n) (sum trees (within trees n))
  unfolding Sound sum
  sum_sound_by text =
      chained_sound (join trees) is_sign refl (product trees (within trees n)) (Reads a_sum n) (Reads a_product n) sign_step product_sound text (product trees (within trees n) text) (alone_sound text)

within_sound : (n : ℕ) → Sound (Enclosed n) (within trees n)
unfolding Sound within
within_sound zero text t rest e = not_got e
within_sound (suc n) text t rest e = sum_sound_by n (within_sound n) text t rest e

-- what is accepted is an expression and the rest
pub reads_sound : (n : ℕ) (text : List ℕ) (t : Tree) (rest : List ℕ) → sum trees (within trees n) text ≡ got t rest → Parsed (Reads a_sum n) text t rest
unfolding Sound
reads_sound n text t rest e = sum_sound_by n (within_sound n) text t rest e

-- each position that is read is below 8
pub reads_proper : {l : Level} {n : ℕ} {u : List ℕ} {t : Tree} → Reads l n u t → Proper t
unfolding Proper
reads_proper (reads_number bs dg h) = tt
reads_proper (reads_place bs h) = h
reads_proper (reads_parentheses bs d es) = reads_proper d
reads_proper (reads_one d) = reads_proper d
reads_proper (reads_times d bs e) = (reads_proper d, reads_proper e)
reads_proper (reads_alone d) = reads_proper d
reads_proper (reads_plus d bs e) = (reads_proper d, reads_proper e)
reads_proper (reads_minus d bs e) = (reads_proper d, reads_proper e)
