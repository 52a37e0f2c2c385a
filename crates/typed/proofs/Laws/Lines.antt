-- Typed text: its reader accepts what the grammar has as the lines that the grammar gives it, and nothing else; so no text has two readings.
-- Each part of a line shows by its next symbol which it is, and lines end where nothing but blanks is left. Assumes nothing.
use mathlib.Core.Path.{◌≡◌, refl, sym, ap, subst, ◌∙◌}
use mathlib.Core.Bool.{Bool, true, false, cond}
use mathlib.Core.List.{List, [], ◌∷◌, ◌++◌, append_assoc, append-nil}
use Prim.Native.Nat.{ℕ, suc, ◌≤◌, ◌<◌}
use native.Mathlib.Omega.{arith}
use borrow.Author.Tests.{eq-eqb}
use lib.Dec.{eqb}
use lib.ListN.{length, length-append}
use Rattle.lists.specs.Lists.{Each, is_empty}
use Rattle.expression.specs.Grammar.{is_blank, Tree, Blanks, no_blanks, a_blank}
use Rattle.expression.specs.Outputs.{Outputs}
use Rattle.expression.specs.bridge.Text.{refused, got, map_read, skip, first, behind, expression_of, bracketed}
use Rattle.expression.proofs.Laws.Sound.{Parsed, Sound, not_got, skip_split, map_got}
use Rattle.expression.proofs.Laws.Complete.{skip_to}
use Rattle.expression.proofs.Laws.Listed.{outputs_sound, outputs_complete}
use Rattle.typed.specs.Grammar.{Pattern, Head, pattern, otherwise, Line, PatternText, else_word, arrow, semicolon, HeadText, a_pattern, the_word, LineText, line, TypedText}
use Rattle.typed.specs.bridge.Reader.{then_read, any_number, pattern_of, letters, symbol, head_of, right_of, line_of, ends_text, lines_of}
use Rattle.typed.proofs.Laws.Several.{then_got, several_sound, any_complete, strict_by}
use Rattle.typed.proofs.Laws.Patterns.{begins, patterns_sound, patterns_complete}

-- words, of characters other than 0

letters_sound : (w : List ℕ) → Each (λ c. eqb 0 c ≡ false) w → (t : List ℕ) (x : Unit {0}) (rest : List ℕ) → letters w t ≡ got x rest → t ≡ w ++ rest
unfolding letters
letters_sound [] n t x rest e = cc
letters_sound (c ∷ w) n t x rest e = by (eqb (first t) c) refl (letters_sound w n.1 (behind t) x rest) e
  where
    by : (f : Bool) → eqb (first t) c ≡ f → (letters w (behind t) ≡ got x rest → behind t ≡ w ++ rest) → cond f (letters w (behind t)) refused ≡ got x rest → t ≡ c ∷ (w ++ rest)
    by true y on q = begins c n.0 t y ∙ ap (λ v. c ∷ v) (on q)
    by false y on q = not_got q

letters_complete : (w r : List ℕ) → letters w (w ++ r) ≡ got tt r
unfolding letters
letters_complete [] r = refl
letters_complete (c ∷ w) r = rw (eq-eqb c c refl) (letters_complete w r)

symbol_sound : (w : List ℕ) → Each (λ c. eqb 0 c ≡ false) w → (t : List ℕ) (x : Unit {0}) (rest : List ℕ) → symbol w t ≡ got x rest → (b : List ℕ) × Blanks b × (t ≡ b ++ (w ++ rest))
unfolding symbol
symbol_sound w n t x rest e = let s = skip_split t in (s.0, s.1, s.2 ∙ ap (λ v. s.0 ++ v) (letters_sound w n (skip t) x rest e))

symbol_complete : (c : ℕ) (w : List ℕ) → is_blank c ≡ false → {b : List ℕ} → Blanks b → (r : List ℕ) → symbol (c ∷ w) (b ++ (c ∷ (w ++ r))) ≡ got tt r
unfolding symbol
symbol_complete c w n bs r = ap (letters (c ∷ w)) (skip_to c (w ++ r) bs n) ∙ letters_complete (c ∷ w) r

-- what stands before `==>`

head_sound : Sound HeadText head_of
unfolding Sound head_of
head_sound t h rest e = by (eqb (first (skip t)) 34) refl e
  where
    by : (f : Bool) → eqb (first (skip t)) 34 ≡ f → cond f (map_read pattern (pattern_of (behind (skip t)))) (map_read (λ _. otherwise) (symbol else_word t)) ≡ got h rest
        → Parsed HeadText t h rest
    by true y q =
        let m = map_got pattern (pattern_of (behind (skip t))) h rest q in
        let k = patterns_sound (behind (skip t)) m.0 rest m.1 in
        let s = skip_split t in
        record {
          used = s.0 ++ (34 ∷ k.used);
          whole = s.2 ∙ ap (λ v. s.0 ++ v) (begins 34 refl (skip t) y ∙ ap (λ v. 34 ∷ v) k.whole) ∙ sym (append_assoc s.0 (34 ∷ k.used) rest);
          reads = subst (λ (x : Head). HeadText (s.0 ++ (34 ∷ k.used)) x) m.2 (a_pattern s.1 k.reads);
        }
    by false y q =
        let m = map_got (λ _. otherwise) (symbol else_word t) h rest q in
        let s = symbol_sound else_word (refl, (refl, (refl, (refl, tt)))) t m.0 rest m.1 in
        record {
          used = s.0 ++ else_word;
          whole = s.2 ∙ sym (append_assoc s.0 else_word rest);
          reads = subst (λ (x : Head). HeadText (s.0 ++ else_word) x) m.2 (the_word s.1);
        }

-- the ways through a head
by_quote : (t v r : List ℕ) (p : Pattern) → skip t ≡ 34 ∷ v → pattern_of v ≡ got p r → head_of t ≡ got (pattern p) r
unfolding head_of map_read
by_quote t v r p e q = rw (e, q)

by_word : (t r : List ℕ) → skip t ≡ else_word ++ r → head_of t ≡ got otherwise r
unfolding head_of symbol letters map_read
by_word t r e = rw e

quoted : {u : List ℕ} {p : Pattern} → PatternText u p → (r : List ℕ) → u ++ r ≡ 34 ∷ behind (u ++ r)
quoted d r = rw d.whole

head_complete : {u : List ℕ} {h : Head} → HeadText u h → (r : List ℕ) → (head_of (u ++ r) ≡ got h r) × (ends_text (u ++ r) ≡ false)
head_complete (a_pattern {b = b} {u = u} {p = p} bs d) r =
    let s : skip ((b ++ u) ++ r) ≡ 34 ∷ behind (u ++ r) =
    ap skip (append_assoc b u r ∙ ap (λ v. b ++ v) (quoted d r)) ∙ skip_to 34 (behind (u ++ r)) bs refl in
    (by_quote ((b ++ u) ++ r) (behind (u ++ r)) r p s (patterns_complete d r), ap is_empty s)
head_complete (the_word {b = b} bs) r =
    let s : skip ((b ++ else_word) ++ r) ≡ else_word ++ r = ap skip (append_assoc b else_word r) ∙ skip_to 101 (108 ∷ 115 ∷ 101 ∷ r) bs refl in
    (by_word ((b ++ else_word) ++ r) r s, ap is_empty s)

-- what stands behind a head

data Right : List ℕ → List Tree → Type 0 where
  right : {b v e : List ℕ} {ts : List Tree} → Blanks b → Outputs v ts → Blanks e → Right (b ++ (arrow ++ (v ++ (e ++ semicolon)))) ts

regroup : (b v e r : List ℕ) → (b ++ (arrow ++ (v ++ (e ++ semicolon)))) ++ r ≡ b ++ (arrow ++ (v ++ (e ++ (semicolon ++ r))))
regroup b v e r = simp append_assoc

right_sound : Sound Right right_of
unfolding Sound right_of
right_sound t ts rest e =
    let s = then_got (symbol arrow t) _ ts rest e in
    let k = then_got (bracketed expression_of s.1) _ ts rest s.3 in
    let z = then_got (symbol semicolon k.1) _ ts rest k.3 in
    let a = symbol_sound arrow (refl, (refl, (refl, tt))) t s.0 s.1 s.2 in
    let o = outputs_sound s.1 k.0 k.1 k.2 in
    let c = symbol_sound semicolon (refl, tt) k.1 z.0 z.1 z.2 in
    let same : k.0 ≡ ts = cc z.3 in
    let end : z.1 ≡ rest = cc z.3 in
    record {
      used = a.0 ++ (arrow ++ (o.used ++ (c.0 ++ semicolon)));
      whole =
          a.2
          ∙ ap (λ x. a.0 ++ (arrow ++ x)) (o.whole ∙ ap (λ x. o.used ++ x) (c.2 ∙ ap (λ x. c.0 ++ (semicolon ++ x)) end))
          ∙ sym (regroup a.0 o.used c.0 rest);
      reads = subst (λ (x : List Tree). Right (a.0 ++ (arrow ++ (o.used ++ (c.0 ++ semicolon)))) x) same (right a.1 o.reads c.1);
    }

right_complete : {w : List ℕ} {ts : List Tree} → Right w ts → (r : List ℕ) → right_of (w ++ r) ≡ got ts r
unfolding right_of then_read
right_complete (right {b = b} {v = v} {e = e} bs o es) r =
    rw (regroup b v e r, symbol_complete 61 (61 ∷ 62 ∷ []) refl bs (v ++ (e ++ (semicolon ++ r))), outputs_complete o (e ++ (semicolon ++ r)), symbol_complete 59 [] refl es r)

-- a line

lined : {u w : List ℕ} {h : Head} {ts : List Tree} → HeadText u h → Right w ts → LineText (u ++ w) (record { head = h; outputs = ts })
lined d (right bs o es) = line d bs o es

line_sound : Sound LineText line_of
unfolding Sound line_of
line_sound t l rest e =
    let s = then_got (head_of t) _ l rest e in
    let m = map_got (λ ts. record { head = s.0; outputs = ts }) (right_of s.1) l rest s.3 in
    let a = head_sound t s.0 s.1 s.2 in
    let b = right_sound s.1 m.0 rest m.1 in
    record {
      used = a.used ++ b.used;
      whole = a.whole ∙ ap (λ x. a.used ++ x) b.whole ∙ sym (append_assoc a.used b.used rest);
      reads = subst (λ (x : Line). LineText (a.used ++ b.used) x) m.2 (lined a.reads b.reads);
    }

pub line_strict : (t : List ℕ) (l : Line) (r : List ℕ) → line_of t ≡ got l r → length r < length t
line_strict = strict_by LineText line_of line_sound (λ u l d. long d)
  where
    long : {u : List ℕ} {l : Line} → LineText u l → 1 ≤ length u
    long (line {u = u} {b = b} {v = v} {e = e} h bs o es) =
        let rest : List ℕ = v ++ (e ++ semicolon) in
        omega (arith, length-append u (b ++ (arrow ++ rest)), length-append b (arrow ++ rest))

-- a head and what stands behind it
line_of_lem : (t w r : List ℕ) (h : Head) (ts : List Tree) → head_of t ≡ got h w → right_of w ≡ got ts r → line_of t ≡ got (record { head = h; outputs = ts }) r
unfolding line_of then_read map_read
line_of_lem t w r h ts e q = rw (e, q)

line_complete : (u : List ℕ) (l : Line) (r : List ℕ) → LineText u l → (line_of (u ++ r) ≡ got l r) × (ends_text (u ++ r) ≡ false)
line_complete x l r (line {u = u} {b = b} {v = v} {e = e} {h = h} {ts = ts} d bs o es) =
    let w : List ℕ = b ++ (arrow ++ (v ++ (e ++ semicolon))) in
    let k = head_complete d (w ++ r) in
    rw (append_assoc u w r) (line_of_lem (u ++ (w ++ r)) (w ++ r) r h ts k.0 (right_complete (right bs o es) r), k.1)

-- where nothing but blanks is left

skip_blanks : {b : List ℕ} → Blanks b → skip b ≡ []
unfolding skip
skip_blanks no_blanks = refl
skip_blanks (a_blank h bs) = rw h (skip_blanks bs)

none_left : (t : List ℕ) → ends_text t ≡ true → Blanks t
none_left t e = let s = skip_split t in subst (λ (u : List ℕ). Blanks u) (sym (s.2 ∙ ap (λ v. s.0 ++ v) (empty (skip t) e) ∙ append-nil s.0)) s.1
  where
    empty : (v : List ℕ) → is_empty v ≡ true → v ≡ []
    empty [] e = refl
    empty (c ∷ v) e = let z : ◌≡◌ {A = ℕ} 0 1 = ap (λ b. cond b 1 0) e in absurd (omega arith)

pub lines_sound : (text : List ℕ) (ls : List Line) (rest : List ℕ) → lines_of text ≡ got ls rest → TypedText text ls
unfolding lines_of any_number
lines_sound text ls rest e =
    let k = several_sound line_of ends_text LineText line_sound (suc (length text)) text ls rest e in
    record { typed = k.0.used; end = rest; lines = k.0.reads; blanks = none_left rest k.1; whole = k.0.whole }

pub lines_complete : (text : List ℕ) (ls : List Line) → TypedText text ls → (rest : List ℕ) × (lines_of text ≡ got ls rest)
unfolding lines_of
lines_complete text ls d = (
  d.end,
  ap lines_of d.whole
      ∙ any_complete line_of ends_text LineText (λ _. Unit {0}) (λ u l r t _. (line_complete u l r t).0) (λ u l r t. ((line_complete u l r t).1, tt)) line_strict ls d.typed d.end d.lines tt
      (ap is_empty (skip_blanks d.blanks)),
)

-- a text has no two readings
pub one_reading : (text : List ℕ) (ls ms : List Line) → TypedText text ls → TypedText text ms → ls ≡ ms
one_reading text ls ms d e =
    let a = lines_complete text ls d in
    let b = lines_complete text ms e in
    let same : got ls a.0 ≡ got ms b.0 = sym a.1 ∙ b.1 in
    cc
