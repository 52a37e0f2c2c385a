-- An accepted text's table means what the text means: same choices, same characters, same end.
-- Definition 7 looks at no output character, and an output character has its expression's value at every word.
use mathlib.Core.Bool.{Bool, true, false, cond}
use mathlib.Core.List.{List, [], ◌∷◌, ◌++◌, map}
use mathlib.Core.Logic.{◌≢◌}
use Rattle.std.specs.Prelude.{Option, None, Some}
use mathlib.Core.Path.{◌≡◌, refl, sym, ap, ap₂, subst, ◌∙◌}
use Prim.Native.Nat.{ℕ, zero, suc, pred, ◌<◌}
use native.Mathlib.Omega.{arith}
use borrow.Author.Tests.{ne_eqb}
use lib.Dec.{eqb}
use lib.IntN.{ℤ, pos, negsuc, nat_abs, ◌+ℤ◌, ◌*ℤ◌}
use lib.ListN.{get_or, get_or-map}
use Rattle.lists.specs.Lists.{Each, flat_map, or_else}
use Rattle.lists.proofs.Laws.Each.{each_append, each_anywhere}
use Rattle.meaning.specs.Refusal.{accepted}
use Rattle.meaning.specs.Table.{Group, unmarked, Paired, Table, mode_of, mode, every_character, rule_at, group, default_number, pair_number}
use Rattle.meaning.specs.Value.{dot, value}
use Rattle.meaning.specs.Meaning.{choose, written, Emission, text_of, covered, convert_by, convert_from, convert, meaning_text, meaning_place}
use Rattle.meaning.specs.Reader.{read_table}
use Rattle.meaning.specs.Records.{terms}
use Rattle.meaning.specs.bridge.Flat.{mark_by}
use Rattle.meaning.proofs.Laws.Shape.{Shaped}
use Rattle.meaning.proofs.Laws.Reading.{read_shaped}
use Rattle.meaning.proofs.Laws.Direct.{table_rules}
use Rattle.meaning.proofs.Laws.Choice.{Numbered, plain, paired, choose_number}
use Rattle.meaning.proofs.Laws.Terms.{all_put, put_behind}
use Rattle.meaning.proofs.Laws.Bare.{bare_group, bare_default, bare, convert_bare}
use Rattle.expression.specs.Grammar.{Tree}
use Rattle.expression.specs.Value.{value_at}
use Rattle.expression.specs.bridge.Forms.{affine_at}
use Rattle.expression.proofs.Laws.Affine.{dot_zeros, affine_value}
use Rattle.typed.specs.Grammar.{Head, pattern, otherwise, Line}
use Rattle.typed.specs.Records.{part_of, constant, coefficients, lines_within17, records}
use Rattle.typed.specs.Meaning.{rule_of, default_of, group_of, first_of, patterns, silent, expressions, writes, choices, typed_text, typed_place}
use Rattle.typed.proofs.Laws.Bytes.{LinesProper}
use Rattle.typed.proofs.Laws.Grouped.{trimmed, output_of, Fitting}
use Rattle.typed.proofs.Laws.Tables.{line_group, table_of, LineFits, lines_fit, head_bare, accepted_table}

-- values

dot_behind : (a : ℤ) (ks js : List ℤ) → ((w : List ℕ) → dot ks w ≡ dot js w) → (w : List ℕ) → dot (a ∷ ks) w ≡ dot (a ∷ js) w
unfolding dot
dot_behind a ks js h [] = refl
dot_behind a ks js h (c ∷ w) = ap (λ z. a *ℤ pos c +ℤ z) (h w)

-- a first coefficient of 0 adds nothing, whether or not it has a place
zero_first : (i : ℕ) (ks : List ℤ) (w : List ℕ) → dot (all_put (terms (suc i) ks) []) w ≡ dot (all_put (terms (suc i) ks) (pos 0 ∷ [])) w
unfolding dot
zero_first i [] w = sym (dot_zeros 1 w)
zero_first i (pos zero ∷ ks) w = zero_first (suc i) ks w
zero_first i (pos (suc a) ∷ ks) w = refl
zero_first i (negsuc a ∷ ks) w = refl

-- a first coefficient, and the others behind it
first_put : (a : ℤ) (ks : List ℤ) → ((w : List ℕ) → dot (trimmed ks) w ≡ dot ks w) → (w : List ℕ) → dot (all_put (terms 1 ks) (a ∷ [])) w ≡ dot (a ∷ ks) w
first_put a ks h w = ap (λ l. dot l w) (put_behind 0 a ks []) ∙ dot_behind a (trimmed ks) ks h w

-- zeros behind the last coefficient add nothing
dot_trimmed : (ks : List ℤ) (w : List ℕ) → dot (trimmed ks) w ≡ dot ks w
dot_trimmed [] w = refl
dot_trimmed (pos zero ∷ ks) w = zero_first 0 ks w ∙ first_put (pos 0) ks (dot_trimmed ks) w
dot_trimmed (pos (suc a) ∷ ks) w = first_put (pos (suc a)) ks (dot_trimmed ks) w
dot_trimmed (negsuc a ∷ ks) w = first_put (negsuc a) ks (dot_trimmed ks) w

pub value_meant : (t : Tree) → Fitting t → (w : List ℕ) → value (output_of t) w ≡ value_at w t
unfolding value affine_at
value_meant t f w = ap (λ z. constant (part_of t) +ℤ z) (dot_trimmed (coefficients (part_of t)) w) ∙ affine_value t f.proper f.fine w

-- what the line of a number writes

line_written : (w : List ℕ) (l : Line) → LineFits l → written (line_group l) w ≡ map (λ t. nat_abs (value_at w t)) l.outputs
unfolding written
line_written w l f = each l.outputs f.outputs
  where
    each : (ts : List Tree) → Each Fitting ts → map (λ o. nat_abs (value o w)) (map output_of ts) ≡ map (λ t. nat_abs (value_at w t)) ts
    each [] h = refl
    each (t ∷ ts) h = ap₂ (λ x xs. x ∷ xs) (ap nat_abs (value_meant t h.0 w)) (each ts h.1)

picked : (P : Line → Type 0) (f : Line → List Line) → ((l : Line) → P l → Each P (f l)) → (ls : List Line) → Each P ls → Each P (flat_map f ls)
picked P f h [] e = tt
picked P f h (l ∷ ls) e = each_append P (f l) (flat_map f ls) (h l e.0) (picked P f h ls e.1)

rule_one : (P : Line → Type 0) (h : Head) (ts : List Tree) → P (record { head = h; outputs = ts }) → Each P (rule_of (record { head = h; outputs = ts }))
rule_one P (pattern p) ts h = (h, tt)
rule_one P otherwise ts h = tt

default_one : (P : Line → Type 0) (h : Head) (ts : List Tree) → P (record { head = h; outputs = ts }) → Each P (default_of (record { head = h; outputs = ts }))
default_one P (pattern p) ts h = tt
default_one P otherwise ts h = (h, tt)

-- the line of a number
abbrev pub line_at_lem : List Line → ℕ → Line
line_at_lem ls n = cond (eqb n default_number) (get_or (flat_map default_of ls) 0 silent) (get_or (flat_map rule_of ls) n silent)

pub group_line : (ls : List Line) (n : ℕ) → n < pair_number → group (table_of ls) n ≡ line_group (line_at_lem ls n)
unfolding group table_of
group_line ls n h = rw (ne_eqb n 33 (omega arith)) (of (eqb n default_number))
  where
    first : (ds : List Line) → or_else (every_character []) (first_of (map line_group ds)) ≡ line_group (get_or ds 0 silent)
    first [] = refl
    first (d ∷ ds) = refl

    of : (b : Bool) → cond b (or_else (every_character []) (table_of ls).default) (rule_at (table_of ls) n)
        ≡ line_group (cond b (get_or (flat_map default_of ls) 0 silent) (get_or (flat_map rule_of ls) n silent))
    of true = first (flat_map default_of ls)
    of false = get_or-map line_group (flat_map rule_of ls) n silent

pub line_expressions : (ls : List Line) (n : ℕ) → expressions ls n ≡ (line_at_lem ls n).outputs
unfolding expressions
line_expressions ls n = of (eqb n default_number)
  where
    of : (b : Bool) → cond b (get_or (flat_map default_of ls) 0 silent).outputs (get_or (flat_map rule_of ls) n silent).outputs
        ≡ (cond b (get_or (flat_map default_of ls) 0 silent) (get_or (flat_map rule_of ls) n silent)).outputs
    of true = refl
    of false = refl

pub line_at : (P : Line → Type 0) (ls : List Line) (n : ℕ) → Each P ls → P silent → P (line_at_lem ls n)
line_at P ls n e s = of (eqb n default_number)
  where
    of : (b : Bool) → P (cond b (get_or (flat_map default_of ls) 0 silent) (get_or (flat_map rule_of ls) n silent))
    of true = each_anywhere P (flat_map default_of ls) 0 silent (picked P default_of (λ l. default_one P l.head l.outputs) ls e) s
    of false = each_anywhere P (flat_map rule_of ls) n silent (picked P rule_of (λ l. rule_one P l.head l.outputs) ls e) s

written_meant : (ls : List Line) → Each LineFits ls → (n : ℕ) (w : List ℕ) → n < pair_number → written (group (table_of ls) n) w ≡ writes ls n w
unfolding writes
written_meant ls f n w h =
    ap (λ g. written g w) (group_line ls n h)
    ∙ line_written w (line_at_lem ls n) (line_at LineFits ls n f (record { head = tt; outputs = tt }))
    ∙ ap (map (λ t. nat_abs (value_at w t))) (sym (line_expressions ls n))

-- the choices

bare_groups : (ls : List Line) → map bare_group (map line_group ls) ≡ map group_of ls
bare_groups [] = refl
bare_groups (l ∷ ls) = ap₂ (λ g gs. g ∷ gs) (sym (head_bare l.head)) (bare_groups ls)

bare_first : (ls : List Line) → bare_default (first_of (map line_group ls)) ≡ first_of (map group_of ls)
bare_first [] = refl
bare_first (l ∷ ls) = ap Some (sym (head_bare l.head))

pub bare_table : (ls : List Line) → bare (table_of ls) ≡ patterns ls
unfolding table_of patterns
bare_table ls =
    λ i. record { rules = bare_groups (flat_map rule_of ls) i; default = bare_first (flat_map default_of ls) i; mark = same (table_of ls).default i }
  where
    same : (d : Option Group) → mark_by (mode_of d unmarked) ≡ unmarked
    same None = refl
    same (Some g) = refl

same_choices : (ls : List Line) (input : List ℕ) → convert (table_of ls) input ≡ choices ls input
unfolding choices
same_choices ls input = sym (convert_bare (table_of ls) input) ∙ ap (λ t. convert t input) (bare_table ls)

-- no text has a mark, so that no pair is chosen

lines_single : (ls : List Line) → mode (table_of ls) ≢ Paired
unfolding table_of
lines_single ls = of (first_of (map line_group (flat_map default_of ls)))
  where
    of : (d : Option Group) → mode_of d unmarked ≢ Paired
    of None e = let z : ◌≡◌ {A = ℕ} 0 1 = cc in omega arith
    of (Some g) e = let z : ◌≡◌ {A = ℕ} 0 1 = cc in omega arith

module _ (t : Table) (s : Shaped t) (single : mode t ≢ Paired) where
  pub chosen_plain : (u : List ℕ) (n : ℕ) → choose t u ≡ Some n → n < pair_number
  chosen_plain u n e = of (choose_number t s u n e)
    where
      of : Numbered t u n → n < pair_number
      of (plain l) = l
      of (paired p m q) = absurd (single m)

  from_plain : (skip : ℕ) (u : List ℕ) → Each (λ e. e.group < pair_number) (convert_from t skip u).log
  unfolding convert_from
  from_plain skip [] = tt
  from_plain (suc skip) (c ∷ u) = from_plain skip u
  from_plain zero (c ∷ u) = go (choose t (c ∷ u)) (chosen_plain (c ∷ u)) (λ skip. from_plain skip u)
    where
      go : (o : Option ℕ) → ((n : ℕ) → o ≡ Some n → n < pair_number) → ((skip : ℕ) → Each (λ e. e.group < pair_number) (convert_from t skip u).log) →
          Each (λ e. e.group < pair_number) (convert_by t o (c ∷ u) (λ skip. convert_from t skip u)).log
      go None f onward = tt
      go (Some n) f onward = (f n refl, onward (pred (group t n).size))

same_text : (f g : ℕ → List ℕ → List ℕ) → ((n : ℕ) (w : List ℕ) → n < pair_number → f n w ≡ g n w) → (log : List Emission) →
    Each (λ e. e.group < pair_number) log → text_of f log ≡ text_of g log
unfolding text_of
same_text f g h [] a = refl
same_text f g h (e ∷ log) a = ap₂ (λ u v. u ++ v) (h e.group e.word a.0) (same_text f g h log a.1)

module _ (ls : List Line) (proper : LinesProper ls) (fine : lines_within17 ls ≡ true) (t : Table) (read : read_table (records ls) ≡ accepted t) (input : List ℕ) where
  pub is_single : mode t ≢ Paired
  is_single = subst (λ t. mode t ≢ Paired) (sym (accepted_table ls proper fine t read)) (lines_single ls)

  pub meant_choices : convert t input ≡ choices ls input
  meant_choices = ap (λ t. convert t input) (accepted_table ls proper fine t read) ∙ same_choices ls input

  pub meant_text : meaning_text t input ≡ typed_text ls input
  unfolding convert
  meant_text =
      same_text (λ n w. written (group t n) w) (writes ls)
      (λ n w h. ap (λ t. written (group t n) w) (accepted_table ls proper fine t read) ∙ written_meant ls (lines_fit ls proper fine) n w h)
      (convert t input).log (from_plain t (read_shaped (records ls) t (table_rules (records ls) t read)) is_single 0 input)
      ∙ ap (λ c. text_of (writes ls) c.log) meant_choices

  pub meant_place : meaning_place t input ≡ typed_place ls input
  meant_place = ap (λ c. covered c.log) meant_choices

  pub meant_closed : (convert t input).closed ≡ (choices ls input).closed
  meant_closed = ap (λ c. c.closed) meant_choices
