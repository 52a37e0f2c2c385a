-- In an accepted text every value of an expression, at a word that its pattern takes, is a character.
-- The table check found it so of the table's output characters, and what is chosen for a word takes it.
use mathlib.Core.List.{List, [], ◌∷◌, map}
use mathlib.Core.Bool.{true}
use mathlib.Core.Logic.{◌≢◌}
use Rattle.std.specs.Prelude.{Option, None, Some}
use mathlib.Core.Path.{◌≡◌, refl, sym, ap, subst, ◌∙◌}
use Prim.Native.Nat.{ℕ, zero, suc, pred, ◌<◌}
use native.Mathlib.Omega.{arith}
use borrow.Author.Tests.{ne_eqb}
use lib.Dec.{T, eqb}
use lib.ListN.{take}
use Rattle.lists.specs.Lists.{Each, or_else, optional}
use Rattle.lists.proofs.Laws.Tests.{of_cond}
use Rattle.lists.proofs.Laws.Each.{each_front, each_back, each_weaken, each_anywhere}
use Rattle.meaning.specs.Refusal.{accepted}
use Rattle.meaning.specs.Table.{Characters, Group, Paired, Table, mode, every_character, rule_at, group, default_number, pair_number}
use Rattle.meaning.specs.Value.{value, fits_word, IsCharacter, SafeTable}
use Rattle.meaning.specs.Meaning.{Emission, choose, convert_by, convert_from, convert}
use Rattle.meaning.specs.Reader.{read_table}
use Rattle.meaning.proofs.Laws.Shape.{ShapedDefault, Shaped}
use Rattle.meaning.proofs.Laws.Groups.{default_each, group_rule, group_default, some_default, SafeGroup, safe_group}
use Rattle.meaning.proofs.Laws.Reading.{read_shaped}
use Rattle.meaning.proofs.Laws.Direct.{table_rules, table_values}
use Rattle.rules.proofs.Laws.Converting.{choose_cases, every_fits}
use Rattle.expression.specs.Grammar.{Tree}
use Rattle.expression.specs.Value.{value_at}
use Rattle.typed.specs.Grammar.{Line}
use Rattle.typed.specs.Records.{lines_within17, records}
use Rattle.typed.specs.Meaning.{expressions, choices}
use Rattle.typed.proofs.Laws.Bytes.{LinesProper}
use Rattle.typed.proofs.Laws.Grouped.{output_of, Fitting}
use Rattle.typed.proofs.Laws.Tables.{line_group, LineFits, lines_fit, accepted_table}
use Rattle.typed.proofs.Laws.Meant.{value_meant, line_at_lem, group_line, line_expressions, line_at, chosen_plain, is_single, meant_choices}

-- the group of a number is safe in a safe table
group_safe : (t : Table) → SafeTable t → (n : ℕ) → n < pair_number → SafeGroup (group t n)
unfolding group SafeTable
group_safe t s n below =
    rw (ne_eqb n 33 (omega arith))
    (of_cond SafeGroup (eqb n default_number) (or_else (every_character []) t.default) (rule_at t n)
    (λ _. of_default t.default (each_back SafeGroup t.rules (optional t.default) s))
    (λ _. each_anywhere SafeGroup t.rules n (every_character []) (each_front SafeGroup t.rules (optional t.default) s) tt))
  where
    of_default : (d : Option Group) → Each SafeGroup (optional d) → SafeGroup (or_else (every_character []) d)
    of_default None h = tt
    of_default (Some g) h = h.0

-- the group chosen takes the characters that it is chosen for

abbrev Takes : Table → Emission → Type 0
Takes t e = T (fits_word (group t e.group).ranges e.word) × (e.group < pair_number)

module _ (t : Table) (s : Shaped t) (single : mode t ≢ Paired) where
  chosen_takes : (c : ℕ) (u : List ℕ) (n : ℕ) → c < 65536 → choose t (c ∷ u) ≡ Some n → T (fits_word (group t n).ranges (take (group t n).size (c ∷ u)))
  chosen_takes c u n h e =
      choose_cases t (c ∷ u) n e
      (λ l f. subst Fits (sym (group_rule t n s l)) f.match)
      (λ p q.
      let d = some_default t.default t.mark q in
      let w : ShapedDefault d.0 = default_each ShapedDefault t d.0 d.1 s.default in
      subst Fits (sym (ap (group t) p ∙ group_default t d.0 d.1)) (subst (λ k. T (fits_word d.0.ranges (take k (c ∷ u)))) (sym w.size) (every_fits d.0 c w h)))
      (λ p q. let l = chosen_plain t s single (c ∷ u) n e in absurd (omega arith))
    where
      Fits : Group → Type 0
      Fits g = T (fits_word g.ranges (take g.size (c ∷ u)))

  from_takes : (skip : ℕ) (u : List ℕ) → Characters u → Each (Takes t) (convert_from t skip u).log
  unfolding convert_from
  from_takes skip [] h = tt
  from_takes (suc skip) (c ∷ u) h = from_takes skip u h.1
  from_takes zero (c ∷ u) h = go (choose t (c ∷ u)) (λ n e. (chosen_takes c u n h.0 e, chosen_plain t s single (c ∷ u) n e)) (λ skip. from_takes skip u h.1)
    where
      go : (o : Option ℕ) → ((n : ℕ) → o ≡ Some n → T (fits_word (group t n).ranges (take (group t n).size (c ∷ u))) × (n < pair_number)) → ((skip : ℕ) → Each (Takes t) (convert_from t skip u).log) →
          Each (Takes t) (convert_by t o (c ∷ u) (λ skip. convert_from t skip u)).log
      go None f onward = tt
      go (Some n) f onward = (f n refl, onward (pred (group t n).size))

-- the values of the output characters are those of the expressions
same_values : (w : List ℕ) (ts : List Tree) → Each Fitting ts → Each (λ o. IsCharacter (value o w)) (map output_of ts) → Each (λ t. IsCharacter (value_at w t)) ts
same_values w [] f h = tt
same_values w (t ∷ ts) f h = (subst IsCharacter (value_meant t f.0 w) h.0, same_values w ts f.1 h.1)

module _ (ls : List Line) (proper : LinesProper ls) (fine : lines_within17 ls ≡ true) (t : Table) (read : read_table (records ls) ≡ accepted t) where
  group_values : (n : ℕ) (w : List ℕ) → n < pair_number → T (fits_word (group t n).ranges w) → Each (λ x. IsCharacter (value_at w x)) (expressions ls n)
  group_values n w below h =
      let l = line_at_lem ls n in
      let same : group t n ≡ line_group l = ap (λ t. group t n) (accepted_table ls proper fine t read) ∙ group_line ls n below in
      let values : Each (λ o. IsCharacter (value o w)) (line_group l).outputs =
      subst (λ g. Each (λ o. IsCharacter (value o w)) g.outputs) same (safe_group (group t n) w h (group_safe t (table_values (records ls) t read) n below)) in
      subst (Each (λ x. IsCharacter (value_at w x))) (sym (line_expressions ls n))
      (same_values w l.outputs (line_at LineFits ls n (lines_fit ls proper fine) (record { head = tt; outputs = tt })).outputs values)

  -- each choice made in the conversion of an input
  pub chosen_values : (input : List ℕ) → Characters input → Each (λ e. Each (λ x. IsCharacter (value_at e.word x)) (expressions ls e.group)) (choices ls input).log
  unfolding convert
  chosen_values input h =
      let Good : Emission → Type 0 = λ e. Each (λ x. IsCharacter (value_at e.word x)) (expressions ls e.group) in
      subst (λ c. Each Good c.log) (meant_choices ls proper fine t read input)
      (each_weaken (Takes t) Good (convert t input).log (λ e h. group_values e.group e.word h.1 h.0)
      (from_takes t (read_shaped (records ls) t (table_rules (records ls) t read)) (is_single ls proper fine t read input) 0 input h))
