-- The groups of a table: what their numbers name, how long a rule is, how much a group writes, and that a safe one writes characters.
-- Each is a group of the table's list, over which the longest pattern and the expansion are the greatest values.
use mathlib.Core.Bool.{true, false≢true, cond}
use mathlib.Core.List.{List, [], ◌∷◌}
use Rattle.std.specs.Prelude.{Option, None, Some}
use mathlib.Core.Logic.{◌≢◌}
use mathlib.Core.Path.{◌≡◌, refl, ap, ap₂, subst, ◌∙◌}
use Prim.Native.Nat.{ℕ, ◌≤◌, ◌<◌}
use native.Mathlib.Omega.{arith}
use lib.Dec.{T, eqb, eqb→eq}
use lib.IntN.{nat_abs}
use lib.ListN.{length, length-map}
use Rattle.lists.specs.Lists.{Each, greatest, is_some, or_else, optional}
use Rattle.lists.proofs.Laws.Tests.{of_cond}
use Rattle.lists.proofs.Laws.Each.{each_append, each_front, each_back, each_weaken, each_get_d, each_anywhere}
use Rattle.lists.proofs.Laws.Sets.{greatest_above, greatest_le}
use Rattle.meaning.specs.Table.{Group, Mark, unmarked, marked, Mode, Absent, Single, Paired, Table, mode_of, mode, present, least, every_character, pair_group, groups, rule_at, default_number, pair_number, group, longest, expansion}
use Rattle.meaning.specs.Value.{dot, value, fits_word, IsCharacter, SafeOutput}
use Rattle.meaning.specs.Meaning.{written}
use Rattle.meaning.proofs.Laws.Shape.{ShapedGroup, ShapedDefault, Shaped}

pub rule_shaped : (t : Table) → Shaped t → (r : ℕ) → r < length t.rules → ShapedGroup (rule_at t r)
rule_shaped t s r h = each_get_d ShapedGroup t.rules r (every_character []) s.rules h

-- what holds of the default, if there is one
pub default_each : (P : Group → Type 0) (t : Table) (g : Group) → t.default ≡ Some g → Each P (optional t.default) → P g
default_each P t g e a = (subst (λ o. Each P (optional o)) e a).0

-- the groups of the numbers

pub group_rule : (t : Table) (r : ℕ) → Shaped t → r < length t.rules → group t r ≡ rule_at t r
unfolding group
group_rule t r s h =
    let few : length t.rules ≤ 32 = s.few_rules in
    let other = cond (eqb r default_number) (or_else (every_character []) t.default) (rule_at t r) in
    of_cond (λ g. g ≡ rule_at t r) (eqb r pair_number) pair_group other
    (λ e. let p : r ≡ 33 = eqb→eq r 33 e in absurd (omega arith))
    (λ _.
    of_cond (λ g. g ≡ rule_at t r) (eqb r default_number) (or_else (every_character []) t.default) (rule_at t r)
    (λ e. let p : r ≡ 32 = eqb→eq r 32 e in absurd (omega arith)) (λ e. refl))

pub group_default : (t : Table) (g : Group) → t.default ≡ Some g → group t default_number ≡ g
unfolding group
group_default t g p = rw p

pub group_pair : (t : Table) → group t pair_number ≡ pair_group
unfolding group
group_pair t = refl

-- a mode with a default
pub some_default : (o : Option Group) (k : Mark) → present (mode_of o k) ≡ true → (g : Group) × (o ≡ Some g)
some_default None k e = absurd (false≢true e)
some_default (Some g) k e = (g, refl)

pub mode_present : (o : Option Group) (k : Mark) → present (mode_of o k) ≡ is_some o
mode_present None k = refl
mode_present (Some g) unmarked = refl
mode_present (Some g) marked = refl

pub default_size : (t : Table) → Shaped t → present (mode t) ≡ true → (group t default_number).size ≡ 1
default_size t s h =
    let d = some_default t.default t.mark h in
    ap (λ a. a.size) (group_default t d.0 d.1) ∙ (default_each ShapedDefault t d.0 d.1 s.default).size

-- the longest pattern

module _ (t : Table) where
  pub longest_le : (r : ℕ) → r < length t.rules → (rule_at t r).size ≤ longest t
  unfolding longest
  longest_le r h =
      let L = greatest (λ g. g.size) t.rules in
      each_get_d (λ g. g.size ≤ L) t.rules r (every_character []) (greatest_above (λ g. g.size) L t.rules (omega arith)) h

  pub longest_small : Shaped t → longest t ≤ 8
  unfolding longest
  longest_small s = greatest_le (λ g. g.size) 8 t.rules (each_weaken ShapedGroup (λ g. g.size ≤ 8) t.rules (λ g a. a.small) s.rules)

  pub longest_positive : Shaped t → 1 ≤ longest t
  longest_positive s =
      let some_size = (rule_shaped t s 0 s.some_rule).positive in
      let least = longest_le 0 s.some_rule in
      omega arith

-- the expansion

pub group_short : (t : Table) (n : ℕ) → n ≢ pair_number → length (group t n).outputs ≤ expansion t
unfolding group expansion
group_short t n other =
    let E = expansion t in
    let Short : Group → Type 0 = λ g. length g.outputs ≤ E in
    let short : Each Short (groups t) = greatest_above (λ g. length g.outputs) E (groups t) (omega arith) in
    of_cond Short (eqb n pair_number) pair_group (cond (eqb n default_number) (or_else (every_character []) t.default) (rule_at t n))
    (λ e. absurd (other (eqb→eq n 33 e)))
    (λ _.
    of_cond Short (eqb n default_number) (or_else (every_character []) t.default) (rule_at t n)
    (λ _. of_default E t.default (each_back Short t.rules (optional t.default) short))
    (λ _. each_anywhere Short t.rules n (every_character []) (each_front Short t.rules (optional t.default) short) (omega arith)))
  where
    of_default : (E : ℕ) (d : Option Group) → Each (λ g. length g.outputs ≤ E) (optional d) → length (or_else (every_character []) d).outputs ≤ E
    of_default E None h = omega arith
    of_default E (Some g) h = h.0

pub least_small : (m : Mode) → least m ≤ 1
least_small Absent = omega arith
least_small Single = omega arith
least_small Paired = omega arith

pub expansion_small : (t : Table) → Shaped t → expansion t ≤ 8
unfolding expansion
expansion_small t s =
    let few : Group → Type 0 = λ g. length g.outputs ≤ 8 in
    let most : greatest (λ g. length g.outputs) (groups t) ≤ 8 =
    greatest_le (λ g. length g.outputs) 8 (groups t)
    (each_append few t.rules (optional t.default)
    (each_weaken ShapedGroup few t.rules (λ g a. a.outputs) s.rules)
    (each_weaken ShapedDefault few (optional t.default) (λ g a. a.outputs) s.default)) in
    omega (arith, least_small (mode t))

-- "E is then at least 1"
pub least_le : (t : Table) → least (mode t) ≤ expansion t
unfolding expansion
least_le t = omega arith

-- a pair is written unchanged
pub written_pair : (x y : ℕ) → written pair_group (x ∷ y ∷ []) ≡ x ∷ y ∷ []
unfolding written value dot
written_pair x y = ap₂ (λ a b. a ∷ b ∷ []) (omega arith) (omega arith)

-- the values of a safe group at a word that it takes

abbrev pub SafeGroup : Group → Type 0
SafeGroup g = Each (SafeOutput g.ranges) g.outputs

pub safe_group : (g : Group) (w : List ℕ) → T (fits_word g.ranges w) → SafeGroup g → Each (λ o. IsCharacter (value o w)) g.outputs
unfolding SafeOutput
safe_group g w f s = each_weaken (SafeOutput g.ranges) (λ o. IsCharacter (value o w)) g.outputs (λ o h. h w f) s

pub written_length : (g : Group) (w : List ℕ) → length (written g w) ≡ length g.outputs
unfolding written
written_length g w = length-map g.outputs (λ o. nat_abs (value o w))
