-- An accepted table and its words write the same for every word that a group takes.
-- The words hold the group's block, and refusal 7 leaves values that are characters, which a block writes exactly.
use mathlib.Core.Bool.{or-false}
use mathlib.Core.List.{List, [], ◌∷◌, ◌++◌}
use Rattle.std.specs.Prelude.{Some}
use mathlib.Core.Path.{◌≡◌, sym, ap, subst, ◌∙◌}
use Prim.Native.Nat.{ℕ, ◌<◌, ◌≤◌}
use lib.ListN.{length}
use native.Mathlib.Omega.{arith}
use Rattle.lists.specs.Lists.{Each, optional}
use Rattle.lists.proofs.Laws.Tests.{and-true, to_between}
use Rattle.lists.proofs.Laws.Each.{each_front, each_back, each_get_d}
use Rattle.meaning.specs.Table.{Group, Table, every_character, rule_at}
use Rattle.meaning.specs.Value.{value, fits_word, IsCharacter, SafeTable}
use Rattle.meaning.specs.Meaning.{written}
use Rattle.meaning.proofs.Laws.Prefix.{fits_prefix_whole}
use Rattle.meaning.proofs.Laws.Shape.{Within, ShapedDefault, Shaped}
use Rattle.meaning.proofs.Laws.Groups.{rule_shaped, default_each, group_rule, group_default, some_default, SafeGroup, safe_group, group_pair, written_pair}
use Rattle.meaning.proofs.Laws.Exact.{block_writes}
use Rattle.automaton.specs.Layout.{words}
use Rattle.automaton.specs.Sound.{block_at}
use Rattle.automaton.specs.Automaton.{from_table, from_words}
use Rattle.automaton.proofs.Laws.Good.{Done, Writes}
use Rattle.automaton.proofs.Laws.Words.{block_written}
use Rattle.automaton.proofs.Laws.Blocks.{block_word, default_word}

-- the values of a safe group at a word that it takes

pub safe_rule : (t : Table) (w : List ℕ) (r : ℕ) → Shaped t → SafeTable t → Done t w r →
    Each (λ o. IsCharacter (value o w)) (rule_at t r).outputs
unfolding SafeTable
safe_rule t w r s safe d =
    let g = rule_at t r in
    let shape = rule_shaped t s r d.rule in
    safe_group g w (rw (fits_prefix_whole g.ranges w (shape.places ∙ d.size)) d.takes)
    (each_get_d SafeGroup t.rules r (every_character []) (each_front SafeGroup t.rules (optional t.default) safe) d.rule)

pub safe_default : (t : Table) (g : Group) (x : ℕ) → Shaped t → SafeTable t → t.default ≡ Some g → x < 65536 →
    Each (λ o. IsCharacter (value o (x ∷ []))) g.outputs
unfolding SafeTable fits_word
safe_default t g x s safe e h =
    let shape = default_each ShapedDefault t g e s.default in
    safe_group g (x ∷ [])
    (rw (shape.ranges, or-false, and-true) (to_between 0 65535 x (omega arith) (omega arith)))
    (default_each SafeGroup t g e (each_back SafeGroup t.rules (optional t.default) safe))

pub words_write : (t : Table) (rest : List ℕ) → Shaped t → SafeTable t → Writes (from_table t) (from_words (words t ++ rest)) t
unfolding from_table from_words
words_write t rest s safe =
    record {
      of_rule =
          λ r w d.
          let shape = rule_shaped t s r d.rule in
          ap (λ g. written g w) (group_rule t r s d.rule)
          ∙ sym (block_writes (rule_at t r) w (block_at (words t ++ rest) r) shape.small shape.outputs (sym d.size) shape.reaches
          (safe_rule t w r s safe d) (block_word t rest s r d.rule))
          ∙ sym (block_written (words t ++ rest) r w (let few : length t.rules ≤ 32 = s.few_rules in let l : r < length t.rules = d.rule in omega arith));
      of_default =
          λ e x h.
          let d = some_default t.default t.mark e in
          let g = d.0 in
          let shape = default_each ShapedDefault t g d.1 s.default in
          ap (λ a. written a (x ∷ [])) (group_default t g d.1)
          ∙ sym (block_writes g (x ∷ []) (block_at (words t ++ rest) 32) (omega arith) shape.outputs (sym shape.size)
          (subst (λ k. Each (Within k) g.outputs) (sym shape.size) shape.reaches) (safe_default t g x s safe d.1 h) (default_word t rest g d.1));
      of_pair = λ x y. ap (λ g. written g (x ∷ y ∷ [])) (group_pair t) ∙ written_pair x y;
    }
