-- The ways through an item and through the end of a pattern, and that a pattern is its items and its end.
-- By the tests that each way passes. Assumes nothing.
use mathlib.Core.Bool.{Bool, true, false, cond}
use mathlib.Core.List.{List, [], ◌∷◌}
use mathlib.Core.Path.{◌≡◌, refl, sym, ap, ◌∙◌}
use Prim.Native.Nat.{ℕ}
use native.Mathlib.Omega.{arith}
use borrow.Author.Tests.{eq-eqb, ne_eqb}
use lib.Dec.{eqb}
use lib.ListN.{length}
use Rattle.lists.specs.Lists.{is_empty}
use Rattle.meaning.specs.Table.{Range}
use Rattle.expression.specs.bridge.Text.{Read, refused, got, map_read, first, behind}
use Rattle.typed.specs.Grammar.{Pattern, in_quotes}
use Rattle.typed.specs.bridge.Reader.{plain, elements, alone, item, closing}
use Rattle.typed.specs.bridge.Answers.{closing_of, ending_of}

pub item_bracket : (t : List ℕ) → first t ≡ 91 → item t ≡ elements (behind t)
unfolding item
item_bracket t e = ap (λ b. cond b (elements (behind t)) (map_read alone (plain in_quotes t))) (eq-eqb (first t) 91 e)

pub item_character : (t : List ℕ) → (first t ≡ 91 → ⊥) → item t ≡ map_read alone (plain in_quotes t)
unfolding item
item_character t e = ap (λ b. cond b (elements (behind t)) (map_read alone (plain in_quotes t))) (ne_eqb (first t) 91 e)

module _ (n : ℕ) (anchored : Bool) (t : List ℕ) where
  abbrev mark : Bool → Read Bool
  mark b = cond b (got anchored (behind t)) refused

  pub closing_empty : n ≡ 0 → closing_of n anchored t ≡ refused
  unfolding closing_of
  closing_empty e = ap (λ b. cond b refused (mark (eqb (first t) 34))) (eq-eqb n 0 e)

  pub closing_mark : (n ≡ 0 → ⊥) → first t ≡ 34 → closing_of n anchored t ≡ got anchored (behind t)
  unfolding closing_of
  closing_mark e h = ap (λ b. cond b refused (mark (eqb (first t) 34))) (ne_eqb n 0 e) ∙ ap mark (eq-eqb (first t) 34 h)

  pub closing_other : (n ≡ 0 → ⊥) → (first t ≡ 34 → ⊥) → closing_of n anchored t ≡ refused
  unfolding closing_of
  closing_other e h = ap (λ b. cond b refused (mark (eqb (first t) 34))) (ne_eqb n 0 e) ∙ ap mark (ne_eqb (first t) 34 h)

module _ (n : ℕ) (t : List ℕ) where
  pub ending_anchored : first t ≡ 36 → ending_of n t ≡ closing_of n true (behind t)
  unfolding ending_of
  ending_anchored e = ap (λ b. cond b (closing_of n true (behind t)) (closing_of n false t)) (eq-eqb (first t) 36 e)

  pub ending_plain : (first t ≡ 36 → ⊥) → ending_of n t ≡ closing_of n false t
  unfolding ending_of
  ending_plain e = ap (λ b. cond b (closing_of n true (behind t)) (closing_of n false t)) (ne_eqb (first t) 36 e)

-- the pattern of items whose end is read
abbrev pub ended : List (List Range) → Bool → Pattern
ended ps a = record { items = ps; anchored = a }

pub pattern_end : (ps : List (List Range)) (t : List ℕ) → closing ps t ≡ map_read (ended ps) (ending_of (length ps) t)
unfolding closing ending_of closing_of map_read
pattern_end ps t = by (eqb (first t) 36)
  where
    shut : (a : Bool) (u : List ℕ) (qs : List (List Range)) → cond (is_empty qs) refused (cond (eqb (first u) 34) (got (ended ps a) (behind u)) refused)
        ≡ map_read (ended ps) (closing_of (length qs) a u)
    shut a u [] = refl
    shut a u (q ∷ qs) =
        quote (eqb (first u) 34)
        ∙ sym (ap (λ b. map_read (ended ps) (cond b refused (cond (eqb (first u) 34) (got a (behind u)) refused))) (ne_eqb (length (q ∷ qs)) 0 (λ z. omega arith)))
      where
        quote : (b : Bool) → cond b (got (ended ps a) (behind u)) refused ≡ map_read (ended ps) (cond b (got a (behind u)) refused)
        quote true = refl
        quote false = refl

    by : (b : Bool) → (let end = cond b (behind t) t in cond (is_empty ps) refused (cond (eqb (first end) 34) (got (ended ps b) (behind end)) refused))
        ≡ map_read (ended ps) (cond b (closing_of (length ps) true (behind t)) (closing_of (length ps) false t))
    by true = shut true (behind t) ps
    by false = shut false t ps
