-- Expressions with commas between, fed as they come: what is read behind a state is fed to that state.
-- A list is its first expression and, where a comma comes, the list behind it. Assumes nothing.
use mathlib.Core.Path.{◌≡◌, refl, sym, ap, ◌∙◌}
use mathlib.Core.Bool.{Bool, true, false}
use mathlib.Core.List.{List, [], ◌∷◌, ◌++◌, append_assoc}
use Prim.Native.Nat.{ℕ, zero, suc}
use borrow.Author.Tests.{eq-eqb, ne_eqb}
use lib.ListN.{length}
use Rattle.lists.specs.Lists.{fold_left}
use Rattle.expression.specs.Grammar.{Tree}
use Rattle.expression.specs.bridge.Text.{Read, refused, got, map_read, is_comma, skip, first, behind, closed_by, joined, chain, chained, expression_of, one, behind_comma, one_item, items, bracketed}
use Rattle.expression.proofs.Laws.Chains.{chained_step, chained_stop}
use Rattle.expression.proofs.Laws.Folds.{through, cond_both, map_map, map_closed}
use Rattle.expression.proofs.Laws.Listed.{item_shrinks}
use Rattle.typed.specs.bridge.Reader.{then_read}
use Rattle.typed.specs.bridge.Stream.{State}

-- a list read behind others is put behind them
module _ {A : Type 0} (p : ℕ → Bool) (item : List ℕ → Read (List A)) where
  none_after : (n : ℕ) → chain behind_comma p item n refused ≡ refused
  unfolding chain
  none_after zero = refl
  none_after (suc n) = refl

  in_front : (as' bs : List A) (n : ℕ) (t : List ℕ) → chain behind_comma p item n (got (as' ++ bs) t) ≡ map_read (λ x. as' ++ x) (chain behind_comma p item n (got bs t))
  unfolding chain map_read joined
  in_front as' bs zero t = refl
  in_front as' bs (suc n) t =
      cond_both (p (first (skip t))) _ _ _ _ (by (λ cs r. in_front as' cs n r) (item (behind (skip t)))) refl
      ∙ sym (through (map_read (λ x. as' ++ x)) (p (first (skip t))) _ _)
    where
      by : ((cs : List A) (r : List ℕ) → chain behind_comma p item n (got (as' ++ cs) r) ≡ map_read (λ x. as' ++ x) (chain behind_comma p item n (got cs r)))
          → (r : Read (List A)) → chain behind_comma p item n (map_read (λ x. (as' ++ bs) ++ x) r) ≡ map_read (λ x. as' ++ x) (chain behind_comma p item n (map_read (λ x. bs ++ x) r))
      by f refused = none_after n ∙ sym (ap (map_read (λ x. as' ++ x)) (none_after n))
      by f (got cs r) = ap (λ x. chain behind_comma p item n (got x r)) (append_assoc as' bs cs) ∙ f (bs ++ cs) r

-- the expressions behind one that was read
pub more : List ℕ → Read (List Tree)
more t = chained behind_comma is_comma (one_item expression_of) (got [] t)

items_first : (t : List ℕ) → items expression_of t ≡ then_read (expression_of t) (λ a r. map_read (λ x. a ∷ x) (more r))
unfolding items one_item more chained then_read map_read
items_first t = by (expression_of t)
  where
    by : (r : Read Tree) → chained behind_comma is_comma (one_item expression_of) (map_read one r) ≡ then_read r (λ a r. map_read (λ x. a ∷ x) (more r))
    by refused = none_after is_comma (one_item expression_of) 0
    by (got a r) = in_front is_comma (one_item expression_of) (a ∷ []) [] (length r) r

more_comma : (t : List ℕ) → is_comma (first (skip t)) ≡ true → more t ≡ items expression_of (behind (skip t))
unfolding more items joined
more_comma t e =
    chained_step behind_comma is_comma (one_item expression_of) item_shrinks refl [] t e
    ∙ ap (chained behind_comma is_comma (one_item expression_of)) (by (one_item expression_of (behind (skip t))))
  where
    by : (r : Read (List Tree)) → map_read (λ x. [] ++ x) r ≡ r
    by refused = unfold map_read in refl
    by (got a t) = unfold map_read in refl

more_none : (t : List ℕ) → is_comma (first (skip t)) ≡ false → more t ≡ got [] t
unfolding more
more_none t e = chained_stop behind_comma is_comma (one_item expression_of) item_shrinks [] t e

-- how one expression is fed is any function of the state
module _ (each : Tree → State → State) where
  -- the expressions behind one that was fed, fed too
  abbrev pub left_more : State → List ℕ → Read State
  left_more st t = map_read (λ ts. fold_left each ts st) (more t)

  -- the first expression fed, and then the others
  pub first_fed : (st : State) (t : List ℕ) → map_read (λ ts. fold_left each ts st) (items expression_of t) ≡ then_read (map_read (λ a. each a st) (expression_of t)) left_more
  unfolding then_read map_read
  first_fed st t = ap (map_read (λ ts. fold_left each ts st)) (items_first t) ∙ by (expression_of t)
    where
      by : (r : Read Tree) → map_read (λ ts. fold_left each ts st) (then_read r (λ a r. map_read (λ x. a ∷ x) (more r))) ≡ then_read (map_read (λ a. each a st) r) left_more
      by refused = refl
      by (got a r) = map_map (λ ts. fold_left each ts st) (λ x. a ∷ x) (more r)

  -- where a comma comes, and where none does
  pub comma_fed : (st : State) (t : List ℕ) → is_comma (first (skip t)) ≡ true → left_more st t ≡ then_read (map_read (λ a. each a st) (expression_of (behind (skip t)))) left_more
  comma_fed st t e = ap (map_read (λ ts. fold_left each ts st)) (more_comma t e) ∙ first_fed st (behind (skip t))

  pub comma_none : (st : State) (t : List ℕ) → is_comma (first (skip t)) ≡ false → left_more st t ≡ got st t
  unfolding map_read
  comma_none st t e = ap (map_read (λ ts. fold_left each ts st)) (more_none t e)

  -- the ways through brackets
  module _ (st : State) (t u : List ℕ) (e : skip t ≡ u) where
    pub brackets_not : (first u ≡ 91 → ⊥) → map_read (λ ts. fold_left each ts st) (bracketed expression_of t) ≡ refused
    unfolding bracketed map_read
    brackets_not n = rw (e, ne_eqb (first u) 91 n)

    module _ (v : List ℕ) (y : first u ≡ 91) (f : skip (behind u) ≡ v) where
      pub brackets_none : first v ≡ 93 → map_read (λ ts. fold_left each ts st) (bracketed expression_of t) ≡ got st (behind v)
      unfolding bracketed map_read
      brackets_none z = rw (e, eq-eqb (first u) 91 y, f, eq-eqb (first v) 93 z)

      pub brackets_some : (first v ≡ 93 → ⊥) → map_read (λ ts. fold_left each ts st) (bracketed expression_of t) ≡ closed_by 93 (map_read (λ ts. fold_left each ts st) (items expression_of (behind u)))
      unfolding bracketed
      brackets_some z = rw (e, eq-eqb (first u) 91 y, f, ne_eqb (first v) 93 z) (map_closed (λ ts. fold_left each ts st) 93 (items expression_of (behind u)))
