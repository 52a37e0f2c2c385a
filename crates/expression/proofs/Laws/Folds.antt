-- What is read by one way of putting parts together is the tree that is read, brought there.
-- A function that goes through joining goes through every reader. Assumes nothing.
use mathlib.Core.Path.{◌≡◌, refl, sym, ap, ◌∙◌}
use mathlib.Core.Bool.{Bool, true, false, cond}
use mathlib.Core.List.{List}
use Prim.Native.Nat.{ℕ, zero, suc}
use lib.Dec.{eqb}
use Rattle.expression.specs.Grammar.{is_digit, Algebra, Tree, fold}
use Rattle.expression.specs.Parts.{parts}
use Rattle.expression.specs.bridge.Text.{Read, refused, got, map_read, rest_length, is_star, is_sign, skip, first, behind, digits, place_digit, closed, closed_by, join, joined, chain, chained, atom, factor, product, sum, within, trees, expression_of}

-- a function at both branches
pub through : {A B : Type 0} (f : A → B) (b : Bool) (x y : A) → f (cond b x y) ≡ cond b (f x) (f y)
through f true x y = refl
through f false x y = refl

pub cond_both : {A : Type 0} (b : Bool) (x x' y y' : A) → x ≡ x' → y ≡ y' → cond b x y ≡ cond b x' y'
cond_both true x x' y y' p q = p
cond_both false x x' y y' p q = q

pub map_refused : {A B : Type 0} (f : A → B) → map_read f refused ≡ refused
unfolding map_read
map_refused f = refl

pub map_map : {A B C : Type 0} (f : B → C) (g : A → B) (r : Read A) → map_read f (map_read g r) ≡ map_read (λ a. f (g a)) r
unfolding map_read
map_map f g refused = refl
map_map f g (got a t) = refl

map_length : {A B : Type 0} (f : A → B) (r : Read A) → rest_length (map_read f r) ≡ rest_length r
unfolding map_read
map_length f refused = refl
map_length f (got a t) = refl

-- a function h that goes through joining goes through chains, and through a closing symbol
module _ {A B : Type 0} (h : A → B) where
  pub map_closed : (z : ℕ) (r : Read A) → map_read h (closed_by z r) ≡ closed_by z (map_read h r)
  unfolding closed_by map_read
  map_closed z refused = refl
  map_closed z (got a t) = through (map_read h) (eqb (first (skip t)) z) (got a (behind (skip t))) refused

  module _ (f : ℕ → A → A → A) (f' : ℕ → B → B → B) (goes : (c : ℕ) (a b : A) → h (f c a b) ≡ f' c (h a) (h b))
      (p : ℕ → Bool) (item : List ℕ → Read A) (item' : List ℕ → Read B) (same : (t : List ℕ) → map_read h (item t) ≡ item' t) where
    map_joined : (c : ℕ) (a : A) (r : Read A) → map_read h (joined f c a r) ≡ joined f' c (h a) (map_read h r)
    unfolding joined map_read
    map_joined c a refused = refl
    map_joined c a (got b t) = ap (λ x. got x t) (goes c a b)

    map_chain : (n : ℕ) (r : Read A) → map_read h (chain f p item n r) ≡ chain f' p item' n (map_read h r)
    unfolding chain map_read
    map_chain zero r = refl
    map_chain (suc n) refused = refl
    map_chain (suc n) (got a t) =
        through (map_read h) (p (first (skip t))) _ _
        ∙ cond_both (p (first (skip t))) _ _ _ _
        (map_chain n (joined f (first (skip t)) a (item (behind (skip t))))
        ∙ ap (chain f' p item' n) (map_joined (first (skip t)) a (item (behind (skip t))) ∙ ap (joined f' (first (skip t)) (h a)) (same (behind (skip t)))))
        refl

    pub map_chained : (r : Read A) → map_read h (chained f p item r) ≡ chained f' p item' (map_read h r)
    unfolding chained
    map_chained r = map_chain (rest_length r) r ∙ ap (λ n. chain f' p item' n (map_read h r)) (sym (map_length h r))

module _ {A : Type 0} (g : Algebra A) where
  fold_join : (c : ℕ) (a b : Tree) → fold g (join trees c a b) ≡ join g c (fold g a) (fold g b)
  unfolding fold
  fold_join c a b =
      through (fold g) (eqb c 43) _ _
      ∙ cond_both (eqb c 43) _ _ _ _ refl (through (fold g) (eqb c 45) _ _)

  map_atom : (u : List ℕ) → map_read (fold g) (atom trees u) ≡ atom g u
  unfolding atom fold
  map_atom u =
      through (map_read (fold g)) (is_digit (first u)) _ _
      ∙ cond_both (is_digit (first u)) _ _ _ _ (map_map (fold g) trees.number (digits 0 u))
      (through (map_read (fold g)) (eqb (first u) 120) _ _
      ∙ cond_both (eqb (first u) 120) _ _ _ _ (map_map (fold g) trees.place (place_digit (behind u))) (map_refused (fold g)))

  module _ (inner : List ℕ → Read Tree) (inner' : List ℕ → Read A) (same : (t : List ℕ) → map_read (fold g) (inner t) ≡ inner' t) where
    map_factor : (t : List ℕ) → map_read (fold g) (factor trees inner t) ≡ factor g inner' t
    unfolding factor
    map_factor t =
        through (map_read (fold g)) (eqb (first (skip t)) 40) _ _
        ∙ cond_both (eqb (first (skip t)) 40) _ _ _ _ (map_closed (fold g) 41 (inner (behind (skip t))) ∙ ap closed (same (behind (skip t)))) (map_atom (skip t))

    map_product : (t : List ℕ) → map_read (fold g) (product trees inner t) ≡ product g inner' t
    unfolding product
    map_product t = map_chained (fold g) (join trees) (join g) fold_join is_star (factor trees inner) (factor g inner') map_factor (factor trees inner t) ∙ ap (chained (join g) is_star (factor g inner')) (map_factor t)

    pub map_sum : (t : List ℕ) → map_read (fold g) (sum trees inner t) ≡ sum g inner' t
    unfolding sum
    map_sum t = map_chained (fold g) (join trees) (join g) fold_join is_sign (product trees inner) (product g inner') map_product (product trees inner t) ∙ ap (chained (join g) is_sign (product g inner')) (map_product t)

  pub map_within : (n : ℕ) (t : List ℕ) → map_read (fold g) (within trees n t) ≡ within g n t
  unfolding within
  map_within zero t = map_refused (fold g)
  map_within (suc n) t = map_sum (within trees n) (within g n) (map_within n) t

-- the part that is read is the tree's
pub by_tree : (t : List ℕ) → sum parts (within parts 16) t ≡ map_read (fold parts) (expression_of t)
by_tree t = sym (map_sum parts (within trees 16) (within parts 16) (map_within parts 16) t)
