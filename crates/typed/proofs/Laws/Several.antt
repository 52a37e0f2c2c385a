-- Readings one after another: what is accepted is items up to what stops, what the grammar has is accepted, and fuel above the rest's length is enough.
-- By recursion on the fuel, or on the items. Assumes nothing.
use mathlib.Core.Path.{◌≡◌, refl, sym, ap, subst, ◌∙◌}
use mathlib.Core.Bool.{Bool, true, false, cond}
use mathlib.Core.List.{List, [], ◌∷◌, ◌++◌, append_assoc}
use Prim.Native.Nat.{ℕ, zero, suc, ◌≤◌, ◌<◌, zero-le}
use native.Mathlib.Nat.{le_refl}
use native.Mathlib.Omega.{arith}
use lib.ListN.{length, length-append}
use Rattle.expression.specs.bridge.Text.{Read, refused, got, map_read}
use Rattle.expression.proofs.Laws.Sound.{Parsed, Sound, not_got, map_got}
use Rattle.typed.specs.Grammar.{Several}
use Rattle.typed.specs.bridge.Reader.{then_read, several, any_number, item}

-- what is accepted was read first, and the rest of it then
pub then_got : {A B : Type 0} (r : Read A) (f : A → List ℕ → Read B) (b : B) (u : List ℕ) → then_read r f ≡ got b u
    → (a : A) × (t : List ℕ) × (r ≡ got a t) × (f a t ≡ got b u)
unfolding then_read
then_got refused f b u e = not_got e
then_got (got a t) f b u e = (a, t, refl, e)

-- the same goes on where something was read
then_same : {A B : Type 0} (r : Read A) (f g : A → List ℕ → Read B) → ((a : A) (t : List ℕ) → r ≡ got a t → f a t ≡ g a t) → then_read r f ≡ then_read r g
unfolding then_read
then_same refused f g h = refl
then_same (got a t) f g h = h a t refl

module _ {A : Type 0} (item : List ℕ → Read A) (stop : List ℕ → Bool) where
  pub any_stop : (t : List ℕ) → stop t ≡ true → any_number item stop t ≡ got [] t
  unfolding any_number several
  any_stop t e = rw e

  module _ (strict : (t : List ℕ) (a : A) (r : List ℕ) → item t ≡ got a r → length r < length t) where
    pub several_fuel : (n m : ℕ) (t : List ℕ) → length t < n → length t < m → several item stop n t ≡ several item stop m t
    unfolding several
    several_fuel zero m t h k = absurd (omega arith)
    several_fuel (suc n) zero t h k = absurd (omega arith)
    several_fuel (suc n) (suc m) t h k =
        ap (cond (stop t) (got [] t)) (then_same (item t) _ _ λ a r e.
        let s = strict t a r e in ap (map_read (λ rest. a ∷ rest)) (several_fuel n m r (omega arith) (omega arith)))

    pub any_step : (t : List ℕ) → stop t ≡ false → any_number item stop t ≡ then_read (item t) (λ a r. map_read (λ rest. a ∷ rest) (any_number item stop r))
    unfolding any_number several
    any_step t e =
        rw e (then_same (item t) _ _ λ a r q.
        let s = strict t a r q in ap (map_read (λ rest. a ∷ rest)) (several_fuel (length t) (suc (length r)) r s (le_refl (suc (length r)))))

  -- what is accepted is items, fewer than the fuel, and then what stops
  pub several_sound : (R : List ℕ → A → Type 0) → Sound R item → (n : ℕ) (t : List ℕ) (xs : List A) (rest : List ℕ) → several item stop n t ≡ got xs rest
      → Parsed (Several R) t xs rest × (stop rest ≡ true) × (length xs < n)
  unfolding several Sound
  several_sound R sound zero t xs rest e = not_got e
  several_sound R sound (suc n) t xs rest e = by (stop t) refl (several_sound R sound n) e
    where
      by : (f : Bool) → stop t ≡ f
          → ((t : List ℕ) (xs : List A) (rest : List ℕ) → several item stop n t ≡ got xs rest → Parsed (Several R) t xs rest × (stop rest ≡ true) × (length xs < n))
          → cond f (got [] t) (then_read (item t) (λ a r. map_read (λ rest. a ∷ rest) (several item stop n r))) ≡ got xs rest
          → Parsed (Several R) t xs rest × (stop rest ≡ true) × (length xs < suc n)
      by true y on q =
          let none : [] ≡ xs = cc in
          let end : t ≡ rest = cc in
          (record { used = []; whole = end; reads = subst (λ (ys : List A). Several R [] ys) none refl }, ap stop (sym end) ∙ y, rw (← none) (omega arith))
      by false y on q =
          let s = then_got (item t) _ xs rest q in
          let m = map_got (λ ys. s.0 ∷ ys) (several item stop n s.1) xs rest s.3 in
          let i = sound t s.0 s.1 s.2 in
          let k = on s.1 m.0 rest m.1 in
          let few = k.2 in (
            record {
              used = i.used ++ k.0.used;
              whole = i.whole ∙ ap (λ x. i.used ++ x) k.0.whole ∙ sym (append_assoc i.used k.0.used rest);
              reads = subst (λ (ys : List A). Several R (i.used ++ k.0.used) ys) m.2 (i.used, k.0.used, i.reads, k.0.reads, refl);
            },
            k.1,
            rw (← m.2) (omega arith),
          )

  several_next : (n : ℕ) (t r : List ℕ) (a : A) → stop t ≡ false → item t ≡ got a r → several item stop (suc n) t ≡ map_read (λ rest. a ∷ rest) (several item stop n r)
  unfolding several then_read
  several_next n t r a e q = rw (e, q)

  -- items that are read where what Next allows stands behind them, as it does where another begins
  module _ (R : List ℕ → A → Type 0) (Next : List ℕ → Type 0)
      (reads : (u : List ℕ) (a : A) (r : List ℕ) → R u a → Next r → item (u ++ r) ≡ got a r)
      (more : (u : List ℕ) (a : A) (r : List ℕ) → R u a → (stop (u ++ r) ≡ false) × Next (u ++ r)) where
    next_all : (xs : List A) (u r : List ℕ) → Several R u xs → Next r → Next (u ++ r)
    next_all [] u r d h = rw d h
    next_all (x ∷ xs) u r d h = rw (d.4, append_assoc d.0 d.1 r) (more d.0 x (d.1 ++ r) d.2).1

    pub several_complete : (n : ℕ) (xs : List A) (u r : List ℕ) → Several R u xs → length xs < n → Next r → stop r ≡ true → several item stop n (u ++ r) ≡ got xs r
    unfolding several map_read
    several_complete zero xs u r d l h s = absurd (omega arith)
    several_complete (suc n) [] u r d l h s = rw (d, s)
    several_complete (suc n) (x ∷ xs) u r d l h s =
        ap (several item stop (suc n)) (ap (λ v. v ++ r) d.4 ∙ append_assoc d.0 d.1 r)
        ∙ several_next n (d.0 ++ (d.1 ++ r)) (d.1 ++ r) x (more d.0 x (d.1 ++ r) d.2).0 (reads d.0 x (d.1 ++ r) d.2 (next_all xs d.1 r d.3 h))
        ∙ ap (map_read (λ rest. x ∷ rest)) (several_complete n xs d.1 r d.3 (omega arith) h s)

    module _ (strict : (t : List ℕ) (a : A) (r : List ℕ) → item t ≡ got a r → length r < length t) where
      items_fit : (xs : List A) (u r : List ℕ) → Several R u xs → Next r → length xs ≤ length u
      items_fit [] u r d h = zero-le
      items_fit (x ∷ xs) u r d h =
          let k = items_fit xs d.1 r d.3 h in
          let s = strict (d.0 ++ (d.1 ++ r)) x (d.1 ++ r) (reads d.0 x (d.1 ++ r) d.2 (next_all xs d.1 r d.3 h)) in
          omega (arith, ap length d.4, length-append d.0 d.1, length-append d.0 (d.1 ++ r))

      pub any_complete : (xs : List A) (u r : List ℕ) → Several R u xs → Next r → stop r ≡ true → any_number item stop (u ++ r) ≡ got xs r
      unfolding any_number
      any_complete xs u r d h s =
          let k = items_fit xs u r d h in
          several_complete (suc (length (u ++ r))) xs u r d (omega (arith, length-append u r)) h s

-- where each item has a character, the rest is shorter
pub strict_by : {A : Type 0} (R : List ℕ → A → Type 0) (item : List ℕ → Read A) → Sound R item → ((u : List ℕ) (a : A) → R u a → 1 ≤ length u) →
    (t : List ℕ) (a : A) (r : List ℕ) → item t ≡ got a r → length r < length t
unfolding Sound
strict_by R item sound long t a r e =
    let p = sound t a r e in
    let l = long p.used a p.reads in
    omega (arith, ap length p.whole, length-append p.used r)
