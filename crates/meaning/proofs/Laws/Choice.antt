-- Definition 7 chooses the shortest rule that fits, then the lowest, and no other choice is both.
-- By recursion on the number of rules looked at: each rule that fits is weighed against the choice so far.
use mathlib.Core.Bool.{Bool, true, false, ◌||◌, not, cond}
use mathlib.Core.List.{List, [], ◌∷◌}
use Rattle.std.specs.Prelude.{Option, None, Some}
use mathlib.Core.Path.{◌≡◌, refl, sym, ap, subst}
use Prim.Native.Nat.{ℕ, zero, suc, min, ◌≤◌, ◌<◌}
use native.Mathlib.Decide.{ℕ_discrete}
use native.Mathlib.Omega.{arith}
use lib.Dec.{T, eqb, ltb, eqb→eq, eqb_refl, ltb→lt, nltb→le}
use lib.ListN.{length, take, length-take}
use Rattle.lists.proofs.Laws.Tests.{and_left, and_right, both, of_cond}
use Rattle.meaning.specs.Table.{Mode, Absent, Single, Paired, Table, mode, rule_at, default_number, pair_number}
use Rattle.meaning.specs.Value.{fits_word}
use Rattle.meaning.specs.Meaning.{fits, better, best, starts_pair, or_default, choose}
use Rattle.meaning.proofs.Laws.Prefix.{fits_word_length}
use Rattle.meaning.proofs.Laws.Shape.{Shaped}
use Rattle.meaning.proofs.Laws.Groups.{rule_shaped}

-- rule r fits u
pub record Fits (t : Table) (r : ℕ) (u : List ℕ) : Type 0 where
  pub match : T (fits_word (rule_at t r).ranges (take (rule_at t r).size u))
  pub at-end : (rule_at t r).anchored ≡ true → (rule_at t r).size ≡ length u

pub fits_facts : (t : Table) (r : ℕ) (u : List ℕ) → T (fits (rule_at t r) u) → Fits t r u
unfolding fits
fits_facts t r u h =
    let g = rule_at t r in
    let word = fits_word g.ranges (take g.size u) in
    let last : Bool → Bool = λ a. not a || eqb (length u) g.size in
    record {
      match = and_left word (last g.anchored) h;
      at-end = λ a. sym (eqb→eq (length u) g.size (subst (λ b. T (last b)) a (and_right word (last g.anchored) h)));
    }

pub facts_fit : (t : Table) (r : ℕ) (u : List ℕ) → Fits t r u → T (fits (rule_at t r) u)
unfolding fits
facts_fit t r u f =
    let g = rule_at t r in
    both (fits_word g.ranges (take g.size u)) (not g.anchored || eqb (length u) g.size) f.match (ends g.anchored f.at-end)
  where
    ends : (a : Bool) → (a ≡ true → (rule_at t r).size ≡ length u) → T (not a || eqb (length u) (rule_at t r).size)
    ends false h = tt
    ends true h = rw (h refl) (eqb_refl (length u))

-- the next K characters exist
pub fits_room : (t : Table) (r : ℕ) (u : List ℕ) → Shaped t → r < length t.rules → Fits t r u → (rule_at t r).size ≤ length u
fits_room t r u s h f =
    let g = rule_at t r in
    let p : length g.ranges ≡ g.size = (rule_shaped t s r h).places in
    let q : length g.ranges ≡ length (take g.size u) = fits_word_length g.ranges (take g.size u) f.match in
    let m : length (take g.size u) ≡ min g.size (length u) = length-take g.size u in
    omega arith

-- r is no longer than k, and if as long, no higher
abbrev pub Before : Table → ℕ → ℕ → Type 0
Before t r k = ((rule_at t r).size ≤ (rule_at t k).size) × ((rule_at t k).size ≤ (rule_at t r).size → r ≤ k)

-- the choice among the rules below n
abbrev pub Chosen : Table → ℕ → List ℕ → Option ℕ → Type 0
Chosen t n u None = (r : ℕ) → r < n → Fits t r u → ⊥
Chosen t n u (Some r) = (r < n) × Fits t r u × ((k : ℕ) → k < n → Fits t k u → Before t r k)

pub chosen_unique : (t : Table) (n : ℕ) (u : List ℕ) (a b : Option ℕ) → Chosen t n u a → Chosen t n u b → a ≡ b
chosen_unique t n u None None c d = refl
chosen_unique t n u None (Some k) c d = absurd (c k d.0 d.1)
chosen_unique t n u (Some r) None c d = absurd (d r c.0 c.1)
chosen_unique t n u (Some r) (Some k) c d =
    let a : Before t r k = c.2 k d.0 d.1 in
    let b : Before t k r = d.2 r c.0 c.1 in
    let x : r ≤ k = a.1 b.0 in
    let y : k ≤ r = b.1 a.0 in
    let e : r ≡ k = omega arith in
    ap Some e

module _ (t : Table) (u : List ℕ) (r : ℕ) where
  -- what is shown of rule r and of the rules below is shown of the rules below r + 1
  one_more : (P : ℕ → Type 0) → (Fits t r u → P r) → ((k : ℕ) → k < r → Fits t k u → P k) → (k : ℕ) → k < suc r → Fits t k u → P k
  one_more P p f k h = elim (ℕ_discrete k r) [ yes e ↦ subst (λ m. Fits t m u → P m) (sym e) p | no d ↦ f k (omega arith) ]

  skip_rule : (b : Option ℕ) → (Fits t r u → ⊥) → Chosen t r u b → Chosen t (suc r) u b
  skip_rule None f c = one_more (λ k. ⊥) f c
  skip_rule (Some b) f c = let i : b < r = c.0 in (omega arith, c.1, one_more (Before t b) (λ g. absurd (f g)) c.2)

  add_rule : (b : Option ℕ) (x : Bool) → (T x → Fits t r u) → (Fits t r u → T x) → Chosen t r u b → Chosen t (suc r) u (better t b r x)
  add_rule b false f g c = skip_rule b g c
  add_rule None true f g c = (omega arith, f tt, one_more (Before t r) (λ g. (omega arith, λ j. omega arith)) (λ k l z. absurd (c k l z)))
  add_rule (Some b) true f g c =
      let x = (rule_at t r).size in
      let y = (rule_at t b).size in
      let i : b < r = c.0 in
      of_cond (λ m. Chosen t (suc r) u (Some m)) (ltb x y) r b
      (λ s.
      let l : x < y = ltb→lt x y s in (
        omega arith,
        f tt,
        one_more (Before t r) (λ g. (omega arith, λ j. omega arith))
            (λ k h z. let w : Before t b k = c.2 k h z in (omega arith, λ j. absurd (omega arith))),
      ))
      (λ s. let l : y ≤ x = nltb→le x y s in (omega arith, c.1, one_more (Before t b) (λ g. (l, λ j. omega arith)) c.2))

pub best_chosen : (t : Table) (n : ℕ) (u : List ℕ) → Chosen t n u (best t n u)
unfolding best
best_chosen t zero u = λ r h f. omega arith
best_chosen t (suc r) u = add_rule t u r (best t r u) (fits (rule_at t r) u) (fits_facts t r u) (facts_fit t r u) (best_chosen t r u)

-- what is the choice among all rules is chosen, or the default for none
pub choose_is : (t : Table) (u : List ℕ) (b : Option ℕ) → Chosen t (length t.rules) u b → choose t u ≡ or_default (mode t) u b
unfolding choose
choose_is t u b c =
    let n = length t.rules in ap (or_default (mode t) u) (chosen_unique t n u (best t n u) b (best_chosen t n u) c)

-- a number chosen is a rule's or the default's, or for a pair the marked default's
pub data Numbered (t : Table) (u : List ℕ) (n : ℕ) : Type 0 where
  plain : n < pair_number → Numbered t u n
  paired : n ≡ pair_number → mode t ≡ Paired → T (starts_pair u) → Numbered t u n

pub choose_number : (t : Table) → Shaped t → (u : List ℕ) (n : ℕ) → choose t u ≡ Some n → Numbered t u n
unfolding choose
choose_number t s u n p = from (best t (length t.rules) u) (best_chosen t (length t.rules) u) p
  where
    by_pair : (b : Bool) → starts_pair u ≡ b → mode t ≡ Paired → Some (cond b pair_number default_number) ≡ Some n → Numbered t u n
    by_pair true e m q = let i : 33 ≡ n = cc in paired (sym i) m (rw e tt)
    by_pair false e m q = let i : 32 ≡ n = cc in plain (omega arith)

    by_mode : (m : Mode) → mode t ≡ m → or_default m u None ≡ Some n → Numbered t u n
    by_mode Absent e q = let z : ◌≡◌ {A = ℕ} 0 1 = cc in absurd (omega arith)
    by_mode Single e q = let i : 32 ≡ n = cc in plain (omega arith)
    by_mode Paired e q = by_pair (starts_pair u) refl e q

    from : (b : Option ℕ) → Chosen t (length t.rules) u b → or_default (mode t) u b ≡ Some n → Numbered t u n
    from None c q = by_mode (mode t) refl q
    from (Some r) c q = let i : r ≡ n = cc in let few : length t.rules ≤ 32 = s.few_rules in let l : r < length t.rules = c.0 in plain (omega arith)

-- such a pair is there
pub pair_there : (u : List ℕ) → T (starts_pair u) → 2 ≤ length u
pair_there [] h = absurd h
pair_there (x ∷ []) h = absurd h
pair_there (x ∷ (y ∷ u)) h = omega arith
