-- What Definition 7 chooses at a place: at first what the rules that fit say, within a log what the log says and behind it what the rest of the
-- conversion chooses; and a rule that is chosen anywhere is the choice for some rest. By recursion on the log, and on the input as the conversion goes.
use mathlib.Core.Bool.{Bool, true, false, cond}
use mathlib.Core.List.{List, [], ◌∷◌, ◌++◌}
use Rattle.std.specs.Prelude.{Option, None, Some}
use mathlib.Core.Path.{◌≡◌, refl, sym, ap, subst, ◌∙◌}
use Prim.Native.Nat.{ℕ, zero, suc, pred, ◌-◌, min, ◌≤◌, ◌<◌, ◌+◌}
use native.Mathlib.Nat.{zero-add}
use native.Mathlib.Omega.{arith}
use lib.Dec.{T, not_T, eqb, ltb, eqb→eq, lt→ltb, ltb→lt, nltb→le}
use lib.ListN.{length, take, length-take}
use Rattle.lists.proofs.Laws.Options.{some_same}
use Rattle.lists.proofs.Laws.Tests.{of_T, of_not, either, of_cond}
use Rattle.meaning.specs.Table.{Characters, Table, group, default_number, Mode, Absent, Single, Paired, mode, present, pair_number}
use Rattle.meaning.specs.Meaning.{Conversion, best, or_default, choose, convert_by, convert_from, convert, starts_pair, Emission, covered}
use Rattle.meaning.specs.Choices.{Choice, the_rule, the_default, the_stop, choice_of, at_start, chosen_in, chosen_at, Live, Dead, the_pair, Decided, NeverBoth}
use Rattle.meaning.proofs.Laws.Shape.{Shaped}
use Rattle.meaning.proofs.Laws.Groups.{rule_shaped, group_rule, group_pair, default_size}
use Rattle.meaning.proofs.Laws.Choice.{Chosen, best_chosen, choose_is}

-- behind a log what is chosen is what the rest chooses
pub chosen_behind : (l m : List Emission) (c : Bool) (p : ℕ) → chosen_in (l ++ m) c (covered l + p) ≡ chosen_in m c p
unfolding chosen_in covered
chosen_behind [] m c p = rw zero-add
chosen_behind (e ∷ l) m c p =
    let n = length e.word in
    of_cond (λ o. o ≡ chosen_in m c p) (ltb (n + covered l + p) n) (at_start (n + covered l + p) (choice_of e)) (chosen_in (l ++ m) c (n + covered l + p - n))
    (λ t. let h : n + covered l + p < n = ltb→lt (n + covered l + p) n t in absurd (omega arith))
    (λ _. let h : n + covered l + p - n ≡ covered l + p = omega arith in ap (chosen_in (l ++ m) c) h ∙ chosen_behind l m c p)

-- within what a log covers the rest of the conversion has no say
pub chosen_within : (l m : List Emission) (c : Bool) (p : ℕ) → p < covered l → chosen_in (l ++ m) c p ≡ chosen_in l true p
unfolding chosen_in covered
chosen_within [] m c p h = absurd (omega arith)
chosen_within (e ∷ l) m c p h =
    let n = length e.word in
    let here = at_start p (choice_of e) in
    either (λ b. cond b here (chosen_in (l ++ m) c (p - n)) ≡ cond b here (chosen_in l true (p - n))) (ltb p n) (λ _. refl)
    (λ t. chosen_within l m c (p - n) (omega (arith, nltb→le p n t)))

-- under both ways to go on the choice is that of the input by itself
pub never_both : NeverBoth
unfolding NeverBoth Decided
never_both t u p d o =
    o.differ (some_same o.one_choice o.other_choice
    (sym o.one_chosen ∙ d o.one o.one_characters ∙ sym (d o.other o.other_characters) ∙ o.other_chosen))

-- what stands in for a rule where none fits u
abbrev pub fallen : Mode → List ℕ → Choice
fallen Absent u = the_stop
fallen Single u = the_default
fallen Paired u = cond (starts_pair u) the_pair the_default

-- the choice among the rules that fit u, or what stands in for it
abbrev pub choice_by : Table → List ℕ → Option ℕ → Choice
choice_by t u None = fallen (mode t) u
choice_by t u (Some r) = the_rule r

-- the choice that a group's number tells
abbrev numbered : ℕ → Choice
numbered n = cond (eqb n pair_number) the_pair (cond (eqb n default_number) the_default (the_rule n))

-- at the first place
module _ (t : Table) (s : Shaped t) (x : ℕ) (u : List ℕ) where
  first_some : (n : ℕ) → choose t (x ∷ u) ≡ Some n → 1 ≤ (group t n).size → chosen_at t (x ∷ u) 0 ≡ Some (numbered n)
  unfolding chosen_at chosen_in convert convert_from choice_of
  first_some n p h =
      let k = (group t n).size in
      let m : length (take k (x ∷ u)) ≡ min k (suc (length u)) = length-take k (x ∷ u) in
      let i : 0 < length (take k (x ∷ u)) = omega arith in
      rw (p, of_T (ltb 0 (length (take k (x ∷ u)))) (lt→ltb 0 (length (take k (x ∷ u))) i))

  first_none : choose t (x ∷ u) ≡ None → chosen_at t (x ∷ u) 0 ≡ Some the_stop
  unfolding chosen_at chosen_in convert convert_from
  first_none p = rw p

  single : present (mode t) ≡ true → choose t (x ∷ u) ≡ Some default_number → chosen_at t (x ∷ u) 0 ≡ Some the_default
  single d p = first_some default_number p (rw (default_size t s d) (omega arith))

  by_pair : (b : Bool) → mode t ≡ Paired → choose t (x ∷ u) ≡ Some (cond b pair_number default_number) → chosen_at t (x ∷ u) 0 ≡ Some (cond b the_pair the_default)
  by_pair true d p = first_some pair_number p (rw (group_pair t) (omega arith))
  by_pair false d p = single (ap present d) p

  by_mode : (m : Mode) → mode t ≡ m → choose t (x ∷ u) ≡ or_default m (x ∷ u) None → chosen_at t (x ∷ u) 0 ≡ Some (fallen m (x ∷ u))
  by_mode Absent d p = first_none p
  by_mode Single d p = single (ap present d) p
  by_mode Paired d p = by_pair (starts_pair (x ∷ u)) d p

  pub first_choice : (b : Option ℕ) → Chosen t (length t.rules) (x ∷ u) b → chosen_at t (x ∷ u) 0 ≡ Some (choice_by t (x ∷ u) b)
  first_choice None c = by_mode (mode t) refl (choose_is t (x ∷ u) None c)
  first_choice (Some r) c =
      let h : r < length t.rules = c.0 in
      let few : length t.rules ≤ 32 = s.few_rules in
      let size : 1 ≤ (group t r).size = rw (group_rule t r s h) (rule_shaped t s r h).positive in
      let other : eqb r default_number ≡ false = of_not (eqb r 32) (not_T (eqb r 32) (λ e. let z : r ≡ 32 = eqb→eq r 32 e in omega arith)) in
      let no_pair : eqb r pair_number ≡ false = of_not (eqb r 33) (not_T (eqb r 33) (λ e. let z : r ≡ 33 = eqb→eq r 33 e in omega arith)) in
      first_some r (choose_is t (x ∷ u) (Some r) c) size ∙ rw (no_pair, other)

-- a rule that is chosen anywhere is the choice for some rest of an input

record Picked (t : Table) (r : ℕ) : Type 0 where
  rest : List ℕ
  characters : Characters rest
  number : choose t rest ≡ Some r
  other : T (eqb r default_number) → ⊥
  no_pair : T (eqb r pair_number) → ⊥

not_stop : (p r : ℕ) → at_start p the_stop ≡ Some (the_rule r) → ⊥
not_stop zero r e = let z : ◌≡◌ {A = ℕ} 0 1 = cc in omega arith
not_stop (suc p) r e = let z : ◌≡◌ {A = ℕ} 0 1 = cc in omega arith

at-rule : (n p r : ℕ) (a b : Bool) → at_start p (cond a the_pair (cond b the_default (the_rule n))) ≡ Some (the_rule r) → (a ≡ false) × (b ≡ false) × (n ≡ r)
at-rule n zero r true b e = let z : ◌≡◌ {A = ℕ} 0 1 = cc in absurd (omega arith)
at-rule n zero r false true e = let z : ◌≡◌ {A = ℕ} 0 1 = cc in absurd (omega arith)
at-rule n zero r false false e = (refl, refl, cc)
at-rule n (suc p) r a b e = let z : ◌≡◌ {A = ℕ} 0 1 = cc in absurd (omega arith)

module _ (t : Table) (r : ℕ) where
  abbrev Says : Conversion → Type 0
  Says c = (p : ℕ) → chosen_in c.log c.closed p ≡ Some (the_rule r) → Picked t r

  picked_by : (z : List ℕ) → Characters z → (f : ℕ → Conversion) → ((k : ℕ) → Says (f k)) → (o : Option ℕ) → choose t z ≡ o → Says (convert_by t o z f)
  unfolding chosen_in choice_of
  picked_by z c f h None q p = λ e. absurd (not_stop p r e)
  picked_by z c f h (Some n) q p =
      let k = (group t n).size in
      let m = length (take k z) in
      of_cond (λ o. o ≡ Some (the_rule r) → Picked t r) (ltb p m) (at_start p (numbered n)) (chosen_in (f (pred k)).log (f (pred k)).closed (p - m))
      (λ _ e. let g = at-rule n p r (eqb n pair_number) (eqb n default_number) e in record {
        rest = z;
        characters = c;
        number = q ∙ ap Some g.2;
        other = λ v. subst T (ap (λ i. eqb i default_number) (sym g.2) ∙ g.1) v;
        no_pair = λ v. subst T (ap (λ i. eqb i pair_number) (sym g.2) ∙ g.0) v;
      })
      (λ _. h (pred k) (p - m))

  picked_from : (k : ℕ) (u : List ℕ) → Characters u → Says (convert_from t k u)
  unfolding convert_from chosen_in
  picked_from k [] c = λ p e. let z : ◌≡◌ {A = ℕ} 0 1 = cc in absurd (omega arith)
  picked_from (suc k) (x ∷ u) c = picked_from k u c.1
  picked_from zero (x ∷ u) c = picked_by (x ∷ u) c (λ k. convert_from t k u) (λ k. picked_from k u c.1) (choose t (x ∷ u)) refl

  or_rule : (u : List ℕ) (o : Option ℕ) → or_default (mode t) u o ≡ Some r → (T (eqb r default_number) → ⊥) → (T (eqb r pair_number) → ⊥) → o ≡ Some r
  or_rule u (Some b) e n n' = e
  or_rule u None e n n' = absurd (go (mode t) e)
    where
      pick : (b : Bool) → Some (cond b pair_number default_number) ≡ Some r → ⊥
      pick true e = let z : 33 ≡ r = cc in n' (rw (sym z) tt)
      pick false e = let z : 32 ≡ r = cc in n (rw (sym z) tt)

      go : (m : Mode) → or_default m u None ≡ Some r → ⊥
      go Absent e = let z : ◌≡◌ {A = ℕ} 0 1 = cc in omega arith
      go Single e = pick false e
      go Paired e = pick (starts_pair u) e

  -- a live rule is the choice among the rules that fit some characters
  pub live_chosen : Live t r → (z : List ℕ) × Characters z × Chosen t (length t.rules) z (Some r)
  unfolding chosen_at convert choose
  live_chosen l =
      let p = picked_from 0 l.input l.characters l.place l.chosen in
      let z = p.rest in
      let n = length t.rules in
      (z, p.characters, subst (Chosen t n z) (or_rule z (best t n z) p.number p.other p.no_pair) (best_chosen t n z))

  -- "A number that no rule has is dead."
  pub number_dead : length t.rules ≤ r → Dead t r
  number_dead h l = let i : r < length t.rules = (live_chosen l).2.0 in omega arith
