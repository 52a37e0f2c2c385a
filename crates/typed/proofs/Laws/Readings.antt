-- Answers at places of a text: what a refused and an accepted one say, and how a proof makes one. Ways through the readers of single characters.
-- By cases on the answer, and on the text. Assumes nothing.
use mathlib.Core.Bool.{Bool, true, false, ◌||◌, cond}
use mathlib.Core.List.{List, [], ◌∷◌}
use mathlib.Core.Path.{◌≡◌, refl, sym, ap, subst, ◌∙◌}
use Prim.Native.Nat.{ℕ, ◌+◌, ◌≤◌, ◌<◌}
use native.Mathlib.Nat.{le_trans}
use native.Mathlib.Omega.{arith}
use borrow.Author.Tests.{eq-eqb, ne_eqb}
use native.Mathlib.Decide.{ℕ_discrete}
use lib.Dec.{eqb}
use lib.ListN.{length, drop, get_or}
use Rattle.std.specs.List.{list_any}
use Rattle.lists.specs.Lists.{any}
use lib.Seq.{drop-cons}
use native.Mathlib.Numerals.{add-one}
use Rattle.std.specs.Prelude.{Option, None, Some, IfSome}
use Rattle.expression.specs.bridge.Text.{Read, refused, got, map_read, first, behind}
use Rattle.expression.specs.bridge.Answers.{Answers, Inside, read_of}
use Rattle.expression.proofs.Laws.Symbols.{drop_past}
use Rattle.typed.specs.Grammar.{range, in_brackets}
use Rattle.typed.specs.bridge.Reader.{then_read, any_character, plain, element}
use Rattle.typed.specs.bridge.Answers.{Places, place_of}

-- an accepted answer: a value, and a place behind it in the text
pub record Gets {A : Type 0} (s : List ℕ) (at : ℕ) (d : Read A) (a : A) (next : ℕ) : Type 0 where
  pub from : at ≤ next
  pub to : next ≤ length s
  pub is : d ≡ got a (drop next s)

module _ {A B : Type 0} {s : List ℕ} {at : ℕ} {f : A → B} {r : Option (A × ℕ)} {d : Read B} (x : Answers f s at d r) where
  pub read_none : r ≡ None → d ≡ refused
  read_none e = sym x.same ∙ ap (read_of f s) e

  pub read_some : {v : A × ℕ} → r ≡ Some v → Gets s at d (f v.0) v.1
  read_some {v} e =
      let p = subst (λ (o : Option (A × ℕ)). Inside s at o) e x.place in
      record { from = p.0; to = p.1; is = sym x.same ∙ ap (read_of f s) e }

module _ {A : Type 0} {s : List ℕ} {at : ℕ} {a : A} {r : Option ℕ} {d : Read A} (x : Places s at a r d) where
  pub place_none : r ≡ None → d ≡ refused
  place_none e = sym x.same ∙ ap (place_of s a) e

  pub place_some : {next : ℕ} → r ≡ Some next → Gets s at d a next
  place_some e =
      let p = subst (λ (o : Option ℕ). IfSome o (λ next. (at ≤ next) × (next ≤ length s))) e x.placed in
      record { from = p.0; to = p.1; is = sym x.same ∙ ap (place_of s a) e }

  pub placed_as : {before : ℕ} {e : Read A} → before ≤ at → d ≡ e → Places s before a r e
  placed_as {before} l h = record { placed = by r x.placed; same = x.same ∙ h }
    where
      by : (o : Option ℕ) → IfSome o (λ next. (at ≤ next) × (next ≤ length s)) → IfSome o (λ next. (before ≤ next) × (next ≤ length s))
      by None p = tt
      by (Some next) p = (le_trans l p.0, p.1)

-- how a proof makes one: refused, or of what it gets
module _ {s : List ℕ} {at : ℕ} where
  pub no_value : {A B : Type 0} {f : A → B} {d : Read B} → d ≡ refused → Answers f s at d None
  no_value h = record { place = tt; same = sym h }

  pub value : {A B : Type 0} {f : A → B} {d : Read B} {v : A × ℕ} → Gets s at d (f v.0) v.1 → Answers f s at d (Some v)
  value g = record { place = (g.from, g.to); same = sym g.is }

  pub no_place : {A : Type 0} {a : A} {d : Read A} → d ≡ refused → Places s at a None d
  no_place h = record { placed = tt; same = sym h }

  pub place : {A : Type 0} {a : A} {d : Read A} {next : ℕ} → Gets s at d a next → Places s at a (Some next) d
  place g = record { placed = (g.from, g.to); same = sym g.is }

pub gets_as : {A : Type 0} {s : List ℕ} {at before : ℕ} {d e : Read A} {a b : A} {next : ℕ} → before ≤ at → (d ≡ got a (drop next s) → e ≡ got b (drop next s)) → Gets s at d a next → Gets s before e b next
gets_as l h g = record { from = le_trans l g.from; to = g.to; is = h g.is }

pub character_there : (s : List ℕ) (at : ℕ) → at < length s → any_character (drop at s) ≡ got (get_or s at 0) (drop (at + 1) s)
unfolding any_character
character_there s at h = rw (add-one at, drop-cons s at 0 h)

pub character_past : (s : List ℕ) (at : ℕ) → length s ≤ at → any_character (drop at s) ≡ refused
unfolding any_character
character_past s at h = ap any_character (drop_past s at h)

-- whether a list of characters has one
pub contains_any : (w : List ℕ) (c : ℕ) → list_any (λ y. eqb y c) w ≡ any (eqb c) w
contains_any [] c = refl
contains_any (x ∷ w) c = ap (λ b. b || list_any (λ y. eqb y c) w) (turned (ℕ_discrete x c)) ∙ ap (λ b. eqb c x || b) (contains_any w c)
  where
    turned : Dec (x ≡ c) → eqb x c ≡ eqb c x
    turned (yes e) = eq-eqb x c e ∙ sym (eq-eqb c x (sym e))
    turned (no n) = ne_eqb x c n ∙ sym (ne_eqb c x (λ e. n (sym e)))

-- a character that may have a backslash
module _ (special : ℕ → Bool) where
  pub plain_none : (t : List ℕ) → any_character t ≡ refused → plain special t ≡ refused
  unfolding plain any_character
  plain_none [] e = refl
  plain_none (c ∷ t) e = let z : ◌≡◌ {A = ℕ} 0 1 = cc in absurd (omega arith)

  pub plain_escaped : (t : List ℕ) (c : ℕ) (r : List ℕ) → any_character t ≡ got c r → c ≡ 92 → plain special t ≡ any_character r
  unfolding plain any_character
  plain_escaped [] c r e h = let z : ◌≡◌ {A = ℕ} 0 1 = cc in absurd (omega arith)
  plain_escaped (x ∷ t) c r e h =
      let k : x ≡ 92 = cc in
      let q : t ≡ r = cc in
      ap (λ b. cond b (any_character t) (cond (special x) refused (got x t))) (eq-eqb x 92 k) ∙ ap any_character q

  unescaped : (t : List ℕ) (c : ℕ) (r : List ℕ) → any_character t ≡ got c r → (c ≡ 92 → ⊥) → plain special t ≡ cond (special c) refused (got c r)
  unfolding plain any_character
  unescaped [] c r e h = let z : ◌≡◌ {A = ℕ} 0 1 = cc in absurd (omega arith)
  unescaped (x ∷ t) c r e h =
      let k : x ≡ c = cc in
      let q : t ≡ r = cc in
      ap (λ b. cond b (any_character t) (cond (special x) refused (got x t))) (ne_eqb x 92 (λ z. h (sym k ∙ z)))
      ∙ ap (λ y. cond (special y) refused (got y t)) k ∙ ap (λ u. cond (special c) refused (got c u)) q

  pub plain_special : (t : List ℕ) (c : ℕ) (r : List ℕ) → any_character t ≡ got c r → (c ≡ 92 → ⊥) → special c ≡ true → plain special t ≡ refused
  plain_special t c r e h y = unescaped t c r e h ∙ ap (λ b. cond b refused (got c r)) y

  pub plain_bare : (t : List ℕ) (c : ℕ) (r : List ℕ) → any_character t ≡ got c r → (c ≡ 92 → ⊥) → special c ≡ false → plain special t ≡ got c r
  plain_bare t c r e h y = unescaped t c r e h ∙ ap (λ b. cond b refused (got c r)) y

-- a single character or a range
pub element_none : (t : List ℕ) → plain in_brackets t ≡ refused → element t ≡ refused
unfolding element then_read
element_none t e = rw e

pub element_range : (t : List ℕ) (a : ℕ) (r : List ℕ) → plain in_brackets t ≡ got a r → first r ≡ 45 → element t ≡ map_read (range a) (plain in_brackets (behind r))
unfolding element then_read
element_range t a r e h = rw (e, eq-eqb (first r) 45 h)

pub element_single : (t : List ℕ) (a : ℕ) (r : List ℕ) → plain in_brackets t ≡ got a r → (first r ≡ 45 → ⊥) → element t ≡ got (range a a) r
unfolding element then_read
element_single t a r e h = rw (e, ne_eqb (first r) 45 h)

-- what is read and fed, or refused
pub fed_none : {A B : Type 0} (f : A → B) {d : Read A} → d ≡ refused → map_read f d ≡ refused
unfolding map_read
fed_none f e = ap (map_read f) e

pub fed_one : {A B : Type 0} (f : A → B) {d : Read A} {a : A} {rest : List ℕ} {b : B} → d ≡ got a rest → b ≡ f a → map_read f d ≡ got b rest
unfolding map_read
fed_one f {rest = rest} e h = ap (map_read f) e ∙ ap (λ x. got x rest) (sym h)
