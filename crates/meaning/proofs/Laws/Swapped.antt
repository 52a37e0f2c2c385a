-- Two terms may be taken in either order: where they are both taken in, they are so the other way round, and lead to the same reading.
-- Coefficients at different positions do not meet, and of two terms with the same position the second is refused.
use mathlib.Core.Bool.{◌||◌, not}
use mathlib.Core.List.{List, [], ◌∷◌}
use mathlib.Core.Logic.{◌≢◌}
use Rattle.std.specs.Prelude.{Option, None, Some}
use mathlib.Core.Path.{◌≡◌, refl, sym, ap, subst, ◌∙◌}
use Prim.Native.Nat.{ℕ, ◌≤◌, ◌<◌}
use native.Mathlib.Decide.{ℕ_discrete}
use native.Mathlib.Omega.{arith}
use lib.Dec.{T, T_not, eqb, leb}
use lib.IntN.{ℤ, pos, nat_abs}
use lib.ListN.{get_or}
use Rattle.lists.specs.Lists.{at_last, last_d}
use Rattle.lists.proofs.Laws.Tests.{or_none, not_not, refute, neither, holds, by_cases}
use Rattle.lists.proofs.Laws.Last.{last_at_last, last_changed, at_last_none, at_last_comm}
use Rattle.meaning.specs.Refusal.{Outcome, refused, accepted, and_then}
use Rattle.meaning.specs.Table.{Output, sum, digit, Group, every_character, Mark}
use Rattle.meaning.specs.Record.{Record, rule, range, output, term, default, hexadecimal, decode}
use Rattle.meaning.specs.Reader.{Reading, latest, coefficient_at, repeated, misplaced, skipping, too_many, change_latest, signed, add_term, change_outputs, taken, read_one}
use Rattle.meaning.specs.AnyOrder.{IsTerm}
use Rattle.meaning.proofs.Laws.Refusal.{refused_not}
use Rattle.meaning.proofs.Laws.Terms.{none_there, put_same, put_other, put_comm}
use Rattle.meaning.proofs.Laws.Reading.{top}
use Rattle.meaning.proofs.Laws.Decoding.{FittingRecord}
use Rattle.meaning.proofs.Laws.Encoding.{signed_named, half_16}

-- the group read last

abbrev with_term : ℕ → ℕ → Group → Group
with_term p a = change_outputs (at_last (add_term p (signed 16 a)))

abbrev with_outputs : Group → List Output → Group
with_outputs g os = change_outputs (λ _. os) g

term_comm : (p q : ℕ) (a b : ℤ) → p ≢ q → (o : Output) → add_term p a (add_term q b o) ≡ add_term q b (add_term p a o)
term_comm p q a b n (sum c ks) = ap (sum c) (put_comm p q a b ks n)
term_comm p q a b n (digit r shift) = refl

group_comm : (p q a b : ℕ) → p ≢ q → (g : Group) → with_term p a (with_term q b g) ≡ with_term q b (with_term p a g)
group_comm p q a b n g =
    ap (with_outputs g) (at_last_comm (add_term p (signed 16 a)) (add_term q (signed 16 b)) (term_comm p q (signed 16 a) (signed 16 b) n) g.outputs)

change_comm : (f g : Group → Group) → ((x : Group) → f (g x) ≡ g (f x)) → (rs : List Group) (d : Option Group) (k : Mark) →
    change_latest f (change_latest g (record { rules = rs; default = d; mark = k })) ≡ change_latest g (change_latest f (record { rules = rs; default = d; mark = k }))
unfolding change_latest
change_comm f g h rs None k = ap (λ l. record { rules = l; default = None; mark = k }) (at_last_comm f g h rs)
change_comm f g h rs (Some x) k = ap (λ y. record { rules = rs; default = Some y; mark = k }) (h x)

change_none : (f : Group → Group) (rs : List Group) (d : Option Group) (k : Mark) → f (top rs d) ≡ top rs d → change_latest f (record { rules = rs; default = d; mark = k }) ≡ record { rules = rs; default = d; mark = k }
unfolding change_latest
change_none f rs None k e = ap (λ l. record { rules = l; default = None; mark = k }) (at_last_none f (every_character []) rs e)
change_none f rs (Some x) k e = ap (λ y. record { rules = rs; default = Some y; mark = k }) e

change_top : (f : Group → Group) → f (every_character []) ≡ every_character [] → (rs : List Group) (d : Option Group) (k : Mark) →
    (let t = change_latest f (record { rules = rs; default = d; mark = k }) in top t.rules t.default) ≡ f (top rs d)
unfolding change_latest
change_top f e rs None k = last_changed f (every_character []) e rs
change_top f e rs (Some x) k = refl

-- a reading with a term taken in

pub taken_latest : (s : Reading) (p a : ℕ) → latest (taken s (term p a)) ≡ with_term p a (latest s)
unfolding taken latest
taken_latest s p a = change_top (with_term p a) refl s.table.rules s.table.default s.table.mark

taken_kind : (s : Reading) (p a : ℕ) → (taken s (term p a)).kind ≡ 4
unfolding taken
taken_kind s p a = refl

taken_comm : (s : Reading) (p q a b : ℕ) → p ≢ q → taken (taken s (term p a)) (term q b) ≡ taken (taken s (term q b)) (term p a)
unfolding taken
taken_comm s p q a b n =
    ap (λ t. record { table = t; kind = 4 })
    (change_comm (with_term q b) (with_term p a) (group_comm q p b a (λ e. n (sym e))) s.table.rules s.table.default s.table.mark)

-- the last output character
abbrev pub last_output : List Output → Output
last_output os = last_d (sum (pos 0) []) os

-- without an output character, or behind a digit, a term leaves everything as it was
abbrev NoSum : List Output → Type 0
NoSum os = (q : ℕ) (y : ℤ) → at_last (add_term q y) os ≡ os

module _ (s : Reading) (p a : ℕ) where
  abbrev z : ℤ
  z = signed 16 a

  taken_outputs : (latest (taken s (term p a))).outputs ≡ at_last (add_term p z) (latest s).outputs
  taken_outputs = ap (λ g. g.outputs) (taken_latest s p a)

  pub repeated_other : (q : ℕ) → p ≢ q → repeated (taken s (term p a)) q ≡ repeated s q
  unfolding repeated
  repeated_other q n =
      ap (λ os. not (eqb (nat_abs (coefficient_at (last_output os) q)) 0)) taken_outputs
      ∙ ap (λ k. not (eqb (nat_abs k) 0)) (kept (latest s).outputs)
    where
      same : (o : Output) → coefficient_at (add_term p z o) q ≡ coefficient_at o q
      same (sum c ks) = put_other p q z ks n
      same (digit r shift) = refl

      kept : (os : List Output) → coefficient_at (last_output (at_last (add_term p z) os)) q ≡ coefficient_at (last_output os) q
      kept [] = refl
      kept (o ∷ os) = ap (λ l. coefficient_at l q) (last_at_last (add_term p z) (sum (pos 0) []) (o ∷ os) (omega arith)) ∙ same (last_output (o ∷ os))

  -- the position is named, unless there is no sum to name it
  repeated_same : 1 ≤ a → a < 65536 → T (not (repeated (taken s (term p a)) p)) → NoSum (latest s).outputs
  unfolding repeated
  repeated_same low high t = go (latest s).outputs (none_there _ (subst (λ os. T (not (not (eqb (nat_abs (coefficient_at (last_output os) p)) 0)))) taken_outputs t))
    where
      last : (o : Output) (os : List Output) → last_output os ≡ o → coefficient_at (add_term p z o) p ≡ pos 0 → NoSum os
      last (sum c ks) os e h = absurd (signed_named 16 half_16 a high low (sym (put_same p z ks) ∙ h))
      last (digit r shift) os e h = λ q y. at_last_none (add_term q y) (sum (pos 0) []) os (ap (add_term q y) e ∙ sym e)

      go : (os : List Output) → coefficient_at (last_output (at_last (add_term p z) os)) p ≡ pos 0 → NoSum os
      go [] h = λ q y. refl
      go (o ∷ os) h =
          last (last_output (o ∷ os)) (o ∷ os) refl
          (ap (λ l. coefficient_at l p) (sym (last_at_last (add_term p z) (sum (pos 0) []) (o ∷ os) (omega arith))) ∙ h)

  no_sum_taken : NoSum (latest s).outputs → taken s (term p a) ≡ record { table = s.table; kind = 4 }
  unfolding taken latest
  no_sum_taken n =
      ap (λ t. record { table = t; kind = 4 })
      (change_none (with_term p a) s.table.rules s.table.default s.table.mark (ap (with_outputs (top s.table.rules s.table.default)) (n p z)))

-- whether a term may be taken

-- terms may come; the position is below K; no term has it
record Comes (s : Reading) (p : ℕ) : Type 0 where
  kind : T (eqb s.kind 3 || eqb s.kind 4)
  below : T (not (leb (latest s).size p))
  new : T (not (repeated s p))

module _ (s : Reading) (p a : ℕ) where
  to_comes : T (not (misplaced s (term p a))) → Comes s p
  unfolding misplaced
  to_comes m =
      let kinds = eqb s.kind 3 || eqb s.kind 4 in
      let t = or_none (not kinds || leb (latest s).size p) (repeated s p) m in
      let u = or_none (not kinds) (leb (latest s).size p) t.0 in
      record { kind = not_not kinds u.0; below = u.1; new = t.1 }

  of_comes : Comes s p → T (not (misplaced s (term p a)))
  unfolding misplaced
  of_comes f =
      let kinds = eqb s.kind 3 || eqb s.kind 4 in
      let outside = leb (latest s).size p in
      neither (not kinds || outside) (repeated s p) (neither (not kinds) outside (refute kinds f.kind) f.below) f.new

  module _ {B : Type 0} (f : Reading → Outcome B) (o : B) where
    -- a term that was taken might come, and what comes after it was accepted
    one_taken : and_then (read_one s (Some (term p a))) f ≡ accepted o → Comes s p × (f (taken s (term p a)) ≡ accepted o)
    unfolding read_one and_then skipping too_many
    one_taken =
        by_cases (λ r. and_then r f ≡ accepted o → Comes s p × (f (taken s (term p a)) ≡ accepted o)) _ (accepted (taken s (term p a)))
        (λ _ e. absurd (refused_not 3 o e), λ m. (λ t. absurd t, λ _. (λ t. absurd t, λ _ e. (to_comes m, e))))

    one_takes : Comes s p → f (taken s (term p a)) ≡ accepted o → and_then (read_one s (Some (term p a))) f ≡ accepted o
    unfolding read_one and_then skipping too_many
    one_takes h e =
        by_cases (λ r. and_then r f ≡ accepted o) _ (accepted (taken s (term p a)))
        (λ t. absurd (T_not (misplaced s (term p a)) (of_comes h) t), λ m. (λ t. absurd t, λ _. (λ t. absurd t, λ _. e)))

-- a term may come after another of a different position as it might before
module _ (s : Reading) (p a q : ℕ) (n : p ≢ q) where
  size_kept : (latest (taken s (term p a))).size ≡ (latest s).size
  size_kept = ap (λ g. g.size) (taken_latest s p a)

  comes_after : Comes s q → Comes (taken s (term p a)) q
  comes_after f = record {
    kind = subst (λ k. T (eqb k 3 || eqb k 4)) (sym (taken_kind s p a)) tt;
    below = subst (λ k. T (not (leb k q))) (sym size_kept) f.below;
    new = subst (λ b. T (not b)) (sym (repeated_other s p a q n)) f.new;
  }

  comes_before : Comes s p → Comes (taken s (term p a)) q → Comes s q
  comes_before f g = record {
    kind = f.kind;
    below = subst (λ k. T (not (leb k q))) size_kept g.below;
    new = subst (λ b. T (not b)) (repeated_other s p a q n) g.new;
  }

-- TWO TERMS IN EITHER ORDER
module _ {B : Type 0} (s : Reading) (p a q b : ℕ) (f : Reading → Outcome B) (o : B) where
  abbrev both_read : ℕ → ℕ → ℕ → ℕ → Outcome B
  both_read p a q b = and_then (read_one s (Some (term p a))) (λ s'. and_then (read_one s' (Some (term q b))) f)

  pub swap_terms : 1 ≤ a → a < 65536 → both_read p a q b ≡ accepted o → both_read q b p a ≡ accepted o
  unfolding latest
  swap_terms low high e =
      let x = taken s (term p a) in
      let y = taken s (term q b) in
      let one = one_taken s p a (λ s'. and_then (read_one s' (Some (term q b))) f) o e in
      let two = one_taken x q b f o one.1 in
      elim (ℕ_discrete p q) [
        | no n ↦
            one_takes s q b (λ s'. and_then (read_one s' (Some (term p a))) f) o (comes_before s p a q n one.0 two.0)
            (one_takes y p a f o (comes_after s q b p (λ e. n (sym e)) one.0) (ap f (sym (taken_comm s p q a b n)) ∙ two.1))
        | yes i ↦
            let still : Reading = record { table = s.table; kind = 4 } in
            let no-sum = repeated_same s p a low high (subst (λ k. T (not (repeated x k))) (sym i) two.0.new) in
            let first : x ≡ still = no_sum_taken s p a no-sum in
            let other : y ≡ still = no_sum_taken s q b no-sum in
            let same : x ≡ y = first ∙ sym other in
            let all : taken y (term p a) ≡ taken x (term q b) =
            ap (λ r. taken r (term p a)) other ∙ no_sum_taken still p a no-sum ∙ sym (no_sum_taken still q b no-sum) ∙ ap (λ r. taken r (term q b)) (sym first) in
            one_takes s q b (λ s'. and_then (read_one s' (Some (term p a))) f) o (subst (Comes s) i one.0)
            (one_takes y p a f o (subst (λ r. Comes r p) same (subst (Comes x) (sym i) two.0)) (ap f all ∙ two.1))
      ]

-- a record of kind 4 is a term with the position in byte 1, or none

abbrev pub OnlyTerm : ℕ → Option Record → Type 0
OnlyTerm q None = Unit {0}
OnlyTerm q (Some (rule k a)) = ⊥
OnlyTerm q (Some (range p r)) = ⊥
OnlyTerm q (Some (output c)) = ⊥
OnlyTerm q (Some (term p a)) = p ≡ q
OnlyTerm q (Some (default k)) = ⊥
OnlyTerm q (Some (hexadecimal p shift)) = ⊥

pub only_term : (x : List ℕ) → IsTerm x → OnlyTerm (get_or x 1 0) (decode x)
unfolding decode
only_term x e =
    by_cases (OnlyTerm (get_or x 1 0)) _ None (
      λ t. other 1 (holds _ t).0 tt,
      λ _. (
        λ t. other 2 (holds _ t).0 tt,
        λ _. (λ t. other 3 (holds _ t).0 tt, λ _. (λ _. refl, λ _. (λ t. other 5 (holds _ t).0 tt, λ _. (λ t. other 6 (holds _ t).0 tt, λ _. tt)))),
      ),
    )
  where
    other : (k : ℕ) → T (eqb (get_or x 0 0) k) → T (not (eqb 4 k)) → ⊥
    other k t n = T_not (eqb 4 k) n (subst (λ i. T (eqb i k)) e t)

pub that_term : (q : ℕ) (x : Record) → OnlyTerm q (Some x) → (a : ℕ) × (x ≡ term q a)
that_term q (rule k a) h = absurd h
that_term q (range p r) h = absurd h
that_term q (output c) h = absurd h
that_term q (term p a) h = (a, ap (λ p. term p a) h)
that_term q (default k) h = absurd h
that_term q (hexadecimal p shift) h = absurd h

module _ {B : Type 0} (s : Reading) (f : Reading → Outcome B) (o : B) where
  abbrev in_turn : Option Record → Option Record → Outcome B
  in_turn x y = and_then (read_one s x) (λ s'. and_then (read_one s' y) f)

  pub swap_records : (p q : ℕ) (x y : Option Record) → OnlyTerm p x → OnlyTerm q y → ((r : Record) → x ≡ Some r → FittingRecord r) →
      in_turn x y ≡ accepted o → in_turn y x ≡ accepted o
  unfolding read_one and_then
  swap_records p q None y h k fit e = absurd (refused_not 2 o e)
  swap_records p q (Some x) None h k fit e =
      let t = that_term p x h in
      absurd (refused_not 2 o (one_taken s p t.0 (λ s'. refused 2) o (subst (λ x. in_turn (Some x) None ≡ accepted o) t.1 e)).1)
  swap_records p q (Some x) (Some y) h k fit e =
      let t = that_term p x h in
      let u = that_term q y k in
      let g = subst FittingRecord t.1 (fit x refl) in
      subst (λ y. in_turn (Some y) (Some x) ≡ accepted o) (sym u.1) (subst (λ x. in_turn (Some (term q u.0)) (Some x) ≡ accepted o) (sym t.1)
      (swap_terms s p t.0 q u.0 f o g.1 g.2
      (subst (λ x. in_turn (Some x) (Some (term q u.0)) ≡ accepted o) t.1 (subst (λ y. in_turn (Some x) (Some y) ≡ accepted o) u.1 e))))
