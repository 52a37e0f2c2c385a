-- A word as the next symbol, letter by letter: what is left of it is read at each place.
-- By cases on the tests. Assumes nothing.
use mathlib.Core.Path.{◌≡◌, sym, ap, ◌∙◌}
use mathlib.Core.Bool.{true, not, cond}
use mathlib.Core.List.{List, [], ◌∷◌}
use Rattle.std.specs.Prelude.{Option, None, Some}
use Prim.Native.Nat.{ℕ, suc, ◌+◌, ◌≤◌, ◌<◌}
use native.Mathlib.Numerals.{add-one}
use native.Mathlib.Omega.{arith}
use borrow.Author.Tests.{eq-eqb, ne_eqb}
use lib.Dec.{eqb}
use lib.ListN.{length, drop, get_or, drop_of_length-le}
use lib.Seq.{drop-cons}
use Rattle.lists.specs.Lists.{all}
use Rattle.expression.specs.bridge.Text.{Read, refused, got, map_read, skip, first, behind, closed_by}
use Rattle.expression.proofs.Laws.Places.{there, behind_at}
use Rattle.expression.specs.bridge.Answers.{Follows}
use Rattle.typed.specs.bridge.Reader.{letters, symbol}
use Rattle.typed.specs.bridge.Answers.{Places}
use Rattle.typed.proofs.Laws.Readings.{Gets}
use Rattle.typed.proofs.Laws.Shorts.{all_fails}

-- a character other than 0 stands at a place
pub stands : (s : List ℕ) (at c x : ℕ) → (c ≡ 0 → ⊥) → x ≡ first (drop at s) → x ≡ c → at < length s
stands s at c x n e h = there s at (λ z. n (sym h ∙ e ∙ z))

-- a letter of a word without 0 is not 0
pub letter_there : (w : List ℕ) (i : ℕ) → all (λ c. not (eqb c 0)) w ≡ true → i < length w → get_or w i 0 ≡ 0 → ⊥
letter_there w i e l h =
    let z : ◌≡◌ {A = ℕ} 1 0 = ap (λ b. cond b 1 0) (sym e ∙ all_fails (λ c. not (eqb c 0)) w i 0 l (ap (λ x. not (eqb x 0)) h)) in
    absurd (omega arith)

-- the letters from a place of the word on, at a place of the text
module _ (w s : List ℕ) (i at : ℕ) where
  pub letter_other : i < length w → (first (drop at s) ≡ get_or w i 0 → ⊥) → letters (drop i w) (drop at s) ≡ refused
  unfolding letters
  letter_other l h = rw (drop-cons w i 0 l, ne_eqb (first (drop at s)) (get_or w i 0) h)

  pub letter_is : i < length w → first (drop at s) ≡ get_or w i 0 → letters (drop i w) (drop at s) ≡ letters (drop (i + 1) w) (drop (at + 1) s)
  unfolding letters
  letter_is l h = rw (add-one i, drop-cons w i 0 l, eq-eqb (first (drop at s)) (get_or w i 0) h) (ap (letters (drop (suc i) w)) (sym (behind_at s at)))

  pub letters_end : length w ≤ i → letters (drop i w) (drop at s) ≡ got tt (drop at s)
  unfolding letters
  letters_end l = rw (drop_of_length-le w l)

-- a word of one letter, by the place behind it
pub one_letter : {A : Type 0} {s : List ℕ} {at : ℕ} {a : A} (c : ℕ) (r : Option ℕ) → Follows c s at r → Places s at a r (map_read (λ _. a) (symbol (c ∷ []) (drop at s)))
unfolding symbol letters map_read
one_letter {s = s} {at = at} c None n = record { placed = tt; same = rw (ne_eqb (first (skip (drop at s))) c n) }
one_letter {s = s} {at = at} {a = a} c (Some next) p =
    let f = p.1.from in
    record { placed = (omega arith, p.1.to); same = rw (eq-eqb (first (skip (drop at s))) c p.0) (ap (got a) p.1.same) }

-- what is closed by a letter
pub closed_follows : {A : Type 0} {s : List ℕ} {at before : ℕ} {a : A} {d : Read A} (c : ℕ) (r : Option ℕ) → Gets s before d a at → Follows c s at r → Places s before a r (closed_by c d)
unfolding closed_by
closed_follows {s = s} {at = at} {a = a} c None g n =
    record { placed = tt; same = sym (ap (closed_by c) g.is ∙ ap (λ b. cond b (got a (behind (skip (drop at s)))) refused) (ne_eqb (first (skip (drop at s))) c n)) }
closed_follows {s = s} {at = at} {a = a} c (Some next) g p =
    let f = p.1.from in
    let h = g.from in
    record {
      placed = (omega arith, p.1.to);
      same = ap (got a) p.1.same
          ∙ sym (ap (closed_by c) g.is ∙ ap (λ b. cond b (got a (behind (skip (drop at s)))) refused) (eq-eqb (first (skip (drop at s))) c p.0));
    }
