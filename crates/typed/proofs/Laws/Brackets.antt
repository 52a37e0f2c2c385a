-- The elements of a bracket, fed one after another, and what closes it.
-- By the readings one after another, one more or none. Assumes nothing.
use mathlib.Core.Bool.{Bool, true, false, cond}
use mathlib.Core.List.{List, [], ◌∷◌}
use mathlib.Core.Path.{◌≡◌, refl, sym, ap, ◌∙◌}
use Prim.Native.Nat.{ℕ, ◌+◌}
use native.Mathlib.Omega.{arith}
use borrow.Author.Tests.{eqb-true}
use lib.ListN.{drop}
use Rattle.meaning.specs.Table.{Range}
use Rattle.expression.specs.bridge.Text.{Read, refused, got, map_read, first, behind}
use Rattle.expression.proofs.Laws.Places.{there, behind_at}
use Rattle.typed.specs.bridge.Reader.{then_read, any_number, plain, element, ends_bracket, elements}
use Rattle.typed.specs.bridge.Stream.{State, feed_range, feed_ranges}
use Rattle.typed.proofs.Laws.Patterns.{element_strict}
use Rattle.typed.proofs.Laws.Readings.{Gets}
use Rattle.typed.proofs.Laws.Turns.{then_refused, then_on, fed_all, one_more}

-- no element begins with what closes the bracket
element_closed : (t : List ℕ) → first t ≡ 93 → element t ≡ refused
unfolding element plain then_read
element_closed [] e = refl
element_closed (c ∷ t) e = rw e

-- a state, and the text behind the next character
abbrev pub past : State → List ℕ → Read State
past st r = got st (behind r)

module _ (p : ℕ) (st : State) (t : List ℕ) where
  abbrev pub fed_elements : Read State
  fed_elements = then_read (map_read (λ x. feed_range p x st) (element t)) (fed_all element ends_bracket (feed_range p))

  -- the first element, any number of others, and what closes them
  pub elements_fed : map_read (λ x. feed_ranges p x st) (elements t) ≡ then_read fed_elements past
  unfolding elements then_read map_read
  elements_fed = by (ends_bracket t) refl
    where
      rest : (d : Read (List Range)) →
          map_read (λ x. feed_ranges p x st) (then_read d (λ rs r. got rs (behind r))) ≡ then_read (map_read (λ x. feed_ranges p x st) d) past
      rest refused = refl
      rest (got rs r) = refl

      by : (b : Bool) → ends_bracket t ≡ b →
          map_read (λ x. feed_ranges p x st) (cond b refused (then_read (any_number element ends_bracket t) (λ rs r. got rs (behind r)))) ≡ then_read fed_elements past
      by true e = sym (ap (λ d. then_read (then_read (map_read (λ x. feed_range p x st) d) (fed_all element ends_bracket (feed_range p))) past) (element_closed t (eqb-true (first t) 93 e)))
      by false e =
          rest (any_number element ends_bracket t)
          ∙ ap (λ d. then_read d past) (one_more element ends_bracket (feed_range p) element_strict st t e)

  -- a first element that is refused, and a later one
  pub elements_refused : fed_elements ≡ refused → map_read (λ x. feed_ranges p x st) (elements t) ≡ refused
  elements_refused e = elements_fed ∙ ap (λ d. then_read d past) e ∙ then_refused past

  pub elements_none : map_read (λ x. feed_range p x st) (element t) ≡ refused → map_read (λ x. feed_ranges p x st) (elements t) ≡ refused
  elements_none e = elements_refused (ap (λ d. then_read d (fed_all element ends_bracket (feed_range p))) e ∙ then_refused (fed_all element ends_bracket (feed_range p)))

-- past the bracket that closes
pub past_closed : {s : List ℕ} {at next : ℕ} {w : Read State} {st : State} → first (drop next s) ≡ 93 → Gets s at w st next → Gets s at (then_read w past) st (next + 1)
past_closed {s} {at} {next} {w} {st} c g =
    let l = there s next (λ z. let q : ◌≡◌ {A = ℕ} 93 0 = sym c ∙ z in omega arith) in
    let f = g.from in
    record {
      from = omega arith;
      to = omega arith;
      is = ap (λ d. then_read d past) g.is ∙ then_on st (drop next s) past ∙ ap (got st) (sym (behind_at s next));
    }
