-- A line in its stages: what stands before `==>`, the outputs behind it, the semicolon. What each reads is fed to the state that the one before left. Whether a text has more lines.
-- By cases on each reading, and on the place behind the blanks. Assumes nothing.
use mathlib.Core.Bool.{true, false}
use mathlib.Core.List.{List}
use mathlib.Core.Path.{◌≡◌, refl, sym, ap, ◌∙◌}
use Prim.Native.Nat.{ℕ, ◌≤◌, ◌<◌}
use borrow.Author.Tests.{eq-eqb, ne_eqb}
use lib.ListN.{length, drop}
use Rattle.std.specs.Prelude.{Option}
use Rattle.lists.specs.Lists.{is_empty, fold_left}
use Rattle.meaning.specs.Table.{unmarked}
use Rattle.meaning.specs.Records.{default_record}
use Rattle.expression.specs.Grammar.{Tree}
use Rattle.expression.specs.bridge.Text.{Read, refused, got, map_read, skip, first, behind, expression_of, bracketed}
use Rattle.expression.specs.bridge.Answers.{Skipped}
use Rattle.expression.proofs.Laws.Folds.{map_map}
use Rattle.expression.proofs.Laws.Symbols.{at-cons, drop_past}
use Rattle.typed.specs.Grammar.{Head, Line, pattern, otherwise, else_word, arrow, semicolon}
use Rattle.typed.specs.bridge.Reader.{then_read, pattern_of, symbol, head_of, right_of, line_of, ends_text}
use Rattle.typed.specs.bridge.Stream.{State, feed, feed_pattern, feed_head}
use Rattle.typed.specs.bridge.Answers.{Places}
use Rattle.typed.proofs.Laws.Readings.{Gets, placed_as}

-- two readings, one behind the other: a refusal of the first is one of both, and otherwise the second's answer is that of both
module _ {A B : Type 0} {d : Read A} {both : Read B} (f : A → List ℕ → Read B) (e : both ≡ then_read d f) where
  pub first_refused : d ≡ refused → both ≡ refused
  unfolding then_read
  first_refused h = e ∙ ap (λ d. then_read d f) h

  pub second_refused : {a : A} {u : List ℕ} → d ≡ got a u → f a u ≡ refused → both ≡ refused
  unfolding then_read
  second_refused h k = e ∙ ap (λ d. then_read d f) h ∙ k

  pub second_placed : {s : List ℕ} {at : ℕ} {a : A} {next : ℕ} {b : B} {r : Option ℕ} → Gets s at d a next → Places s next b r (f a (drop next s)) → Places s at b r both
  unfolding then_read
  second_placed g y = placed_as y g.from (sym (e ∙ ap (λ d. then_read d f) g.is))

module _ (st : State) where
  -- the two ways through what stands before `==>`
  module _ (t u : List ℕ) (e : u ≡ skip t) where
    pub head_pattern : first u ≡ 34 → map_read (λ h. feed_head h st) (head_of t) ≡ map_read (λ q. feed_pattern q st) (pattern_of (behind u))
    unfolding head_of
    head_pattern h = rw (← e, eq-eqb (first u) 34 h) (map_map (λ h. feed_head h st) pattern (pattern_of (behind u)))

    pub head_default : (first u ≡ 34 → ⊥) → map_read (λ h. feed_head h st) (head_of t) ≡ map_read (λ _. feed (default_record unmarked) st) (symbol else_word t)
    unfolding head_of
    head_default n = rw (← e, ne_eqb (first u) 34 n) (map_map (λ h. feed_head h st) (λ _. otherwise) (symbol else_word t))

  -- how one expression is fed is any function of the state
  module _ (each : Tree → State → State) where
    -- `==>`, then the outputs, then the semicolon
    pub right_fed : (t : List ℕ) → map_read (λ ts. fold_left each ts st) (right_of t)
        ≡ then_read (symbol arrow t) (λ _ r. then_read (map_read (λ ts. fold_left each ts st) (bracketed expression_of r)) (λ st' r. map_read (λ _. st') (symbol semicolon r)))
    unfolding right_of then_read map_read
    right_fed t = by (symbol arrow t)
      where
        end : (ts : List Tree) (d : Read (Unit {0})) → map_read (λ ts. fold_left each ts st) (then_read d (λ _ r. got ts r)) ≡ map_read (λ _. fold_left each ts st) d
        end ts refused = refl
        end ts (got _ r) = refl

        outputs : (d : Read (List Tree)) → map_read (λ ts. fold_left each ts st) (then_read d (λ ts r. then_read (symbol semicolon r) (λ _ r. got ts r)))
            ≡ then_read (map_read (λ ts. fold_left each ts st) d) (λ st' r. map_read (λ _. st') (symbol semicolon r))
        outputs refused = refl
        outputs (got ts r) = end ts (symbol semicolon r)

        by : (d : Read (Unit {0})) →
            map_read (λ ts. fold_left each ts st) (then_read d (λ _ r. then_read (bracketed expression_of r) (λ ts r. then_read (symbol semicolon r) (λ _ r. got ts r))))
            ≡ then_read d (λ _ r. then_read (map_read (λ ts. fold_left each ts st) (bracketed expression_of r)) (λ st' r. map_read (λ _. st') (symbol semicolon r)))
        by refused = refl
        by (got _ r) = outputs (bracketed expression_of r)

    -- what stands before `==>`, then what is right of it
    pub line_fed : (t : List ℕ) → map_read (λ (l : Line). fold_left each l.outputs (feed_head l.head st)) (line_of t)
        ≡ then_read (map_read (λ h. feed_head h st) (head_of t)) (λ st' r. map_read (λ ts. fold_left each ts st') (right_of r))
    unfolding line_of then_read map_read
    line_fed t = by (head_of t)
      where
        by : (d : Read Head) → map_read (λ (l : Line). fold_left each l.outputs (feed_head l.head st)) (then_read d (λ h r. map_read (λ ts. record { head = h; outputs = ts }) (right_of r)))
            ≡ then_read (map_read (λ h. feed_head h st) d) (λ st' r. map_read (λ ts. fold_left each ts st') (right_of r))
        by refused = refl
        by (got h r) = map_map (λ (l : Line). fold_left each l.outputs (feed_head l.head st)) (λ ts. record { head = h; outputs = ts }) (right_of r)

-- nothing but blanks is left where the next symbol's place is not before the end
pub text_left : {s : List ℕ} {at j : ℕ} → Skipped s at j → j < length s → ends_text (drop at s) ≡ false
text_left {s} {at} {j} k l = ap is_empty (sym k.same ∙ at-cons s j l)

pub text_done : {s : List ℕ} {at j : ℕ} → Skipped s at j → length s ≤ j → ends_text (drop at s) ≡ true
text_done {s} {at} {j} k l = ap is_empty (sym k.same ∙ drop_past s j l)
