-- The loops that feed what they read: a turn leaves the work that is left, the end has none left, and the unread length falls.
-- By the readings one after another, one more or none. Assumes nothing.
use mathlib.Core.Bool.{Bool, true, false}
use mathlib.Core.List.{List, ◌∷◌}
use mathlib.Core.Path.{◌≡◌, refl, sym, ap, ◌∙◌}
use Prim.Native.Nat.{ℕ, ◌≤◌, ◌<◌}
use native.Mathlib.Nat.{le_trans}
use native.Mathlib.Omega.{arith}
use lib.ListN.{length, drop, length-drop}
use Rattle.lists.specs.Lists.{fold_left}
use Rattle.expression.specs.bridge.Text.{Read, refused, got, map_read}
use Rattle.typed.specs.declared.sink.Records.{Records}
use Rattle.typed.specs.bridge.Reader.{then_read, any_number}
use Rattle.typed.specs.bridge.Stream.{State}
use Rattle.typed.specs.bridge.Answers.{state_of}
use Rattle.typed.proofs.Laws.Readings.{Gets}
use Rattle.typed.proofs.Laws.Several.{any_stop, any_step}

pub then_refused : {A B : Type 0} (f : A → List ℕ → Read B) → then_read refused f ≡ refused
unfolding then_read
then_refused f = refl

pub then_on : {A B : Type 0} (a : A) (t : List ℕ) (f : A → List ℕ → Read B) → then_read (got a t) f ≡ f a t
unfolding then_read
then_on a t f = refl

-- what holds at the head of a loop: what is left, by `left`, is what is left of the whole reading
pub record Onward {B : Type 0} (s : List ℕ) (at : ℕ) (left : State → List ℕ → Read B) (whole : Read B) (next : ℕ) (k : Records) : Type 0 where
  pub from : at ≤ next
  pub to : next ≤ length s
  pub same : left (state_of k) (drop next s) ≡ whole

-- it holds behind the first reading
pub onward_first : {B : Type 0} {s : List ℕ} {at next : ℕ} (left : State → List ℕ → Read B) {whole : Read B} {k : Records} {d : Read State} →
    whole ≡ then_read d left → Gets s at d (state_of k) next → Onward s at left whole next k
onward_first {s = s} {next = next} left {k = k} e g =
    record { from = g.from; to = g.to; same = sym (then_on (state_of k) (drop next s) left) ∙ ap (λ d. then_read d left) (sym g.is) ∙ sym e }

-- an item is read and fed, and then what is left; or it is refused, and so is the whole
module _ {B : Type 0} {s : List ℕ} {at next : ℕ} {left : State → List ℕ → Read B} (left' : State → List ℕ → Read B) {whole : Read B} {k : Records} {d : Read State}
    (on : Onward s at left whole next k) (step : left (state_of k) (drop next s) ≡ then_read d left') where
  pub onward_turn : {next' : ℕ} {k' : Records} → Gets s next d (state_of k') next' → Onward s at left' whole next' k'
  onward_turn {next'} {k'} g =
      record {
        from = le_trans on.from g.from;
        to = g.to;
        same = sym (then_on (state_of k') (drop next' s) left') ∙ ap (λ d. then_read d left') (sym g.is) ∙ sym step ∙ on.same;
      }

  pub onward_refused : d ≡ refused → whole ≡ refused
  onward_refused e = sym on.same ∙ step ∙ ap (λ d. then_read d left') e ∙ then_refused left'

-- nothing is left where the loop ends
pub onward_end : {B : Type 0} {s : List ℕ} {at next : ℕ} {left : State → List ℕ → Read B} {whole : Read B} {k : Records} {b : B} →
    Onward s at left whole next k → left (state_of k) (drop next s) ≡ got b (drop next s) → Gets s at whole b next
onward_end on end = record { from = on.from; to = on.to; is = sym on.same ∙ end }

-- any number of items, each fed by f
module _ {A : Type 0} (item : List ℕ → Read A) (stop : List ℕ → Bool) (f : A → State → State) where
  abbrev pub fed_all : State → List ℕ → Read State
  fed_all st t = map_read (λ xs. fold_left f xs st) (any_number item stop t)

  pub none_left : (st : State) (t : List ℕ) → stop t ≡ true → fed_all st t ≡ got st t
  unfolding map_read
  none_left st t e = ap (map_read (λ xs. fold_left f xs st)) (any_stop item stop t e)

  pub one_more : (strict : (t : List ℕ) (a : A) (r : List ℕ) → item t ≡ got a r → length r < length t) →
      (st : State) (t : List ℕ) → stop t ≡ false → fed_all st t ≡ then_read (map_read (λ x. f x st) (item t)) fed_all
  unfolding map_read then_read
  one_more strict st t e = ap (map_read (λ xs. fold_left f xs st)) (any_step item stop strict t e) ∙ by (item t)
    where
      rest : (a : A) (r : Read (List A)) → map_read (λ xs. fold_left f xs st) (map_read (λ xs. a ∷ xs) r) ≡ map_read (λ xs. fold_left f xs (f a st)) r
      rest a refused = refl
      rest a (got xs u) = refl

      by : (d : Read A) → map_read (λ xs. fold_left f xs st) (then_read d (λ a r. map_read (λ xs. a ∷ xs) (any_number item stop r))) ≡ then_read (map_read (λ x. f x st) d) fed_all
      by refused = refl
      by (got a r) = rest a (any_number item stop r)

-- an item has a character, so the place behind it is further
pub advances : {A B : Type 0} {s : List ℕ} (item : List ℕ → Read A) (strict : (t : List ℕ) (a : A) (r : List ℕ) → item t ≡ got a r → length r < length t)
    {at next : ℕ} (f : A → B) {b : B} → Gets s at (map_read f (item (drop at s))) b next → at < next
unfolding map_read
advances {A} {B} {s} item strict {at} {next} f {b} g = by (item (drop at s)) refl g.is
  where
    by : (d : Read A) → item (drop at s) ≡ d → map_read f d ≡ got b (drop next s) → at < next
    by refused e q = let z : ◌≡◌ {A = ℕ} 0 1 = cc in absurd (omega arith)
    by (got a r) e q =
        let same : drop next s ≡ r = cc in
        let l = strict (drop at s) a r e in
        let k : length (drop next s) ≡ length r = ap length same in
        let m = length-drop next s in
        let n = length-drop at s in
        let to = g.to in
        omega arith
