-- Counts of uses with more for a group, how large they get, and what is left of a number without what the rules took.
-- By the laws of a list with one element made anew, and since no sound count is more than what was consumed.
use mathlib.Core.Bool.{Bool, cond}
use mathlib.Core.List.{List}
use Rattle.std.specs.Prelude.{Option, None, Some}
use Rattle.std.specs.Option.{option_eq}
use mathlib.Core.Path.{◌≡◌, sym, ap, ◌∙◌}
use Prim.Native.Nat.{ℕ, ◌+◌, ◌-◌, ◌≤◌, ◌<◌}
use native.Mathlib.Decide.{ℕ_discrete}
use native.Mathlib.Nat.{add-zero}
use native.Mathlib.Omega.{arith}
use borrow.Author.Tests.{ne_eqb, le-leb, lt-leb}
use lib.Dec.{T, eqb, ltb, leb, ltb→lt, nltb→le, leb→le, nleb→lt, eqb→eq}
use lib.ListN.{length, get_or, set, length-set}
use lib.Seq.{set_out, get_or-set_same, get_or-set_other, set-get_or, set-set}
use Rattle.lists.proofs.Laws.Options.{some_same, none_not}
use Rattle.lists.proofs.Laws.Tests.{split, test_eq, eq→eqb}
use Rattle.meaning.specs.Direct.{limit}
use Rattle.automaton.specs.Sound.{sound}
use Rattle.reckoning.specs.Uses.{use_counts, sound_uses}
use Rattle.reckoning.proofs.Laws.Uses.{uses_most}
use Rattle.session.specs.bridge.Counting.{bumped, Counted, less}

module _ (uses : List ℕ) (g : ℕ) where
  pub bumped_none : bumped uses g 0 ≡ uses
  bumped_none = ap (set uses g) (add-zero (get_or uses g 0)) ∙ set-get_or uses g 0

  -- the count of the group itself
  pub bumped_here : (n : ℕ) → g < length uses → get_or (bumped uses g n) g 0 ≡ get_or uses g 0 + n
  bumped_here n h = get_or-set_same uses g (get_or uses g 0 + n) 0 h

  pub bumped_again : (m n : ℕ) → g < length uses → bumped (bumped uses g m) g n ≡ bumped uses g (m + n)
  bumped_again m n h =
      let e : get_or (bumped uses g m) g 0 + n ≡ get_or uses g 0 + (m + n) = omega (arith, bumped_here m h) in
      set-set uses g (get_or uses g 0 + m) (get_or (bumped uses g m) g 0 + n) ∙ ap (set uses g) e

  -- no count grows by more
  pub bumped_most : (n k : ℕ) → get_or (bumped uses g n) k 0 ≤ get_or uses k 0 + n
  bumped_most n k =
      elim (ℕ_discrete k g) [
        | yes p ↦ rw p (split (ltb g (length uses))
            (λ l. omega (arith, bumped_here n (ltb→lt g (length uses) l)))
            (λ l. omega (arith, ap (λ x. get_or x g 0) (set_out uses g (get_or uses g 0 + n) (nltb→le g (length uses) l)))))
        | no d ↦ omega (arith, get_or-set_other uses g k (get_or uses g 0 + n) 0 d)
      ]

  pub counted_bumped : (n before after : ℕ) → Counted uses before → before + n ≤ after → Counted (bumped uses g n) after
  counted_bumped n before after c h = record {
    whole = length-set uses g (get_or uses g 0 + n) ∙ c.whole;
    few = λ k. omega (arith, c.few k, bumped_most n k);
  }

  -- the count fits its 64 bits where a call covers no more than 2 ^ 40 characters and the eight that were held
  pub counted_room : (n before : ℕ) → Counted uses before → before + n ≤ 1099511627784 → get_or uses g 0 + n < 18446744073709551616
  counted_room n before c h = omega (arith, c.few g)

pub counted_sound : (w uses : List ℕ) (consumed : ℕ) → T (sound w) → T (sound_uses w uses consumed) → consumed ≤ limit → length uses ≡ use_counts →
    Counted uses 0
counted_sound w uses consumed W t h e = record { whole = e; few = λ g. omega (arith, uses_most w uses consumed W t e g) }

-- what is left of m without n

module _ (m n : ℕ) where
  abbrev rest : Bool → Option ℕ
  rest b = cond b (Some (m - n)) None

  pub less_enough : n ≤ m → less m n ≡ Some (m - n)
  less_enough h = ap rest (le-leb n m h)

  pub less_lacking : m < n → less m n ≡ None
  less_lacking h = ap rest (lt-leb n m h)

  pub enough_less : (k : ℕ) → less m n ≡ Some k → n + k ≡ m
  enough_less k e =
      split (leb n m)
      (λ t.
      let h : n ≤ m = leb→le n m t in
      let p : m - n ≡ k = some_same (m - n) k (sym (less_enough h) ∙ e) in
      omega arith)
      (λ t. absurd (none_not k (sym (less_lacking (nleb→lt n m t)) ∙ e)))

  pub lacking_less : less m n ≡ None → m < n
  lacking_less e =
      split (leb n m) (λ t. absurd (none_not (m - n) (sym e ∙ less_enough (leb→le n m t)))) (λ t. nleb→lt n m t)

-- past a part that was taken, what is left without the rest
pub less_past : (a b m n : ℕ) → a + b ≡ m → less b n ≡ less m (a + n)
less_past a b m n e =
    split (leb n b)
    (λ t.
    let h : n ≤ b = leb→le n b t in
    let same : b - n ≡ m - (a + n) = omega arith in
    less_enough b n h ∙ ap Some same ∙ sym (less_enough m (a + n) (omega arith)))
    (λ t. let h : b < n = nleb→lt n b t in less_lacking b n h ∙ sym (less_lacking m (a + n) (omega arith)))

-- what is left is a number just where that and what was taken are the whole
pub less_is : (m n k : ℕ) → option_eq eqb (less m n) (Some k) ≡ eqb (n + k) m
less_is m n k =
    split (leb n m)
    (λ t.
    let h : n ≤ m = leb→le n m t in
    ap (λ o. option_eq eqb o (Some k)) (less_enough m n h)
    ∙ test_eq (eqb (m - n) k) (eqb (n + k) m)
    (λ u. let e = eqb→eq (m - n) k u in eq→eqb (n + k) m (omega arith))
    (λ u. let e = eqb→eq (n + k) m u in eq→eqb (m - n) k (omega arith)))
    (λ t.
    let h : m < n = nleb→lt n m t in
    ap (λ o. option_eq eqb o (Some k)) (less_lacking m n h) ∙ sym (ne_eqb (n + k) m (λ e. absurd (omega arith))))
