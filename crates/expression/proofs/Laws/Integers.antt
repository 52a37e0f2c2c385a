-- Laws of whole numbers that the library leaves out.
-- By one more and one less, from 0. Assumes nothing.
use mathlib.Core.Path.{◌≡◌, refl, sym, ap, ◌∙◌}
use Prim.Native.Nat.{zero, suc, ◌*◌}
use lib.IntN.{ℤ, pos, negsuc, neg_ℤ, suc_ℤ, pred_ℤ, ◌+ℤ◌, ◌-ℤ◌, ◌*ℤ◌, +ℤ_idl, +ℤ_assoc, +ℤ_comm, +ℤ_one, -ℤ_one, suc_ℤ-+ℤ, pred_ℤ-+ℤ, zero-*ℤ, *ℤ_comm, suc_ℤ-*ℤ, pred_ℤ-*ℤ, neg_ℤ-neg_ℤ, ℤ_ind}

-- (a + b) + c, with the last two the other way round
last_two : (a b c : ℤ) → (a +ℤ b) +ℤ c ≡ (a +ℤ c) +ℤ b
last_two a b c = +ℤ_assoc a b c ∙ ap (λ x. a +ℤ x) (+ℤ_comm b c) ∙ sym (+ℤ_assoc a c b)

-- what holds at 0 and is kept by one more and one less
by_steps : (P : ℤ → Type 0) → P (pos 0) → ((a : ℤ) → P a → P (suc_ℤ a)) → ((a : ℤ) → P a → P (pred_ℤ a)) → (a : ℤ) → P a
by_steps P z up down = ℤ_ind P z (λ n h. rw (+ℤ_one (pos n)) (up (pos n) h)) (λ n h. rw (-ℤ_one (neg_ℤ (pos n))) (down (neg_ℤ (pos n)) h))

pub *-over-+ : (a b c : ℤ) → (a +ℤ b) *ℤ c ≡ a *ℤ c +ℤ b *ℤ c
*-over-+ a b c =
    by_steps (λ (x : ℤ). (x +ℤ b) *ℤ c ≡ x *ℤ c +ℤ b *ℤ c)
    (ap (λ x. x *ℤ c) (+ℤ_idl b) ∙ sym (+ℤ_idl (b *ℤ c)) ∙ ap (λ x. x +ℤ b *ℤ c) (sym (zero-*ℤ c)))
    (λ x h. ap (λ y. y *ℤ c) (suc_ℤ-+ℤ x b) ∙ suc_ℤ-*ℤ (x +ℤ b) c ∙ ap (λ y. y +ℤ c) h ∙ last_two (x *ℤ c) (b *ℤ c) c ∙ ap (λ y. y +ℤ b *ℤ c) (sym (suc_ℤ-*ℤ x c)))
    (λ x h. ap (λ y. y *ℤ c) (pred_ℤ-+ℤ x b) ∙ pred_ℤ-*ℤ (x +ℤ b) c ∙ ap (λ y. y -ℤ c) h ∙ last_two (x *ℤ c) (b *ℤ c) (neg_ℤ c) ∙ ap (λ y. y +ℤ b *ℤ c) (sym (pred_ℤ-*ℤ x c)))
    a

pub neg-* : (a b : ℤ) → neg_ℤ a *ℤ b ≡ neg_ℤ (a *ℤ b)
neg-* (pos zero) b = zero-*ℤ b ∙ ap neg_ℤ (sym (zero-*ℤ b))
neg-* (pos (suc n)) (pos m) = refl
neg-* (pos (suc n)) (negsuc m) = sym (neg_ℤ-neg_ℤ (pos (suc n * suc m)))
neg-* (negsuc n) (pos m) = sym (neg_ℤ-neg_ℤ (pos (suc n * m)))
neg-* (negsuc n) (negsuc m) = refl

pub *-over-- : (a b c : ℤ) → (a -ℤ b) *ℤ c ≡ a *ℤ c -ℤ b *ℤ c
*-over-- a b c = *-over-+ a (neg_ℤ b) c ∙ ap (λ x. a *ℤ c +ℤ x) (neg-* b c)

pub *ℤ-assoc : (a b c : ℤ) → (a *ℤ b) *ℤ c ≡ a *ℤ (b *ℤ c)
*ℤ-assoc a b c =
    by_steps (λ (x : ℤ). (x *ℤ b) *ℤ c ≡ x *ℤ (b *ℤ c))
    (ap (λ x. x *ℤ c) (zero-*ℤ b) ∙ zero-*ℤ c ∙ sym (zero-*ℤ (b *ℤ c)))
    (λ x h. ap (λ y. y *ℤ c) (suc_ℤ-*ℤ x b) ∙ *-over-+ (x *ℤ b) b c ∙ ap (λ y. y +ℤ b *ℤ c) h ∙ sym (suc_ℤ-*ℤ x (b *ℤ c)))
    (λ x h. ap (λ y. y *ℤ c) (pred_ℤ-*ℤ x b) ∙ *-over-- (x *ℤ b) b c ∙ ap (λ y. y -ℤ b *ℤ c) h ∙ sym (pred_ℤ-*ℤ x (b *ℤ c)))
    a

-- the last two factors the other way round
pub *-last-two : (a b c : ℤ) → (a *ℤ b) *ℤ c ≡ (a *ℤ c) *ℤ b
*-last-two a b c = *ℤ-assoc a b c ∙ ap (λ x. a *ℤ x) (*ℤ_comm b c) ∙ sym (*ℤ-assoc a c b)
