-- The first of the numbers that pass a test: it is one of them, and of numbers in order the least.
-- By recursion on the list of numbers, or on how many there are.
use mathlib.Core.Bool.{Bool, ◌&&◌, not, cond}
use mathlib.Core.List.{List, [], ◌∷◌}
use mathlib.Core.Path.{◌≡◌, refl, subst}
use Prim.Native.Nat.{ℕ, zero, suc, ◌+◌, ◌≤◌, ◌<◌}
use native.Mathlib.Decide.{ℕ_discrete}
use native.Mathlib.Omega.{arith}
use lib.Dec.{T, T_not}
use Rattle.lists.specs.Lists.{Each, filter, tab_from, up_to}
use Rattle.lists.proofs.Laws.Tests.{either, of_cond}
use Rattle.lists.proofs.Laws.Sets.{filter_filter}
use Rattle.automaton.specs.States.{first_number}
use Rattle.automaton.proofs.Laws.Good.{Least}

pub first_cases : (P Q : ℕ → Type 0) (p : ℕ → Bool) (ns : List ℕ) → Each P ns → Q 0 → ((r : ℕ) → P r → T (p r) → Q (suc r)) → Q (first_number (filter p ns))
first_cases P Q p [] a z f = z
first_cases P Q p (n ∷ ns) a z f =
    let later = first_cases P Q p ns a.1 z f in
    of_cond (λ ms. Q (first_number ms)) (p n) (n ∷ filter p ns) (filter p ns) (λ h. f n a.0 h) (λ _. later)

-- where none passes, none passes a narrower test
pub first_none : (p q : ℕ → Bool) (ns : List ℕ) → ((r : ℕ) → T (q r) → T (p r)) → first_number (filter p ns) ≡ 0 → first_number (filter q ns) ≡ 0
first_none p q [] f e = refl
first_none p q (n ∷ ns) f e =
    let later = first_none p q ns f in
    either (λ b. first_number (cond b (n ∷ filter p ns) (filter p ns)) ≡ 0 → first_number (filter q (n ∷ ns)) ≡ 0) (p n)
    (λ _ z. absurd (omega arith))
    (λ no-p z. of_cond (λ ms. first_number ms ≡ 0) (q n) (n ∷ filter q ns) (filter q ns) (λ h. absurd (T_not (p n) no-p (f n h))) (λ _. later z))
    e

-- numbers in order

least_map : (P Q : ℕ → Type 0) (g : ℕ) → ((r : ℕ) → P r → Q r) → ((r : ℕ) → Q r → P r) → Least P g → Least Q g
least_map P Q zero f h l = λ r q. l r (h r q)
least_map P Q (suc j) f h l = (f j l.0, λ r q. l.1 r (h r q))

first_least : (f : ℕ → Bool) (k n : ℕ) → Least (λ r. (k ≤ r) × (r < k + n) × T (f r)) (first_number (filter f (tab_from k n (λ i. i))))
first_least f k zero = λ r h. let i : k ≤ r = h.0 in let j : r < k + 0 = h.1 in omega arith
first_least f k (suc n) =
    either (λ b. Least P (first_number (cond b (k ∷ rest) rest))) (f k) (λ t. ((omega arith, omega arith, t), λ r q. q.0))
    (λ e. least_map Q P (first_number rest)
    (λ r p. (let i : suc k ≤ r = p.0 in omega arith, let i : r < suc k + n = p.1 in omega arith, p.2))
    (λ r p. (later r p.0 p.2 e, let i : r < k + suc n = p.1 in omega arith, p.2))
    (first_least f (suc k) n))
  where
    P : ℕ → Type 0
    P = λ r. (k ≤ r) × (r < k + suc n) × T (f r)

    Q : ℕ → Type 0
    Q = λ r. (suc k ≤ r) × (r < suc k + n) × T (f r)

    rest : List ℕ
    rest = filter f (tab_from (suc k) n (λ i. i))

    later : (r : ℕ) → k ≤ r → T (f r) → T (not (f k)) → suc k ≤ r
    later r h t e = elim (ℕ_discrete r k) [ yes p ↦ absurd (T_not (f k) e (subst (λ z. T (f z)) p t)) | no d ↦ omega arith ]

-- of the numbers below n that f keeps, the first that g keeps
pub least_kept : (P : ℕ → Type 0) (f g : ℕ → Bool) (n : ℕ) → ((r : ℕ) → r < n → T (f r && g r) → P r) → ((r : ℕ) → P r → (r < n) × T (f r && g r)) →
    Least P (first_number (filter g (filter f (up_to n))))
least_kept P f g n to from =
    rw (filter_filter f g (up_to n))
    (least_map (λ r. (0 ≤ r) × (r < 0 + n) × T (f r && g r)) P (first_number (filter (λ r. f r && g r) (up_to n)))
    (λ r p. to r (let i : r < 0 + n = p.1 in omega arith) p.2)
    (λ r p. (omega arith, let i : r < n = (from r p).0 in omega arith, (from r p).1))
    (first_least (λ r. f r && g r) 0 n))
