-- What the iterators of a slice and of a range answer by `all` and `any` is the definitions' test, where the closure tests its item and changes nothing.
-- By the library's lemmas on runs, whose tests of a list are these, by recursion on the list or on the range's end.
use mathlib.Core.Bool.{Bool, true, ◌&&◌, ◌||◌}
use mathlib.Core.List.{List, [], ◌∷◌}
use mathlib.Core.Path.{◌≡◌, refl, sym, ap, ◌∙◌}
use Prim.Native.Nat.{ℕ, zero, suc, ◌+◌, ◌-◌, ◌≤◌, ◌<◌}
use native.Mathlib.Omega.{arith}
use lib.ListN.{get_or}
use denote.Ref.{Bor}
use denote.Param.Members.{Mut}
use Rattle.std.specs.Fn.{Called}
use Rattle.std.specs.Iterator.{ChecksAll, ChecksAny}
use Rattle.std.specs.List.{list_all, list_any, range_with_len}
use Rattle.std.specs.Slice.Iter.{iter_rest}
use Rattle.std.specs.declared.slice.Iter.{Iter}
use Rattle.std.specs.declared.ops.Range.{Range}
use Rattle.std.proofs.iter.Yields.{fronts, nat_range_steps}
use Rattle.std.proofs.lemmas.Iterator.{YieldsList-from_slice, YieldsList-from_range, cases_from_all}
use Rattle.std.proofs.lemmas.List.FromFn.{length-range_with_len, get_or-range_with_len}
use Rattle.std.proofs.lemmas.Iterator.Search.{all_from_yields_List, any_from_yields_List}
use Rattle.lists.specs.Lists.{all, any}
use Rattle.lists.specs.Decide.{for_below}
use Rattle.lists.proofs.Laws.Tests.{and-true, and_assoc}

same_all : {A : Type 0} (p : A → Bool) (xs : List A) → list_all p xs ≡ all p xs
same_all p [] = refl
same_all p (x ∷ xs) = ap (λ b. p x && b) (same_all p xs)

same_any : {A : Type 0} (p : A → Bool) (xs : List A) → list_any p xs ≡ any p xs
same_any p [] = refl
same_any p (x ∷ xs) = ap (λ b. p x || b) (same_any p xs)

-- by the call's clause `ran`, for the list that the iterator has left, and a closure that gives the test of its element
module _ {A F : Type 0} {g : Mut F (Bor A × Unit {0}) Bool} (p : A → Bool) (xs : List A) {s u : Iter A} {f : F} {r : Bool} where
  pub iter_all : ChecksAll fronts g s f r u → iter_rest s ≡ xs → ((x : Bor A) (b : Bool) (q : F) → Called g f (x, tt) b q → (q ≡ f) × (b ≡ p x.now)) → r ≡ all p xs
  iter_all ran left tests = all_from_yields_List p _ _ _ ran (YieldsList-from_slice xs left) tests ∙ same_all p xs

  pub iter_any : ChecksAny fronts g s f r u → iter_rest s ≡ xs → ((x : Bor A) (b : Bool) (q : F) → Called g f (x, tt) b q → (q ≡ f) × (b ≡ p x.now)) → r ≡ any p xs
  iter_any ran left tests = any_from_yields_List p _ _ _ ran (YieldsList-from_slice xs left) tests ∙ same_any p xs

-- the same of a range from 0 on, and a test of each number below its end
from_next : (p : ℕ → Bool) (a n : ℕ) → list_all p (range_with_len a (suc n)) ≡ list_all p (range_with_len a n) && p (a + n)
from_next p a zero = let e : a + 0 ≡ a = omega arith in rw e (and-true (p a))
from_next p a (suc n) = let e : a + 1 + n ≡ a + suc n = omega arith in rw (from_next p (a + 1) n, e) (sym (and_assoc (p a) _ _))

below_same : (p : ℕ → Bool) (n : ℕ) → list_all p (range_with_len 0 n) ≡ for_below n p
unfolding for_below
below_same p zero = refl
below_same p (suc n) = let e : 0 + n ≡ n = omega arith in rw (← below_same p n) (from_next p 0 n ∙ ap (λ k. list_all p (range_with_len 0 n) && p k) e)

pub range_all : {F : Type 0} {g : Mut F (ℕ × Unit {0}) Bool} (p : ℕ → Bool) (n : ℕ) {s u : Range ℕ} {f : F} {r : Bool} →
    ChecksAll nat_range_steps g s f r u → s ≡ record { start = 0; end = n } → ((x : ℕ) (b : Bool) (q : F) → Called g f (x, tt) b q → (q ≡ f) × (b ≡ p x)) → r ≡ for_below n p
range_all p n ran from tests = all_from_yields_List p _ _ _ ran (YieldsList-from_range 0 n n from (omega arith)) tests ∙ below_same p n

-- of any range, where the closure's test passes for each number that has P, all of them have it
pub range_each : {F : Type 0} {g : Mut F (ℕ × Unit {0}) Bool} (P : ℕ → Type 0) (a b : ℕ) {s u : Range ℕ} {f : F} {r : Bool} →
    ChecksAll nat_range_steps g s f r u → s ≡ record { start = a; end = b } → ((x : ℕ) (q : F) → Called g f (x, tt) true q → (q ≡ f) × P x) →
    r ≡ true → (k : ℕ) → k < b → a ≤ k → P k
range_each P a b {u = u} {f = f} {r = r} ran from tests passed k h l =
    let n = b - a in
    let all = range_with_len a n in
    let cases = cases_from_all u f r P (λ x. Unit {0}) ran (YieldsList-from_range a b n from refl) tests (λ x q d. tt) in
    let each = rw passed at cases in
    let e : a + (k - a) ≡ k = omega arith in
    let here : get_or all (k - a) 0 ≡ k = get_or-range_with_len a n (k - a) 0 (omega arith) ∙ e in
    rw here at (each (k - a) 0 (omega arith) (omega (arith, length-range_with_len a n)))
