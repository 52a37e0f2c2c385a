-- "Refusals": a call is accepted, or refused by a number.
use Rattle.std.specs.Prelude.{List, ℕ, T, eqb}
use Rattle.lists.specs.Lists.{any}

-- the number of the refusal, or what was asked for
pub data Outcome (A : Type 0) : Type 0 where
  refused : ℕ → Outcome A
  accepted : A → Outcome A

-- a refusal stays, and what was accepted goes on
unfoldable pub and_then : {A B : Type 0} → Outcome A → (A → Outcome B) → Outcome B
and_then (refused n) f = refused n
and_then (accepted a) f = f a

-- accepted, or refused by one of the numbers
abbrev pub RefusedBy : {A : Type 0} → List ℕ → Outcome A → Type 0
RefusedBy numbers (refused n) = T (any (eqb n) numbers)
RefusedBy numbers (accepted a) = Unit {0}
