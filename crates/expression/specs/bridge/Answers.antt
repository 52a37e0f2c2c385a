-- What the readers' answers say.
use Rattle.std.specs.Prelude.{◌≡◌, Bool, true, false, List, ℕ, ◌≤◌, ◌<◌, ℤ, pos, length, get_or, drop, Option, Some, None, SomeIff}
use Rattle.std.specs.Int.Signed.{mag}
use Rattle.expression.specs.declared.part.Part as Code
use Rattle.expression.specs.declared.symbol.Operation.{Operation}
use Rattle.expression.specs.declared.symbol.Operation.TheVariants.{Plus, Minus, Times}
use Rattle.expression.specs.Parts.{Part}
use Rattle.expression.specs.bridge.Text.{Read, refused, got, skip, first, behind}

-- the numbers of a part, where refusal 17 was not met
abbrev pub kept : Option Code.Part → Part
kept None = None
kept (Some p) = Some p.numbers

-- f gives each number of ns that is in signed 32 bits
abbrev pub Gives : (ℕ → Option ℤ → Type 0) → List ℤ → Type 0
Gives f ns = (k : ℕ) (r : Option ℤ) → k < 9 → f k r → SomeIff r (mag (get_or ns k (pos 0)) < 2147483648) (get_or ns k (pos 0))

-- the place in the text s where the next symbol begins
pub record Skipped (s : List ℕ) (at r : ℕ) : Type 0 where
  pub from : at ≤ r
  pub to : r ≤ length s
  pub same : drop r s ≡ skip (drop at s)

-- the place behind the next symbol of the text s
pub record Past (s : List ℕ) (at r : ℕ) : Type 0 where
  pub from : at < r
  pub to : r ≤ length s
  pub same : drop r s ≡ behind (skip (drop at s))

-- the place behind the next symbol, if it is the character z
abbrev pub Follows : ℕ → List ℕ → ℕ → Option ℕ → Type 0
Follows z s at None = first (skip (drop at s)) ≡ z → ⊥
Follows z s at (Some r) = (first (skip (drop at s)) ≡ z) × Past s at r

-- an operator's character
abbrev pub character : Operation → ℕ
character Plus = 43
character Minus = 45
character Times = 42

-- the next symbol and the place behind it, if it is an operator that p has
abbrev pub Operates : (ℕ → Bool) → List ℕ → ℕ → Option (Operation × ℕ) → Type 0
Operates p s at None = p (first (skip (drop at s))) ≡ false
Operates p s at (Some r) = (p (first (skip (drop at s))) ≡ true) × (first (skip (drop at s)) ≡ character r.0) × Past s at r.1

-- what a reader of the text s answers: none where it refuses, or what the definition's value stands for, and the place behind it
abbrev pub read_of : {T A : Type 0} → (T → A) → List ℕ → Option (T × ℕ) → Read A
read_of view s None = refused
read_of view s (Some r) = got (view r.0) (drop r.1 s)

-- the place behind what was read is in the text
abbrev pub Inside : {T : Type 0} → List ℕ → ℕ → Option (T × ℕ) → Type 0
Inside s at None = Unit {0}
Inside s at (Some r) = (at ≤ r.1) × (r.1 ≤ length s)

pub record Answers {T A : Type 0} (view : T → A) (s : List ℕ) (at : ℕ) (d : Read A) (r : Option (T × ℕ)) : Type 0 where
  pub place : Inside s at r
  pub same : read_of view s r ≡ d
