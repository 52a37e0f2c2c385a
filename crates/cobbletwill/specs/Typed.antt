-- Request [4] as C sees it: what is answered for a typed text and left, and what holds of it, one field a sentence.
use Rattle.std.specs.Prelude.{List, [], ◌∷◌, ◌≢◌, ◌≡◌, ℕ, ◌≤◌, T, eqb, length, drop}
use Rattle.lists.specs.Lists.{any}
use Rattle.meaning.specs.Refusal.{Outcome, refused, accepted}
use Rattle.meaning.specs.Table.{Characters}
use Rattle.typed.specs.Typed.{FromText}
use Rattle.cobbletwill.specs.Face.{typed_code, length_of}

-- Of text, table and length as found: the answer, and the table and the length left.
pub record TypedFace (text buffer : List ℕ) (found answer : ℕ) (later : List ℕ) (size : ℕ) : Type 0 where
  pub outcome : Outcome ℕ
  pub typed : FromText text buffer outcome later
  pub code : answer ≡ typed_code outcome
  pub left : size ≡ length_of outcome found

-- Demand 1: "an accepted answer or one of the numbered refusals"; "a refused text writes nothing", and of an accepted one what is beyond its records
-- stays as found. The numbers tell the outcome, so that `TypedRules` speaks of them.
pub record TypedAnswers (text buffer : List ℕ) (found answer : ℕ) (later : List ℕ) (size : ℕ) : Type 0 where
  pub numbered : Characters text → T (any (eqb answer) (0 ∷ 2 ∷ 3 ∷ 5 ∷ 6 ∷ 7 ∷ 15 ∷ 16 ∷ 17 ∷ []))
  pub accepts : answer ≡ 0 → FromText text buffer (accepted size) later
  pub refuses : answer ≢ 0 → FromText text buffer (refused answer) later
  pub unchanged : answer ≢ 0 → (later ≡ buffer) × (size ≡ found)
  pub within : answer ≡ 0 → size ≤ length buffer
  pub beyond : answer ≡ 0 → drop size later ≡ drop size buffer
  pub whole : length later ≡ length buffer

unfoldable pub TypedTextsAnswer : Type 0
TypedTextsAnswer =
    (text buffer : List ℕ) (found answer : ℕ) (later : List ℕ) (size : ℕ) → TypedFace text buffer found answer later size →
    TypedAnswers text buffer found answer later size

-- two ways to meet the contract are one
unfoldable pub TypedTextsDetermined : Type 0
TypedTextsDetermined =
    (text buffer : List ℕ) (found a b : ℕ) (k l : List ℕ) (m n : ℕ) → TypedFace text buffer found a k m → TypedFace text buffer found b l n →
    (a ≡ b) × (k ≡ l) × (m ≡ n)
