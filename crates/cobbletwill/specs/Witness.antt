-- Request [6] as C sees it: what a check of a rule number answers and leaves, and what holds of it, one field a sentence.
use Rattle.std.specs.Prelude.{List, [], ◌∷◌, ◌≢◌, ◌↔◌, ◌≡◌, ℕ, ◌≤◌, T, eqb, length, take, drop}
use Rattle.std.specs.Prelude.{Option, None, Some}
use Rattle.lists.specs.Lists.{any, pad}
use Rattle.meaning.specs.Refusal.{Outcome, refused, accepted}
use Rattle.meaning.specs.Table.{Table}
use Rattle.meaning.specs.Block.{at}
use Rattle.meaning.specs.Choices.{Live, Dead, Shows}
use Rattle.automaton.specs.Layout.{word_count}
use Rattle.automaton.specs.Compile.{compile}
use Rattle.automaton.specs.Claims.{KeepsCompiling}
use Rattle.automaton.specs.Witness.{Checked}

-- 0 for a live rule, 66, which no refusal has, for a dead one; "A refusal answers its number"
abbrev pub witness_code : Outcome (Option (List ℕ)) → ℕ
witness_code (refused n) = n
witness_code (accepted None) = 66
witness_code (accepted (Some v)) = 0

-- ten numbers: the input's length and its nine places, or what was found
abbrev pub input_after : Outcome (Option (List ℕ)) → List ℕ → List ℕ
input_after (refused n) found = found
input_after (accepted None) found = pad 10 []
input_after (accepted (Some v)) found = length v ∷ pad 9 v

-- Of table, words and input as found and rule number r: the answer, and the words and the input left. "such an input, free": what the check came
-- to is any outcome that it may come to.
pub record Witnessed (b buffer : List ℕ) (r : ℕ) (found : List ℕ) (answer : ℕ) (later input : List ℕ) : Type 0 where
  pub outcome : Outcome (Option (List ℕ))
  pub checked : Checked b buffer r outcome later
  pub code : answer ≡ witness_code outcome
  pub left : input ≡ input_after outcome found

-- Demand 1: "an accepted answer or one of the numbered refusals"; with compiling's effects on the words, and the input as found where the table is refused
pub record WitnessAnswers (b buffer : List ℕ) (found : List ℕ) (answer : ℕ) (later input : List ℕ) : Type 0 where
  pub numbered : T (any (eqb answer) (0 ∷ 66 ∷ 10 ∷ 1 ∷ 2 ∷ 3 ∷ 4 ∷ 5 ∷ 6 ∷ 7 ∷ 8 ∷ 9 ∷ []))
  pub refusals : (n : ℕ) → n ≢ 0 → n ≢ 66 → (answer ≡ n) ↔ ((compile b buffer).answer ≡ refused n)
  pub words : later ≡ (compile b buffer).words
  pub unchanged : answer ≢ 0 → answer ≢ 66 → input ≡ found
  -- "all 0 for a dead rule"
  pub zeros : answer ≡ 66 → input ≡ pad 10 []

-- of a table that keeps the rules for compiling: 66 for the dead, 0 for the live and an input that shows the rule, with zeros behind
pub record WitnessTells (t : Table) (r answer : ℕ) (input : List ℕ) : Type 0 where
  pub dead : (answer ≡ 66) ↔ Dead t r
  pub live : (answer ≡ 0) ↔ Live t r
  pub shown : answer ≡ 0 → Shows t r (take (at input 0) (drop 1 input))
  pub behind : answer ≡ 0 → drop 1 input ≡ pad 9 (take (at input 0) (drop 1 input))

unfoldable pub WitnessesTell : Type 0
WitnessesTell =
    (b buffer : List ℕ) (r : ℕ) (found : List ℕ) (answer : ℕ) (later input : List ℕ) → Witnessed b buffer r found answer later input →
    WitnessAnswers b buffer found answer later input
    × ((t : Table) → KeepsCompiling b t → word_count ≤ length buffer → WitnessTells t r answer input)
