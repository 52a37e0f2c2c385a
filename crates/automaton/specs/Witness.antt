-- Request [6] of document 02, "Rules that can never be chosen": the check of a rule number, what it answers and leaves.
use Rattle.std.specs.Prelude.{List, ◌↔◌, ◌≡◌, ℕ, ◌≤◌, length}
use Rattle.std.specs.Prelude.{Option, None, Some}
use Rattle.meaning.specs.Refusal.{Outcome, refused, accepted}
use Rattle.meaning.specs.Table.{Table}
use Rattle.meaning.specs.Claims.{Keeps}
use Rattle.meaning.specs.Choices.{Live, Dead, Shows, Verdict}
use Rattle.meaning.specs.Samples.{t3}
use Rattle.automaton.specs.Layout.{word_count}
use Rattle.automaton.specs.Compile.{compilable, compile}
use Rattle.automaton.specs.Claims.{KeepsCompiling}

-- compiling's refusal, or a verdict on the rule: none is dead; of a live rule "such an input, free", any that shows the rule
abbrev pub Answers : Outcome Table → ℕ → Outcome (Option (List ℕ)) → Type 0
Answers (refused n) r a = a ≡ refused n
Answers (accepted t) r a = (v : Option (List ℕ)) × (a ≡ accepted v) × Verdict t r v

-- "A new check compiles the table, with compiling's buffer": of table, words as found and rule number, what it answers and leaves in the words
pub record Checked (b buffer : List ℕ) (r : ℕ) (a : Outcome (Option (List ℕ))) (later : List ℕ) : Type 0 where
  pub answer : Answers (compilable b (length buffer)) r a
  pub words : later ≡ (compile b buffer).words

-- what an answer for a table says of rule number r, one field a sentence
pub record Exact (t : Table) (r : ℕ) (a : Outcome (Option (List ℕ))) : Type 0 where
  -- "says of a given rule number whether some input makes the definition choose it"
  pub live : Live t r ↔ ((v : List ℕ) × (a ≡ accepted (Some v)))
  -- "For a live rule it gives such an input, free but of at most 9 characters, on which the rule is the first choice."
  pub shown : (v : List ℕ) → a ≡ accepted (Some v) → Shows t r v
  -- "A number that no rule has is dead."
  pub number : length t.rules ≤ r → a ≡ accepted None
  -- "A rule is called dead exactly when no input of any length has the definition choose it anywhere."
  pub dead : (a ≡ accepted None) ↔ Dead t r

-- "with compiling's buffer and refusals": every check refuses exactly as compiling does, and what it answers for a table that it accepts is exact
pub record RuleChecked (b buffer : List ℕ) (r : ℕ) (a : Outcome (Option (List ℕ))) : Type 0 where
  pub refusals : (n : ℕ) → (a ≡ refused n) ↔ ((compile b buffer).answer ≡ refused n)
  pub exact : (t : Table) → KeepsCompiling b t → word_count ≤ length buffer → Exact t r a

unfoldable pub RulesChecked : Type 0
RulesChecked = (b buffer : List ℕ) (r : ℕ) (a : Outcome (Option (List ℕ))) (later : List ℕ) → Checked b buffer r a later → RuleChecked b buffer r a

-- "T3's second rule is dead", and its first is not
unfoldable pub SecondOfT3 : Type 0
SecondOfT3 = (t : Table) → Keeps t3 t → Live t 0 × Dead t 1
