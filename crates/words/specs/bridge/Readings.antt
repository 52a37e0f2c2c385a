-- What the answers of the machine's readings mean: the paper's number for each case.
use Rattle.std.specs.Prelude.{◌≡◌, ℕ, suc, ◌≢◌, Option, None, Some}
use Rattle.words.specs.declared.numbers.RuleNo.{RuleNo}
use Rattle.words.specs.declared.numbers.StateNo.{StateNo}

-- "end + 1, go + 1; 0 for none"
abbrev pub word_of : Option RuleNo → ℕ
word_of (Some r) = suc r.0
word_of None = 0

-- "targets a state (0 for none)"
abbrev pub Leads : Option StateNo → ℕ → Type 0
Leads (Some s) n = (s.0 ≡ n) × (n ≢ 0)
Leads None n = n ≡ 0
