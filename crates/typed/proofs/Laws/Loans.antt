-- What is lent for the records stays lent over one call and over several.
-- By the equations of each part. Assumes nothing.
use mathlib.Core.Path.{refl, ◌∙◌}
use Rattle.typed.specs.declared.sink.Records.{Records}
use Rattle.typed.specs.bridge.Answers.{SameLoans}

pub loans_kept : (k : Records) → SameLoans k k
loans_kept k = record { array = refl; buffer = refl; size = refl }

pub loans_on : {k k' k'' : Records} → SameLoans k k' → SameLoans k' k'' → SameLoans k k''
loans_on p q = record { array = q.array ∙ p.array; buffer = q.buffer ∙ p.buffer; size = q.size ∙ p.size }
