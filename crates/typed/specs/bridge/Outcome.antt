-- What a typed text and a lent buffer come to, by reading the text.
use Rattle.std.specs.Prelude.{not, List, [], ◌∷◌, ℕ, ltb, length}
use Rattle.lists.specs.Decide.{select}
use Rattle.meaning.specs.Refusal.{Outcome, refused, accepted, and_then}
use Rattle.meaning.specs.Reader.{read_table}
use Rattle.meaning.specs.Direct.{over}
use Rattle.expression.specs.bridge.Text as Text
use Rattle.typed.specs.Grammar.{Line}
use Rattle.typed.specs.Records.{lines_within17, records}
use Rattle.typed.specs.bridge.Reader.{lines_of}

pub record TypedOutcome : Type 0 where
  pub answer : Outcome ℕ
  pub table : List ℕ

-- "16: text outside this grammar, found first."
abbrev pub in_grammar : Text.Read (List Line) → Outcome (List Line)
in_grammar Text.refused = refused 16
in_grammar (Text.got ls rest) = accepted ls

-- 17, "Then 2 to 7": the records of lines, or the refusal
unfoldable pub checked_records : List Line → Outcome (List ℕ)
checked_records ls = select ((not (lines_within17 ls), refused 17) ∷ []) (and_then (read_table (records ls)) (λ t. accepted (records ls)))

-- the records of a text, or the refusal
unfoldable pub text_records : List ℕ → Outcome (List ℕ)
text_records text = and_then (in_grammar (lines_of text)) checked_records

-- "then 15 where the records don't fit the lent buffer"
abbrev pub fitting : ℕ → List ℕ → Outcome (List ℕ)
fitting room b = select ((ltb room (length b), refused 15) ∷ []) (accepted b)

-- "the answer is their length in bytes"; "a refused text writes nothing"
abbrev pub leaving : Outcome (List ℕ) → List ℕ → TypedOutcome
leaving (refused n) buffer = record { answer = refused n; table = buffer }
leaving (accepted b) buffer = record { answer = accepted (length b); table = over b buffer }

-- text, buffer as found
unfoldable pub from_text : List ℕ → List ℕ → TypedOutcome
from_text text buffer = leaving (and_then (text_records text) (fitting (length buffer))) buffer
