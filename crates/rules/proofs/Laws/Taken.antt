-- What it is for a record to be taken in by the check as it is run.
-- A definition for the laws of each kind of record.
use Rattle.std.proofs.Common.{◌≡◌}
use Rattle.meaning.specs.Record.{Record}
use Rattle.meaning.specs.Reader.{Reading, taken}
use Rattle.meaning.specs.bridge.Flat.{loaded_words}
use Rattle.rules.specs.bridge.Summary.{next, loaded_by}
use Rattle.rules.proofs.Laws.Represents.{summary, Read}

-- taken in alike: the summary and the array are those of the table as it then is
abbrev pub Taken : Reading → Record → Type 0
Taken s x = (next (summary s) x ≡ summary (taken s x)) × (loaded_by (summary s) x (loaded_words s.table) ≡ loaded_words (taken s x).table) × Read (taken s x)
