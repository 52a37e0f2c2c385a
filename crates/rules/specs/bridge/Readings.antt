-- What the answers of the table check's parts mean: a record, a step, a choice, a loaded table.
use Rattle.std.specs.Prelude.{◌≡◌, ℕ, Bool, not, List, [], ◌∷◌, length, ◌==◌}
use Rattle.std.specs.Prelude.{Option, None, Some}
use Rattle.lists.specs.Decide.{select}
use Rattle.meaning.specs.Refusal.{Outcome, refused, accepted}
use Rattle.meaning.specs.Record as Spec
use Rattle.meaning.specs.Table.{Table, mode}
use Rattle.meaning.specs.bridge.Flat.{loaded_words}
use Rattle.rules.specs.bridge.Modes.{kept_mode}
use Rattle.rules.specs.bridge.Summary.{gap}
use Rattle.rules.specs.declared.record.Record.{Record}
use Rattle.rules.specs.declared.record.Record.TheVariants.{Rule, Range, Output, Term, Default, Hexadecimal}
use Rattle.rules.specs.declared.reader.Reader.{Reader}
use Rattle.rules.specs.declared.load.Load.{Load}

abbrev pub meant : Record → Spec.Record
meant (Rule size anchored) = Spec.rule size anchored
meant (Range position lowest highest) = Spec.range position (record { lowest = lowest; highest = highest })
meant (Output constant) = Spec.output constant
meant (Term position coefficient) = Spec.term position coefficient
meant (Default marked) = Spec.default (Spec.mark_of marked)
meant (Hexadecimal position shift) = Spec.hexadecimal position shift

-- none where refusal 2 is due
abbrev pub record_of : Option Record → Option Spec.Record
record_of None = None
record_of (Some code) = Some (meant code)

-- the refusals of a table's end, of a table that passes refusal 7's test or not
abbrev pub end_of : Reader → Bool → Outcome Load
end_of r safe =
    select ((gap r, refused 4) ∷ ((r.rules == 0), refused 5) ∷ (not safe, refused 7) ∷ []) (accepted (record { rules = r.rules; mode = r.mode }))

-- the check's answer, and where the table is accepted its array: a function of the table
abbrev pub LoadedBy : Outcome Table → Outcome Load → List ℕ → Type 0
LoadedBy (refused n) r loaded = r ≡ refused n
LoadedBy (accepted t) r loaded = (r ≡ accepted (record { rules = length t.rules; mode = kept_mode (mode t) })) × (loaded ≡ loaded_words t)
