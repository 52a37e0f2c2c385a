-- The characters that begin no rule of a loaded table.
use Rattle.std.specs.Prelude.{◌≡◌, ℕ, ◌*◌, Bool, true, false, not, List, slice_index_or}
use Rattle.lists.specs.Decide.{for_below}
use Rattle.meaning.specs.Table.{in_ranges}
use Rattle.meaning.specs.bridge.Flat.{ranges_at}

-- rule r does not take the character at its first position
abbrev pub passes_by : List ℕ → ℕ → ℕ → Bool
passes_by loaded c r = not (in_ranges (ranges_at loaded (8 * r)) c)

-- none of the first n rules does
unfoldable pub is_plain : List ℕ → ℕ → ℕ → Bool
is_plain loaded n c = for_below n (passes_by loaded c)

-- each character that is marked is plain
abbrev pub Marked : List ℕ → ℕ → List Bool → Type 0
Marked loaded n marks = (c : ℕ) → slice_index_or marks c false ≡ true → is_plain loaded n c ≡ true
