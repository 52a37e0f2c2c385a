-- The table of a loaded array.
use Rattle.meaning.specs.Table.{Table, Absent}
use Rattle.meaning.specs.bridge.Flat.{table_at}
use Rattle.rules.specs.declared.loaded.Loaded.{Loaded}

-- as it is read back, without its default
abbrev pub bare_table : Loaded → Table
bare_table l = table_at l.words.now l.rules Absent
