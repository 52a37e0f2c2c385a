-- The default's mode as the code keeps it.
use Rattle.meaning.specs.Table as Spec
use Rattle.rules.specs.declared.mode.Mode.{Mode}

-- the mode that it is
abbrev pub the_mode : Mode → Spec.Mode
the_mode Mode.Absent = Spec.Absent
the_mode Mode.Single = Spec.Single
the_mode Mode.Paired = Spec.Paired

-- and the other way
abbrev pub kept_mode : Spec.Mode → Mode
kept_mode Spec.Absent = Mode.Absent
kept_mode Spec.Single = Mode.Single
kept_mode Spec.Paired = Mode.Paired

-- the mode of a default record
abbrev pub marked_mode : Spec.Mark → Mode
marked_mode Spec.unmarked = Mode.Single
marked_mode Spec.marked = Mode.Paired
