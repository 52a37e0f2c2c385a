-- `unfolding machine_opened` opens the definitions of this crate, for a proof by computation.
-- It holds nothing itself: it is a name under which they all unfold.
use Rattle.automaton.specs.Classes.{starts, class_of}
use Rattle.automaton.specs.States.{initial, accept_at_end_of, accept_of, successor, same_state, distinct, next_level, levels, states, target_of}
use Rattle.automaton.specs.Layout.{parts, words}
use Rattle.automaton.specs.Compile.{small, compilable, compile}
use Rattle.automaton.specs.Sound.{one_only, sound_entry, sound_header, sound_starts, sound_block, sound_blocks, names_rule, sound_target, sound_state, sound}
use Rattle.automaton.specs.Automaton.{from_table, from_words}

unfoldable pub machine_opened : Unit {0}
unfolding starts class_of initial accept_at_end_of accept_of successor same_state distinct next_level levels states target_of parts words small compilable compile one_only sound_entry sound_header sound_starts sound_block sound_blocks names_rule sound_target sound_state sound from_table from_words
machine_opened = tt
