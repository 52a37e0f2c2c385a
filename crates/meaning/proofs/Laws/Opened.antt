-- `unfolding rules_opened` opens the definitions of this crate, for a proof by computation.
-- It holds nothing itself: it is a name under which they all unfold.
use Rattle.lists.specs.Lists.{pad}
use Rattle.lists.specs.Decide.{select, all_of, for_below}
use Rattle.meaning.specs.Refusal.{and_then}
use Rattle.meaning.specs.Table.{group, longest, expansion}
use Rattle.meaning.specs.Record.{decode}
use Rattle.meaning.specs.Value.{dot, nibble, hex_digit, value, fits_word, lowest_of, highest_of, extreme, safe_output, safe}
use Rattle.meaning.specs.Reader.{signed, latest, repeated, unfilled, misplaced, skipping, too_many, change_latest, taken, read_one, read_records, read_end, unread, read_rules, read_table}
use Rattle.meaning.specs.Meaning.{fits, best, choose, written, text_of, covered, convert_from, convert}
use Rattle.meaning.specs.Block.{word, entry, block, word_sum, entry_value, block_output}
use Rattle.meaning.specs.Samples.{characters, t1_with, t1, t1_turned, t1_twice, t2, t3_with, t3, default_of, two_digits, four_digits, marked_of, t3_marked}

unfoldable pub rules_opened : Unit {0}
unfolding pad select all_of for_below and_then group longest expansion signed decode dot nibble hex_digit value fits_word lowest_of highest_of extreme safe_output safe latest repeated unfilled misplaced skipping too_many change_latest taken read_one read_records read_end unread read_rules read_table fits best choose written text_of covered convert_from convert word entry block word_sum entry_value block_output characters t1_with t1 t1_turned t1_twice t2 t3_with t3 default_of two_digits four_digits marked_of t3_marked
rules_opened = tt
