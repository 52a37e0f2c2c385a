-- Request [1] for machine words: `DigitWords` holds.
-- The words of a table hold its groups' blocks, and sound words have sound entries: the laws of an entry say the rest.
use mathlib.Core.List.{◌++◌}
use mathlib.Core.Path.{◌≡◌, refl, sym, subst}
use native.Mathlib.Omega.{arith}
use Rattle.lists.specs.Lists.{Each}
use Rattle.meaning.specs.Table.{rule_at, default_number}
use Rattle.meaning.proofs.Laws.Shape.{Within, ShapedDefault}
use Rattle.meaning.proofs.Laws.Described.{well_formed_shaped}
use Rattle.meaning.proofs.Laws.Groups.{rule_shaped, default_each}
use Rattle.meaning.proofs.Laws.Exact.{length_block}
use Rattle.automaton.specs.Layout.{words}
use Rattle.automaton.specs.Sound.{block_at}
use Rattle.automaton.specs.Digits.{DigitWords}
use Rattle.automaton.proofs.Laws.Places.{length_words}
use Rattle.automaton.proofs.Laws.Blocks.{block_word, default_word}
use Rattle.automaton.proofs.Laws.Entries.{entry_known, known_entry, digit_writes, group_entry}
use Rattle.automaton.proofs.Laws.Words.{sound_rule, sound_default}

pub digit_words : DigitWords
digit_words =
    record {
      block_size_lem = length_block;
      machine_size = (refl, length_words);
      rule_entries =
          λ t rest W r j b h.
          let s = well_formed_shaped t W in
          let g = rule_shaped t s r b in
          group_entry (rule_at t r) (block_at (words t ++ rest) r) g.small g.outputs g.reaches (block_word t rest s r b) j h;
      default_entries =
          λ t rest W g e j h.
          let d = default_each ShapedDefault t g e (well_formed_shaped t W).default in
          let one : g.size ≡ 1 = d.size in
          group_entry g (block_at (words t ++ rest) default_number) (omega arith) d.outputs (subst (λ k. Each (Within k) g.outputs) (sym one) d.reaches)
          (default_word t rest g e) j h;
      sound_rules = λ w sure r j b h. entry_known _ j ((sound_rule w sure r b).entries j h);
      sound_default = λ w sure e j h. entry_known _ j ((sound_default w sure e).entries j h);
      no_more = known_entry;
      writes = digit_writes;
    }
