-- A rule or the default, taken in by the check as it is run: a new group begins.
-- Its rows are new ones, and the summary is that of the new group.
use Rattle.std.proofs.Common.{◌≡◌, ℕ, ◌+◌, ◌*◌, ◌<◌, ◌≤◌, Bool, not, T, ◌≢◌, List, [], ◌∷◌, ◌++◌, length, set, sym, refl, ap, ◌∙◌, ap₂, add-zero, arith, length-append}
use Rattle.std.specs.Prelude.{Option, None, Some}
use Rattle.lists.specs.Lists.{pad, is_some, optional}
use Rattle.lists.proofs.Laws.Tests.{neqb→ne}
use Rattle.lists.proofs.Laws.Each.{each_append, each_front}
use Rattle.lists.proofs.Laws.Last.{last_d_snoc}
use Rattle.meaning.specs.Table.{Group, Mark, unmarked, marked, Table, mode_of, every_character}
use Rattle.meaning.specs.Record.{rule, default}
use Rattle.meaning.specs.Reader.{Reading, misplaced, skipping, too_many, taken}
use Rattle.meaning.specs.Block.{bit, block, block_size}
use Rattle.rules.specs.bridge.Modes.{kept_mode, marked_mode}
use Rattle.rules.specs.bridge.Summary.{loaded_by}
use Rattle.rules.specs.declared.mode.Mode.TheVariants as Mode
use Rattle.meaning.specs.bridge.Flat.{slot_words, range_words, block_words, high_words, loaded_words, slots_from, ranges_from}
use Rattle.meaning.proofs.Laws.Reading.{top, taken_kept}
use Rattle.meaning.proofs.Laws.Narrow.{NarrowGroup}
use Rattle.meaning.proofs.Laws.Rows.{rows_more, rows_default}
use Rattle.meaning.proofs.Laws.Loaded.{table_sized, sized_block, sized_slot, set_block, set_slot, set_range, joined_same}
use Rattle.meaning.proofs.Laws.Stored.{slot_row, range_row, high_row}
use Rattle.rules.proofs.Laws.Represents.{summary_of, Read, every_narrow}
use Rattle.meaning.proofs.Laws.Decoding.{FittingRecord}
use Rattle.rules.proofs.Laws.Taken.{Taken}

rule_loaded : (s : Reading) (k : ℕ) (a : Bool) (rs : List Group) (d : Option Group) (m : Mark) → T (not (is_some d)) → length rs < 32 →
    loaded_by (summary_of s.kind (length rs) (kept_mode (mode_of d m)) (top rs d)) (rule k a) (loaded_words (record { rules = rs; default = d; mark = m }))
    ≡ loaded_words (record { rules = rs ++ (record { size = k; anchored = a; ranges = []; outputs = [] } ∷ []); default = None; mark = unmarked })
unfolding loaded_words slot_words range_words block_words high_words block pad
rule_loaded s k a rs None m t h =
    let g : Group = record { size = k; anchored = a; ranges = []; outputs = [] } in
    let old : Table = record { rules = rs; default = None; mark = m } in
    let n = block_size * length rs in
    ap (λ l. set l (n + 1) (bit a)) (set_block (table_sized old) n k (omega arith))
    ∙ set_block (sized_block (table_sized old) n k) (n + 1) (bit a) (omega arith)
    ∙ joined_same
    (ap (λ i. set (set (block_words old) i k) (n + 1) (bit a)) (sym (add-zero n))
    ∙ sym (rows_more block_size block ((0, k) ∷ (1, bit a) ∷ []) (omega arith, (omega arith, tt)) rs None m unmarked g h refl))
    (sym (rows_more 8 slot_row [] tt rs None m unmarked g h refl))
    (sym (rows_more 64 range_row [] tt rs None m unmarked g h refl))
    (sym (rows_more 8 high_row [] tt rs None m unmarked g h refl))
rule_loaded s k a rs (Some x) m t h = absurd t

pub rule_taken : (s : Reading) (k : ℕ) (a : Bool) → Read s → FittingRecord (rule k a) → T (not (misplaced s (rule k a))) → T (not (skipping s (rule k a))) → T (not (too_many s (rule k a))) → Taken s (rule k a)
unfolding taken misplaced skipping too_many
rule_taken s k a h f m n o =
    let rs = s.table.rules in
    let g : Group = record { size = k; anchored = a; ranges = []; outputs = [] } in
    let few : length rs ≤ 32 = h.kept.few in
    let other : length rs ≢ 32 = neqb→ne (length rs) 32 o in (
      ap₂ (λ n h. summary_of 1 n Mode.Absent h) (sym (length-append rs (g ∷ []))) (sym (last_d_snoc (every_character []) rs g)),
      rule_loaded s k a rs s.table.default s.table.mark m (omega arith),
      record {
        kept = taken_kept s (rule k a) f m n o h.kept;
        narrow = each_append NarrowGroup (rs ++ (g ∷ [])) [] (each_append NarrowGroup rs (g ∷ []) (each_front NarrowGroup rs (optional s.table.default) h.narrow) (record { few = tt; narrow = tt }, tt)) tt;
        grouped = λ _. rw length-append (omega arith);
        writing = λ t. absurd t;
      },
    )

-- the default

default_loaded : (s : Reading) (k : Mark) (rs : List Group) (d : Option Group) (m : Mark) → T (not (is_some d)) →
    loaded_by (summary_of s.kind (length rs) (kept_mode (mode_of d m)) (top rs d)) (default k) (loaded_words (record { rules = rs; default = d; mark = m }))
    ≡ loaded_words (record { rules = rs; default = Some (every_character []); mark = k })
unfolding loaded_words slot_words range_words block_words high_words block pad
default_loaded s k rs d m t =
    let g = every_character [] in
    let sized = table_sized (record { rules = rs; default = d; mark = m }) in
    ap (λ l. set (set l (slots_from + 32 * 8) 1) (ranges_from + 32 * 64 + 1) 65535) (set_block sized (32 * block_size) 1 (omega arith))
    ∙ ap (λ l. set l (ranges_from + 32 * 64 + 1) 65535) (set_slot (sized_block sized (32 * block_size) 1) (slots_from + 32 * 8) 256 1 refl (omega arith))
    ∙ set_range (sized_slot (sized_block sized (32 * block_size) 1) 256 1) (ranges_from + 32 * 64 + 1) 2049 65535 refl (omega arith)
    ∙ joined_same
    (sym (rows_default block_size block ((0, 1) ∷ []) (omega arith, tt) rs d m k g t refl))
    (sym (rows_default 8 slot_row ((0, 1) ∷ []) (omega arith, tt) rs d m k g t refl))
    (sym (rows_default 64 range_row ((1, 65535) ∷ []) (omega arith, tt) rs d m k g t refl))
    (sym (rows_default 8 high_row [] tt rs d m k g t refl))

pub default_taken : (s : Reading) (k : Mark) → Read s → T (not (misplaced s (default k))) → T (not (skipping s (default k))) → T (not (too_many s (default k))) → Taken s (default k)
unfolding taken misplaced skipping too_many
default_taken s k h m n o =
    let rs = s.table.rules in (
      ap (λ d. summary_of 5 (length rs) d (every_character [])) (same k),
      default_loaded s k rs s.table.default s.table.mark m,
      record {
        kept = taken_kept s (default k) tt m n o h.kept;
        narrow = each_append NarrowGroup rs (every_character [] ∷ []) (each_front NarrowGroup rs (optional s.table.default) h.narrow) (every_narrow, tt);
        grouped = λ _. tt;
        writing = λ t. absurd t;
      },
    )
  where
    same : (k : Mark) → marked_mode k ≡ kept_mode (mode_of (Some (every_character [])) k)
    same unmarked = refl
    same marked = refl
