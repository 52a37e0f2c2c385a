-- The last group's output characters changed by the check as it is run: one is added, a sum or a digit, or the last one gets a term.
-- The group's block changes, and its upper halves, as `Stored` shows; the rest of the array stays.
use Rattle.std.proofs.Common.{◌≡◌, ℕ, ◌+◌, ◌*◌, ◌<◌, ◌≤◌, ◌||◌, T, eqb, List, [], ◌∷◌, ◌++◌, length, pos, sym, refl, ap, ◌∙◌, subst, ap₂, arith, length-append}
use Rattle.lists.specs.Lists.{Each, pad, last_d}
use Rattle.lists.proofs.Laws.Each.{each_append}
use Rattle.lists.proofs.Laws.Last.{last_d_snoc}
use Rattle.meaning.specs.Table.{Output, sum, mode}
use Rattle.meaning.specs.Reader.{Reading, change_latest, change_outputs, add_output}
use Rattle.meaning.specs.Block.{block, block_size, blocks_size}
use Rattle.rules.specs.bridge.Modes.{kept_mode}
use Rattle.rules.specs.bridge.Summary.{summed_to}
use Rattle.meaning.specs.bridge.Flat.{slot_words, range_words, block_words, high_words, loaded_words, highs_from}
use Rattle.meaning.proofs.Laws.Shape.{IsSum}
use Rattle.meaning.proofs.Laws.Reading.{KeptReading}
use Rattle.meaning.proofs.Laws.Narrow.{NarrowOutput}
use Rattle.meaning.proofs.Laws.Rows.{Grouped, number_of, rows_latest, stores, shift, each_shift}
use Rattle.meaning.proofs.Laws.Loaded.{table_sized, sized_stores, stores_block, stores_high, joined_same}
use Rattle.meaning.proofs.Laws.Stored.{slot_row, range_row, high_row}
use Rattle.rules.proofs.Laws.Positions.{named_by}
use Rattle.rules.proofs.Laws.Represents.{summary_of, latest_of, summary, summary_number, Read, latest_changed, grouped_changed, summary_changed, narrow_changed}
use Rattle.rules.proofs.Laws.Stepping.{group_below}

module _ (s : Reading) (h : Read s) (grouped : Grouped s.table.rules s.table.default) where
  -- numbers put into the last group's block and into its upper halves
  pub outputs_stored : (f : List Output → List Output) (bs hs : List (ℕ × ℕ)) → Each (λ c. c.0 < block_size) bs → Each (λ c. c.0 < 8) hs →
      let g = latest_of s.table in
      let n = number_of s.table.rules s.table.default in
      pad block_size (block (change_outputs f g)) ≡ stores (pad block_size (block g)) bs →
      pad 8 (high_row (change_outputs f g)) ≡ stores (pad 8 (high_row g)) hs →
      stores (stores (loaded_words s.table) (shift (block_size * n) bs)) (shift (highs_from + 8 * n) hs) ≡ loaded_words (change_latest (change_outputs f) s.table)
  unfolding loaded_words slot_words range_words block_words high_words
  outputs_stored f bs hs inside within stored halves =
      let rs = s.table.rules in
      let d = s.table.default in
      let m = s.table.mark in
      let F = change_outputs f in
      let n = number_of rs d in
      let below : n < 33 = subst (λ k. k < 33) (summary_number s) (group_below (summary s) h.kept.few) in
      let sized = table_sized s.table in
      ap (λ l. stores l (shift (highs_from + 8 * n) hs))
      (stores_block sized (shift (block_size * n) bs) (each_shift (block_size * n) block_size blocks_size bs (omega arith) inside))
      ∙ stores_high (sized_stores sized (shift (block_size * n) bs)) (8 * n) hs
      ∙ joined_same
      (sym (rows_latest block_size block bs inside rs d m F h.kept.few grouped stored))
      (sym (rows_latest 8 slot_row [] tt rs d m F h.kept.few grouped refl))
      (sym (rows_latest 64 range_row [] tt rs d m F h.kept.few grouped refl))
      (sym (rows_latest 8 high_row hs within rs d m F h.kept.few grouped halves))

  -- one more output character
  module _ (o : Output) (kind : ℕ) where
    abbrev added : Reading
    added = record { table = add_output o s.table; kind = kind }

    pub added_summary : named_by o ≡ 0 → summed_to (summary s) kind (length (latest_of s.table).outputs + 1) 0 ≡ summary added
    added_summary bare =
        let g = latest_of s.table in
        let os = g.outputs in
        let F = change_outputs (λ os. os ++ (o ∷ [])) in
        let outputs : length os + 1 ≡ length (os ++ (o ∷ [])) = sym (length-append os (o ∷ [])) in
        let none : 0 ≡ named_by (last_d (sum (pos 0) []) (os ++ (o ∷ []))) = sym (ap named_by (last_d_snoc (sum (pos 0) []) os o) ∙ bare) in
        let same : summed_to (summary s) kind (length os + 1) 0 ≡ summary_of kind (length s.table.rules) (kept_mode (mode s.table)) (F g) =
        ap₂ (summed_to (summary s) kind) outputs none in
        same ∙ sym (summary_changed F kind s.table.rules s.table.default s.table.mark grouped)

    pub added_read : KeptReading added → NarrowOutput o → (T (eqb kind 3 || eqb kind 4) → IsSum o) → Read added
    added_read kept narrow is_sum =
        let os = (latest_of s.table).outputs in
        let rs = s.table.rules in
        let d = s.table.default in
        let F = change_outputs (λ os. os ++ (o ∷ [])) in
        let after = sym (latest_changed F rs d s.table.mark grouped) in
        record {
          kept = kept;
          narrow = narrow_changed F rs d s.table.mark (λ a. record { few = a.few; narrow = each_append NarrowOutput os (o ∷ []) a.narrow (narrow, tt) }) h.narrow;
          grouped = λ _. grouped_changed F rs d s.table.mark grouped;
          writing = λ t. (
            subst (λ q. 1 ≤ length q.outputs) after (rw length-append (omega arith)),
            subst (λ q. IsSum (last_d (sum (pos 0) []) q.outputs)) after (subst IsSum (sym (last_d_snoc (sum (pos 0) []) os o)) (is_sum t)),
          );
        }
