-- An output character that is a sum, taken in by the check as it is run.
-- The last group gets one more entry, with the constant's lower half, and the upper half stands apart.
use Rattle.std.proofs.Common.{◌≡◌, ℕ, ◌+◌, ◌*◌, ◌/◌, ◌%◌, ◌^◌, ◌<◌, ◌≤◌, not, T, ◌≢◌, [], ◌∷◌, ◌++◌, length, set, sym, refl, ap, ◌∙◌, add_assoc, arith}
use Rattle.lists.proofs.Laws.Tests.{neqb→ne}
use Rattle.meaning.specs.Table.{sum}
use Rattle.meaning.specs.Record.{output}
use Rattle.meaning.specs.Reader.{signed, Reading, latest, misplaced, skipping, too_many, taken}
use Rattle.meaning.specs.Block.{word, block_size, entry_size}
use Rattle.rules.specs.bridge.Summary.{output_put, loaded_by}
use Rattle.meaning.specs.bridge.Flat.{high_of, loaded_words, highs_from}
use Rattle.meaning.proofs.Laws.Reading.{taken_kept}
use Rattle.meaning.proofs.Laws.Narrow.{Bits}
use Rattle.meaning.proofs.Laws.Numbers.{word_constant, high_signed}
use Rattle.meaning.proofs.Laws.Rows.{Grouped, number_of}
use Rattle.meaning.proofs.Laws.Stored.{block_output_lem, high_row_added}
use Rattle.rules.proofs.Laws.Represents.{latest_of, summary, summary_number, Read, latest_begun}
use Rattle.rules.proofs.Laws.Taken.{Taken}
use Rattle.rules.proofs.Laws.TakenAdded.{outputs_stored, added_summary, added_read}

module _ (s : Reading) (c : ℕ) (h : Read s) where
  output_loaded : Grouped s.table.rules s.table.default → length (latest_of s.table).outputs < 8 → c < 2 ^ 32 →
      loaded_by (summary s) (output c) (loaded_words s.table) ≡ loaded_words (taken s (output c)).table
  unfolding taken
  output_loaded grouped less fits =
      let g = latest_of s.table in
      let z = signed 32 c in
      let o = length g.outputs in
      let n = number_of s.table.rules s.table.default in
      let place : block_size * n + 4 + entry_size * o ≡ block_size * n + (4 + entry_size * o) = add_assoc (block_size * n) 4 (entry_size * o) in
      let low : c % 65536 ≡ word z = sym (word_constant c fits) in
      let high : c / 65536 ≡ high_of (sum z []) = sym (high_signed c fits) in
      ap (λ k. output_put k o c (loaded_words s.table)) (summary_number s)
      ∙ (λ i. set (set (set (loaded_words s.table) (block_size * n + 2) (o + 1)) (place i) (low i)) (highs_from + 8 * n + o) (high i))
      ∙ outputs_stored s h grouped (λ os. os ++ (sum z [] ∷ [])) ((2, o + 1) ∷ (4 + entry_size * o, word z) ∷ []) ((o, high_of (sum z [])) ∷ [])
      (omega arith, (omega arith, tt)) (less, tt) (block_output_lem z g less) (high_row_added (sum z []) g less)

  pub output_taken : c < 2 ^ 32 → T (not (misplaced s (output c))) → T (not (skipping s (output c))) → T (not (too_many s (output c))) → Taken s (output c)
  unfolding taken misplaced skipping too_many latest
  output_taken f m n o =
      let g = latest_of s.table in
      let grouped = h.grouped m in
      let most : length g.outputs ≤ 8 = (latest_begun s h).outputs.0 in
      let other : length g.outputs ≢ 8 = neqb→ne (length g.outputs) 8 o in
      let exact : Bits 32 (signed 32 c) = record { number = c; below = f; same = refl } in (
        added_summary s h grouped (sum (signed 32 c) []) 3 refl,
        output_loaded grouped (omega arith) f,
        added_read s h grouped (sum (signed 32 c) []) 3 (taken_kept s (output c) tt m n o h.kept) (exact, tt) (λ _. tt),
      )
