-- A hexadecimal digit, taken in by the check as it is run.
-- The last group gets one more entry, with the digit's sort, its shift and 1 at its position's coefficient.
use Rattle.std.proofs.Common.{◌≡◌, ℕ, ◌+◌, ◌*◌, ◌<◌, ◌≤◌, not, T, eqb, leb, ◌≢◌, [], ◌∷◌, ◌++◌, length, set, refl, ap, ◌∙◌, arith}
use Rattle.lists.proofs.Laws.Tests.{or_none, neqb→ne}
use Rattle.meaning.specs.Table.{digit}
use Rattle.meaning.specs.Record.{hexadecimal}
use Rattle.meaning.specs.Reader.{Reading, latest, misplaced, skipping, too_many, taken}
use Rattle.meaning.specs.Block.{block_size, entry_size}
use Rattle.rules.specs.bridge.Summary.{digit_put, loaded_by}
use Rattle.meaning.specs.bridge.Flat.{loaded_words}
use Rattle.meaning.proofs.Laws.Reading.{taken_kept}
use Rattle.meaning.proofs.Laws.Rows.{Grouped, number_of}
use Rattle.meaning.proofs.Laws.Stored.{block_digit, high_row_digit}
use Rattle.rules.proofs.Laws.Represents.{latest_of, summary, summary_number, Read, latest_begun}
use Rattle.meaning.proofs.Laws.Decoding.{FittingRecord}
use Rattle.rules.proofs.Laws.Taken.{Taken}
use Rattle.rules.proofs.Laws.TakenAdded.{outputs_stored, added_summary, added_read}

module _ (s : Reading) (p shift : ℕ) (h : Read s) where
  digit_loaded : Grouped s.table.rules s.table.default → p < 8 → length (latest_of s.table).outputs < 8 →
      loaded_by (summary s) (hexadecimal p shift) (loaded_words s.table) ≡ loaded_words (taken s (hexadecimal p shift)).table
  unfolding taken
  digit_loaded grouped inside less =
      let g = latest_of s.table in
      let o = length g.outputs in
      let n = number_of s.table.rules s.table.default in
      let from = block_size * n + 3 + entry_size * o in
      let sort : from ≡ block_size * n + (3 + entry_size * o) = omega arith in
      let constant : from + 1 ≡ block_size * n + (4 + entry_size * o) = omega arith in
      let coefficient : from + 2 + p ≡ block_size * n + (5 + entry_size * o + p) = omega arith in
      ap (λ k. digit_put k o p shift (loaded_words s.table)) (summary_number s)
      ∙ (λ i. set (set (set (set (loaded_words s.table) (block_size * n + 2) (o + 1)) (sort i) 1) (constant i) shift) (coefficient i) 1)
      ∙ outputs_stored s h grouped (λ os. os ++ (digit p shift ∷ []))
      ((2, o + 1) ∷ (3 + entry_size * o, 1) ∷ (4 + entry_size * o, shift) ∷ (5 + entry_size * o + p, 1) ∷ []) []
      (omega arith, (omega arith, (omega arith, (omega arith, tt)))) tt (block_digit p shift g inside less) (high_row_digit p shift g)

  pub digit_taken : FittingRecord (hexadecimal p shift) → T (not (misplaced s (hexadecimal p shift))) → T (not (skipping s (hexadecimal p shift))) →
      T (not (too_many s (hexadecimal p shift))) → Taken s (hexadecimal p shift)
  unfolding taken misplaced skipping too_many latest
  digit_taken f m n o =
      let g = latest_of s.table in
      let t = or_none (eqb s.kind 0) (leb g.size p) m in
      let grouped = h.grouped t.0 in
      let inside : p ≤ 7 = f.0 in
      let most : length g.outputs ≤ 8 = (latest_begun s h).outputs.0 in
      let other : length g.outputs ≢ 8 = neqb→ne (length g.outputs) 8 o in (
        added_summary s h grouped (digit p shift) 6 refl,
        digit_loaded grouped (omega arith) (omega arith),
        added_read s h grouped (digit p shift) 6 (taken_kept s (hexadecimal p shift) f.1 m n o h.kept) tt (λ t. absurd t),
      )
