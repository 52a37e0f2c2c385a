-- A term, taken in by the check as it is run.
-- The last entry is a sum's and gets one more coefficient, which changes its row as `Stored` shows.
use Rattle.std.proofs.Common.{◌≡◌, ℕ, pred, ◌+◌, ◌*◌, ◌^◌, ◌<◌, ◌≤◌, not, ◌||◌, T, eqb, leb, ◌≢◌, [], ◌∷◌, length, set, pos, nat_abs, sym, refl, ap, ◌∙◌, subst, ap₂, arith}
use lib.Dec.{nleb→lt}
use Rattle.lists.specs.Lists.{pad, at_last, last_d}
use Rattle.lists.proofs.Laws.Tests.{not_not, or_none}
use Rattle.lists.proofs.Laws.Each.{each_at_last}
use Rattle.lists.proofs.Laws.Last.{last_at_last}
use Rattle.meaning.specs.Table.{Output, sum, digit, mode}
use Rattle.meaning.specs.Record.{term}
use Rattle.meaning.specs.Reader.{signed, Reading, latest, coefficient_at, repeated, misplaced, skipping, too_many, add_term, change_outputs, taken}
use Rattle.meaning.specs.Block.{word, block_size, entry_size}
use Rattle.rules.specs.bridge.Modes.{kept_mode}
use Rattle.rules.specs.bridge.Summary.{summed_to, next, loaded_by}
use Rattle.meaning.specs.bridge.Flat.{loaded_words}
use Rattle.meaning.proofs.Laws.Shape.{IsSum}
use Rattle.meaning.proofs.Laws.Terms.{none_there, put_each}
use Rattle.meaning.proofs.Laws.Encoding.{signed_named, half_16}
use Rattle.meaning.proofs.Laws.Appended.{term_sum}
use Rattle.meaning.proofs.Laws.Reading.{taken_kept, at_last_length}
use Rattle.meaning.proofs.Laws.Narrow.{Bits, NarrowOutput}
use Rattle.meaning.proofs.Laws.Numbers.{word_signed}
use Rattle.meaning.proofs.Laws.Rows.{Grouped, number_of}
use Rattle.meaning.proofs.Laws.Stored.{block_term, high_row_term}
use Rattle.rules.proofs.Laws.Positions.{named_by, named_term}
use Rattle.rules.proofs.Laws.Represents.{summary_of, latest_of, summary, summary_number, Read, latest_begun, kind_there, latest_changed, grouped_changed, summary_changed, narrow_changed}
use Rattle.meaning.proofs.Laws.Decoding.{FittingRecord}
use Rattle.rules.proofs.Laws.Taken.{Taken}
use Rattle.rules.proofs.Laws.TakenAdded.{outputs_stored}

-- no coefficient for the positions between
bits_none : Bits 16 (pos 0)
unfolding signed
bits_none = record { number = 0; below = omega arith; same = refl }

term_narrow : (p a : ℕ) (o : Output) → a < 65536 → NarrowOutput o → NarrowOutput (add_term p (signed 16 a) o)
term_narrow p a (sum c ks) f h = (h.0, put_each (Bits 16) bits_none p (signed 16 a) ks (record { number = a; below = f; same = refl }) h.1)
term_narrow p a (digit q shift) f h = h

term_tests : (s : Reading) (p a : ℕ) → T (not (misplaced s (term p a))) →
    T (eqb s.kind 3 || eqb s.kind 4) × (p < (latest_of s.table).size) × (coefficient_at (last_d (sum (pos 0) []) (latest_of s.table).outputs) p ≡ pos 0)
unfolding misplaced latest repeated
term_tests s p a m =
    let g = latest_of s.table in
    let kinds = eqb s.kind 3 || eqb s.kind 4 in
    let there = coefficient_at (last_d (sum (pos 0) []) g.outputs) p in
    let t = or_none (not kinds || leb g.size p) (not (eqb (nat_abs there) 0)) m in
    let u = or_none (not kinds) (leb g.size p) t.0 in
    (not_not kinds u.0, nleb→lt g.size p u.1, none_there there t.1)

module _ (s : Reading) (p a : ℕ) (h : Read s) where
  -- the last output character, which is a sum
  abbrev last : Output
  last = last_d (sum (pos 0) []) (latest_of s.table).outputs

  term_summary : Grouped s.table.rules s.table.default → 1 ≤ length (latest_of s.table).outputs → IsSum last → coefficient_at last p ≡ pos 0 → signed 16 a ≢ pos 0 →
      next (summary s) (term p a) ≡ summary (taken s (term p a))
  unfolding taken
  term_summary grouped some-output is_sum new not_None =
      let g = latest_of s.table in
      let os = g.outputs in
      let z = signed 16 a in
      let F = change_outputs (at_last (add_term p z)) in
      let outputs : length os ≡ length (at_last (add_term p z) os) = sym (at_last_length (add_term p z) os) in
      let named : named_by last + 2 ^ p ≡ named_by (last_d (sum (pos 0) []) (at_last (add_term p z) os)) =
      sym (ap named_by (last_at_last (add_term p z) (sum (pos 0) []) os some-output) ∙ named_term p z last is_sum not_None new) in
      let same : next (summary s) (term p a) ≡ summary_of 4 (length s.table.rules) (kept_mode (mode s.table)) (F g) =
      ap₂ (summed_to (summary s) 4) outputs named in
      same ∙ sym (summary_changed F 4 s.table.rules s.table.default s.table.mark grouped)

  term_loaded : Grouped s.table.rules s.table.default → p < 8 → 1 ≤ length (latest_of s.table).outputs → length (latest_of s.table).outputs ≤ 8 →
      IsSum last → a < 65536 → loaded_by (summary s) (term p a) (loaded_words s.table) ≡ loaded_words (taken s (term p a)).table
  unfolding taken
  term_loaded grouped inside some-output most is_sum fits =
      let g = latest_of s.table in
      let z = signed 16 a in
      let o = length g.outputs in
      let n = number_of s.table.rules s.table.default in
      let place : block_size * n + 5 + entry_size * pred o + p ≡ block_size * n + (5 + entry_size * pred o + p) = omega arith in
      ap (λ k. set (loaded_words s.table) (block_size * k + 5 + entry_size * pred o + p) a) (summary_number s)
      ∙ ap₂ (set (loaded_words s.table)) place (sym (word_signed a fits))
      ∙ outputs_stored s h grouped (at_last (add_term p z)) ((5 + entry_size * pred o + p, word z) ∷ []) [] (omega arith, tt) tt
      (block_term p z g inside some-output most is_sum) (ap (pad 8) (high_row_term p z g.outputs))

  pub term_taken : FittingRecord (term p a) → T (not (misplaced s (term p a))) → T (not (skipping s (term p a))) → T (not (too_many s (term p a))) → Taken s (term p a)
  unfolding taken
  term_taken f m n o =
      let g = latest_of s.table in
      let rs = s.table.rules in
      let d = s.table.default in
      let F = change_outputs (at_last (add_term p (signed 16 a))) in
      let t = term_tests s p a m in
      let grouped = h.grouped (kind_there s.kind 3 4 t.0 tt tt) in
      let some-output : 1 ≤ length g.outputs = (h.writing t.0).0 in
      let is_sum : IsSum last = (h.writing t.0).1 in
      let after = sym (latest_changed F rs d s.table.mark grouped) in (
        term_summary grouped some-output is_sum t.2 (signed_named 16 half_16 a f.2 f.1),
        term_loaded grouped (omega arith) some-output (latest_begun s h).outputs.0 is_sum f.2,
        record {
          kept = taken_kept s (term p a) tt m n o h.kept;
          narrow = narrow_changed F rs d s.table.mark (λ b. record { few = b.few; narrow = each_at_last NarrowOutput (add_term p (signed 16 a)) g.outputs (λ q. term_narrow p a q f.2) b.narrow }) h.narrow;
          grouped = λ _. grouped_changed F rs d s.table.mark grouped;
          writing = λ _. (
            subst (λ q. 1 ≤ length q.outputs) after (rw at_last_length some-output),
            subst (λ q. IsSum (last_d (sum (pos 0) []) q.outputs)) after
                (subst IsSum (sym (last_at_last (add_term p (signed 16 a)) (sum (pos 0) []) g.outputs some-output)) (term_sum p (signed 16 a) last is_sum)),
          );
        },
      )
