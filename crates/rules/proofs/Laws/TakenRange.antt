-- A range, taken in by the check as it is run.
-- The tests give its place among the ranges of the last group, which changes as `Stored` shows.
use Rattle.std.proofs.Common.{◌≡◌, ℕ, suc, ◌+◌, ◌*◌, ◌<◌, ◌≤◌, Bool, true, false, cond, not, ◌&&◌, ◌||◌, T, eqb, ltb, leb, ◌≢◌, List, [], ◌∷◌, ◌++◌, length, set, sym, refl, ap, ◌∙◌, subst, arith, nltb→le, length-append}
use lib.Dec.{eqb_refl, nleb→lt}
use Rattle.lists.specs.Lists.{Each, at_last, last_d}
use Rattle.lists.proofs.Laws.Tests.{not_not, or_none, either, neqb→ne}
use Rattle.lists.proofs.Laws.Each.{each_append}
use Rattle.lists.proofs.Laws.Last.{last_d_snoc}
use Rattle.meaning.specs.Table.{Range, Group, mode}
use Rattle.meaning.specs.Record.{range}
use Rattle.meaning.specs.Reader.{Reading, latest, ranging, misplaced, skipping, too_many, add_range, change_ranges, taken}
use Rattle.meaning.specs.Block.{block, block_size}
use Rattle.rules.specs.bridge.Modes.{kept_mode}
use Rattle.rules.specs.bridge.Summary.{slot_number, ranged_to, next, range_put, loaded_by}
use Rattle.meaning.specs.bridge.Flat.{slot_words, range_words, block_words, high_words, loaded_words, slots_from, ranges_from}
use Rattle.meaning.proofs.Laws.Reading.{taken_kept, last_each}
use Rattle.meaning.proofs.Laws.Narrow.{NarrowGroup}
use Rattle.meaning.proofs.Laws.Rows.{Grouped, number_of, rows_latest}
use Rattle.meaning.proofs.Laws.Loaded.{table_sized, sized_slot, sized_range, set_slot, set_range, joined_same}
use Rattle.meaning.proofs.Laws.Stored.{slot_row, range_row, high_row, earlier, length_earlier, add_range_last, add_range_length, here, slot_row_range, range_row_range}
use Rattle.rules.proofs.Laws.Represents.{summary_of, latest_of, summary, summary_number, Read, each_last, latest_narrow, latest_begun, kind_there, grouped_changed, summary_changed, narrow_changed}
use Rattle.meaning.proofs.Laws.Decoding.{FittingRecord}
use Rattle.rules.proofs.Laws.Stepping.{group_below}
use Rattle.rules.proofs.Laws.Taken.{Taken}

range_tests : (s : Reading) (p : ℕ) (r : Range) → T (not (misplaced s (range p r))) →
    T (ranging s) × (p < (latest_of s.table).size) × (length (latest_of s.table).ranges ≤ suc p)
unfolding misplaced latest
range_tests s p r m =
    let g = latest_of s.table in
    let ps = g.ranges in
    let a = not (ranging s) in
    let b = leb g.size p in
    let c = ltb (suc p) (length ps) in
    let t = or_none (a || b) c (or_none (a || b || c) (eqb (suc p) (length ps) && leb r.lowest (last_d r (last_d [] ps)).highest) m).0 in
    let u = or_none a b t.0 in
    (not_not (ranging s) u.0, nleb→lt g.size p u.1, nltb→le (suc p) (length ps) t.1)

and_none : (a b : Bool) → T a → T (not (a && b)) → T (not b)
and_none true b t u = u
and_none false b t u = absurd t

earlier_few : (p : ℕ) (ps : List (List Range)) → p ≤ length ps → length ps ≤ suc p → T (not (eqb (suc p) (length ps) && eqb (length (last_d [] ps)) 4)) →
    Each (λ rs. length rs ≤ 4) ps → length (earlier p ps) < 4
earlier_few p ps low high o few =
    either (λ b. length (cond b [] (last_d [] ps)) < 4) (eqb p (length ps)) (λ _. omega arith)
    (λ t.
    let e : suc p ≡ length ps = here p ps low high t in
    let l : length (last_d [] ps) ≤ 4 = each_last (λ rs. length rs ≤ 4) [] ps (omega arith) few in
    let u : T (eqb (suc p) (length ps)) = subst (λ k. T (eqb (suc p) k)) e (eqb_refl (suc p)) in
    let n : length (last_d [] ps) ≢ 4 = neqb→ne (length (last_d [] ps)) 4 (and_none (eqb (suc p) (length ps)) (eqb (length (last_d [] ps)) 4) u o) in
    omega arith)

range_narrow : (p : ℕ) (r : Range) (g : Group) → p ≤ length g.ranges → length g.ranges ≤ suc p → length (earlier p g.ranges) < 4 →
    NarrowGroup g → NarrowGroup (change_ranges (add_range p r) g)
range_narrow p r g low high less h =
    let ps = g.ranges in
    record {
      few =
          either (λ b. length (cond b [] (last_d [] ps)) < 4 → Each (λ rs. length rs ≤ 4) (cond b (ps ++ ((r ∷ []) ∷ [])) (at_last (λ rs. rs ++ (r ∷ [])) ps))) (eqb p (length ps))
          (λ _ _. each_append (λ rs. length rs ≤ 4) ps ((r ∷ []) ∷ []) h.few (omega arith, tt))
          (λ _ l. last_each (λ rs. length rs ≤ 4) (λ rs. rs ++ (r ∷ [])) [] ps (λ _. rw length-append (omega arith)) h.few) less;
      narrow = h.narrow;
    }

module _ (s : Reading) (p : ℕ) (r : Range) (h : Read s) where
  range_summary : Grouped s.table.rules s.table.default → p ≤ length (latest_of s.table).ranges → length (latest_of s.table).ranges ≤ suc p →
      next (summary s) (range p r) ≡ summary (taken s (range p r))
  unfolding taken
  range_summary grouped low high =
      let g = latest_of s.table in
      let ps = g.ranges in
      let end : last_d [] (add_range p r ps) ≡ earlier p ps ++ (r ∷ []) = add_range_last p r ps low high in
      let positions : p + 1 ≡ length (add_range p r ps) = sym (add_range_length p r ps low high) in
      let slots : slot_number (summary s) p + 1 ≡ length (last_d [] (add_range p r ps)) =
      ap (λ k. k + 1) (sym (length_earlier p ps)) ∙ sym (length-append (earlier p ps) (r ∷ [])) ∙ ap length (sym end) in
      let nowhere : Range = record { lowest = 0; highest = 0 } in
      let highest : r.highest ≡ (last_d nowhere (last_d [] (add_range p r ps))).highest =
      sym (ap (λ (l : List Range). (last_d nowhere l).highest) end ∙ ap (λ (q : Range). q.highest) (last_d_snoc nowhere (earlier p ps) r)) in
      let same : next (summary s) (range p r) ≡ summary_of 2 (length s.table.rules) (kept_mode (mode s.table)) (change_ranges (add_range p r) g) =
      λ i. ranged_to (summary s) (positions i) (slots i) (highest i) in
      same ∙ sym (summary_changed (change_ranges (add_range p r)) 2 s.table.rules s.table.default s.table.mark grouped)

  range_loaded : Grouped s.table.rules s.table.default → p ≤ length (latest_of s.table).ranges → length (latest_of s.table).ranges ≤ suc p → p < 8 →
      length (earlier p (latest_of s.table).ranges) < 4 → loaded_by (summary s) (range p r) (loaded_words s.table) ≡ loaded_words (taken s (range p r)).table
  unfolding taken loaded_words slot_words range_words block_words high_words block
  range_loaded grouped low high inside less =
      let g = latest_of s.table in
      let ps = g.ranges in
      let rs = s.table.rules in
      let d = s.table.default in
      let F = change_ranges (add_range p r) in
      let e = length (earlier p ps) in
      let n = number_of rs d in
      let below : n < 33 = subst (λ k. k < 33) (summary_number s) (group_below (summary s) h.kept.few) in
      let count : slot_number (summary s) p ≡ e = sym (length_earlier p ps) in
      let sized = table_sized s.table in
      let place = slots_from + 8 * n + p in
      let i = ranges_from + 64 * n + 8 * p + 2 * e in
      let j = 64 * n + (8 * p + 2 * e) in
      ap (λ k. range_put k p (slot_number (summary s) p) r.lowest r.highest (loaded_words s.table)) (summary_number s)
      ∙ ap (λ k. range_put n p k r.lowest r.highest (loaded_words s.table)) count
      ∙ ap (λ l. set (set l i r.lowest) (i + 1) r.highest) (set_slot sized place (8 * n + p) (e + 1) (omega arith) (omega arith))
      ∙ ap (λ l. set l (i + 1) r.highest) (set_range (sized_slot sized (8 * n + p) (e + 1)) i j r.lowest (omega arith) (omega arith))
      ∙ set_range (sized_range (sized_slot sized (8 * n + p) (e + 1)) j r.lowest) (i + 1) (64 * n + (8 * p + (2 * e + 1))) r.highest (omega arith) (omega arith)
      ∙ joined_same
      (sym (rows_latest block_size block [] tt rs d s.table.mark F h.kept.few grouped refl))
      (sym (rows_latest 8 slot_row ((p, e + 1) ∷ []) (inside, tt) rs d s.table.mark F h.kept.few grouped (slot_row_range p r g low high inside)))
      (sym (rows_latest 64 range_row ((8 * p + 2 * e, r.lowest) ∷ (8 * p + (2 * e + 1), r.highest) ∷ []) (omega arith, (omega arith, tt)) rs d s.table.mark F h.kept.few grouped
      (range_row_range p r g low high inside less)))
      (sym (rows_latest 8 high_row [] tt rs d s.table.mark F h.kept.few grouped refl))

  pub range_taken : FittingRecord (range p r) → T (not (misplaced s (range p r))) → T (not (skipping s (range p r))) → T (not (too_many s (range p r))) → Taken s (range p r)
  unfolding taken skipping too_many latest
  range_taken f m n o =
      let g = latest_of s.table in
      let ps = g.ranges in
      let F = change_ranges (add_range p r) in
      let t = range_tests s p r m in
      let low : p ≤ length ps = nltb→le (length ps) p n in
      let size : g.size ≤ 8 = (latest_begun s h).small in
      let under : p < g.size = t.1 in
      let grouped = h.grouped (kind_there s.kind 1 2 t.0 tt tt) in
      let less = earlier_few p ps low t.2 o (latest_narrow s h).few in (
        range_summary grouped low t.2,
        range_loaded grouped low t.2 (omega arith) less,
        record {
          kept = taken_kept s (range p r) f.1 m n o h.kept;
          narrow = narrow_changed F s.table.rules s.table.default s.table.mark (range_narrow p r g low t.2 less) h.narrow;
          grouped = λ _. grouped_changed F s.table.rules s.table.default s.table.mark grouped;
          writing = λ t. absurd t;
        },
      )
