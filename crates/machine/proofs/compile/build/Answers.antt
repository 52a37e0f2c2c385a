-- `compile::build` meets its contract: too many classes or states leave the words cleared, and else the words are put together part by part.
-- Assumes nothing.
use Rattle.std.proofs.Common.{arith, ◌≡◌, ◌≤◌, ℕ, List, [], ◌++◌, length, drop, refl, sym, ap, subst, ◌∙◌}
use Rattle.lists.specs.Lists.{pad}
use Rattle.meaning.specs.Table.{Table}
use Rattle.meaning.specs.Block.{blocks_size}
use Rattle.meaning.specs.bridge.Flat.{expansion_at}
use Rattle.rules.specs.bridge.Modes.{the_mode}
use Rattle.automaton.specs.Classes.{starts}
use Rattle.automaton.specs.States.{states}
use Rattle.automaton.specs.Starts.{ranges_of, holding, meet_ranges}
use Rattle.automaton.specs.Layout.{word_count, blocks_from}
use Rattle.automaton.proofs.Laws.Gathering.{Gathered, gathered}
use Rattle.machine.proofs.Laws.Compiling.{drop_later, before_ranges, gathered_back, gathered_zero, gathered_number, gathered_over, gathered_start, states_over, states_few, put_together, built_classes, built_states, built_words}
use Rattle.machine.specs.bridge.Building.{longest_at}
use Rattle.machine.specs.bridge.Tables.{bare_table}
use Rattle.machine.proofs.compile.build.Goals as goal
use Rattle.machine.proofs.compile.build.Goals.{After-build_states, After-gather_starts, In-Some, Start}

-- the array as a table, without its default
abbrev table : Start → Table
table s = bare_table s.args.table.now

-- what the words hold when the ranges are met, n starts or a 65th
module _ (g : After-gather_starts) where
  abbrev t : Table
  t = table (goal.at.After-gather_starts g).Start

  abbrev w : List ℕ
  w = g.args.words.now

  abbrev v : List ℕ
  v = g.gather_starts.new.words

  gathers : (n : ℕ) → holding v n ≡ meet_ranges (ranges_of t) (holding w 1) → Gathered (starts t) w v n
  gathers n e = let z = g.requires in
      subst (λ k. Gathered (starts t) w k.words k.count) (sym e) (gathered t w (before_ranges w z.1 z.0))

  same_back : (n : ℕ) → Gathered (starts t) w v n → drop word_count v ≡ drop word_count w
  same_back n = gathered_back w g.requires.1 (starts t) v n

-- where there is room for all
gathers_some : (s : In-Some) → let g = (goal.at.In-Some s).After-gather_starts in Gathered (starts (t g)) (w g) (v g) s.in-Some.classes
gathers_some s = gathers (goal.at.In-Some s).After-gather_starts s.in-Some.classes s.in-Some.ensures.met

classes_same : (s : In-Some) → s.in-Some.classes ≡ length (starts (t (goal.at.In-Some s).After-gather_starts))
classes_same s = let g = (goal.at.In-Some s).After-gather_starts in
    gathered_number (w g) g.requires.1 (starts (t g)) (v g) s.in-Some.classes (gathers_some s) s.in-Some.ensures.few

few_starts : (s : In-Some) → length (starts (t (goal.at.In-Some s).After-gather_starts)) ≤ 64
few_starts s = subst (λ n. n ≤ 64) (classes_same s) s.in-Some.ensures.few

long : (b : After-build_states) → word_count ≤ length b.build_states.new.words
long b = let s = (goal.at.After-build_states b).In-Some in
    subst (λ n. word_count ≤ n) (sym (b.build_states.ensures.kept.size ∙ (gathers_some s).same.size)) b.requires.0

pub returns-in_default : goal.returns-in_default
returns-in_default c =
    let a = c.args in
    let g = (goal.at.returns-in_default c).After-gather_starts in
    let h = gathers g 65 c.in_default.ensures.met in
    let over = gathered_over a.words.now c.requires.1 (starts (t g)) (v g) 65 h (omega arith) in
    let e = built_classes (t g) a.table.now.words.now a.table.now.rules (the_mode a.table.now.mode) (drop word_count a.words.now) over in
    record { answer = sym (ap (λ o. o.answer) e); words = c.clear.ensures ∙ ap (λ l. pad word_count [] ++ l) (same_back g 65 h) ∙ sym (ap (λ o. o.words) e) }

pub build_states-requires : goal.build_states-requires
build_states-requires c =
    let s = (goal.at.build_states-requires c).In-Some in
    let g = (goal.at.In-Some s).After-gather_starts in
    let n = s.in-Some.classes in
    let z = c.requires in
    let h = gathers_some s in
    let few = s.in-Some.ensures.few in
    record {
      fact = (classes_same s, few, gathered_start (w g) z.1 (starts (t g)) (v g) n h z.0 few);
      word_count_in_bounds = (subst (λ m. word_count ≤ m) (sym h.same.size) z.0, gathered_zero (w g) z.1 (starts (t g)) (v g) n h);
    }

pub returns-in_default-build_states : goal.returns-in_default-build_states
returns-in_default-build_states c =
    let a = c.args in
    let s = (goal.at.returns-in_default-build_states c).In-Some in
    let g = (goal.at.In-Some s).After-gather_starts in
    let over = states_over (length (states (t g))) c.in_default-build_states.ensures.answer in
    let e = built_states (t g) a.table.now.words.now a.table.now.rules (the_mode a.table.now.mode) (drop word_count a.words.now) (few_starts s) over in record {
      answer = sym (ap (λ o. o.answer) e);
      words = c.clear-in_default-build_states.ensures
          ∙ ap (λ l. pad word_count [] ++ l) (drop_later blocks_from blocks_size c.build_states.new.words (v g) c.build_states.ensures.kept.back ∙ same_back g s.in-Some.classes (gathers_some s))
          ∙ sym (ap (λ o. o.words) e);
    }

pub put_header-requires : goal.put_header-requires
put_header-requires c =
    let g = (goal.at.put_header-requires c).After-gather_starts in
    let counted = states_few (length (states (t g))) c.in-Some-build_states.states c.in-Some-build_states.ensures.answer in (
      omega (arith, long (goal.at.put_header-requires c).After-build_states),
      subst (λ m. m ≤ 256) (sym counted.1) counted.0,
      c.in-Some.ensures.few,
    )

pub returns : goal.returns
returns c =
    let a = c.args in
    let s = (goal.at.returns c).In-Some in
    let g = (goal.at.In-Some s).After-gather_starts in
    let counted = states_few (length (states (t g))) c.in-Some-build_states.states c.in-Some-build_states.ensures.answer in
    let e = built_words (t g) a.table.now.words.now a.table.now.rules (the_mode a.table.now.mode) (drop word_count a.words.now) (few_starts s) counted.0 in
    let whole =
    put_together (t g) a.table.now.rules (the_mode a.table.now.mode) a.words.now (v g) c.build_states.new.words c.put_header.new.words c.copy_blocks.new.words a.table.now.words.now
    c.in-Some-build_states.states s.in-Some.classes (longest_at a.table.now.words.now a.table.now.rules) (expansion_at a.table.now.words.now a.table.now.rules (the_mode a.table.now.mode)) c.requires.0 counted.1 (classes_same s)
    refl refl ((gathers_some s).filled (few_starts s)) (c.in-Some-build_states.ensures.words counted.0) c.put_header.ensures c.copy_blocks.ensures in
    record { answer = sym (ap (λ o. o.answer) e); words = whole ∙ sym (ap (λ o. o.words) e) }
