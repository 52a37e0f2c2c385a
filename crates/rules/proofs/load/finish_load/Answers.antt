-- `rules::load::finish_load` meets its contract: at each `return` the tests that led there say what `end_of` answers.
-- Where the table has no gap and a rule, the array is as `all_safe` needs it, and is its own first chunk.
use Rattle.std.proofs.Common.{◌≡◌, false, [], get_or, sym, refl, ap, ◌∙◌, subst, arith, eq-eqb, ne_eqb}
use Rattle.lists.specs.Decide.{select}
use Rattle.meaning.specs.bridge.Flat.{Flat, safe_at}
use Rattle.rules.specs.bridge.Modes.{the_mode}
use Rattle.rules.specs.bridge.Summary.{gap}
use Rattle.rules.proofs.Laws.Loading.{only_chunk}
use Rattle.rules.proofs.load.finish_load.Goals as goal
use Rattle.rules.proofs.load.finish_load.Goals.{Else-rules-eq0, After-as_chunks, After-all_safe}

no_gap : (c : Else-rules-eq0) → gap c.args.reader ≡ false
no_gap c = sym c.has_gap.ensures ∙ c.if-has_gap.false

pub returns-then-has_gap : goal.returns-then-has_gap
unfolding select
returns-then-has_gap c = simp (sym c.has_gap.ensures ∙ c.if-has_gap.true) refl

pub returns-then-rules-eq0 : goal.returns-then-rules-eq0
unfolding select
returns-then-rules-eq0 c = simp (sym c.has_gap.ensures ∙ c.if-has_gap.false, eq-eqb _ _ c.if-rules-eq0.true) refl

flat : (c : Else-rules-eq0) → Flat c.args.loaded.now
flat c = c.requires.flat (no_gap c) (omega (arith, c.if-rules-eq0.false))

chunk : (c : After-as_chunks) → get_or c.as_chunks.result.0.now 0 [] ≡ c.args.loaded.now
chunk c =
    ap (λ l. get_or l 0 []) c.as_chunks.ensures.front
    ∙ only_chunk c.args.loaded.now (flat (goal.at.After-as_chunks c).Else-rules-eq0).long

pub invariant_of-table : goal.invariant_of-table
invariant_of-table c =
    let s = goal.at.invariant_of-table c in
    record { flat = subst Flat (sym (chunk s.After-as_chunks)) (flat s.Else-rules-eq0); few = c.requires.rules_bound }

-- the test of the chunk is that of the array
safe : (c : After-all_safe) → safe_at c.args.loaded.now c.args.reader.rules (the_mode c.args.reader.mode) ≡ c.all_safe.result
safe c = sym (c.all_safe.ensures ∙ ap (λ l. safe_at l c.args.reader.rules (the_mode c.args.reader.mode)) (chunk (goal.at.After-all_safe c).After-as_chunks))

pub returns-then-all_safe : goal.returns-then-all_safe
unfolding select
returns-then-all_safe c =
    let s = goal.at.returns-then-all_safe c in
    simp (no_gap s.Else-rules-eq0, ne_eqb _ _ c.if-rules-eq0.false, safe s.After-all_safe ∙ c.if-all_safe.true) refl

pub returns : goal.returns
unfolding select
returns c =
    let s = goal.at.returns c in
    simp (no_gap s.Else-rules-eq0, ne_eqb _ _ c.if-rules-eq0.false, safe s.After-all_safe ∙ c.if-all_safe.false) refl
