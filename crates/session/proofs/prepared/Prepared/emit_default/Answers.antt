-- `prepared::Prepared::emit_default` meets its contract: an output without places takes nothing, and into another the default is written.
-- Assumes nothing.
use mathlib.Core.List.{List}
use mathlib.Core.Path.{sym, ap, ◌∙◌}
use Prim.Native.Nat.{ℕ, ◌+◌, ◌≤◌}
use native.Mathlib.Omega.{arith}
use lib.ListN.{length, take, drop}
use Rattle.meaning.specs.Block.{block_output}
use Rattle.automaton.specs.Sound.{block_at}
use Rattle.automaton.proofs.Laws.Words.{sound_header_lem}
use Rattle.session.proofs.Laws.Running.{put_none, put_group, default_block}
use Rattle.session.proofs.prepared.Prepared.emit_default.Goals as goal
use Rattle.session.proofs.prepared.Prepared.emit_default.Goals.{Else-output-eq0, Start}

-- what the default writes
abbrev written : Start → List ℕ
written s = let a = s.args in block_output (block_at a.self.now.machine.words.all.now 32) (take 1 (drop a.place a.part.now))

pub overflow_add-result : goal.overflow_add-result
overflow_add-result c =
    let m = c.args.self.now in
    let outputs = (default_block m.machine.words.all.now m.machine.sound c.requires.place_in_bounds.1).1 in
    omega (arith, c.group_outputs.ensures, outputs, (sound_header_lem m.machine.words.all.now m.machine.sound).expansion, c.requires.count_bound)

pub returns-then-output-eq0 : goal.returns-then-output-eq0
returns-then-output-eq0 c =
    let a = c.args in
    record { value = ap (λ k. a.count + k) c.group_outputs.ensures; output_after = sym (put_none a.output.now a.count (written (goal.at.returns-then-output-eq0 c).Start) c.if-output-eq0.true) }

-- the output has places
any : (c : Else-output-eq0) → 1 ≤ length c.args.output.now
any c = omega (arith, c.if-output-eq0.false)

pub write_default-requires : goal.write_default-requires
write_default-requires c = record { place_in_bounds = c.requires.place_in_bounds; words_in_bounds = c.requires.words_in_bounds (any (goal.at.write_default-requires c).Else-output-eq0) }

pub returns : goal.returns
returns c =
    let wrote = c.write_default.ensures in
    let a = c.args in
    record { value = wrote.value; output_after = wrote.output_after ∙ put_group (block_at a.self.now.machine.words.all.now 32) (take 1 (drop a.place a.part.now)) a.output.now a.count (any (goal.at.returns c).Else-output-eq0) }
