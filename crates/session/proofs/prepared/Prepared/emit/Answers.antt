-- `prepared::Prepared::emit` meets its contract: an output without places takes nothing, and into another the rule's text is written.
-- Assumes nothing.
use mathlib.Core.List.{List}
use mathlib.Core.Path.{sym, ap, ◌∙◌}
use Prim.Native.Nat.{ℕ, ◌+◌, ◌-◌, ◌≤◌}
use native.Mathlib.Omega.{arith}
use lib.ListN.{length, take, drop}
use Rattle.meaning.specs.Block.{block_output}
use Rattle.automaton.specs.Sound.{block_at}
use Rattle.session.proofs.Laws.Running.{put_none, put_group}
use Rattle.session.specs.bridge.Running.{whole}
use Rattle.session.proofs.prepared.Prepared.emit.Goals as goal
use Rattle.session.proofs.prepared.Prepared.emit.Goals.{Else-output-eq0, Start}

-- the characters that the rule takes
abbrev word : Start → List ℕ
word s = let a = s.args in take (a.to - a.from) (drop a.from (whole a.text.now))

pub returns-then-output-eq0 : goal.returns-then-output-eq0
returns-then-output-eq0 c = let a = c.args in record { value = ap (λ k. a.count + k) c.group_outputs.ensures; output_after = sym (put_none a.output.now a.count (block_output (block_at a.self.now.machine.words.all.now a.rule.0) (word (goal.at.returns-then-output-eq0 c).Start)) c.if-output-eq0.true) }

-- the output has places
any : (c : Else-output-eq0) → 1 ≤ length c.args.output.now
any c = omega (arith, c.if-output-eq0.false)

pub write_word-requires : goal.write_word-requires
write_word-requires c = record { rule_bound = c.requires.rule_bound; from_le_to = c.requires.from_le_to; rule_in_bounds = c.requires.rule_in_bounds (any (goal.at.write_word-requires c).Else-output-eq0) }

pub returns : goal.returns
returns c =
    let wrote = c.write_word.ensures in
    let a = c.args in
    record { value = wrote.value; output_after = wrote.output_after ∙ put_group (block_at a.self.now.machine.words.all.now a.rule.0) (word (goal.at.returns c).Start) a.output.now a.count (any (goal.at.returns c).Else-output-eq0) }
