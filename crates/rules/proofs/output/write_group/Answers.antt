-- `rules::output::write_group` meets its contract. The invariant: the output has the first j characters that the group writes, from the count on.
-- Assumes nothing.
use Rattle.std.proofs.Common.{◌≡◌, ◌+◌, ◌<◌, length, take, set, ap, ◌∙◌, arith}
use lib.Seq.{paste}
use Rattle.meaning.specs.Block.{at, entry_value, block_output}
use Rattle.meaning.proofs.Laws.Writing.{written_more, written_all}
use Rattle.rules.proofs.output.write_group.Goals as goal

pub loop-j-preserved : goal.loop-j-preserved
loop-j-preserved c =
    let a = c.args in
    let l = c.loop-j in
    let b = a.block.now in
    let word = take (at b 0) a.input.now in
    let turn : l.j < at b 2 = omega (arith, c.from-number.ensures) in
    let room : a.count + l.j < length a.output.now = omega (arith, turn, c.requires.group_in_bounds_2) in
    ap (λ o. set o (a.count + l.j) c.entry_value.result) l.invariant
    ∙ ap (set (paste a.output.now a.count (block_output b word) l.j) (a.count + l.j)) (c.entry_value.ensures ∙ ap (λ n. entry_value b l.j (take n a.input.now)) c.from-size.ensures)
    ∙ written_more b word a.output.now a.count l.j turn room

pub returns-clause-output_after : goal.returns-clause-output_after
returns-clause-output_after c =
    let a = c.args in
    let l = c.loop-j in
    let b = a.block.now in
    let word = take (at b 0) a.input.now in
    let e : l.j ≡ at b 2 = omega (arith, c.from-number.ensures) in
    l.invariant ∙ ap (paste a.output.now a.count (block_output b word)) e ∙ written_all b word a.output.now a.count
