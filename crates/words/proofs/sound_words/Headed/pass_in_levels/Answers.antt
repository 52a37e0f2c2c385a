-- `Headed::pass_in_levels` meets its contract: the loop keeps that the states before the level are sound and those of the level have its depth.
-- The measure is the number of the states that are left.
use Rattle.std.proofs.Common.{arith, eqb→eq}
use Rattle.lists.specs.Decide.{for_below}
use Rattle.lists.proofs.Laws.Tests.{to_T, of_T, to_below}
use Rattle.automaton.specs.Sound.{state_count, sound_state}
use Rattle.words.proofs.Laws.Levels.{depth_passes}
use Rattle.words.proofs.sound_words.Headed.pass_in_levels.Goals as goal

pub level_passes-requires-clause-by_index : goal.level_passes-requires-clause-by_index
level_passes-requires-clause-by_index c =
    λ s h f.
    let w = c.args.self.words.all.now in
    let next = c.level_end-high.ensures in
    let deep = c.loop-from.invariant.3 s h f in
    let first = c.loop-from.invariant.4 s h f in (
      record {
        before = h;
        begun = next.begun;
        inside = next.inside;
        deeper = λ q less more. omega (arith, next.level q less more, deep);
      },
      depth_passes w s deep first.0 first.1 (omega arith),
    )

pub returns : goal.returns
returns c =
    λ yes.
    let w = c.args.self.words.all.now in
    let last = eqb→eq c.loop-from.low c.state_count.result (to_T _ yes) in
    of_T (for_below (state_count w) (sound_state w))
    (to_below (state_count w) (sound_state w) (λ q h. to_T (sound_state w q) (c.loop-from.invariant.5 q (omega (arith, last, c.state_count.ensures)))))
