-- `uses::defaults_sound` meets its contract: each mode's counts. A sound machine's word for the default is at most 2, and 2 where the mark is set.
-- Assumes nothing.
use mathlib.Core.Path.{◌≡◌, refl}
use Prim.Native.Nat.{ℕ, zero, suc, ◌≤◌}
use native.Mathlib.Omega.{arith}
use Rattle.lists.specs.Decide.{all_of}
use Rattle.meaning.specs.Table.{Paired}
use Rattle.meaning.specs.Block.{at}
use Rattle.automaton.specs.Sound.{word_mode}
use Rattle.automaton.proofs.Laws.Words.{sound_header_lem}
use Rattle.session.proofs.uses.defaults_sound.Goals as goal

marked : (n : ℕ) → n ≤ 2 → Paired ≡ word_mode n → n ≡ 2
marked zero h e = cc
marked (suc zero) h e = cc
marked (suc (suc zero)) h e = refl
marked (suc (suc (suc n))) h e = absurd (omega arith)

pub returns-in-Paired : goal.returns-in-Paired
unfolding all_of
returns-in-Paired c =
    let w = c.args.machine.words.all.now in
    let e = marked (at w 5) (sound_header_lem w c.args.machine.sound).default c.in-Paired.ensures in rw e refl
