-- `read::Machine::class_of` meets its contract. The invariant: the start at `low` is not above the character, and the one at `high`, where there is one, is.
-- The measure is the number of classes from `low` on and below `high`. Assumes nothing.
use Rattle.std.proofs.Common.{◌≡◌, ◌+◌, sym, arith}
use Rattle.meaning.specs.Block.{at}
use Rattle.automaton.proofs.Laws.Words.{sound_header_lem}
use Rattle.automaton.proofs.Laws.Reading.{first_start, class_found}
use Rattle.words.proofs.read.Machine.class_of.Goals as goal

pub loop-low-init : goal.loop-low-init
loop-low-init c =
    let w = c.args.self.words.all.now in
    let h = sound_header_lem w c.args.self.sound in
    let some = h.some_class in
    let first = first_start w c.args.self.sound in
    let e : c.class_count-high.result ≡ at w 1 = c.class_count-high.ensures in
    (h.long, h.few_classes, omega arith, omega arith, omega arith, λ l. absurd (omega arith))

pub returns : goal.returns
returns c =
    let l = c.loop-low in
    let e : l.high ≡ l.low + 1 = omega arith in
    sym (class_found c.args.self.words.all.now c.args.self.sound c.args.c l.low (omega arith) l.invariant.4 (rw e at l.invariant.5))
