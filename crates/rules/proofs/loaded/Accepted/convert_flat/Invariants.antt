-- `convert_flat` meets its contract. The invariant: the whole conversion is a log so far and the conversion of what is left.
-- A turn adds the group chosen to that log; the measure is the characters left. Assumes nothing.
use Rattle.std.proofs.Common.{◌-◌, length}
use Rattle.meaning.specs.bridge.Flat.{table_at}
use Rattle.rules.specs.bridge.Modes.{the_mode}
use Rattle.meaning.proofs.Laws.Writing.{Reached}
use Rattle.rules.proofs.loaded.Accepted.convert_flat.Given as goal

abbrev pub invariant-loop-place : goal.invariant-loop-place
invariant-loop-place l = let t = l.self.table in
    Reached (table_at t.words.now t.rules (the_mode t.mode)) t.words.now l.input l.initial.output l.output l.place l.count

abbrev pub decreases-loop-place : goal.decreases-loop-place
decreases-loop-place l = length l.input - l.place
