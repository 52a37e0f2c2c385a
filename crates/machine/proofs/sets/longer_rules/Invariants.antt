-- `sets::longer_rules` meets its contract. The invariant: what is built, with those of the rules left that pass, is the set filtered.
-- Assumes nothing.
use Rattle.automaton.specs.bridge.Build.{members_from}
use Rattle.automaton.proofs.Laws.Sets.{Built, goes_on_lem}
use Rattle.machine.proofs.sets.longer_rules.Given as goal

abbrev pub invariant-loop-rule : goal.invariant-loop-rule
invariant-loop-rule l = Built (goes_on_lem l.table.words.now l.depth l.c) l.table.rules l.fn.set l.table.few (members_from 0 32 l.rule-iterator.0) l.longer
