-- The terms of nine numbers are fed by position. The invariant: feeding the terms from the position on, to the state so far, is feeding all.
-- Assumes nothing.
use mathlib.Core.Path.{◌≡◌}
use Prim.Native.Nat.{◌+◌}
use lib.ListN.{drop}
use Rattle.typed.specs.bridge.Stream.{feed_terms}
use Rattle.typed.specs.bridge.Answers.{state_of, SameLoans}
use Rattle.typed.proofs.output.feed_terms.Given as goal

abbrev pub invariant-loop-position : goal.invariant-loop-position
invariant-loop-position l = record { state : feed_terms l.position (drop (l.position + 1) l.part.numbers) (state_of l.records) ≡ feed_terms 0 (drop 1 l.part.numbers) (state_of l.initial.records); same_loans : SameLoans l.fn.records l.records }
