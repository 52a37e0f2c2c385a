-- `gather::gather_range` meets its contract: a range has one edge or two, and with it the words hold one range's starts more.
-- Assumes nothing.
use Rattle.std.proofs.Common.{arith, ◌<◌, ◌+◌, length, ap, ◌∙◌, sym}
use Rattle.meaning.specs.Table.{Range}
use Rattle.automaton.specs.Layout.{states_from}
use Rattle.automaton.specs.Starts.{Gathering, holding, meet}
use Rattle.automaton.specs.bridge.Gathered.{range_from, counted}
use Rattle.automaton.proofs.Laws.Gathering.{range_both, range_low, range_over}
use Rattle.automaton.proofs.Laws.Starts.{still_in_place}
use Rattle.machine.proofs.gather.gather_range.Goals as goal
use Rattle.machine.proofs.gather.gather_range.Goals.{Start}

-- the range met, and what the words held before
abbrev range : Start → Range
range s = range_from s.args.loaded.now s.args.i

abbrev found : Start → Gathering
found s = holding s.args.words.now s.args.count

pub returns-in_err-met : goal.returns-in_err-met
returns-in_err-met c =
    let s = (goal.at.returns-in_err-met c).Start in
    let w = c.insert_start.new.words in
    let room : states_from < length w = omega (arith, c.insert_start.auto.words) in
    let e = ap (λ n. holding w (counted n)) c.from_residual.ensures ∙ range_over w room (range s) (found s) c.in_err-met.ensures.met in
    record { met = e; few = rw c.from_residual.ensures (omega arith); in_place = still_in_place (range s) (found s) c.requires.1 e }

pub returns-in-Some : goal.returns-in-Some
returns-in-Some c =
    let s = (goal.at.returns-in-Some c).Start in
    let o = c.insert_start-in-Some.ensures in
    let h : (range s).highest < 65535 = omega (arith, c.in-Some.ensures.0) in
    let e = o.met ∙ ap (λ x. meet x (holding c.insert_start.new.words c.in_ok-met.met)) c.in-Some.ensures.1 ∙ ap (meet ((range s).highest + 1)) c.in_ok-met.ensures.met
    ∙ sym (range_both (range s) (found s) h) in
    record { met = e; few = o.few; in_place = still_in_place (range s) (found s) c.requires.1 e }

pub returns-in-None : goal.returns-in-None
returns-in-None c =
    let s = (goal.at.returns-in-None c).Start in
    let o = c.in_ok-met.ensures in
    let e = o.met ∙ sym (range_low (range s) (found s) (omega (arith, c.in-None.ensures))) in
    record { met = e; few = o.few; in_place = still_in_place (range s) (found s) c.requires.1 e }
