-- `call::go_on` meets its contract: the first's run is admitted over the piece, the second's over what the first wrote, and what they leave is the
-- chain's outcome. What a machine has produced more is what it wrote.
use mathlib.Core.List.{List}
use mathlib.Core.Path.{sym}
use Prim.Native.Nat.{ℕ}
use native.Mathlib.Nat.{le_refl}
use native.Mathlib.Omega.{arith}
use lib.Seq.{length-take-le}
use Rattle.reckoning.specs.Session.{Session}
use Rattle.session.specs.Keeping.{together, session_of}
use Rattle.chain.proofs.Laws.Going.{first_passes, first_counted, passed_fits, second_passes, second_counted, both_go}
use Rattle.chain.proofs.call.go_on.Goals as goal
use Rattle.chain.proofs.call.go_on.Goals.{After-resume-of_first, After-resume-of_second, After-gained-passed, Start}

abbrev words₁ : Start → List ℕ
words₁ s = s.args.one.words.all.now

abbrev words₂ : Start → List ℕ
words₂ s = s.args.other.words.all.now

abbrev session₁ : Start → Session
session₁ s = session_of (together s.args.first s.args.first_uses.now)

abbrev session₂ : Start → Session
session₂ s = session_of (together s.args.second s.args.second_uses.now)

abbrev piece : Start → List ℕ
piece s = s.args.piece.now

abbrev middle : Start → List ℕ
middle s = s.args.middle.now

abbrev output : Start → List ℕ
output s = s.args.output.now

pub resume-of_first-requires : goal.resume-of_first-requires
resume-of_first-requires c = (_, first_passes (words₁ (goal.at.resume-of_first-requires c).Start) (words₂ (goal.at.resume-of_first-requires c).Start) (session₁ (goal.at.resume-of_first-requires c).Start) (session₂ (goal.at.resume-of_first-requires c).Start) (piece (goal.at.resume-of_first-requires c).Start) c.args.ended (middle (goal.at.resume-of_first-requires c).Start) (output (goal.at.resume-of_first-requires c).Start) c.requires, λ any. le_refl _)

pub gained-passed-requires : goal.gained-passed-requires
gained-passed-requires c = omega (arith, first_counted (words₁ (goal.at.gained-passed-requires c).Start) (words₂ (goal.at.gained-passed-requires c).Start) (session₁ (goal.at.gained-passed-requires c).Start) (session₂ (goal.at.gained-passed-requires c).Start) (piece (goal.at.gained-passed-requires c).Start) c.args.ended (middle (goal.at.gained-passed-requires c).Start) (output (goal.at.gained-passed-requires c).Start) c.requires _ c.resume-of_first.ensures)

-- where the first's call was made, from where what it wrote is counted
abbrev made : After-gained-passed → After-resume-of_first
made x = (goal.at.After-gained-passed x).After-resume-of_first

pub slice_bounds-resume-end : goal.slice_bounds-resume-end
slice_bounds-resume-end c =
    passed_fits (words₁ (goal.at.slice_bounds-resume-end c).Start) (words₂ (goal.at.slice_bounds-resume-end c).Start) (session₁ (goal.at.slice_bounds-resume-end c).Start) (session₂ (goal.at.slice_bounds-resume-end c).Start) (piece (goal.at.slice_bounds-resume-end c).Start) c.args.ended (middle (goal.at.slice_bounds-resume-end c).Start) (output (goal.at.slice_bounds-resume-end c).Start) c.requires _ c.resume-of_first.ensures c.gained-passed.result
    c.gained-passed.ensures

pub slice_bounds-resume-end-2 : goal.slice_bounds-resume-end-2
slice_bounds-resume-end-2 c =
    sym (length-take-le c.gained-passed.result _
    (passed_fits (words₁ (goal.at.slice_bounds-resume-end-2 c).Start) (words₂ (goal.at.slice_bounds-resume-end-2 c).Start) (session₁ (goal.at.slice_bounds-resume-end-2 c).Start) (session₂ (goal.at.slice_bounds-resume-end-2 c).Start) (piece (goal.at.slice_bounds-resume-end-2 c).Start) c.args.ended (middle (goal.at.slice_bounds-resume-end-2 c).Start) (output (goal.at.slice_bounds-resume-end-2 c).Start) c.requires _ c.resume-of_first.ensures c.gained-passed.result
    c.gained-passed.ensures))

pub resume-of_second-requires : goal.resume-of_second-requires
resume-of_second-requires c = (
  _,
  second_passes (words₁ (goal.at.resume-of_second-requires c).Start) (words₂ (goal.at.resume-of_second-requires c).Start) (session₁ (goal.at.resume-of_second-requires c).Start) (session₂ (goal.at.resume-of_second-requires c).Start) (piece (goal.at.resume-of_second-requires c).Start) c.args.ended (middle (goal.at.resume-of_second-requires c).Start) (output (goal.at.resume-of_second-requires c).Start) c.requires _ c.resume-of_first.ensures c.gained-passed.result
      c.gained-passed.ensures,
  λ any. le_refl _,
)

pub gained-requires : goal.gained-requires
gained-requires c =
    omega (
      arith,
      second_counted (words₁ (goal.at.gained-requires c).Start) (words₂ (goal.at.gained-requires c).Start) (session₁ (goal.at.gained-requires c).Start) (session₂ (goal.at.gained-requires c).Start) (piece (goal.at.gained-requires c).Start) c.args.ended (middle (goal.at.gained-requires c).Start) (output (goal.at.gained-requires c).Start) c.requires _ c.resume-of_first.ensures
          c.gained-passed.result c.gained-passed.ensures _ c.closes-end.ensures _ c.resume-of_second.ensures,
    )

pub returns : goal.returns
returns c =
    both_go (words₁ (goal.at.returns c).Start) (words₂ (goal.at.returns c).Start) (session₁ (goal.at.returns c).Start) (session₂ (goal.at.returns c).Start) (piece (goal.at.returns c).Start) c.args.ended (middle (goal.at.returns c).Start) (output (goal.at.returns c).Start) c.requires _ c.resume-of_first.ensures c.gained-passed.result
    c.gained-passed.ensures _ c.closes-end.ensures _ c.resume-of_second.ensures c.gained.result c.gained.ensures
