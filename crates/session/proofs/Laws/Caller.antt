-- Demand 3 and request [2] of the code: each contract is an equation with its outcome function.
use mathlib.Core.List.{List}
use mathlib.Core.Path.{◌≡◌, refl, ap, ◌∙◌}
use Prim.Native.Nat.{ℕ}
use Rattle.reckoning.specs.Reckoning.{Call, of_feed, of_finish, called}
use Rattle.reckoning.specs.Serves.{Serves}
use Rattle.reckoning.proofs.Laws.Serves.{TellsCalls, serves}
use Rattle.session.specs.Keeping.{session_of}
use Rattle.session.specs.Promised.{outcome_of}
use Rattle.session.specs.Caller.{Made, MeetsContract, caller}
use Rattle.session.specs.declared.kept.Session.{Session}

came : (w : List ℕ) (s : Session) (c : Call) (m : Made) → MeetsContract w s c m → outcome_of m.answer m.session m.output ≡ called w (session_of s) c
came w s (of_feed piece buffer) m met = met
came w s (of_finish buffer) m met = met

tells : TellsCalls caller
tells w = record {
  came = λ s meant m is met. came w s m.call m met ∙ ap (λ x. called w x m.call) is;
  leaves = λ s meant m is met. refl;
}

-- DEMAND 3 and REQUEST [2]
pub code_serves : Serves caller
code_serves = serves caller tells
