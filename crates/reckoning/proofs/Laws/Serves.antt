-- Demand 3 and requests [2] and [9] of every caller of feed and finish whose calls' contracts tell their outcomes.
-- What such a caller sees is what the outcome functions serve.
use mathlib.Core.List.{List, [], ◌∷◌}
use mathlib.Core.Path.{◌≡◌, refl}
use Prim.Native.Nat.{ℕ}
use Rattle.lists.specs.Lists.{fold_left}
use Rattle.reckoning.specs.Session.{Session, fresh}
use Rattle.reckoning.specs.Calls.{CallOutcome}
use Rattle.reckoning.specs.Reckoning.{Call, Served, before, unserved, called, and_then, serve_call, serve}
use Rattle.reckoning.specs.Claims.{OutcomesAgree, SoundAddsUp}
use Rattle.reckoning.specs.Serves.{SessionCaller, Demand3, UsesAddUp, NothingHeld, Serves}
use Rattle.reckoning.proofs.Laws.Answers.{sound_adds_up, calls_stay}
use Rattle.reckoning.proofs.Laws.Demand3.{outcomes_agree}
use Rattle.reckoning.proofs.Laws.Needs.{nothing_held}
use Rattle.reckoning.proofs.Laws.InTurn.{outcomes_of, Tells, every_list}

-- what is asked of a caller of feed and finish
abbrev pub TellsCalls : SessionCaller → Type 0
TellsCalls caller = (w : List ℕ) → Tells (called w) (λ o. o.session) (caller w)

abbrev outcomes : List ℕ → Session → List Call → List CallOutcome
outcomes w = outcomes_of (called w) (λ o. o.session)

seen_served : (w : List ℕ) (cs : List Call) (v : Served) → fold_left and_then (outcomes w v.session cs) v ≡ serve w cs v
unfolding outcomes_of serve
seen_served w [] v = refl
seen_served w (c ∷ cs) v = seen_served w cs (serve_call w v c)

module _ (caller : SessionCaller) (tells : TellsCalls caller) where
  -- DEMAND 3
  demand : Demand3 caller
  unfolding Demand3 OutcomesAgree
  demand t w C =
      every_list (called w) (λ o. o.session) (caller w) (tells w) fresh _
      (λ cs chars. rw (seen_served w cs unserved) (outcomes_agree t w C cs chars))

  -- REQUEST [2]
  uses : UsesAddUp caller
  unfolding UsesAddUp SoundAddsUp
  uses w s W sure eight =
      every_list (called w) (λ o. o.session) (caller w) (tells w) s _
      (λ cs. rw (seen_served w cs (before s)) (let k = calls_stay w cs (before s) sure eight in (k, sound_adds_up w _ W k)))

  -- REQUEST [9]
  held : NothingHeld caller
  unfolding NothingHeld
  held t w C =
      every_list (called w) (λ o. o.session) (caller w) (tells w) fresh _
      (λ cs chars. rw (seen_served w cs unserved) (nothing_held t w C cs chars))

  pub serves : Serves caller
  serves = record { demand_3 = demand; uses_add_up = uses; nothing_held = held }
