-- A caller of a chain in Rattle: how calls of its feed and finish are seen there, each known by its contract alone. What holds of every list of them is
-- `ChainServes`.
use Rattle.std.specs.Prelude.{List, ◌≡◌, ℕ}
use Rattle.reckoning.specs.Reckoning.{Call, of_feed, of_finish}
use Rattle.reckoning.specs.Chain.{ChainOutcome}
use Rattle.reckoning.specs.ChainServes.{ChainCaller}
use Rattle.session.specs.Keeping.{session_of}
use Rattle.session.specs.declared.kept.Session.{Session}
use Rattle.chain.specs.Promised.{outcome_of, Feeds, Finishes}
use Rattle.std.specs.Prelude.{Result}
use Rattle.rules.specs.declared.refusal.Refusal.{Refusal}
use Rattle.chain.specs.declared.call.Written.{Written}

-- A call that was made: what it was lent, and what came back.
pub record Made : Type 0 where
  pub call : Call
  pub middle : List ℕ
  pub answer : Result Written Refusal
  pub first : Session
  pub second : Session
  pub middle_left : List ℕ
  pub output : List ℕ

abbrev pub came : Made → ChainOutcome
came m = outcome_of m.answer m.first m.second m.middle_left m.output

-- the contract of the function that was called
abbrev pub MeetsContract : List ℕ → List ℕ → Session → Session → Call → Made → Type 0
MeetsContract w₁ w₂ s₁ s₂ (of_feed piece buffer) m = Feeds w₁ w₂ s₁ s₂ piece m.middle buffer (came m)
MeetsContract w₁ w₂ s₁ s₂ (of_finish buffer) m = Finishes w₁ w₂ s₁ s₂ m.middle buffer (came m)

-- lends each call the words of both machines, and both sessions as the last call left them
abbrev pub caller : ChainCaller
caller w₁ w₂ =
    record {
      Held = Session × Session;
      Is = λ held s. (session_of held.0 ≡ s.0) × (session_of held.1 ≡ s.1);
      Made = Made;
      call = λ m. record { call = m.call; middle = m.middle };
      outcome = came;
      left = λ m. (m.first, m.second);
      Meets = λ held m. MeetsContract w₁ w₂ held.0 held.1 m.call m;
    }
