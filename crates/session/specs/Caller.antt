-- A caller in Rattle: how calls of feed and finish are seen there, each known by its contract alone. What holds of every list of them is `Serves`.
use Rattle.std.specs.Prelude.{List, ◌≡◌, ℕ, Result}
use Rattle.reckoning.specs.Reckoning.{Call, of_feed, of_finish}
use Rattle.reckoning.specs.Serves.{SessionCaller}
use Rattle.session.specs.Keeping.{session_of}
use Rattle.session.specs.Promised.{outcome_of, Feeds, Finishes}
use Rattle.session.specs.declared.kept.Session.{Session}
use Rattle.session.specs.declared.call.Written.{Written}
use Rattle.rules.specs.declared.refusal.Refusal.{Refusal}

-- A call that was made: what it was lent, and what came back.
pub record Made : Type 0 where
  pub call : Call
  pub answer : Result Written Refusal
  pub session : Session
  pub output : List ℕ

-- the contract of the function that was called
abbrev pub MeetsContract : List ℕ → Session → Call → Made → Type 0
MeetsContract w s (of_feed piece buffer) m = Feeds w s piece buffer m.answer m.session m.output
MeetsContract w s (of_finish buffer) m = Finishes w s buffer m.answer m.session m.output

-- lends each call the words w, and the session as the last call left it
abbrev pub caller : SessionCaller
caller w =
    record {
      Held = Session;
      Is = λ s meant. session_of s ≡ meant;
      Made = Made;
      call = λ m. m.call;
      outcome = λ m. outcome_of m.answer m.session m.output;
      left = λ m. m.session;
      Meets = λ s m. MeetsContract w s m.call m;
    }
