-- A caller in C: how calls of cobbletwill_feed_parts and cobbletwill_finish_parts are seen there, each known by its contract alone. What holds of every list of them is `Serves`.
use Rattle.std.specs.Prelude.{List, [], ◌∷◌, ◌≡◌, ℕ, ◌≤◌, eqb}
use Rattle.lists.specs.Decide.{select}
use Rattle.meaning.specs.Refusal.{Outcome, refused, accepted}
use Rattle.reckoning.specs.Machine.{Open, Closed, Stopped}
use Rattle.reckoning.specs.Calls.{Answer, CallOutcome}
use Rattle.reckoning.specs.Reckoning.{Call, of_feed, of_finish}
use Rattle.reckoning.specs.Serves.{SessionCaller}
use Rattle.cobbletwill.specs.Sessions.{session_from, CalledFace}
use Rattle.cobbletwill.specs.Promised.{Feeds, Finishes}
use Rattle.cobbletwill.specs.declared.sessions.SessionNumbers.{SessionNumbers}

-- A call that was made: what it was lent, the number written as it was found, and what came back.
pub record Made : Type 0 where
  pub call : Call
  pub found : ℕ
  pub back : CalledFace

-- the contract of the function that was called
abbrev pub MeetsContract : List ℕ → SessionNumbers → List ℕ → Call → Made → Type 0
MeetsContract w n uses (of_feed piece buffer) m = Feeds w n uses piece buffer m.found m.back
MeetsContract w n uses (of_finish buffer) m = Finishes w n uses buffer m.found m.back

-- "answer its count and the status"; "A refusal answers its number": what an answer and the number written say
unfoldable pub answer_from : ℕ → ℕ → Outcome Answer
answer_from answer written =
    select (
    (eqb answer 0, accepted (record { count = written; status = Closed }))
    ∷ (eqb answer 64, accepted (record { count = written; status = Stopped }))
    ∷ (eqb answer 65, accepted (record { count = written; status = Open }))
    ∷ []) (refused answer)

abbrev pub outcome_from : CalledFace → CallOutcome
outcome_from o = record { answer = answer_from o.answer o.written; session = session_from o.session o.uses; output = o.output }

-- lends each call the words w, and the session in its two parts as the last call left it; numbers with a status up to 2 are a session
abbrev pub caller : SessionCaller
caller w =
    record {
      Held = SessionNumbers × List ℕ;
      Is = λ held s. (held.0.status ≤ 2) × (session_from held.0 held.1 ≡ s);
      Made = Made;
      call = λ m. m.call;
      outcome = λ m. outcome_from m.back;
      left = λ m. (m.back.session, m.back.uses);
      Meets = λ held m. MeetsContract w held.0 held.1 m.call m;
    }
