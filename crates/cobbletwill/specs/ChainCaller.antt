-- A caller of a chain in C: how calls of cobbletwill_chain_feed_parts and cobbletwill_chain_finish_parts are seen there, each known by its contract
-- alone. What holds of every list of them is `ChainServes`.
use Rattle.std.specs.Prelude.{cond, List, [], ◌∷◌, ℕ, eqb}
use Rattle.lists.specs.Lists.{any}
use Rattle.meaning.specs.Refusal.{Outcome, refused, accepted}
use Rattle.reckoning.specs.Machine.{Status, Open, Closed, Stopped}
use Rattle.reckoning.specs.Reckoning.{Call, of_feed, of_finish}
use Rattle.reckoning.specs.Chain.{ChainAnswer, ChainOutcome}
use Rattle.reckoning.specs.ChainServes.{ChainCaller}
use Rattle.cobbletwill.specs.Sessions.{session_from}
use Rattle.cobbletwill.specs.Chains.{ChainFace}
use Rattle.cobbletwill.specs.Promised.{ChainFeeds, ChainFinishes}
use Rattle.cobbletwill.specs.Caller as One
use Rattle.cobbletwill.specs.declared.sessions.SessionNumbers.{SessionNumbers}

-- A call that was made: what it was lent, the number written and the first's status as they were found, and what came back.
pub record Made : Type 0 where
  pub call : Call
  pub middle : List ℕ
  pub written : ℕ
  pub status₁ : ℕ
  pub back : ChainFace

-- the contract of the function that was called
abbrev pub MeetsContract : List ℕ → List ℕ → SessionNumbers × List ℕ → SessionNumbers × List ℕ → Call → Made → Type 0
MeetsContract w₁ w₂ n₁ n₂ (of_feed piece buffer) m =
    ChainFeeds w₁ n₁.0 n₁.1 w₂ n₂.0 n₂.1 piece m.middle buffer m.written m.status₁ m.back
MeetsContract w₁ w₂ n₁ n₂ (of_finish buffer) m =
    ChainFinishes w₁ n₁.0 n₁.1 w₂ n₂.0 n₂.1 m.middle buffer m.written m.status₁ m.back

-- the status that a number says
abbrev pub status_of : ℕ → Status
status_of n = cond (eqb n 0) Closed (cond (eqb n 64) Stopped Open)

-- "each call answers the second's output count and both statuses"; "A refusal answers its number": what an answer, the number written and the
-- first's status say
unfoldable pub answer_from : ℕ → ℕ → ℕ → Outcome ChainAnswer
answer_from answer written status₁ =
    cond (any (eqb answer) (0 ∷ 64 ∷ 65 ∷ [])) (accepted (record { count = written; first = status_of status₁; second = status_of answer })) (refused answer)

abbrev pub outcome_from : ChainFace → ChainOutcome
outcome_from o =
    record {
      answer = answer_from o.answer o.written o.status₁;
      first = session_from o.first o.uses₁;
      second = session_from o.second o.uses₂;
      middle = o.middle;
      output = o.output;
    }

-- lends each call the words of both machines, and both sessions, each in its two parts, as the last call left them
abbrev pub caller : ChainCaller
caller w₁ w₂ =
    record {
      Held = (SessionNumbers × List ℕ) × (SessionNumbers × List ℕ);
      Is = λ held s. (One.caller w₁).Is held.0 s.0 × (One.caller w₂).Is held.1 s.1;
      Made = Made;
      call = λ m. record { call = m.call; middle = m.middle };
      outcome = λ m. outcome_from m.back;
      left = λ m. ((m.back.first, m.back.uses₁), (m.back.second, m.back.uses₂));
      Meets = λ held m. MeetsContract w₁ w₂ held.0 held.1 m.call m;
    }
