-- Where held characters lead, and the session that a run leaves, as the code works them out.
use Rattle.std.specs.Prelude.{Bool, List, ◌≡◌, ℕ, ◌+◌, ◌*◌, ◌-◌, ◌≤◌}
use Rattle.std.specs.Prelude.{Option, option_map}
use Rattle.meaning.specs.Direct.{limit}
use Rattle.meaning.specs.Refusal.{accepted}
use Rattle.meaning.specs.Meaning.{text_of}
use Rattle.automaton.specs.Automaton.{Automaton}
use Rattle.reckoning.specs.Calls.{CallOutcome, admits, received_by, resumed, call_by}
use Rattle.session.specs.Keeping.{meant_status, together, session_of}
use Rattle.session.specs.bridge.Running.{put}
use Rattle.words.specs.declared.numbers.StateNo.{StateNo}
use Rattle.session.specs.declared.run.Ran.{Ran}
use Rattle.session.specs.declared.kept.Kept.{Kept}
use Rattle.session.specs.declared.kept.Session.{Session}
use Rattle.session.specs.declared.call.Went.{Went}

-- the number of the state that was reached, if any was
abbrev pub path_of : Option StateNo → Option ℕ
path_of r = option_map (λ q. q.0) r

-- the session s after a run over n more characters, with the characters that it holds and the counts of uses
abbrev pub later_of : Rattle.reckoning.specs.Session.Session → ℕ → Ran → List ℕ → List ℕ → Rattle.reckoning.specs.Session.Session
later_of s n ran held uses =
    record {
      status = meant_status ran.status;
      state = ran.state.0;
      held = held;
      count = ran.at - ran.from;
      received = received_by (meant_status ran.status) (s.received + n) (s.received - s.count + ran.from);
      produced = s.produced + ran.count;
      steps = s.steps + ran.steps;
      uses = uses;
    }

-- what is kept after such a run, whatever the counts of uses before and after it
abbrev pub Leaves : Kept → ℕ → Ran → List ℕ → Kept → Type 0
Leaves found n ran held left = (before after : List ℕ) → session_of (together left after) ≡ later_of (session_of (together found before)) n ran held after

-- the numbers of what is kept and of a run over n more characters are so small that none of their sums overflows
pub record Small (found : Kept) (n : ℕ) (ran : Ran) : Type 0 where
  pub held : found.held_count ≤ found.received
  pub received : found.received + n ≤ limit
  pub order : ran.from ≤ ran.at
  pub store : ran.at ≤ ran.from + 8
  pub inside : ran.at ≤ found.held_count + n
  pub produced : found.tally.produced + ran.count ≤ 8 * limit
  pub steps : found.tally.steps + ran.steps ≤ 11 * (limit + 1)

-- what a call that goes on asks: its tests passed for some room, and where the output has any place it has so many
abbrev pub Resumable : List ℕ → Rattle.reckoning.specs.Session.Session → ℕ → ℕ → Type 0
Resumable w s n places = (room : ℕ) × (admits w s n room ≡ accepted tt) × (1 ≤ places → room ≤ places)

-- what it comes to, where an output without places takes nothing
abbrev pub went_on : Automaton → Rattle.reckoning.specs.Session.Session → List ℕ → Bool → List ℕ → CallOutcome
went_on m s piece ended output =
    let o = call_by (accepted tt) m s piece ended output in
    record { answer = o.answer; session = o.session; output = put output 0 (text_of m.write (resumed m s piece ended).final.log) }

-- what a call that is lent the counts of uses comes to, with the counts
abbrev pub joined : Went Kept → List ℕ → Went Session
joined went uses = record { written = went.written; left = together went.left uses }
