-- The code's session as the definitions' session.
use Rattle.std.specs.Prelude.{List, ℕ}
use Rattle.session.specs.declared.kept.Status.{Status}
use Rattle.session.specs.declared.kept.Status.TheVariants as Code
use Rattle.session.specs.declared.kept.Kept.{Kept}
use Rattle.session.specs.declared.kept.Session.{Session}

abbrev pub meant_status : Status → Rattle.reckoning.specs.Machine.Status
meant_status Code.Open = Rattle.reckoning.specs.Machine.Open
meant_status Code.Closed = Rattle.reckoning.specs.Machine.Closed
meant_status Code.Stopped = Rattle.reckoning.specs.Machine.Stopped

-- a session of its two parts: what is kept of the machine, and how often each rule and the default were used
abbrev pub together : Kept → List ℕ → Session
together kept uses = record { kept = kept; uses = uses }

abbrev pub session_of : Session → Rattle.reckoning.specs.Session.Session
session_of s =
    record {
      status = meant_status s.kept.status;
      state = s.kept.state.0;
      held = s.kept.held;
      count = s.kept.held_count;
      received = s.kept.received;
      produced = s.kept.tally.produced;
      steps = s.kept.tally.steps;
      uses = s.uses;
    }
