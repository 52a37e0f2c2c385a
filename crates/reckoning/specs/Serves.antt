-- What holds of every list of feeds and finishes, whoever makes it: demand 3 and requests [2] and [9], one field a claim.
use Rattle.std.specs.Prelude.{List, ◌≡◌, ℕ, T, length}
use Rattle.lists.specs.Lists.{Each}
use Rattle.meaning.specs.Table.{Characters, Table}
use Rattle.automaton.specs.Sound.{sound}
use Rattle.automaton.specs.Claims.{Compiled}
use Rattle.reckoning.specs.InTurn.{Caller, EveryList}
use Rattle.reckoning.specs.Machine.{Open}
use Rattle.reckoning.specs.Session.{Session, fresh, sound_session}
use Rattle.reckoning.specs.Calls.{CallOutcome}
use Rattle.reckoning.specs.Reckoning.{Call, piece, accepted_pieces, seen}
use Rattle.reckoning.specs.Claims.{Agreed, AddsUp}
use Rattle.reckoning.specs.Needs.{HeldOfNeed}

-- A caller of feed and finish, who lends each call the same words.
abbrev pub SessionCaller : Type 1
SessionCaller = List ℕ → Caller Session Call CallOutcome

-- "Take every table that keeps document 01's rules for compiling, and so compiles by demand 2, and every list of feeds and finishes of its
-- machine from a fresh session, refused ones included, whatever the pieces and output lengths.": the words are as the contract of compile
-- leaves them.
unfoldable pub Demand3 : SessionCaller → Type 0
Demand3 caller =
    (t : Table) (w : List ℕ) → Compiled t w →
    EveryList (caller w) fresh (λ cs outcomes. Each (λ c. Characters (piece c)) cs → Agreed t cs (seen fresh outcomes))

-- "After any list of feeds and finishes of one machine from a sound session, the sum over rules of count times K, plus the default's count,
-- is the consumed total. A sound session satisfies this too, counts of rules or a default that the machine lacks being 0 (refusal 12).":
-- the words are any sound ones, compiled or not, the session any sound one of eight places. What is left is sound again, as refusal 12
-- tests it.
unfoldable pub UsesAddUp : SessionCaller → Type 0
UsesAddUp caller =
    (w : List ℕ) (s : Session) → T (sound w) → T (sound_session w s) → length s.held ≡ 8 →
    EveryList (caller w) s (λ cs outcomes. let left = (seen s outcomes).session in T (sound_session w left) × AddsUp w left)

-- "Let a compiled machine be fed any list of pieces from a fresh session. Whenever the session is then open ...": feeds that are refused, and
-- finishes that are, may be among the calls.
unfoldable pub NothingHeld : SessionCaller → Type 0
NothingHeld caller =
    (t : Table) (w : List ℕ) → Compiled t w →
    EveryList (caller w) fresh (λ cs outcomes.
    let v = seen fresh outcomes in
    Each (λ c. Characters (piece c)) cs → v.session.status ≡ Open → HeldOfNeed t (accepted_pieces cs v.answers) v.session)

pub record Serves (caller : SessionCaller) : Type 0 where
  pub demand_3 : Demand3 caller
  pub uses_add_up : UsesAddUp caller
  pub nothing_held : NothingHeld caller
