-- Request [10] of document 02, "Two tables in a row": what holds of every list of a chain's calls, whoever makes it, one field a claim.
use Rattle.std.specs.Prelude.{Bool, true, false, ◌&&◌, ◌||◌, not, List, [], ◌∷◌, ◌++◌, map, ◌≢◌, ◌↔◌, ◌≡◌, ℕ, ◌+◌, ◌*◌, ◌≤◌, T, length, take}
use Rattle.lists.specs.Lists.{Each}
use Rattle.meaning.specs.Refusal.{Outcome, refused, accepted}
use Rattle.meaning.specs.Table.{Characters, Table, expansion}
use Rattle.meaning.specs.Meaning.{convert, meaning_text}
use Rattle.meaning.specs.Direct.{limit}
use Rattle.automaton.specs.Sound.{sound}
use Rattle.automaton.specs.Claims.{Compiled}
use Rattle.reckoning.specs.InTurn.{Caller, EveryList, EveryNext}
use Rattle.reckoning.specs.Machine.{Open, Closed, Stopped, Ended}
use Rattle.reckoning.specs.Session.{Session, fresh, is_open}
use Rattle.reckoning.specs.Reckoning.{piece, accepted_pieces, accepted_end, ran, ran_text, session_by}
use Rattle.reckoning.specs.Claims.{is_stopped}
use Rattle.reckoning.specs.Chain.{ChainCall, ChainAnswer, ChainOutcome, is_closed}

-- A caller of the chain, who lends each call the words of both machines.
abbrev pub ChainCaller : Type 1
ChainCaller = List ℕ → List ℕ → Caller (Session × Session) ChainCall ChainOutcome

-- each call's answer, the joined outputs, and the sessions at the end
pub record ChainServed : Type 0 where
  pub answers : List (Outcome ChainAnswer)
  pub output : List ℕ
  pub first : Session
  pub second : Session

abbrev pub chain_output : Outcome ChainAnswer → List ℕ → List ℕ
chain_output (refused n) buffer = []
chain_output (accepted a) buffer = take a.count buffer

-- of calls that a caller made from the sessions s₁ and s₂, and saw to have these outcomes
abbrev pub chain_seen : Session → Session → List ChainOutcome → ChainServed
chain_seen s₁ s₂ [] = record { answers = []; output = []; first = s₁; second = s₂ }
chain_seen s₁ s₂ (o ∷ os) =
    let rest = chain_seen o.first o.second os in
    record {
      answers = o.answer ∷ rest.answers;
      output = chain_output o.answer o.output ++ rest.output;
      first = rest.first;
      second = rest.second;
    }

-- the accepted pieces joined, and whether a finish was accepted
abbrev pub chain_pieces : List ChainCall → List (Outcome ChainAnswer) → List ℕ
chain_pieces cs answers = accepted_pieces (map (λ c. c.call) cs) answers

abbrev pub chain_ended : List ChainCall → List (Outcome ChainAnswer) → Bool
chain_ended cs answers = accepted_end (map (λ c. c.call) cs) answers

-- What a list of calls left, for the tables t₁ and t₂, where u are the accepted pieces joined, and e says whether a finish was accepted.
-- r₁ is the first plain machine's run over them, r₂ the second's over what the first wrote.
pub record ChainAgrees (t₁ t₂ : Table) (u : List ℕ) (e : Bool) (v : ChainServed) (r₁ r₂ : Ended) : Type 0 where
  -- the output is the second's, and each session is as its plain machine's run leaves it
  pub output : v.output ≡ ran_text t₂ r₂
  pub first : v.first ≡ session_by t₁ r₁ (length u)
  pub second : v.second ≡ session_by t₂ r₂ (length (ran_text t₁ r₁))
  -- "once a finish is accepted or the second stops, the output is the second definition applied to the first one's text of the accepted
  -- pieces, where the first definition closes on them"
  pub text : T (e || is_stopped v.second.status) → (convert t₁ u).closed ≡ true → v.output ≡ meaning_text t₂ (meaning_text t₁ u)
  -- "Finish closes the first, then the second.": each where its definition closes
  pub first_closes : e ≡ true → (v.first.status ≡ Closed) ↔ ((convert t₁ u).closed ≡ true)
  pub closed : e ≡ true → (convert t₁ u).closed ≡ true → (v.second.status ≡ Closed) ↔ ((convert t₂ (meaning_text t₁ u)).closed ≡ true)
  -- "A stop of the second ends the chain as such": the output is then the same, whether the first definition closes or not
  pub second_stops : v.second.status ≡ Stopped → v.output ≡ meaning_text t₂ (meaning_text t₁ u)
  -- and where a feed stopped it, of every input that begins with this one
  pub stopped : e ≡ false → v.second.status ≡ Stopped → (more : List ℕ) → Characters more →
      v.output ≡ meaning_text t₂ (meaning_text t₁ (u ++ more))
  -- "Otherwise a stop of the first ends it, the second isn't finished, and the output is what feeding the second that text gives."
  pub first_stops : v.second.status ≢ Stopped → v.first.status ≡ Stopped →
      (v.second.status ≡ Open) × (v.output ≡ ran_text t₂ (ran t₂ (meaning_text t₁ u) false))

-- the same, where the runs are the plain machines' own
abbrev pub ChainAgreed : Table → Table → List ChainCall → ChainServed → Type 0
ChainAgreed t₁ t₂ cs v =
    let u = chain_pieces cs v.answers in
    let e = chain_ended cs v.answers in
    let r₁ = ran t₁ u e in
    ChainAgrees t₁ t₂ u e v r₁ (ran t₂ (ran_text t₁ r₁) (e && is_closed r₁.status))

-- "From fresh sessions", for every list of calls of two compiled machines, refused ones included.
unfoldable pub ChainsAgree : ChainCaller → Type 0
ChainsAgree caller =
    (t₁ t₂ : Table) (w₁ w₂ : List ℕ) → Compiled t₁ w₁ → Compiled t₂ w₂ →
    EveryList (caller w₁ w₂) (fresh, fresh) (λ cs outcomes.
    Each (λ c. Characters (piece c.call)) cs → ChainAgreed t₁ t₂ cs (chain_seen fresh fresh outcomes))

-- "Refusal 14 doesn't occur while n, the characters in all, and the first's E times n are within its limit.": the accepted characters so
-- far and those of the next call's piece
unfoldable pub ChainLimited : ChainCaller → Type 0
ChainLimited caller =
    (t₁ t₂ : Table) (w₁ w₂ : List ℕ) → Compiled t₁ w₁ → Compiled t₂ w₂ →
    EveryNext (caller w₁ w₂) (fresh, fresh) (λ cs outcomes c o.
    let n = length (chain_pieces cs (chain_seen fresh fresh outcomes).answers) + length (piece c.call) in
    n ≤ limit → expansion t₁ * n ≤ limit → o.answer ≢ refused 14)

-- "A stop of the second ends the chain as such. Otherwise a stop of the first ends it": then the next call is refused by 13. So it is once
-- a finish was accepted, whatever it answered; the words are any sound ones.
unfoldable pub ChainEnds : ChainCaller → Type 0
ChainEnds caller =
    (w₁ w₂ : List ℕ) → T (sound w₁) → T (sound w₂) →
    EveryNext (caller w₁ w₂) (fresh, fresh) (λ cs outcomes c o.
    let v = chain_seen fresh fresh outcomes in
    T (chain_ended cs v.answers || not (is_open v.first.status && is_open v.second.status)) → o.answer ≡ refused 13)

pub record ChainServes (caller : ChainCaller) : Type 0 where
  pub agree : ChainsAgree caller
  pub limited : ChainLimited caller
  pub ends : ChainEnds caller
