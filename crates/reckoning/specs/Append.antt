-- A feed in two parts does what one feed of the whole does, under any sound words and from any sound session: what a preview of a part is
-- worth (request [5]), and what any cutting of an input into pieces comes to.
use Rattle.std.specs.Prelude.{List, ◌++◌, ◌≡◌, ℕ, ◌+◌, ◌*◌, ◌≤◌, length, take}
use Rattle.meaning.specs.Refusal.{accepted}
use Rattle.automaton.specs.Sound.{expansion_word}
use Rattle.reckoning.specs.Machine.{Open, Stopped}
use Rattle.reckoning.specs.Session.{Session}
use Rattle.reckoning.specs.Calls.{Answer, CallOutcome, feed, finish}

-- the characters that an accepted call wrote
abbrev pub wrote : Answer → CallOutcome → List ℕ
wrote a o = take a.count o.output

-- the calls that came to o₁ and then o₂ did what the one did that came to o
pub record Together (a₁ a₂ a : Answer) (o₁ o₂ o : CallOutcome) : Type 0 where
  pub text : wrote a₁ o₁ ++ wrote a₂ o₂ ≡ wrote a o
  pub count : a₁.count + a₂.count ≡ a.count
  pub status : a₂.status ≡ a.status
  -- with its state, held characters, counts, steps and uses
  pub session : o₂.session ≡ o.session

-- p, then q: as p ++ q, where all are accepted (which only sound words and sessions are), of a session of eight places
unfoldable pub FeedsJoin : Type 0
FeedsJoin =
    (w : List ℕ) (s : Session) → length s.held ≡ 8 → (p q b₁ b₂ b : List ℕ) (a₁ a₂ a : Answer) →
    (let o₁ = feed w s p b₁ in let o₂ = feed w o₁.session q b₂ in let o = feed w s (p ++ q) b in
    o₁.answer ≡ accepted a₁ → o₂.answer ≡ accepted a₂ → o.answer ≡ accepted a → Together a₁ a₂ a o₁ o₂ o)

-- where p ++ q is accepted, so is p with enough output, and then q with enough output, unless p stopped the session
unfoldable pub PartsAccepted : Type 0
PartsAccepted =
    (w : List ℕ) (s : Session) → length s.held ≡ 8 → (p q b : List ℕ) (a : Answer) → (feed w s (p ++ q) b).answer ≡ accepted a →
    (b₁ : List ℕ) → expansion_word w * (s.count + length p) ≤ length b₁ →
    (let o₁ = feed w s p b₁ in
    (a₁ : Answer) × (o₁.answer ≡ accepted a₁) × (a₁.status ≡ Open → (b₂ : List ℕ) →
    expansion_word w * (o₁.session.count + length q) ≤ length b₂ → (a₂ : Answer) × ((feed w o₁.session q b₂).answer ≡ accepted a₂)))

-- p, where it stops the session: as p ++ q
unfoldable pub StopsJoin : Type 0
StopsJoin =
    (w : List ℕ) (s : Session) → length s.held ≡ 8 → (p q b₁ b : List ℕ) (a₁ a : Answer) →
    (let o₁ = feed w s p b₁ in let o = feed w s (p ++ q) b in
    o₁.answer ≡ accepted a₁ → a₁.status ≡ Stopped → o.answer ≡ accepted a →
    (wrote a₁ o₁ ≡ wrote a o) × (a₁ ≡ a) × (o₁.session ≡ o.session))

-- p, q, then a finish: as p ++ q, then a finish, all of whose answer and effect are the same
unfoldable pub FinishJoins : Type 0
FinishJoins =
    (w : List ℕ) (s : Session) → length s.held ≡ 8 → (p q b₁ b₂ b c : List ℕ) (a₁ a₂ a : Answer) →
    (let o₁ = feed w s p b₁ in let o₂ = feed w o₁.session q b₂ in let o = feed w s (p ++ q) b in
    o₁.answer ≡ accepted a₁ → o₂.answer ≡ accepted a₂ → o.answer ≡ accepted a → finish w o₂.session c ≡ finish w o.session c)
