-- The tests that two open sessions meet, what a chain's refused call comes to, and a call that is lent the counts of uses with these counts.
use Rattle.std.specs.Prelude.{Bool, List, [], ◌∷◌, ℕ, ◌+◌, ◌*◌, ltb}
use Rattle.lists.specs.Decide.{select}
use Rattle.meaning.specs.Refusal.{Outcome, refused, accepted}
use Rattle.meaning.specs.Direct.{limit}
use Rattle.session.specs.Keeping.{together}
use Rattle.session.specs.declared.kept.Kept.{Kept}
use Rattle.session.specs.declared.kept.Session.{Session as Whole}
use Rattle.reckoning.specs.Session.{Session}
use Rattle.reckoning.specs.Chain.{ChainOutcome, chain_on}
use Rattle.chain.specs.declared.call.Went.{Went}

-- refusals 14, 18 and 15: the E of each, how many characters it has received and how many it holds; the piece's length, and those of the middle
-- and the output buffer
abbrev pub room_tests : ℕ → ℕ → ℕ → ℕ → ℕ → ℕ → ℕ → ℕ → ℕ → Outcome (Unit {0})
room_tests most₁ received₁ held₁ most₂ received₂ held₂ size middle room =
    let least = most₁ * (held₁ + size) in
    select (
    (ltb limit (received₁ + size), refused 14)
    ∷ (ltb limit (received₂ + least), refused 14)
    ∷ (ltb middle least, refused 18)
    ∷ (ltb room (most₂ * (held₂ + least)), refused 15)
    ∷ []) (accepted tt)

-- what a call comes to over a piece, which may be the input's last, by the answer of its tests
abbrev pub by_tests : List ℕ → List ℕ → Session → Session → Outcome (Unit {0}) → List ℕ → Bool → List ℕ → List ℕ → ChainOutcome
by_tests w₁ w₂ s₁ s₂ (refused n) piece ended middle output =
    record { answer = refused n; first = s₁; second = s₂; middle = middle; output = output }
by_tests w₁ w₂ s₁ s₂ (accepted u) piece ended middle output = chain_on w₁ w₂ s₁ s₂ piece ended middle output

-- what a call that is lent the counts of uses comes to, with the counts
abbrev pub joined : Went Kept → List ℕ → List ℕ → Went Whole
joined went uses₁ uses₂ = record { written = went.written; first = together went.first uses₁; second = together went.second uses₂ }
