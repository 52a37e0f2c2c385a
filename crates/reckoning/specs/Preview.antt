-- Request [5] of document 02, "Look before the modem wakes": what a preview answers, and what holds of it, one field a sentence.
use Rattle.std.specs.Prelude.{List, [], ◌∷◌, ◌≢◌, ◌↔◌, ◌≡◌, ℕ, ◌+◌, ◌*◌, ◌≤◌, length}
use Rattle.lists.specs.Lists.{pad}
use Rattle.meaning.specs.Refusal.{Outcome, refused, accepted, RefusedBy}
use Rattle.automaton.specs.Sound.{expansion_word}
use Rattle.reckoning.specs.Machine.{Status}
use Rattle.reckoning.specs.Session.{Session}
use Rattle.reckoning.specs.Calls.{Answer, feed}

-- "the output count, status and later session"
pub record Seen : Type 0 where
  pub count : ℕ
  pub status : Status
  pub session : Session

-- of an answer, and of the session that the call leaves
abbrev pub seen_by : Outcome Answer → Session → Outcome Seen
seen_by (refused n) s = refused n
seen_by (accepted a) s = accepted (record { count = a.count; status = a.status; session = s })

-- "enough output": E times the characters held and those of the piece
abbrev pub enough : List ℕ → Session → List ℕ → ℕ
enough w s p = expansion_word w * (s.count + length p)

-- "A preview takes machine, session and piece. It answers the output count, status and later session of a feed made on a copy with enough
-- output." Words, session, piece.
unfoldable pub preview : List ℕ → Session → List ℕ → Outcome Seen
preview w s p = let o = feed w s p (pad (enough w s p) []) in seen_by o.answer o.session

-- of every words, session and piece, and whatever the output buffer of a feed
pub record Foretells (w : List ℕ) (s : Session) (p : List ℕ) : Type 0 where
  -- "of a feed made on a copy with enough output": of every such feed
  pub feeds : (buffer : List ℕ) → enough w s p ≤ length buffer → preview w s p ≡ seen_by (feed w s p buffer).answer (feed w s p buffer).session
  -- so also of every feed that is accepted
  pub accepts : (buffer : List ℕ) (a : Answer) → (feed w s p buffer).answer ≡ accepted a →
      preview w s p ≡ accepted (record { count = a.count; status = a.status; session = (feed w s p buffer).session })
  -- "It is refused as feed is, except that refusal 15 can't occur."
  pub refuses : (buffer : List ℕ) (n : ℕ) → n ≢ 15 → (preview w s p ≡ refused n) ↔ ((feed w s p buffer).answer ≡ refused n)
  pub numbered : RefusedBy (11 ∷ 12 ∷ 13 ∷ 14 ∷ []) (preview w s p)

unfoldable pub LooksAhead : Type 0
LooksAhead = (w : List ℕ) (s : Session) (p : List ℕ) → Foretells w s p
