-- "Feed and finish 11 to 15": rows as those of the table check, for calls of T2's machine, for a preview, which "is refused as feed is", and for a
-- chain of two such machines (request [10]).
use Rattle.std.specs.Prelude.{Bool, List, [], ◌∷◌, ℕ}
use Rattle.lists.specs.Lists.{pad}
use Rattle.meaning.specs.Refusal.{Outcome}
use Rattle.meaning.specs.Direct.{limit}
use Rattle.meaning.specs.Samples.{t2}
use Rattle.meaning.specs.Answered.{before}
use Rattle.automaton.specs.Layout.{word_count}
use Rattle.automaton.specs.Compile.{compile}
use Rattle.reckoning.specs.Machine.{Status, Open, Closed}
use Rattle.reckoning.specs.Uses.{use_counts}
use Rattle.reckoning.specs.Session.{Session}
use Rattle.reckoning.specs.Calls.{Answer, feed, finish}
use Rattle.reckoning.specs.Reckoning.{of_feed, of_finish}
use Rattle.reckoning.specs.Chain.{ChainAnswer, chained}
use Rattle.reckoning.specs.Preview.{Seen, preview}

abbrev words : List ℕ
words = (compile t2 (pad word_count [])).words

-- so many characters were received, those consumed used by rule 0, and so many are held; with one held and none received it is not sound
abbrev left : Status → ℕ → ℕ → Session
left status received count =
    record {
      status = status;
      state = 0;
      held = pad 8 [];
      count = count;
      received = received;
      produced = 0;
      steps = 0;
      uses = pad use_counts (received ∷ []);
    }

-- one character, and no room for the one that T2 may write for it
abbrev fed : List ℕ → Session → Outcome Answer
fed w s = (feed w s (0 ∷ []) []).answer

abbrev finished : List ℕ → Session → Outcome Answer
finished w s = (finish w s []).answer

abbrev previewed : List ℕ → Session → Outcome Seen
previewed w s = preview w s (0 ∷ [])

unfoldable pub call_order : List Bool
call_order =
    -- no words, and a session not sound
    before 11 12 (fed [] (left Open 0 1)) (fed words (left Open 0 1))
    -- not sound, and closed
    ∷ before 12 13 (fed words (left Closed 0 1)) (fed words (left Closed 0 0))
    -- closed, and a character too many
    ∷ before 13 14 (fed words (left Closed limit 0)) (fed words (left Open limit 0))
    -- a character too many, and no room
    ∷ before 14 15 (fed words (left Open limit 0)) (fed words (left Open 0 0))
    -- At a finish 13 to 15 do not meet: a sound session has received no more than the limit, and one that is closed or stopped holds nothing.
    ∷ before 11 12 (finished [] (left Open 0 1)) (finished words (left Open 0 1))
    ∷ before 12 13 (finished words (left Closed 0 1)) (finished words (left Closed 0 0))
    ∷ before 11 12 (previewed [] (left Open 0 1)) (previewed words (left Open 0 1))
    ∷ before 12 13 (previewed words (left Closed 0 1)) (previewed words (left Closed 0 0))
    ∷ before 13 14 (previewed words (left Closed limit 0)) (previewed words (left Open limit 0))
    ∷ []

-- a feed of one character through a chain, whose first may write one for it, and so may the second; there is no room in the output, and so much in
-- the middle buffer
abbrev chain_fed : List ℕ → List ℕ → Session → Session → ℕ → Outcome ChainAnswer
chain_fed w₁ w₂ s₁ s₂ middle = (chained w₁ w₂ s₁ s₂ (record { call = of_feed (0 ∷ []) []; middle = pad middle [] })).answer

abbrev chain_finished : List ℕ → List ℕ → Session → Session → Outcome ChainAnswer
chain_finished w₁ w₂ s₁ s₂ = (chained w₁ w₂ s₁ s₂ (record { call = of_finish []; middle = [] })).answer

-- "Each of 11 to 14 is tested for the first, then the second": each row has two faults that are tested one after the other; of 11 to 14, one of
-- each machine
unfoldable pub chain_order : List Bool
chain_order =
    -- no words of the second, and the first's session not sound
    before 11 12 (chain_fed words [] (left Open 0 1) (left Open 0 0) 0) (chain_fed words words (left Open 0 1) (left Open 0 0) 0)
    ∷ before 11 12 (chain_fed [] words (left Open 0 0) (left Open 0 1) 0) (chain_fed words words (left Open 0 0) (left Open 0 1) 0)
    -- the second's session not sound, and the first closed
    ∷ before 12 13 (chain_fed words words (left Closed 0 0) (left Open 0 1) 0) (chain_fed words words (left Closed 0 0) (left Open 0 0) 0)
    ∷ before 12 13 (chain_fed words words (left Open 0 1) (left Closed 0 0) 0) (chain_fed words words (left Open 0 0) (left Closed 0 0) 0)
    -- the second closed, and a character too many for the first
    ∷ before 13 14 (chain_fed words words (left Open limit 0) (left Closed 0 0) 0) (chain_fed words words (left Open limit 0) (left Open 0 0) 0)
    -- "Refusal 14 tests both sessions, the second with the least middle length as its piece"
    ∷ before 13 14 (chain_fed words words (left Closed 0 0) (left Open limit 0) 0) (chain_fed words words (left Open 0 0) (left Open limit 0) 0)
    -- "18: ...; tested after 14 and before 15"
    ∷ before 14 18 (chain_fed words words (left Open limit 0) (left Open 0 0) 0) (chain_fed words words (left Open 0 0) (left Open 0 0) 0)
    ∷ before 14 18 (chain_fed words words (left Open 0 0) (left Open limit 0) 0) (chain_fed words words (left Open 0 0) (left Open 0 0) 0)
    ∷ before 18 15 (chain_fed words words (left Open 0 0) (left Open 0 0) 0) (chain_fed words words (left Open 0 0) (left Open 0 0) 1)
    ∷ before 11 12 (chain_finished words [] (left Open 0 1) (left Open 0 0)) (chain_finished words words (left Open 0 1) (left Open 0 0))
    ∷ before 12 13 (chain_finished words words (left Closed 0 0) (left Open 0 1)) (chain_finished words words (left Closed 0 0) (left Open 0 0))
    ∷ []
