-- What the contracts of the C functions say: of arguments as found, the answer and all that is left. The code's contracts and the claims about
-- them have these names for it; `Witnessed` (Witness) and the contract of typed text (Typed) stand with their requests.
use Rattle.std.specs.Prelude.{List, ◌≡◌, ℕ}
use Rattle.meaning.specs.Direct.{checked, direct}
use Rattle.automaton.specs.Compile.{compile}
use Rattle.automaton.specs.Sound.{sound}
use Rattle.cobbletwill.specs.Face.{check_code, code_of, place_of, written_of, sound_code}
use Rattle.cobbletwill.specs.Sessions.{CalledFace, feed, finish, PreviewedFace, preview}
use Rattle.cobbletwill.specs.Chains as Chain
use Rattle.cobbletwill.specs.Chains.{ChainFace}
use Rattle.cobbletwill.specs.declared.sessions.SessionNumbers.{SessionNumbers}

-- the table check: table; answer
abbrev pub Checks : List ℕ → ℕ → Type 0
Checks table answer = answer ≡ check_code (checked table)

-- direct conversion: table, input, buffer, and place and number written as found; the answer, and all but the first two as left
pub record Converts (table input buffer : List ℕ) (place written answer : ℕ) (output : List ℕ) (reached count : ℕ) : Type 0 where
  pub code : answer ≡ code_of (direct table input buffer).answer
  pub text : output ≡ (direct table input buffer).output
  pub ended : reached ≡ place_of (direct table input buffer).answer place
  pub counted : count ≡ written_of (direct table input buffer).answer written

-- compiling: table and words as found; the answer, and the words as left
pub record Compiles (table buffer : List ℕ) (answer : ℕ) (words : List ℕ) : Type 0 where
  pub code : answer ≡ check_code (compile table buffer).answer
  pub left : words ≡ (compile table buffer).words

-- the test of words: words; answer
abbrev pub TestsWords : List ℕ → ℕ → Type 0
TestsWords words answer = answer ≡ sound_code (sound words)

-- feed: words, session in its two parts, piece, output buffer and number written as found; what it came to
abbrev pub Feeds : List ℕ → SessionNumbers → List ℕ → List ℕ → List ℕ → ℕ → CalledFace → Type 0
Feeds w n uses piece buffer found back = back ≡ feed w n uses piece buffer found

-- finish, likewise
abbrev pub Finishes : List ℕ → SessionNumbers → List ℕ → List ℕ → ℕ → CalledFace → Type 0
Finishes w n uses buffer found back = back ≡ finish w n uses buffer found

-- preview: words, session in its two parts and piece; the later session in its two parts and the number written as found; what it came to
abbrev pub Previews : List ℕ → SessionNumbers → List ℕ → List ℕ → SessionNumbers → List ℕ → ℕ → PreviewedFace → Type 0
Previews w n uses piece later later_uses found back = back ≡ preview w n uses piece later later_uses found

-- feed of a chain: words and session in its two parts of the first, then of the second, piece, middle buffer, output buffer, number written and
-- first's status as found; what it came to
abbrev pub ChainFeeds : List ℕ → SessionNumbers → List ℕ → List ℕ → SessionNumbers → List ℕ → List ℕ → List ℕ → List ℕ → ℕ → ℕ → ChainFace → Type 0
ChainFeeds w₁ n₁ uses₁ w₂ n₂ uses₂ piece middle buffer written status₁ back =
    back ≡ Chain.feed w₁ n₁ uses₁ w₂ n₂ uses₂ piece middle buffer written status₁

-- finish of a chain, likewise
abbrev pub ChainFinishes : List ℕ → SessionNumbers → List ℕ → List ℕ → SessionNumbers → List ℕ → List ℕ → List ℕ → ℕ → ℕ → ChainFace → Type 0
ChainFinishes w₁ n₁ uses₁ w₂ n₂ uses₂ middle buffer written status₁ back =
    back ≡ Chain.finish w₁ n₁ uses₁ w₂ n₂ uses₂ middle buffer written status₁
