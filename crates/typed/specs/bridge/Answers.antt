-- What the answers of the code's readers say: a character, an element of a bracket, a symbol, and what was read into a state.
use Rattle.std.specs.Prelude.{Bool, true, false, cond, List, ◌≡◌, ℕ, ◌≤◌, eqb, length, drop}
use Rattle.std.specs.Prelude.{Option, None, Some, IfSome}
use Rattle.meaning.specs.Table.{Range}
use Rattle.meaning.specs.Refusal.{accepted}
use Rattle.meaning.specs.Direct.{over}
use Rattle.rules.specs.Answers.{outcome_of}
use Rattle.expression.specs.bridge.Text.{Read, refused, got, map_read, first, behind}
use Rattle.expression.specs.bridge.Answers.{Answers}
use Rattle.typed.specs.Grammar.{range}
use Rattle.typed.specs.declared.pattern.Between.{Between}
use Rattle.typed.specs.declared.sink.Records.{Records}
use Rattle.typed.specs.bridge.Reader.{several, item, ends_items}
use Rattle.typed.specs.bridge.Outcome.{text_records}
use Rattle.typed.specs.bridge.Stream.{State, feed_items}

-- what is answered by a place alone: refused, or a value and the rest of the text s from that place on
abbrev pub place_of : {A : Type 0} → List ℕ → A → Option ℕ → Read A
place_of s a None = refused
place_of s a (Some next) = got a (drop next s)

-- an answer at a place of the text s, the place behind what was read, is what a definition answers on the text from there
pub record Places {A : Type 0} (s : List ℕ) (at : ℕ) (a : A) (r : Option ℕ) (d : Read A) : Type 0 where
  pub placed : IfSome r (λ next. (at ≤ next) × (next ≤ length s))
  pub same : place_of s a r ≡ d

-- a value and the place behind it
abbrev pub Finds : {A : Type 0} → List ℕ → ℕ → Option (A × ℕ) → Read A → Type 0
Finds s at r d = Answers (λ a. a) s at d r

abbrev pub range_of : Between → Range
range_of b = range b.lowest b.highest

abbrev pub Bounds : List ℕ → ℕ → Option (Between × ℕ) → Read Range → Type 0
Bounds s at r d = Answers range_of s at d r

abbrev pub Marks : List ℕ → ℕ → Option ℕ → Read (Unit {0}) → Type 0
Marks s at r d = Places s at tt r d

-- what is kept by value, with the array and the buffer that are lent
abbrev pub state_of : Records → State
state_of k = record { fine = k.sink.fine; check = outcome_of k.sink.step; loaded = k.loaded.now; count = k.sink.count; buffer = k.buffer.now; lent = k.buffer.ghost_name }

-- the array and the buffer are still the same loans, and the buffer has its length
pub record SameLoans (k k' : Records) : Type 0 where
  pub array : k'.loaded.ghost_name ≡ k.loaded.ghost_name
  pub buffer : k'.buffer.ghost_name ≡ k.buffer.ghost_name
  pub size : length k'.buffer.now ≡ length k.buffer.now

-- what was read into a state, which is then held
abbrev pub Streams : List ℕ → ℕ → Option ℕ → Read State → Records → Type 0
Streams s at r d k = Places s at (state_of k) r d

-- the items of a pattern, fed from position 0, and their number
abbrev pub counting : State → List (List Range) → State × ℕ
counting st ps = (feed_items 0 ps st, length ps)

abbrev pub CountsItems : List ℕ → ℕ → State → Option (ℕ × ℕ) → Records → Type 0
CountsItems s at st r k = Answers (λ n. (state_of k, n)) s at (map_read (counting st) (several item ends_items 9 (drop at s))) r

-- the second pass over a text that is accepted leaves its records at the buffer's start, if they fit
abbrev pub Written : List ℕ → List ℕ → List ℕ → Type 0
Written text before after = (b : List ℕ) → text_records text ≡ accepted b → length b ≤ length before → after ≡ over b before

-- the end of a pattern of so many items, behind its anchor: whether it is anchored
unfoldable pub closing_of : ℕ → Bool → List ℕ → Read Bool
closing_of n anchored t = cond (eqb n 0) refused (cond (eqb (first t) 34) (got anchored (behind t)) refused)

unfoldable pub ending_of : ℕ → List ℕ → Read Bool
ending_of n t = cond (eqb (first t) 36) (closing_of n true (behind t)) (closing_of n false t)
