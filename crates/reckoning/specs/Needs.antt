-- Request [9] of document 02, "Nothing held without need", of an open session and the input that it was fed, one field a sentence.
use Rattle.std.specs.Prelude.{List, ◌≡◌, ℕ, ◌<◌, length, drop}
use Rattle.meaning.specs.Table.{Table}
use Rattle.meaning.specs.Choices.{Undecided, Decided}
use Rattle.reckoning.specs.Session.{Session, consumed, store}

pub record HeldOfNeed (t : Table) (u : List ℕ) (s : Session) : Type 0 where
  -- "the place of the first held character" is the consumed total: the characters held are those of the input from there on
  pub place : drop (consumed s) u ≡ store s
  -- "Whenever the session is then open and holds characters, there are two ways for the input to go on, ending there included, under which the
  -- definition makes different choices at the place of the first held character."
  pub undecided : 0 < s.count → Undecided t u (consumed s)
  -- And the contrary, so that the first held character is held exactly while its choice is open: what is chosen at each place before is decided,
  pub decided : (p : ℕ) → p < consumed s → Decided t u p
  -- and with nothing held that is the whole input.
  pub none_held : s.count ≡ 0 → consumed s ≡ length u
