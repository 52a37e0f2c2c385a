-- What a piece of standard input came to: a read, the turn on its bytes, and a write.
use Rattle.std.specs.Prelude.{List, ◌≡◌, ℕ, ◌≤◌, length}
use Rattle.session.specs.Keeping.{session_of}
use Rattle.session.specs.declared.kept.Session.{Session}
use Rattle.program.specs.declared.feeding.Ending.{Ending}
use Rattle.program.specs.Turns.{TurnOn}

-- these bytes were read, and the text of the turn on them was handed to a write
pub record Taken (w : List ℕ) (s : Session) (p : Ending) : Type 0 where
  pub bytes : List ℕ
  pub reads : p.read ≡ length bytes
  pub text : List ℕ
  pub hands : p.handed ≡ length text
  pub few : p.handed ≤ 655744
  pub turn : TurnOn w (session_of s) bytes (session_of p.session) p.going text
