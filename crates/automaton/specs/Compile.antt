-- Compiling: what it answers and leaves.
use Rattle.std.specs.Prelude.{cond, List, [], ◌∷◌, ◌++◌, ℕ, eqb, ltb, length, drop}
use Rattle.lists.specs.Lists.{pad}
use Rattle.lists.specs.Decide.{select}
use Rattle.meaning.specs.Refusal.{Outcome, refused, accepted, and_then}
use Rattle.meaning.specs.Table.{Table}
use Rattle.meaning.specs.Reader.{read_table}
use Rattle.automaton.specs.Classes.{starts}
use Rattle.automaton.specs.States.{states}
use Rattle.automaton.specs.Layout.{word_count, words}

pub record CompileOutcome : Type 0 where
  pub answer : Outcome (Unit {0})
  pub words : List ℕ

-- "8 a 65th class; 9 a 257th state"
unfoldable pub small : Table → Outcome Table
small t = select ((ltb 64 (length (starts t)), refused 8) ∷ (ltb 256 (length (states t)), refused 9) ∷ []) (accepted t)

-- "compiling 10, then 1, then records ..; at the table's end 4, 5, 7, 8, 9": the table, or the refusal
unfoldable pub compilable : List ℕ → ℕ → Outcome Table
compilable b room = select ((ltb room word_count, refused 10) ∷ []) (and_then (read_table b) small)

-- "Compiling refused by 1 to 9 leaves its 19,961 words zero; every other refusal changes nothing. Words beyond those written stay as found."
abbrev pub compile_by : Outcome Table → List ℕ → CompileOutcome
compile_by (refused n) buffer = record { answer = refused n; words = cond (eqb n 10) buffer (pad word_count [] ++ drop word_count buffer) }
compile_by (accepted t) buffer = record { answer = accepted tt; words = words t ++ drop word_count buffer }

-- table, words as found
unfoldable pub compile : List ℕ → List ℕ → CompileOutcome
compile b buffer = compile_by (compilable b (length buffer)) buffer
