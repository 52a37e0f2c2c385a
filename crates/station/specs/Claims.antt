-- What a conversion in two pieces comes to by demand 3: what it wrote and left is the plain machine's on the pieces joined, and in the end Definition 7's.
use Rattle.std.specs.Prelude.{true, false, List, [], ◌∷◌, ◌++◌, ◌↔◌, ◌≡◌, ℕ, ◌+◌, ◌*◌, ◌≤◌, length, take, drop}
use Rattle.meaning.specs.Refusal.{accepted}
use Rattle.meaning.specs.Table.{Characters, Table, expansion}
use Rattle.meaning.specs.Meaning.{convert, meaning_text, meaning_place}
use Rattle.meaning.specs.Direct.{limit}
use Rattle.automaton.specs.Layout.{word_count}
use Rattle.automaton.specs.Compile.{compile}
use Rattle.automaton.specs.Claims.{KeepsCompiling}
use Rattle.reckoning.specs.Machine.{Closed, Stopped}
use Rattle.reckoning.specs.Session.{fresh, consumed}
use Rattle.reckoning.specs.Reckoning.{Call, of_feed, of_finish, Served, unserved, serve, no_input, ran, reckon}
use Rattle.reckoning.specs.Claims.{Agrees}
use Rattle.station.specs.Two.{Turn, feed_on, in_two}

-- the rest of the output
abbrev pub rest_from : Turn × List ℕ → List ℕ
rest_from v = drop v.0.written v.1

-- where the first feed led, and the second
abbrev pub after_first : List ℕ → List ℕ → List ℕ → Turn × List ℕ
after_first w first buffer = feed_on w first fresh 0 buffer

abbrev pub after_second : List ℕ → List ℕ → List ℕ → List ℕ → Turn × List ℕ
after_second w first second buffer =
    let v = after_first w first buffer in
    feed_on w second v.0.session v.0.written v.1

-- the calls that are made, each lent the rest of the output
unfoldable pub calls_of : List ℕ → List ℕ → List ℕ → List ℕ → List Call
calls_of w first second buffer =
    of_feed first buffer ∷ of_feed second (rest_from (after_first w first buffer)) ∷ of_finish (rest_from (after_second w first second buffer)) ∷ []

-- what the caller has in the end: the characters written, and the session
abbrev pub seen_by : List ℕ → List Call → Turn × List ℕ → Served
seen_by w cs v = record { answers = (serve w cs unserved).answers; output = take v.0.written v.1; session = v.0.session }

-- Where the table keeps the rules for compiling and nothing was refused, demand 3 holds of what the function wrote and left.
unfoldable pub InTwo : Type 0
InTwo =
    (table first second buffer output : List ℕ) (t : Table) → KeepsCompiling table t → word_count ≤ length buffer → Characters first → Characters second →
    (in_two table first second buffer output).0.answer ≡ accepted tt →
    let w = (compile table buffer).words in
    let cs = calls_of w first second output in
    let i = reckon t cs no_input in
    Agrees t cs (seen_by w cs (in_two table first second buffer output)) i (ran t i.characters i.ended)

-- Definition 7 of an input, in what a conversion wrote and left
pub record Converts (t : Table) (input : List ℕ) (v : Turn × List ℕ) : Type 0 where
  -- the characters written are the definition's text
  pub text : take v.0.written v.1 ≡ meaning_text t input
  -- the session is closed exactly when the definition reaches the input's end
  pub closed : (v.0.session.status ≡ Closed) ↔ ((convert t input).closed ≡ true)
  -- and otherwise stopped
  pub stopped : (convert t input).closed ≡ false → v.0.session.status ≡ Stopped
  -- consumed is the definition's place
  pub place : consumed v.0.session ≡ meaning_place t input

-- Where the table keeps the rules for compiling and nothing was refused, the two pieces joined are converted as Definition 7 says.
unfoldable pub TextInTwo : Type 0
TextInTwo =
    (table first second buffer output : List ℕ) (t : Table) → KeepsCompiling table t → word_count ≤ length buffer → Characters first → Characters second →
    (in_two table first second buffer output).0.answer ≡ accepted tt →
    Converts t (first ++ second) (in_two table first second buffer output)

-- Nothing is refused where the table keeps the rules and the lengths are those that 14 and 15 ask of the pieces joined.
unfoldable pub Passes : Type 0
Passes =
    (table first second buffer output : List ℕ) (t : Table) → KeepsCompiling table t → word_count ≤ length buffer →
    length first + length second ≤ limit → expansion t * (length first + length second) ≤ length output →
    (in_two table first second buffer output).0.answer ≡ accepted tt
