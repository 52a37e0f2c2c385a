-- What states are, and demands 1 and 2 for compiling, one field a sentence.
use Rattle.std.specs.Prelude.{Bool, ◌&&◌, List, [], ◌∷◌, ◌++◌, ◌≡◌, ◌≢◌, ◌↔◌, ℕ, ◌≤◌, ◌<◌, T, leb, length, get_or, take, drop}
use Rattle.lists.specs.Lists.{filter, up_to, pad}
use Rattle.meaning.specs.Refusal.{refused, accepted, RefusedBy}
use Rattle.meaning.specs.Table.{Characters, Group, Table, rule_at}
use Rattle.meaning.specs.Value.{fits_word}
use Rattle.meaning.specs.Reader.{read_table}
use Rattle.meaning.specs.Records.{Bytes}
use Rattle.meaning.specs.Claims.{Keeps}
use Rattle.automaton.specs.Classes.{starts}
use Rattle.automaton.specs.States.{State, initial, accept_of, inhabited, states}
use Rattle.automaton.specs.Layout.{word_count, words}
use Rattle.automaton.specs.Compile.{compile}
use Rattle.automaton.specs.Sound.{sound}
use Rattle.automaton.specs.Automaton.{after, Leads, from_table}

-- "rules with K at least d that fit some word of length d in their first d positions"
abbrev pub fits_first : Group → List ℕ → Bool
fits_first g w = leb (length w) g.size && fits_word (take (length w) g.ranges) w

-- the state of a word: its length d, and "all the rules that do so for that word"
abbrev pub word_state : Table → List ℕ → State
word_state t w = record { depth = length w; members = filter (λ r. fits_first (rule_at t r) w) (up_to (length t.rules)) }

-- Of every well formed table: "A state is a pair: depth d, and the set of rules with K at least d that fit some word of length d in their
-- first d positions and are all the rules that do so for that word."
pub record StatesOfWords (t : Table) : Type 0 where
  -- each state is that of some word
  pub some_word : (q : ℕ) → q < length (states t) → (w : List ℕ) × Characters w × (get_or (states t) q (initial t) ≡ word_state t w)
  -- a word that leads on from state 0 leads to its state
  pub after_word : (w : List ℕ) → Characters w → Leads (from_table t) 0 w → get_or (states t) (after (from_table t) 0 w) (initial t) ≡ word_state t w
  -- it leads on by a character exactly where the state has no go and some rule fits the longer word: "A state with a go has no successors",
  -- "with non-empty sets"
  pub leads_on : (w : List ℕ) (x : ℕ) → Characters (w ++ (x ∷ [])) → Leads (from_table t) 0 w →
      ((from_table t).target (after (from_table t) 0 w) x ≢ 0) ↔ ((accept_of t (word_state t w) ≡ 0) × T (inhabited (word_state t (w ++ (x ∷ [])))))

-- "keeps the rules set there for that use": at most 64 classes and 256 states
pub record KeepsCompiling (b : List ℕ) (t : Table) : Type 0 where
  pub keeps : Keeps b t
  pub classes : length (starts t) ≤ 64
  pub states : length (states t) ≤ 256

-- The words w are as compiling leaves them, for a table that keeps the rules for it and means t.
pub record Compiled (t : Table) (w : List ℕ) : Type 0 where
  pub table : List ℕ
  pub buffer : List ℕ
  pub keeps : KeepsCompiling table t
  pub room : word_count ≤ length buffer
  pub left : w ≡ (compile table buffer).words

-- Demand 1: "Compiling refused by 1 to 9 leaves its 19,961 words zero; every other refusal changes nothing. Words beyond those written stay
-- as found."
pub record CompileAnswers (b buffer : List ℕ) : Type 0 where
  pub numbered : RefusedBy (10 ∷ 1 ∷ 2 ∷ 3 ∷ 4 ∷ 5 ∷ 6 ∷ 7 ∷ 8 ∷ 9 ∷ []) (compile b buffer).answer
  pub zeros : (n : ℕ) → (compile b buffer).answer ≡ refused n → n ≢ 10 → (compile b buffer).words ≡ pad word_count [] ++ drop word_count buffer
  pub unchanged : (compile b buffer).answer ≡ refused 10 → (compile b buffer).words ≡ buffer
  pub beyond : drop word_count (compile b buffer).words ≡ drop word_count buffer

-- Demand 2: "Buffers ... being of the lengths document 01 asks, a table is accepted, for compiling ..., exactly when it keeps the rules set
-- there for that use."
pub record CompileAccepts (b buffer : List ℕ) : Type 0 where
  pub keeping : (t : Table) → KeepsCompiling b t → word_count ≤ length buffer →
      ((compile b buffer).answer ≡ accepted tt) × ((compile b buffer).words ≡ words t ++ drop word_count buffer)
  pub accepting : Bytes b → (compile b buffer).answer ≡ accepted tt → (t : Table) × KeepsCompiling b t × (word_count ≤ length buffer)

-- 1 to 7 are the table check's; 8 to 10 speak of classes, states and room
pub record CompileRefuses (b buffer : List ℕ) : Type 0 where
  pub table : (n : ℕ) → (compile b buffer).answer ≡ refused n → n ≤ 7 → read_table b ≡ refused n
  pub classes : Bytes b → (compile b buffer).answer ≡ refused 8 → (t : Table) × Keeps b t × (64 < length (starts t))
  pub states : Bytes b → (compile b buffer).answer ≡ refused 9 → (t : Table) × Keeps b t × (length (starts t) ≤ 64) × (256 < length (states t))
  pub room : (compile b buffer).answer ≡ refused 10 → length buffer < word_count

-- "Compiled words are sound": those that compiling leaves for a table that it accepts, with whatever stood behind them.
unfoldable pub CompiledSound : Type 0
CompiledSound = (t : Table) (w : List ℕ) → Compiled t w → T (sound w)
