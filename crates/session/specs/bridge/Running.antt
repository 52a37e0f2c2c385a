-- The run over machine words as it is kept on the way: where the store lies in the text, and what the machine does next.
use Rattle.std.specs.Prelude.{Bool, true, false, ◌&&◌, cond, List, [], ◌∷◌, ◌++◌, ◌≡◌, ◌≢◌, ℕ, suc, ◌+◌, ◌*◌, ◌-◌, ◌≤◌, ◌<◌, T, eqb, ltb, length, get_or, take, drop}
use Rattle.meaning.specs.Meaning.{Emission, text_of, covered}
use Rattle.meaning.specs.Table.{default_number, pair_number, is_first}
use Rattle.meaning.specs.Block.{at}
use Rattle.automaton.specs.Classes.{class_of}
use Rattle.automaton.specs.Sound.{sound, expansion_word, class_count, state_count, depth_word, accept_word, accept_at_end_word, target_word, used, block_at}
use Rattle.automaton.specs.Automaton.{from_words}
use Rattle.reckoning.specs.Machine.{Configuration, Step, Status, Open, Closed, halt, emit, read, roll_back, end, Fall, nowhere, taking, keeping, step, Ended, steps, run, start}
use Rattle.reckoning.specs.Session.{stands_at}
use Rattle.reckoning.specs.Uses.{use_counts, uses_after}
use Rattle.session.specs.Keeping.{meant_status}
use Rattle.session.specs.bridge.Counting.{bumped, Counted}
use Rattle.words.specs.declared.numbers.RuleNo.{RuleNo}
use Rattle.words.specs.declared.numbers.StateNo.{StateNo}
use Rattle.session.specs.declared.kept.Status.TheVariants as Code
use Rattle.session.specs.declared.run.Fall.{Fall as Falls}
use Rattle.session.specs.declared.run.Ran.{Ran}
use Rattle.session.specs.declared.run.Ahead.{Ahead}
use Rattle.std.specs.declared.ops.ControlFlow.{ControlFlow}
pub use Rattle.std.specs.declared.ops.ControlFlow.TheVariants.{Continue, Break}
use Rattle.session.specs.declared.text.Text.{Text}
use Rattle.automaton.specs.Layout.{classes_from}

-- what the machine does next: it writes a rule, reads into a state, rolls back, waits or closes
pub data Move : Type 0 where
  Emit : RuleNo → Move
  Read : StateNo → Move
  Back Wait Close : Move

-- the part of those given back if not empty, else of the piece
abbrev pub first_of : List ℕ → List ℕ → List ℕ
first_of [] piece = piece
first_of (x ∷ given) piece = x ∷ given

-- the text as one list
abbrev pub whole : Text → List ℕ
whole t = t.given.now ++ t.piece.now

-- its part from place n on as far as it lies in one of the two
abbrev pub unread : Text → ℕ → List ℕ
unread t n = first_of (drop n t.given.now) (drop (n - length t.given.now) t.piece.now)

-- a configuration where no default is due
abbrev pub standing : List ℕ → List ℕ → ℕ → List Emission → ℕ → Configuration
standing store unread q log n = record { store = store; unread = unread; state = q; due = false; log = log; steps = n }

-- the step that a move is
abbrev pub step_by : Move → Configuration → Step
step_by (Emit g) c = emit c g.0
step_by (Read q) c = read c q.0
step_by Back c = roll_back c
step_by Wait c = halt Open c
step_by Close c = end Closed c

-- a rule that is written takes as many characters as state q is deep, and a state that is read into lies one deeper
abbrev pub Fits : List ℕ → ℕ → Move → Type 0
Fits w q (Emit g) = (g.0 < 32) × (at (block_at w g.0) 0 ≡ depth_word w q) × (1 ≤ depth_word w q) × (at (block_at w g.0) 2 ≤ expansion_word w)
Fits w q (Read p) = (p.0 < state_count w) × (depth_word w p.0 ≡ suc (depth_word w q))
Fits w q Back = Unit {0}
Fits w q Wait = Unit {0}
Fits w q Close = Unit {0}

-- the move is the machine's step from the store of the text u from one place to another
abbrev pub Decides : List ℕ → List ℕ → Bool → ℕ → ℕ → ℕ → Move → Type 0
Decides w u ended q before after v =
    (log : List Emission) (n : ℕ) →
    step (from_words w) ended (standing (take (after - before) (drop before u)) (drop after u) q log n)
    ≡ step_by v (standing (take (after - before) (drop before u)) (drop after u) q log n)

-- the store of a run over the text u
abbrev pub store_of : List ℕ → Ran → List ℕ
store_of u now = take (now.at - now.from) (drop now.from u)

-- the output with a text put at a place; one without places takes nothing: a run that is lent it only counts
abbrev pub put : List ℕ → ℕ → List ℕ → List ℕ
put [] place text = []
put (x ∷ output) place text = take place (x ∷ output) ++ text ++ drop (place + length text) (x ∷ output)

-- the numbers of a run over the text u, with so much room, keep their bounds; where there is any room, it is enough
pub record Placed (w u : List ℕ) (room : ℕ) (now : Ran) : Type 0 where
  pub order : now.from ≤ now.at
  pub inside : now.at ≤ length u
  pub state : now.state.0 < state_count w
  pub depth : depth_word w now.state.0 ≡ now.at - now.from
  pub written : now.count ≤ expansion_word w * now.from
  pub enough : 1 ≤ room → expansion_word w * length u ≤ room
  pub short : length u ≤ 1099511627784
  pub few : now.steps ≤ 11 * now.from + (now.at - now.from)

-- what a run is lent: the output, and the counts of uses
pub record Lent : Type 0 where
  pub output : List ℕ
  pub uses : List ℕ

abbrev pub lent : List ℕ → List ℕ → Lent
lent output uses = record { output = output; uses = uses }

-- the run, which found these counts of uses, goes on to end as r; the log is what was emitted so far
pub record Going (w u : List ℕ) (ended : Bool) (r : Ended) (found : List ℕ) (now : Ran) (has : Lent) : Type 0 where
  pub log : List Emission
  pub runs : (m : ℕ) → 11 * (length u + 1) ≤ m → steps (from_words w) ended m (standing (store_of u now) (drop now.at u) now.state.0 log now.steps) ≡ r
  pub covers : covered log ≡ now.from
  pub count : now.count ≡ length (text_of (from_words w).write log)
  pub text : 1 ≤ length has.output → take now.count has.output ≡ text_of (from_words w).write log
  pub uses : has.uses ≡ uses_after found log

-- the run, which found these counts of uses, ended as r
pub record EndsAs (w u : List ℕ) (r : Ended) (found : List ℕ) (now : Ran) (has : Lent) : Type 0 where
  pub status : meant_status now.status ≡ r.status
  pub state : now.state.0 ≡ r.final.state
  pub order : now.from ≤ now.at
  pub inside : now.at ≤ length u
  pub store : store_of u now ≡ r.final.store
  pub covers : covered r.final.log ≡ now.from
  pub count : now.count ≡ length (text_of (from_words w).write r.final.log)
  pub text : 1 ≤ length has.output → take now.count has.output ≡ text_of (from_words w).write r.final.log
  pub uses : has.uses ≡ uses_after found r.final.log
  pub steps : now.steps ≡ r.final.steps

-- what is left to do of a run
abbrev pub left : List ℕ → Ran → ℕ
left u now = 9 * (length u - now.from) - (now.at - now.from)

-- what was done led on
abbrev pub Proceeds : List ℕ → List ℕ → Bool → ℕ → Ran → Lent → Ran → Lent → Type 0
Proceeds w u ended room old before new after =
    Placed w u room new
    × (left u new < left u old)
    × ((r : Ended) (found : List ℕ) → Going w u ended r found old before → Going w u ended r found new after)

-- what a turn leads to: the run goes on, or it has ended
abbrev pub Turn : Type 0
Turn = ControlFlow Ran Ran

-- the run that a turn leaves
abbrev pub left_by : Turn → Ran
left_by (Continue now) = now
left_by (Break now) = now

-- a turn led on, or ended the run
abbrev pub Advances : List ℕ → List ℕ → Bool → ℕ → Ran → Lent → Turn → Lent → Type 0
Advances w u ended room old before (Continue new) after = Proceeds w u ended room old before new after × Counted after.uses new.from
Advances w u ended room old before (Break new) after = (r : Ended) (found : List ℕ) → Going w u ended r found old before → EndsAs w u r found new after

-- what stands beyond the characters written is as found
abbrev pub Beyond : Ran → List ℕ → Ran → List ℕ → Type 0
Beyond old before new after = (old.count ≤ new.count) × (drop new.count after ≡ drop new.count before)

-- the classes of the first characters, as many as there are places
abbrev pub Classed : List ℕ → List ℕ → Type 0
Classed w classes = (c : ℕ) → c < length classes → get_or classes c 0 ≡ class_of (take (class_count w) (drop classes_from w)) c

-- the places from `from` on and below `to` have the number, and those before are as they were
abbrev pub Painted : List ℕ → ℕ → ℕ → ℕ → List ℕ → Type 0
Painted before from to x after = (i : ℕ) → i < to → get_or after i 0 ≡ cond (ltb i from) (get_or before i 0) x

-- the default takes each of a part's first n characters alone: none leads on from state 0, and under the mark none is a first unit
abbrev pub TakenAlone : List ℕ → Bool → List ℕ → ℕ → Type 0
TakenAlone w marked part n =
    (i : ℕ) → i < n → (target_word w 0 (class_of (take (class_count w) (drop classes_from w)) (get_or part i 0)) ≡ 0) × (marked && is_first (get_or part i 0) ≡ false)

-- the part's character at place n begins a word and leads to the state, if that is not state 0
abbrev pub Begins : List ℕ → List ℕ → ℕ → StateNo → Type 0
Begins w part n q =
    q.0 ≢ 0 → (n < length part) × (q.0 ≡ target_word w 0 (class_of (take (class_count w) (drop classes_from w)) (get_or part n 0)))

-- where a class ends among the first characters: at the next class's start, or past the last of them
pub record ClassEnds (w : List ℕ) (class most end : ℕ) : Type 0 where
  pub onward : at w (classes_from + class) ≤ end
  pub inside : end ≤ most
  pub within : class + 1 < class_count w → end ≤ at w (classes_from + (class + 1))
  pub next : end < most → (class + 1 < class_count w) × (at w (classes_from + (class + 1)) ≡ end)

-- the run keeps its bounds for some room
abbrev pub SomewherePlaced : List ℕ → List ℕ → Ran → Type 0
SomewherePlaced w u now = (room : ℕ) × Placed w u room now

-- the run stands between two words: in state 0, with an empty store at the place
pub record Between (place written made : ℕ) (now : Ran) : Type 0 where
  pub state : now.state.0 ≡ 0
  pub from : now.from ≡ place
  pub at : now.at ≡ place
  pub count : now.count ≡ written
  pub steps : now.steps ≡ made

-- the run ended with an empty store after so many steps
pub record Halted (how : Status) (made : ℕ) (old new : Ran) : Type 0 where
  pub status : meant_status new.status ≡ how
  pub state : new.state.0 ≡ 0
  pub from : new.from ≡ old.from
  pub at : new.at ≡ old.from
  pub count : new.count ≡ old.count
  pub steps : new.steps ≡ made

-- the run waits as it stands
pub record Waits (old new : Ran) : Type 0 where
  pub status : meant_status new.status ≡ Open
  pub state : new.state.0 ≡ old.state.0
  pub from : new.from ≡ old.from
  pub at : new.at ≡ old.at
  pub count : new.count ≡ old.count
  pub steps : new.steps ≡ old.steps

-- the run that has read on
abbrev pub read_to : Ran → Ahead → Ran
read_to now a =
    record {
      status = Code.Open;
      state = a.state;
      from = now.from;
      at = a.at;
      count = now.count;
      steps = now.steps + (a.at - now.at);
    }

-- the run that has read a word's first character, which led from state 0 to the state
abbrev pub begun_at : StateNo → ℕ → ℕ → ℕ → Ran
begun_at q place written made =
    record {
      status = Code.Open;
      state = q;
      from = place;
      at = place + 1;
      count = written;
      steps = made + 1;
    }

-- the run led on, whether or not the input has ended
abbrev pub Passes : List ℕ → List ℕ → ℕ → Ran → Lent → Ran → Lent → Type 0
Passes w u room old before new after =
    Placed w u room new
    × (left u new ≤ left u old)
    × ((ended : Bool) (r : Ended) (found : List ℕ) → Going w u ended r found old before → Going w u ended r found new after)

-- the run led on by writing defaults, whatever counts of uses it has, if they are then counted
abbrev pub PassesByDefaults : List ℕ → List ℕ → Ran → List ℕ → Ran → List ℕ → Type 0
PassesByDefaults w u old before new after =
    (old.from ≤ new.from)
    × ((uses : List ℕ) → length uses ≡ use_counts →
    Passes w u (length before) old (lent before uses) new (lent after (bumped uses default_number (new.from - old.from))))

-- the run stands before a character without a target, or at the text's end
abbrev pub Stands : List ℕ → List ℕ → Bool → ℕ → ℕ → Type 0
Stands w u true q after = (after < length u) × ((from_words w).target q (get_or u after 0) ≡ 0)
Stands w u false q after = after ≡ length u

-- the machine read on, up to a character without a target or the end of the part of the text where it was
pub record ReadsOn (w u : List ℕ) (now : Ran) (a : Ahead) : Type 0 where
  pub onward : now.at ≤ a.at
  pub passes : (has : Lent) → Placed w u (length has.output) now → Passes w u (length has.output) now has (read_to now a) has
  pub stuck : a.stuck ≡ true → Stands w u true a.state.0 a.at
  pub free : a.stuck ≡ false → a.at < length u → now.at < a.at

-- what is done where the machine's next step is this move
abbrev pub MovesAt : List ℕ → List ℕ → Bool → ℕ → Ran → Lent → Move → Turn → Lent → Type 0
MovesAt w u ended room old before v turn after = Decides w u ended old.state.0 old.from old.at v → Advances w u ended room old before turn after

-- the same, whether or not the input has ended
abbrev pub Moves : List ℕ → List ℕ → ℕ → Ran → Lent → Move → Turn → Lent → Type 0
Moves w u room old before v turn after = (ended : Bool) → MovesAt w u ended room old before v turn after

-- what a roll-back leads to
abbrev pub fall_of : Falls → Fall
fall_of Falls.Nowhere = nowhere
fall_of Falls.One = taking default_number 1
fall_of Falls.Pair = taking pair_number 2
fall_of Falls.Keep = keeping

-- group g took k characters from the store's first on, and wrote for them
pub record Takes (w u : List ℕ) (old : Ran) (before : Lent) (g k : ℕ) (new : Ran) (after : Lent) : Type 0 where
  pub between : Between (old.from + k) (old.count + length ((from_words w).write g (take k (drop old.from u)))) (old.steps + (k + 2)) new
  pub wrote : after.output ≡ put before.output old.count ((from_words w).write g (take k (drop old.from u)))
  pub counted : after.uses ≡ bumped before.uses g 1

-- a first unit is left at state 0, after the back
pub record LeavesUnit (old new : Ran) : Type 0 where
  pub status : meant_status new.status ≡ Open
  pub state : new.state.0 ≡ 0
  pub from : new.from ≡ old.from
  pub at : new.at ≡ old.from + 1
  pub count : new.count ≡ old.count
  pub steps : new.steps ≡ old.steps + 1

-- the run with so many steps fewer
abbrev pub less_steps : Ran → ℕ → Ran
less_steps now made =
    record {
      status = now.status;
      state = now.state;
      from = now.from;
      at = now.at;
      count = now.count;
      steps = now.steps - made;
    }

-- the word of the rule that is emitted where the machine has read on
abbrev pub accept_now : List ℕ → ℕ → Bool → Bool → ℕ
accept_now w q true ended = accept_word w q
accept_now w q false true = accept_at_end_word w q
accept_now w q false false = cond (used (accept_word w q) && eqb (accept_word w q) (accept_at_end_word w q)) (accept_word w q) 0

-- what a run over a piece asks: sound words, few given characters, held at state q, no room or room for all that may be written, and
-- counted uses
abbrev pub Runnable : List ℕ → Text → ℕ → Lent → Type 0
Runnable w t q has =
    (T (sound w) × T (stands_at (from_words w) q t.given.now))
    × (((length t.given.now ≤ 8) × (length t.given.now + length t.piece.now ≤ 1099511627784))
    × ((1 ≤ length has.output → expansion_word w * (length t.given.now + length t.piece.now) ≤ length has.output) × Counted has.uses 0))

-- the run is the machine's, and an output with places has its text, with what stands beyond as found
abbrev pub RunsTo : List ℕ → Text → ℕ → Bool → Lent → Ran → Lent → Type 0
RunsTo w t q ended found now has =
    let r = run (from_words w) ended (start t.given.now t.piece.now q) in
    EndsAs w (whole t) r found.uses now has × (has.output ≡ put found.output 0 (text_of (from_words w).write r.final.log))
