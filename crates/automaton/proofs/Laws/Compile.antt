-- Demands 1 and 2 for compiling: what it answers and leaves, and that it accepts exactly the tables that keep the rules.
-- What it answers and leaves follows from what it read, by cases on the table check and on the counts of classes and states.
use mathlib.Core.List.{List, [], ◌∷◌, ◌++◌}
use mathlib.Core.Logic.{◌≢◌}
use mathlib.Core.Path.{◌≡◌, refl, sym, subst, ◌∙◌}
use Prim.Native.Nat.{ℕ, ◌≤◌, ◌<◌}
use native.Mathlib.Omega.{arith}
use lib.Dec.{T, eqb, ltb→lt, nltb→le, eqb→eq}
use lib.ListN.{length, drop}
use lib.Seq.{drop_at}
use Rattle.lists.specs.Lists.{any, pad}
use Rattle.lists.proofs.Laws.Tests.{or_right, any_more, of_cond, by_cases, neqb→ne}
use Rattle.lists.proofs.Laws.Parts.{length_pad}
use Rattle.meaning.specs.Refusal.{Outcome, refused, accepted, and_then, RefusedBy}
use Rattle.meaning.specs.Table.{Table}
use Rattle.meaning.specs.Reader.{read_table}
use Rattle.meaning.specs.Records.{Bytes}
use Rattle.meaning.proofs.Laws.Refusal.{by_then, accepted_not, refused_same}
use Rattle.meaning.proofs.Laws.Described.{well_formed_shaped}
use Rattle.meaning.proofs.Laws.Direct.{table_refusals, table_refused, keeps_read, read_keeps}
use Rattle.automaton.specs.Classes.{starts}
use Rattle.automaton.specs.States.{states}
use Rattle.automaton.specs.Layout.{word_count, words}
use Rattle.automaton.specs.Compile.{small, compilable, compile_by, compile}
use Rattle.automaton.specs.Claims.{KeepsCompiling, Compiled, CompileAnswers, CompileAccepts, CompileRefuses, CompiledSound}
use Rattle.automaton.proofs.Laws.Places.{length_words}
use Rattle.automaton.proofs.Laws.Sound.{compiled_sound}

abbrev refusals : List ℕ
refusals = 10 ∷ 1 ∷ 2 ∷ 3 ∷ 4 ∷ 5 ∷ 6 ∷ 7 ∷ 8 ∷ 9 ∷ []

-- the answer and the words, for what was compilable
module _ (buffer : List ℕ) where
  abbrev zeroed : List ℕ
  zeroed = pad word_count [] ++ drop word_count buffer

  zeros_by : (o : Outcome Table) (n : ℕ) → (compile_by o buffer).answer ≡ refused n → n ≢ 10 → (compile_by o buffer).words ≡ zeroed
  zeros_by (refused m) n e h =
      of_cond (λ l. l ≡ zeroed) (eqb m 10) buffer zeroed (λ u. absurd (h (sym (refused_same m n e) ∙ eqb→eq m 10 u))) (λ _. refl)
  zeros_by (accepted t) n e h = absurd (accepted_not tt n e)

  unchanged_by : (o : Outcome Table) → (compile_by o buffer).answer ≡ refused 10 → (compile_by o buffer).words ≡ buffer
  unchanged_by (refused m) e =
      of_cond (λ l. l ≡ buffer) (eqb m 10) buffer zeroed (λ _. refl) (λ u. absurd (neqb→ne m 10 u (refused_same m 10 e)))
  unchanged_by (accepted t) e = absurd (accepted_not tt 10 e)

  beyond_by : (o : Outcome Table) → drop word_count (compile_by o buffer).words ≡ drop word_count buffer
  beyond_by (refused m) =
      of_cond (λ l. drop word_count l ≡ drop word_count buffer) (eqb m 10) buffer zeroed (λ _. refl)
      (λ _. drop_at (pad word_count []) (drop word_count buffer) word_count (length_pad word_count []))
  beyond_by (accepted t) = drop_at (words t) (drop word_count buffer) word_count (length_words t)

-- why the number k was answered
record Why (b : List ℕ) (room k : ℕ) : Type 0 where
  numbered : T (any (eqb k) refusals)
  table : k ≤ 7 → read_table b ≡ refused k
  classes : k ≡ 8 → (t : Table) × (read_table b ≡ accepted t) × (64 < length (starts t))
  states : k ≡ 9 → (t : Table) × (read_table b ≡ accepted t) × (length (starts t) ≤ 64) × (256 < length (states t))
  no_room : k ≡ 10 → room < word_count

-- what an accepted table passed
record Passed (b : List ℕ) (room : ℕ) (t : Table) : Type 0 where
  read : read_table b ≡ accepted t
  classes : length (starts t) ≤ 64
  states : length (states t) ≤ 256
  enough : word_count ≤ room

abbrev Compilable : List ℕ → ℕ → Outcome Table → Type 0
Compilable b room (refused k) = Why b room k
Compilable b room (accepted t) = Passed b room t

compilable_says : (b : List ℕ) (room : ℕ) → Compilable b room (compilable b room)
unfolding compilable small
compilable_says b room =
    by_cases (Compilable b room) _ (and_then (read_table b) small) (
      λ u. record {
        numbered = tt;
        table = λ q. absurd (omega arith);
        classes = λ q. absurd (omega arith);
        states = λ q. absurd (omega arith);
        no_room = λ _. ltb→lt room word_count u;
      },
      λ enough. by_then (Compilable b room) (read_table b) small
          (λ n e.
          let few = table_refused b n e in
          let other : (m : ℕ) → (T (any (eqb m) table_refusals) → ⊥) → n ≡ m → ⊥ = λ m f q. f (subst (λ k. T (any (eqb k) table_refusals)) q few) in
          record {
            numbered = or_right (eqb n 10) _ (any_more (eqb n) table_refusals (8 ∷ 9 ∷ []) few);
            table = λ _. e;
            classes = λ q. absurd (other 8 (λ t. t) q);
            states = λ q. absurd (other 9 (λ t. t) q);
            no_room = λ q. absurd (other 10 (λ t. t) q);
          })
          (λ t e. by_cases (Compilable b room) _ (accepted t) (
            λ wide. record {
              numbered = tt;
              table = λ q. absurd (omega arith);
              classes = λ _. (t, e, ltb→lt 64 (length (starts t)) wide);
              states = λ q. absurd (omega arith);
              no_room = λ q. absurd (omega arith);
            },
            λ narrow. (
              λ many. record {
                numbered = tt;
                table = λ q. absurd (omega arith);
                classes = λ q. absurd (omega arith);
                states = λ _. (t, e, nltb→le 64 (length (starts t)) narrow, ltb→lt 256 (length (states t)) many);
                no_room = λ q. absurd (omega arith);
              },
              λ few. record { read = e; classes = nltb→le 64 (length (starts t)) narrow; states = nltb→le 256 (length (states t)) few; enough = nltb→le room word_count enough },
            ),
          )),
    )

pub keeping_compilable : (b : List ℕ) (room : ℕ) (t : Table) → KeepsCompiling b t → word_count ≤ room → compilable b room ≡ accepted t
unfolding compilable small and_then
keeping_compilable b room t k h =
    rw (keeps_read b t k.keeps)
    (by_cases (λ o. o ≡ accepted t) _ _ (
      λ u. let l = ltb→lt room word_count u in absurd (omega arith),
      λ _. by_cases (λ o. o ≡ accepted t) _ (accepted t) (
        λ u. let l = ltb→lt 64 (length (starts t)) u in let c = k.classes in absurd (omega arith),
        λ _. (λ u. let l = ltb→lt 256 (length (states t)) u in let c = k.states in absurd (omega arith), λ _. refl),
      ),
    ))

module _ (b buffer : List ℕ) where
  numbered_by : (o : Outcome Table) → Compilable b (length buffer) o → RefusedBy refusals (compile_by o buffer).answer
  numbered_by (refused n) h = h.numbered
  numbered_by (accepted t) h = tt

  accepting_by : (o : Outcome Table) → Compilable b (length buffer) o → Bytes b → (compile_by o buffer).answer ≡ accepted tt →
      (t : Table) × KeepsCompiling b t × (word_count ≤ length buffer)
  accepting_by (refused n) h y e = absurd (accepted_not tt n (sym e))
  accepting_by (accepted t) h y e = (t, record { keeps = read_keeps b t y h.read; classes = h.classes; states = h.states }, h.enough)

  why : (o : Outcome Table) (k : ℕ) → Compilable b (length buffer) o → (compile_by o buffer).answer ≡ refused k → Why b (length buffer) k
  why (refused m) k h e = subst (Why b (length buffer)) (refused_same m k e) h
  why (accepted t) k h e = absurd (accepted_not tt k e)

  pub compile_answers : CompileAnswers b buffer
  unfolding compile
  compile_answers =
      let o = compilable b (length buffer) in
      record {
        numbered = numbered_by o (compilable_says b (length buffer));
        zeros = zeros_by buffer o;
        unchanged = unchanged_by buffer o;
        beyond = beyond_by buffer o;
      }

  pub compile_accepts : CompileAccepts b buffer
  unfolding compile
  compile_accepts =
      record {
        keeping = λ t k h. let e = keeping_compilable b (length buffer) t k h in (rw e refl, rw e refl);
        accepting = accepting_by (compilable b (length buffer)) (compilable_says b (length buffer));
      }

  pub compile_refuses : CompileRefuses b buffer
  unfolding compile
  compile_refuses =
      let reason : (k : ℕ) → (compile b buffer).answer ≡ refused k → Why b (length buffer) k =
      λ k. why (compilable b (length buffer)) k (compilable_says b (length buffer)) in
      record {
        table = λ n e. (reason n e).table;
        classes = λ y e. let u = (reason 8 e).classes refl in (u.0, read_keeps b u.0 y u.1, u.2);
        states = λ y e. let u = (reason 9 e).states refl in (u.0, read_keeps b u.0 y u.1, u.2, u.3);
        room = λ e. (reason 10 e).no_room refl;
      }

-- COMPILED WORDS

pub compiled_by : (b buffer : List ℕ) (t : Table) → KeepsCompiling b t → word_count ≤ length buffer → Compiled t (compile b buffer).words
compiled_by b buffer t k h = record { table = b; buffer = buffer; keeps = k; room = h; left = refl }

pub compiled_words : (t : Table) (w : List ℕ) (C : Compiled t w) → w ≡ words t ++ drop word_count C.buffer
compiled_words t w C = C.left ∙ ((compile_accepts C.table C.buffer).keeping t C.keeps C.room).1

pub compiling_sound : CompiledSound
unfolding CompiledSound
compiling_sound t w C =
    let k = C.keeps in
    rw (compiled_words t w C)
    (compiled_sound t (drop word_count C.buffer) (well_formed_shaped t k.keeps.well_formed) k.classes k.states)
