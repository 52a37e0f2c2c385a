-- The run over machine words: what each move asks and leaves, and that a turn leads on to the same end.
-- A step of the machine that leads on uses one of its fuel, of which more changes nothing; the rest is the text's places.
use mathlib.Core.Bool.{Bool, true, false, not}
use mathlib.Core.List.{List, [], ◌∷◌, ◌++◌, append-nil}
use mathlib.Core.Logic.{◌≢◌}
use mathlib.Core.Path.{◌≡◌, refl, sym, ap, subst, ◌∙◌}
use Prim.Native.Nat.{ℕ, zero, suc, pred, ◌+◌, ◌*◌, ◌-◌, ◌≤◌, ◌<◌}
use native.Mathlib.Nat.{mul-add, mul-le-mul, mul-le-mul_left}
use native.Mathlib.Omega.{arith}
use borrow.Author.Tests.{ne_eqb}
use lib.Dec.{T}
use lib.ListN.{length, get_or, set, take, drop, length-append, length-drop, take-append-drop, drop_of_length-le}
use lib.Seq.{take_all, drop-nil, length-take-le, take-suc, drop-cons, append_snoc, get_or-drop, set_at, take-append_seam, drop-append_seam, take_at, drop_at, take-add, drop-drop}
use Rattle.lists.proofs.Laws.Parts.{no_elements}
use Rattle.meaning.specs.Table.{default_number, pair_number}
use Rattle.meaning.specs.Block.{at, block_output}
use Rattle.meaning.specs.Meaning.{Emission, text_of, covered}
use Rattle.meaning.specs.Direct.{over}
use Rattle.meaning.proofs.Laws.Writing.{text_append, covered_append}
use Rattle.automaton.specs.Sound.{longest_word, expansion_word, rule_count, state_count, depth_word, accept_word, target_word, class_count, block_at, mode_at, sound}
use Rattle.automaton.specs.Classes.{class_of}
use Rattle.automaton.specs.Automaton.{Automaton, from_words}
use Rattle.words.specs.declared.numbers.RuleNo.{RuleNo}
use Rattle.words.specs.declared.numbers.StateNo.{StateNo}
use Rattle.automaton.proofs.Laws.Good.{after, Leads}
use Rattle.automaton.proofs.Laws.Words.{Names, sound_header_lem, sound_rule, sound_default, sound_state_lem, sound_class, sound_good, sound_longest, length_block_output}
use Rattle.reckoning.specs.Machine.{Configuration, Status, Open, Closed, Stopped, onward, halt, Fall, nowhere, taking, keeping, fall, step, Ended, steps, run, start}
use Rattle.reckoning.specs.Uses.{use_counts, uses_after}
use Rattle.reckoning.specs.Session.{path, is_at}
use Rattle.session.specs.Keeping.{meant_status}
use Rattle.session.specs.bridge.Counting.{bumped, Counted}
use Rattle.session.specs.bridge.Running.{left, Turn, Continue, Break, put, first_of, standing, step_by, Fits, Decides, store_of, Placed, Lent, Going, EndsAs, Proceeds, Advances, Beyond, Takes, LeavesUnit, Move, Emit, Read, Back, Wait, Close}
use Rattle.session.specs.declared.run.Ran.{Ran}
use Rattle.reckoning.proofs.Laws.Run.{step_accept, step_read, step_back, due_step, steps_onward, steps_halt, fuel_enough}
use Rattle.reckoning.proofs.Laws.Uses.{uses_none, uses_emitted}
use Rattle.reckoning.proofs.Laws.Rounds.{led, left_alone}
use Rattle.reckoning.proofs.Laws.Kept.{path_leads}
use Rattle.automaton.specs.Layout.{classes_from}

pub of_not_true : (b : Bool) → not b ≡ true → b ≡ false
of_not_true false e = refl
of_not_true true e = sym e

pub of_not_false : (b : Bool) → not b ≡ false → b ≡ true
of_not_false false e = sym e
of_not_false true e = refl

-- The unread part of those given back, or else of the piece.

pub first_given : (given rest : List ℕ) (n : ℕ) → n < length given → take (length given - n) (drop n given) ≡ first_of (drop n given) rest
first_given given rest n h = take_all (length given - n) (drop n given) (omega (arith, length-drop n given)) ∙ rw (drop-cons given n 0 h) refl

pub first_piece : (given piece : List ℕ) (n k : ℕ) → length given ≤ n → take (length piece - k) (drop k piece) ≡ first_of (drop n given) (drop k piece)
first_piece given piece n k h = rw (drop_of_length-le given h) (take_all (length piece - k) (drop k piece) (omega (arith, length-drop k piece)))

pub first_at : (given piece : List ℕ) (i : ℕ) → i < length given + length piece →
    (0 < length (first_of (drop i given) (drop (i - length given) piece))) × (get_or (first_of (drop i given) (drop (i - length given) piece)) 0 0 ≡ get_or (given ++ piece) i 0)
first_at [] piece i h =
    let e : i - 0 ≡ i = omega arith in
    let z : i + 0 ≡ i = omega arith in
    rw (drop-nil i, e) (omega (arith, length-drop i piece), get_or-drop i piece 0 0 ∙ ap (λ k. get_or piece k 0) z)
first_at (x ∷ given) piece zero h = (omega arith, refl)
first_at (x ∷ given) piece (suc i) h =
    let e : suc i - suc (length given) ≡ i - length given = omega arith in
    rw e (first_at given piece i (omega arith))

-- one more character of the text is in the store, which was found with other characters
pub gather_step : (u found store : List ℕ) (n i x : ℕ) → i < length found → n + i < length u → x ≡ get_or u (n + i) 0 →
    store ≡ over (take i (drop n u)) found → set store i x ≡ over (take (i + 1) (drop n u)) found
gather_step u found store n i x h k e p =
    let room = length-drop n u in
    let done = take i (drop n u) in
    let beyond = drop (suc i) found in
    let z : i + 1 ≡ suc i = omega arith in
    let size : length done ≡ i = length-take-le i (drop n u) (omega arith) in
    let full : length (take (suc i) (drop n u)) ≡ suc i = length-take-le (suc i) (drop n u) (omega arith) in
    let split : drop (length done) found ≡ get_or found i 0 ∷ beyond = ap (λ m. drop m found) size ∙ drop-cons found i 0 h in
    let next : take (suc i) (drop n u) ≡ done ++ (x ∷ []) = take-suc (drop n u) i 0 (omega arith) ∙ ap (λ c. done ++ (c ∷ [])) (get_or-drop n u i 0 ∙ sym e) in
    let joined : done ++ x ∷ beyond ≡ over (take (i + 1) (drop n u)) found = rw (z, full) (sym (ap (λ l. l ++ beyond) next ∙ append_snoc done x beyond)) in
    ap (λ l. set l i x) (p ∙ ap (λ l. done ++ l) split) ∙ set_at done (get_or found i 0) beyond x i size ∙ joined

-- the store's first places, once m characters are in it
pub gathered : (u found store : List ℕ) (n m : ℕ) → n + m ≤ length u → store ≡ over (take m (drop n u)) found → take m store ≡ take m (drop n u)
gathered u found store n m h e = ap (take m) e ∙ take_at (take m (drop n u)) _ m (length-take-le m (drop n u) (omega (arith, length-drop n u)))

-- the move is the machine's step in state q before the character x, whatever the store and the rest
abbrev OnCharacter : Automaton → ℕ → ℕ → Move → Type 0
OnCharacter m q x v =
    (ended : Bool) (store rest : List ℕ) (log : List Emission) (n : ℕ) →
    step m ended (standing store (x ∷ rest) q log n) ≡ step_by v (standing store (x ∷ rest) q log n)

module _ (w : List ℕ) (W : T (sound w)) (q : ℕ) (b : q < state_count w) where
  pub rule_fits : (g : RuleNo) (n : ℕ) → suc g.0 ≡ n → (n ≢ 0 → Names w (depth_word w q) n) → Fits w q (Emit g)
  rule_fits g n e f =
      let k = f (omega arith) in
      let p : pred n ≡ g.0 = omega arith in
      let i : g.0 < rule_count w = omega (arith, k.known) in
      let s = sound_rule w W g.0 i in
      let z : at (block_at w g.0) 0 ≡ depth_word w q = rw p at k.size in
      (omega (arith, (sound_header_lem w W).few_rules), z, omega (arith, s.positive), s.outputs)

  -- what the machine does before a character
  module _ (x : ℕ) where
    pub character_emits : (g : RuleNo) → suc g.0 ≡ accept_word w q → OnCharacter (from_words w) q x (Emit g) × Fits w q (Emit g)
    unfolding from_words
    character_emits g e =
        (λ ended store rest log n. step_accept (from_words w) ended store x rest q log n g.0 (sym e), rule_fits g (accept_word w q) e (sound_state_lem w W q b).accept)

    abbrev class : ℕ
    class = class_of (take (class_count w) (drop classes_from w)) x

    pub character_backs : 0 ≡ accept_word w q → target_word w q class ≡ 0 → OnCharacter (from_words w) q x Back
    unfolding from_words
    character_backs e z ended store rest log n = step_back (from_words w) ended store x rest q log n (sym e) z

    pub character_reads : (p : StateNo) → 0 ≡ accept_word w q → p.0 ≡ target_word w q class → p.0 ≢ 0 → OnCharacter (from_words w) q x (Read p) × Fits w q (Read p)
    unfolding from_words
    character_reads p e z h =
        let f = (sound_state_lem w W q b).target class (sound_class w W x) (λ y. h (z ∙ y)) in
        (reads p.0 refl, (omega (arith, f.below), ap (depth_word w) z ∙ f.deeper))
      where
        reads : (k : ℕ) → p.0 ≡ k → OnCharacter (from_words w) q x (Read p)
        reads zero y = absurd (h y)
        reads (suc t) y = λ ended store rest log n. rw y (step_read (from_words w) ended store x rest q log n t (sym e) (sym z ∙ y))

-- The step, by the place in the text.
module _ (w u : List ℕ) (ended : Bool) (q before after : ℕ) (v : Move) where
  pub decides_character : (x : ℕ) → after < length u → x ≡ get_or u after 0 → OnCharacter (from_words w) q x v → Decides w u ended q before after v
  decides_character x h e f log n =
      let store = take (after - before) (drop before u) in
      let p : x ∷ drop (suc after) u ≡ drop after u = ap (λ y. y ∷ drop (suc after) u) e ∙ sym (drop-cons u after 0 h) in
      subst (λ z. step (from_words w) ended (standing store z q log n) ≡ step_by v (standing store z q log n)) p (f ended store (drop (suc after) u) log n)

-- A run with fuel enough: a step that leads on changes nothing, and one that halts is its end.
module _ (A : Automaton) (ended : Bool) (most : ℕ) (r : Ended) where
  abbrev Runs : Configuration → Type 0
  Runs c = (m : ℕ) → most ≤ m → steps A ended m c ≡ r

  runs_on : (c d : Configuration) → step A ended c ≡ onward d → Runs c → Runs d
  runs_on c d st h m i = sym (steps_onward A ended m c d st) ∙ h (suc m) (omega arith)

  runs_halt : (c d : Configuration) (s : Status) → step A ended c ≡ halt s d → Runs c → r ≡ record { status = s; final = d }
  runs_halt c d s st h = sym (h (suc most) (omega arith)) ∙ steps_halt A ended most c d s st

-- Places of a text: the store and what is unread are its parts.

rest_of : (u : List ℕ) (m n : ℕ) → m ≤ n → drop (n - m) (drop m u) ≡ drop n u
rest_of u m n h = let e : m + (n - m) ≡ n = omega arith in drop-drop (n - m) m u ∙ ap (λ k. drop k u) e

whole_of : (u : List ℕ) (m n : ℕ) → m ≤ n → take (n - m) (drop m u) ++ drop n u ≡ drop m u
whole_of u m n h = ap (λ l. take (n - m) (drop m u) ++ l) (sym (rest_of u m n h)) ∙ take-append-drop (n - m) (drop m u)

more_of : (u : List ℕ) (m n : ℕ) → m ≤ n → take (n + 1 - m) (drop m u) ≡ take (n - m) (drop m u) ++ take 1 (drop n u)
more_of u m n h =
    let e : n + 1 - m ≡ n - m + 1 = omega arith in
    ap (λ k. take k (drop m u)) e ∙ take-add (n - m) 1 (drop m u) ∙ ap (λ l. take (n - m) (drop m u) ++ take 1 l) (rest_of u m n h)

none_of : (u : List ℕ) (m n : ℕ) → m ≡ n → take (m - n) (drop n u) ≡ []
none_of u m n h = let e : m - n ≡ 0 = omega arith in ap (λ k. take k (drop n u)) e

-- What an emission adds to a log.
module _ (write : ℕ → List ℕ → List ℕ) (log : List Emission) (g : ℕ) (word : List ℕ) where
  abbrev emission : Emission
  emission = record { group = g; word = word }

  text_one : text_of write (log ++ (emission ∷ [])) ≡ text_of write log ++ write g word
  unfolding text_of
  text_one = text_append write log (emission ∷ []) ∙ ap (λ l. text_of write log ++ l) (append-nil (write g word))

  covers_one : covered (log ++ (emission ∷ [])) ≡ covered log + length word
  unfolding covered
  covers_one = let h : covered (log ++ (emission ∷ [])) ≡ covered log + covered (emission ∷ []) = covered_append log (emission ∷ []) in omega arith

-- A text that is put into an output.

pub put_none : (output : List ℕ) (n : ℕ) (text : List ℕ) → length output ≡ 0 → put output n text ≡ output
put_none [] n text h = refl
put_none (x ∷ output) n text h = absurd (omega arith)

pub put_some : (output : List ℕ) (n : ℕ) (text : List ℕ) → 1 ≤ length output → put output n text ≡ take n output ++ text ++ drop (n + length text) output
put_some [] n text h = absurd (omega arith)
put_some (x ∷ output) n text h = refl

-- what a block writes, into an output with places
pub put_group : (b word output : List ℕ) (n : ℕ) → 1 ≤ length output →
    take n output ++ block_output b word ++ drop (n + at b 2) output ≡ put output n (block_output b word)
put_group b word output n any =
    ap (λ k. take n output ++ block_output b word ++ drop (n + k) output) (sym (length_block_output b word)) ∙ sym (put_some output n (block_output b word) any)

-- the text at its place, and what stands beyond it
placed_text : (output text : List ℕ) (n k : ℕ) → (1 ≤ length output → n ≤ length output) → length text ≡ k →
    (1 ≤ length (put output n text) → (1 ≤ length output) × (take (n + k) (put output n text) ≡ take n output ++ text))
    × (drop (n + k) (put output n text) ≡ drop (n + k) output)
placed_text [] text n k h i = (λ l. absurd (omega arith), refl)
placed_text (x ∷ output) text n k h i =
    let whole = x ∷ output in
    let front : length (take n whole ++ text) ≡ n + length text = omega (arith, length-append (take n whole) text, length-take-le n whole (h (omega arith))) in
    rw (← i) (
      λ l. (omega arith, take_at (take n whole ++ text) (drop (n + length text) whole) (n + length text) front),
      drop_at (take n whole ++ text) (drop (n + length text) whole) (n + length text) front,
    )

-- a group that writes at most E characters has room
pub turn_room : (w u : List ℕ) (room : ℕ) (now : Ran) → Placed w u room now → now.from < length u → (k : ℕ) → k ≤ expansion_word w → 1 ≤ room → now.count + k ≤ room
turn_room w u room now P some k few any =
    let z : expansion_word w * (now.from + 1) ≤ expansion_word w * length u = mul-le-mul_left (expansion_word w) (omega arith) in
    let x : expansion_word w * (now.from + 1) ≡ expansion_word w * now.from + expansion_word w = omega arith in
    omega (arith, P.written, P.enough any)

-- no count comes near the end of 64 bits
pub turn_small : (w u : List ℕ) (room : ℕ) (now : Ran) → T (sound w) → Placed w u room now → now.count + 8 < 18446744073709551616
turn_small w u room now W P =
    let few : now.from ≤ 1099511627784 = omega (arith, P.order, P.inside, P.short) in
    let z : expansion_word w * now.from ≤ 8 * 1099511627784 = mul-le-mul (sound_header_lem w W).expansion few in
    omega (arith, P.written)

-- a text is written after what was written, and what stands beyond it is as found
module _ (w u : List ℕ) (old : Ran) (before : List ℕ) (P : Placed w u (length before) old) where
  text_put : (text after : List ℕ) (k : ℕ) → length text ≡ k → after ≡ put before old.count text →
      (1 ≤ length after → (1 ≤ length before) × (take (old.count + k) after ≡ take old.count before ++ text))
      × (drop (old.count + k) after ≡ drop (old.count + k) before)
  text_put text after k sized wrote =
      let z : expansion_word w * old.from ≤ expansion_word w * length u = mul-le-mul_left (expansion_word w) (omega (arith, P.order, P.inside)) in
      let room : 1 ≤ length before → old.count ≤ length before = λ any. omega (arith, P.written, P.enough any) in
      rw wrote (placed_text before text old.count k room sized)

  pub beyond_put : (new : Ran) (text after : List ℕ) (k : ℕ) → length text ≡ k → new.count ≡ old.count + k →
      after ≡ put before old.count text → Beyond old before new after
  beyond_put new text after k sized e wrote = (omega arith, rw e (text_put text after k sized wrote).1)

-- what the words write: a group by its block, a pair unchanged
pub write_block : (w : List ℕ) (g : ℕ) (word : List ℕ) → g < pair_number → block_output (block_at w g) word ≡ (from_words w).write g word
unfolding from_words
write_block w g word h = rw (ne_eqb g 33 (omega arith)) refl

pub write_pair : (w word : List ℕ) → word ≡ (from_words w).write pair_number word
unfolding from_words
write_pair w word = refl

pub mode_words : (w : List ℕ) → mode_at w ≡ (from_words w).default
unfolding from_words
mode_words w = refl

pub default_block : (w : List ℕ) → T (sound w) → at w 5 ≢ 0 → (at (block_at w default_number) 0 ≡ 1) × (at (block_at w default_number) 2 ≤ expansion_word w)
default_block w W e = let s = sound_default w W e in (omega (arith, s.positive, s.size), s.outputs)

-- One turn, from `old` to `new`.
module _ (w u : List ℕ) (ended : Bool) (W : T (sound w)) (old : Ran) (before : Lent) (P : Placed w u (length before.output) old) (new : Ran) where
  abbrev A : Automaton
  A = from_words w

  abbrev most : ℕ
  most = 11 * (length u + 1)

  abbrev stood : List Emission → ℕ → Configuration
  stood log n = standing (store_of u old) (drop old.at u) old.state.0 log n

  first_depth : depth_word w 0 ≡ 0
  first_depth = (sound_state_lem w W 0 (sound_header_lem w W).some_state).first refl

  -- the store is no longer than the longest rule
  pub shallow : old.at - old.from ≤ 8
  shallow = omega (arith, P.depth, (sound_state_lem w W old.state.0 P.state).shallow, (sound_header_lem w W).longest)

  -- the run ended with the old log
  ended_as : (r : Ended) (found : List ℕ) (G : Going w u ended r found old before) (b : Status) (f : Configuration) → r ≡ record { status = b; final = f } → meant_status new.status ≡ b →
      new.state.0 ≡ f.state → store_of u new ≡ f.store → new.from ≡ old.from → new.count ≡ old.count → new.steps ≡ f.steps → f.log ≡ G.log →
      new.from ≤ new.at → new.at ≤ length u → EndsAs w u r found new before
  ended_as r found G b f e e₀ e₁ e₂ e₃ e₄ e₅ e₆ p₁ p₂ =
      subst (λ z. EndsAs w u z found new before) (sym e) (record {
        status = e₀;
        state = e₁;
        order = p₁;
        inside = p₂;
        store = e₂;
        covers = ap covered e₆ ∙ G.covers ∙ sym e₃;
        count = e₄ ∙ G.count ∙ ap (λ l. length (text_of (from_words w).write l)) (sym e₆);
        text = λ any. ap (λ k. take k before.output) e₄ ∙ G.text any ∙ ap (text_of (from_words w).write) (sym e₆);
        uses = G.uses ∙ ap (uses_after found) (sym e₆);
        steps = e₅;
      })

  -- *take*
  module _ (p : StateNo) (st : (log : List Emission) (n : ℕ) → step A ended (stood log n) ≡ step_by (Read p) (stood log n)) (fits : Fits w old.state.0 (Read p))
      (some : old.at < length u) (e₁ : new.state.0 ≡ p.0) (e₂ : new.from ≡ old.from) (e₃ : new.at ≡ old.at + 1) (e₄ : new.count ≡ old.count)
      (e₅ : new.steps ≡ old.steps + 1) where
    read_runs : (r : Ended) (log : List Emission) → Runs A ended most r (stood log old.steps) →
        Runs A ended most r (standing (store_of u new) (drop new.at u) new.state.0 log new.steps)
    read_runs r log h =
        let d : Configuration = standing (store_of u old ++ take 1 (drop old.at u)) (drop 1 (drop old.at u)) p.0 log (old.steps + 1) in
        let s : store_of u old ++ take 1 (drop old.at u) ≡ store_of u new =
        sym (more_of u old.from old.at P.order) ∙ (λ i. take (sym e₃ i - sym e₂ i) (drop (sym e₂ i) u)) in
        let t : drop 1 (drop old.at u) ≡ drop new.at u = drop-drop 1 old.at u ∙ ap (λ k. drop k u) (sym e₃) in
        let q : d ≡ standing (store_of u new) (drop new.at u) new.state.0 log new.steps = λ i. standing (s i) (t i) (sym e₁ i) log (sym e₅ i) in
        subst (Runs A ended most r) q (runs_on A ended most r (stood log old.steps) d (st log old.steps) h)

    pub advances_read : Proceeds w u ended (length before.output) old before new before
    advances_read =
        let i₁ = P.order in
        let i₂ = P.depth in
        let i₃ = P.few in
        let i₄ = P.written in
        let i₅ = fits.0 in
        let d : depth_word w new.state.0 ≡ suc (depth_word w old.state.0) = ap (depth_word w) e₁ ∙ fits.1 in
        let placed : Placed w u (length before.output) new =
        record {
          order = omega arith;
          inside = omega arith;
          state = omega arith;
          depth = omega arith;
          written = rw (e₂, e₄) i₄;
          enough = P.enough;
          short = P.short;
          few = omega arith;
        } in (
          placed,
          omega (arith, shallow),
          λ r found G. record {
            log = G.log;
            runs = read_runs r G.log G.runs;
            covers = G.covers ∙ sym e₂;
            count = e₄ ∙ G.count;
            text = λ any. ap (λ k. take k before.output) e₄ ∙ G.text any;
            uses = G.uses;
          },
        )

  -- group g is written for the next n characters from the store's first on; the state is 0 and the store empty after it
  module _ (g n : ℕ) (after : Lent) (j k : ℕ) (e₁ : new.state.0 ≡ 0) (e₂ : new.from ≡ old.from + n) (e₃ : new.at ≡ old.from + n)
      (e₄ : new.count ≡ old.count + k) (e₅ : new.steps ≡ old.steps + j)
      (some : 0 < n) (inside : old.from + n ≤ length u) (cheap : old.at - old.from + j ≤ 11 * n) (ahead : old.at - old.from < 9 * n)
      (sized : length (A.write g (take n (drop old.from u))) ≡ k) (few : k ≤ expansion_word w * n)
      (wrote : after.output ≡ put before.output old.count (A.write g (take n (drop old.from u))))
      (known : g < use_counts) (counted : after.uses ≡ bumped before.uses g 1)
      (leads : (r : Ended) (log : List Emission) → Runs A ended most r (stood log old.steps) →
      Runs A ended most r (standing [] (drop (old.from + n) u) 0 (log ++ (record { group = g; word = take n (drop old.from u) } ∷ [])) (old.steps + j))) where
    abbrev word : List ℕ
    word = take n (drop old.from u)

    emit_placed : Placed w u (length before.output) new
    emit_placed =
        let y : expansion_word w * new.from ≡ expansion_word w * old.from + expansion_word w * n = ap (λ x. expansion_word w * x) e₂ ∙ mul-add (expansion_word w) old.from n in
        let i₁ = P.written in
        let i₂ = P.few in
        let d : depth_word w new.state.0 ≡ 0 = ap (depth_word w) e₁ ∙ first_depth in
        record {
          order = omega arith;
          inside = omega arith;
          state = omega (arith, (sound_header_lem w W).some_state);
          depth = omega arith;
          written = omega arith;
          enough = P.enough;
          short = P.short;
          few = omega arith;
        }

    emit_going : (r : Ended) (found : List ℕ) → Going w u ended r found old before → Going w u ended r found new after
    emit_going r found G =
        let log : List Emission = G.log in
        let text = A.write g word in
        let later : List Emission = log ++ (record { group = g; word = word } ∷ []) in
        let s : [] ≡ store_of u new = sym (none_of u new.at new.from (e₃ ∙ sym e₂)) in
        let q : standing [] (drop (old.from + n) u) 0 later (old.steps + j) ≡ standing (store_of u new) (drop new.at u) new.state.0 later new.steps =
        λ i. standing (s i) (drop (sym e₃ i) u) (sym e₁ i) later (sym e₅ i) in
        let t : text_of A.write later ≡ text_of A.write log ++ text = text_one A.write log g word in
        let size : length (text_of A.write later) ≡ length (text_of A.write log) + k =
        ap length t ∙ length-append (text_of A.write log) text ∙ ap (λ x. length (text_of A.write log) + x) sized in
        let long : length word ≡ n = length-take-le n (drop old.from u) (omega (arith, length-drop old.from u)) in
        let c₁ = G.covers in
        let c₂ = G.count in
        let c₃ = covers_one A.write log g word in
        record {
          log = later;
          runs = subst (Runs A ended most r) q (leads r log G.runs);
          covers = omega arith;
          count = omega arith;
          text = λ any.
              let put-there = (text_put w u old before.output P text after.output k sized wrote).0 any in
              ap (λ x. take x after.output) e₄ ∙ put-there.1 ∙ ap (λ l. l ++ text) (G.text put-there.0) ∙ sym t;
          uses = counted ∙ ap (λ l. bumped l g 1) G.uses ∙ uses_emitted found log g word known;
        }

    advances_put : Proceeds w u ended (length before.output) old before new after
    advances_put = (emit_placed, omega (arith, P.order, P.inside), emit_going)

  -- *emit*
  module _ (g : RuleNo) (after : Lent) (st : (log : List Emission) (n : ℕ) → step A ended (stood log n) ≡ step_by (Emit g) (stood log n))
      (fits : Fits w old.state.0 (Emit g)) (e₁ : new.state.0 ≡ 0) (e₂ : new.from ≡ old.at) (e₃ : new.at ≡ old.at)
      (e₄ : new.count ≡ old.count + at (block_at w g.0) 2) (e₅ : new.steps ≡ old.steps + 1)
      (wrote : after.output ≡ put before.output old.count (block_output (block_at w g.0) (store_of u old)))
      (counted : after.uses ≡ bumped before.uses g.0 1) where
    to_end : old.from + (old.at - old.from) ≡ old.at
    to_end = omega (arith, P.order)

    emit_leads : (r : Ended) (log : List Emission) → Runs A ended most r (stood log old.steps) →
        Runs A ended most r (standing [] (drop (old.from + (old.at - old.from)) u) 0 (log ++ (record { group = g.0; word = store_of u old } ∷ [])) (old.steps + 1))
    emit_leads r log h =
        let later : List Emission = log ++ (record { group = g.0; word = store_of u old } ∷ []) in
        let d : Configuration = standing [] (drop old.at u) 0 later (old.steps + 1) in
        subst (Runs A ended most r) (λ i. standing [] (drop (sym to_end i) u) 0 later (old.steps + 1))
        (runs_on A ended most r (stood log old.steps) d (st log old.steps) h)

    pub advances_emit : Proceeds w u ended (length before.output) old before new after
    advances_emit =
        let i₁ = fits.2 in
        let i₂ = P.depth in
        let n : ℕ = old.at - old.from in
        let p₁ : 0 < n = omega arith in
        let p₂ : old.from + n ≤ length u = omega (arith, to_end, P.inside) in
        let p₃ : n + 1 ≤ 11 * n = omega arith in
        let p₄ : n < 9 * n = omega arith in
        let p₅ : new.from ≡ old.from + n = e₂ ∙ sym to_end in
        let p₆ : new.at ≡ old.from + n = e₃ ∙ sym to_end in
        let p₇ : g.0 < pair_number = omega (arith, fits.0) in
        let one : expansion_word w * 1 ≤ expansion_word w * n = mul-le-mul_left (expansion_word w) p₁ in
        let p₈ = write_block w g.0 (store_of u old) p₇ in
        let p₉ = sym (ap length p₈) ∙ length_block_output (block_at w g.0) (store_of u old) in
        advances_put g.0 n after 1 (at (block_at w g.0) 2) e₁ p₅ p₆ e₄ e₅ p₁ p₂ p₃ p₄ p₉ (omega (arith, fits.3))
        (wrote ∙ ap (put before.output old.count) p₈) (omega (arith, fits.0)) counted emit_leads

  -- *back*, where something stands before the end
  module _ (st : (log : List Emission) (n : ℕ) → step A ended (stood log n) ≡ step_by Back (stood log n)) (some : old.from < length u) where
    abbrev y : ℕ
    y = get_or u old.from 0

    abbrev v : List ℕ
    v = drop (old.from + 1) u

    next_is : drop old.from u ≡ y ∷ v
    next_is = let e : suc old.from ≡ old.from + 1 = omega arith in drop-cons u old.from 0 some ∙ ap (λ k. y ∷ drop k u) e

    abbrev due : List ℕ → List ℕ → List Emission → ℕ → Configuration
    due store unread log n = record { store = store; unread = unread; state = 0; due = true; log = log; steps = n }

    back_step : (log : List Emission) → step A ended (stood log old.steps) ≡ onward (due [] (y ∷ v) log (old.steps + 1))
    back_step log = st log old.steps ∙ ap (λ z. onward (due [] z log (old.steps + 1))) (whole_of u old.from old.at P.order ∙ next_is)

    -- what the characters given back lead to
    abbrev Falls : Fall → Type 0
    Falls f = fall A.default ended (drop old.from u) ≡ f

    abbrev Leads_to : ℕ → ℕ → Type 0
    Leads_to g k = (r : Ended) (log : List Emission) → Runs A ended most r (stood log old.steps) →
        Runs A ended most r (standing [] (drop (old.from + k) u) 0 (log ++ (record { group = g; word = take k (drop old.from u) } ∷ [])) (old.steps + (k + 2)))

    one_leads : (g : ℕ) → Falls (taking g 1) → Leads_to g 1
    one_leads g f r log h =
        let s : ℕ = old.steps in
        let c₁ : Configuration = due [] (y ∷ v) log (s + 1) in
        let c₂ : Configuration = due (y ∷ []) v log (s + 1 + 1) in
        let c₃ : Configuration = standing [] v 0 (log ++ (record { group = g; word = y ∷ [] } ∷ [])) (s + 1 + 1 + 1) in
        let one : y ∷ [] ≡ take 1 (drop old.from u) = ap (take 1) (sym next_is) in
        let three : s + 1 + 1 + 1 ≡ s + 3 = omega arith in
        let p : fall A.default ended (y ∷ v) ≡ taking g 1 = ap (fall A.default ended) (sym next_is) ∙ f in
        let h₁ : Runs A ended most r c₁ = runs_on A ended most r (stood log s) c₁ (back_step log) h in
        let h₂ : Runs A ended most r c₂ = runs_on A ended most r c₁ c₂ (due_step A ended [] (y ∷ v) log (s + 1) (taking g 1) p) h₁ in
        let h₃ : Runs A ended most r c₃ = runs_on A ended most r c₂ c₃ (due_step A ended (y ∷ []) v log (s + 1 + 1) (taking g 1) p) h₂ in
        subst (Runs A ended most r) (λ i. standing [] v 0 (log ++ (record { group = g; word = one i } ∷ [])) (three i)) h₃

    two_leads : (g : ℕ) → Falls (taking g 2) → old.from + 2 ≤ length u → Leads_to g 2
    two_leads g f room r log h =
        let s : ℕ = old.steps in
        let z : ℕ = get_or u (old.from + 1) 0 in
        let t : List ℕ = drop (old.from + 2) u in
        let e : suc (old.from + 1) ≡ old.from + 2 = omega arith in
        let next : v ≡ z ∷ t = drop-cons u (old.from + 1) 0 (omega arith) ∙ ap (λ k. z ∷ drop k u) e in
        let both : drop old.from u ≡ y ∷ z ∷ t = next_is ∙ ap (λ l. y ∷ l) next in
        let c₁ : Configuration = due [] (y ∷ z ∷ t) log (s + 1) in
        let c₂ : Configuration = due (y ∷ []) (z ∷ t) log (s + 1 + 1) in
        let c₃ : Configuration = due (y ∷ z ∷ []) t log (s + 1 + 1 + 1) in
        let c₄ : Configuration = standing [] t 0 (log ++ (record { group = g; word = y ∷ z ∷ [] } ∷ [])) (s + 1 + 1 + 1 + 1) in
        let word : y ∷ z ∷ [] ≡ take 2 (drop old.from u) = ap (take 2) (sym both) in
        let four : s + 1 + 1 + 1 + 1 ≡ s + 4 = omega arith in
        let p : fall A.default ended (y ∷ z ∷ t) ≡ taking g 2 = ap (fall A.default ended) (sym both) ∙ f in
        let back : step A ended (stood log s) ≡ onward c₁ = back_step log ∙ ap (λ l. onward (due [] (y ∷ l) log (s + 1))) next in
        let h₁ : Runs A ended most r c₁ = runs_on A ended most r (stood log s) c₁ back h in
        let h₂ : Runs A ended most r c₂ = runs_on A ended most r c₁ c₂ (due_step A ended [] (y ∷ z ∷ t) log (s + 1) (taking g 2) p) h₁ in
        let h₃ : Runs A ended most r c₃ = runs_on A ended most r c₂ c₃ (due_step A ended (y ∷ []) (z ∷ t) log (s + 1 + 1) (taking g 2) p) h₂ in
        let h₄ : Runs A ended most r c₄ = runs_on A ended most r c₃ c₄ (due_step A ended (y ∷ z ∷ []) t log (s + 1 + 1 + 1) (taking g 2) p) h₃ in
        subst (Runs A ended most r) (λ i. standing [] t 0 (log ++ (record { group = g; word = word i } ∷ [])) (four i)) h₄

    module _ (after : Lent) (g k : ℕ) (T : Takes w u old before g k new after) (known : g < use_counts) where
      abbrev text : List ℕ
      text = A.write g (take k (drop old.from u))

      taken : 0 < k → old.from + k ≤ length u → old.at - old.from + (k + 2) ≤ 11 * k → old.at - old.from < 9 * k → length text ≤ expansion_word w * k → Leads_to g k →
          Proceeds w u ended (length before.output) old before new after × Beyond old before.output new after.output
      taken p₁ p₂ p₃ p₄ few leads =
          let B = T.between in (
            advances_put g k after (k + 2) (length text) B.state B.from B.at B.count B.steps p₁ p₂ p₃ p₄ refl few T.wrote known T.counted leads,
            beyond_put w u old before.output P new text after.output (length text) refl B.count T.wrote,
          )

    pub advances_one : (after : Lent) → Takes w u old before default_number 1 new after → Falls (taking default_number 1) → at w 5 ≢ 0 →
        Proceeds w u ended (length before.output) old before new after × Beyond old before.output new after.output
    advances_one after T f e =
        let word = take 1 (drop old.from u) in
        let size = sym (ap length (write_block w default_number word (omega arith))) ∙ length_block_output (block_at w default_number) word in
        taken after default_number 1 T (omega arith) (omega arith) (omega arith) (omega (arith, shallow)) (omega (arith, shallow)) (omega (arith, size, (default_block w W e).1))
        (one_leads default_number f)

    pub advances_pair : (after : Lent) → Takes w u old before pair_number 2 new after → Falls (taking pair_number 2) → old.from + 2 ≤ length u → 1 ≤ expansion_word w →
        Proceeds w u ended (length before.output) old before new after × Beyond old before.output new after.output
    advances_pair after T f room e =
        let word = take 2 (drop old.from u) in
        let size : length (A.write pair_number word) ≡ 2 = sym (ap length (write_pair w word)) ∙ length-take-le 2 (drop old.from u) (omega (arith, length-drop old.from u)) in
        taken after pair_number 2 T (omega arith) (omega arith) room (omega (arith, shallow)) (omega (arith, shallow)) (omega (arith, size)) (two_leads pair_number f room)

    pub advances_stop : Falls nowhere → meant_status new.status ≡ Stopped → new.state.0 ≡ 0 → new.from ≡ old.from → new.at ≡ old.from →
        new.count ≡ old.count → new.steps ≡ old.steps + 2 → Advances w u ended (length before.output) old before (Break new) before
    advances_stop d e₀ e₁ e₂ e₃ e₄ e₅ r found G =
        let s : ℕ = old.steps in
        let c₁ : Configuration = due [] (y ∷ v) G.log (s + 1) in
        let f : Configuration = standing [] [] 0 G.log (s + 1 + 1) in
        let p : fall A.default ended (y ∷ v) ≡ nowhere = ap (fall A.default ended) (sym next_is) ∙ d in
        let h₁ : Runs A ended most r c₁ = runs_on A ended most r (stood G.log s) c₁ (back_step G.log) G.runs in
        let e : r ≡ record { status = Stopped; final = f } = runs_halt A ended most r c₁ f Stopped (due_step A ended [] (y ∷ v) G.log (s + 1) nowhere p) h₁ in
        ended_as r found G Stopped f e e₀ e₁ (none_of u new.at new.from (e₃ ∙ sym e₂)) e₂ e₄ (omega arith) refl (omega arith) (omega (arith, P.order, P.inside))

    -- a first unit is left
    pub advances_leave : Falls keeping → LeavesUnit old new → Advances w u ended (length before.output) old before (Break new) before
    advances_leave d U r found G =
        let s : ℕ = old.steps in
        let c₁ : Configuration = due [] (y ∷ v) G.log (s + 1) in
        let f : Configuration = standing (y ∷ v) [] 0 G.log (s + 1) in
        let p : fall A.default ended (y ∷ v) ≡ keeping = ap (fall A.default ended) (sym next_is) ∙ d in
        let alone : v ≡ [] = (left_alone A.default ended y v p).1 in
        let one : new.at - new.from ≡ 1 = omega (arith, U.at, U.from) in
        let store : store_of u new ≡ y ∷ v = (λ i. take (one i) (drop (U.from i) u)) ∙ ap (take 1) next_is ∙ ap (λ l. y ∷ l) (sym alone) in
        let h₁ : Runs A ended most r c₁ = runs_on A ended most r (stood G.log s) c₁ (back_step G.log) G.runs in
        let e : r ≡ record { status = Open; final = f } = runs_halt A ended most r c₁ f Open (due_step A ended [] (y ∷ v) G.log (s + 1) keeping p) h₁ in
        ended_as r found G Open f e U.status U.state store U.from U.count U.steps refl (omega (arith, U.at, U.from)) (omega (arith, U.at))

  -- the run waits, or closes
  pub advances_wait : ((log : List Emission) (n : ℕ) → step A ended (stood log n) ≡ step_by Wait (stood log n)) → meant_status new.status ≡ Open →
      new.state.0 ≡ old.state.0 → new.from ≡ old.from → new.at ≡ old.at → new.count ≡ old.count → new.steps ≡ old.steps →
      Advances w u ended (length before.output) old before (Break new) before
  advances_wait st e₀ e₁ e₂ e₃ e₄ e₅ r found G =
      let f : Configuration = stood G.log old.steps in
      let s : store_of u new ≡ store_of u old = λ i. take (e₃ i - e₂ i) (drop (e₂ i) u) in
      ended_as r found G Open f (runs_halt A ended most r f f Open (st G.log old.steps) G.runs) e₀ e₁ s e₂ e₄ e₅ refl (omega (arith, P.order)) (omega (arith, P.inside))

  pub advances_close : ((log : List Emission) (n : ℕ) → step A ended (stood log n) ≡ step_by Close (stood log n)) → meant_status new.status ≡ Closed →
      new.state.0 ≡ 0 → new.from ≡ old.from → new.at ≡ old.from → new.count ≡ old.count → new.steps ≡ old.steps + 1 →
      Advances w u ended (length before.output) old before (Break new) before
  advances_close st e₀ e₁ e₂ e₃ e₄ e₅ r found G =
      let f : Configuration = standing [] [] 0 G.log (old.steps + 1) in
      ended_as r found G Closed f (runs_halt A ended most r (stood G.log old.steps) f Closed (st G.log old.steps) G.runs) e₀ e₁
      (none_of u new.at new.from (e₃ ∙ sym e₂)) e₂ e₄ e₅ refl (omega arith) (omega (arith, P.order, P.inside))

-- A whole run on the way: placed, and going on.

abbrev pub Underway : List ℕ → List ℕ → Bool → ℕ → Ended → List ℕ → Ran → Lent → Type 0
Underway w u ended room r found now has = Placed w u room now × Counted has.uses now.from × Going w u ended r found now has

-- ended, or on the way
abbrev pub Stage : List ℕ → List ℕ → Bool → ℕ → Ended → List ℕ → Turn → Lent → Type 0
Stage w u ended room r found (Break now) has = EndsAs w u r found now has
Stage w u ended room r found (Continue now) has = Underway w u ended room r found now has

-- turns that are left at most
abbrev pub to_go : List ℕ → Turn → ℕ
to_go u (Break now) = 0
to_go u (Continue now) = suc (left u now)

pub stage_on : (w u : List ℕ) (ended : Bool) (room : ℕ) (r : Ended) (found : List ℕ) (old : Ran) (before after : Lent) (turn : Turn) →
    Advances w u ended room old before turn after → Going w u ended r found old before → Stage w u ended room r found turn after × (to_go u turn < suc (left u old))
stage_on w u ended room r found old before after (Break new) f G = (f r found G, omega arith)
stage_on w u ended room r found old before after (Continue new) f G = ((f.0.0, f.1, f.0.2 r found G), omega (arith, f.0.1))

-- what a finished run has written
pub ends_put : (w u : List ℕ) (r : Ended) (found : List ℕ) (now : Ran) (has : Lent) (buffer : List ℕ) → EndsAs w u r found now has →
    length has.output ≡ length buffer → drop now.count has.output ≡ drop now.count buffer →
    has.output ≡ put buffer 0 (text_of (from_words w).write r.final.log)
ends_put w u r found now has [] F l e = no_elements has.output l
ends_put w u r found now has (x ∷ buffer) F l e =
    let output = has.output in
    let text = text_of (from_words w).write r.final.log in
    let none_more : length text ≡ 0 + length text = omega arith in
    sym (take-append-drop now.count output) ∙ ap (λ o. o ++ drop now.count output) (F.text (omega arith)) ∙ ap (λ o. text ++ o) e
    ∙ ap (λ k. text ++ drop k (x ∷ buffer)) (F.count ∙ none_more)

pub beyond_on : (old new : Ran) (found before after : List ℕ) → drop old.count before ≡ drop old.count found → Beyond old before new after →
    drop new.count after ≡ drop new.count found
beyond_on old new found before after e b =
    let z : old.count + (new.count - old.count) ≡ new.count = omega (arith, b.0) in
    let more : (l : List ℕ) → drop new.count l ≡ drop (new.count - old.count) (drop old.count l) =
    λ l. ap (λ k. drop k l) (sym z) ∙ sym (drop-drop (new.count - old.count) old.count l) in
    b.1 ∙ more before ∙ ap (drop (new.count - old.count)) e ∙ sym (more found)

-- where characters lead by targets, the depth is their number
depth_after : (w : List ℕ) → T (sound w) → (q : ℕ) (h : List ℕ) → q < state_count w → Leads (from_words w) q h →
    (after (from_words w) q h < state_count w) × (depth_word w (after (from_words w) q h) ≡ depth_word w q + length h)
unfolding after from_words
depth_after w W q [] i l = (i, omega arith)
depth_after w W q (x ∷ h) i l =
    let f = (sound_state_lem w W q i).target (class_of (take (class_count w) (drop classes_from w)) x) (sound_class w W x) l.0 in
    let k = depth_after w W (target_word w q (class_of (take (class_count w) (drop classes_from w)) x)) h f.below l.1 in
    (k.0, omega (arith, k.1, f.deeper))

-- The run as it begins: the given characters are the store.
module _ (w given piece : List ℕ) (ended : Bool) (W : T (sound w)) (q : ℕ) (at_path : T (is_at q (path (from_words w) 0 given)))
    (plain : start given piece q ≡ standing given piece q [] 0) (has : Lent)
    (short : length given + length piece ≤ 1099511627784)
    (enough : 1 ≤ length has.output → expansion_word w * (length given + length piece) ≤ length has.output)
    (counted : Counted has.uses 0) (now : Ran)
    (e₁ : now.state.0 ≡ q) (e₂ : now.from ≡ 0) (e₃ : now.at ≡ length given) (e₄ : now.count ≡ 0) (e₅ : now.steps ≡ 0) where
  abbrev u : List ℕ
  u = given ++ piece

  size : length u ≡ length given + length piece
  size = length-append given piece

  begin_placed : Placed w u (length has.output) now
  begin_placed =
      let h = sound_header_lem w W in
      let l = path_leads (from_words w) 0 q given at_path in
      let k = depth_after w W 0 given h.some_state l.0 in
      let z : depth_word w 0 ≡ 0 = (sound_state_lem w W 0 h.some_state).first refl in
      let s : now.state.0 ≡ after (from_words w) 0 given = e₁ ∙ l.1 in
      let d : depth_word w now.state.0 ≡ depth_word w 0 + length given = ap (depth_word w) s ∙ k.1 in
      let b = k.0 in
      record {
        order = omega arith;
        inside = omega (arith, size);
        state = omega arith;
        depth = omega arith;
        written = omega arith;
        enough = rw size enough;
        short = omega (arith, size);
        few = omega arith;
      }

  begin_going : Going w u ended (run (from_words w) ended (start given piece q)) has.uses now has
  unfolding covered text_of
  begin_going =
      let l = path_leads (from_words w) 0 q given at_path in
      let n : now.at - now.from ≡ length given = omega arith in
      let s : given ≡ store_of u now = sym (take-append_seam given piece) ∙ (λ i. take (sym n i) (drop (sym e₂ i) u)) in
      let t : piece ≡ drop now.at u = sym (drop-append_seam given piece) ∙ ap (λ k. drop k u) (sym e₃) in
      record {
        log = [];
        runs =
            λ m h.
            subst (λ c. steps (from_words w) ended m c ≡ run (from_words w) ended (start given piece q))
            (plain ∙ (λ i. standing (s i) (t i) (sym e₁ i) [] (sym e₅ i)))
            (fuel_enough (from_words w) (longest_word w) (state_count w) (sound_good w W) (sound_longest w W) ended given piece q (led l.1 l.0) m (omega (arith, size)));
        covers = sym e₂;
        count = e₄;
        text = λ any. ap (λ k. take k has.output) e₄;
        uses = sym (uses_none has.uses counted.whole);
      }

  pub begins : Underway w u ended (length has.output) (run (from_words w) ended (start given piece q)) has.uses now has
  begins = (begin_placed, subst (Counted has.uses) (sym e₂) counted, begin_going)
