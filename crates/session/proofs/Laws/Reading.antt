-- What the machine reads of the text: classes worked out beforehand, the part of the text where it is, and how it reads on or writes defaults there.
-- Each law is one turn of a loop; a state that a character leads on from accepts nothing at once, and state 0 is the one of depth 0.
use mathlib.Core.Bool.{Bool, true, false, ◌&&◌, cond}
use mathlib.Core.List.{List, [], ◌∷◌, ◌++◌, append-nil}
use mathlib.Core.Logic.{◌≢◌}
use mathlib.Core.Path.{◌≡◌, refl, sym, ap, subst, ◌∙◌}
use Prim.Native.Nat.{ℕ, zero, suc, ◌+◌, ◌*◌, ◌-◌, ◌≤◌, ◌<◌}
use native.Mathlib.Omega.{arith}
use native.Mathlib.Nat.{suc-mul}
use lib.Dec.{T, eqb, leb, ltb, eqb→eq, ltb→lt, nltb→le}
use lib.ListN.{length, get_or, take, drop, replicate, length-append, length-drop, length-replicate, get_or-replicate, get_or-append}
use lib.Seq.{take_all, drop-nil, drop-cons, length-take-le, get_or-take, get_or-drop, get_or-append-add, drop-append-add}
use Rattle.lists.specs.Lists.{pad}
use Rattle.lists.proofs.Laws.Parts.{length_pad}
use Rattle.lists.proofs.Laws.Tests.{holds, below, split, of_cond, of_between}
use Rattle.meaning.specs.Table.{default_number, is_first, Single, Paired}
use Rattle.meaning.specs.Block.{at, block_output}
use Rattle.automaton.specs.Sound.{longest_word, expansion_word, state_count, depth_word, accept_word, target_word, class_count, block_at, mode_at, sound_state, sound}
use Rattle.automaton.specs.Classes.{class_of}
use Rattle.automaton.specs.Automaton.{from_words}
use Rattle.words.specs.declared.numbers.StateNo.{StateNo}
use Rattle.automaton.proofs.Laws.Words.{sound_state_lem, sound_class, sound_good, length_block_output}
use Rattle.reckoning.specs.Machine.{taking, fall}
use Rattle.reckoning.specs.Uses.{use_counts}
use Rattle.session.specs.bridge.Counting.{bumped}
use Rattle.session.specs.bridge.Running.{Painted, TakenAlone, put, first_of, Placed, Lent, lent, Proceeds, Beyond, Passes, PassesByDefaults, Between, ReadsOn, read_to, begun_at, Read, Back}
use Rattle.session.specs.declared.kept.Status.TheVariants as Code
use Rattle.session.specs.declared.run.Ran.{Ran}
use Rattle.session.specs.declared.run.Ahead.{Ahead}
use Rattle.session.proofs.Laws.Counting.{bumped_none, bumped_again}
use Rattle.session.proofs.Laws.Falling.{alone_fall, default_there}
use Rattle.session.proofs.Laws.Running.{put_none, first_at, character_backs, character_reads, decides_character, turn_room, turn_small, write_block, mode_words, advances_read, advances_one, beyond_on}
use Rattle.automaton.specs.Layout.{classes_from}

-- a part of a table is painted with the number that belongs there
pub painted : (f : ℕ → ℕ) (table part rest : List ℕ) (from to x : ℕ) → from ≤ length table → part ≡ replicate (to - from) x →
    ((i : ℕ) → i < from → get_or table i 0 ≡ f i) → ((i : ℕ) → from ≤ i → i < to → f i ≡ x) → (i : ℕ) → i < to → get_or (take from table ++ (part ++ rest)) i 0 ≡ f i
painted f table part rest from to x h e before here i l =
    let front = take from table in
    let size : length front ≡ from = length-take-le from table h in
    split (ltb i from)
    (λ t. let b : i < from = ltb→lt i from t in get_or-append front (part ++ rest) 0 i (omega arith) ∙ get_or-take from table i 0 b ∙ before i b)
    (λ t.
    let b : from ≤ i = nltb→le i from t in
    let z : i ≡ length front + (i - from) = omega arith in
    ap (λ n. get_or (front ++ (part ++ rest)) n 0) z
    ∙ get_or-append-add front (part ++ rest) (i - from) 0
    ∙ get_or-append part rest 0 (i - from) (omega (arith, ap length e, length-replicate (to - from) x))
    ∙ ap (λ p. get_or p (i - from) 0) e
    ∙ get_or-replicate (to - from) (i - from) x 0 (omega arith)
    ∙ sym (here i b l))

-- a table that is painted so, where what was before is what belongs there
pub repainted : (f : ℕ → ℕ) (before after : List ℕ) (from to x : ℕ) → ((i : ℕ) → i < from → get_or before i 0 ≡ f i) → Painted before from to x after →
    ((i : ℕ) → from ≤ i → i < to → f i ≡ x) → (i : ℕ) → i < to → get_or after i 0 ≡ f i
repainted f before after from to x old new here i h =
    new i h
    ∙ of_cond (λ n. n ≡ f i) (ltb i from) (get_or before i 0) x (λ t. old i (ltb→lt i from t)) (λ t. sym (here i (nltb→le i from t) h))

-- The text beyond those given back is the piece's.

beyond_given : (given piece : List ℕ) (n : ℕ) → length given ≤ n → drop n (given ++ piece) ≡ drop (n - length given) piece
beyond_given given piece n h =
    let e : n ≡ length given + (n - length given) = omega arith in
    ap (λ k. drop k (given ++ piece)) e ∙ drop-append-add given piece (n - length given)

pub piece_part : (given piece : List ℕ) (n k : ℕ) → length given ≤ n →
    take k (take (length piece - (n - length given)) (drop (n - length given) piece)) ≡ take k (drop n (given ++ piece))
piece_part given piece n k h =
    ap (take k) (take_all (length piece - (n - length given)) (drop (n - length given) piece) (omega (arith, length-drop (n - length given) piece))
    ∙ sym (beyond_given given piece n h))

-- The part of the text where the machine is.

abbrev pub part_of : List ℕ → List ℕ → ℕ → List ℕ
part_of given piece n = first_of (drop n given) (drop (n - length given) piece)

part_rest : (given piece : List ℕ) (n : ℕ) → (rest : List ℕ) × (drop n (given ++ piece) ≡ part_of given piece n ++ rest)
part_rest [] piece n = let e : n - 0 ≡ n = omega arith in rw (drop-nil n, e) ([], sym (append-nil (drop n piece)))
part_rest (x ∷ given) piece zero = (piece, refl)
part_rest (x ∷ given) piece (suc n) = let e : suc n - suc (length given) ≡ n - length given = omega arith in rw e (part_rest given piece n)

module _ (given piece part : List ℕ) (n : ℕ) (e : part ≡ part_of given piece n) where
  abbrev u : List ℕ
  u = given ++ piece

  part_split : drop n u ≡ part ++ (part_rest given piece n).0
  part_split = (part_rest given piece n).1 ∙ ap (λ l. l ++ (part_rest given piece n).0) (sym e)

  pub part_inside : n ≤ length u → n + length part ≤ length u
  part_inside h = omega (arith, length-drop n u, ap length part_split, length-append part (part_rest given piece n).0)

  pub part_some : n < length u → 0 < length part
  part_some h = omega (arith, ap length e, (first_at given piece n (omega (arith, length-append given piece))).0)

  pub part_at : (i : ℕ) → i < length part → get_or part i 0 ≡ get_or u (n + i) 0
  part_at i h = sym (get_or-append part (part_rest given piece n).0 0 i h) ∙ ap (λ l. get_or l i 0) (sym part_split) ∙ get_or-drop n u i 0

  -- one character
  pub part_one : (i : ℕ) → i < length part → n ≤ length u → take 1 (drop i part) ≡ take 1 (drop (n + i) u)
  part_one i h k =
      ap (take 1) (drop-cons part i 0 h) ∙ ap (λ c. c ∷ []) (part_at i h) ∙ ap (take 1) (sym (drop-cons u (n + i) 0 (omega (arith, part_inside k))))

-- A run that leads on, and then on again.

pub passes_same : (w u : List ℕ) (room : ℕ) (old new : Ran) (has : Lent) → Placed w u room old → new.state.0 ≡ old.state.0 → new.from ≡ old.from →
    new.at ≡ old.at → new.count ≡ old.count → new.steps ≡ old.steps → Passes w u room old has new has
passes_same w u room old new has P e₁ e₂ e₃ e₄ e₅ =
    let i₁ = P.order in
    let i₂ = P.inside in
    let i₃ = P.few in
    let placed : Placed w u room new =
    record {
      order = omega arith;
      inside = omega arith;
      state = rw e₁ P.state;
      depth = rw (e₁, e₂, e₃) P.depth;
      written = rw (e₂, e₄) P.written;
      enough = P.enough;
      short = P.short;
      few = omega arith;
    } in (
      placed,
      omega arith,
      λ ended r found G. record {
        log = G.log;
        runs = rw (e₁, e₂, e₃, e₅) G.runs;
        covers = G.covers ∙ sym e₂;
        count = e₄ ∙ G.count;
        text = λ any. ap (λ k. take k has.output) e₄ ∙ G.text any;
        uses = G.uses;
      },
    )

passes_on : (w u : List ℕ) (room : ℕ) (old mid new : Ran) (before between after : Lent) → Passes w u room old before mid between →
    ((ended : Bool) → Proceeds w u ended room mid between new after) → Passes w u room old before new after
passes_on w u room old mid new before between after p f =
    ((f false).0, omega (arith, p.1, (f false).1), λ ended r found G. (f ended).2 r found (p.2 ended r found G))

passes_both : (w u : List ℕ) (room : ℕ) (old mid new : Ran) (before between after : Lent) → Passes w u room old before mid between →
    Passes w u room mid between new after → Passes w u room old before new after
passes_both w u room old mid new before between after p f =
    (f.0, omega (arith, p.1, f.1), λ ended r found G. f.2 ended r found (p.2 ended r found G))

-- How far the machine reads by targets.

abbrev pub ahead : StateNo → ℕ → Ahead
ahead q n = record { state = q; at = n; stuck = false }

-- a run in one state at a place reads on to another state at another place
abbrev pub Reaches : List ℕ → List ℕ → StateNo → ℕ → StateNo → ℕ → Type 0
Reaches w u q n p m =
    (p.0 < state_count w)
    × ((now : Ran) (has : Lent) → now.state.0 ≡ q.0 → now.at ≡ n → Placed w u (length has.output) now →
    Passes w u (length has.output) now has (read_to now (ahead p m)) has)

abbrev pub class_in : List ℕ → ℕ → ℕ
class_in w x = class_of (take (class_count w) (drop classes_from w)) x

module _ (w u : List ℕ) (q : StateNo) (n : ℕ) where
  pub reaches_none : (m : ℕ) → m ≡ n → q.0 < state_count w → Reaches w u q n q m
  reaches_none m z h =
      (h, λ now has e a P. passes_same w u (length has.output) now (read_to now (ahead q m)) has P (sym e) refl (z ∙ sym a) refl (omega arith))

  pub reaches_next : T (sound w) → (p : StateNo) (m : ℕ) → Reaches w u q n p m → (t : StateNo) (k : ℕ) → k ≡ m + 1 → n ≤ m → m < length u →
      t.0 ≡ target_word w p.0 (class_in w (get_or u m 0)) → t.0 ≢ 0 → Reaches w u q n t k
  reaches_next W p m r t k z o some e h =
      let x = get_or u m 0 in
      let f = (sound_state_lem w W p.0 r.0).target (class_in w x) (sound_class w W x) (λ y. h (e ∙ y)) in
      let c = character_reads w W p.0 r.0 x t (sym f.no_accept) e h in (
        c.1.0,
        λ now has s a P.
            let mid = read_to now (ahead p m) in
            let l = r.1 now has s a P in
            passes_on w u (length has.output) now mid (read_to now (ahead t k)) has has has l
            (λ ended. advances_read w u ended W mid has l.0 (read_to now (ahead t k)) t
            (decides_character w u ended p.0 mid.from m (Read t) x some refl c.0) c.1 some refl refl z refl (omega arith)),
      )

module _ (w u : List ℕ) (now : Ran) (a : Ahead) (o : now.at ≤ a.at) (r : Reaches w u now.state now.at a.state a.at) where
  pub reads_stuck : a.stuck ≡ true → a.at < length u → target_word w a.state.0 (class_in w (get_or u a.at 0)) ≡ 0 → ReadsOn w u now a
  unfolding from_words
  reads_stuck e h z =
      record {
        onward = o;
        passes = λ has P. r.1 now has refl refl P;
        stuck = λ _. (h, z);
        free = λ f _. absurd (subst T (sym e ∙ f) tt);
      }

  pub reads_free : a.stuck ≡ false → (a.at < length u → now.at < a.at) → ReadsOn w u now a
  reads_free e h =
      record {
        onward = o;
        passes = λ has P. r.1 now has refl refl P;
        stuck = λ t. absurd (subst T (sym t ∙ e) tt);
        free = λ _. h;
      }

-- How far defaults are written, in state 0 and with an empty store.

-- the only state of depth 0 is state 0, which accepts nothing at once
first_state : (w : List ℕ) → T (sound w) → (q : ℕ) → q < state_count w → depth_word w q ≡ 0 → q ≡ 0
unfolding sound sound_state
first_state w W q b z =
    let depth = depth_word w q in
    let h = holds _ (below (state_count w) _ (holds _ W).1.1.1.1.0 q b) in
    let deep : T (leb 1 depth && leb depth (longest_word w)) → 1 ≤ depth = λ t. (of_between 1 (longest_word w) depth t).0 in
    of_cond (λ c. T c → q ≡ 0) (eqb q 0) (eqb depth 0) (leb 1 depth && leb depth (longest_word w)) (λ e _. eqb→eq q 0 e) (λ _ t. absurd (omega (arith, deep t))) h.0

first_accept : (w : List ℕ) → T (sound w) → accept_word w 0 ≡ 0
unfolding from_words
first_accept w W = (sound_good w W).accept_0

-- the run between two words, in the state where it is
abbrev between_at : Ran → ℕ → ℕ → ℕ → Ran
between_at now place written made = record { status = Code.Open; state = now.state; from = place; at = place; count = written; steps = made }

-- a run with an empty store at place n, with a count and steps, writes defaults up to another place, and uses the default for each character
abbrev pub Defaulted : List ℕ → List ℕ → ℕ → ℕ → ℕ → List ℕ → ℕ → ℕ → ℕ → List ℕ → Type 0
Defaulted w u n count made before m written more after =
    (now : Ran) → now.from ≡ n → now.at ≡ n → now.count ≡ count → now.steps ≡ made → Placed w u (length before) now →
    (n ≤ m)
    × ((uses : List ℕ) → length uses ≡ use_counts →
    Passes w u (length before) now (lent before uses) (between_at now m written more) (lent after (bumped uses default_number (m - n))))
    × Beyond now before (between_at now m written more) after

-- the run keeps its bounds, whatever the counts of uses
defaulted_placed : (w u : List ℕ) (room : ℕ) (old new : Ran) (before after : List ℕ) (n : ℕ) →
    ((uses : List ℕ) → length uses ≡ use_counts → Passes w u room old (lent before uses) new (lent after (bumped uses default_number n))) → Placed w u room new
defaulted_placed w u room old new before after n f = (f (pad use_counts []) (length_pad use_counts [])).0

-- one more character that is taken alone
pub taken_next : (w part : List ℕ) (marked : Bool) (n : ℕ) → TakenAlone w marked part n → target_word w 0 (class_in w (get_or part n 0)) ≡ 0 →
    (marked && is_first (get_or part n 0)) ≡ false → TakenAlone w marked part (n + 1)
taken_next w part marked n old none one i h =
    split (ltb i n) (λ t. old i (ltb→lt i n t))
    (λ t.
    let e : n ≡ i = omega (arith, h, nltb→le i n t) in
    subst (λ k. (target_word w 0 (class_in w (get_or part k 0)) ≡ 0) × (marked && is_first (get_or part k 0) ≡ false)) e (none, one))

-- a character that is taken alone, without the mark or as no first unit, falls alone
falls_alone : (w u : List ℕ) (m : ℕ) (marked ended : Bool) → mode_at w ≡ cond marked Paired Single → (marked && is_first (get_or u m 0)) ≡ false →
    fall (mode_at w) ended (drop m u) ≡ taking default_number 1
falls_alone w u m false ended e h = ap (λ d. fall d ended (drop m u)) e
falls_alone w u m true ended e h =
    let z : m + 0 ≡ m = omega arith in
    ap (λ d. fall d ended (drop m u)) e ∙ alone_fall ended (drop m u) (ap is_first (get_or-drop m u 0 0 ∙ ap (λ k. get_or u k 0) z) ∙ h)

module _ (w u : List ℕ) (n count made : ℕ) (before : List ℕ) where
  pub defaulted_none : (m more : ℕ) → m ≡ n → more ≡ made → Defaulted w u n count made before m count more before
  defaulted_none m more z y now e₁ e₂ e₃ e₄ P =
      let new = between_at now m count more in
      let none : m - n ≡ 0 = omega arith in
      let same : (uses : List ℕ) → uses ≡ bumped uses default_number (m - n) = λ uses. sym (ap (bumped uses default_number) none ∙ bumped_none uses default_number) in (
        omega arith,
        λ uses _.
            subst (λ l. Passes w u (length before) now (lent before uses) new (lent before l)) (same uses)
            (passes_same w u (length before) now new (lent before uses) P refl (z ∙ sym e₁) (z ∙ sym e₂) (sym e₃) (y ∙ sym e₄)),
        (omega arith, refl),
      )

  pub defaulted_next : T (sound w) → (m written more : ℕ) → ((ended : Bool) → fall (mode_at w) ended (drop m u) ≡ taking default_number 1) →
      (between : List ℕ) → length between ≡ length before →
      Defaulted w u n count made before m written more between → m < length u → target_word w 0 (class_in w (get_or u m 0)) ≡ 0 → (m' written' more' : ℕ) (after : List ℕ) →
      m' ≡ m + 1 → written' ≡ written + at (block_at w 32) 2 → more' ≡ more + 3 →
      after ≡ put between written (block_output (block_at w 32) (take 1 (drop m u))) →
      Defaulted w u n count made before m' written' more' after
  defaulted_next W m written more falls between size f some none m' written' more' after p₁ p₂ p₃ wrote now e₁ e₂ e₃ e₄ P =
      let x = get_or u m 0 in
      let q = now.state.0 in
      let old = between_at now m written more in
      let new = between_at now m' written' more' in
      let l = f now e₁ e₂ e₃ e₄ P in
      let z : q ≡ 0 = first_state w W q P.state (P.depth ∙ omega arith) in
      let placed : Placed w u (length between) old =
      subst (λ room. Placed w u room old) (sym size) (defaulted_placed w u (length before) now old before between (m - n) l.1) in
      let back = character_backs w W q P.state x (sym (ap (accept_word w) z ∙ first_accept w W)) (ap (λ s. target_word w s (class_in w x)) z ∙ none) in
      let word = take 1 (drop m u) in
      let there : at w 5 ≢ 0 = default_there w (drop m u) false default_number 1 (falls false) in
      let text = write_block w default_number word (omega arith) in
      let long : at (block_at w 32) 2 ≡ length ((from_words w).write default_number word) = sym (length_block_output (block_at w 32) word) ∙ ap length text in
      let next : m' - n ≡ m - n + 1 = omega (arith, l.0) in
      let counted : (uses : List ℕ) → length uses ≡ use_counts → bumped uses default_number (m' - n) ≡ bumped (bumped uses default_number (m - n)) default_number 1 =
      λ uses e. ap (bumped uses default_number) next ∙ sym (bumped_again uses default_number (m - n) 1 (omega (arith, e))) in
      let on : (uses : List ℕ) → length uses ≡ use_counts → (ended : Bool) →
      Proceeds w u ended (length between) old (lent between (bumped uses default_number (m - n))) new (lent after (bumped uses default_number (m' - n)))
      × Beyond old between new after =
      λ uses e ended. advances_one w u ended W old (lent between (bumped uses default_number (m - n))) placed new (decides_character w u ended q m m Back x some refl back) some
      (lent after (bumped uses default_number (m' - n)))
      (record {
        between = record { state = z; from = p₁; at = p₁; count = p₂ ∙ ap (λ k. written + k) long; steps = p₃ };
        wrote = wrote ∙ ap (put between written) text;
        counted = counted uses e;
      }) (ap (λ d. fall d ended (drop m u)) (sym (mode_words w)) ∙ falls ended) there in
      let beyond = (on (pad use_counts []) (length_pad use_counts []) false).1 in (
        omega (arith, l.0),
        λ uses e.
            passes_on w u (length before) now old new (lent before uses) (lent between (bumped uses default_number (m - n))) (lent after (bumped uses default_number (m' - n))) (l.1 uses e)
            (λ ended. subst (λ room. Proceeds w u ended room old (lent between (bumped uses default_number (m - n))) new (lent after (bumped uses default_number (m' - n)))) size (on uses e ended).0),
        (omega (arith, l.2.0, beyond.0), beyond_on old new before between after l.2.1 beyond),
      )

  -- and so on, without an output, for each character of a part that the default takes alone
  pub defaulted_alone : T (sound w) → length before ≡ 0 → (marked : Bool) → mode_at w ≡ cond marked Paired Single → (part : List ℕ) →
      ((i : ℕ) → i < length part → get_or part i 0 ≡ get_or u (n + i) 0) → n + length part ≤ length u →
      (k : ℕ) → k ≤ length part → TakenAlone w marked part k → Defaulted w u n count made before (n + k) (count + k * at (block_at w 32) 2) (made + 3 * k) before
  defaulted_alone W none marked mode part each inside zero h taken =
      let same : count ≡ count + 0 * at (block_at w 32) 2 = omega arith in
      subst (λ x. Defaulted w u n count made before (n + 0) x (made + 3 * 0) before) same (defaulted_none (n + 0) (made + 3 * 0) (omega arith) (omega arith))
  defaulted_alone W none marked mode part each inside (suc k) h taken =
      let outputs = at (block_at w 32) 2 in
      let there : k < length part = omega arith in
      let next = taken k (omega arith) in
      let alone : (marked && is_first (get_or u (n + k) 0)) ≡ false = ap (λ x. marked && is_first x) (sym (each k there)) ∙ next.1 in
      let more = suc-mul k outputs in
      defaulted_next W (n + k) (count + k * outputs) (made + 3 * k) (λ ended. falls_alone w u (n + k) marked ended mode alone) before refl
      (defaulted_alone W none marked mode part each inside k (omega arith) (λ i l. taken i (omega arith)))
      (omega (arith, there, inside)) (ap (λ x. target_word w 0 (class_in w x)) (sym (each k there)) ∙ next.0)
      (n + suc k) (count + suc k * outputs) (made + 3 * suc k) before (omega arith) (ap (λ x. count + x) more ∙ omega arith) (omega arith)
      (sym (put_none before (count + k * outputs) (block_output (block_at w 32) (take 1 (drop (n + k) u))) none))

  -- the count stays small
  pub defaulted_small : (now : Ran) → now.from ≡ n → now.at ≡ n → now.count ≡ count → now.steps ≡ made → Placed w u (length before) now → (m written more : ℕ) (after : List ℕ) →
      Defaulted w u n count made before m written more after → T (sound w) → written + 8 < 18446744073709551616
  defaulted_small now e₁ e₂ e₃ e₄ P m written more after f W =
      let new = between_at now m written more in
      turn_small w u (length before) new W (defaulted_placed w u (length before) now new before after (m - n) (f now e₁ e₂ e₃ e₄ P).1)

  -- the default has room
  pub defaulted_room : (now : Ran) → now.from ≡ n → now.at ≡ n → now.count ≡ count → now.steps ≡ made → Placed w u (length before) now → (m written more : ℕ) (after : List ℕ) →
      Defaulted w u n count made before m written more after → m < length u → T (sound w) → (k : ℕ) → k ≤ expansion_word w →
      (1 ≤ length before → written + k ≤ length before) × (written + 8 < 18446744073709551616)
  defaulted_room now e₁ e₂ e₃ e₄ P m written more after f some W k few =
      let new = between_at now m written more in
      let placed = defaulted_placed w u (length before) now new before after (m - n) (f now e₁ e₂ e₃ e₄ P).1 in
      (turn_room w u (length before) new placed some k few, turn_small w u (length before) new W placed)

  -- and then a character with a target is read
  pub defaulted_begins : T (sound w) → (now : Ran) → now.from ≡ n → now.at ≡ n → now.count ≡ count → now.steps ≡ made → Placed w u (length before) now →
      (m written more : ℕ) (after : List ℕ) → length after ≡ length before → Defaulted w u n count made before m written more after → m < length u → (t : StateNo) →
      t.0 ≡ target_word w 0 (class_in w (get_or u m 0)) → t.0 ≢ 0 → (new : Ran) → new ≡ begun_at t m written more →
      PassesByDefaults w u now before new after × Beyond now before new after
  defaulted_begins W now e₁ e₂ e₃ e₄ P m written more after size f some t e h new same =
      let x = get_or u m 0 in
      let q = now.state.0 in
      let old = between_at now m written more in
      let begun = begun_at t m written more in
      let l = f now e₁ e₂ e₃ e₄ P in
      let z : q ≡ 0 = first_state w W q P.state (P.depth ∙ omega arith) in
      let leads : t.0 ≡ target_word w q (class_in w x) = e ∙ ap (λ s. target_word w s (class_in w x)) (sym z) in
      let reads = character_reads w W q P.state x t (sym (ap (accept_word w) z ∙ first_accept w W)) leads h in
      let placed : Placed w u (length after) old =
      subst (λ room. Placed w u room old) (sym size) (defaulted_placed w u (length before) now old before after (m - n) l.1) in
      let on : (uses : List ℕ) (ended : Bool) → Proceeds w u ended (length before) old (lent after uses) begun (lent after uses) =
      λ uses ended.
      subst (λ room. Proceeds w u ended room old (lent after uses) begun (lent after uses)) size
      (advances_read w u ended W old (lent after uses) placed begun t (decides_character w u ended q m m (Read t) x some refl reads.0) reads.1 some refl refl refl refl refl) in
      let passes : (uses : List ℕ) → length uses ≡ use_counts →
      Passes w u (length before) now (lent before uses) begun (lent after (bumped uses default_number (m - now.from))) =
      λ uses k.
      subst (λ i. Passes w u (length before) now (lent before uses) begun (lent after (bumped uses default_number (m - i)))) (sym e₁)
      (passes_on w u (length before) now old begun (lent before uses) (lent after (bumped uses default_number (m - n))) (lent after (bumped uses default_number (m - n))) (l.1 uses k)
      (on (bumped uses default_number (m - n)))) in
      subst (λ r. PassesByDefaults w u now before r after × Beyond now before r after) (sym same) ((omega (arith, l.0), passes), l.2)

  pub defaulted_end : T (sound w) → (now : Ran) → now.from ≡ n → now.at ≡ n → now.count ≡ count → now.steps ≡ made → Placed w u (length before) now →
      (m written more : ℕ) (after : List ℕ) → Defaulted w u n count made before m written more after → (new : Ran) → Between m written more new →
      PassesByDefaults w u now before new after × Beyond now before new after
  defaulted_end W now e₁ e₂ e₃ e₄ P m written more after f new B =
      let old = between_at now m written more in
      let l = f now e₁ e₂ e₃ e₄ P in
      let z : now.state.0 ≡ 0 = first_state w W now.state.0 P.state (P.depth ∙ omega arith) in
      let here : new.from ≡ m = B.from in
      let placed = defaulted_placed w u (length before) now old before after (m - n) l.1 in
      let same : (uses : List ℕ) → Passes w u (length before) old (lent after uses) new (lent after uses) =
      λ uses. passes_same w u (length before) old new (lent after uses) placed (B.state ∙ sym z) here B.at B.count B.steps in
      let passes : (uses : List ℕ) → length uses ≡ use_counts →
      Passes w u (length before) now (lent before uses) new (lent after (bumped uses default_number (new.from - now.from))) =
      λ uses e.
      subst (λ k. Passes w u (length before) now (lent before uses) new (lent after (bumped uses default_number k))) (λ i. sym here i - sym e₁ i)
      (passes_both w u (length before) now old new (lent before uses) (lent after (bumped uses default_number (m - n))) (lent after (bumped uses default_number (m - n))) (l.1 uses e)
      (same (bumped uses default_number (m - n)))) in
      ((omega (arith, l.0), passes), rw B.count l.2)
