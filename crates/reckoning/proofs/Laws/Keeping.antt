-- The test of a session taken in parts: tests in a row, held places, and where held characters lead.
-- By one step of the definitions for each test and each character.
use mathlib.Core.Bool.{Bool, true, false, ◌&&◌, not, cond}
use mathlib.Core.List.{List, [], ◌∷◌, ◌++◌}
use mathlib.Core.Logic.{◌≢◌}
use Rattle.std.specs.Prelude.{Option, None, Some}
use mathlib.Core.Path.{◌≡◌, refl, sym, ap, subst, ◌∙◌}
use Prim.Native.Nat.{ℕ, suc, ◌+◌, ◌*◌, ◌≤◌, ◌<◌}
use native.Mathlib.Nat.{mul-le-mul}
use native.Mathlib.Omega.{arith}
use borrow.Author.Tests.{eq-eqb, ne_eqb}
use lib.Dec.{T, eqb, leb, leb→le}
use lib.ListN.{length, get_or, take, drop}
use lib.Seq.{length-take-le, drop-length, drop-cons, get_or-take}
use Rattle.lists.proofs.Laws.Options.{some_same, none_not}
use Rattle.lists.specs.Lists.{all}
use Rattle.lists.specs.Decide.{all_of}
use Rattle.lists.proofs.Laws.Tests.{to_T, and_assoc, holds}
use Rattle.meaning.specs.Direct.{limit}
use Rattle.automaton.specs.Sound.{state_count, longest_word, expansion_word, used, sound}
use Rattle.automaton.specs.Automaton.{Automaton, from_words}
use Rattle.automaton.proofs.Laws.Words.{sound_header_lem, sound_good}
use Rattle.reckoning.specs.Uses.{sound_uses}
use Rattle.reckoning.specs.Session.{Session, consumed, store, is_open, settled, path_if, path, sound_session, stands_at}

and_none : (b : Bool) → b && false ≡ false
and_none true = refl
and_none false = refl

-- the first tests in a row are one test
pub all_front : (xs ys : List Bool) → all_of (xs ++ ys) ≡ all_of (all_of xs ∷ ys)
unfolding all_of
all_front [] ys = refl
all_front (x ∷ xs) ys = ap (λ b. x && b) (all_front xs ys) ∙ sym (and_assoc x (all_of xs) (all_of ys))

-- a product of a small number and at most 2 ^ 40, or one more
pub product_small : (a n b : ℕ) → a ≤ n → b ≤ 1099511627777 → a * b ≤ n * 1099511627777
product_small a n b p q = mul-le-mul p q

pub cost_small : (w : List ℕ) → T (sound w) → {cost : ℕ} (b : ℕ) → cost ≡ longest_word w + 3 → b ≤ 1099511627777 → cost * b ≤ 11 * 1099511627777
cost_small w sure {cost} b e q =
    let h = (sound_header_lem w sure).longest in
    product_small cost 11 b (omega arith) q

-- places in a row from place i on: one that is not 0 fails, and past one that is 0 the others count
module _ (held : List ℕ) (i : ℕ) (b : i < length held) where
  pub place_fails : get_or held i 0 ≢ 0 → all (eqb 0) (drop i held) ≡ false
  place_fails h = rw (drop-cons held i 0 b, ne_eqb 0 (get_or held i 0) (λ e. h (sym e))) refl

  pub place_passes : get_or held i 0 ≡ 0 → all (eqb 0) (drop i held) ≡ all (eqb 0) (drop (i + 1) held)
  place_passes h = let n : i + 1 ≡ suc i = omega arith in rw (drop-cons held i 0 b, n, eq-eqb 0 (get_or held i 0) (sym h)) refl

-- the held characters from character i on
pub held_next : (held : List ℕ) (count i : ℕ) → i < count → count ≤ length held →
    drop i (take count held) ≡ get_or held i 0 ∷ drop (i + 1) (take count held)
held_next held count i b l =
    let e = length-take-le count held l in
    let n : i + 1 ≡ suc i = omega arith in
    let c : i < length (take count held) = omega arith in
    rw n (drop-cons (take count held) i 0 c ∙ ap (λ x. x ∷ drop (suc i) (take count held)) (get_or-take count held i 0 b))

pub held_done : (held : List ℕ) (count : ℕ) → count ≤ length held → drop count (take count held) ≡ []
held_done held count l = ap (λ n. drop n (take count held)) (sym (length-take-le count held l)) ∙ drop-length (take count held)

-- by whether a character leads on: what follows it counts or not
stops : (b : Bool) (n : ℕ) (x : Option ℕ) → path_if b (Some n) ≡ None → path_if b x ≡ None
stops true n x e = absurd (none_not n (sym e))
stops false n x e = refl

goes : (b : Bool) (n r : ℕ) (f : ℕ → Option ℕ) → path_if b (Some n) ≡ Some r → path_if b (f n) ≡ f r
goes true n r f e = ap f (some_same n r e)
goes false n r f e = absurd (none_not r e)

inside : (b : Bool) (n r k : ℕ) → n < k → path_if b (Some n) ≡ Some r → r < k
inside true n r k h e = subst (λ x. x < k) (some_same n r e) h
inside false n r k h e = absurd (none_not r e)

module _ (m : Automaton) (q c : ℕ) where
  -- the character leads on
  abbrev leads_on_lem : Bool
  leads_on_lem = used (m.target q c) && not (settled m (m.target q c))

  pub path_unused : m.target q c ≡ 0 → path m q (c ∷ []) ≡ None
  unfolding path
  path_unused e = rw (eq-eqb _ _ e) refl

  pub path_settled : settled m (m.target q c) ≡ true → path m q (c ∷ []) ≡ None
  unfolding path
  path_settled e = rw (e, and_none (used (m.target q c))) refl

  pub path_one : m.target q c ≢ 0 → settled m (m.target q c) ≡ false → path m q (c ∷ []) ≡ Some (m.target q c)
  unfolding path
  path_one n e = rw (e, ne_eqb _ _ n) refl

  -- more characters after one
  pub path_stops : (cs : List ℕ) → path m q (c ∷ []) ≡ None → path m q (c ∷ cs) ≡ None
  unfolding path
  path_stops cs e = stops leads_on_lem (m.target q c) (path m (m.target q c) cs) e

  pub path_goes : (r : ℕ) (cs : List ℕ) → path m q (c ∷ []) ≡ Some r → path m q (c ∷ cs) ≡ path m r cs
  unfolding path
  path_goes r cs e = goes leads_on_lem (m.target q c) r (λ s. path m s cs) e

-- a character leads from a state to a state
pub path_inside : (w : List ℕ) → T (sound w) → (q c r : ℕ) → q < state_count w → path (from_words w) q (c ∷ []) ≡ Some r → r < state_count w
unfolding path
path_inside w sure q c r b e =
    inside (leads_on_lem (from_words w) q c) ((from_words w).target q c) r (state_count w) ((sound_good w sure).inside q c b) e

-- the test of a session: the counts, the places not in use, how often each rule was used, and what its status asks
module _ (w : List ℕ) (s : Session) where
  abbrev pub counts_test : ℕ → Bool
  counts_test most =
      all_of (leb s.received limit ∷ leb s.count s.received ∷ leb s.produced (most * consumed s) ∷ leb s.count 8 ∷ [])

  abbrev pub others_test : Bool
  others_test = all (eqb 0) (drop s.count s.held)

  abbrev pub uses_test : Bool
  uses_test = sound_uses w s.uses (consumed s)

  abbrev pub open_test : Bool
  open_test =
      all_of (stands_at (from_words w) s.state (store s) ∷ leb s.steps ((longest_word w + 3) * consumed s + s.count) ∷ [])

  abbrev pub ended_test : Bool
  ended_test = all_of (eqb s.state 0 ∷ eqb s.count 0 ∷ leb s.steps ((longest_word w + 3) * (consumed s + 1)) ∷ [])

  pub session_parts : sound_session w s ≡ all_of (counts_test (expansion_word w) ∷ others_test ∷ uses_test ∷ cond (is_open s.status) open_test ended_test ∷ [])
  unfolding sound_session
  session_parts =
      all_front
      (leb s.received limit ∷ leb s.count s.received ∷ leb s.produced (expansion_word w * consumed s) ∷ leb s.count 8 ∷ [])
      (others_test ∷ uses_test ∷ cond (is_open s.status) open_test ended_test ∷ [])

  pub counts_known : (most : ℕ) → counts_test most ≡ true → (s.received ≤ limit) × (s.count ≤ s.received) × (s.count ≤ 8)
  counts_known most e =
      let h = holds _ (to_T (counts_test most) e) in
      (leb→le s.received limit h.0, leb→le s.count s.received h.1.0, leb→le s.count 8 h.1.1.1.0)
