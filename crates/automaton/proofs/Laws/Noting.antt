-- The words and the sets on the compiler's way: each store notes one thing more, and leaves the rest as it is.
-- Each column of words is filled from the front; a store at its next place fills it on, and no two columns share a place.
use mathlib.Core.List.{List, [], ◌∷◌, ◌++◌}
use mathlib.Core.Logic.{◌≢◌}
use mathlib.Core.Path.{◌≡◌, refl, sym, ap, subst, ◌∙◌}
use Rattle.std.specs.Prelude.{Some, None}
use Prim.Native.Nat.{ℕ, suc, ◌+◌, ◌*◌, ◌^◌, ◌≤◌, ◌<◌}
use native.Mathlib.Decide.{ℕ_discrete}
use native.Mathlib.Omega.{arith}
use lib.ListN.{length, get_or, set, length-append, length-set, get_or-append}
use lib.Seq.{get_or-set_same, get_or-set_other, take-set-le, drop-set-lt, get_or-append_seam}
use Rattle.lists.specs.Lists.{flat_map}
use Rattle.lists.proofs.Laws.Options.{none_not}
use Rattle.lists.proofs.Laws.Sets.{tab_is}
use Rattle.meaning.specs.Table.{Table}
use Rattle.meaning.specs.Block.{at}
use Rattle.automaton.specs.Classes.{starts}
use Rattle.automaton.specs.States.{State, initial, states, accept_of, accept_at_end_of}
use Rattle.automaton.specs.Layout.{target_words, blocks_from, classes_from, states_from, targets_from, targets_size, word_count}
use Rattle.automaton.specs.Sound.{depth_word, accept_at_end_word, accept_word}
use Rattle.automaton.specs.bridge.Build.{state_of, states_at}
use Rattle.automaton.specs.bridge.Noted.{Filled, Noted, NotedAt, Kept, Onward}
use Rattle.automaton.proofs.Laws.Good.{state_at}

-- a column filled from the front

module _ {column wanted : ℕ → ℕ} {m most : ℕ} (f : Filled column wanted m most) where
  -- by words that are the same there
  filled_as : (other : ℕ → ℕ) → ((i : ℕ) → i < most → other i ≡ column i) → Filled other wanted m most
  filled_as other e =
      let z : m ≤ most = f.within in
      record { within = z; done = λ i h. e i (omega arith) ∙ f.done i h; blank = λ i h k. e i k ∙ f.blank i h k }

  -- by one word more
  filled_on : (other : ℕ → ℕ) → m < most → other m ≡ wanted m → ((i : ℕ) → i < most → i ≢ m → other i ≡ column i) → Filled other wanted (suc m) most
  filled_on other l v e =
      record {
        within = omega arith;
        done = λ i h. elim (ℕ_discrete i m) [ yes p ↦ subst (λ j. other j ≡ wanted j) (sym p) v | no p ↦ e i (omega arith) p ∙ f.done i (omega arith) ];
        blank = λ i h k. e i k (λ p. omega arith) ∙ f.blank i (omega arith) k;
      }

  pub filled_skip : m < most → wanted m ≡ 0 → Filled column wanted (suc m) most
  filled_skip l e = filled_on column l (f.blank m (omega arith) l ∙ sym e) (λ i _ _. refl)

-- stores

pub kept_same : (w : List ℕ) → Kept w w
kept_same w = record { size = refl; front = refl; back = refl }

pub kept_set : (w : List ℕ) (p v : ℕ) → states_from ≤ p → p < blocks_from → Kept w (set w p v)
kept_set w p v h k = record { size = length-set w p v; front = take-set-le states_from w p v h; back = drop-set-lt blocks_from w p v k }

pub kept_on : {a b c : List ℕ} → Kept a b → Kept b c → Kept a c
kept_on k l = record { size = l.size ∙ k.size; front = l.front ∙ k.front; back = l.back ∙ k.back }

module _ {t : Table} {n : ℕ} {qs : List State} {e a m : ℕ} {w sets : List ℕ} {count : ℕ} (N : Noted t n qs e a m w sets count) where
  -- a store that leaves the states as they are, and what it makes of the three columns
  noted_store : (p v e' a' m' : ℕ) → states_from ≤ p → ((i : ℕ) → i < 256 → states_from + 3 * i ≢ p) →
      Filled (accept_at_end_word (set w p v)) (λ i. accept_at_end_of t (state_at t i)) e' 256 →
      Filled (accept_word (set w p v)) (λ i. accept_of t (state_at t i)) a' 256 →
      Filled (λ i. at (set w p v) (targets_from + i)) (at (flat_map (target_words t) (states t))) m' targets_size →
      Noted t n qs e' a' m' (set w p v) sets count
  noted_store p v e' a' m' h g fe fa ft =
      let few : count ≤ 256 = N.few in
      let narrow : length (starts t) ≤ 64 = N.narrow in
      record {
        room = rw length-set N.room;
        places = N.places;
        narrow = narrow;
        class_starts = λ k l. get_or-set_other w p (classes_from + k) v 0 (λ q. omega arith) ∙ N.class_starts k l;
        counted = N.counted;
        few = few;
        met = λ i l. ap (λ d. state_of n d (at sets i)) (depth i (omega arith)) ∙ N.met i l;
        fit = N.fit;
        shallow = λ i l. subst (λ d. d ≤ i) (sym (depth i (omega arith))) (N.shallow i l);
        unmet = λ i l k. depth i k ∙ N.unmet i l k;
        ends = fe;
        accepts = fa;
        targets = ft;
      }
    where
      depth : (i : ℕ) → i < 256 → depth_word (set w p v) i ≡ depth_word w i
      depth i l = get_or-set_other w p (states_from + 3 * i) v 0 (g i l)

  -- a column that the store does not touch
  module _ (p v : ℕ) {wanted : ℕ → ℕ} {k most : ℕ} where
    apart : (place : ℕ → ℕ) → Filled (λ i. at w (place i)) wanted k most → ((i : ℕ) → i < most → place i ≢ p) → Filled (λ i. at (set w p v) (place i)) wanted k most
    apart place f g = filled_as f (λ i. at (set w p v) (place i)) (λ i h. get_or-set_other w p (place i) v 0 (g i h))

    -- one that it fills on
    filling : (place : ℕ → ℕ) → Filled (λ i. at w (place i)) wanted k most → k < most → p ≡ place k → p < length w → v ≡ wanted k →
        ((i : ℕ) → i < most → i ≢ k → place i ≢ p) → Filled (λ i. at (set w p v) (place i)) wanted (suc k) most
    filling place f l q s r g =
        filled_on f (λ i. at (set w p v) (place i)) l (ap (at (set w p v)) (sym q) ∙ get_or-set_same w p v 0 s ∙ r)
        (λ i h d. get_or-set_other w p (place i) v 0 (g i h d))

  pub noted_end : (v : ℕ) → e < 256 → v ≡ accept_at_end_of t (state_at t e) → Noted t n qs (suc e) a m (set w (states_from + 1 + 3 * e) v) sets count
  noted_end v h q =
      let p : ℕ = states_from + 1 + 3 * e in
      let r : word_count ≤ length w = N.room in
      noted_store p v (suc e) a m (omega arith) (λ i l k. omega arith)
      (filling p v (λ i. states_from + 1 + 3 * i) N.ends h refl (omega arith) q (λ i l k z. k (omega arith)))
      (apart p v (λ i. states_from + 2 + 3 * i) N.accepts (λ i l k. omega arith))
      (apart p v (λ i. targets_from + i) N.targets (λ i l k. omega arith))

  pub noted_accept : (v : ℕ) → a < 256 → v ≡ accept_of t (state_at t a) → Noted t n qs e (suc a) m (set w (states_from + 2 + 3 * a) v) sets count
  noted_accept v h q =
      let p : ℕ = states_from + 2 + 3 * a in
      let r : word_count ≤ length w = N.room in
      noted_store p v e (suc a) m (omega arith) (λ i l k. omega arith)
      (apart p v (λ i. states_from + 1 + 3 * i) N.ends (λ i l k. omega arith))
      (filling p v (λ i. states_from + 2 + 3 * i) N.accepts h refl (omega arith) q (λ i l k z. k (omega arith)))
      (apart p v (λ i. targets_from + i) N.targets (λ i l k. omega arith))

  pub noted_put : (v : ℕ) → m < targets_size → v ≡ at (flat_map (target_words t) (states t)) m → Noted t n qs e a (suc m) (set w (targets_from + m) v) sets count
  noted_put v h q =
      let p : ℕ = targets_from + m in
      let r : word_count ≤ length w = N.room in
      noted_store p v e a (suc m) (omega arith) (λ i l k. omega arith)
      (apart p v (λ i. states_from + 1 + 3 * i) N.ends (λ i l k. omega arith))
      (apart p v (λ i. states_from + 2 + 3 * i) N.accepts (λ i l k. omega arith))
      (filling p v (λ i. targets_from + i) N.targets h refl (omega arith) q (λ i l k z. k (omega arith)))

  -- the states met, as a list
  pub noted_list : states_at w sets n count ≡ qs
  unfolding states_at
  noted_list = tab_is (λ i. state_of n (depth_word w i) (at sets i)) count qs (initial t) N.counted N.met

  -- one state more
  pub noted_add : (d x : ℕ) → count < 256 → d ≤ count → x < 2 ^ n →
      Noted t n (qs ++ state_of n d x ∷ []) e a m (set w (states_from + 3 * count) d) (set sets count x) (suc count)
  noted_add d x h l b =
      let p : ℕ = states_from + 3 * count in
      let r : word_count ≤ length w = N.room in
      let s : length sets ≡ 256 = N.places in
      let c : length qs ≡ count = N.counted in
      let narrow : length (starts t) ≤ 64 = N.narrow in
      record {
        room = rw length-set r;
        places = length-set sets count x ∙ s;
        narrow = narrow;
        class_starts = λ k j. get_or-set_other w p (classes_from + k) d 0 (λ q. omega arith) ∙ N.class_starts k j;
        counted = length-append qs (state_of n d x ∷ []) ∙ omega arith;
        few = omega arith;
        met = λ i j. elim (ℕ_discrete i count) [
          | yes q ↦ rw q (ap (λ y. state_of n y (at (set sets count x) count)) here ∙ ap (state_of n d) there ∙ sym (ap (λ k. get_or (qs ++ state_of n d x ∷ []) k (initial t)) (sym c) ∙ get_or-append_seam qs (state_of n d x) [] (initial t)))
          | no q ↦ ap (λ y. state_of n y (at (set sets count x) i)) (depth i q) ∙ ap (state_of n (depth_word w i)) (before i q) ∙ N.met i (omega arith) ∙ sym (get_or-append qs (state_of n d x ∷ []) (initial t) i (omega arith))
        ];
        fit = λ i j. elim (ℕ_discrete i count) [
          | yes q ↦ subst (λ k. at (set sets count x) k < 2 ^ n) (sym q) (subst (λ y. y < 2 ^ n) (sym there) b)
          | no q ↦ subst (λ y. y < 2 ^ n) (sym (before i q)) (N.fit i (omega arith))
        ];
        shallow = λ i j. elim (ℕ_discrete i count) [
          | yes q ↦ subst (λ k. depth_word (set w p d) k ≤ k) (sym q) (subst (λ y. y ≤ count) (sym here) l)
          | no q ↦ subst (λ y. y ≤ i) (sym (depth i q)) (N.shallow i (omega arith))
        ];
        unmet = λ i j k. depth i (λ q. omega arith) ∙ N.unmet i (omega arith) k;
        ends = apart p d (λ i. states_from + 1 + 3 * i) N.ends (λ i j k. omega arith);
        accepts = apart p d (λ i. states_from + 2 + 3 * i) N.accepts (λ i j k. omega arith);
        targets = apart p d (λ i. targets_from + i) N.targets (λ i j k. omega arith);
      }
    where
      here : depth_word (set w (states_from + 3 * count) d) count ≡ d
      here = let r : word_count ≤ length w = N.room in get_or-set_same w (states_from + 3 * count) d 0 (omega arith)

      there : at (set sets count x) count ≡ x
      there = let s : length sets ≡ 256 = N.places in get_or-set_same sets count x 0 (omega arith)

      depth : (i : ℕ) → i ≢ count → depth_word (set w (states_from + 3 * count) d) i ≡ depth_word w i
      depth i q = get_or-set_other w (states_from + 3 * count) (states_from + 3 * i) d 0 (λ z. q (omega arith))

      before : (i : ℕ) → i ≢ count → at (set sets count x) i ≡ at sets i
      before i q = get_or-set_other sets count i x 0 q

  -- targets that are 0 stand there already
  pub noted_blank : (m' : ℕ) → Filled (λ i. at w (targets_from + i)) (at (flat_map (target_words t) (states t))) m' targets_size → Noted t n qs e a m' w sets count
  noted_blank m' f =
      record {
        room = N.room;
        places = N.places;
        narrow = N.narrow;
        class_starts = N.class_starts;
        counted = N.counted;
        few = N.few;
        met = N.met;
        fit = N.fit;
        shallow = N.shallow;
        unmet = N.unmet;
        ends = N.ends;
        accepts = N.accepts;
        targets = f;
      }

-- a step's answer

pub onward : {t : Table} {n a s k : ℕ} {w w' sets : List ℕ} {count : ℕ} → Kept w w' → NotedAt t n a s k w' sets count → Onward t n a s k w w' sets count (Some tt)
onward same N = record { kept = same; noted = λ _. N; over = λ e. absurd (none_not tt (sym e)) }

pub too_large : {t : Table} {n a s k : ℕ} {w w' sets : List ℕ} {count : ℕ} → Kept w w' → 256 < length (states t) → Onward t n a s k w w' sets count None
too_large same h = record { kept = same; noted = λ e. absurd (none_not tt e); over = λ _. h }
