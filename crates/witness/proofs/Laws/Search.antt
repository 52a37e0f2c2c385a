-- The search over the words of a table tells a live rule by an input that shows it, and a dead one.
-- Back from a state each step finds the latest state that leads there, and there is one until the first; the word grows by a class start a step.
use mathlib.Core.Bool.{Bool, true, false, not}
use mathlib.Core.List.{List, [], ◌∷◌, ◌++◌, append-nil}
use Rattle.std.specs.Prelude.{Option, None, Some, MatchOption, option_map}
use mathlib.Core.Path.{◌≡◌, refl, sym, ap, subst, ◌∙◌}
use Prim.Native.Nat.{ℕ, zero, suc, ◌+◌, ◌-◌, ◌≤◌, ◌<◌}
use native.Mathlib.Decide.{ℕ_discrete}
use native.Mathlib.Omega.{arith}
use lib.Dec.{T, T_not, eqb, eqb→eq}
use lib.ListN.{length, take, drop}
use Rattle.lists.specs.Lists.{pad}
use Rattle.lists.proofs.Laws.Tests.{to_T, of_T, of_not, of_cond, or_cases, or_left, or_right, eq→eqb, neqb→ne}
use Rattle.meaning.specs.Table.{Table}
use Rattle.meaning.specs.WellFormed.{WellFormed}
use Rattle.meaning.specs.Block.{at}
use Rattle.meaning.specs.Choices.{Dead, Shows, Verdict}
use Rattle.automaton.specs.Classes.{starts}
use Rattle.automaton.specs.States.{states}
use Rattle.automaton.specs.Layout.{words, classes_from}
use Rattle.automaton.specs.Sound.{state_count, class_count, depth_word, accept_at_end_word, accept_word, target_word, sound}
use Rattle.automaton.proofs.Laws.Words.{sound_header_lem, sound_state_lem}
use Rattle.automaton.proofs.Laws.Parents.{Onto, Reached, onto_here}
use Rattle.automaton.proofs.Laws.Searching.{words_back, words_parent, words_end, words_go, words_dead}
use Rattle.witness.specs.bridge.Search.{first_from, first_below, telling, leading, class_leading, word_back, word_to, input_at, state_telling, searched}

-- the first number at which a test passes

-- by cases on what was found
of_option : {A : Type 0} (P : A → Type 0) (f : ℕ → A) (a : A) (o : Option ℕ) → ((k : ℕ) → o ≡ Some k → P (f k)) → (o ≡ None → P a) →
    P (elim o [ Some k ↦ f k | None ↦ a ])
of_option P f a None some none = none refl
of_option P f a (Some k) some none = some k refl

module _ (p : ℕ → Bool) where
  -- the number found is the first from i on and below n that passes, and where none is found, none of them does
  abbrev pub First : ℕ → ℕ → Option ℕ → Type 0
  First i n r = MatchOption r ((k : ℕ) → i ≤ k → k < n → p k ≡ false) (λ k. (i ≤ k) × (k < n) × (p k ≡ true) × ((j : ℕ) → i ≤ j → j < k → p j ≡ false))

  -- that leaves no choice
  first_found : (i n m : ℕ) → n ≡ i + m → (r : Option ℕ) → First i n r → r ≡ first_from i m p
  first_found i n zero e None f = refl
  first_found i n zero e (Some k) f = absurd (let a = f.0 in let b = f.1 in let z : ⊥ = omega arith in z)
  first_found i n (suc m) e None f =
      rw (f i (omega arith) (omega arith)) (first_found (suc i) n m (omega arith) None (λ k l h. f k (omega arith) h))
  first_found i n (suc m) e (Some k) f =
      elim (ℕ_discrete k i) [
        | yes q ↦ rw (q, subst (λ x. p x ≡ true) q f.2) refl
        | no q ↦
            let l : i < k = let a = f.0 in omega arith in
            rw (f.3 i (omega arith) l) (first_found (suc i) n m (omega arith) (Some k) (l, f.1, f.2, λ j g h. f.3 j (omega arith) h))
      ]

  pub first_is : (n : ℕ) (r : Option ℕ) → First 0 n r → r ≡ first_below n p
  first_is n r f = first_found 0 n n (omega arith) r f

  first_says : (i n m : ℕ) → n ≡ i + m → First i n (first_from i m p)
  first_says i n zero e = λ k l h. absurd (let z : ⊥ = omega arith in z)
  first_says i n (suc m) e =
      of_cond (First i n) (p i) (Some i) (first_from (suc i) m p)
      (λ t. (omega arith, omega arith, of_T (p i) t, λ j l h. absurd (let z : ⊥ = omega arith in z)))
      (λ f. on (first_from (suc i) m p) (of_not (p i) f) (first_says (suc i) n m (omega arith)))
    where
      on : (r : Option ℕ) → p i ≡ false → First (suc i) n r → First i n r
      on None f g = λ k l h. elim (ℕ_discrete k i) [ yes q ↦ subst (λ x. p x ≡ false) (sym q) f | no q ↦ g k (omega arith) h ]
      on (Some k) f g =
          (let a = g.0 in omega arith, g.1, g.2, λ j l h. elim (ℕ_discrete j i) [ yes q ↦ subst (λ x. p x ≡ false) (sym q) f | no q ↦ g.3 j (omega arith) h ])

  pub first_passes : (n k : ℕ) → first_below n p ≡ Some k → (k < n) × (p k ≡ true)
  first_passes n k e = let f = subst (First 0 n) e (first_says 0 n n (omega arith)) in (f.1, f.2)

  pub first_none : (n : ℕ) → first_below n p ≡ None → (j : ℕ) → j < n → p j ≡ false
  first_none n e j h = subst (First 0 n) e (first_says 0 n n (omega arith)) j (omega arith) h

-- a number put before the others, in places that are 0 behind them
pub pad_front : (n x : ℕ) (v : List ℕ) → length v < n → x ∷ take (length v) (pad n v) ++ drop (length v + 1) (pad n v) ≡ pad n (x ∷ v)
unfolding pad
pad_front n x v h = let e : length v + 1 ≡ suc (length v) = omega arith in rw e (go n x v h)
  where
    go : (n x : ℕ) (v : List ℕ) → length v < n → x ∷ take (length v) (pad n v) ++ drop (suc (length v)) (pad n v) ≡ pad n (x ∷ v)
    go zero x v h = absurd (omega arith)
    go (suc n) x [] h = refl
    go (suc n) x (y ∷ v) h = ap (λ l. x ∷ l) (go n y v (omega arith))

-- the same as it is put there, behind none
pub put_front : (places v : List ℕ) (x n : ℕ) → places ≡ pad 9 v → n ≡ length v → length v ≤ 8 →
    take 0 places ++ (x ∷ take (n - 0) (drop 0 places)) ++ drop (n + 1) places ≡ pad 9 (x ∷ v)
put_front places v x n e f h =
    let z : n - 0 ≡ length v = omega arith in
    rw (z, f, e) (pad_front 9 x v (omega arith))

-- and a 0 behind them
pub pad_behind : (n : ℕ) (v : List ℕ) → pad n (v ++ 0 ∷ []) ≡ pad n v
unfolding pad
pad_behind zero v = refl
pad_behind (suc n) [] = refl
pad_behind (suc n) (y ∷ v) = ap (λ l. y ∷ l) (pad_behind n v)

-- the walk back, over sound words

-- on the way to the goal: v leads there from state s, and the states below n are left to look at
pub record Back (w : List ℕ) (goal n s : ℕ) (v : List ℕ) : Type 0 where
  pub word : word_to w goal ≡ word_back w n s v
  pub left : n ≤ s
  pub there : s < state_count w
  pub goal_there : goal < state_count w
  pub depths : length v + depth_word w s ≡ depth_word w goal

-- a class that is found leads to the state
pub back_to : (w : List ℕ) (p s k : ℕ) → class_leading w p s ≡ Some k → (k < class_count w) × (target_word w p k ≡ s)
back_to w p s k e = let f = first_passes (leading w p s) (class_count w) k e in (f.0, eqb→eq (target_word w p k) s (to_T (leading w p s k) f.1))

module _ (w : List ℕ) (S : T (sound w)) where
  pub back_start : (goal : ℕ) → goal < state_count w → Back w goal goal goal []
  back_start goal h = record { word = refl; left = omega arith; there = h; goal_there = h; depths = omega arith }

  module _ (goal n s : ℕ) (v : List ℕ) (B : Back w goal n s v) where
    -- the word has at most 8 characters
    pub back_few : length v ≤ 8
    back_few =
        let a = (sound_state_lem w S goal B.goal_there).shallow in
        let b = (sound_header_lem w S).longest in
        let d = B.depths in
        omega arith

    abbrev p : ℕ
    p = n - 1

    abbrev go_back : Option ℕ → List ℕ
    go_back o = elim o [ Some k ↦ word_back w p p (at w (classes_from + k) ∷ v) | None ↦ word_back w p s v ]

    module _ (z : 0 < n) where
      pub back_none : class_leading w p s ≡ None → Back w goal p s v
      unfolding word_back
      back_none h =
          let e : n ≡ suc p = omega arith in
          let l = B.left in
          record { word = B.word ∙ ap (λ m. word_back w m s v) e ∙ ap go_back h; left = omega arith; there = B.there; goal_there = B.goal_there; depths = B.depths }

      module _ (k : ℕ) (h : class_leading w p s ≡ Some k) where
        back_deeper : depth_word w s ≡ suc (depth_word w p)
        back_deeper =
            let l = B.left in
            let i = B.there in
            let t = back_to w p s k h in
            subst (λ q. depth_word w q ≡ suc (depth_word w p)) t.1
            ((sound_state_lem w S p (omega arith)).target k t.0 (λ n. let y : s ≡ 0 = sym t.1 ∙ n in omega arith)).deeper

        pub back_found : Back w goal p p (at w (classes_from + k) ∷ v)
        unfolding word_back
        back_found =
            let e : n ≡ suc p = omega arith in
            let l = B.left in
            let i = B.there in
            let d = B.depths in
            let d' = back_deeper in
            record { word = B.word ∙ ap (λ m. word_back w m s v) e ∙ ap go_back h; left = omega arith; there = omega arith; goal_there = B.goal_there; depths = omega arith }

    pub back_end : n ≡ 0 → word_to w goal ≡ v
    unfolding word_back
    back_end z = B.word ∙ ap (λ m. word_back w m s v) z

-- over the words of a table

module _ (t : Table) (W : WellFormed t) (narrow : length (starts t) ≤ 64) (few : length (states t) ≤ 256) (rest : List ℕ) (S : T (sound (words t ++ rest))) where
  abbrev w : List ℕ
  w = words t ++ rest

  -- no state from n on leads to state s, unless s is the first
  abbrev NoneFrom : ℕ → ℕ → Type 0
  NoneFrom n s = 0 < s → (p k : ℕ) → n ≤ p → p < state_count w → k < class_count w → target_word w p k ≡ s → ⊥

  -- targets lie behind their states
  none_behind : (s : ℕ) → NoneFrom s s
  none_behind s z p k l h i e =
      let a : p < target_word w p k = ((sound_state_lem w S p h).target k i (λ n. let y : s ≡ 0 = sym e ∙ n in omega arith)).later in
      omega arith

  onto_first : (n s goal : ℕ) (v : List ℕ) → n ≤ s → s < state_count w → NoneFrom n s → Onto t s goal v → Reached t goal (word_back w n s v)
  unfolding word_back
  onto_first zero zero goal v l h f o = o
  onto_first zero (suc s) goal v l h f o =
      let P = words_parent t W narrow few rest (suc s) (omega arith) h in
      absurd (f (omega arith) P.0 P.1 (omega arith) P.2 P.3 P.4)
  onto_first (suc p) s goal v l h f o =
      of_option (Reached t goal) (λ k. word_back w p p (at w (classes_from + k) ∷ v)) (word_back w p s v) (class_leading w p s)
      (λ k e.
      let b = back_to w p s k e in
      onto_first p p goal (at w (classes_from + k) ∷ v) (omega arith) (omega arith) (none_behind p)
      (words_back t W narrow few rest p k s goal v (omega arith) b.0 b.1 (omega arith) o))
      (λ e.
      onto_first p s goal v (omega arith) h
      (λ z q c m j g i. elim (ℕ_discrete q p) [
        | yes y ↦ neqb→ne (target_word w p c) s (to_T (not (leading w p s c)) (ap not (first_none (leading w p s) (class_count w) e c g))) (subst (λ q. target_word w q c ≡ s) y i)
        | no y ↦ f z q c (omega arith) j g i
      ]) o)

  -- THE WORD OF A STATE LEADS TO IT.
  word_reaches : (s : ℕ) → s < state_count w → Reached t s (word_to w s)
  word_reaches s h = onto_first s s s [] (omega arith) h (none_behind s) (onto_here t s)

  shown : (r s : ℕ) → s < state_count w → T (telling w r s) → Shows t r (input_at w r s)
  shown r s h g =
      let v = word_to w s in
      let R : Reached t s v = word_reaches s h in
      of_cond (λ u. Shows t r (v ++ u)) (eqb (accept_at_end_word w s) (suc r)) [] (0 ∷ [])
      (λ e. rw (append-nil v) (words_end t W narrow few rest s r v h (eqb→eq (accept_at_end_word w s) (suc r) e) R))
      (λ n. words_go t W narrow few rest s r 0 v h
      (or_cases (eqb (accept_at_end_word w s) (suc r)) (eqb (accept_word w s) (suc r)) g
      (λ e. absurd (neqb→ne (accept_at_end_word w s) (suc r) n (eqb→eq (accept_at_end_word w s) (suc r) e))) (eqb→eq (accept_word w s) (suc r))) (omega arith) R)

  untold : (r : ℕ) → state_telling w r ≡ None → Dead t r
  untold r h =
      words_dead t W narrow few rest r (λ s i.
      let n : T (not (telling w r s)) = to_T (not (telling w r s)) (ap not (first_none (telling w r) (state_count w) h s i)) in (
        λ e. T_not (telling w r s) n (or_left (eqb (accept_at_end_word w s) (suc r)) (eqb (accept_word w s) (suc r)) (eq→eqb (accept_at_end_word w s) (suc r) e)),
        λ e. T_not (telling w r s) n (or_right (eqb (accept_at_end_word w s) (suc r)) (eqb (accept_word w s) (suc r)) (eq→eqb (accept_word w s) (suc r) e)),
      ))

  -- THE SEARCH IS RIGHT: an input that shows the rule, or none and the rule is dead.
  pub search_right : (r : ℕ) → Verdict t r (searched w r)
  unfolding searched
  search_right r = by (state_telling w r) refl
    where
      by : (o : Option ℕ) → state_telling w r ≡ o → Verdict t r (option_map (input_at w r) o)
      by (Some s) e = let f = first_passes (telling w r) (state_count w) s e in shown r s f.0 (to_T (telling w r s) f.1)
      by None e = untold r e
