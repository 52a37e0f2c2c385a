-- What the code does with a class start that it meets is `meet`: its place is found by a walk over the words, it is there or it is not, and where it
-- is put in the words behind are moved up by one.
use mathlib.Core.Bool.{Bool, true, false, ◌&&◌}
use mathlib.Core.List.{List, ◌∷◌, ◌++◌, append_assoc}
use mathlib.Core.Logic.{◌≢◌}
use mathlib.Core.Path.{◌≡◌, sym, ap, ap₂, subst, ◌∙◌}
use Prim.Native.Nat.{ℕ, suc, ◌+◌, ◌-◌, ◌≤◌, ◌<◌}
use native.Mathlib.Nat.{add-zero, zero-add}
use native.Mathlib.Omega.{arith}
use borrow.Author.Tests.{lt-ltb}
use lib.Dec.{T, eqb, ltb, ltb→lt, eqb→eq}
use lib.ListN.{length, take, drop, get_or, set, length-append, length-take, length-drop, take-append-drop}
use lib.Seq.{paste, paste-zero, paste-suc, length_paste_head, get_or-append-add, take-take, drop-drop, take-add, length-take-le, get_or-take, get_or-drop}
use Rattle.lists.proofs.Laws.Tests.{to_T, and_left, and_right, both, eq→eqb}
use Rattle.meaning.specs.Block.{at}
use Rattle.meaning.proofs.Laws.Choosing.{take_next}
use Rattle.automaton.specs.Classes.{insert}
use Rattle.automaton.specs.Layout.{classes_from, states_from}
use Rattle.automaton.specs.Starts.{holding, with_starts, meet}
use Rattle.automaton.specs.bridge.Gathered.{place_in}
use Rattle.automaton.proofs.Laws.Inserting.{length_insert, place_on, place_here, place_within, placed}
use Rattle.automaton.proofs.Laws.Gathering.{drop_taken, meet_over, meet_put}

pub place_few : (w : List ℕ) (n x : ℕ) → place_in x (take n (drop classes_from w)) ≤ n
place_few w n x = omega (arith, place_within x (take n (drop classes_from w)), length-take n (drop classes_from w))

-- the place found by a walk over the n words from word 6 on
module _ (w : List ℕ) (n x : ℕ) where
  abbrev pub place_from : ℕ → ℕ
  place_from p = place_in x (take (n - p) (drop (classes_from + p) w))

  pub place_start : place_in x (take n (drop classes_from w)) ≡ 0 + place_from 0
  place_start = let e : n ≡ n - 0 = omega arith in ap (λ k. place_in x (take k (drop classes_from w))) e ∙ sym (zero-add (place_from 0))

  module _ (p : ℕ) (h : p < n) (room : 6 + n ≤ length w) where
    abbrev left : List ℕ
    left = take (n - (p + 1)) (drop (classes_from + (p + 1)) w)

    there : take (n - p) (drop (classes_from + p) w) ≡ at w (classes_from + p) ∷ left
    there =
        let i : 6 + p < length w = omega arith in
        let e : n - p ≡ suc (n - (p + 1)) = omega arith in
        let m : 6 + p + 1 ≡ 6 + (p + 1) = omega arith in
        take_next w (classes_from + p) (n - p) (n - (p + 1)) i e ∙ ap (λ k. at w (classes_from + p) ∷ take (n - (p + 1)) (drop k w)) m

    pub place_further : at w (classes_from + p) < x → p + place_from p ≡ p + 1 + place_from (p + 1)
    place_further v =
        let e : place_from p ≡ suc (place_from (p + 1)) = ap (place_in x) there ∙ place_on x (at w (classes_from + p)) left v in omega arith

    pub place_found : x ≤ at w (classes_from + p) → p + place_from p ≡ p
    place_found v = let e : place_from p ≡ 0 = ap (place_in x) there ∙ place_here x (at w (classes_from + p)) left v in omega arith

  pub place_end : (p : ℕ) → n ≤ p → p + place_from p ≡ p
  place_end p h =
      let e : n - p ≡ 0 = omega arith in
      let z : place_from p ≡ 0 = ap (λ k. place_in x (take k (drop (classes_from + p) w))) e in
      omega arith

-- words moved up by one from a place on, the first of them to come being x
module _ (w : List ℕ) (a x : ℕ) where
  abbrev pub moved : List ℕ
  moved = x ∷ drop a w

  pub move_start : w ≡ paste w a moved (a - a)
  move_start = let e : 0 ≡ a - a = omega arith in paste-zero w a moved ∙ ap (paste w a moved) e

  module _ (i : ℕ) (h : a ≤ i) (room : i < length w) where
    back : a + (i - a) ≡ i
    back = omega arith

    next : suc (i - a) ≡ i + 1 - a
    next = omega arith

    moved_length : i - a < length moved
    moved_length = omega (arith, length-drop a w)

    pub move_next : set (paste w a moved (i - a)) i (get_or moved (i - a) 0) ≡ paste w a moved (i + 1 - a)
    move_next =
        let k : a + (i - a) < length w = omega arith in
        ap (λ m. set (paste w a moved (i - a)) m (get_or moved (i - a) 0)) (sym back)
        ∙ paste-suc w a moved (i - a) 0 k moved_length ∙ ap (paste w a moved) next

    pub move_ahead : get_or (paste w a moved (i - a)) i 0 ≡ get_or moved (i + 1 - a) 0
    move_ahead =
        let j : a ≤ length w = omega arith in
        let m : i - a ≤ length moved = omega (arith, moved_length) in
        let e : length (take a w ++ take (i - a) moved) ≡ i = length_paste_head w a moved (i - a) j m ∙ back in
        let z : i ≡ length (take a w ++ take (i - a) moved) + 0 = omega arith in
        ap (λ k. get_or (paste w a moved (i - a)) k 0) z
        ∙ get_or-append-add (take a w ++ take (i - a) moved) (drop (a + (i - a)) w) 0 0
        ∙ get_or-drop (a + (i - a)) w 0 0
        ∙ ap (λ k. get_or w k 0) (add-zero (a + (i - a)))
        ∙ sym (get_or-drop a w (i - a) 0)
        ∙ ap (λ k. get_or moved k 0) next

  pub move_end : (e : ℕ) → a ≤ e → paste w a moved (e + 1 - a) ≡ take a w ++ (x ∷ take (e - a) (drop a w)) ++ drop (e + 1) w
  move_end e h =
      let i : e + 1 - a ≡ suc (e - a) = omega arith in
      let j : a + (e + 1 - a) ≡ e + 1 = omega arith in
      ap₂ (λ m k. take a w ++ take m moved ++ drop k w) i j

-- a number put in at p
length_put : (x p : ℕ) (ss : List ℕ) → p ≤ length ss → length (take p ss ++ x ∷ drop p ss) ≡ suc (length ss)
length_put x p ss h = length-append (take p ss) (x ∷ drop p ss) ∙ omega (arith, length-take-le p ss h, length-drop p ss)

-- one start met after n, by the code: its place, the test whether it stands there, and the words moved

module _ (w : List ℕ) (n x : ℕ) (room : states_from < length w) (low : n ≤ 65) where
  abbrev old : List ℕ
  old = take n (drop classes_from w)

  old_length : length old ≡ n
  old_length = length-take-le n (drop classes_from w) (omega (arith, length-drop classes_from w))

  -- no more are kept
  pub met_full : 64 < n → holding w 65 ≡ meet x (holding w n)
  met_full h = sym (meet_over x (holding w n) (omega (arith, old_length, length_insert x old)))

  module _ (p : ℕ) (here : p ≡ place_in x old) where
    within : p ≤ n
    within = omega (arith, place_few w n x)

    there_at : p < n → get_or old p 0 ≡ at w (classes_from + p)
    there_at i = get_or-take n (drop classes_from w) p 0 i ∙ get_or-drop classes_from w p 0

    -- it is there
    stays : n ≤ 64 → p < n → at w (classes_from + p) ≡ x → holding w n ≡ meet x (holding w n)
    stays few i e =
        let j : p < length old = omega (arith, old_length) in
        let same : insert x old ≡ old = subst (λ q. q < length old → get_or old q 0 ≡ x → insert x old ≡ old) (sym here) (placed x old).0 j (there_at i ∙ e) in
        let l : length (insert x old) ≡ n = ap length same ∙ old_length in
        sym (meet_put x (holding w n) (omega arith)
        ∙ ap₂ holding (ap (λ ss. with_starts ss w) same ∙ ap (λ k. take classes_from w ++ (old ++ drop (classes_from + k) w)) old_length
        ∙ ap (λ l. take classes_from w ++ (old ++ l)) (sym (drop-drop n 6 w)) ∙ ap (λ l. take classes_from w ++ l) (take-append-drop n (drop classes_from w))
        ∙ take-append-drop classes_from w) l)

    -- it is not there
    module _ (away : p < n → at w (classes_from + p) ≢ x) where
      put : insert x old ≡ take p old ++ x ∷ drop p old
      put =
          subst (λ q. (q < length old → get_or old q 0 ≢ x) → insert x old ≡ take q old ++ x ∷ drop q old) (sym here) (placed x old).1
          (λ i e. let j : p < n = omega (arith, old_length) in away j (sym (there_at j) ∙ e))

      put_length : length (insert x old) ≡ n + 1
      put_length = ap length put ∙ length_put x p old (omega (arith, old_length, within)) ∙ omega (arith, old_length)

      -- a 65th
      over : n ≡ 64 → holding w 65 ≡ meet x (holding w n)
      over e = sym (meet_over x (holding w n) (omega (arith, put_length)))

      -- it is put in
      in_place : (w' : List ℕ) → n < 64 →
          w' ≡ take (classes_from + p) w ++ (x ∷ take (classes_from + n - (classes_from + p)) (drop (classes_from + p) w)) ++ drop (classes_from + n + 1) w →
          holding w' (n + 1) ≡ meet x (holding w n)
      in_place w' h e =
          let few : length (insert x old) ≤ 64 = omega (arith, put_length) in
          let v : List ℕ = drop classes_from w in
          let i : 6 + n - (6 + p) ≡ n - p = omega arith in
          let j : 6 + n + 1 ≡ 6 + length (insert x old) = omega (arith, put_length) in
          let k : p + (n - p) ≡ n = omega (arith, within) in
          let l : p ≤ length v = omega (arith, within, length-drop classes_from w) in
          let front : take (classes_from + p) w ≡ take classes_from w ++ take p old =
          take-add 6 p w ∙ ap (λ u. take classes_from w ++ u) (sym (take-take p n v within)) in
          let rest : take (classes_from + n - (classes_from + p)) (drop (classes_from + p) w) ≡ drop p old =
          ap₂ take i (sym (drop-drop p 6 w)) ∙ sym (drop_taken p (n - p) v l) ∙ ap (λ a. drop p (take a v)) k in
          let whole : w' ≡ with_starts (insert x old) w =
          e ∙ ap₂ ◌++◌ (ap₂ (λ a b. a ++ (x ∷ b)) front rest) (ap (λ a. drop a w) j)
          ∙ ap (λ u. u ++ drop (classes_from + length (insert x old)) w) (append_assoc (take classes_from w) (take p old) (x ∷ drop p old))
          ∙ append_assoc (take classes_from w) (take p old ++ x ∷ drop p old) (drop (classes_from + length (insert x old)) w)
          ∙ ap (λ u. take classes_from w ++ (u ++ drop (classes_from + length (insert x old)) w)) (sym put) in
          ap₂ holding whole (sym put_length) ∙ sym (meet_put x (holding w n) few)

    -- by the test whether it stands there
    module _ (b : Bool) (tested : b ≡ ltb (classes_from + p) (classes_from + n) && eqb (at w (classes_from + p)) x) where
      abbrev inside : Bool
      inside = ltb (classes_from + p) (classes_from + n)

      abbrev same : Bool
      same = eqb (at w (classes_from + p)) x

      pub met_there : n ≤ 64 → b ≡ true → holding w n ≡ meet x (holding w n)
      met_there few e =
          let t : T (inside && same) = to_T (inside && same) (sym tested ∙ e) in
          let i : 6 + p < 6 + n = ltb→lt (classes_from + p) (classes_from + n) (and_left inside same t) in
          stays few (omega arith) (eqb→eq (at w (classes_from + p)) x (and_right inside same t))

      absent : b ≡ false → p < n → at w (classes_from + p) ≢ x
      absent e i v =
          let j : 6 + p < 6 + n = omega arith in
          subst T (sym tested ∙ e) (both inside same (to_T inside (lt-ltb (classes_from + p) (classes_from + n) j)) (eq→eqb (at w (classes_from + p)) x v))

      pub met_over : n ≡ 64 → b ≡ false → holding w 65 ≡ meet x (holding w n)
      met_over h e = over (absent e) h

      pub met_new : (w' : List ℕ) → n < 64 → b ≡ false →
          w' ≡ take (classes_from + p) w ++ (x ∷ take (classes_from + n - (classes_from + p)) (drop (classes_from + p) w)) ++ drop (classes_from + n + 1) w →
          holding w' (n + 1) ≡ meet x (holding w n)
      met_new w' h e v = in_place (absent e) w' h v
