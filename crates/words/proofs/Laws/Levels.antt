-- A state that passes by its level is sound.
-- A target in the interval of the next level exceeds its state's number, is below the state count and lies one deeper.
use Rattle.std.proofs.Common.{◌≡◌, ℕ, suc, pred, ◌+◌, ◌-◌, ◌<◌, ◌≤◌, Bool, true, false, cond, not, ◌&&◌, T, eqb, ltb, leb, List, [], ◌∷◌, sym, ap, ◌∙◌, arith, eqb→eq, ltb→lt, leb→le, lt-ltb, eq-eqb}
use Rattle.lists.specs.Decide.{all_of, for_below, implies}
use Rattle.lists.proofs.Laws.Tests.{to_T, of_T, test_eq, and_left, and_right, split, neqb→ne, eq→eqb, to_between, of_cond, implied, to_implies, all_next, all_last, below, to_below}
use Rattle.meaning.specs.Block.{at}
use Rattle.automaton.specs.Sound.{state_count, class_count, longest_word, depth_word, accept_at_end_word, accept_word, target_word, block_at, between, used, names_rule, sound_target, sound_state}
use Rattle.words.specs.bridge.Levels.{Above, row_within, sound_depth}

-- one of so many numbers from `low` on
abbrev inside : ℕ → ℕ → ℕ → Bool
inside word low count = leb low word && ltb word (low + count)

-- the word that is left is 0 just where the word is 0 or in the interval
left_none : (word : ℕ) (b : Bool) → eqb 0 (cond b 0 word) ≡ implies (used word) b
left_none word true = sym (of_T (implies (used word) true) (to_implies (used word) true (λ u. tt)))
left_none word false =
    test_eq (eqb 0 word) (implies (used word) false)
    (λ t. to_implies (used word) false (λ u. absurd (neqb→ne word 0 u (sym (eqb→eq 0 word t)))))
    (λ t. split (eqb word 0) (λ e. eq→eqb 0 word (sym (eqb→eq word 0 e))) (λ u. absurd (implied (used word) false t u)))

pub passes_by_stray : (word low high : ℕ) → low ≤ high → {r : ℕ} →
    r ≡ cond (inside word low (high - low)) 0 word → eqb 0 r ≡ implies (used word) (leb low word && ltb word high)
passes_by_stray word low high h {r} f =
    let end : low + (high - low) ≡ high = omega arith in
    ap (eqb 0) f ∙ left_none word (inside word low (high - low)) ∙ ap (λ n. implies (used word) (leb low word && ltb word n)) end

module _ (w : List ℕ) (s : ℕ) where
  -- state 0 stands in the level of depth 0, others deeper
  pub depth_passes : {depth : ℕ} →
      depth_word w s ≡ depth → (s ≡ 0 → depth ≡ 0) → (1 ≤ s → 1 ≤ depth) → depth ≤ longest_word w → sound_depth w s ≡ true
  unfolding sound_depth
  depth_passes {depth} e first others small =
      of_T (sound_depth w s)
      (of_cond T (eqb s 0) (eqb (depth_word w s) 0) (between 1 (longest_word w) (depth_word w s))
      (λ t. eq→eqb (depth_word w s) 0 (e ∙ first (eqb→eq s 0 t)))
      (λ t.
      let more : s ≡ 0 → ⊥ = neqb→ne s 0 t in
      let deep = others (omega (arith, more)) in
      to_between 1 (longest_word w) (depth_word w s) (omega arith) (omega arith)))

  -- the test of the target by a class, and of all of them
  abbrev target_test : ℕ → Bool
  target_test k = implies (used (target_word w s k)) (all_of (not (used (accept_word w s)) ∷ sound_target w s (target_word w s k) ∷ []))

  abbrev targets_test : Bool
  targets_test = for_below (class_count w) target_test

  module _ (wide low : ℕ) (enough : class_count w ≤ wide) where
    -- what is known of a target in use by one of the classes
    within : (high : ℕ) → row_within w s wide low high ≡ true → (k : ℕ) → k < class_count w → T (used (target_word w s k)) →
        (low ≤ target_word w s k) × (target_word w s k < high)
    unfolding row_within
    within high row k h u =
        let q = target_word w s k in
        let t = implied (used q) (leb low q && ltb q high) (below wide _ (to_T _ row) k (omega arith)) u in
        (leb→le low q (and_left (leb low q) (ltb q high) t), ltb→lt q high (and_right (leb low q) (ltb q high) t))

    -- a state without a go, before the states in the interval
    pub row_passes : (high : ℕ) → Above w s low high → accept_word w s ≡ 0 → row_within w s wide low high ≡ true → targets_test ≡ true
    unfolding sound_target
    row_passes high above none row =
        of_T targets_test
        (to_below (class_count w) target_test
        (λ k h.
        let q = target_word w s k in
        to_implies (used q) (all_of (not (used (accept_word w s)) ∷ sound_target w s q ∷ []))
        (λ u.
        let in-it = within high row k h u in
        to_T (all_of (not (used (accept_word w s)) ∷ sound_target w s q ∷ []))
        (all_next _ (ap (λ b. not (not b)) (eq-eqb (accept_word w s) 0 none))
        ∙ all_last _
        ∙ all_next _ (lt-ltb s q (omega (arith, above.before, in-it)))
        ∙ all_next _ (lt-ltb q (state_count w) (omega (arith, above.inside, in-it)))
        ∙ all_last _
        ∙ eq-eqb (depth_word w q) (suc (depth_word w s)) (above.deeper q in-it.1 in-it.0)))))

    -- an interval without a number
    pub row_empty : row_within w s wide low low ≡ true → targets_test ≡ true
    row_empty row =
        of_T targets_test
        (to_below (class_count w) target_test
        (λ k h.
        let q = target_word w s k in
        to_implies (used q) (all_of (not (used (accept_word w s)) ∷ sound_target w s q ∷ []))
        (λ u. let in-it = within low row k h u in absurd (let no : ⊥ = omega (arith, in-it) in no))))

  -- the clauses of a sound state, each passed
  pub state_passes : sound_depth w s ≡ true →
      implies (used (accept_at_end_word w s)) (names_rule w (depth_word w s) (accept_at_end_word w s)) ≡ true →
      implies (used (accept_word w s))
      (all_of (names_rule w (depth_word w s) (accept_word w s)
      ∷ eqb (at (block_at w (pred (accept_word w s))) 1) 0
      ∷ used (accept_at_end_word w s)
      ∷ []))
      ≡ true →
      targets_test ≡ true →
      sound_state w s ≡ true
  unfolding sound_depth sound_state
  state_passes d e g t = all_next _ d ∙ all_next _ e ∙ all_next _ g ∙ all_last _ ∙ t
