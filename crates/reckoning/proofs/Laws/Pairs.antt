-- What request [8] says of the plain machine and of sessions.
-- The steps after a back are computed from the mark and the units.
use mathlib.Core.Bool.{Bool, true, false, ◌&&◌, not}
use mathlib.Core.List.{List, [], ◌∷◌, ◌++◌}
use Rattle.std.specs.Prelude.{Option, Some}
use mathlib.Core.Path.{◌≡◌, refl, ap, ◌∙◌}
use Prim.Native.Nat.{ℕ, zero, suc, ◌+◌}
use native.Mathlib.Omega.{arith}
use lib.Dec.{T, eqb→eq}
use Rattle.lists.specs.Decide.{select}
use Rattle.lists.proofs.Laws.Tests.{of_T, both, and_left, and_right, or_right, or_cases, eq→eqb}
use Rattle.meaning.specs.Table.{Mode, Absent, Single, Paired, is_first, is_second, default_number, pair_number}
use Rattle.meaning.specs.Block.{at}
use Rattle.meaning.specs.Meaning.{Emission}
use Rattle.automaton.specs.Sound.{used, word_mode, sound}
use Rattle.automaton.specs.Automaton.{Automaton, from_words}
use Rattle.automaton.proofs.Laws.Words.{sound_header_lem}
use Rattle.reckoning.specs.Machine.{Configuration, Open, onward, halt, fall_back, step, follow, steps}
use Rattle.reckoning.specs.Session.{settled, path_if, path, is_at, is_paired, stands_at}
use Rattle.reckoning.specs.Pairs.{backed, emitted, holding, PairsRun}
use Rattle.reckoning.proofs.Laws.Uses.{paired_word}

-- one step on
step_on : (A : Automaton) (ended : Bool) (more : ℕ) (c d : Configuration) → step A ended c ≡ onward d → steps A ended (suc more) c ≡ steps A ended more d
unfolding steps
step_on A ended more c d e = ap (λ s. follow s (λ d. steps A ended more d)) e

module _ (A : Automaton) (m : A.default ≡ Paired) (x : ℕ) (f : T (is_first x)) (log : List Emission) (n : ℕ) where
  first_true : is_first x ≡ true
  first_true = of_T (is_first x) f

  unit_waits : step A false (backed (x ∷ []) log n) ≡ halt Open (holding x log n)
  unfolding step fall_back select
  unit_waits = rw (m, first_true)

  -- after a back: so many of the units are taken
  abbrev taken : List ℕ → List ℕ → ℕ → Configuration
  taken units u k = record { store = units; unread = u; state = 0; due = true; log = log; steps = k }

  module _ (ended : Bool) (y : ℕ) (u : List ℕ) (s : T (is_second y)) where
    pair_true : (is_first x && is_second y) ≡ true
    pair_true = of_T (is_first x && is_second y) (both (is_first x) (is_second y) f s)

    take_first : step A ended (backed (x ∷ y ∷ u) log n) ≡ onward (taken (x ∷ []) (y ∷ u) (n + 1))
    unfolding step fall_back select
    take_first = rw (m, pair_true)

    take_second : step A ended (taken (x ∷ []) (y ∷ u) (n + 1)) ≡ onward (taken (x ∷ y ∷ []) u (n + 1 + 1))
    unfolding step fall_back select
    take_second = rw (m, pair_true)

    emit_pair : step A ended (taken (x ∷ y ∷ []) u (n + 1 + 1)) ≡ onward (emitted u (log ++ (record { group = pair_number; word = x ∷ y ∷ [] } ∷ [])) (n + 1 + 1 + 1))
    unfolding step fall_back select
    emit_pair = rw (m, pair_true)

    pair_costs : (more : ℕ) → steps A ended (3 + more) (backed (x ∷ y ∷ u) log n)
        ≡ steps A ended more (emitted u (log ++ (record { group = pair_number; word = x ∷ y ∷ [] } ∷ [])) (n + 3))
    pair_costs more =
        let k : 3 + more ≡ suc (suc (suc more)) = omega arith in
        let t : n + 1 + 1 + 1 ≡ n + 3 = omega arith in
        ap (λ j. steps A ended j (backed (x ∷ y ∷ u) log n)) k
        ∙ step_on A ended (suc (suc more)) _ _ take_first ∙ step_on A ended (suc more) _ _ take_second ∙ step_on A ended more _ _ emit_pair
        ∙ ap (λ j. steps A ended more (emitted u (log ++ (record { group = pair_number; word = x ∷ y ∷ [] } ∷ [])) j)) t

  take_alone : step A true (backed (x ∷ []) log n) ≡ onward (taken (x ∷ []) [] (n + 1))
  unfolding step fall_back select
  take_alone = rw m

  emit_alone : step A true (taken (x ∷ []) [] (n + 1)) ≡ onward (emitted [] (log ++ (record { group = default_number; word = x ∷ [] } ∷ [])) (n + 1 + 1))
  unfolding step fall_back select
  emit_alone = rw m

  unit_alone : (more : ℕ) → steps A true (2 + more) (backed (x ∷ []) log n)
      ≡ steps A true more (emitted [] (log ++ (record { group = default_number; word = x ∷ [] } ∷ [])) (n + 2))
  unit_alone more =
      let k : 2 + more ≡ suc (suc more) = omega arith in
      let t : n + 1 + 1 ≡ n + 2 = omega arith in
      ap (λ j. steps A true j (backed (x ∷ []) log n)) k
      ∙ step_on A true (suc more) _ _ take_alone ∙ step_on A true more _ _ emit_alone
      ∙ ap (λ j. steps A true more (emitted [] (log ++ (record { group = default_number; word = x ∷ [] } ∷ [])) j)) t

-- a session that holds one character at state 0

is_paired_lem : (m : Mode) → T (is_paired m) → m ≡ Paired
is_paired_lem Absent t = absurd t
is_paired_lem Single t = absurd t
is_paired_lem Paired t = refl

-- no character leads to state 0
no_path : (A : Automaton) (q x : ℕ) (held : List ℕ) → T (is_at 0 (path A q (x ∷ held))) → ⊥
unfolding path
no_path A q x [] t = go (A.target q x) t
  where
    by : (b : Bool) (r : ℕ) → T (is_at 0 (path_if b (Some (suc r)))) → ⊥
    by true r t = omega (arith, eqb→eq 0 (suc r) t)
    by false r t = t

    go : (r : ℕ) → T (is_at 0 (path_if (used r && not (settled A r)) (Some r))) → ⊥
    go zero t = t
    go (suc r) t = by (used (suc r) && not (settled A (suc r))) r t
no_path A q x (y ∷ held) t =
    let r : ℕ = A.target q x in
    passed (used r && not (settled A r)) (path A r (y ∷ held)) (no_path A r y held) t
  where
    passed : (b : Bool) (p : Option ℕ) → (T (is_at 0 p) → ⊥) → T (is_at 0 (path_if b p)) → ⊥
    passed true p h t = h t
    passed false p h t = t

module _ (w : List ℕ) (W : T (sound w)) (x : ℕ) where
  abbrev A : Automaton
  A = from_words w

  paired_by : A.default ≡ Paired → at w 5 ≡ 2
  unfolding from_words
  paired_by e = paired_word (at w 5) (sound_header_lem w W).default e

  by_paired : at w 5 ≡ 2 → A.default ≡ Paired
  unfolding from_words
  by_paired e = ap word_mode e

  allowed : T (stands_at A 0 (x ∷ [])) → (at w 5 ≡ 2) × T (is_first x) × (A.target 0 x ≡ 0)
  allowed t = or_cases (is_at 0 (path A 0 (x ∷ []))) _ t (λ u. absurd (no_path A 0 x [] u))
      (λ u.
      let p = is_paired A.default in
      let v = and_right p _ u in
      (paired_by (is_paired_lem A.default (and_left p _ u)), and_left (is_first x) _ v, eqb→eq (A.target 0 x) 0 (and_right (is_first x) _ v)))

  allowing : (at w 5 ≡ 2) × T (is_first x) × (A.target 0 x ≡ 0) → T (stands_at A 0 (x ∷ []))
  allowing h =
      or_right (is_at 0 (path A 0 (x ∷ []))) _
      (both (is_paired A.default) _ (rw (by_paired h.0) tt) (both (is_first x) _ h.1 (eq→eqb (A.target 0 x) 0 h.2)))

pub pairs_run : PairsRun
pairs_run =
    record {
      left = λ A m x f log n.
          record {
            costs = λ ended y u s. pair_costs A m x f log n ended y u s;
            waits = unit_waits A m x f log n;
            alone = unit_alone A m x f log n;
          };
      goes_on = λ x piece. refl;
      allows = λ w W x. (allowed w W x, allowing w W x);
      one_only_lem = λ w x y held t. or_cases (is_at 0 (path (from_words w) 0 (x ∷ y ∷ held))) _ t (no_path (from_words w) 0 x (y ∷ held)) (λ u. u);
    }
