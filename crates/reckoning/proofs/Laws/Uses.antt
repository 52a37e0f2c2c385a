-- How the counts of uses grow with a log, what sound counts say, and that what a call of sound words emits keeps them sound.
-- A rule that such words emit takes just as many characters as its K, the default one and a pair two, so that counts and characters grow alike.
use mathlib.Core.Bool.{Bool, true, false, ◌&&◌, not, cond}
use mathlib.Core.List.{List, [], ◌∷◌, ◌++◌}
use mathlib.Core.Logic.{◌≢◌}
use mathlib.Core.Path.{◌≡◌, refl, sym, ap, subst, ◌∙◌}
use Prim.Native.Nat.{ℕ, zero, suc, pred, ◌+◌, ◌*◌, ◌-◌, ◌≤◌, ◌<◌}
use native.Mathlib.Decide.{ℕ_discrete}
use native.Mathlib.Nat.{zero-add, add-zero, zero-mul, one-mul, mul-le-mul_left}
use native.Mathlib.Omega.{arith}
use borrow.Author.Tests.{eq-eqb, ne_eqb}
use lib.Dec.{T, eqb, ltb, eqb→eq, ltb→lt, nltb→le}
use lib.ListN.{length, get_or, set, take, drop, length-take, length-drop, get_or-eq_default}
use lib.Seq.{length-take-le, get_or-take, get_or-drop}
use Rattle.lists.specs.Lists.{Each, sum_below, tab_from, pad}
use Rattle.lists.proofs.Laws.Tests.{to_T, not_not, eq→eqb, ne→neqb, neqb→ne, split, implied, to_implies, holds, to_all_of}
use Rattle.lists.proofs.Laws.Each.{each_weaken, each_places, each_anywhere, all_each, each_all}
use Rattle.lists.proofs.Laws.Parts.{pad_zeros}
use Rattle.lists.proofs.Laws.Sets.{count_append, count_all, count_none, get_d_tab, length_tab, tab_is, set_tab, sum_same, sum_none, sum_times, sum_one, sum_most}
use Rattle.meaning.specs.Table.{Mode, Absent, Single, Paired, is_first, is_second, default_number, pair_number}
use Rattle.meaning.specs.Block.{at}
use Rattle.meaning.specs.Meaning.{Emission, covered}
use Rattle.automaton.specs.Sound.{word_mode, mode_at, rule_count, state_count, depth_word, block_at, used, sound}
use Rattle.automaton.specs.Automaton.{Automaton, from_words}
use Rattle.automaton.proofs.Laws.Words.{Names, sound_header_lem, sound_rule, sound_state_lem, sound_deeper, sound_good}
use Rattle.reckoning.specs.Uses.{use_counts, emits_of, uses_of, uses_after, characters_used, sound_uses}
use Rattle.reckoning.specs.Machine.{Fall, nowhere, taking, keeping, fall_one, fall_two, fall}
use Rattle.reckoning.specs.Session.{settled}
use Rattle.reckoning.proofs.Laws.Trace.{Round, waits, closes, stops, accepts, defaults, back, on_wait, on_end, walk, fall_at, round, Trace, handle, trace, log_of}
use Rattle.reckoning.proofs.Laws.Walk.{settled_both, on_character_elim, Span, Room, Falls}
use Rattle.reckoning.proofs.Laws.Rounds.{round_span, round_room, round_falls}

-- The counts after a log.

-- the emission is of group g
abbrev is_of : ℕ → Emission → Bool
is_of g e = eqb e.group g

module _ (found : List ℕ) where
  -- of group g
  abbrev counted : List Emission → ℕ → ℕ
  counted log g = at found g + emits_of g log

  pub length_uses : (log : List Emission) → length (uses_after found log) ≡ use_counts
  length_uses log = length_tab (counted log) 0 use_counts

  pub uses_at : (log : List Emission) (g : ℕ) → g < use_counts → at (uses_after found log) g ≡ at found g + emits_of g log
  uses_at log g h = get_d_tab (counted log) 0 use_counts g 0 h ∙ ap (counted log) (zero-add g)

  pub uses_none : length found ≡ use_counts → uses_after found [] ≡ found
  uses_none e = tab_is (counted []) use_counts found 0 e (λ g _. add-zero (at found g))

  -- more emissions, of one group
  pub uses_more : (log more : List Emission) (g : ℕ) → g < use_counts → Each (λ e. e.group ≡ g) more →
      set (uses_after found log) g (get_or (uses_after found log) g 0 + length more) ≡ uses_after found (log ++ more)
  uses_more log more g h a =
      ap (set (uses_after found log) g) (ap (λ n. n + length more) (uses_at log g h) ∙ here)
      ∙ set_tab (counted log) (counted (log ++ more)) use_counts g h there
    where
      here : at found g + emits_of g log + length more ≡ counted (log ++ more) g
      here = omega (arith, count_append (is_of g) log more, count_all (is_of g) more (each_weaken _ _ more (λ e p. eq→eqb e.group g p) a))

      there : (k : ℕ) → k ≢ g → counted log k ≡ counted (log ++ more) k
      there k d =
          let none = count_none (is_of k) more (each_weaken _ _ more (λ e p. ne→neqb e.group k (λ q. d (sym q ∙ p))) a) in
          omega (arith, count_append (is_of k) log more)

  pub uses_emitted : (log : List Emission) (g : ℕ) (word : List ℕ) → g < use_counts →
      set (uses_after found log) g (get_or (uses_after found log) g 0 + 1) ≡ uses_after found (log ++ (record { group = g; word = word } ∷ []))
  uses_emitted log g word h = uses_more log (record { group = g; word = word } ∷ []) g h (refl, tt)

  -- the counts after one log and then another
  pub uses_join : (a b : List Emission) → uses_after (uses_after found a) b ≡ uses_after found (a ++ b)
  uses_join a b =
      tab_is (λ g. at (uses_after found a) g + emits_of g b) use_counts (uses_after found (a ++ b)) 0 (length_uses (a ++ b))
      (λ g h. omega (arith, uses_at a g h, uses_at (a ++ b) g h, count_append (is_of g) a b))

pub uses_append : (a b : List Emission) → uses_after (uses_of a) b ≡ uses_of (a ++ b)
uses_append a b = ap (λ u. uses_after u b) (sym (from_none a)) ∙ uses_join [] a b ∙ from_none (a ++ b)
  where
    from_none : (log : List Emission) → uses_after [] log ≡ uses_of log
    from_none log = λ i. tab_from 0 use_counts (λ g. zero-add (emits_of g log) i)

-- Sound counts, as facts.

pub record UsesFacts (w uses : List ℕ) (consumed : ℕ) : Type 0 where
  pub sum : characters_used w uses ≡ consumed
  pub lacking : (g : ℕ) → rule_count w ≤ g → g < default_number → at uses g ≡ 0
  pub undefaulted : at w 5 ≡ 0 → at uses default_number ≡ 0
  pub unmarked : at w 5 ≢ 2 → at uses pair_number ≡ 0

module _ (w uses : List ℕ) (consumed : ℕ) where
  abbrev others : List ℕ
  others = drop (rule_count w) (take default_number uses)

  -- count number k of a rule that the machine lacks
  other_at : (k : ℕ) → rule_count w + k < default_number → get_or others k 0 ≡ at uses (rule_count w + k)
  other_at k h = get_or-drop (rule_count w) (take default_number uses) k 0 ∙ get_or-take default_number uses (rule_count w + k) 0 h

  pub uses_facts : T (sound_uses w uses consumed) → UsesFacts w uses consumed
  unfolding sound_uses
  uses_facts t =
      let k = holds _ t in
      let zeros : Each (λ n. 0 ≡ n) others = all_each (eqb 0) others (λ n. eqb→eq 0 n) k.1.0 in
      record {
        sum = eqb→eq (characters_used w uses) consumed k.0;
        lacking = λ g i h.
            let p : rule_count w + (g - rule_count w) ≡ g = omega arith in
            ap (at uses) (sym p) ∙ sym (each_anywhere (λ n. 0 ≡ n) others (g - rule_count w) 0 zeros refl ∙ other_at (g - rule_count w) (omega arith));
        undefaulted = λ d. eqb→eq (at uses default_number) 0 (implied (not (used (at w 5))) _ k.1.1.0 (rw d tt));
        unmarked = λ d. eqb→eq (at uses pair_number) 0 (implied (not (eqb (at w 5) 2)) _ k.1.1.1.0 (ne→neqb (at w 5) 2 d));
      }

  pub facts_uses : UsesFacts w uses consumed → T (sound_uses w uses consumed)
  unfolding sound_uses
  facts_uses f =
      let zero_at : (k : ℕ) → k < length others → 0 ≡ get_or others k 0 =
      λ k h.
      let i : rule_count w + k < default_number = omega (arith, length-drop (rule_count w) (take default_number uses), length-take default_number uses) in
      sym (other_at k i ∙ f.lacking (rule_count w + k) (omega arith) i) in
      let zeros : Each (λ n. 0 ≡ n) others = each_places (λ n. 0 ≡ n) others 0 zero_at in
      to_all_of _ (
        eq→eqb (characters_used w uses) consumed f.sum,
        (
          each_all (eqb 0) others (λ n. eq→eqb 0 n) zeros,
          (
            to_implies (not (used (at w 5))) _ (λ t. eq→eqb (at uses default_number) 0 (f.undefaulted (eqb→eq (at w 5) 0 (not_not (eqb (at w 5) 0) t)))),
            (to_implies (not (eqb (at w 5) 2)) _ (λ t. eq→eqb (at uses pair_number) 0 (f.unmarked (neqb→ne (at w 5) 2 t))), tt),
          ),
        ),
      )

-- What sound words emit.

-- a rule with as many characters as its K, a default that they have with one, or under the mark a pair with two
pub data Fit (w : List ℕ) (e : Emission) : Type 0 where
  of_rule : e.group < rule_count w → length e.word ≡ at (block_at w e.group) 0 → Fit w e
  of_default : e.group ≡ default_number → length e.word ≡ 1 → at w 5 ≢ 0 → Fit w e
  of_pair : e.group ≡ pair_number → length e.word ≡ 2 → at w 5 ≡ 2 → Fit w e

-- the same of a round that accepts a rule, for the number of characters read, and of a fall
abbrev Sized : List ℕ → Round → Type 0
Sized w waits = Unit {0}
Sized w closes = Unit {0}
Sized w (stops d) = Unit {0}
Sized w (accepts r d) = Names w d (suc r)
Sized w (defaults d g k) = Unit {0}

abbrev FallFits : List ℕ → Fall → Type 0
FallFits w nowhere = Unit {0}
FallFits w (taking g k) = (u : List ℕ) → length u ≡ k → Fit w (record { group = g; word = u })
FallFits w keeping = Unit {0}

-- word 5 of a mode
single_word : (n : ℕ) → word_mode n ≡ Single → n ≢ 0
single_word zero e = let z : ◌≡◌ {A = ℕ} 0 1 = cc in absurd (omega arith)
single_word (suc n) e = omega arith

pub paired_word : (n : ℕ) → n ≤ 2 → word_mode n ≡ Paired → n ≡ 2
paired_word zero h e = let z : ◌≡◌ {A = ℕ} 0 1 = cc in absurd (omega arith)
paired_word (suc zero) h e = let z : ◌≡◌ {A = ℕ} 0 1 = cc in absurd (omega arith)
paired_word (suc (suc n)) h e = omega arith

module _ (w : List ℕ) (W : T (sound w)) where
  abbrev A : Automaton
  A = from_words w

  accept_sized : (q r d : ℕ) → q < state_count w → depth_word w q ≡ d → A.accept q ≡ suc r → Names w d (suc r)
  unfolding from_words
  accept_sized q r d i p k = rw (p, k) at ((sound_state_lem w W q i).accept (omega arith))

  end_sized : (q r d : ℕ) → q < state_count w → depth_word w q ≡ d → A.accept_at_end q ≡ suc r → Names w d (suc r)
  unfolding from_words
  end_sized q r d i p k = rw (p, k) at ((sound_state_lem w W q i).end (omega arith))

  sized_wait : (h : Bool) (d q : ℕ) → q < state_count w → depth_word w q ≡ d → settled A q ≡ h → Sized w (on_wait h (A.accept q) d)
  sized_wait true d q i p k =
      let b = settled_both A q (to_T (settled A q) k) in rw b.1 (accept_sized q b.0 d i p b.1)
  sized_wait false d q i p k = tt

  sized_back : (b : Fall) (d : ℕ) → Sized w (back b d)
  sized_back nowhere d = tt
  sized_back (taking g k) d = tt
  sized_back keeping d = tt

  sized_end : (m : ℕ) (b : Fall) (d q : ℕ) → q < state_count w → depth_word w q ≡ d → A.accept_at_end q ≡ m → Sized w (on_end m b d)
  sized_end (suc r) b d q i p k = end_sized q r d i p k
  sized_end zero b zero q i p k = tt
  sized_end zero b (suc d) q i p k = sized_back b (suc d)

  walk_sized : (e : Bool) (b : Fall) (d q : ℕ) (u : List ℕ) → q < state_count w → depth_word w q ≡ d → Sized w (walk A e b d q u)
  unfolding walk
  walk_sized false b d q [] i p = sized_wait (settled A q) d q i p refl
  walk_sized true b d q [] i p = sized_end (A.accept_at_end q) b d q i p refl
  walk_sized e b d q (x ∷ u) i p =
      on_character_elim (Sized w) (A.accept q) (A.target q x) b d (λ p'. walk A e b (suc d) p' u)
      (λ r k. accept_sized q r d i p k)
      (λ t. walk_sized e b (suc d) (A.target q x) u ((sound_good w W).inside q x i) (sound_deeper w W q x i t ∙ ap suc p))
      (sized_back b d)

  fall_fits : (m : Mode) (e : Bool) (x : ℕ) (u : List ℕ) → mode_at w ≡ m → FallFits w (fall m e (x ∷ u))
  fall_fits Absent e x u p = tt
  fall_fits Single e x u p = λ v l. of_default refl l (single_word (at w 5) p)
  fall_fits Paired e x u p = by u
    where
      two : at w 5 ≡ 2
      two = paired_word (at w 5) (sound_header_lem w W).default p

      alone : FallFits w (taking default_number 1)
      alone = λ v l. of_default refl l (λ z. omega (arith, two))

      one_left : (b : Bool) → FallFits w (fall_one b)
      one_left true = tt
      one_left false = alone

      two_left : (b : Bool) → FallFits w (fall_two b)
      two_left true = λ v l. of_pair refl l two
      two_left false = alone

      by : (u : List ℕ) → FallFits w (fall Paired e (x ∷ u))
      by [] = one_left (not e && is_first x)
      by (y ∷ u) = two_left (is_first x && is_second y)

  round_fall : (e : Bool) (x : ℕ) (u : List ℕ) → FallFits w (fall_at A e (x ∷ u))
  unfolding from_words
  round_fall e x u = fall_fits (mode_at w) e x u refl

  round_fits : (b : Fall) (o : Round) (x : ℕ) (u : List ℕ) (f : ℕ → Trace) → Sized w o → Span 0 (suc (length u)) o → Room (suc (length u)) b → Falls b o →
      FallFits w b → ((k : ℕ) → Each (Fit w) (log_of (f k))) → Each (Fit w) (log_of (handle o (x ∷ u) f))
  unfolding log_of
  round_fits b waits x u f z s r l c h = tt
  round_fits b closes x u f z s r l c h = tt
  round_fits b (stops d) x u f z s r l c h = tt
  round_fits b (accepts n d) x u f z s r l c h = (of_rule z.known (length-take-le d (x ∷ u) s.1 ∙ sym z.size), h (pred d))
  round_fits b (defaults d g k) x u f z s r l c h =
      let i : (1 ≤ k) × (k ≤ 2) × (k ≤ suc (length u)) = subst (Room (suc (length u))) l r in
      (subst (FallFits w) l c (take k (x ∷ u)) (length-take-le k (x ∷ u) i.2), h (pred k))

  pub trace_fits : (e : Bool) (k : ℕ) (u : List ℕ) → Each (Fit w) (log_of (trace A e k u))
  unfolding trace log_of
  trace_fits false k [] = tt
  trace_fits true k [] = tt
  trace_fits e (suc k) (x ∷ u) = trace_fits e k u
  trace_fits e zero (x ∷ u) =
      let b = fall_at A e (x ∷ u) in
      round_fits b (round A e (x ∷ u)) x u (λ k. trace A e k u)
      (walk_sized e b 0 0 (x ∷ u) (sound_header_lem w W).some_state ((sound_state_lem w W 0 (sound_header_lem w W).some_state).first refl))
      (round_span A e x u) (round_room A e x u) (round_falls A e (x ∷ u)) (round_fall e x u) (λ k. trace_fits e k u)

-- The counts after what sound words emit.

once : (m n : ℕ) → m ≡ n → ◌≡◌ {A = ℕ} (cond (eqb m n) 1 0) 1
once m n p = rw (eq-eqb m n p) refl

never : (m n : ℕ) → m ≢ n → ◌≡◌ {A = ℕ} (cond (eqb m n) 1 0) 0
never m n d = rw (ne_eqb m n d) refl

module _ (w : List ℕ) (W : T (sound w)) where
  abbrev rules : ℕ
  rules = rule_count w

  abbrev size : ℕ → ℕ
  size g = at (block_at w g) 0

  few : rules ≤ default_number
  few = (sound_header_lem w W).few_rules

  -- one emission, counted
  abbrev counts : Emission → ℕ → ℕ
  counts e g = cond (eqb e.group g) 1 0

  one_fits : (e : Emission) → Fit w e → sum_below rules (λ g. counts e g * size g) + counts e default_number + 2 * counts e pair_number ≡ length e.word
  one_fits e (of_rule h l) =
      let r = e.group in
      let sum = sum_one rules (λ g. counts e g * size g) r h (λ k d. rw (never r k (λ p. d (sym p))) (zero-mul (size k))) in
      let here : counts e r * size r ≡ size r = rw (once r r refl) (one-mul (size r)) in
      omega (arith, sum, never r default_number (omega (arith, few)), never r pair_number (omega (arith, few)))
  one_fits e (of_default p l d) =
      let none = sum_none rules (λ g. counts e g * size g) (λ k h. rw (never e.group k (omega (arith, few))) (zero-mul (size k))) in
      omega (arith, none, once e.group default_number p, never e.group pair_number (omega arith))
  one_fits e (of_pair p l d) =
      let none = sum_none rules (λ g. counts e g * size g) (λ k h. rw (never e.group k (omega (arith, few))) (zero-mul (size k))) in
      omega (arith, none, never e.group default_number (omega arith), once e.group pair_number p)

  log_fits : (log : List Emission) → Each (Fit w) log →
      sum_below rules (λ g. emits_of g log * size g) + emits_of default_number log + 2 * emits_of pair_number log ≡ covered log
  unfolding covered
  log_fits [] a = omega (arith, sum_none rules (λ g. 0 * size g) (λ k h. zero-mul (size k)))
  log_fits (e ∷ log) a = omega (arith, sum_times rules (counts e) (λ g. emits_of g log) size, one_fits e a.0, log_fits log a.1)

  pub uses_fit : (uses : List ℕ) (log : List Emission) → Each (Fit w) log →
      characters_used w (uses_after uses log) ≡ characters_used w uses + covered log
  unfolding characters_used
  uses_fit uses log a =
      let now = sum_same rules (λ g. at (uses_after uses log) g * size g) (λ g. (at uses g + emits_of g log) * size g)
      (λ g h. ap (λ n. n * size g) (uses_at uses log g (omega (arith, few)))) in
      omega (arith, now, sum_times rules (at uses) (λ g. emits_of g log) size, uses_at uses log default_number (omega arith), uses_at uses log pair_number (omega arith), log_fits log a)

  pub uses_kept : (uses : List ℕ) (consumed : ℕ) (log : List Emission) → UsesFacts w uses consumed → Each (Fit w) log →
      UsesFacts w (uses_after uses log) (consumed + covered log)
  uses_kept uses consumed log f a = record {
    sum = uses_fit uses log a ∙ ap (λ n. n + covered log) f.sum;
    lacking = λ g i h. unused g (omega arith) (f.lacking g i h) (λ e p. no_rule g e i h p);
    undefaulted = λ d. unused default_number (omega arith) (f.undefaulted d) (λ e p. no_default e d p);
    unmarked = λ d. unused pair_number (omega arith) (f.unmarked d) (λ e p. no_pair e d p);
  }
    where
      no_rule : (g : ℕ) (e : Emission) → rules ≤ g → g < default_number → Fit w e → e.group ≢ g
      no_rule g e i h (of_rule r l) q = omega arith
      no_rule g e i h (of_default r l d) q = omega arith
      no_rule g e i h (of_pair r l d) q = omega arith

      no_default : (e : Emission) → at w 5 ≡ 0 → Fit w e → e.group ≢ default_number
      no_default e d (of_rule r l) q = omega (arith, few)
      no_default e d (of_default r l k) q = k d
      no_default e d (of_pair r l k) q = omega arith

      no_pair : (e : Emission) → at w 5 ≢ 2 → Fit w e → e.group ≢ pair_number
      no_pair e d (of_rule r l) q = omega (arith, few)
      no_pair e d (of_default r l k) q = omega arith
      no_pair e d (of_pair r l k) q = d k

      -- a group that no emission is of
      unused : (g : ℕ) → g < use_counts → at uses g ≡ 0 → ((e : Emission) → Fit w e → e.group ≢ g) → at (uses_after uses log) g ≡ 0
      unused g h z n =
          omega (arith, uses_at uses log g h, count_none (is_of g) log (each_weaken _ _ log (λ e p. ne→neqb e.group g (n e p)) a))

-- Counts of nothing, and how large counts may be.

pub uses_fresh : (w : List ℕ) → UsesFacts w (pad use_counts []) 0
unfolding characters_used
uses_fresh w = record {
  sum = omega (arith, sum_none (rule_count w) (λ g. at (pad use_counts []) g * at (block_at w g) 0) none, nothing default_number, nothing pair_number);
  lacking = λ g _ _. nothing g;
  undefaulted = λ _. nothing default_number;
  unmarked = λ _. nothing pair_number;
}
  where
    nothing : (g : ℕ) → at (pad use_counts []) g ≡ 0
    nothing g =
        sym (each_anywhere (λ n. 0 ≡ n) (pad use_counts []) g 0 (all_each (eqb 0) (pad use_counts []) (λ n. eqb→eq 0 n) (pad_zeros use_counts [])) refl)

    none : (g : ℕ) → g < rule_count w → at (pad use_counts []) g * at (block_at w g) 0 ≡ 0
    none g _ = rw (nothing g) (zero-mul (at (block_at w g) 0))

-- no count is more than what was consumed
pub uses_most : (w uses : List ℕ) (consumed : ℕ) → T (sound w) → T (sound_uses w uses consumed) → length uses ≡ use_counts →
    (g : ℕ) → get_or uses g 0 ≤ consumed
unfolding characters_used
uses_most w uses consumed W t e g =
    split (ltb g (rule_count w))
    (λ l.
    let i : g < rule_count w = ltb→lt g (rule_count w) l in
    let some = mul-le-mul_left (at uses g) (sound_rule w W g i).positive in
    omega (arith, f.sum, sum_most (rule_count w) (λ k. at uses k * at (block_at w k) 0) g i))
    (λ l. split (ltb g default_number)
    (λ i. omega (arith, f.lacking g (nltb→le g (rule_count w) l) (ltb→lt g default_number i)))
    (λ i. elim (ℕ_discrete g default_number) [
      | yes p ↦ rw p (omega (arith, f.sum))
      | no d ↦ elim (ℕ_discrete g pair_number) [
        | yes p ↦ rw p (omega (arith, f.sum))
        | no k ↦ omega (arith, get_or-eq_default uses 0 {n = g} (omega (arith, nltb→le g default_number i)))
      ]
    ]))
  where
    f : UsesFacts w uses consumed
    f = uses_facts w uses consumed t
