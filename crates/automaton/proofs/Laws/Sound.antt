-- The words of a table that was read, with at most 64 classes and 256 states, are sound, whatever follows them.
-- Each clause of the test is a law of the words' layout, of the numbering, of the class starts or of the table's shape.
use mathlib.Core.Bool.{not, cond}
use mathlib.Core.List.{List, [], ◌∷◌, ◌++◌}
use mathlib.Core.Logic.{◌≢◌}
use Rattle.std.specs.Prelude.{Option, None, Some}
use mathlib.Core.Path.{◌≡◌, refl, sym, ap, subst, ◌∙◌}
use Prim.Native.Nat.{ℕ, suc, pred, ◌+◌, ◌≤◌, ◌<◌}
use native.Mathlib.Omega.{arith}
use lib.Dec.{T, not_T, eqb, le→leb, lt→ltb, eqb→eq}
use lib.IntN.{pos}
use lib.ListN.{length, get_or, length-append}
use Rattle.lists.specs.Lists.{Each}
use Rattle.lists.specs.Decide.{implies}
use Rattle.lists.proofs.Laws.Tests.{of_not, and_left, and_right, of_cond, to_implies, to_all_of, to_below, eq→eqb, neqb→ne, ne→neqb, to_between}
use Rattle.lists.proofs.Laws.Each.{each_get_d}
use Rattle.meaning.specs.Table.{sum, Group, Table, rule_at, default_number, longest, expansion, Mode, Absent, Single, Paired, mode_of, mode, least}
use Rattle.meaning.specs.Block.{at, bit, block, block_size}
use Rattle.meaning.proofs.Laws.Shape.{Within, ShapedDefault, Shaped}
use Rattle.meaning.proofs.Laws.Groups.{rule_shaped, default_each, group_rule, group_default, longest_le, longest_small, longest_positive, group_short, expansion_small, least_le}
use Rattle.meaning.proofs.Laws.Numbers.{bit_small}
use Rattle.meaning.proofs.Laws.Exact.{block_size_lem, block_anchored, block_count}
use Rattle.automaton.specs.Classes.{starts}
use Rattle.automaton.specs.States.{State, initial, accept_at_end_of, accept_of, states, target_of}
use Rattle.automaton.specs.Layout.{word_count, words, classes_from, mode_word}
use Rattle.automaton.specs.Sound.{class_count, longest_word, rule_count, state_count, depth_word, target_word, block_at, between, used, sound_entry, sound_header, sound_starts, sound_block, sound_blocks, names_rule, sound_target, sound_state, sound, word_mode}
use Rattle.automaton.proofs.Laws.Good.{state_at}
use Rattle.automaton.proofs.Laws.Alike.{mode_read}
use Rattle.automaton.proofs.Laws.First.{first_cases, first_none}
use Rattle.automaton.proofs.Laws.Classes.{classed}
use Rattle.automaton.proofs.Laws.Levels.{numbered}
use Rattle.automaton.proofs.Laws.Entries.{known_entry, known_of, group_entry}
use Rattle.automaton.proofs.Laws.Blocks.{block_word, default_word}
use Rattle.automaton.proofs.Laws.Places.{length_words, layout_states, layout_classes, layout_longest, layout_expansion, layout_rules, layout_default, layout_start, layout_depth, layout_accept_at_end, layout_accept, layout_target}

mode_small : (m : Mode) → mode_word m ≤ 2
mode_small Absent = omega arith
mode_small Single = omega arith
mode_small Paired = omega arith

module _ (t : Table) (rest : List ℕ) (shaped : Shaped t) (narrow : length (starts t) ≤ 64) (few : length (states t) ≤ 256) where
  abbrev w : List ℕ
  w = words t ++ rest

  header_sound : T (sound_header w)
  unfolding sound_header
  header_sound =
      let states-fit = to_between 1 256 (length (states t)) (numbered t).some_state few in
      let classes-fit = to_between 1 64 (length (starts t)) (classed t).some_start narrow in
      let longest-fits = to_between 1 8 (longest t) (longest_positive t shaped) (longest_small t shaped) in
      let rules-fit = to_between 1 32 (length t.rules) shaped.some_rule shaped.few_rules in
      rw (layout_states t rest, layout_classes t rest, layout_longest t rest, layout_expansion t rest, layout_rules t rest, layout_default t rest)
      (to_all_of _ (states-fit, (classes-fit, (longest-fits, (le→leb (expansion t) 8 (expansion_small t shaped), (rules-fit, (le→leb (mode_word (mode t)) 2 (mode_small (mode t)), (le→leb (least (word_mode (mode_word (mode t)))) (expansion t) (rw (mode_read (mode t)) (least_le t)), tt))))))))

  starts_sound : T (sound_starts w)
  unfolding sound_starts
  starts_sound =
      to_all_of _ (
        eq→eqb (at w 6) 0 (layout_start t rest 0 (omega arith) ∙ (classed t).first),
        (to_below (pred (class_count w)) _ (λ k h. lt→ltb (at w (classes_from + k)) (at w (classes_from + 1 + k)) (rises k (rw (layout_classes t rest) at h))), tt),
      )
    where
      rises : (k : ℕ) → k < pred (length (starts t)) → at w (classes_from + k) < at w (classes_from + 1 + k)
      rises k h =
          let this = layout_start t rest k (omega arith) in
          let next : at w (classes_from + 1 + k) ≡ get_or (starts t) (suc k) 0 = ap (at w) (omega arith) ∙ layout_start t rest (suc k) (omega arith) in
          let above = (classed t).rising k (omega arith) in
          omega arith

  -- block number n holds the group g
  group_sound : (n : ℕ) (g : Group) (most anchored : ℕ) → ((j : ℕ) → j < block_size → at (block_at w n) j ≡ at (block g) j) →
      1 ≤ g.size → g.size ≤ most → bit g.anchored ≤ anchored → length g.outputs ≤ expansion t →
      g.size ≤ 8 → length g.outputs ≤ 8 → Each (Within g.size) g.outputs → T (sound_block w n most anchored)
  unfolding sound_block
  group_sound n g most anchored is low high a outs small eight within =
      rw (is 0 (omega arith) ∙ block_size_lem g, is 1 (omega arith) ∙ block_anchored g, is 2 (omega arith) ∙ block_count g, layout_expansion t rest)
      (to_all_of _ (to_between 1 most g.size low high, (le→leb (bit g.anchored) anchored a, (le→leb (length g.outputs) (expansion t) outs, (to_below (length g.outputs) (sound_entry (block_at w n)) entries, tt)))))
    where
      entries : (j : ℕ) → j < length g.outputs → T (sound_entry (block_at w n) j)
      entries j h =
          let o = get_or g.outputs j (sum (pos 0) []) in
          let size : at (block_at w n) 0 ≡ g.size = is 0 (omega arith) ∙ block_size_lem g in
          known_entry (block_at w n) j
          (known_of (block_at w n) j o (rw size (each_get_d (Within g.size) g.outputs j (sum (pos 0) []) within h)) (group_entry g (block_at w n) small eight within is j h))

  rule_sound : (r : ℕ) → r < length t.rules → T (sound_block w r (longest_word w) 1)
  rule_sound r b =
      let shape = rule_shaped t shaped r b in
      let fits : (rule_at t r).size ≤ longest_word w = rw (layout_longest t rest) (longest_le t r b) in
      let outputs : length (rule_at t r).outputs ≤ expansion t = subst (λ g. length g.outputs ≤ expansion t) (group_rule t r shaped b) (group_short t r (let few_rules : length t.rules ≤ 32 = shaped.few_rules in omega arith)) in
      group_sound r (rule_at t r) (longest_word w) 1 (block_word t rest shaped r b) shape.positive fits (bit_small (rule_at t r).anchored) outputs
      shape.small shape.outputs shape.reaches

  default_sound : (d : Option Group) → t.default ≡ d → at w 5 ≢ 0 → T (sound_block w default_number 1 0)
  default_sound None e h = absurd (h (layout_default t rest ∙ ap (λ d. mode_word (mode_of d t.mark)) e))
  default_sound (Some g) e h =
      let sg = default_each ShapedDefault t g e shaped.default in
      let outputs : length g.outputs ≤ expansion t = subst (λ g. length g.outputs ≤ expansion t) (group_default t g e) (group_short t default_number (omega arith)) in
      let size = sg.size in
      let free : bit g.anchored ≡ 0 = ap bit sg.anchored in
      group_sound default_number g 1 0 (default_word t rest g e) (omega arith) (omega arith) (omega arith) outputs
      (omega arith) sg.outputs (subst (λ k. Each (Within k) g.outputs) (sym size) sg.reaches)

  blocks_sound : T (sound_blocks w)
  unfolding sound_blocks
  blocks_sound =
      to_all_of _ (
        to_below (rule_count w) _ (λ r h. rule_sound r (rw (layout_rules t rest) at h)),
        (to_implies (used (at w 5)) _ (λ h. default_sound t.default refl (neqb→ne (at w 5) 0 h)), tt),
      )

  -- rule r is named by r + 1 at the depth that is its K
  names_rule_lem : (depth r : ℕ) → r < length t.rules → (rule_at t r).size ≡ depth → T (names_rule w depth (suc r))
  unfolding names_rule
  names_rule_lem depth r b e =
      to_all_of _
      (le→leb (suc r) (rule_count w) (rw (layout_rules t rest) b), (eq→eqb (at (block_at w r) 0) depth (block_word t rest shaped r b 0 (omega arith) ∙ block_size_lem (rule_at t r) ∙ e), tt))

  module _ (s : ℕ) (b : s < length (states t)) where
    abbrev q : State
    q = state_at t s

    depth_sound : T (cond (eqb s 0) (eqb q.depth 0) (between 1 (longest t) q.depth))
    unfolding initial
    depth_sound =
        of_cond T (eqb s 0) (eqb q.depth 0) (between 1 (longest t) q.depth)
        (λ z. eq→eqb q.depth 0 (ap (λ k. (state_at t k).depth) (eqb→eq s 0 z) ∙ ap (λ p. p.depth) (numbered t).first))
        (λ n. let positive = neqb→ne s 0 n in to_between 1 (longest t) q.depth ((numbered t).deep s b (omega arith)) ((numbered t).depths s b))

    end_sound : T (implies (used (accept_at_end_of t q)) (names_rule w q.depth (accept_at_end_of t q)))
    unfolding accept_at_end_of
    end_sound =
        first_cases (λ r. r < length t.rules) (λ n. T (implies (used n) (names_rule w q.depth n))) _ q.members ((numbered t).members s b) tt
        (λ r h e. to_implies (used (suc r)) _ (λ _. names_rule_lem q.depth r h (eqb→eq (rule_at t r).size q.depth e)))

    accept_free : T (used (accept_of t q)) → Each T (names_rule w q.depth (accept_of t q) ∷ eqb (at (block_at w (pred (accept_of t q))) 1) 0 ∷ [])
    unfolding accept_of
    accept_free =
        first_cases (λ r. r < length t.rules) (λ n. T (used n) → Each T (names_rule w q.depth n ∷ eqb (at (block_at w (pred n)) 1) 0 ∷ [])) _
        q.members ((numbered t).members s b) (λ u. absurd u)
        (λ r h e _.
        let size = and_left (eqb (rule_at t r).size q.depth) (not (rule_at t r).anchored) e in
        let free = of_not (rule_at t r).anchored (and_right (eqb (rule_at t r).size q.depth) (not (rule_at t r).anchored) e) in (
          names_rule_lem q.depth r h (eqb→eq (rule_at t r).size q.depth size),
          (eq→eqb (at (block_at w r) 1) 0 (block_word t rest shaped r h 1 (omega arith) ∙ block_anchored (rule_at t r) ∙ ap bit free), tt),
        ))

    -- an accept comes with an accept at the end
    accept_end : accept_at_end_of t q ≡ 0 → accept_of t q ≡ 0
    unfolding accept_at_end_of accept_of
    accept_end = first_none _ _ q.members (λ r. and_left (eqb (rule_at t r).size q.depth) (not (rule_at t r).anchored))

    target_sound : (k : ℕ) → k < length (starts t) → T (used (target_word w s k)) →
        Each T (not (used (accept_of t q)) ∷ sound_target w s (target_word w s k) ∷ [])
    unfolding sound_target
    target_sound k h u =
        let c = get_or (starts t) k 0 in
        let p = target_of t (states t) q c in
        let e = layout_target t rest few s b narrow k h in
        let n : p ≢ 0 = λ z. neqb→ne (target_word w s k) 0 u (e ∙ z) in
        let inside = (numbered t).below s c in
        let deeper : depth_word w p ≡ suc (depth_word w s) = layout_depth t rest few p inside ∙ (numbered t).deeper s c n ∙ ap suc (sym (layout_depth t rest few s b)) in (
          not_T (used (accept_of t q)) (λ g. n ((numbered t).no_way_on s c (neqb→ne (accept_of t q) 0 g))),
          (
            subst (λ p. T (sound_target w s p)) (sym e)
                (to_all_of _ (lt→ltb s p ((numbered t).later s c b n), (lt→ltb p (state_count w) (rw (layout_states t rest) inside), (eq→eqb (depth_word w p) (suc (depth_word w s)) deeper, tt)))),
            tt,
          ),
        )

    state_sound : T (sound_state w s)
    unfolding sound_state
    state_sound =
        rw (layout_depth t rest few s b, layout_accept_at_end t rest few s b, layout_accept t rest few s b, layout_longest t rest, layout_classes t rest)
        (to_all_of _ (
          depth_sound,
          (
            end_sound,
            (
              to_implies (used (accept_of t q)) _ (λ u.
                  let free = accept_free u in
                  to_all_of _ (free.0, (free.1.0, (ne→neqb (accept_at_end_of t q) 0 (λ e. neqb→ne (accept_of t q) 0 u (accept_end e)), tt)))),
              (to_below (length (starts t)) _ (λ k h. to_implies (used (target_word w s k)) _ (λ u. to_all_of _ (target_sound k h u))), tt),
            ),
          ),
        ))

  pub compiled_sound : T (sound (words t ++ rest))
  unfolding sound
  compiled_sound =
      let long : word_count ≤ length w = omega (arith, length-append (words t) rest, length_words t) in
      to_all_of _ (le→leb word_count (length w) long, (header_sound, (starts_sound, (blocks_sound, (to_below (state_count w) (sound_state w) (λ s b. state_sound s (rw (layout_states t rest) at b)), tt)))))
