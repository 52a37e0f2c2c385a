-- A turn of the run over machine words: what the machine does where it has read on, and how what was done before and after joins.
-- Before a character without a target a state's rule decides; at the text's end its rule there, and whether more may come.
use mathlib.Core.Bool.{Bool, true, false, ◌&&◌, cond}
use mathlib.Core.List.{List, [], ◌∷◌}
use mathlib.Core.Logic.{◌≢◌}
use mathlib.Core.Path.{◌≡◌, refl, sym, ap, subst, ◌∙◌}
use Prim.Native.Nat.{ℕ, suc, pred, ◌+◌, ◌-◌, ◌≤◌, ◌<◌}
use native.Mathlib.Omega.{arith}
use lib.Dec.{T, eqb}
use lib.ListN.{length, get_or, take, drop, drop_of_length-le}
use lib.Seq.{drop-cons}
use Rattle.lists.proofs.Laws.Tests.{to_T}
use Rattle.meaning.specs.Table.{default_number, pair_number}
use Rattle.meaning.specs.Block.{at, block_output}
use Rattle.meaning.specs.Meaning.{Emission}
use Rattle.automaton.specs.Sound.{state_count, expansion_word, accept_at_end_word, accept_word, block_at, used, sound}
use Rattle.automaton.specs.Automaton.{from_words}
use Rattle.words.specs.declared.numbers.RuleNo.{RuleNo}
use Rattle.automaton.proofs.Laws.Words.{sound_state_lem, length_block_output}
use Rattle.reckoning.specs.Machine.{Stopped, Closed, Fall, nowhere, taking, keeping, fall, step}
use Rattle.reckoning.specs.Session.{settled}
use Rattle.session.specs.bridge.Counting.{bumped, Counted}
use Rattle.session.specs.bridge.Running.{Turn, Continue, Break, Move, Emit, Back, Wait, Close, standing, step_by, Fits, Decides, put, store_of, Placed, Lent, Advances, Beyond, Between, Halted, Waits, read_to, Passes, Stands, ReadsOn, MovesAt, Moves, Takes, LeavesUnit, accept_now}
use Rattle.session.specs.declared.run.Ran.{Ran}
use Rattle.session.specs.declared.run.Ahead.{Ahead}
use Rattle.reckoning.proofs.Laws.Walk.{settled_both}
use Rattle.reckoning.proofs.Laws.Run.{step_settled, step_wait, step_end, step_close, step_give_back}
use Rattle.session.proofs.Laws.Counting.{counted_bumped}
use Rattle.session.proofs.Laws.Running.{rule_fits, character_emits, character_backs, decides_character, beyond_put, advances_emit, advances_one, advances_pair, advances_stop, advances_leave, advances_wait, advances_close, beyond_on}

-- The machine's step where the run stands.
module _ (w u : List ℕ) (W : T (sound w)) (q : ℕ) (b : q < state_count w) (before after : ℕ) where
  abbrev store : List ℕ
  store = take (after - before) (drop before u)

  -- nothing is unread at the text's end
  at-end : (ended : Bool) (v : Move) → after ≡ length u →
      ((log : List Emission) (n : ℕ) → step (from_words w) ended (standing store [] q log n) ≡ step_by v (standing store [] q log n)) → Decides w u ended q before after v
  at-end ended v h f log n =
      let i : length u ≤ after = omega arith in
      subst (λ z. step (from_words w) ended (standing store z q log n) ≡ step_by v (standing store z q log n)) (sym (drop_of_length-le u i)) (f log n)

  pause_emits : (g : RuleNo) → after ≡ length u → settled (from_words w) q ≡ true → suc g.0 ≡ accept_word w q → Decides w u false q before after (Emit g)
  unfolding from_words
  pause_emits g h s e =
      let p : pred (accept_word w q) ≡ g.0 = omega arith in
      at-end false (Emit g) h (λ log n. rw (← p) (step_settled (from_words w) store q log n s))

  by_settled : (g : RuleNo) (r : Bool) → after ≡ length u → r ≡ (used (accept_word w q) && eqb (accept_word w q) (accept_at_end_word w q)) →
      suc g.0 ≡ cond r (accept_word w q) 0 → Decides w u false q before after (Emit g) × Fits w q (Emit g)
  unfolding from_words
  by_settled g true h s e = (pause_emits g h (sym s) e, rule_fits w W q b g (accept_word w q) e (sound_state_lem w W q b).accept)
  by_settled g false h s e = absurd (omega arith)

  -- the rule that is named is emitted
  pub rule_decides : (stuck ended : Bool) (g : RuleNo) → Stands w u stuck q after → suc g.0 ≡ accept_now w q stuck ended →
      Decides w u ended q before after (Emit g) × Fits w q (Emit g)
  unfolding from_words
  rule_decides true ended g s e =
      let x = get_or u after 0 in
      let k = character_emits w W q b x g e in
      (decides_character w u ended q before after (Emit g) x s.0 refl k.0, k.1)
  rule_decides false true g s e =
      (at-end true (Emit g) s (λ log n. step_end (from_words w) store q log n g.0 (sym e)), rule_fits w W q b g (accept_at_end_word w q) e (sound_state_lem w W q b).end)
  rule_decides false false g s e = by_settled g _ s refl e

  -- no rule is named: before a character without a target the store is given back
  pub stuck_backs : (ended : Bool) → Stands w u true q after → accept_word w q ≡ 0 → Decides w u ended q before after Back
  unfolding from_words
  stuck_backs ended s e =
      let x = get_or u after 0 in
      decides_character w u ended q before after Back x s.0 refl (character_backs w W q b x (sym e) s.1)

  unsettled : (r : Bool) → r ≡ (used (accept_word w q) && eqb (accept_word w q) (accept_at_end_word w q)) → cond r (accept_word w q) 0 ≡ 0 → settled (from_words w) q ≡ false
  unfolding from_words
  unsettled true s e =
      let k = settled_both (from_words w) q (to_T (settled (from_words w) q) (sym s)) in
      absurd (omega (arith, k.1, e))
  unsettled false s e = sym s

  -- ... at the text's end the run waits where more may come
  pub pause_waits : after ≡ length u → accept_now w q false false ≡ 0 → Decides w u false q before after Wait
  pause_waits h e = at-end false Wait h (λ log n. step_wait (from_words w) store q log n (unsettled _ refl e))

  -- ... and else gives a store back, or closes with none
  pub end_backs : after ≡ length u → before < after → accept_at_end_word w q ≡ 0 → Decides w u true q before after Back
  unfolding from_words
  end_backs h i e =
      let z : after - before ≡ suc (after - before - 1) = omega arith in
      let s : get_or u before 0 ∷ take (after - before - 1) (drop (suc before) u) ≡ store =
      sym (ap (λ k. take k (drop before u)) z ∙ ap (take (suc (after - before - 1))) (drop-cons u before 0 (omega arith))) in
      at-end true Back h (λ log n.
      subst (λ l. step (from_words w) true (standing l [] q log n) ≡ step_by Back (standing l [] q log n)) s
      (step_give_back (from_words w) q log n (get_or u before 0) (take (after - before - 1) (drop (suc before) u)) e))

  pub end_closes : after ≡ length u → after ≤ before → accept_at_end_word w q ≡ 0 → Decides w u true q before after Close
  unfolding from_words
  end_closes h i e =
      let z : 0 ≡ after - before = omega arith in
      let s : [] ≡ store = ap (λ k. take k (drop before u)) z in
      at-end true Close h (λ log n.
      subst (λ l. step (from_words w) true (standing l [] q log n) ≡ step_by Close (standing l [] q log n)) s (step_close (from_words w) q log n e))

-- What is done, where the machine's step is known.
module _ (w u : List ℕ) (W : T (sound w)) (old : Ran) (before : Lent) (P : Placed w u (length before.output) old)
    (C : Counted before.uses old.from) (new : Ran) where
  -- one more use is counted
  counted_on : (g : ℕ) (after : Lent) → after.uses ≡ bumped before.uses g 1 → old.from + 1 ≤ new.from → Counted after.uses new.from
  counted_on g after e h = subst (λ l. Counted l new.from) (sym e) (counted_bumped before.uses g 1 old.from new.from C h)

  pub emit_moves : (g : RuleNo) (after : Lent) → Fits w old.state.0 (Emit g) → Between old.at (old.count + at (block_at w g.0) 2) (old.steps + 1) new →
      after.output ≡ put before.output old.count (block_output (block_at w g.0) (store_of u old)) →
      after.uses ≡ bumped before.uses g.0 1 →
      Moves w u (length before.output) old before (Emit g) (Continue new) after × Beyond old before.output new after.output
  emit_moves g after f B e c = (
    λ ended d. (
      advances_emit w u ended W old before P new g after d f B.state B.from B.at B.count B.steps e c,
      counted_on g.0 after c (omega (arith, f.2, P.depth, B.from)),
    ),
    beyond_put w u old before.output P new (block_output (block_at w g.0) (store_of u old)) after.output (at (block_at w g.0) 2)
        (length_block_output (block_at w g.0) (store_of u old)) B.count e,
  )

  -- a roll-back, by what it leads to
  module _ (ended : Bool) (some : old.from < length u) where
    abbrev Falls : Fall → Type 0
    Falls f = fall (from_words w).default ended (drop old.from u) ≡ f

    abbrev Rolls : Turn → Lent → Type 0
    Rolls turn after = MovesAt w u ended (length before.output) old before Back turn after × Beyond old before.output new after.output

    pub one_moves : (after : Lent) → Takes w u old before default_number 1 new after → Falls (taking default_number 1) → at w 5 ≢ 0 → Rolls (Continue new) after
    one_moves after t f e = (
      λ st. ((advances_one w u ended W old before P new st some after t f e).0, counted_on default_number after t.counted (omega (arith, t.between.from))),
      beyond_put w u old before.output P new _ after.output _ refl t.between.count t.wrote,
    )

    pub pair_moves : (after : Lent) → Takes w u old before pair_number 2 new after → Falls (taking pair_number 2) → old.from + 2 ≤ length u → 1 ≤ expansion_word w → Rolls (Continue new) after
    pair_moves after t f room e = (
      λ st. ((advances_pair w u ended W old before P new st some after t f room e).0, counted_on pair_number after t.counted (omega (arith, t.between.from))),
      beyond_put w u old before.output P new _ after.output _ refl t.between.count t.wrote,
    )

    pub stop_moves : Falls nowhere → Halted Stopped (old.steps + 2) old new → Rolls (Break new) before
    stop_moves f H = (
      λ st. advances_stop w u ended W old before P new st some f H.status H.state H.from H.at H.count H.steps,
      (omega (arith, H.count), refl),
    )

    pub leave_moves : Falls keeping → LeavesUnit old new → Rolls (Break new) before
    leave_moves f U = (λ st. advances_leave w u ended W old before P new st some f U, (omega (arith, U.count), refl))

  pub wait_moves : (ended : Bool) → Decides w u ended old.state.0 old.from old.at Wait → Waits old new →
      Advances w u ended (length before.output) old before (Break new) before × Beyond old before.output new before.output
  wait_moves ended st H = (
    advances_wait w u ended W old before P new st H.status H.state H.from H.at H.count H.steps,
    (omega (arith, H.count), refl),
  )

  pub close_moves : (ended : Bool) → Decides w u ended old.state.0 old.from old.at Close → Halted Closed (old.steps + 1) old new →
      Advances w u ended (length before.output) old before (Break new) before × Beyond old before.output new before.output
  close_moves ended st H = (
    advances_close w u ended W old before P new st H.status H.state H.from H.at H.count H.steps,
    (omega (arith, H.count), refl),
  )

-- Where the run stands once it has read on.

pub stands : (w u : List ℕ) (now : Ran) (a : Ahead) → ReadsOn w u now a → (stuck : Bool) → a.stuck ≡ stuck → (stuck ≡ false → length u ≤ a.at) → a.at ≤ length u →
    Stands w u stuck a.state.0 a.at
stands w u now a R true e f h = R.stuck e
stands w u now a R false e f h = let k = f refl in omega arith

-- something was read, and the text is not at its end
pub read_more : (w u : List ℕ) (ended : Bool) (now : Ran) (has : Lent) (a : Ahead) → ReadsOn w u now a → Placed w u (length has.output) now →
    Counted has.uses now.from → a.stuck ≡ false → a.at < length u → Advances w u ended (length has.output) now has (Continue (read_to now a)) has
read_more w u ended now has a R P C e h =
    let p = R.passes has P in
    let k = R.free e h in
    ((p.0, omega (arith, P.order, h), p.2 ended), C)

-- what leads on after a passage leads on from before it
pub advances_after : (w u : List ℕ) (ended : Bool) (room : ℕ) (old mid : Ran) (turn : Turn) (before between after : Lent) →
    Passes w u room old before mid between → Advances w u ended room mid between turn after → Advances w u ended room old before turn after
advances_after w u ended room old mid (Break new) before between after p f = λ r found G. f r found (p.2 ended r found G)
advances_after w u ended room old mid (Continue new) before between after p f =
    ((f.0.0, omega (arith, p.1, f.0.1), λ r found G. f.0.2 r found (p.2 ended r found G)), f.1)

pub beyond_join : (old mid new : Ran) (before between after : List ℕ) → Beyond old before mid between → Beyond mid between new after → Beyond old before new after
beyond_join old mid new before between after a b = (omega (arith, a.0, b.0), beyond_on mid new before between after a.1 b)
