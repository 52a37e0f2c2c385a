-- The automaton made from a table reads its rules and is good.
-- After a word it is in the state of that word: its length, and the rules that it fits so far.
use mathlib.Core.Bool.{Bool, ◌&&◌, not, cond}
use mathlib.Core.List.{List, [], ◌∷◌, ◌++◌, append-nil, Memᴰ}
use mathlib.Core.Path.{◌≡◌, refl, sym, ap, ap₂, subst, ◌∙◌}
use Prim.Native.Nat.{ℕ, zero, suc, ◌≤◌, ◌<◌}
use native.Mathlib.Decide.{ℕ_discrete}
use native.Mathlib.Omega.{arith}
use lib.Dec.{T, eqb, ltb, eqb→eq, eqb_refl}
use lib.ListN.{length, get_or, length-append}
use lib.Seq.{append_snoc}
use Rattle.lists.specs.Lists.{filter, up_to}
use Rattle.lists.proofs.Laws.Tests.{and_left, and_right, both, of_not}
use Rattle.lists.proofs.Laws.Each.{each_front, each_back, each_weaken}
use Rattle.lists.proofs.Laws.Members.{mem_filter, mem_get_d}
use Rattle.lists.proofs.Laws.Sets.{filter_filter, filter_same, filter_all, not_empty, each_up_to, mem_up_to}
use Rattle.meaning.specs.Table.{Characters, Table, in_ranges, rule_at, longest}
use Rattle.meaning.proofs.Laws.Prefix.{fits_prefix, fits_prefix_nil, fits_prefix_snoc}
use Rattle.meaning.proofs.Laws.Shape.{Shaped}
use Rattle.meaning.proofs.Laws.Groups.{rule_shaped}
use Rattle.automaton.specs.States.{State, initial, accept_of, accept_at_end_of, longer_rules, successor, inhabited, states}
use Rattle.automaton.specs.Automaton.{from_table}
use Rattle.automaton.proofs.Laws.Good.{after, Leads, Good, after_inside, Least, Done, Free, Reads, state_at}
use Rattle.automaton.proofs.Laws.Classes.{start_of, class_same, class_member}
use Rattle.automaton.proofs.Laws.First.{least_kept}
use Rattle.automaton.proofs.Laws.Levels.{IsRule, goes_on_lem, target_found, target_there, states_closed, successor_depth, numbered}

-- The state of a word: "depth d, and the set of rules with K at least d that fit" it "in their first d positions". A prefix that fits is no
-- longer than K (`fits_prefix-length`).
abbrev pub state_of : Table → List ℕ → State
state_of t w = record { depth = length w; members = filter (λ r. fits_prefix (rule_at t r).ranges w) (up_to (length t.rules)) }

least_none : (P : ℕ → Type 0) (g : ℕ) → ((r : ℕ) → P r → ⊥) → Least P g → g ≡ 0
least_none P zero h l = refl
least_none P (suc r) h l = absurd (h r l.0)

module _ (t : Table) where
  abbrev fitting : List ℕ → ℕ → Bool
  fitting w r = fits_prefix (rule_at t r).ranges w

  abbrev sized : List ℕ → ℕ → Bool
  sized w r = eqb (rule_at t r).size (length w)

  abbrev free : ℕ → Bool
  free r = not (rule_at t r).anchored

  -- the three tests of a rule that takes the word whole
  to_done : (w : List ℕ) (r : ℕ) → r < length t.rules → T (fitting w r) → T (sized w r) → Done t w r
  to_done w r h f e = record { rule = h; size = eqb→eq (rule_at t r).size (length w) e; takes = f }

  done_sized : (w : List ℕ) (r : ℕ) → Done t w r → T (sized w r)
  done_sized w r d = rw d.size (eqb_refl (length w))

  pub initial_is : initial t ≡ state_of t []
  unfolding initial
  initial_is =
      let m : filter (fitting []) (up_to (length t.rules)) ≡ up_to (length t.rules) =
      filter_all (fitting []) (up_to (length t.rules))
      (each_weaken (IsRule t) (λ r. T (fitting [] r)) (up_to (length t.rules)) (λ r h. fits_prefix_nil (rule_at t r).ranges) (each_up_to (length t.rules))) in
      λ i. record { depth = 0; members = sym m i }

module _ (t : Table) (S : Shaped t) where
  -- one character on, where no rule is accepted; c may stand for x
  pub state_by : (v : List ℕ) (c x : ℕ) →
      ((r : ℕ) → r < length t.rules → in_ranges (get_or (rule_at t r).ranges (length v) []) c ≡ in_ranges (get_or (rule_at t r).ranges (length v) []) x) →
      accept_of t (state_of t v) ≡ 0 → successor t (state_of t v) c ≡ state_of t (v ++ x ∷ [])
  unfolding successor
  state_by v c x alike e =
      let n : ℕ = length t.rules in
      let d : suc (length v) ≡ length (v ++ x ∷ []) = omega (arith, length-append v (x ∷ [])) in
      let longer : ℕ → Bool = goes_on_lem t (state_of t v) c in
      let m : cond (eqb (accept_of t (state_of t v)) 0) (longer_rules t (state_of t v) c) [] ≡ filter (fitting t (v ++ x ∷ [])) (up_to n) =
      ap (λ k. cond (eqb k 0) (longer_rules t (state_of t v) c) []) e
      ∙ filter_filter (fitting t v) longer (up_to n)
      ∙ filter_same (λ r. fitting t v r && longer r) (fitting t (v ++ x ∷ [])) (up_to n)
      (each_weaken (IsRule t) (λ r. fitting t v r && longer r ≡ fitting t (v ++ x ∷ []) r) (up_to n) same (each_up_to n)) in
      λ i. record { depth = d i; members = m i }
    where
      same : (r : ℕ) → r < length t.rules → fitting t v r && goes_on_lem t (state_of t v) c r ≡ fitting t (v ++ x ∷ []) r
      same r k =
          ap₂ (λ s b. fitting t v r && (ltb (length v) s && b)) (sym (rule_shaped t S r k).places) (alike r k)
          ∙ sym (fits_prefix_snoc (rule_at t r).ranges v x)

  pub state_next : (v : List ℕ) (x : ℕ) → x < 65536 → accept_of t (state_of t v) ≡ 0 → successor t (state_of t v) (start_of t x) ≡ state_of t (v ++ x ∷ [])
  state_next v x h e = state_by v (start_of t x) x (λ r k. class_same t r (length v) x k h) e

  state_from : (v w : List ℕ) (q : ℕ) → Characters w → Leads (from_table t) q w → state_at t q ≡ state_of t v →
      state_at t (after (from_table t) q w) ≡ state_of t (v ++ w)
  unfolding after from_table
  state_from v [] q a l e = e ∙ sym (ap (state_of t) (append-nil v))
  state_from v (x ∷ w) q a l e = state_from (v ++ x ∷ []) w ((from_table t).target q x) a.1 l.1 next ∙ ap (state_of t) (append_snoc v x w)
    where
      going : accept_of t (state_at t q) ≡ 0
      going = elim (ℕ_discrete (accept_of t (state_at t q)) 0) [ yes p ↦ p | no n ↦ absurd (l.0 ((numbered t).no_way_on q (start_of t x) n)) ]

      next : state_at t ((from_table t).target q x) ≡ state_of t (v ++ x ∷ [])
      next =
          (target_found t (states t) (state_at t q) (start_of t x) (initial t) l.0).1
          ∙ ap (λ s. successor t s (start_of t x)) e
          ∙ state_next v x a.0 (ap (accept_of t) (sym e) ∙ going)

  pub state_after_lem : (w : List ℕ) → Characters w → Leads (from_table t) 0 w → state_at t (after (from_table t) 0 w) ≡ state_of t w
  state_after_lem w a l = state_from [] w 0 a l ((numbered t).first ∙ initial_is t)

  accepts : (w : List ℕ) → Characters w → Leads (from_table t) 0 w → Least (Free t w) ((from_table t).accept (after (from_table t) 0 w))
  unfolding from_table accept_of
  accepts w a l =
      rw (state_after_lem w a l)
      (least_kept (Free t w) (fitting t w) (λ r. sized t w r && free t r) (length t.rules)
      (λ r h v.
      let p : T (sized t w r && free t r) = and_right (fitting t w r) (sized t w r && free t r) v in record {
        done = to_done t w r h (and_left (fitting t w r) (sized t w r && free t r) v) (and_left (sized t w r) (free t r) p);
        free = of_not (rule_at t r).anchored (and_right (sized t w r) (free t r) p);
      })
      (λ r d. (
        d.done.rule,
        both (fitting t w r) (sized t w r && free t r) d.done.takes
            (both (sized t w r) (free t r) (done_sized t w r d.done) (subst (λ b. T (not b)) (sym d.free) tt)),
      )))

  ends : (w : List ℕ) → Characters w → Leads (from_table t) 0 w → Least (Done t w) ((from_table t).accept_at_end (after (from_table t) 0 w))
  unfolding from_table accept_at_end_of
  ends w a l =
      rw (state_after_lem w a l)
      (least_kept (Done t w) (fitting t w) (sized t w) (length t.rules)
      (λ r h v. to_done t w r h (and_left (fitting t w r) (sized t w r) v) (and_right (fitting t w r) (sized t w r) v))
      (λ r d. (d.rule, both (fitting t w r) (sized t w r) d.takes (done_sized t w r d))))

  no_empty_rule : (r : ℕ) → Done t [] r → ⊥
  no_empty_rule r d =
      let i : 1 ≤ (rule_at t r).size = (rule_shaped t S r d.rule).positive in
      let e : (rule_at t r).size ≡ 0 = d.size in
      omega arith

  pub table_good : Good (from_table t) (longest t) (length (states t))
  unfolding from_table after initial
  table_good = record {
    some_state = (numbered t).some_state;
    depth = λ q. (state_at t q).depth;
    depth_0 = ap (λ (p : State). p.depth) (numbered t).first;
    accept_0 = least_none (Free t []) ((from_table t).accept 0) (λ r d. no_empty_rule r d.done) (accepts [] tt tt);
    end_0 = least_none (Done t []) ((from_table t).accept_at_end 0) no_empty_rule (ends [] tt tt);
    inside = λ q x h. (numbered t).below q (start_of t x);
    deeper = λ q x h n. (numbered t).deeper q (start_of t x) n;
    shallow = λ q h. (numbered t).depths q h;
    no_way_on = λ q x h n. (numbered t).no_way_on q (start_of t x) n;
  }

  -- a rule that goes on is in the successor, which is then one of the states, and deeper than state 0
  dead_end : (w : List ℕ) (x : ℕ) → Characters (w ++ x ∷ []) → Leads (from_table t) 0 w → (from_table t).accept (after (from_table t) 0 w) ≡ 0 →
      (from_table t).target (after (from_table t) 0 w) x ≡ 0 → (r : ℕ) → r < length t.rules → T (fits_prefix (rule_at t r).ranges (w ++ x ∷ [])) → ⊥
  unfolding from_table initial
  dead_end w x a l e z r h f =
      let q : ℕ = after (from_table t) 0 w in
      let c : ℕ = start_of t x in
      let s : state_at t q ≡ state_of t w = state_after_lem w (each_front (λ k. k < 65536) w (x ∷ []) a) l in
      let n : successor t (state_at t q) c ≡ state_of t (w ++ x ∷ []) =
      ap (λ p. successor t p c) s ∙ state_next w x (each_back (λ k. k < 65536) w (x ∷ []) a).0 (ap (accept_of t) (sym s) ∙ e) in
      let i : T (inhabited (successor t (state_at t q) c)) =
      subst (λ p. T (inhabited p)) (sym n)
      (not_empty (filter (fitting t (w ++ x ∷ [])) (up_to (length t.rules)))
      (mem_filter (fitting t (w ++ x ∷ [])) (up_to (length t.rules)) f (mem_up_to (length t.rules) r h))) in
      let m : Memᴰ (successor t (state_at t q) c) (states t) =
      states_closed t c (class_member t x) i (mem_get_d (states t) q (initial t) (after_inside (from_table t) (longest t) (length (states t)) table_good 0 w (numbered t).some_state)) in
      let d : 0 ≡ suc (state_at t q).depth =
      ap (λ (p : State). p.depth) (sym (numbered t).first ∙ ap (state_at t) (sym z) ∙ target_there t (states t) (state_at t q) c (initial t) i m)
      ∙ successor_depth t (state_at t q) c in
      omega arith

  pub table_reads : Reads (from_table t) t
  table_reads = record { accept_is = accepts; end_is = ends; dead = dead_end }
