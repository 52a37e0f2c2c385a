-- "Nothing held without need": where the machine waits with characters held, two ways for the input to go on make different choices there, and
-- before them every choice is decided. The conversion of a longer input goes on from what is held, and the state that waits has two ways on.
use mathlib.Core.Bool.{Bool, true, false, ◌&&◌, cond}
use mathlib.Core.List.{List, [], ◌∷◌, ◌++◌, append-nil}
use Rattle.std.specs.Prelude.{None, Some}
use mathlib.Core.Path.{◌≡◌, refl, sym, ap, subst, ◌∙◌}
use Prim.Native.Nat.{ℕ, suc, ◌≤◌, ◌<◌}
use native.Mathlib.Nat.{add-zero}
use native.Mathlib.Omega.{arith}
use lib.Dec.{T, eqb_refl}
use lib.ListN.{length, take, drop}
use Rattle.lists.specs.Lists.{Each, pad}
use Rattle.lists.proofs.Laws.Tests.{of_T, both}
use Rattle.lists.proofs.Laws.Each.{each_append}
use Rattle.lists.proofs.Laws.Parts.{take_pad}
use Rattle.meaning.specs.Table.{Characters, Paired, Table, mode, is_first, is_second, longest}
use Rattle.meaning.specs.WellFormed.{WellFormed}
use Rattle.meaning.specs.Meaning.{covered, convert}
use Rattle.meaning.specs.Choices.{the_default, the_pair, chosen_in, chosen_at, Undecided, Decided}
use Rattle.meaning.proofs.Laws.Shape.{Shaped}
use Rattle.meaning.proofs.Laws.Described.{well_formed_shaped}
use Rattle.meaning.proofs.Laws.Choice.{Chosen}
use Rattle.meaning.proofs.Laws.Choices.{fallen, chosen_within, chosen_behind}
use Rattle.automaton.specs.States.{states}
use Rattle.automaton.specs.Claims.{Compiled}
use Rattle.automaton.specs.Automaton.{Automaton, from_table}
use Rattle.automaton.proofs.Laws.Good.{after, Good}
use Rattle.automaton.proofs.Laws.States.{table_good, table_reads}
use Rattle.automaton.proofs.Laws.Witness.{at_first}
use Rattle.automaton.proofs.Laws.Undecided.{two_ways}
use Rattle.reckoning.specs.Machine.{Open, Ended, taking}
use Rattle.reckoning.specs.Session.{settled}
use Rattle.reckoning.specs.Calls.{received_by}
use Rattle.reckoning.specs.Reckoning.{Call, piece, accepted_pieces, unserved, serve, no_input, ran, reckon}
use Rattle.reckoning.specs.Claims.{OutcomesAgree}
use Rattle.reckoning.specs.Needs.{HeldOfNeed}
use Rattle.reckoning.proofs.Laws.Trace.{walk, Trace, trace, log_of, held_of, status_of}
use Rattle.reckoning.proofs.Laws.Walk.{settled_hit}
use Rattle.reckoning.proofs.Laws.Rounds.{Stood, led, leftover, Joined, Covers, trace_covers, covers_held, held_characters, trace_graft, graft_open, not_open, trace_rests, rests_open, trace_ended}
use Rattle.reckoning.proofs.Laws.Meaning.{round_picks, ending}
use Rattle.reckoning.proofs.Laws.Whole.{run_is, meaning_is}
use Rattle.reckoning.proofs.Laws.Kept.{sound_facts}
use Rattle.reckoning.proofs.Laws.Calls.{calls_stand}
use Rattle.reckoning.proofs.Laws.Demand3.{compiled_matched, outcomes_agree}

module _ (t : Table) (W : WellFormed t) where
  abbrev S : Shaped t
  S = well_formed_shaped t W

  abbrev A : Automaton
  A = from_table t

  abbrev good : Good A (longest t) (length (states t))
  good = table_good t S

  -- Where the machine waits with h held, the first choice over h is open.

  go_not_end : (q : ℕ) → settled A q ≡ false → (r : ℕ) → A.accept q ≡ suc r → A.accept_at_end q ≡ suc r → ⊥
  go_not_end q n r pg pe = subst T (sym (settled_hit A q (suc r) pg) ∙ n) (rw pe (eqb_refl (suc r)))

  -- where state 0 has no target for a character, no rule fits there
  none_fits : (y : ℕ) → A.target 0 y ≡ 0 → (u : List ℕ) → Characters (y ∷ u) → Chosen t (length t.rules) (y ∷ u) None
  unfolding walk
  none_fits y n u c = rw (good.accept_0, n) at (round_picks A t S (table_reads t S) (taking 0 0) tt (y ∷ u) c)

  default_is : A.default ≡ mode t
  unfolding from_table
  default_is = refl

  -- a first unit that was left: ending there the default takes it alone, and before a second unit it takes both
  unit_open : (y : ℕ) → y < 65536 → mode t ≡ Paired → T (is_first y) → A.target 0 y ≡ 0 → Undecided t (y ∷ []) 0
  unit_open y b m i none_there = record {
    one = [];
    other = 56320 ∷ [];
    one_characters = tt;
    other_characters = (omega arith, tt);
    one_choice = the_default;
    other_choice = the_pair;
    one_chosen =
        at_first t S (y ∷ []) None (omega arith) (none_fits y none_there [] (b, tt))
        ∙ ap (λ m. Some (fallen m (y ∷ []))) m;
    other_chosen =
        at_first t S (y ∷ 56320 ∷ []) None (omega arith) (none_fits y none_there (56320 ∷ []) (b, (omega arith, tt)))
        ∙ ap (λ m. Some (fallen m (y ∷ 56320 ∷ []))) m
        ∙ ap (λ z. Some (cond z the_pair the_default)) (of_T (is_first y && is_second 56320) (both (is_first y) (is_second 56320) i tt));
    differ = λ e. let z : ◌≡◌ {A = ℕ} 0 1 = cc in omega arith;
  }

  stood_open : (h : List ℕ) (q : ℕ) → Stood A h q → settled A q ≡ false → 0 < length h → Characters h → Undecided t h 0
  stood_open h q (led p l) n some-held k = two_ways t W h some-held k l (go_not_end (after A 0 h) (subst (λ s. settled A s ≡ false) p n))
  stood_open h q (leftover y p z m i none_there) n some-held k =
      subst (λ h. Undecided t h 0) (sym p) (unit_open y (subst Characters p k).0 (sym default_is ∙ m) i none_there)

  -- An input that goes on: what is chosen where the held characters begin is what is chosen first of them and what follows.

  ending_same : (a b : Bool) → ending a ≡ ending b → a ≡ b
  ending_same true true e = refl
  ending_same true false e = let z : ◌≡◌ {A = ℕ} 0 1 = cc in absurd (omega arith)
  ending_same false true e = let z : ◌≡◌ {A = ℕ} 0 1 = cc in absurd (omega arith)
  ending_same false false e = refl

  -- The input u was read, and the machine waits.
  module _ (u : List ℕ) (c : Characters u) (o : status_of (trace A false 0 u) ≡ Open) where
    abbrev x : Trace
    x = trace A false 0 u

    covers : Covers u x
    covers = trace_covers A (longest t) (length (states t)) good false 0 u (omega arith)

    pub held_place : drop (covered (log_of x)) u ≡ held_of x
    held_place = covers_held x u covers o

    characters : Characters (held_of x)
    characters = held_characters x u covers c

    -- with more input, what was written stays, and the rest is chosen as over what is held and what is more
    chosen_on : (v : List ℕ) → Characters v → (p : ℕ) → (let r = convert t (held_of x ++ v) in chosen_at t (u ++ v) p ≡ chosen_in (log_of x ++ r.log) r.closed p)
    unfolding chosen_at
    chosen_on v k p =
        let all = u ++ v in
        let rest = held_of x ++ v in
        let J : Joined x (trace A true 0 rest) (trace A true 0 all) =
        rw (trace_graft A true v 0 u (omega arith)) (graft_open (trace A false 0 u) (λ h. trace A true 0 (h ++ v)) o) in
        let D = meaning_is t S all (each_append (λ c. c < 65536) u v c k) in
        let E = meaning_is t S rest (each_append (λ c. c < 65536) (held_of x) v characters k) in
        let logs : (convert t all).log ≡ log_of x ++ (convert t rest).log = sym D.0 ∙ J.log ∙ ap (λ m. log_of x ++ m) E.0 in
        let ends : (convert t all).closed ≡ (convert t rest).closed = ending_same _ _ (sym D.1 ∙ J.status ∙ E.1) in
        ap (λ m. chosen_in m (convert t all).closed p) logs ∙ ap (λ b. chosen_in (log_of x ++ (convert t rest).log) b p) ends

    choice_behind : (v : List ℕ) → Characters v → chosen_at t (u ++ v) (covered (log_of x)) ≡ chosen_at t (held_of x ++ v) 0
    unfolding chosen_at
    choice_behind v k =
        let r = convert t (held_of x ++ v) in
        chosen_on v k (covered (log_of x))
        ∙ ap (chosen_in (log_of x ++ r.log) r.closed) (sym (add-zero (covered (log_of x))))
        ∙ chosen_behind (log_of x) r.log r.closed 0

    -- WHAT WAS WRITTEN IS DECIDED
    pub written_decided : (p : ℕ) → p < covered (log_of x) → Decided t u p
    unfolding Decided
    written_decided p h v k =
        let by-log : (v : List ℕ) → Characters v → chosen_at t (u ++ v) p ≡ chosen_in (log_of x) true p =
        λ v k. let r = convert t (held_of x ++ v) in chosen_on v k p ∙ chosen_within (log_of x) r.log r.closed p h in
        by-log v k ∙ sym (by-log [] tt) ∙ ap (λ z. chosen_at t z p) (append-nil u)

    -- WHAT IS HELD IS NOT
    pub held_undecided : 0 < length (held_of x) → Undecided t u (covered (log_of x))
    held_undecided h =
        let k = rests_open A x (trace_rests A (longest t) (length (states t)) good 0 u) o in
        let w : Undecided t (held_of x) 0 = stood_open (held_of x) (after A 0 (held_of x)) k.0 k.1 h characters in
        record {
          one = w.one;
          other = w.other;
          one_characters = w.one_characters;
          other_characters = w.other_characters;
          one_choice = w.one_choice;
          other_choice = w.other_choice;
          one_chosen = choice_behind w.one w.one_characters ∙ w.one_chosen;
          other_chosen = choice_behind w.other w.other_characters ∙ w.other_chosen;
          differ = w.differ;
        }

-- the same of the plain machine's run over u
record Needed (t : Table) (u : List ℕ) (r : Ended) : Type 0 where
  place : drop (covered r.final.log) u ≡ r.final.store
  undecided : 0 < length r.final.store → Undecided t u (covered r.final.log)
  decided : (p : ℕ) → p < covered r.final.log → Decided t u p

module _ (t : Table) (W : WellFormed t) where
  -- with its end an input does not wait
  needed : (u : List ℕ) (e : Bool) → Characters u → (ran t u e).status ≡ Open → Needed t u (ran t u e)
  needed u true c o = absurd (not_open _ (trace_ended (from_table t) 0 u) (sym (run_is t (well_formed_shaped t W) u true).status ∙ o))
  needed u false c o =
      let T = run_is t (well_formed_shaped t W) u false in
      let open-x : status_of (trace (from_table t) false 0 u) ≡ Open = sym T.status ∙ o in
      record {
        place = rw (T.log, T.store) (held_place t W u c open-x);
        undecided = λ h. rw T.log (held_undecided t W u c open-x (subst (λ m. 0 < length m) T.store h));
        decided = λ p h. written_decided t W u c open-x p (subst (λ m. p < covered m) T.log h);
      }

-- the places in use
stored : (n : ℕ) (held h : List ℕ) → n ≡ length h → held ≡ pad 8 h → n ≤ 8 → take n held ≡ h
stored n held h p q few = rw (p, q) (take_pad 8 h (rw p at few))

-- NOTHING IS HELD WITHOUT NEED, after any list of calls.
pub nothing_held : (t : Table) (w : List ℕ) → Compiled t w → (cs : List Call) → Each (λ c. Characters (piece c)) cs →
    (let v = serve w cs unserved in v.session.status ≡ Open → HeldOfNeed t (accepted_pieces cs v.answers) v.session)
unfolding OutcomesAgree
nothing_held t w C cs a o =
    let s = (serve w cs unserved).session in
    let i = reckon t cs no_input in
    let G = outcomes_agree t w C cs a in
    let S = calls_stand t w (compiled_matched t w C) cs a in
    let r = ran t i.characters i.ended in
    let is_open_lem : r.status ≡ Open = sym G.status ∙ o in
    let N : Needed t i.characters r = needed t C.keeps.keeps.well_formed i.characters i.ended S.characters is_open_lem in
    let all : s.received ≡ length i.characters = G.received ∙ ap (λ z. received_by z (length i.characters) (covered r.final.log)) is_open_lem in
    rw (← G.input) (record {
      place = rw G.consumes N.place ∙ sym (stored s.count s.held r.final.store G.count G.held (sound_facts w s S.kept).places);
      undecided = λ h. rw G.consumes (N.undecided (subst (λ n. 0 < n) G.count h));
      decided = λ p h. N.decided p (subst (λ n. p < n) G.consumes h);
      none_held = λ z. omega (arith, all, z);
    })
