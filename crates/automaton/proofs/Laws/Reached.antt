-- The states of a well formed table are those of words of characters, and a word leads on exactly as far as it may.
-- By recursion on the levels: a class start is a character of its class, and one character on from a word's state is the longer word's.
use mathlib.Core.Bool.{Bool, true, false, ◌&&◌, not}
use mathlib.Core.List.{List, [], ◌∷◌, ◌++◌, map, Memᴰ}
use mathlib.Core.Logic.{◌≢◌}
use mathlib.Core.Path.{◌≡◌, refl, sym, ap, subst, ◌∙◌}
use Prim.Native.Nat.{ℕ, zero, suc, ◌≤◌, ◌<◌}
use native.Mathlib.Omega.{arith}
use lib.Dec.{T, leb, ltb, eqb, ltb→lt, eqb→eq, leb-zero, leb-suc-zero, leb-suc-suc}
use lib.ListN.{length, take}
use Rattle.lists.specs.Lists.{Each, filter, flat_map, fold, find_from, up_to, is_empty, or_else}
use Rattle.lists.proofs.Laws.Tests.{of_cond}
use Rattle.lists.proofs.Laws.Each.{each_append, each_front, each_back, each_weaken, each_get_d}
use Rattle.lists.proofs.Laws.Members.{mem_get_d}
use Rattle.lists.proofs.Laws.Sets.{filter_same, each_up_to}
use Rattle.meaning.specs.Table.{Characters, Range, Table, in_ranges, rule_at, longest}
use Rattle.meaning.specs.Value.{fits_word}
use Rattle.meaning.specs.WellFormed.{WellFormedRange, WellFormedPosition, WellFormedRule, WellFormed}
use Rattle.meaning.proofs.Laws.Prefix.{fits_prefix}
use Rattle.meaning.proofs.Laws.Shape.{Shaped}
use Rattle.meaning.proofs.Laws.Groups.{rule_shaped}
use Rattle.meaning.proofs.Laws.Described.{well_formed_shaped}
use Rattle.automaton.specs.Classes.{insert, edges, all_edges, starts}
use Rattle.automaton.specs.States.{State, initial, accept_of, longer_rules, successor, same_state, inhabited, next_level, levels, states, target_of}
use Rattle.automaton.specs.Automaton.{after, Leads, from_table}
use Rattle.automaton.specs.Claims.{fits_first, word_state, StatesOfWords}
use Rattle.automaton.proofs.Laws.Good.{after_inside, state_at}
use Rattle.automaton.proofs.Laws.Classes.{start_of, class_member}
use Rattle.automaton.proofs.Laws.Inserting.{each_insert}
use Rattle.automaton.proofs.Laws.Levels.{IsRule, each_distinct, target_there, states_closed, successor_depth, numbered}
use Rattle.automaton.proofs.Laws.States as laws

-- the rules that fit a word so far

swap : (a b c : Bool) → a && (b && c) ≡ b && (a && c)
swap true b c = refl
swap false true c = refl
swap false false c = refl

fits_first_lem : (ps : List (List Range)) (w : List ℕ) → fits_prefix ps w ≡ leb (length w) (length ps) && fits_word (take (length w) ps) w
unfolding fits_prefix fits_word
fits_first_lem ps [] = sym (ap (λ b. b && true) (leb-zero (length ps)))
fits_first_lem [] (c ∷ w) = sym (ap (λ b. b && false) (leb-suc-zero (length w)))
fits_first_lem (rs ∷ ps) (c ∷ w) =
    ap (λ b. in_ranges rs c && b) (fits_first_lem ps w)
    ∙ swap (in_ranges rs c) (leb (length w) (length ps)) (fits_word (take (length w) ps) w)
    ∙ ap (λ b. b && (in_ranges rs c && fits_word (take (length w) ps) w)) (sym (leb-suc-suc (length w) (length ps)))

module _ (t : Table) (S : Shaped t) where
  same_state_lem : (w : List ℕ) → laws.state_of t w ≡ word_state t w
  same_state_lem w =
      let n = length t.rules in
      let m : filter (λ r. fits_prefix (rule_at t r).ranges w) (up_to n) ≡ filter (λ r. fits_first (rule_at t r) w) (up_to n) =
      filter_same (λ r. fits_prefix (rule_at t r).ranges w) (λ r. fits_first (rule_at t r) w) (up_to n)
      (each_weaken (IsRule t) (λ r. fits_prefix (rule_at t r).ranges w ≡ fits_first (rule_at t r) w) (up_to n)
      (λ r h.
      fits_first_lem (rule_at t r).ranges w
      ∙ ap (λ k. leb (length w) k && fits_word (take (length w) (rule_at t r).ranges) w) (rule_shaped t S r h).places) (each_up_to n)) in
      λ i. record { depth = length w; members = m i }

-- class starts are characters

each_joined : {A B : Type 0} (P : B → Type 0) (f : A → List B) (xs : List A) → Each (λ x. Each P (f x)) xs → Each P (flat_map f xs)
each_joined P f [] a = tt
each_joined P f (x ∷ xs) a = each_append P (f x) (flat_map f xs) a.0 (each_joined P f xs a.1)

abbrev pub Small : ℕ → Type 0
Small c = c < 65536

edges_small : (r : Range) → WellFormedRange r → Each Small (edges r)
edges_small r w =
    let o : r.lowest ≤ r.highest = w.ordered in
    let h : r.highest < 65536 = w.character in (
      omega arith,
      of_cond (Each Small) (ltb r.highest 65535) (suc r.highest ∷ []) [] (λ u. let k = ltb→lt r.highest 65535 u in (omega arith, tt)) (λ _. tt),
    )

pub starts_small : (t : Table) → WellFormed t → Each Small (starts t)
unfolding starts
starts_small t w =
    inserted (all_edges t)
    (each_joined Small (λ g. flat_map (flat_map edges) g.ranges) t.rules
    (each_weaken WellFormedRule (λ g. Each Small (flat_map (flat_map edges) g.ranges)) t.rules
    (λ g v.
    each_joined Small (flat_map edges) g.ranges
    (each_weaken WellFormedPosition (λ rs. Each Small (flat_map edges rs)) g.ranges
    (λ rs p. each_joined Small edges rs (each_weaken WellFormedRange (λ r. Each Small (edges r)) rs edges_small p.ranges)) v.positions))
    w.rules))
  where
    inserted : (es : List ℕ) → Each Small es → Each Small (fold insert (0 ∷ []) es)
    inserted [] a = (omega arith, tt)
    inserted (e ∷ es) a = each_insert Small e (fold insert (0 ∷ []) es) a.0 (inserted es a.1)

-- every state is a word's

each_kept : {A : Type 0} (P : A → Type 0) (p : A → Bool) (xs : List A) → Each (λ x. T (p x) → P x) xs → Each P (filter p xs)
each_kept P p [] a = tt
each_kept P p (x ∷ xs) a =
    let rest = each_kept P p xs a.1 in of_cond (Each P) (p x) (x ∷ filter p xs) (filter p xs) (λ u. (a.0 u, rest)) (λ _. rest)

-- a state that leads on has no go
no_go : (t : Table) (q : State) (c : ℕ) → T (inhabited (successor t q c)) → accept_of t q ≡ 0
unfolding successor
no_go t q c =
    of_cond (λ m. T (not (is_empty m)) → accept_of t q ≡ 0) (eqb (accept_of t q) 0) (longer_rules t q c) [] (λ e _. eqb→eq (accept_of t q) 0 e) (λ _ h. absurd h)

pub target_inhabited : (t : Table) (qs : List State) (q : State) (c : ℕ) → target_of t qs q c ≢ 0 → T (inhabited (successor t q c))
unfolding target_of
target_inhabited t qs q c =
    of_cond (λ k. k ≢ 0 → T (inhabited (successor t q c))) (inhabited (successor t q c)) (or_else 0 (find_from 0 (same_state (successor t q c)) qs)) 0
    (λ u _. u) (λ _ h. absurd (h refl))

module _ (t : Table) (S : Shaped t) where
  abbrev HasWord : State → Type 0
  HasWord q = (w : List ℕ) × Characters w × (q ≡ laws.state_of t w)

  word_on : (q : State) (c : ℕ) → c < 65536 → HasWord q → T (inhabited (successor t q c)) → HasWord (successor t q c)
  word_on q c h w i =
      let go : accept_of t (laws.state_of t w.0) ≡ 0 = ap (accept_of t) (sym w.2) ∙ no_go t q c i in (
        w.0 ++ c ∷ [],
        each_append Small w.0 (c ∷ []) w.1 (h, tt),
        ap (λ p. successor t p c) w.2 ∙ laws.state_by t S w.0 c c (λ r k. refl) go,
      )

  module _ (ss : List ℕ) (small : Each Small ss) where
    level_words : (qs : List State) → Each HasWord qs → Each HasWord (next_level t ss qs)
    unfolding next_level
    level_words qs a =
        let all = flat_map (λ q. map (successor t q) ss) qs in
        each_distinct HasWord (filter inhabited all) (each_kept HasWord inhabited all (each_joined (λ s. T (inhabited s) → HasWord s) (λ q. map (successor t q) ss) qs
        (each_weaken HasWord (λ q. Each (λ s. T (inhabited s) → HasWord s) (map (successor t q) ss)) qs (λ q w. from q w ss small) a)))
      where
        from : (q : State) → HasWord q → (cs : List ℕ) → Each Small cs → Each (λ s. T (inhabited s) → HasWord s) (map (successor t q) cs)
        from q w [] h = tt
        from q w (c ∷ cs) h = (word_on q c h.0 w, from q w cs h.1)

    levels_words : (n : ℕ) (qs : List State) → Each HasWord qs → Each HasWord (levels t ss n qs)
    unfolding levels
    levels_words zero qs a = a
    levels_words (suc n) qs a = each_append HasWord qs (levels t ss n (next_level t ss qs)) a (levels_words n (next_level t ss qs) (level_words qs a))

-- how far a word leads

module _ (t : Table) (W : WellFormed t) where
  shaped : Shaped t
  shaped = well_formed_shaped t W

  states_words : Each (HasWord t shaped) (states t)
  unfolding states
  states_words = levels_words t shaped (starts t) (starts_small t W) (longest t) (initial t ∷ []) (([], tt, laws.initial_is t), tt)

  -- the state's successor by the class of a character
  onward : (w : List ℕ) (x : ℕ) → Characters (w ++ x ∷ []) → Leads (from_table t) 0 w → accept_of t (state_at t (after (from_table t) 0 w)) ≡ 0 →
      successor t (state_at t (after (from_table t) 0 w)) (start_of t x) ≡ word_state t (w ++ x ∷ [])
  onward w x a l e =
      let s = laws.state_after_lem t shaped w (each_front Small w (x ∷ []) a) l in
      ap (λ p. successor t p (start_of t x)) s
      ∙ laws.state_next t shaped w x (each_back Small w (x ∷ []) a).0 (ap (accept_of t) (sym s) ∙ e)
      ∙ same_state_lem t shaped (w ++ x ∷ [])

  here : (w : List ℕ) (x : ℕ) → Characters (w ++ x ∷ []) → Leads (from_table t) 0 w → state_at t (after (from_table t) 0 w) ≡ word_state t w
  here w x a l = laws.state_after_lem t shaped w (each_front Small w (x ∷ []) a) l ∙ same_state_lem t shaped w

  leads : (w : List ℕ) (x : ℕ) → Characters (w ++ x ∷ []) → Leads (from_table t) 0 w → (from_table t).target (after (from_table t) 0 w) x ≢ 0 →
      (accept_of t (word_state t w) ≡ 0) × T (inhabited (word_state t (w ++ x ∷ [])))
  unfolding from_table
  leads w x a l n =
      let q = after (from_table t) 0 w in
      let i : T (inhabited (successor t (state_at t q) (start_of t x))) = target_inhabited t (states t) (state_at t q) (start_of t x) n in
      let e = no_go t (state_at t q) (start_of t x) i in
      (ap (accept_of t) (sym (here w x a l)) ∙ e, subst (λ p. T (inhabited p)) (onward w x a l e) i)

  led : (w : List ℕ) (x : ℕ) → Characters (w ++ x ∷ []) → Leads (from_table t) 0 w → (accept_of t (word_state t w) ≡ 0) × T (inhabited (word_state t (w ++ x ∷ []))) →
      (from_table t).target (after (from_table t) 0 w) x ≢ 0
  unfolding from_table initial
  led w x a l g z =
      let q = after (from_table t) 0 w in
      let c = start_of t x in
      let i : T (inhabited (successor t (state_at t q) c)) =
      subst (λ p. T (inhabited p)) (sym (onward w x a l (ap (accept_of t) (here w x a l) ∙ g.0))) g.1 in
      let inside = after_inside (from_table t) (longest t) (length (states t)) (laws.table_good t shaped) 0 w (numbered t).some_state in
      let m : Memᴰ (successor t (state_at t q) c) (states t) = states_closed t c (class_member t x) i (mem_get_d (states t) q (initial t) inside) in
      let d : 0 ≡ suc (state_at t q).depth =
      ap (λ (p : State). p.depth) (sym (numbered t).first ∙ ap (state_at t) (sym z) ∙ target_there t (states t) (state_at t q) c (initial t) i m)
      ∙ successor_depth t (state_at t q) c in
      omega arith

  pub states_of_words : StatesOfWords t
  states_of_words =
      record {
        some_word = λ q h. let w = each_get_d (HasWord t shaped) (states t) q (initial t) states_words h in (w.0, w.1, w.2 ∙ same_state_lem t shaped w.0);
        after_word = λ w a l. laws.state_after_lem t shaped w a l ∙ same_state_lem t shaped w;
        leads_on = λ w x a l. (leads w x a l, led w x a l);
      }
