-- A fresh session is sound, and so is what an accepted call makes of a sound one.
-- From the trace of the held characters and the piece: its counts and steps, what it writes, and where it rests.
use mathlib.Core.Bool.{Bool, true, false, ◌&&◌, not, cond}
use mathlib.Core.List.{List, [], ◌∷◌, ◌++◌}
use Rattle.std.specs.Prelude.{Option}
use mathlib.Core.Path.{◌≡◌, refl, sym, ap, subst, ◌∙◌}
use Prim.Native.Nat.{ℕ, zero, suc, pred, ◌+◌, ◌*◌, ◌-◌, ◌≤◌, ◌<◌}
use native.Mathlib.Omega.{arith}
use lib.Dec.{T, eqb, leb, eqb→eq, eqb_refl, leb→le, le→leb}
use lib.ListN.{length, take, drop, length-append}
use lib.Seq.{length-take-le}
use Rattle.lists.specs.Lists.{all}
use Rattle.lists.specs.Decide.{all_of}
use Rattle.lists.proofs.Laws.Parts.{take_pad, pad_zeros}
use Rattle.lists.proofs.Laws.Tests.{and_left, and_right, or_left, or_right, or_cases, both, holds, to_all_of, to_T, neqb→ne, ne→neqb}
use Rattle.meaning.specs.Table.{Mode, Absent, Single, Paired, present, is_first, is_second}
use Rattle.meaning.specs.Meaning.{Emission, text_of, covered}
use Rattle.meaning.specs.Direct.{limit}
use Rattle.automaton.specs.Sound.{used, longest_word, expansion_word, state_count, sound}
use Rattle.automaton.specs.Automaton.{Automaton, from_words}
use Rattle.automaton.proofs.Laws.Good.{after, Leads, Good, go_none, after_inside, Short}
use Rattle.automaton.proofs.Laws.Words.{sound_good, sound_short, sound_longest}
use Rattle.reckoning.specs.Machine.{Status, Open, Closed, Stopped, Ended, Fall, nowhere, taking, keeping, fall_one, fall_two, fall}
use Rattle.reckoning.specs.Uses.{uses_after, sound_uses}
use Rattle.reckoning.specs.Session.{Session, fresh, consumed, store, is_open, settled, path_if, path, is_at, sound_session, is_paired, is_left, stands_at}
use Rattle.reckoning.specs.Calls.{received_by, resumed, later}
use Rattle.reckoning.proofs.Laws.Trace.{Round, waits, closes, stops, accepts, defaults, back, on_wait, on_end, walk, fall_at, round, Trace, last_of, handle, trace, cost, log_of, held_of, state_of, status_of}
use Rattle.reckoning.proofs.Laws.Walk.{settled_both, settled_hit, on_character_elim, Room, Falls, Takes, walk_takes}
use Rattle.reckoning.proofs.Laws.Rounds.{NotOpen, not_open, round_room, round_falls, Stood, led, leftover, trace_rests, rests_open, ended_empty, trace_ended, Counted, spare_of, bounded}
use Rattle.reckoning.proofs.Laws.Run.{Tells, run_tells, tells_unique}
use Rattle.reckoning.proofs.Laws.Uses.{UsesFacts, uses_facts, facts_uses, uses_fresh, uses_kept, trace_fits}

-- What is written against what is covered.
module _ (A : Automaton) (L E n : ℕ) (G : Good A L n) (S : Short A E n) where
  -- what a round accepts is short
  abbrev Brief : Round → Type 0
  Brief waits = Unit {0}
  Brief closes = Unit {0}
  Brief (stops d) = Unit {0}
  Brief (accepts r d) = (w : List ℕ) → length (A.write r w) ≤ E
  Brief (defaults d g k) = Unit {0}

  brief_wait : (h : Bool) (d q : ℕ) → q < n → settled A q ≡ h → Brief (on_wait h (A.accept q) d)
  brief_wait true d q i p =
      let k = settled_both A q (to_T (settled A q) p) in
      λ w. subst (λ g. length (A.write (pred g) w) ≤ E) (sym k.1) (S.of_accept q k.0 i k.1 w)
  brief_wait false d q i p = tt

  brief_back : (b : Fall) (d : ℕ) → Brief (back b d)
  brief_back nowhere d = tt
  brief_back (taking g k) d = tt
  brief_back keeping d = tt

  brief_end : (m : ℕ) (b : Fall) (d q : ℕ) → q < n → A.accept_at_end q ≡ m → Brief (on_end m b d)
  brief_end (suc r) b d q i p = S.of_end q r i p
  brief_end zero b zero q i p = tt
  brief_end zero b (suc d) q i p = brief_back b (suc d)

  walk_brief : (e : Bool) (b : Fall) (d q : ℕ) (u : List ℕ) → q < n → Brief (walk A e b d q u)
  unfolding walk
  walk_brief false b d q [] i = brief_wait (settled A q) d q i refl
  walk_brief true b d q [] i = brief_end (A.accept_at_end q) b d q i refl
  walk_brief e b d q (x ∷ u) i =
      on_character_elim Brief (A.accept q) (A.target q x) b d (λ p. walk A e b (suc d) p u)
      (λ r p. S.of_accept q r i p) (λ t. walk_brief e b (suc d) (A.target q x) u (G.inside q x i)) (brief_back b d)

  -- what a fall takes of z is short for its characters
  abbrev Modest : List ℕ → Fall → Type 0
  Modest z nowhere = Unit {0}
  Modest z (taking g k) = length (A.write g (take k z)) ≤ E * k
  Modest z keeping = Unit {0}

  fall_modest : (m : Mode) (e : Bool) (x : ℕ) (u : List ℕ) → A.default ≡ m → Modest (x ∷ u) (fall m e (x ∷ u))
  fall_modest Absent e x u p = tt
  fall_modest Single e x u p = omega (arith, S.of_default (ap present p) (x ∷ []))
  fall_modest Paired e x [] p = one (not e && is_first x)
    where
      one : (b : Bool) → Modest (x ∷ []) (fall_one b)
      one true = tt
      one false = omega (arith, S.of_default (ap present p) (x ∷ []))
  fall_modest Paired e x (y ∷ u) p = two (is_first x && is_second y)
    where
      two : (b : Bool) → Modest (x ∷ y ∷ u) (fall_two b)
      two true = S.of_pair p x y
      two false = omega (arith, S.of_default (ap present p) (x ∷ []))

  abbrev Few : List Emission → Type 0
  Few log = length (text_of A.write log) ≤ E * covered log

  few_round : (b : Fall) (o : Round) (x : ℕ) (u : List ℕ) (f : ℕ → Trace) → Takes o → Brief o → Room (suc (length u)) b → Falls b o → Modest (x ∷ u) b →
      ((k : ℕ) → Few (log_of (f k))) → Few (log_of (handle o (x ∷ u) f))
  unfolding log_of text_of covered
  few_round b waits x u f k br rm fl mo h = omega arith
  few_round b closes x u f k br rm fl mo h = omega arith
  few_round b (stops d) x u f k br rm fl mo h = omega arith
  few_round b (accepts r zero) x u f k br rm fl mo h = absurd (omega arith)
  few_round b (accepts r (suc d)) x u f k br rm fl mo h =
      let w : List ℕ = x ∷ take d u in
      omega (arith, length-append (A.write r w) (text_of A.write (log_of (f d))), br w, h d)
  few_round b (defaults d g c) x u f k br rm fl mo h =
      let w : List ℕ = take c (x ∷ u) in
      let i : (1 ≤ c) × (c ≤ 2) × (c ≤ suc (length u)) = subst (Room (suc (length u))) fl rm in
      let j : length (A.write g w) ≤ E * c = subst (Modest (x ∷ u)) fl mo in
      let rest = log_of (f (pred c)) in
      omega (arith, length-append (A.write g w) (text_of A.write rest), h (pred c), ap (λ z. E * (z + covered rest)) (length-take-le c (x ∷ u) i.2))

  few_nothing : (e : Bool) → Few (log_of (last_of e))
  unfolding log_of text_of covered
  few_nothing false = omega arith
  few_nothing true = omega arith

  pub trace_few : (e : Bool) (k : ℕ) (u : List ℕ) → length (text_of A.write (log_of (trace A e k u))) ≤ E * covered (log_of (trace A e k u))
  unfolding trace
  trace_few e k [] = few_nothing e
  trace_few e (suc k) (x ∷ u) = trace_few e k u
  trace_few e zero (x ∷ u) =
      let b = fall_at A e (x ∷ u) in
      few_round b (round A e (x ∷ u)) x u (λ k. trace A e k u) (walk_takes A L n G e b x u) (walk_brief e b 0 0 (x ∷ u) G.some_state)
      (round_room A e x u) (round_falls A e (x ∷ u)) (fall_modest A.default e x u refl) (λ k. trace_few e k u)

-- Where the characters lead, by the test and by the automaton.

path_if_lem : (b : Bool) (r : Option ℕ) (q : ℕ) → T (is_at q (path_if b r)) → T b × T (is_at q r)
path_if_lem true r q t = (tt, t)
path_if_lem false r q t = absurd t

pub path_leads : (A : Automaton) (p q : ℕ) (h : List ℕ) → T (is_at q (path A p h)) → Leads A p h × (q ≡ after A p h)
unfolding path after
path_leads A p q [] t = (tt, eqb→eq q p t)
path_leads A p q (x ∷ h) t =
    let r : ℕ = A.target p x in
    let k = path_if_lem (used r && not (settled A r)) (path A r h) q t in
    let i = path_leads A r q h k.1 in
    ((neqb→ne r 0 (and_left (used r) (not (settled A r)) k.0), i.0), i.1)

if_path : (b : Bool) (r : Option ℕ) (q : ℕ) → T b → T (is_at q r) → T (is_at q (path_if b r))
if_path true r q t k = k
if_path false r q t k = absurd t

module _ (A : Automaton) (L n : ℕ) (G : Good A L n) where
  -- a state with a way on is not settled
  way_on : (q : ℕ) (h : List ℕ) → q < n → Leads A q h → settled A (after A q h) ≡ false → settled A q ≡ false
  unfolding after
  way_on q [] i l p = p
  way_on q (x ∷ h) i l p = settled_hit A q 0 (go_none A L n G q x i l.0)

  pub leads_path : (p : ℕ) (h : List ℕ) → p < n → Leads A p h → settled A (after A p h) ≡ false → T (is_at (after A p h) (path A p h))
  unfolding path after
  leads_path p [] i l s = eqb_refl p
  leads_path p (x ∷ h) i l s =
      let r : ℕ = A.target p x in
      let z : settled A r ≡ false = way_on r h (G.inside p x i) l.1 s in
      if_path (used r && not (settled A r)) (path A r h) (after A r h)
      (both (used r) (not (settled A r)) (ne→neqb r 0 l.0) (rw z tt)) (leads_path r h (G.inside p x i) l.1 s)

  after_depth : (q : ℕ) (h : List ℕ) → q < n → Leads A q h → G.depth (after A q h) ≡ G.depth q + length h
  unfolding after
  after_depth q [] i l = omega arith
  after_depth q (x ∷ h) i l = omega (arith, after_depth (A.target q x) h (G.inside q x i) l.1, G.deeper q x i l.0)

  -- what is held is no longer than the longest rule
  pub leads_short : (h : List ℕ) → Leads A 0 h → length h ≤ L
  leads_short h l =
      omega (arith, after_depth 0 h G.some_state l, G.depth_0, G.shallow (after A 0 h) (after_inside A L n G 0 h G.some_state))

  -- where a trace waits
  pub trace_open : (e : Bool) (u : List ℕ) → status_of (trace A e 0 u) ≡ Open →
      Stood A (held_of (trace A e 0 u)) (state_of A (trace A e 0 u)) × (settled A (state_of A (trace A e 0 u)) ≡ false)
  trace_open false u o = rests_open A (trace A false 0 u) (trace_rests A L n G 0 u) o
  trace_open true u o = absurd (not_open (status_of (trace A true 0 u)) (trace_ended A 0 u) o)

  stood_short : (h : List ℕ) (q : ℕ) → L ≤ 8 → Stood A h q → length h ≤ 8
  stood_short h q s (led p l) = omega (arith, leads_short h l)
  stood_short h q s (leftover x ph pq pm i k) = omega (arith, ap length ph)

  pub trace_held : (e : Bool) (u : List ℕ) → L ≤ 8 → length (held_of (trace A e 0 u)) ≤ 8
  trace_held e u s = by_status (status_of (trace A e 0 u)) refl
    where
      nothing : NotOpen (status_of (trace A e 0 u)) → length (held_of (trace A e 0 u)) ≤ 8
      nothing k = let z : length (held_of (trace A e 0 u)) ≡ 0 = ap length (ended_empty (trace A e 0 u) k) in omega arith

      by_status : (b : Status) → status_of (trace A e 0 u) ≡ b → length (held_of (trace A e 0 u)) ≤ 8
      by_status Open p = stood_short (held_of (trace A e 0 u)) (state_of A (trace A e 0 u)) s (trace_open e u p).0
      by_status Closed p = nothing (rw p tt)
      by_status Stopped p = nothing (rw p tt)

  -- the test of where a session stands passes just where it does
  stood_stands : (h : List ℕ) (q : ℕ) → Stood A h q → settled A q ≡ false → T (stands_at A q h)
  stood_stands h q (led p l) s =
      or_left (is_at q (path A 0 h)) (is_left A q h) (rw p (leads_path 0 h G.some_state l (rw (← p) s)))
  stood_stands h q (leftover x ph pq pm i k) s =
      or_right (is_at q (path A 0 h)) (is_left A q h) (rw (ph, pq, pm, k) (both (is_first x) true i tt))

is_paired_is : (m : Mode) → T (is_paired m) → m ≡ Paired
is_paired_is Absent t = absurd t
is_paired_is Single t = absurd t
is_paired_is Paired t = refl

left_stood : (A : Automaton) (q : ℕ) (h : List ℕ) → T (is_left A q h) → Stood A h q
left_stood A q [] t = absurd t
left_stood A q (x ∷ []) t =
    let c = eqb (A.target 0 x) 0 in
    let b = is_first x && c in
    let a = is_paired A.default && b in
    let y = and_right (eqb q 0) a t in
    let z = and_right (is_paired A.default) b y in
    leftover x refl (eqb→eq q 0 (and_left (eqb q 0) a t)) (is_paired_is A.default (and_left (is_paired A.default) b y)) (and_left (is_first x) c z)
    (eqb→eq (A.target 0 x) 0 (and_right (is_first x) c z))
left_stood A q (x ∷ (y ∷ h)) t = absurd t

pub stands_stood : (A : Automaton) (q : ℕ) (h : List ℕ) → T (stands_at A q h) → Stood A h q
stands_stood A q h t =
    or_cases (is_at q (path A 0 h)) (is_left A q h) t (λ a. let l = path_leads A 0 q h a in led l.1 l.0) (left_stood A q h)

-- Soundness of a session, as facts.

abbrev pub Stands : List ℕ → Session → Status → Type 0
Stands w s Open = T (stands_at (from_words w) s.state (store s)) × (s.steps ≤ (longest_word w + 3) * consumed s + s.count)
Stands w s Closed = (s.state ≡ 0) × (s.count ≡ 0) × (s.steps ≤ (longest_word w + 3) * (consumed s + 1))
Stands w s Stopped = (s.state ≡ 0) × (s.count ≡ 0) × (s.steps ≤ (longest_word w + 3) * (consumed s + 1))

pub record SoundFacts (w : List ℕ) (s : Session) : Type 0 where
  pub limited : s.received ≤ limit
  pub enough : s.count ≤ s.received
  pub few : s.produced ≤ expansion_word w * consumed s
  pub places : s.count ≤ 8
  pub zeros : T (all (eqb 0) (drop s.count s.held))
  pub uses : UsesFacts w s.uses (consumed s)
  pub stands : Stands w s s.status

module _ (w : List ℕ) (s : Session) where
  abbrev when_open : List Bool
  when_open = stands_at (from_words w) s.state (store s) ∷ leb s.steps ((longest_word w + 3) * consumed s + s.count) ∷ []

  abbrev when_ended : List Bool
  when_ended = eqb s.state 0 ∷ eqb s.count 0 ∷ leb s.steps ((longest_word w + 3) * (consumed s + 1)) ∷ []

  of_ended : T (all_of when_ended) → Stands w s Closed
  of_ended t =
      let k = holds when_ended t in
      (eqb→eq s.state 0 k.0, eqb→eq s.count 0 k.1.0, leb→le s.steps ((longest_word w + 3) * (consumed s + 1)) k.1.1.0)

  to_ended : Stands w s Closed → T (all_of when_ended)
  to_ended k =
      to_all_of when_ended
      (rw k.0 tt, (rw k.1 tt, (le→leb s.steps ((longest_word w + 3) * (consumed s + 1)) k.2, tt)))

  of_status : (b : Status) → T (cond (is_open b) (all_of when_open) (all_of when_ended)) → Stands w s b
  of_status Open t = let k = holds when_open t in (k.0, leb→le s.steps ((longest_word w + 3) * consumed s + s.count) k.1.0)
  of_status Closed t = of_ended t
  of_status Stopped t = of_ended t

  to_status : (b : Status) → Stands w s b → T (cond (is_open b) (all_of when_open) (all_of when_ended))
  to_status Open k = to_all_of when_open (k.0, (le→leb s.steps ((longest_word w + 3) * consumed s + s.count) k.1, tt))
  to_status Closed k = to_ended k
  to_status Stopped k = to_ended k

  abbrev tests : List Bool
  tests =
      leb s.received limit
      ∷ leb s.count s.received
      ∷ leb s.produced (expansion_word w * consumed s)
      ∷ leb s.count 8
      ∷ all (eqb 0) (drop s.count s.held)
      ∷ sound_uses w s.uses (consumed s)
      ∷ cond (is_open s.status) (all_of when_open) (all_of when_ended)
      ∷ []

  pub sound_facts : T (sound_session w s) → SoundFacts w s
  unfolding sound_session
  sound_facts t =
      let k = holds tests t in
      record {
        limited = leb→le s.received limit k.0;
        enough = leb→le s.count s.received k.1.0;
        few = leb→le s.produced (expansion_word w * consumed s) k.1.1.0;
        places = leb→le s.count 8 k.1.1.1.0;
        zeros = k.1.1.1.1.0;
        uses = uses_facts w s.uses (consumed s) k.1.1.1.1.1.0;
        stands = of_status s.status k.1.1.1.1.1.1.0;
      }

  pub facts_sound : SoundFacts w s → T (sound_session w s)
  unfolding sound_session
  facts_sound k =
      let a = le→leb s.received limit k.limited in
      let b = le→leb s.count s.received k.enough in
      let c = le→leb s.produced (expansion_word w * consumed s) k.few in
      let d = le→leb s.count 8 k.places in
      let e = facts_uses w s.uses (consumed s) k.uses in
      to_all_of tests (a, (b, (c, (d, (k.zeros, (e, (to_status s.status k.stands, tt)))))))

pub fresh_sound : (w : List ℕ) → T (sound_session w fresh)
unfolding fresh path
fresh_sound w = facts_sound w fresh (record {
  limited = omega arith;
  enough = omega arith;
  few = omega arith;
  places = omega arith;
  zeros = pad_zeros 8 [];
  uses = uses_fresh w;
  stands = (tt, omega arith);
})

-- The counts of what a call leaves: m received and h held before, p more; c covered and k held now.

abbrev Sums : Status → ℕ → ℕ → ℕ → ℕ → ℕ → Type 0
Sums b m h p c k =
    (received_by b (m + p) (m - h + c) ≤ m + p) × (k ≤ received_by b (m + p) (m - h + c)) × (received_by b (m + p) (m - h + c) - k ≡ m - h + c)

sums : (b : Status) (m h p c k : ℕ) → h ≤ m → Counted b (h + p) c k → (NotOpen b → k ≡ 0) → Sums b m h p c k
sums Open m h p c k i j z = (omega arith, omega arith, omega arith)
sums Closed m h p c k i j z = let y : k ≡ 0 = z tt in (omega arith, omega arith, omega arith)
sums Stopped m h p c k i j z = let y : k ≡ 0 = z tt in (omega arith, omega arith, omega arith)

steps_sum : (L c h a k d x y : ℕ) → a ≤ (L + 3) * c + h → k + h ≡ y → y ≤ (L + 3) * d + x → a + k ≤ (L + 3) * (c + d) + x
steps_sum L c h a k d x y i j z = omega arith

few_sum : (E c d a b : ℕ) → a ≤ E * c → b ≤ E * d → a + b ≤ E * (c + d)
few_sum E c d a b i j = omega arith

-- the run's end as the trace tells it, after k steps
abbrev told : Automaton → Trace → ℕ → Ended
told A t k = record { status = status_of t; final = record { store = held_of t; unread = []; state = state_of A t; due = false; log = log_of t; steps = k } }

nothing_after : (A : Automaton) → after A 0 [] ≡ 0
unfolding after
nothing_after A = refl

-- a call's run on a sound open session tells the trace of what is held and the piece
pub call_tells : (w : List ℕ) → T (sound w) → (s : Session) (piece : List ℕ) (ended : Bool) → T (sound_session w s) → s.status ≡ Open →
    Tells (from_words w) (length (store s)) [] 0 (trace (from_words w) ended 0 (store s ++ piece)) (resumed (from_words w) s piece ended)
call_tells w W s piece ended sn o =
    let v : Stands w s Open = subst (Stands w s) o (sound_facts w s sn).stands in
    run_tells (from_words w) (longest_word w) (state_count w) (sound_good w W) (sound_longest w W) ended (store s) piece s.state
    (stands_stood (from_words w) s.state (store s) v.0)

module _ (w : List ℕ) (W : T (sound w)) (s : Session) (piece : List ℕ) (ended : Bool) where
  abbrev A : Automaton
  A = from_words w

  abbrev n : ℕ
  n = state_count w

  abbrev G : Good A (longest_word w) n
  G = sound_good w W

  abbrev t : Trace
  t = trace A ended 0 (store s ++ piece)

  -- what the call leaves, after k steps
  abbrev left : ℕ → Session
  left k = later s (length piece) (length (text_of A.write (log_of t))) (told A t k)

  module _ (f : SoundFacts w s) (o : s.status ≡ Open) (e8 : length s.held ≡ 8) where
    stored : length (store s) ≡ s.count
    stored = length-take-le s.count s.held (omega (arith, f.places))

    add_up : Sums (status_of t) s.received s.count (length piece) (covered (log_of t)) (length (held_of t))
    add_up =
        sums (status_of t) s.received s.count (length piece) (covered (log_of t)) (length (held_of t)) f.enough
        (subst (λ z. Counted (status_of t) z (covered (log_of t)) (length (held_of t))) (length-append (store s) piece ∙ ap (λ z. z + length piece) stored)
        (bounded A (longest_word w) n G ended (store s ++ piece)).counted)
        (λ k. ap length (ended_empty t k))

    module _ (k : ℕ) (j : k + length (store s) ≡ cost t) where
      -- all steps so far, against all that was consumed
      spent : (b : Status) → status_of t ≡ b → s.steps + k ≤ (longest_word w + 3) * consumed (left k) + spare_of (longest_word w) b (length (held_of t))
      spent b p =
          let v : Stands w s Open = subst (Stands w s) o f.stands in
          let x : ℕ = spare_of (longest_word w) b (length (held_of t)) in
          let few : cost t ≤ (longest_word w + 3) * covered (log_of t) + x =
          subst (λ z. cost t ≤ (longest_word w + 3) * covered (log_of t) + spare_of (longest_word w) z (length (held_of t))) p
          (bounded A (longest_word w) n G ended (store s ++ piece)).by_status in
          subst (λ z. s.steps + k ≤ (longest_word w + 3) * z + x) (sym add_up.2)
          (steps_sum (longest_word w) (consumed s) s.count s.steps k (covered (log_of t)) x (cost t) v.1 (ap (λ z. k + z) (sym stored) ∙ j) few)

      left_stands : (b : Status) → status_of t ≡ b → Stands w (left k) b
      left_stands Open p =
          let r = trace_open A (longest_word w) n G ended (store s ++ piece) p in
          let i : length (held_of t) ≤ 8 = trace_held A (longest_word w) n G ended (store s ++ piece) (sound_longest w W) in
          (rw (take_pad 8 (held_of t) i) (stood_stands A (longest_word w) n G (held_of t) (state_of A t) r.0 r.1), spent Open p)
      left_stands Closed p = let z = ended_empty t (rw p tt) in (ap (after A 0) z ∙ nothing_after A, ap length z, omega (arith, spent Closed p))
      left_stands Stopped p = let z = ended_empty t (rw p tt) in (ap (after A 0) z ∙ nothing_after A, ap length z, omega (arith, spent Stopped p))

      left_facts : s.received + length piece ≤ limit → SoundFacts w (left k)
      left_facts h = record {
        limited = omega (arith, add_up.0);
        enough = add_up.1;
        few =
            subst (λ z. s.produced + length (text_of A.write (log_of t)) ≤ expansion_word w * z) (sym add_up.2)
            (few_sum (expansion_word w) (consumed s) (covered (log_of t)) s.produced (length (text_of A.write (log_of t))) f.few
            (trace_few A (longest_word w) (expansion_word w) n G (sound_short w W) ended 0 (store s ++ piece)));
        places = trace_held A (longest_word w) n G ended (store s ++ piece) (sound_longest w W);
        zeros = pad_zeros 8 (held_of t);
        uses =
            subst (UsesFacts w (uses_after s.uses (log_of t))) (sym add_up.2)
            (uses_kept w W s.uses (consumed s) (log_of t) f.uses (trace_fits w W ended 0 (store s ++ piece)));
        stands = left_stands (status_of t) refl;
      }

  pub kept_sound : T (sound_session w s) → s.status ≡ Open → length s.held ≡ 8 → s.received + length piece ≤ limit →
      (let r = resumed (from_words w) s piece ended in
      T (sound_session w (later s (length piece) (length (text_of (from_words w).write r.final.log)) r)))
  kept_sound sn o e8 h =
      let f : SoundFacts w s = sound_facts w s sn in
      let r : Ended = resumed A s piece ended in
      let a : Tells A (length (store s)) [] 0 t r = call_tells w W s piece ended sn o in
      let k : ℕ = r.final.steps in
      let b : Tells A (length (store s)) [] 0 t (told A t k) =
      record { status = refl; state = refl; store = refl; unread = refl; log = refl; steps = a.steps; due = refl } in
      let same : told A t k ≡ r = tells_unique A (length (store s)) [] 0 t (told A t k) r b a in
      subst (λ z. T (sound_session w (later s (length piece) (length (text_of A.write z.final.log)) z))) same
      (facts_sound w (left k) (left_facts f o e8 k (omega (arith, a.steps)) h))
