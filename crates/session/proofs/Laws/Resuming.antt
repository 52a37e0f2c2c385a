-- A call as the code makes it: what the run of an admitted one asks, that the sums of its numbers are small, and what it leaves; and that a refused one changes nothing.
-- The session that the definition leaves is sound, which bounds every sum; field by field the finished run is the definition's.
use mathlib.Core.Bool.{Bool, false}
use mathlib.Core.List.{List, [], ◌∷◌, ◌++◌}
use mathlib.Core.Path.{◌≡◌, refl, sym, ap, subst, ◌∙◌}
use Prim.Native.Nat.{ℕ, zero, suc, ◌+◌, ◌*◌, ◌-◌, ◌≤◌}
use native.Mathlib.Nat.{le_trans, mul-le-mul}
use native.Mathlib.Omega.{arith}
use lib.Dec.{T}
use lib.ListN.{length, drop, length-append, length-drop}
use lib.Seq.{length-take-le}
use Rattle.lists.specs.Lists.{pad}
use Rattle.meaning.specs.Refusal.{Outcome, accepted}
use Rattle.meaning.specs.Meaning.{text_of}
use Rattle.meaning.specs.Direct.{limit, over}
use Rattle.automaton.specs.Sound.{sound, longest_word, expansion_word}
use Rattle.automaton.specs.Automaton.{from_words}
use Rattle.automaton.proofs.Laws.Words.{sound_header_lem}
use Rattle.reckoning.specs.Machine.{Status, Open, Closed, Stopped, Ended}
use Rattle.reckoning.specs.Uses.{use_counts}
use Rattle.reckoning.specs.Session.{Session, consumed, store, stands_at}
use Rattle.reckoning.specs.Preview.{Seen, seen_by, preview}
use Rattle.reckoning.specs.Calls.{admits, received_by, resumed, later, call_by}
use Rattle.session.specs.Keeping.{together, session_of}
use Rattle.session.specs.bridge.Counting.{Counted}
use Rattle.session.specs.bridge.Running.{put, store_of, Lent, EndsAs}
use Rattle.session.specs.Promised.{outcome_of}
use Rattle.session.specs.bridge.Later.{later_of, Leaves, Small, went_on}
use Rattle.session.specs.declared.kept.Kept.{Kept}
use Rattle.session.specs.declared.run.Ran.{Ran}
use Rattle.std.specs.Prelude.{Ok}
use Rattle.reckoning.proofs.Laws.Uses.{facts_uses}
use Rattle.reckoning.proofs.Laws.Kept.{Stands, SoundFacts, sound_facts, kept_sound}
use Rattle.reckoning.proofs.Laws.Answers.{Admitted, Admits, admission, text_most}
use Rattle.reckoning.proofs.Laws.Preview.{preview_call}
use Rattle.session.proofs.Laws.Counting.{counted_sound}

pub admitted : (w : List ℕ) (s : Session) (n room : ℕ) → admits w s n room ≡ accepted tt → Admitted w s n room
admitted w s n room e = subst (Admits w s n room) e (admission w s n room)

-- a list written over zeros is the padded list
over_zeros : (n : ℕ) (xs : List ℕ) → length xs ≤ n → over xs (pad n []) ≡ pad n xs
unfolding pad
over_zeros n [] h = refl
over_zeros zero (x ∷ xs) h = absurd (omega arith)
over_zeros (suc n) (x ∷ xs) h = ap (λ ys. x ∷ ys) (over_zeros n xs (omega arith))

-- The numbers of a sound session: at most 11 steps and 8 characters produced for each that was consumed, and 11 steps more.
module _ (w : List ℕ) (W : T (sound w)) (s : Session) (f : SoundFacts w s) where
  cost_most : longest_word w + 3 ≤ 11
  cost_most = omega (arith, (sound_header_lem w W).longest)

  consumed_most : consumed s ≤ limit
  consumed_most = omega (arith, f.limited)

  steps_ended : Stands w s Closed → s.steps ≤ 11 * (limit + 1)
  steps_ended k =
      let j : consumed s + 1 ≤ limit + 1 = omega (arith, consumed_most) in
      omega (arith, k.2, mul-le-mul cost_most j)

  steps_most : (b : Status) → Stands w s b → s.steps ≤ 11 * (limit + 1)
  steps_most Open k = omega (arith, k.1, f.places, mul-le-mul cost_most consumed_most)
  steps_most Closed k = steps_ended k
  steps_most Stopped k = steps_ended k

  produced_most : s.produced ≤ 8 * limit
  produced_most = omega (arith, f.few, mul-le-mul (sound_header_lem w W).expansion consumed_most)

module _ (w : List ℕ) (found : Kept) (uses piece : List ℕ) (ended : Bool) (room : ℕ) (a : Admitted w (session_of (together found uses)) (length piece) room) (eight : length found.held ≡ 8) where
  abbrev s : Session
  s = session_of (together found uses)

  facts : SoundFacts w s
  facts = sound_facts w s a.sound_session_lem

  pub count_inside : s.count ≤ length s.held
  count_inside = omega (arith, facts.places)

  pub stored : s.count ≡ length (store s)
  stored = sym (length-take-le s.count s.held count_inside)

  -- what the run over machine words requires, of an output with so many places
  pub run_asks : (places : ℕ) → (1 ≤ places → room ≤ places) → length uses ≡ use_counts →
      (T (sound w) × T (stands_at (from_words w) s.state (store s)))
      × (((length (store s) ≤ 8) × (length (store s) + length piece ≤ 1099511627784))
      × ((1 ≤ places → expansion_word w * (length (store s) + length piece) ≤ places) × Counted uses 0))
  run_asks places more whole =
      let stands : Stands w s Open = subst (Stands w s) a.passed.0 facts.stands in
      let total = a.passed.1 in (
        (a.sound_words, stands.0),
        (
          (omega (arith, stored, facts.places), omega (arith, stored, facts.places)),
          (
            λ any. le_trans (subst (λ n. expansion_word w * (n + length piece) ≤ room) stored a.passed.2) (more any),
            counted_sound w uses (consumed s) a.sound_words (facts_uses w uses (consumed s) facts.uses) (consumed_most w a.sound_words s facts) whole,
          ),
        ),
      )

  abbrev r : Ended
  r = resumed (from_words w) s piece ended

  abbrev text : List ℕ
  text = text_of (from_words w).write r.final.log

  abbrev left : Session
  left = later s (length piece) (length text) r

  left_facts : SoundFacts w left
  left_facts = sound_facts w left (kept_sound w a.sound_words s piece ended a.sound_session_lem a.passed.0 eight a.passed.1)

  module _ (ran : Ran) (has : Lent) (f : EndsAs w (store s ++ piece) r uses ran has) where
    held_count : ran.at - ran.from ≡ length r.final.store
    held_count =
        let n : ran.at - ran.from ≤ length (drop ran.from (store s ++ piece)) = omega (arith, length-drop ran.from (store s ++ piece), f.inside) in
        sym (length-take-le (ran.at - ran.from) (drop ran.from (store s ++ piece)) n) ∙ ap length f.store

    -- the store's place in the text, and its size
    pub gather_asks : (ran.from ≤ ran.at) × (ran.at ≤ length (store s ++ piece)) × (ran.at - ran.from ≤ 8)
    gather_asks = (f.order, f.inside, omega (arith, held_count, left_facts.places))

    pub small : Small found (length piece) ran
    small = record {
      held = facts.enough;
      received = a.passed.1;
      order = f.order;
      store = omega (arith, gather_asks.2, f.order);
      inside = omega (arith, f.inside, length-append (store s) piece, stored);
      produced = omega (arith, produced_most w a.sound_words left left_facts, f.count);
      steps = omega (arith, steps_most w a.sound_words left left_facts left.status left_facts.stands, f.steps);
    }

    same_session : (held : List ℕ) → held ≡ over (store_of (store s ++ piece) ran) (pad 8 []) → later_of s (length piece) ran held has.uses ≡ left
    same_session held e =
        let h : held ≡ pad 8 r.final.store = e ∙ ap (λ l. over l (pad 8 [])) f.store ∙ over_zeros 8 r.final.store left_facts.places in
        λ i. record {
          status = f.status i;
          state = f.state i;
          held = h i;
          count = held_count i;
          received = received_by (f.status i) (s.received + length piece) (consumed s + sym f.covers i);
          produced = s.produced + f.count i;
          steps = s.steps + f.steps i;
          uses = f.uses i;
        }

    -- what the code leaves is what the definition leaves
    pub same_outcome : (buffer held : List ℕ) (after : Kept) → has.output ≡ put buffer 0 text → held ≡ over (store_of (store s ++ piece) ran) (pad 8 []) →
        Leaves found (length piece) ran held after →
        outcome_of (Ok (record { count = ran.count; status = ran.status })) (together after has.uses) has.output ≡ went_on (from_words w) s piece ended buffer
    same_outcome buffer held after e₁ e₂ e₃ =
        let q : session_of (together after has.uses) ≡ left = e₃ uses has.uses ∙ same_session held e₂ in
        λ i. record { answer = accepted (record { count = f.count i; status = f.status i }); session = q i; output = e₁ i }

-- A call with room for all that it may write: the text goes over the buffer, and where that has no place, there is no text.

put_over : (text buffer : List ℕ) → length text ≤ length buffer → put buffer 0 text ≡ over text buffer
put_over [] [] h = refl
put_over (x ∷ text) [] h = absurd (omega arith)
put_over text (y ∷ buffer) h = let no_more : 0 + length text ≡ length text = omega arith in ap (λ k. text ++ drop k (y ∷ buffer)) no_more

pub went_whole : (w : List ℕ) (s : Session) (piece : List ℕ) (ended : Bool) (buffer : List ℕ) → admits w s (length piece) (length buffer) ≡ accepted tt →
    went_on (from_words w) s piece ended buffer ≡ call_by (accepted tt) (from_words w) s piece ended buffer
went_whole w s piece ended buffer e =
    let a = admitted w s (length piece) (length buffer) e in
    let most = text_most w s piece ended a.sound_words a.sound_session_lem a.passed.0 in
    let o = call_by (accepted tt) (from_words w) s piece ended buffer in
    let fits = put_over (text_of (from_words w).write (resumed (from_words w) s piece ended).final.log) buffer (le_trans most a.passed.2) in
    λ i. record { answer = o.answer; session = o.session; output = fits i }

-- A preview is tested as if there were room for whatever a call may write: what is seen of the call by its tests.
module _ (w : List ℕ) (s : Session) (piece : List ℕ) (room : ℕ) (most : 8 * limit ≤ room) where
  abbrev seen : Outcome (Unit {0}) → Outcome Seen
  seen o = let c = call_by o (from_words w) s piece false [] in seen_by c.answer c.session

  pub seen_call : (o : Outcome (Unit {0})) → admits w s (length piece) room ≡ o → seen o ≡ preview w s piece
  seen_call o k = sym (preview_call w s piece [] room most ∙ ap seen k)
