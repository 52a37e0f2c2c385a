-- A record that is fed: what holds of every state on the way still holds, and a check that has refused takes no more.
-- Each record taken in adds 8 bytes and makes the summary's weight greater. Assumes nothing.
use mathlib.Core.List.{List}
use Rattle.std.specs.Prelude.{Option, None, Some, Result, Ok, Err, is_ok}
use mathlib.Core.Bool.{true, false, cond}
use mathlib.Core.Path.{◌≡◌, refl, sym, ap, ap₂, subst, ◌∙◌}
use Prim.Native.Nat.{ℕ, suc, ◌+◌, ◌*◌, ◌/◌, ◌≤◌, ◌<◌}
use native.Mathlib.Omega.{arith}
use lib.ListN.{length, drop}
use lib.Seq.{take_all}
use Rattle.lists.specs.Lists.{Each}
use Rattle.meaning.specs.Refusal.{Outcome, refused, accepted}
use Rattle.meaning.specs.Record.{Record, decode}
use Rattle.meaning.proofs.Laws.Refusal.{accepted_not}
use Rattle.rules.specs.bridge.Summary.{admitted, if_taken, take_on, take_records, Fitting}
use Rattle.rules.specs.Answers.{number_of, outcome_of}
use Rattle.rules.specs.declared.refusal.Refusal.{Refusal}
use Rattle.rules.specs.declared.reader.Reader.{Reader}
use Rattle.rules.proofs.Laws.Loading.{fitting_on}
use Rattle.typed.specs.bridge.Stream.{State, put, tested, feed_to, feed, weight, Held, Ready}
use Rattle.typed.proofs.Laws.Weights.{weight_small, weight_grows}

pub feed_idle : (c : List ℕ) (s : State) (n : ℕ) → s.check ≡ refused n → feed c s ≡ s
unfolding feed
feed_idle c s n e = ap (λ o. feed_to o c s) e

-- a record of a check that goes on
pub feed_tested : (c : List ℕ) (s : State) (r : Reader) → s.check ≡ accepted r →
    feed c s ≡ tested (admitted r (decode c)) c (if_taken r (decode c) s.loaded) s
unfolding feed
feed_tested c s r e = ap (λ o. feed_to o c s) e

admitted_grows : (r r' : Reader) (x : Option Record) → Fitting r → admitted r x ≡ accepted r' → suc (weight r) ≤ weight r'
admitted_grows r r' None f e = absurd (accepted_not r' 2 (sym e))
admitted_grows r r' (Some x) f e = weight_grows r r' x f e

pub feed_ready : (c : List ℕ) (s : State) → Each (λ x. x < 256) c → Ready s → Ready (feed c s)
unfolding feed
feed_ready c s b h = by s.check refl
  where
    on : (r : Reader) → Fitting r → s.count ≤ 8 * weight r → (o : Outcome Reader) → admitted r (decode c) ≡ o → Ready (tested o c (if_taken r (decode c) s.loaded) s)
    on r f n (refused k) e =
        record { reading = λ r' p. absurd (accepted_not r' k (sym p)) }
    on r f n (accepted q) e =
        record {
          reading = λ r' p.
              let a : admitted r (decode c) ≡ accepted r' = e ∙ p in
              let g = admitted_grows r r' (decode c) f a in
              (fitting_on r r' c (decode c) b refl f a, omega arith);
        }

    by : (o : Outcome Reader) → s.check ≡ o → Ready (feed_to o c s)
    by (refused k) e = h
    by (accepted r) e = let t = h.reading r e in on r t.0 t.1 (admitted r (decode c)) refl

-- a record by itself
one_record : (c : List ℕ) (r : Reader) (l : List ℕ) → length c ≡ 8 →
    let all = take_records (length c / 8) c r l in (all.answer ≡ admitted r (decode c)) × (all.loaded ≡ if_taken r (decode c) l)
unfolding take_records
one_record c r l long =
    rw (count, take_all 8 c (omega arith)) (by (admitted r (decode c)))
  where
    count : length c / 8 ≡ 1
    count = omega arith

    by : (o : Outcome Reader) →
        let all = take_on o (if_taken r (decode c) l) (λ r' l'. take_records 0 (drop 8 c) r' l') in (all.answer ≡ o) × (all.loaded ≡ if_taken r (decode c) l)
    by (refused n) = (refl, refl)
    by (accepted r') = (refl, refl)

module _ (s : State) (r : Reader) (h : Ready s) (e : s.check ≡ accepted r) where
  pub count_small : s.count ≤ 652312
  count_small =
      let t = h.reading r e in
      let m = t.1 in
      let w = weight_small r t.0 in
      omega arith

  -- what the check made of the record x, by its answer o
  module _ (c : List ℕ) (bytes : Each (λ b. b < 256) c) {x : Option Record} {after : List ℕ} (o : Result Reader Refusal)
      (q : x ≡ decode c) (p : outcome_of o ≡ admitted r x) (l : after ≡ if_taken r x s.loaded) where
    same : tested (outcome_of o) c after s ≡ feed c s
    same = ap₂ (λ a l. tested a c l s) (p ∙ ap (admitted r) q) (l ∙ ap (λ y. if_taken r y s.loaded) q) ∙ sym (feed_tested c s r e)

    still : Ready (tested (outcome_of o) c after s)
    still = subst Ready (sym same) (feed_ready c s bytes h)

    -- it was taken in, and its bytes are put
    pub taken_in : is_ok o ≡ true → record { fine = s.fine; check = outcome_of o; loaded = after; count = s.count + 8; buffer = put s.count c s.buffer; lent = s.lent } ≡ feed c s
    taken_in y = by o y ∙ same
      where
        by : (o : Result Reader Refusal) → is_ok o ≡ true →
            record { fine = s.fine; check = outcome_of o; loaded = after; count = s.count + 8; buffer = put s.count c s.buffer; lent = s.lent } ≡ tested (outcome_of o) c after s
        by (Ok r') y = refl
        by (Err n) y = let z : ◌≡◌ {A = ℕ} 0 1 = ap (λ b. cond b 1 0) y in absurd (omega arith)

    pub taken_held : is_ok o ≡ true → Held (outcome_of o) (s.count + 8)
    taken_held y = by o y still
      where
        by : (o : Result Reader Refusal) → is_ok o ≡ true → Ready (tested (outcome_of o) c after s) → Held (outcome_of o) (s.count + 8)
        by (Ok r') y k = record { reading = k.reading }
        by (Err n) y k = record { reading = λ r' z. absurd (accepted_not r' (number_of n) (sym z)) }

    -- it was refused
    pub left_out : is_ok o ≡ false → record { fine = s.fine; check = outcome_of o; loaded = after; count = s.count; buffer = s.buffer; lent = s.lent } ≡ feed c s
    left_out y = by o y ∙ same
      where
        by : (o : Result Reader Refusal) → is_ok o ≡ false →
            record { fine = s.fine; check = outcome_of o; loaded = after; count = s.count; buffer = s.buffer; lent = s.lent } ≡ tested (outcome_of o) c after s
        by (Ok r') y = let z : ◌≡◌ {A = ℕ} 1 0 = ap (λ b. cond b 1 0) y in absurd (omega arith)
        by (Err n) y = refl

    -- either way, as long as its bytes are not counted
    pub held_still : Held (outcome_of o) s.count
    held_still = by o still
      where
        by : (o : Result Reader Refusal) → Ready (tested (outcome_of o) c after s) → Held (outcome_of o) s.count
        by (Ok r') k = record { reading = λ r'' z. let t = k.reading r'' z in let m = t.1 in (t.0, omega arith) }
        by (Err n) k = record { reading = λ r' z. absurd (accepted_not r' (number_of n) (sym z)) }

  -- and of the record by itself
  module _ (c : List ℕ) (long : length c ≡ 8) (bytes : Each (λ b. b < 256) c) {after : List ℕ} (o : Result Reader Refusal)
      (p : outcome_of o ≡ (take_records (length c / 8) c r s.loaded).answer) (l : after ≡ (take_records (length c / 8) c r s.loaded).loaded) where
    answer : outcome_of o ≡ admitted r (decode c)
    answer = p ∙ (one_record c r s.loaded long).0

    array : after ≡ if_taken r (decode c) s.loaded
    array = l ∙ (one_record c r s.loaded long).1

    pub one_taken_in : is_ok o ≡ true → record { fine = s.fine; check = outcome_of o; loaded = after; count = s.count + 8; buffer = put s.count c s.buffer; lent = s.lent } ≡ feed c s
    one_taken_in = taken_in c bytes o refl answer array

    pub one_taken_held : is_ok o ≡ true → Held (outcome_of o) (s.count + 8)
    one_taken_held = taken_held c bytes o refl answer array

    pub one_left_out : is_ok o ≡ false → record { fine = s.fine; check = outcome_of o; loaded = after; count = s.count; buffer = s.buffer; lent = s.lent } ≡ feed c s
    one_left_out = left_out c bytes o refl answer array

    pub one_held_still : Held (outcome_of o) s.count
    one_held_still = held_still c bytes o refl answer array
