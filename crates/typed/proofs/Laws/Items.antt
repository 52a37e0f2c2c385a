-- The items of a pattern, fed and counted one after another, and by an idle check; a pattern is its items and its end.
-- By the readings one after another, one more or none, and by recursion on the items. Assumes nothing.
use mathlib.Core.Bool.{Bool, true, false, cond}
use mathlib.Core.List.{List, [], ◌∷◌}
use mathlib.Core.Path.{◌≡◌, refl, sym, ap, ◌∙◌}
use Prim.Native.Nat.{ℕ, zero, suc, ◌+◌, ◌-◌, ◌≤◌, ◌<◌}
use native.Mathlib.Numerals.{add-one}
use native.Mathlib.Omega.{arith}
use lib.ListN.{length, drop}
use Rattle.std.specs.Prelude.{Option, None, Some}
use Rattle.meaning.specs.Refusal.{refused as Turned-down}
use Rattle.meaning.specs.Records.{rule_record, range_record}
use Rattle.meaning.specs.Table.{Range}
use Rattle.expression.specs.bridge.Text.{Read, refused, got, map_read}
use Rattle.expression.specs.bridge.Answers.{Answers, read_of}
use Rattle.expression.proofs.Laws.Sound.{map_got}
use Rattle.typed.specs.bridge.Reader.{then_read, several, item, ends_items, closing, pattern_of}
use Rattle.typed.specs.bridge.Stream.{State, feed, feed_ranges, feed_items, feed_pattern}
use Rattle.typed.specs.bridge.Answers.{counting, ending_of, state_of}
use Rattle.typed.specs.declared.sink.Records.{Records}
use Rattle.typed.proofs.Laws.Feeding.{feed_idle}
use Rattle.typed.proofs.Laws.Readings.{Gets, fed_one, fed_none}
use Rattle.typed.proofs.Laws.Ends.{ended, pattern_end}

-- items from position p on, at most n less one, fed and counted
abbrev pub fed_count : ℕ → State → List (List Range) → State × ℕ
fed_count p st ps = (feed_items p ps st, p + length ps)

abbrev pub items_left : ℕ → ℕ → State → List ℕ → Read (State × ℕ)
items_left n p st t = map_read (fed_count p st) (several item ends_items n t)

-- an item, and then at most n less one
abbrev another : ℕ → List ℕ → Read (List (List Range))
another n t = then_read (item t) (λ a r. map_read (λ rest. a ∷ rest) (several item ends_items n r))

pub items_none : (n p : ℕ) → 1 ≤ n → (st : State) (t : List ℕ) → ends_items t ≡ true → items_left n p st t ≡ got (st, p) t
unfolding several map_read
items_none zero p h st t e = absurd (omega arith)
items_none (suc n) p h st t e =
    ap (map_read (fed_count p st)) (ap (λ b. cond b (got [] t) (another n t)) e) ∙ ap (λ m. got (st, m) t) (plus_zero p)
  where
    plus_zero : (p : ℕ) → p + 0 ≡ p
    plus_zero p = omega arith

-- one more, where there are fewer than 8
abbrev pub one_item : ℕ → State → List ℕ → Read State
one_item p st t = map_read (λ x. feed_ranges p x st) (item t)

items_more : (n p : ℕ) (st : State) (t : List ℕ) → ends_items t ≡ false → items_left (suc n) p st t ≡ then_read (one_item p st t) (items_left n (p + 1))
unfolding several map_read then_read
items_more n p st t e = ap (map_read (fed_count p st)) (ap (λ b. cond b (got [] t) (another n t)) e) ∙ by (item t)
  where
    rest : (a : List Range) (d : Read (List (List Range))) → map_read (fed_count p st) (map_read (λ rest. a ∷ rest) d)
        ≡ map_read (fed_count (p + 1) (feed_ranges p a st)) d
    rest a refused = refl
    rest a (got ps u) = ap (λ x. got x u) (λ i. (feed_items (next i) ps (feed_ranges p a st), count i))
      where
        next : suc p ≡ p + 1
        next = sym (add-one p)

        count : p + suc (length ps) ≡ p + 1 + length ps
        count = omega arith

    by : (d : Read (List Range)) → map_read (fed_count p st) (then_read d (λ a r. map_read (λ rest. a ∷ rest) (several item ends_items n r)))
        ≡ then_read (map_read (λ x. feed_ranges p x st) d) (items_left n (p + 1))
    by refused = refl
    by (got a r) = rest a (several item ends_items n r)

-- the loop's turn, by the position alone
pub items_turn : (p : ℕ) → p < 8 → (st : State) (t : List ℕ) → ends_items t ≡ false → items_left (9 - p) p st t ≡ then_read (one_item p st t) (items_left (9 - (p + 1)) (p + 1))
items_turn p h st t e =
    let now : 9 - p ≡ suc (8 - p) = omega arith in
    let then : 8 - p ≡ 9 - (p + 1) = omega arith in
    ap (λ n. items_left n p st t) now ∙ items_more (8 - p) p st t e ∙ ap (λ n. then_read (one_item p st t) (items_left n (p + 1))) then

-- a ninth is refused
pub items_full : (st : State) (t : List ℕ) → ends_items t ≡ false → items_left 1 8 st t ≡ refused
unfolding several map_read then_read
items_full st t e = items_more 0 8 st t e ∙ by (item t)
  where
    by : (d : Read (List Range)) → then_read (map_read (λ x. feed_ranges 8 x st) d) (items_left 0 9) ≡ refused
    by refused = refl
    by (got a r) = refl

pub count_from : (st : State) (t : List ℕ) → items_left 9 0 st t ≡ map_read (counting st) (several item ends_items 9 t)
unfolding map_read
count_from st t = by (several item ends_items 9 t)
  where
    plus : (n : ℕ) → 0 + n ≡ n
    plus n = omega arith

    by : (d : Read (List (List Range))) → map_read (fed_count 0 st) d ≡ map_read (counting st) d
    by refused = refl
    by (got ps u) = ap (λ x. got x u) (λ i. (feed_items 0 ps st, plus (length ps) i))

-- a check that has refused takes no range
ranges_idle : (p : ℕ) (rs : List Range) (s : State) (n : ℕ) → s.check ≡ Turned-down n → feed_ranges p rs s ≡ s
ranges_idle p [] s n e = refl
ranges_idle p (r ∷ rs) s n e = ap (feed_ranges p rs) (feed_idle (range_record p r) s n e) ∙ ranges_idle p rs s n e

pub items_idle : (p : ℕ) (ps : List (List Range)) (s : State) (n : ℕ) → s.check ≡ Turned-down n → feed_items p ps s ≡ s
items_idle p [] s n e = refl
items_idle p (rs ∷ ps) s n e = ap (feed_items (suc p) ps) (ranges_idle p rs s n e) ∙ items_idle (suc p) ps s n e

-- items that were read, fed and counted
pub record Items (t : List ℕ) (st after : State) (count : ℕ) (rest : List ℕ) : Type 0 where
  pub items : List (List Range)
  pub read : several item ends_items 9 t ≡ got items rest
  pub counted : length items ≡ count
  pub fed : feed_items 0 items st ≡ after

pub items_read : {s : List ℕ} {at next count : ℕ} {after : State} {t : List ℕ} {st : State} →
    Gets s at (map_read (counting st) (several item ends_items 9 t)) (after, count) next → Items t st after count (drop next s)
items_read {s = s} {next = next} {count = count} {after = after} {t = t} {st = st} g =
    let m = map_got (counting st) (several item ends_items 9 t) (after, count) (drop next s) g.is in
    record { items = m.0; read = m.1; counted = ap (λ q. q.1) m.2; fed = ap (λ q. q.0) m.2 }

-- the ways through a pattern
pub pattern_none : (t : List ℕ) → several item ends_items 9 t ≡ refused → pattern_of t ≡ refused
unfolding pattern_of then_read
pattern_none t e = ap (λ d. then_read d closing) e

pub pattern_read : (t : List ℕ) (ps : List (List Range)) (u : List ℕ) → several item ends_items 9 t ≡ got ps u → pattern_of t ≡ map_read (ended ps) (ending_of (length ps) u)
unfolding pattern_of then_read
pattern_read t ps u e = ap (λ d. then_read d closing) e ∙ pattern_end ps u

-- items that were read once are fed again from another state
pub items_again : {s : List ℕ} {at : ℕ} (k : Records) (t : List ℕ) (st : State) {ps : List (List Range)} {u : List ℕ} (r : Option (ℕ × ℕ)) →
    several item ends_items 9 t ≡ got ps u → Answers (λ n. (state_of k, n)) s at (map_read (counting st) (several item ends_items 9 t)) r → state_of k ≡ feed_items 0 ps st
items_again {s} k t st {ps} {u} r e x = by r (x.same ∙ fed_one (counting st) e refl)
  where
    by : (o : Option (ℕ × ℕ)) → read_of (λ n. (state_of k, n)) s o ≡ got (counting st ps) u → state_of k ≡ feed_items 0 ps st
    by None q = let z : ◌≡◌ {A = ℕ} 0 1 = cc in absurd (omega arith)
    by (Some v) q = let e : (state_of k, v.0) ≡ counting st ps = cc in ap (λ x. x.0) e

-- a pattern whose end is refused, and one that is read
module _ (t : List ℕ) {st after : State} {count : ℕ} {rest : List ℕ} (first : Items t st after count rest) where
  pub pattern_unended : ending_of count rest ≡ refused → pattern_of t ≡ refused
  pattern_unended e = pattern_read t first.items rest first.read ∙ fed_none (ended first.items) (ap (λ n. ending_of n rest) first.counted ∙ e)

  pub pattern_whole : (anchored : Bool) (u : List ℕ) → ending_of count rest ≡ got anchored u → pattern_of t ≡ got (ended first.items anchored) u
  pattern_whole anchored u e =
      pattern_read t first.items rest first.read ∙ fed_one (ended first.items) (ap (λ n. ending_of n rest) first.counted ∙ e) refl

  -- the rule's record, and then the items behind it
  pub pattern_fed : {begun end : State} (start : State) (anchored : Bool) → begun ≡ feed (rule_record count anchored) start → end ≡ feed_items 0 first.items begun →
      end ≡ feed_pattern (ended first.items anchored) start
  pattern_fed start anchored b e =
      e ∙ ap (feed_items 0 first.items) (b ∙ ap (λ n. feed (rule_record n anchored) start) (sym first.counted))

-- nothing was read
pub read_nothing : {A B : Type 0} (f : A → B) (d : Read A) → map_read f d ≡ refused → d ≡ refused
unfolding map_read
read_nothing f refused e = refl
read_nothing f (got a u) e = let z : ◌≡◌ {A = ℕ} 0 1 = cc in absurd (omega arith)
