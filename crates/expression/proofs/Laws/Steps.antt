-- A turn of the readers' loops, and their end.
-- By one step of a chain, or none. Assumes nothing.
use mathlib.Core.Path.{◌≡◌, refl, sym, ap, ◌∙◌}
use mathlib.Core.Bool.{Bool, false}
use mathlib.Core.List.{List}
use Prim.Native.Nat.{ℕ, ◌-◌, ◌≤◌}
use native.Mathlib.Nat.{le_trans}
use native.Mathlib.Omega.{arith}
use lib.ListN.{length, drop}
use Rattle.std.specs.Prelude.{Option, Some, None}
use Rattle.lists.proofs.Laws.Options.{none_not}
use Rattle.expression.specs.declared.part.Part as Code
use Rattle.expression.specs.declared.symbol.Operation.{Operation}
use Rattle.expression.specs.declared.symbol.Operation.TheVariants.{Plus, Minus, Times}
use Rattle.expression.specs.Parts.{Part, parts, plus_part, minus_part, times_part, both}
use Rattle.expression.specs.bridge.Text.{Read, refused, got, map_read, skip, behind, closed, join, joined, chained, factor, sum, within}
use Rattle.expression.specs.bridge.Answers.{kept, character, Follows, Operates, Answers}
use Rattle.expression.proofs.Laws.Chains.{Shrinks, chained_step, chained_stop, chained_refused}
use Rattle.expression.proofs.Laws.Places.{there, behind_at, closed_refused, closed_yes, closed_no, factor_open, factor_other, within_none, within_deeper}

-- a reader that refuses where the definition does
pub refuses : {T A : Type 0} {view : T → A} {s : List ℕ} {at : ℕ} {d : Read A} {r : Option (T × ℕ)} → r ≡ None → refused ≡ d → Answers view s at d r
refuses {r = None} none e = record { place = tt; same = e }
refuses {r = Some x} none e = absurd (none_not x (sym none))

-- what is read from further on
pub further : {T A : Type 0} {view : T → A} {s : List ℕ} {at j : ℕ} {d e : Read A} {r : Option (T × ℕ)} → at ≤ j → Answers view s j d r → d ≡ e → Answers view s at e r
further {r = None} l a q = record { place = tt; same = a.same ∙ q }
further {r = Some x} l a q = record { place = (le_trans l a.place.0, a.place.1); same = a.same ∙ q }

-- refusal 17 in one of two parts
pub join_left : (o : Operation) (b : Part) → None ≡ join parts (character o) None b
unfolding plus_part minus_part times_part both
join_left Plus b = refl
join_left Minus b = refl
join_left Times b = refl

pub join_right : (o : Operation) (a : Part) → None ≡ join parts (character o) a None
unfolding plus_part minus_part times_part both
join_right Plus None = refl
join_right Plus (Some x) = refl
join_right Minus None = refl
join_right Minus (Some x) = refl
join_right Times None = refl
join_right Times (Some x) = refl

-- what two parts with an operator between them use
pub ruleset joins = (join_left, join_right)

-- what holds at the head of the readers' loops: the chain from what is read so far is the whole reading
pub record Going (s : List ℕ) (at : ℕ) (p : ℕ → Bool) (item : List ℕ → Read Part) (whole : Read Part) (a : Option Code.Part) (next : ℕ) : Type 0 where
  pub from : at ≤ next
  pub to : next ≤ length s
  pub same : chained (join parts) p item (got (kept a) (drop next s)) ≡ whole

module _ {s : List ℕ} {at : ℕ} {p : ℕ → Bool} {item : List ℕ → Read Part} {whole : Read Part} (shrinks : Shrinks item)
    {a : Option Code.Part} {next : ℕ} (going : Going s at p item whole a next) where
  -- the operator that comes next and the item behind it
  stepped : (o : Operation) {b : ℕ} → p 0 ≡ false → Operates p s next (Some (o, b)) → chained (join parts) p item (joined (join parts) (character o) (kept a) (item (drop b s))) ≡ whole
  stepped o zero-fails is =
      ap (λ u. chained (join parts) p item (joined (join parts) (character o) (kept a) (item u))) is.2.same
      ∙ ap (λ c. chained (join parts) p item (joined (join parts) c (kept a) (item (behind (skip (drop next s)))))) (sym is.1)
      ∙ sym (chained_step (join parts) p item shrinks zero-fails (kept a) (drop next s) is.0)
      ∙ going.same

  pub turn_refused : (o : Operation) {b : ℕ} → p 0 ≡ false → Operates p s next (Some (o, b)) → Answers {T = Option Code.Part} kept s b (item (drop b s)) None → refused ≡ whole
  unfolding joined map_read
  turn_refused o zero-fails is right-is =
      sym (chained_refused (join parts) p item shrinks)
      ∙ ap (λ d. chained (join parts) p item (joined (join parts) (character o) (kept a) d)) right-is.same
      ∙ stepped o zero-fails is

  pub turn : (o : Operation) {b end : ℕ} {right joined-part : Option Code.Part} → p 0 ≡ false → Operates p s next (Some (o, b)) → Answers kept s b (item (drop b s)) (Some (right, end))
      → kept joined-part ≡ join parts (character o) (kept a) (kept right) → Going s at p item whole joined-part end
  unfolding joined map_read
  turn o {end = end} zero-fails is right-is e =
      let f = going.from in
      let g = is.2.from in
      let h = right-is.place.0 in
      record {
        from = omega arith;
        to = right-is.place.1;
        same =
            ap (λ x. chained (join parts) p item (got x (drop end s))) e
            ∙ ap (λ d. chained (join parts) p item (joined (join parts) (character o) (kept a) d)) right-is.same
            ∙ stepped o zero-fails is;
      }

  pub ending : Operates p s next None → Answers kept s at whole (Some (a, next))
  ending is =
      record { place = (going.from, going.to); same = sym (chained_stop (join parts) p item shrinks (kept a) (drop next s) is) ∙ going.same }

-- the parenthesis that opens a factor, what stands in it, and the one that closes it
module _ {s : List ℕ} {at depth inside d : ℕ} (is : Follows 40 s at (Some inside)) (deep : 1 ≤ depth) (deeper : d ≡ depth - 1) where
  opened : closed (sum parts (within parts d) (drop inside s)) ≡ factor parts (within parts depth) (drop at s)
  opened =
      let u = behind (skip (drop at s)) in
      ap (λ n. closed (sum parts (within parts n) (drop inside s))) deeper
      ∙ ap (λ t. closed (sum parts (within parts (depth - 1)) t)) is.1.same
      ∙ ap closed (sym (within_deeper parts depth u (λ z. absurd (omega arith))))
      ∙ sym (factor_open parts (within parts depth) (drop at s) (skip (drop at s)) refl is.0)

  pub factor_unread : Answers {T = Option Code.Part} kept s inside (sum parts (within parts d) (drop inside s)) None → refused ≡ factor parts (within parts depth) (drop at s)
  factor_unread r = sym (closed_refused 41) ∙ ap closed r.same ∙ opened

  module _ {a : Option Code.Part} {next : ℕ} (r : Answers kept s inside (sum parts (within parts d) (drop inside s)) (Some (a, next))) where
    pub factor_unclosed : Follows 41 s next None → refused ≡ factor parts (within parts depth) (drop at s)
    factor_unclosed e = sym (closed_no 41 (kept a) (drop next s) (skip (drop next s)) refl e) ∙ ap closed r.same ∙ opened

    pub factor_closed : {end : ℕ} → Follows 41 s next (Some end) → Answers kept s at (factor parts (within parts depth) (drop at s)) (Some (a, end))
    factor_closed e =
        let f = is.1.from in
        let g = r.place.0 in
        let h = e.1.from in
        record {
          place = (omega arith, e.1.to);
          same = ap (got (kept a)) e.1.same ∙ sym (closed_yes 41 (kept a) (drop next s) (skip (drop next s)) refl e.0) ∙ ap closed r.same ∙ opened;
        }

-- what the reader of a factor uses
pub ruleset factors = (there, behind_at, factor_unread, factor_unclosed, factor_closed, closed_refused, factor_open, factor_other, within_none)
