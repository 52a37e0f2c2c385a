-- Request [4] as C sees it: demand 1 in numbers for a typed text, and that the contract leaves one answer, one table and one length.
-- The numbers tell the outcome, since 0 is no refusal's; of the outcome it is known from the claims about typed texts.
use mathlib.Core.List.{List}
use mathlib.Core.Path.{◌≡◌, refl, sym, ap, subst, ◌∙◌}
use Prim.Native.Nat.{ℕ, ◌≤◌}
use native.Mathlib.Omega.{arith}
use lib.Dec.{T, eqb}
use lib.ListN.{length, drop}
use Rattle.lists.specs.Lists.{any}
use Rattle.lists.proofs.Laws.Tests.{or_right}
use Rattle.meaning.specs.Refusal.{Outcome, refused, accepted}
use Rattle.meaning.proofs.Laws.Direct.{table_refusals, table_refused, over_beyond}
use Rattle.typed.specs.Records.{records}
use Rattle.typed.specs.Typed.{FromText}
use Rattle.typed.specs.Claims.{Follows}
use Rattle.typed.proofs.Laws.Promised.{typed_rules}
use Rattle.cobbletwill.specs.Face.{typed_code, length_of}
use Rattle.cobbletwill.specs.Typed.{TypedAnswers, TypedTextsAnswer, TypedTextsDetermined}

module _ (text buffer : List ℕ) (found : ℕ) (later : List ℕ) where
  -- no table is refused by 0
  never_0 : (n : ℕ) → FromText text buffer (refused n) later → n ≡ 0 → ⊥
  never_0 n f e = let k = (f.answers.table n (omega arith)).0 refl in subst (λ m. T (any (eqb m) table_refusals)) e (table_refused (records k.0) n k.2)

  by_outcome : (o : Outcome ℕ) → FromText text buffer o later → Follows text buffer o later → TypedAnswers text buffer found (typed_code o) later (length_of o found)
  by_outcome (refused n) f k =
      record {
        numbered = λ cs. or_right (eqb n 0) _ (k.numbered cs);
        accepts = λ e. absurd (never_0 n f e);
        refuses = λ z. f;
        unchanged = λ z. (f.writes.unchanged n refl, refl);
        within = λ e. absurd (never_0 n f e);
        beyond = λ e. absurd (never_0 n f e);
        whole = k.whole;
      }
  by_outcome (accepted n) f k =
      let t = (f.answers.taken n).0 refl in
      record {
        numbered = λ cs. tt;
        accepts = λ e. f;
        refuses = λ z. absurd (z refl);
        unchanged = λ z. absurd (z refl);
        within = λ e. subst (λ m. m ≤ length buffer) (sym t.3) t.2.room;
        beyond = λ e. ap (drop n) (f.writes.written n t.0 refl t.2.lines.grammar) ∙ over_beyond (records t.0) buffer n t.3;
        whole = k.whole;
      }

pub typed_texts_answer : TypedTextsAnswer
unfolding TypedTextsAnswer
typed_texts_answer text buffer found answer later size w =
    rw (w.code, w.left) (by_outcome text buffer found later w.outcome w.typed (typed_rules.follows text buffer w.outcome later w.typed))

pub typed_texts_determined : TypedTextsDetermined
unfolding TypedTextsDetermined
typed_texts_determined text buffer found a b k l m n v w =
    let d = typed_rules.determined text buffer in
    let x = d.alone v.outcome k v.typed in
    let y = d.alone w.outcome l w.typed in
    let same : v.outcome ≡ w.outcome = x.0 ∙ sym y.0 in
    (v.code ∙ ap typed_code same ∙ sym w.code, x.1 ∙ sym y.1, v.left ∙ ap (λ o. length_of o found) same ∙ sym w.left)
