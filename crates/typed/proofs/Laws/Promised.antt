-- Request [4]: what a text and a buffer come to meets the contract and is all that does, and an accepted text's records mean what it means.
-- By the cases that are decided; the laws on records need that the text is one of characters.
use mathlib.Core.Bool.{false}
use mathlib.Core.List.{List, [], ◌∷◌}
use mathlib.Core.Path.{◌≡◌, refl, sym, ap, ap₂, subst, ◌∙◌}
use Prim.Native.Nat.{ℕ, ◌≤◌, ◌<◌}
use native.Mathlib.Omega.{arith}
use lib.Dec.{T, eqb}
use lib.ListN.{length, take, drop}
use lib.Seq.{take-append_seam}
use Rattle.lists.specs.Lists.{any}
use Rattle.lists.proofs.Laws.Tests.{one_of}
use Rattle.meaning.specs.Refusal.{Outcome, refused, accepted, RefusedBy}
use Rattle.meaning.specs.Table.{Characters, Table}
use Rattle.meaning.specs.Reader.{read_table}
use Rattle.meaning.specs.Claims.{Keeps}
use Rattle.meaning.proofs.Laws.Refusal.{accepted_not, accepted_same, refused_same}
use Rattle.meaning.proofs.Laws.Direct.{table_refusals, table_refused, read_keeps, over_whole}
use Rattle.typed.specs.Grammar.{Line, TypedText}
use Rattle.typed.specs.Records.{lines_within17, records}
use Rattle.typed.specs.Typed.{Reckoned, Accepted, AnswersTyped, WritesTyped, FromText}
use Rattle.typed.specs.Claims.{Determined, Converted, Follows, TypedRules}
use Rattle.typed.specs.bridge.Outcome.{leaving, from_text}
use Rattle.typed.proofs.Laws.Lines.{one_reading}
use Rattle.typed.proofs.Laws.Bytes.{records_bytes, never_1}
use Rattle.typed.proofs.Laws.Tables.{never_4}
use Rattle.typed.proofs.Laws.Meant.{meant_text, meant_place, meant_closed}
use Rattle.typed.proofs.Laws.Values.{chosen_values}
use Rattle.typed.proofs.Laws.Proper.{text_proper}
use Rattle.typed.proofs.Laws.Decided.{Decided, outside, beyond, unfit, no_room, fit, decision, decided, case_decided}

-- what an answer says of the decision

left_refused : (o : Outcome (List ℕ)) (buffer : List ℕ) (n : ℕ) → (leaving o buffer).answer ≡ refused n → o ≡ refused n
left_refused (refused k) buffer n e = ap refused (refused_same k n e)
left_refused (accepted b) buffer n e = absurd (accepted_not (length b) n e)

left_accepted : (o : Outcome (List ℕ)) (buffer : List ℕ) (n : ℕ) → (leaving o buffer).answer ≡ accepted n → (b : List ℕ) × (o ≡ accepted b) × (n ≡ length b)
left_accepted (refused k) buffer n e = absurd (accepted_not n k (sym e))
left_accepted (accepted b) buffer n e = (b, refl, sym (accepted_same (length b) n e))

-- why the number n was answered

abbrev text_refusals : List ℕ
text_refusals = 2 ∷ 3 ∷ 5 ∷ 6 ∷ 7 ∷ 15 ∷ 16 ∷ 17 ∷ []

record Why (text buffer : List ℕ) (n : ℕ) : Type 0 where
  outside : n ≡ 16 → (ls : List Line) → TypedText text ls → ⊥
  beyond : n ≡ 17 → (ls : List Line) × TypedText text ls × (lines_within17 ls ≡ false)
  table : n ≤ 7 → (ls : List Line) × Reckoned text ls × (read_table (records ls) ≡ refused n)
  no_room : n ≡ 15 → (ls : List Line) × (t : Table) × Reckoned text ls × (read_table (records ls) ≡ accepted t) × (length buffer < length (records ls))
  numbered : Characters text → T (any (eqb n) text_refusals)

-- the table check's numbers, but for 1 and 4
text_refused : {text : List ℕ} {ls : List Line} {n : ℕ} → Reckoned text ls → read_table (records ls) ≡ refused n → Characters text → T (any (eqb n) text_refusals)
text_refused {text} {ls} {n} w e cs =
    one_of (λ k. read_table (records ls) ≡ refused k → T (any (eqb k) text_refusals)) table_refusals
    (never_1 ls, (λ _. tt, (λ _. tt, (never_4 ls (text_proper w.grammar cs) w.within, (λ _. tt, (λ _. tt, (λ _. tt, tt)))))))
    n (table_refused (records ls) n e) e

why : {text buffer : List ℕ} {n : ℕ} → Decided text buffer (refused n) → Why text buffer n
why (outside h) = record { outside = λ _. h; beyond = λ q. absurd (omega arith); table = λ q. absurd (omega arith); no_room = λ q. absurd (omega arith); numbered = λ _. tt }
why (beyond {ls = ls} d e) =
    record { outside = λ q. absurd (omega arith); beyond = λ _. (ls, d, e); table = λ q. absurd (omega arith); no_room = λ q. absurd (omega arith); numbered = λ _. tt }
why (unfit {ls = ls} {n = n} w e) =
    let few = table_refused (records ls) n e in
    record {
      outside = λ q. absurd (subst (λ m. T (any (eqb m) table_refusals)) q few);
      beyond = λ q. absurd (subst (λ m. T (any (eqb m) table_refusals)) q few);
      table = λ _. (ls, w, e);
      no_room = λ q. absurd (subst (λ m. T (any (eqb m) table_refusals)) q few);
      numbered = text_refused w e;
    }
why (no_room {ls = ls} {t = t} w e l) =
    record { outside = λ q. absurd (omega arith); beyond = λ q. absurd (omega arith); table = λ q. absurd (omega arith); no_room = λ _. (ls, t, w, e, l); numbered = λ _. tt }

-- and why the records of lines were, n bytes long

record Taken (text buffer : List ℕ) (n : ℕ) (ls : List Line) : Type 0 where
  table : Table
  fits : Accepted text buffer ls table
  taken : decision text buffer ≡ accepted (records ls)
  long : n ≡ length (records ls)

fitting_lines : {text buffer b : List ℕ} → Decided text buffer (accepted b) → (ls : List Line) × (t : Table) × Accepted text buffer ls t × (b ≡ records ls)
fitting_lines (fit {ls = ls} {t = t} a) = (ls, t, a, refl)

module _ (text buffer : List ℕ) where
  of_refused : (n : ℕ) → (from_text text buffer).answer ≡ refused n → Why text buffer n
  unfolding from_text
  of_refused n e = why (subst (Decided text buffer) (left_refused (decision text buffer) buffer n e) (decided text buffer))

  some_lines : (n : ℕ) → (from_text text buffer).answer ≡ accepted n → (ls : List Line) × Taken text buffer n ls
  unfolding from_text
  some_lines n e =
      let k = left_accepted (decision text buffer) buffer n e in
      let d = fitting_lines (subst (Decided text buffer) k.1 (decided text buffer)) in
      (d.0, record { table = d.1; fits = d.2; taken = k.1 ∙ ap accepted d.3; long = k.2 ∙ ap length d.3 })

  of_accepted : (n : ℕ) (ls : List Line) → (from_text text buffer).answer ≡ accepted n → TypedText text ls → Taken text buffer n ls
  of_accepted n ls e d = let k = some_lines n e in subst (Taken text buffer n) (one_reading text k.0 ls k.1.fits.lines.grammar d) k.1

  answered : {n : ℕ} → Decided text buffer (refused n) → (from_text text buffer).answer ≡ refused n
  unfolding from_text
  answered d = ap (λ o. (leaving o buffer).answer) (case_decided d)

  answers : AnswersTyped text buffer (from_text text buffer).answer
  unfolding from_text
  answers =
      record {
        outside = (λ e. (of_refused 16 e).outside refl, λ h. answered (outside h));
        beyond = (λ e. (of_refused 17 e).beyond refl, λ h. answered (beyond h.1 h.2));
        table = λ n l. (λ e. (of_refused n e).table l, λ h. answered (unfit h.1 h.2));
        no_room = (λ e. (of_refused 15 e).no_room refl, λ h. answered (no_room h.2 h.3 h.4));
        taken = λ n. (
          λ e. let k = some_lines n e in (k.0, k.1.table, k.1.fits, k.1.long),
          λ h. ap (λ o. (leaving o buffer).answer) (case_decided (fit h.2)) ∙ ap accepted (sym h.3),
        );
      }

  writes : WritesTyped text buffer (from_text text buffer).answer (from_text text buffer).table
  unfolding from_text
  writes =
      record {
        unchanged = λ n e. ap (λ o. (leaving o buffer).table) (left_refused (decision text buffer) buffer n e);
        written = λ n ls e d. ap (λ o. (leaving o buffer).table) (of_accepted n ls e d).taken;
      }

  -- what the text comes to meets the contract, and nothing else does

  pub meets : {answer : Outcome ℕ} {later : List ℕ} → (answer ≡ (from_text text buffer).answer) × (later ≡ (from_text text buffer).table) → FromText text buffer answer later
  meets e = rw (e.0, e.1) (record { answers = answers; writes = writes })

  one_answer : {a : Outcome ℕ} {o : Outcome (List ℕ)} → AnswersTyped text buffer a → Decided text buffer o → a ≡ (leaving o buffer).answer
  one_answer k (outside h) = k.outside.1 h
  one_answer k (beyond {ls = ls} d e) = k.beyond.1 (ls, d, e)
  one_answer k (unfit {ls = ls} {n = n} w e) = (k.table n (few n (table_refused (records ls) n e))).1 (ls, w, e)
    where
      few : (n : ℕ) → T (any (eqb n) table_refusals) → n ≤ 7
      few = one_of (λ n. n ≤ 7) table_refusals (omega arith, (omega arith, (omega arith, (omega arith, (omega arith, (omega arith, (omega arith, tt)))))))
  one_answer k (no_room {ls = ls} {t = t} w e l) = k.no_room.1 (ls, t, w, e, l)
  one_answer k (fit {ls = ls} {t = t} a) = (k.taken (length (records ls))).1 (ls, t, a, refl)

  one_table : {a : Outcome ℕ} {l : List ℕ} {o : Outcome (List ℕ)} → WritesTyped text buffer a l → Decided text buffer o → a ≡ (leaving o buffer).answer →
      l ≡ (leaving o buffer).table
  one_table k (outside h) e = k.unchanged 16 e
  one_table k (beyond d q) e = k.unchanged 17 e
  one_table k (unfit {n = n} w q) e = k.unchanged n e
  one_table k (no_room w q l) e = k.unchanged 15 e
  one_table k (fit {ls = ls} a) e = k.written (length (records ls)) ls e a.lines.grammar

  alone : (a : Outcome ℕ) (l : List ℕ) → FromText text buffer a l → (a ≡ (from_text text buffer).answer) × (l ≡ (from_text text buffer).table)
  unfolding from_text
  alone a l f = let e = one_answer f.answers (decided text buffer) in (e, one_table f.writes (decided text buffer) e)

  pub determined : Determined text buffer
  determined = record { answer = (from_text text buffer).answer; later = (from_text text buffer).table; meets = meets (refl, refl); alone = alone }

  -- what follows

  numbered : Characters text → RefusedBy text_refusals (from_text text buffer).answer
  numbered cs = by (from_text text buffer).answer (λ n e. (of_refused n e).numbered cs)
    where
      by : (o : Outcome ℕ) → ((n : ℕ) → o ≡ refused n → T (any (eqb n) text_refusals)) → RefusedBy text_refusals o
      by (refused n) h = h n refl
      by (accepted n) h = tt

  whole : length (from_text text buffer).table ≡ length buffer
  unfolding from_text
  whole = kept (decided text buffer)
    where
      kept : {o : Outcome (List ℕ)} → Decided text buffer o → length (leaving o buffer).table ≡ length buffer
      kept (outside h) = refl
      kept (beyond d e) = refl
      kept (unfit w e) = refl
      kept (no_room w e l) = refl
      kept (fit {ls = ls} a) = over_whole (records ls) buffer a.room

  meant : Characters text → (n : ℕ) (ls : List Line) → (from_text text buffer).answer ≡ accepted n → TypedText text ls →
      (t : Table) × Keeps (take n (from_text text buffer).table) t × ((input : List ℕ) → Converted ls t input)
  meant cs n ls e d =
      let k = of_accepted n ls e d in
      let t = k.table in
      let check = k.fits.check in
      let fine = k.fits.lines.within in
      let proper = text_proper d cs in
      let front : take n (from_text text buffer).table ≡ records ls =
      ap₂ take k.long (writes.written n ls e d) ∙ take-append_seam (records ls) (drop (length (records ls)) buffer) in (
        t,
        subst (λ b. Keeps b t) (sym front) (read_keeps (records ls) t (records_bytes ls proper) check),
        λ input.
            record {
              text = meant_text ls proper fine t check input;
              place = meant_place ls proper fine t check input;
              closed = meant_closed ls proper fine t check input;
              values = chosen_values ls proper fine t check input;
            },
      )

  follows : (answer : Outcome ℕ) (later : List ℕ) → FromText text buffer answer later → Follows text buffer answer later
  follows answer later f =
      let e = alone answer later f in
      rw (e.0, e.1) (record { numbered = numbered; whole = whole; meant = meant })

pub typed_rules : TypedRules
typed_rules = record { one_reading = one_reading; determined = determined; follows = follows }
