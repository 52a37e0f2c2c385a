-- What is decided of a text and a lent buffer: one of five cases, each with its answer, and the answer is that case's.
-- A text has one reading or none, and each decision after it is by one test.
use mathlib.Core.Bool.{false}
use mathlib.Core.List.{List}
use mathlib.Core.Path.{◌≡◌, refl, sym, ap, ◌∙◌}
use Prim.Native.Nat.{ℕ, ◌<◌}
use borrow.Author.Tests.{lt-ltb, le-ltb}
use lib.Dec.{ltb→lt, nltb→le}
use lib.ListN.{length}
use Rattle.lists.specs.Decide.{select}
use Rattle.lists.proofs.Laws.Tests.{not_not, of_T, of_not, by_cases}
use Rattle.meaning.specs.Refusal.{Outcome, refused, accepted, and_then}
use Rattle.meaning.specs.Table.{Table}
use Rattle.meaning.specs.Reader.{read_table}
use Rattle.meaning.proofs.Laws.Refusal.{by_then, accepted_not}
use Rattle.expression.specs.bridge.Text as Text
use Rattle.typed.specs.Grammar.{Line, TypedText}
use Rattle.typed.specs.Records.{lines_within17, records}
use Rattle.typed.specs.Typed.{Reckoned, Accepted}
use Rattle.typed.specs.bridge.Reader.{lines_of}
use Rattle.typed.specs.bridge.Outcome.{in_grammar, checked_records, text_records, fitting}
use Rattle.typed.proofs.Laws.Lines.{lines_sound, lines_complete}

-- the reading accepts the lines that the grammar has

typed_read : {text : List ℕ} {ls : List Line} → TypedText text ls → in_grammar (lines_of text) ≡ accepted ls
typed_read {text} {ls} d = ap in_grammar (lines_complete text ls d).1

-- the five cases

pub data Decided (text buffer : List ℕ) : Outcome (List ℕ) → Type 0 where
  outside : ((ls : List Line) → TypedText text ls → ⊥) → Decided text buffer (refused 16)
  beyond : {ls : List Line} → TypedText text ls → lines_within17 ls ≡ false → Decided text buffer (refused 17)
  unfit : {ls : List Line} {n : ℕ} → Reckoned text ls → read_table (records ls) ≡ refused n → Decided text buffer (refused n)
  no_room : {ls : List Line} {t : Table} → Reckoned text ls → read_table (records ls) ≡ accepted t → length buffer < length (records ls) → Decided text buffer (refused 15)
  fit : {ls : List Line} {t : Table} → Accepted text buffer ls t → Decided text buffer (accepted (records ls))

abbrev pub decision : List ℕ → List ℕ → Outcome (List ℕ)
decision text buffer = and_then (text_records text) (fitting (length buffer))

-- a decision is one of the cases

lines_decided : (text buffer : List ℕ) (ls : List Line) → TypedText text ls → Decided text buffer (and_then (checked_records ls) (fitting (length buffer)))
unfolding checked_records and_then
lines_decided text buffer ls d =
    by_cases (λ o. Decided text buffer (and_then o (fitting (length buffer)))) _ _ (
      λ u. beyond d (of_not (lines_within17 ls) u),
      λ u.
          let w : Reckoned text ls = record { grammar = d; within = of_T (lines_within17 ls) (not_not (lines_within17 ls) u) } in
          by_then (λ o. Decided text buffer (and_then o (fitting (length buffer)))) (read_table (records ls)) (λ t. accepted (records ls)) (λ n e. unfit w e)
          (λ t e.
          by_cases (Decided text buffer) _ _ (
            λ v. no_room w e (ltb→lt (length buffer) (length (records ls)) v),
            λ v. fit (record { lines = w; check = e; room = nltb→le (length buffer) (length (records ls)) v }),
          )),
    )

pub decided : (text buffer : List ℕ) → Decided text buffer (decision text buffer)
unfolding text_records and_then
decided text buffer = by (lines_of text) refl
  where
    by : (r : Text.Read (List Line)) → lines_of text ≡ r → Decided text buffer (and_then (and_then (in_grammar r) checked_records) (fitting (length buffer)))
    by Text.refused e = outside (λ ls d. accepted_not ls 16 (sym (typed_read d) ∙ ap in_grammar e))
    by (Text.got ls rest) e = lines_decided text buffer ls (lines_sound text ls rest e)

-- and in each of the cases that is the decision

none_read : (text : List ℕ) → ((ls : List Line) → TypedText text ls → ⊥) → in_grammar (lines_of text) ≡ refused 16
none_read text h = by (lines_of text) refl
  where
    by : (r : Text.Read (List Line)) → lines_of text ≡ r → in_grammar r ≡ refused 16
    by Text.refused e = refl
    by (Text.got ls rest) e = absurd (h ls (lines_sound text ls rest e))

pub text_checked : {text : List ℕ} {ls : List Line} → TypedText text ls → text_records text ≡ checked_records ls
unfolding text_records and_then
text_checked d = rw (typed_read d) refl

records_fit : {text : List ℕ} {ls : List Line} {t : Table} → Reckoned text ls → read_table (records ls) ≡ accepted t → text_records text ≡ accepted (records ls)
unfolding checked_records select and_then
records_fit {text} {ls} w e = text_checked w.grammar ∙ rw (w.within, e) refl

pub case_decided : {text buffer : List ℕ} {o : Outcome (List ℕ)} → Decided text buffer o → decision text buffer ≡ o
unfolding text_records checked_records select and_then
case_decided {text} {buffer} (outside h) = rw (none_read text h) refl
case_decided {text} {buffer} (beyond d e) = ap (λ o. and_then o (fitting (length buffer))) (text_checked d) ∙ rw e refl
case_decided {text} {buffer} (unfit w e) = ap (λ o. and_then o (fitting (length buffer))) (text_checked w.grammar) ∙ rw (w.within, e) refl
case_decided {text} {buffer} (no_room {ls = ls} w e l) = ap (λ o. and_then o (fitting (length buffer))) (records_fit w e) ∙ rw (lt-ltb (length buffer) (length (records ls)) l) refl
case_decided {text} {buffer} (fit {ls = ls} a) =
    ap (λ o. and_then o (fitting (length buffer))) (records_fit a.lines a.check) ∙ rw (le-ltb (length buffer) (length (records ls)) a.room) refl
