-- A text read through by a check that refusal 17 ends: what is then held says what is answered of the text, and which records it has.
-- Where 17 meets no expression it is what a check that goes on past it holds, and else the check is refused by 17. Assumes nothing.
use mathlib.Core.Bool.{Bool, true, false, ◌&&◌}
use mathlib.Core.List.{List, [], ◌∷◌}
use Rattle.std.specs.Prelude.{Option, is_some}
use mathlib.Core.Path.{◌≡◌, refl, sym, ap, ◌∙◌}
use Prim.Native.Nat.{ℕ, ◌≤◌}
use lib.ListN.{length}
use Rattle.lists.specs.Lists.{all, fold_left}
use Rattle.lists.specs.Decide.{select}
use Rattle.lists.proofs.Laws.Tests.{to_T, of_T, and_left, and_right}
use Rattle.meaning.specs.Refusal.{Outcome, refused, accepted}
use Rattle.meaning.specs.Table.{Characters}
use Rattle.meaning.specs.Direct.{over}
use Rattle.meaning.specs.bridge.Flat.{safe_at, Flat}
use Rattle.meaning.proofs.Laws.Refusal.{accepted_not, refused_same}
use Rattle.rules.specs.declared.reader.Reader.{Reader}
use Rattle.rules.specs.declared.load.Load.{Load}
use Rattle.rules.specs.bridge.Modes.{the_mode}
use Rattle.rules.specs.bridge.Summary.{gap}
use Rattle.rules.specs.bridge.Readings.{end_of}
use Rattle.expression.specs.Grammar.{Tree}
use Rattle.expression.specs.bridge.Text.{map_read}
use Rattle.expression.specs.bridge.Text as Text
use Rattle.expression.proofs.Laws.Sound.{map_got}
use Rattle.typed.specs.Grammar.{Line}
use Rattle.typed.specs.Records.{part_of, within17, lines_within17}
use Rattle.typed.specs.declared.sink.Records.{Records}
use Rattle.typed.specs.bridge.Reader.{lines_of}
use Rattle.typed.specs.bridge.Outcome.{checked_records, text_records}
use Rattle.typed.specs.bridge.Stream.{State, feed_part, feed_part_past17, feed_tree, feed_tree_past17, feed_head, feed_line, feed_line_past17, feed_lines, feed_lines_past17, nothing_read}
use Rattle.typed.specs.bridge.Answers.{state_of, Streams, Written}
use Rattle.typed.proofs.Laws.Lines.{lines_sound}
use Rattle.typed.proofs.Laws.Decided.{text_checked}
use Rattle.typed.proofs.Laws.Readings.{place_none, place_some}
use Rattle.typed.proofs.Laws.Streamed.{lines_meet}
use Rattle.typed.proofs.Laws.Surveyed as Past
use Rattle.typed.proofs.Laws.Surveyed.{unread, none_is, some_is}

-- where 17 meets none of the expressions, both ways of feeding are one

same_all : {A : Type 0} (f g : A → State → State) (test : A → Bool) → ((x : A) → test x ≡ true → (s : State) → f x s ≡ g x s) →
    (xs : List A) → all test xs ≡ true → (s : State) → fold_left f xs s ≡ fold_left g xs s
same_all f g test h [] e s = refl
same_all f g test h (x ∷ xs) e s =
    let b = to_T (test x && all test xs) e in
    ap (fold_left f xs) (h x (of_T (test x) (and_left (test x) (all test xs) b)) s)
    ∙ same_all f g test h xs (of_T (all test xs) (and_right (test x) (all test xs) b)) (g x s)

same_tree : (t : Tree) → within17 (part_of t) ≡ true → (s : State) → feed_tree t s ≡ feed_tree_past17 t s
unfolding feed_part feed_part_past17
same_tree t e s = rw e

same_line : (l : Line) → all (λ t. within17 (part_of t)) l.outputs ≡ true → (s : State) → feed_line l s ≡ feed_line_past17 l s
same_line l e s = same_all feed_tree feed_tree_past17 (λ t. within17 (part_of t)) same_tree l.outputs e (feed_head l.head s)

pub lines_same : (ls : List Line) → lines_within17 ls ≡ true → (s : State) → feed_lines ls s ≡ feed_lines_past17 ls s
unfolding lines_within17
lines_same ls e s = same_all feed_line feed_line_past17 (λ l. all (λ t. within17 (part_of t)) l.outputs) same_line ls e s

-- the lines that were read, and the state that they were fed into
pub record Surveyed (text buffer : List ℕ) (lent : ℕ) (s : State) : Type 0 where
  pub lines : List Line
  pub rest : List ℕ
  pub read : lines_of text ≡ Text.got lines rest
  pub state : s ≡ feed_lines lines (nothing_read buffer lent)

module _ {text before : List ℕ} {lent at : ℕ} {first : State} {r : Option ℕ} (k : Records) (begins : first ≡ nothing_read before lent)
    (x : Streams text at r (map_read (λ ls. feed_lines ls first) (lines_of text)) k) where
  -- "16: text outside this grammar"
  pub outside : is_some r ≡ false → text_records text ≡ refused 16
  outside e = unread text (λ ls. feed_lines ls first) (place_none x (none_is r e))

  pub surveyed : is_some r ≡ true → Surveyed text before lent (state_of k)
  surveyed e =
      let m = map_got (λ ls. feed_lines ls first) (lines_of text) _ _ (place_some x (some_is r e).1).is in
      record { lines = m.0; rest = _; read = m.1; state = sym m.2 ∙ ap (feed_lines m.0) begins }

module _ {text buffer : List ℕ} {lent : ℕ} {s : State} (x : Surveyed text buffer lent s) where
  -- where 17 meets an expression, the check says so
  beyond : lines_within17 x.lines ≡ false → (s.check ≡ refused 17) × (text_records text ≡ refused 17)
  unfolding checked_records select
  beyond e =
      (ap (λ t. t.check) x.state ∙ lines_meet x.lines (nothing_read buffer lent) e, text_checked (lines_sound text x.lines x.rest x.read) ∙ rw e)

  pub within : (reader : Reader) → s.check ≡ accepted reader → lines_within17 x.lines ≡ true
  within reader a = by (lines_within17 x.lines) refl
    where
      by : (b : Bool) → lines_within17 x.lines ≡ b → lines_within17 x.lines ≡ true
      by true e = e
      by false e = absurd (accepted_not reader 17 (sym a ∙ (beyond e).0))

  -- where it meets none, this is what a check that goes on holds, and nothing is noted
  module _ (e : lines_within17 x.lines ≡ true) where
    abbrev past : Past.Surveyed text buffer lent s
    past = record { lines = x.lines; rest = x.rest; read = x.read; state = x.state ∙ lines_same x.lines e (nothing_read buffer lent) }

    unnoted : s.fine ≡ true
    unnoted = Past.noted past ∙ e

    module _ (characters : Characters text) (reader : Reader) (a : s.check ≡ accepted reader) where
      pub end_fits : (reader.rules ≤ 32) × (gap reader ≡ false → 1 ≤ reader.rules → Flat s.loaded)
      end_fits = Past.end_fits past unnoted characters reader a

      module _ (load : Outcome Load) (end : load ≡ end_of reader (safe_at s.loaded reader.rules (the_mode reader.mode))) where
        -- a table whose end is refused, and one that is accepted
        pub unfit_end : (n : ℕ) → load ≡ refused n → text_records text ≡ refused n
        unfit_end n q = Past.unfit_end past unnoted characters reader a load end n q

        pub fit_end : (l : Load) → load ≡ accepted l → (b : List ℕ) × (text_records text ≡ accepted b) × (s.count ≡ length b)
        fit_end l q = Past.fit_end past unnoted characters reader a load end l q

  -- a refusal that is held, 17 or the table check's
  pub unfit : Characters text → (n : ℕ) → s.check ≡ refused n → text_records text ≡ refused n
  unfit characters n q = by (lines_within17 x.lines) refl
    where
      by : (b : Bool) → lines_within17 x.lines ≡ b → text_records text ≡ refused n
      by true e = Past.unfit (past e) (unnoted e) characters n q
      by false e = let m = beyond e in m.1 ∙ ap refused (refused_same 17 n (sym m.0 ∙ q))

-- what a second pass leaves: what is behind the loan, if that is the one that was lent
pub written : {text before after : List ℕ} {lent at : ℕ} {first : State} {r : Option ℕ} (k : Records) → first ≡ nothing_read before lent →
    Streams text at r (map_read (λ ls. feed_lines ls first) (lines_of text)) k → (k.buffer.ghost_name ≡ lent → after ≡ k.buffer.now) → Characters text → Written text before after
written {text} {before} {after} {lent} {at} {first} {r} k begins x back characters b q fits = by (is_some r) refl
  where
    on : (y : Surveyed text before lent (state_of k)) → (f : Bool) → lines_within17 y.lines ≡ f → after ≡ over b before
    on y true e = back (Past.still_lent (past y e) (unnoted y e)) ∙ Past.left (past y e) (unnoted y e) characters b q fits
    on y false e = absurd (accepted_not b 17 (sym q ∙ (beyond y e).1))

    by : (f : Bool) → is_some r ≡ f → after ≡ over b before
    by false e = absurd (accepted_not b 16 (sym q ∙ outside k begins x e))
    by true e = on (surveyed k begins x e) (lines_within17 (surveyed k begins x e).lines) refl
