-- A text read through, with its records fed from the start on: what is then held says what is answered of the text, and which records it has.
-- The records fed are those of the lines that were read, and the table check on them is the one that a lent table gets. Assumes nothing.
use mathlib.Core.Bool.{Bool, true, false, cond}
use mathlib.Core.List.{List}
use Rattle.std.specs.Prelude.{Option, None, Some, is_some}
use mathlib.Core.Path.{◌≡◌, refl, sym, ap, subst, ◌∙◌}
use Prim.Native.Nat.{ℕ, ◌*◌, ◌≤◌}
use native.Mathlib.Omega.{arith}
use lib.ListN.{length, replicate}
use Rattle.lists.specs.Decide.{select}
use Rattle.meaning.specs.Refusal.{Outcome, refused, accepted, and_then}
use Rattle.meaning.specs.Table.{Characters, Table}
use Rattle.meaning.specs.Records.{Bytes}
use Rattle.meaning.specs.Reader.{read_table}
use Rattle.meaning.specs.Direct.{over}
use Rattle.meaning.specs.bridge.Flat.{loaded_size, safe_at, Flat}
use Rattle.meaning.proofs.Laws.Refusal.{accepted_not, accepted_same}
use Rattle.rules.specs.declared.reader.Reader.{Reader}
use Rattle.rules.specs.declared.load.Load.{Load}
use Rattle.rules.specs.bridge.Modes.{the_mode}
use Rattle.rules.specs.bridge.Summary.{started, gap, Fitting}
use Rattle.rules.specs.bridge.Readings.{end_of, LoadedBy}
use Rattle.rules.proofs.Laws.Flattened.{pad_zeros}
use Rattle.rules.proofs.Laws.Stepping.{started_fitting}
use Rattle.rules.proofs.Laws.Loading.{records_loaded, end_needs, end_loaded}
use Rattle.rules.proofs.Laws.Converting.{of_read, is_refused}
use Rattle.expression.specs.bridge.Text.{Read, map_read}
use Rattle.expression.specs.bridge.Text as Text
use Rattle.expression.proofs.Laws.Sound.{map_got}
use Rattle.typed.specs.Grammar.{Line, TypedText}
use Rattle.typed.specs.Records.{lines_within17, records}
use Rattle.typed.specs.declared.sink.Records.{Records}
use Rattle.typed.specs.bridge.Reader.{lines_of}
use Rattle.typed.specs.bridge.Outcome.{checked_records, text_records}
use Rattle.typed.specs.bridge.Stream.{State, feed_lines_past17, beginning, nothing_read, weight, Held}
use Rattle.typed.specs.bridge.Answers.{state_of, Streams, Written}
use Rattle.typed.proofs.Laws.Bytes.{records_whole, records_bytes}
use Rattle.typed.proofs.Laws.Lines.{lines_sound}
use Rattle.typed.proofs.Laws.Decided.{text_checked}
use Rattle.typed.proofs.Laws.Proper.{text_proper}
use Rattle.typed.proofs.Laws.Readings.{place_none, place_some}
use Rattle.typed.proofs.Laws.Checked.{fed_all, check_of, checked_answer, checked_loaded, checked_count, checked_buffer, fold_lent}
use Rattle.typed.proofs.Laws.Streamed.{Feeds, lines_note, lines_feed_past17}

-- what holds of every state on the way holds at the start
pub start_ready : Held (accepted started) 0
start_ready = record { reading = λ r h. subst (λ x. Fitting x × (0 ≤ 8 * weight x)) (accepted_same started r h) (started_fitting, omega arith) }

-- an array of zeros is lent
pub zeros_lent : {st : State} {buffer : List ℕ} {lent : ℕ} → st ≡ beginning (replicate loaded_size 0) buffer lent → st ≡ nothing_read buffer lent
zeros_lent {buffer = buffer} {lent = lent} e = e ∙ ap (λ l. beginning l buffer lent) (sym (pad_zeros loaded_size))

-- the lines that were read, and the state that they were fed into
pub record Surveyed (text buffer : List ℕ) (lent : ℕ) (s : State) : Type 0 where
  pub lines : List Line
  pub rest : List ℕ
  pub read : lines_of text ≡ Text.got lines rest
  pub state : s ≡ feed_lines_past17 lines (nothing_read buffer lent)

-- an answer that is none, and one that is not
pub none_is : {A : Type 0} (o : Option A) → is_some o ≡ false → o ≡ None
none_is None e = refl
none_is (Some x) e = let z : ◌≡◌ {A = ℕ} 1 0 = ap (λ b. cond b 1 0) e in absurd (omega arith)

pub some_is : {A : Type 0} (o : Option A) → is_some o ≡ true → (x : A) × (o ≡ Some x)
some_is None e = let z : ◌≡◌ {A = ℕ} 0 1 = ap (λ b. cond b 1 0) e in absurd (omega arith)
some_is (Some x) e = (x, refl)

-- a text whose lines are not read, whatever is made of them
pub unread : (text : List ℕ) (f : List Line → State) → map_read f (lines_of text) ≡ Text.refused → text_records text ≡ refused 16
unfolding text_records and_then map_read
unread text f n = by (lines_of text) refl n
  where
    by : (d : Read (List Line)) → lines_of text ≡ d → map_read f d ≡ Text.refused → text_records text ≡ refused 16
    by Text.refused q n = rw q
    by (Text.got ls rest) q n = let z : ◌≡◌ {A = ℕ} 0 1 = cc in absurd (omega arith)

module _ {text before : List ℕ} {lent at : ℕ} {first : State} {r : Option ℕ} (k : Records) (begins : first ≡ nothing_read before lent)
    (x : Streams text at r (map_read (λ ls. feed_lines_past17 ls first) (lines_of text)) k) where
  -- "16: text outside this grammar"
  pub outside : is_some r ≡ false → text_records text ≡ refused 16
  outside e = unread text (λ ls. feed_lines_past17 ls first) (place_none x (none_is r e))

  pub surveyed : is_some r ≡ true → Surveyed text before lent (state_of k)
  surveyed e =
      let m = map_got (λ ls. feed_lines_past17 ls first) (lines_of text) _ _ (place_some x (some_is r e).1).is in
      record { lines = m.0; rest = _; read = m.1; state = sym m.2 ∙ ap (feed_lines_past17 m.0) begins }

module _ {text buffer : List ℕ} {lent : ℕ} {s : State} (x : Surveyed text buffer lent s) where
  abbrev bytes_of : List ℕ
  bytes_of = records x.lines

  typed : TypedText text x.lines
  typed = lines_sound text x.lines x.rest x.read

  pub noted : s.fine ≡ lines_within17 x.lines
  noted = ap (λ t. t.fine) x.state ∙ lines_note x.lines (nothing_read buffer lent)

  -- an expression that 17 refuses
  pub beyond : s.fine ≡ false → text_records text ≡ refused 17
  unfolding checked_records select
  beyond e = text_checked typed ∙ rw (sym noted ∙ e)

  module _ (e : s.fine ≡ true) where
    records_checked : text_records text ≡ and_then (read_table bytes_of) (λ t. accepted bytes_of)
    unfolding checked_records select
    records_checked = text_checked typed ∙ rw (sym noted ∙ e)

    records_accepted : (b : List ℕ) → text_records text ≡ accepted b → b ≡ bytes_of
    unfolding and_then
    records_accepted b q = by (read_table bytes_of) (sym q ∙ records_checked)
      where
        by : (o : Outcome Table) → accepted b ≡ and_then o (λ t. accepted bytes_of) → b ≡ bytes_of
        by (refused n) p = absurd (accepted_not b n p)
        by (accepted t) p = accepted_same b bytes_of p

    feeds : Feeds (feed_lines_past17 x.lines) bytes_of
    feeds = lines_feed_past17 x.lines (sym noted ∙ e)

    held : s ≡ fed_all feeds.chunks buffer lent
    held = x.state ∙ feeds.fed (nothing_read buffer lent)

    answered : s.check ≡ (check_of bytes_of).answer
    answered = ap (λ t. t.check) held ∙ checked_answer feeds.chunks feeds.eights buffer lent ∙ ap (λ b. (check_of b).answer) feeds.joined

    array : s.loaded ≡ (check_of bytes_of).loaded
    array = ap (λ t. t.loaded) held ∙ checked_loaded feeds.chunks feeds.eights buffer lent ∙ ap (λ b. (check_of b).loaded) feeds.joined

    pub still_lent : s.lent ≡ lent
    still_lent = ap (λ t. t.lent) held ∙ fold_lent feeds.chunks (nothing_read buffer lent)

    module _ (reader : Reader) (a : s.check ≡ accepted reader) where
      accepts : (fed_all feeds.chunks buffer lent).check ≡ accepted reader
      accepts = sym (ap (λ t. t.check) held) ∙ a

      counted : s.count ≡ length bytes_of
      counted = ap (λ t. t.count) held ∙ checked_count feeds.chunks feeds.eights buffer lent reader accepts ∙ ap length feeds.joined

      stored : length bytes_of ≤ length buffer → s.buffer ≡ over bytes_of buffer
      stored fits =
          ap (λ t. t.buffer) held
          ∙ checked_buffer feeds.chunks feeds.eights buffer lent reader accepts (subst (λ b. length b ≤ length buffer) (sym feeds.joined) fits)
          ∙ ap (λ b. over b buffer) feeds.joined

    module _ (characters : Characters text) where
      bytes : Bytes bytes_of
      bytes = records_bytes x.lines (text_proper typed characters)

      table_refused : (n : ℕ) → read_table bytes_of ≡ refused n → text_records text ≡ refused n
      unfolding and_then
      table_refused n q = records_checked ∙ rw q

      -- a record that the table check refuses
      pub unfit : (n : ℕ) → s.check ≡ refused n → text_records text ≡ refused n
      unfit n q =
          let l = records_loaded bytes_of bytes refl (records_whole x.lines) n s.loaded (sym q ∙ answered) in
          table_refused n (is_refused bytes_of (refused n) s.loaded l n refl)

      module _ (reader : Reader) (a : s.check ≡ accepted reader) where
        pub end_fits : (reader.rules ≤ 32) × (gap reader ≡ false → 1 ≤ reader.rules → Flat s.loaded)
        end_fits = end_needs bytes_of bytes refl (records_whole x.lines) reader s.loaded (sym a ∙ answered) array

        module _ (load : Outcome Load) (end : load ≡ end_of reader (safe_at s.loaded reader.rules (the_mode reader.mode))) where
          loads : LoadedBy (read_table bytes_of) load s.loaded
          loads = end_loaded bytes_of bytes refl (records_whole x.lines) reader s.loaded (sym a ∙ answered) array load end

          -- a table whose end is refused, and one that is accepted
          pub unfit_end : (n : ℕ) → load ≡ refused n → text_records text ≡ refused n
          unfit_end n q = table_refused n (is_refused bytes_of load s.loaded loads n q)

          pub fit_end : (l : Load) → load ≡ accepted l → (b : List ℕ) × (text_records text ≡ accepted b) × (s.count ≡ length b)
          unfolding and_then
          fit_end l q =
              let e = of_read bytes_of load s.loaded loads l.rules l.mode q (λ _ _ _. and_then (read_table bytes_of) (λ t. accepted bytes_of) ≡ accepted bytes_of) (λ t p. rw p) in
              (bytes_of, records_checked ∙ e, counted reader a)

    -- the records of a text that is accepted
    pub left : Characters text → (b : List ℕ) → text_records text ≡ accepted b → length b ≤ length buffer → s.buffer ≡ over b buffer
    left characters b q fits = by s.check refl
      where
        same : b ≡ bytes_of
        same = records_accepted b q

        by : (o : Outcome Reader) → s.check ≡ o → s.buffer ≡ over b buffer
        by (refused n) p = absurd (accepted_not b n (sym q ∙ unfit characters n p))
        by (accepted r) p = stored r p (subst (λ c. length c ≤ length buffer) same fits) ∙ ap (λ c. over c buffer) (sym same)

-- what the second pass leaves: what is behind the loan, if that is the one that was lent
pub written : {text before after : List ℕ} {lent at : ℕ} {first : State} {r : Option ℕ} (k : Records) → first ≡ nothing_read before lent →
    Streams text at r (map_read (λ ls. feed_lines_past17 ls first) (lines_of text)) k → (k.buffer.ghost_name ≡ lent → after ≡ k.buffer.now) → Characters text → Written text before after
written {text} {before} {after} {lent} {at} {first} {r} k begins x back characters b q fits = by (is_some r) refl
  where
    on : (y : Surveyed text before lent (state_of k)) → (f : Bool) → k.sink.fine ≡ f → after ≡ over b before
    on y true e = back (still_lent y e) ∙ left y e characters b q fits
    on y false e = absurd (accepted_not b 17 (sym q ∙ beyond y e))

    by : (f : Bool) → is_some r ≡ f → after ≡ over b before
    by false e = absurd (accepted_not b 16 (sym q ∙ outside k begins x e))
    by true e = on (surveyed k begins x e) k.sink.fine refl
