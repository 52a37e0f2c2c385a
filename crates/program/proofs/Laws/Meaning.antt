-- What the turns printed is Definition 7's text, once the session is closed or stopped.
-- The turns are a list of calls, whose outputs joined are demand 3's; each turn printed the lines of its own.
use mathlib.Core.Bool.{Bool, true, false, ◌||◌, false≢true}
use mathlib.Core.List.{List, [], ◌∷◌, ◌++◌, append-nil, append_assoc}
use mathlib.Core.Logic.{◌≢◌}
use mathlib.Core.Path.{◌≡◌, refl, sym, ap, subst, ◌∙◌}
use Prim.Native.Nat.{ℕ, ◌<◌}
use native.Mathlib.Omega.{arith}
use lib.Dec.{T}
use lib.ListN.{length, take, length-append}
use Rattle.lists.specs.Lists.{Each}
use Rattle.lists.proofs.Laws.Each.{each_append, each_front, each_back}
use Rattle.lists.proofs.Laws.Folds.{flat_map_append}
use Rattle.meaning.specs.Refusal.{Outcome, refused, accepted}
use Rattle.meaning.specs.Table.{Characters, Table}
use Rattle.meaning.specs.Meaning.{covered, convert, meaning_place}
use Rattle.meaning.proofs.Laws.Shape.{Shaped}
use Rattle.meaning.proofs.Laws.Described.{well_formed_shaped}
use Rattle.automaton.specs.Automaton.{from_table, from_words}
use Rattle.reckoning.specs.Machine.{Status, Open, Closed, Stopped, start}
use Rattle.reckoning.specs.Session.{Session, fresh, consumed, is_open}
use Rattle.reckoning.specs.Calls.{Answer, CallOutcome, admits, call_by, feed, finish}
use Rattle.reckoning.specs.Reckoning.{Call, of_feed, of_finish, piece, Served, unserved, called, output_by, and_then, serve_call, serve, accepted_pieces, Input, no_input, ran, reckon}
use Rattle.reckoning.specs.Claims.{is_stopped, Agrees, OutcomesAgree}
use Rattle.reckoning.proofs.Laws.Trace.{trace, log_of}
use Rattle.reckoning.proofs.Laws.Run.{NotClosed, run_unended}
use Rattle.reckoning.proofs.Laws.Demand3.{outcomes_agree}
use Rattle.reckoning.proofs.Laws.Whole.{run_is, meaning_is}
use Rattle.program.specs.Text.{hex_line, hex_lines, StatusLine, AcceptedLines, PrintedFor}
use Rattle.program.specs.Turns.{call_on, waits, TurnOn, Turns, no_turn, a_turn}
use Rattle.program.specs.Claims.{Prints, PrintsMeaning}

-- the call of a turn
abbrev call_for : List ℕ → List ℕ → Call
call_for [] buffer = of_finish buffer
call_for (b ∷ bytes) buffer = of_feed (b ∷ bytes) buffer

call_is : (w : List ℕ) (s : Session) (bytes buffer : List ℕ) → call_on w s bytes buffer ≡ called w s (call_for bytes buffer)
call_is w s [] buffer = refl
call_is w s (b ∷ bytes) buffer = refl

piece_is : (bytes buffer : List ℕ) → piece (call_for bytes buffer) ≡ bytes
piece_is [] buffer = refl
piece_is (b ∷ bytes) buffer = refl

-- a call more
serve_more : (w : List ℕ) (cs : List Call) (c : Call) (v : Served) → serve w (cs ++ (c ∷ [])) v ≡ serve_call w (serve w cs v) c
unfolding serve
serve_more w [] c v = refl
serve_more w (d ∷ cs) c v = serve_more w cs c (serve_call w v d)

pieces_more : (cs : List Call) (c : Call) (xs : List (Outcome Answer)) (a : Answer) → length cs ≡ length xs →
    accepted_pieces (cs ++ (c ∷ [])) (xs ++ (accepted a ∷ [])) ≡ accepted_pieces cs xs ++ piece c
pieces_more [] c [] a e = append-nil (piece c)
pieces_more [] c (x ∷ xs) a e = absurd (omega arith)
pieces_more (d ∷ cs) c [] a e = absurd (omega arith)
pieces_more (d ∷ cs) c (refused n ∷ xs) a e = pieces_more cs c xs a (omega arith)
pieces_more (d ∷ cs) c (accepted x ∷ xs) a e =
    ap (λ l. piece d ++ l) (pieces_more cs c xs a (omega arith)) ∙ sym (append_assoc (piece d) (accepted_pieces cs xs) (piece c))

hex_append : (xs ys : List ℕ) → hex_lines (xs ++ ys) ≡ hex_lines xs ++ hex_lines ys
unfolding hex_lines
hex_append xs ys = flat_map_append hex_line xs ys

-- an accepted call's session has the answer's status, a refused one's is as found
abbrev LeftBy : Session → CallOutcome → Outcome Answer → Type 0
LeftBy s o (refused n) = o.session ≡ s
LeftBy s o (accepted a) = o.session.status ≡ a.status

left_by_lem : (w : List ℕ) (s : Session) (bytes buffer : List ℕ) → LeftBy s (call_on w s bytes buffer) (call_on w s bytes buffer).answer
unfolding feed finish
left_by_lem w s [] buffer = by (admits w s 0 (length buffer))
  where
    by : (o : Outcome (Unit {0})) → let c = call_by o (from_words w) s [] true buffer in LeftBy s c c.answer
    by (refused n) = refl
    by (accepted u) = refl
left_by_lem w s (b ∷ bytes) buffer = by (admits w s (length (b ∷ bytes)) (length buffer))
  where
    by : (o : Outcome (Unit {0})) → let c = call_by o (from_words w) s (b ∷ bytes) false buffer in LeftBy s c c.answer
    by (refused n) = refl
    by (accepted u) = refl

-- turns so far, as calls that were all accepted: what they wrote was printed, but for the last line
record Standing (w input printed line : List ℕ) (s : Session) : Type 0 where
  calls : List Call
  characters : Characters input → Each (λ c. Characters (piece c)) calls
  session : (serve w calls unserved).session ≡ s
  sized : length calls ≡ length (serve w calls unserved).answers
  pieces : accepted_pieces calls (serve w calls unserved).answers ≡ input
  text : printed ≡ hex_lines (serve w calls unserved).output ++ line

module _ (w : List ℕ) where
  -- an accepted turn more
  stands : (input printed bytes text line : List ℕ) (s later : Session) (buffer : List ℕ) (a : Answer) →
      Standing w input printed [] s → (call_on w s bytes buffer).answer ≡ accepted a → later ≡ (call_on w s bytes buffer).session →
      text ≡ hex_lines (take a.count (call_on w s bytes buffer).output) ++ line → Standing w (input ++ bytes) (printed ++ text) line later
  stands input printed bytes text line s later buffer a S e left t =
      let v = serve w S.calls unserved in
      let c = call_for bytes buffer in
      let o = call_on w s bytes buffer in
      let came : called w v.session c ≡ o = ap (λ x. called w x c) S.session ∙ sym (call_is w s bytes buffer) in
      let eq : serve w (S.calls ++ (c ∷ [])) unserved ≡ and_then o v = serve_more w S.calls c unserved ∙ ap (λ x. and_then x v) came in
      let answers : (serve w (S.calls ++ (c ∷ [])) unserved).answers ≡ v.answers ++ (accepted a ∷ []) =
      ap (λ (x : Served). x.answers) eq ∙ ap (λ x. v.answers ++ (x ∷ [])) e in
      let output : (serve w (S.calls ++ (c ∷ [])) unserved).output ≡ v.output ++ take a.count o.output =
      ap (λ (x : Served). x.output) eq ∙ ap (λ x. v.output ++ output_by x o.output) e in
      record {
        calls = S.calls ++ (c ∷ []);
        characters = λ all.
            each_append (λ d. Characters (piece d)) S.calls (c ∷ [])
            (S.characters (each_front (λ x. x < 65536) input bytes all))
            (subst Characters (sym (piece_is bytes buffer)) (each_back (λ x. x < 65536) input bytes all), tt);
        session = ap (λ (x : Served). x.session) eq ∙ sym left;
        sized = omega (arith, S.sized, ap length answers, length-append S.calls (c ∷ []), length-append v.answers (accepted a ∷ []));
        pieces =
            ap (accepted_pieces (S.calls ++ (c ∷ []))) answers
            ∙ pieces_more S.calls c v.answers a S.sized
            ∙ (λ i. S.pieces i ++ piece_is bytes buffer i);
        text =
            (λ i. (S.text ∙ append-nil (hex_lines v.output)) i ++ t i)
            ∙ sym (append_assoc (hex_lines v.output) (hex_lines (take a.count o.output)) line)
            ∙ ap (λ l. l ++ line) (sym (hex_append v.output (take a.count o.output)))
            ∙ ap (λ l. hex_lines l ++ line) (sym output);
      }

  -- what an accepted turn printed, and the session that it left
  accepted_lines : (s : Session) (bytes : List ℕ) (later : Session) (going : Bool) (text : List ℕ) (t : TurnOn w s bytes later going text) (a : Answer) →
      (call_on w s bytes t.buffer).answer ≡ accepted a →
      AcceptedLines (take a.count (call_on w s bytes t.buffer).output) a.status (consumed later) later.steps text × (later.status ≡ a.status)
  accepted_lines s bytes later going text t a e =
      let o = call_on w s bytes t.buffer in
      let lines = subst (λ x. PrintedFor x o.session o.output text) e t.turned.text in
      let left : o.session ≡ later = sym t.turned.session in (
        subst (λ z. AcceptedLines (take a.count o.output) a.status (consumed z) z.steps text) left lines,
        ap (λ (z : Session). z.status) (sym left) ∙ subst (LeftBy s o) e (left_by_lem w s bytes t.buffer),
      )

  open_is : (st : Status) → is_open st ≡ true → st ≡ Open
  open_is Open e = refl
  open_is Closed e = absurd (false≢true e)
  open_is Stopped e = absurd (false≢true e)

  -- turns that leave their session waiting
  open_turns : {input printed : List ℕ} {s : Session} {going : Bool} → Turns w input printed s going → going ≡ true →
      Standing w input printed [] s × (s.status ≡ Open)
  unfolding serve hex_lines fresh
  open_turns no_turn e = (
    record { calls = []; characters = λ _. tt; session = refl; sized = refl; pieces = refl; text = refl },
    refl,
  )
  open_turns (a_turn {input} {printed} {s} {bytes} {text} {later} {going} ts t) e =
      by (open_turns ts refl).0 (call_on w s bytes t.buffer).answer refl (sym t.turned.waiting ∙ e)
    where
      by : Standing w input printed [] s → (o : Outcome Answer) → (call_on w s bytes t.buffer).answer ≡ o → waits (call_on w s bytes t.buffer).answer ≡ true →
          Standing w (input ++ bytes) (printed ++ text) [] later × (later.status ≡ Open)
      by S (refused n) q h = absurd (false≢true (rw q at h))
      by S (accepted a) q h =
          let st : a.status ≡ Open = open_is a.status (rw q at h) in
          let got = accepted_lines s bytes later going text t a q in
          let lines = got.0 in
          let none : lines.line ≡ [] = subst (λ z. StatusLine z (consumed later) later.steps lines.line) st lines.last in (
            stands input printed bytes text [] s later t.buffer a S q t.turned.session
                (lines.text ∙ ap (λ l. hex_lines (take a.count (call_on w s bytes t.buffer).output) ++ l) none),
            got.1 ∙ st,
          )

  -- turns whose session is closed or stopped: the last was accepted, and printed the last line
  record Over (input printed : List ℕ) (s : Session) : Type 0 where
    line : List ℕ
    last : StatusLine s.status (consumed s) s.steps line
    standing : Standing w input printed line s

  over_turns : {input printed : List ℕ} {s : Session} {going : Bool} → Turns w input printed s going → s.status ≢ Open → Over input printed s
  unfolding fresh
  over_turns no_turn over = absurd (over refl)
  over_turns (a_turn {input} {printed} {s} {bytes} {text} {later} {going} ts t) over = by (call_on w s bytes t.buffer).answer refl
    where
      before : Standing w input printed [] s × (s.status ≡ Open)
      before = open_turns ts refl

      by : (o : Outcome Answer) → (call_on w s bytes t.buffer).answer ≡ o → Over (input ++ bytes) (printed ++ text) later
      by (refused n) q =
          let kept : (call_on w s bytes t.buffer).session ≡ s = subst (LeftBy s (call_on w s bytes t.buffer)) q (left_by_lem w s bytes t.buffer) in
          absurd (over (ap (λ (z : Session). z.status) (t.turned.session ∙ kept) ∙ before.1))
      by (accepted a) q =
          let got = accepted_lines s bytes later going text t a q in
          let lines = got.0 in
          record {
            line = lines.line;
            last = subst (λ z. StatusLine z (consumed later) later.steps lines.line) (sym got.1) lines.last;
            standing = stands input printed bytes text lines.line s later t.buffer a before.0 q t.turned.session lines.text;
          }

-- DEFINITION 7, of what was printed

ended_run : (t : Table) (u : List ℕ) (e : Bool) → e ≡ false → NotClosed (ran t u e).status
unfolding ran
ended_run t u e n = subst (λ b. NotClosed (ran t u b).status) (sym n) (run_unended (from_table t) (start [] u 0))

finished : (z : Status) (e : Bool) → z ≢ Open → (e ≡ false → NotClosed z) → T (e || is_stopped z)
finished Open e over h = absurd (over refl)
finished Closed true over h = tt
finished Closed false over h = h refl
finished Stopped true over h = tt
finished Stopped false over h = tt

stopped_is : (z : Status) → z ≢ Open → NotClosed z → z ≡ Stopped
stopped_is Open over n = absurd (over refl)
stopped_is Closed over n = absurd n
stopped_is Stopped over n = refl

module _ (t : Table) (keeps : Shaped t) (cs : List Call) (v : Served) (i : Input) (g : Agrees t cs v i (ran t i.characters i.ended))
    (characters : Characters i.characters) (over : v.session.status ≢ Open) where
  abbrev u : List ℕ
  u = i.characters

  abbrev z : Session
  z = v.session

  unclosed : i.ended ≡ false → NotClosed z.status
  unclosed e = subst NotClosed (sym g.status) (ended_run t u i.ended e)

  done : T (i.ended || is_stopped z.status)
  done = finished z.status i.ended over unclosed

  -- an input that has its end is Definition 7's whole
  ended_place : i.ended ≡ true → consumed z ≡ meaning_place t u
  ended_place e =
      g.consumes
      ∙ ap covered ((run_is t keeps u i.ended).log ∙ ap (λ b. log_of (trace (from_table t) b 0 u)) e ∙ (meaning_is t keeps u characters).0)

  place : (closed ended : Bool) → (convert t u).closed ≡ closed → i.ended ≡ ended → consumed z ≡ meaning_place t u
  place false ended c e = (g.stopped done c).1
  place true true c e = ended_place e
  place true false c e = absurd (subst NotClosed ((g.closed done).1 c) (unclosed e))

  steps : (ended : Bool) → i.ended ≡ ended → z.steps ≡ (ran t u true).final.steps
  steps true e = g.steps ∙ ap (λ b. (ran t u b).final.steps) e
  steps false e =
      g.steps
      ∙ sym (g.firm e (stopped_is z.status over (unclosed e)) [] tt true).2
      ∙ ap (λ l. (ran t l true).final.steps) (append-nil u)

  prints : (printed line : List ℕ) → printed ≡ hex_lines v.output ++ line → StatusLine z.status (consumed z) z.steps line → Prints t u printed z
  prints printed line text last = record {
    closed = g.closed done;
    line = line;
    last = subst (λ k. StatusLine z.status k (ran t u true).final.steps line) (place (convert t u).closed i.ended refl refl)
        (subst (λ k. StatusLine z.status (consumed z) k line) (steps i.ended refl) last);
    text = text ∙ ap (λ l. hex_lines l ++ line) (g.text done);
  }

pub prints_meaning : PrintsMeaning
unfolding PrintsMeaning OutcomesAgree
prints_meaning t w C input printed s going characters turns over =
    let x = over_turns w turns over in
    let S = x.standing in
    let v = serve w S.calls unserved in
    let i = reckon t S.calls no_input in
    let g = outcomes_agree t w C S.calls (S.characters characters) in
    let same : i.characters ≡ input = g.input ∙ S.pieces in
    let said = prints t (well_formed_shaped t C.keeps.keeps.well_formed) S.calls v i g (subst Characters (sym same) characters)
    (λ e. over (ap (λ (y : Session). y.status) (sym S.session) ∙ e)) printed x.line S.text
    (subst (λ y. StatusLine y.status (consumed y) y.steps x.line) (sym S.session) x.last) in
    subst (λ y. Prints t input printed y) S.session (subst (λ l. Prints t l printed v.session) same said)
