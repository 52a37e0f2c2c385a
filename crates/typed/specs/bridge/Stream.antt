-- What the code keeps while it reads a text, and how each record that comes out changes it: the table check's summary and array, and the buffer.
use Rattle.std.specs.Prelude.{Bool, true, false, cond, List, [], ◌∷◌, ◌≡◌, ℕ, suc, ◌+◌, ◌*◌, ◌≤◌, leb, ℤ, length}
use Rattle.std.proofs.Math.Seq.{paste}
use Rattle.lists.specs.Lists.{fold_left, pad}
use Rattle.meaning.specs.Refusal.{Outcome, refused, accepted}
use Rattle.meaning.specs.Table.{Range}
use Rattle.meaning.specs.Block.{bit}
use Rattle.meaning.specs.Record.{decode}
use Rattle.meaning.specs.Table.{unmarked}
use Rattle.meaning.specs.Records.{rule_record, range_record, output_record, term_record, terms, default_record}
use Rattle.meaning.specs.bridge.Flat.{loaded_size}
use Rattle.rules.specs.declared.reader.Reader.{Reader}
use Rattle.rules.specs.bridge.Summary.{started, defaulted, admitted, if_taken, Fitting}
use Rattle.expression.specs.Grammar.{Tree}
use Rattle.expression.specs.Parts.{Part}
use Rattle.typed.specs.Grammar.{Pattern, Head, pattern, otherwise, Line}
use Rattle.typed.specs.Records.{part_of, constant, coefficients, within17}

-- whether no 17 was noted so far; the table check of the records so far, and its array; the bytes of those that it took in, the buffer, and which loan
-- it is (no reader changes that)
pub record State : Type 0 where
  pub fine : Bool
  pub check : Outcome Reader
  pub loaded : List ℕ
  pub count : ℕ
  pub buffer : List ℕ
  pub lent : ℕ

-- a record's bytes at a place of a buffer, if they fit
unfoldable pub put : ℕ → List ℕ → List ℕ → List ℕ
put place c buffer = cond (leb (place + 8) (length buffer)) (paste buffer place c 8) buffer

-- after a record's test: taken in, or refused
abbrev pub tested : Outcome Reader → List ℕ → List ℕ → State → State
tested (refused n) c loaded s = record { fine = s.fine; check = refused n; loaded = loaded; count = s.count; buffer = s.buffer; lent = s.lent }
tested (accepted r) c loaded s = record { fine = s.fine; check = accepted r; loaded = loaded; count = s.count + 8; buffer = put s.count c s.buffer; lent = s.lent }

-- a record's bytes, of which a check that has refused takes no more
abbrev pub feed_to : Outcome Reader → List ℕ → State → State
feed_to (refused n) c s = s
feed_to (accepted r) c s = let x = decode c in tested (admitted r x) c (if_taken r x s.loaded) s

unfoldable pub feed : List ℕ → State → State
feed c s = feed_to s.check c s

-- an expression that 17 refuses: it ends the check, whatever that says, or it is noted, and the check goes on past it
abbrev pub beyond17 : State → State
beyond17 s = record { fine = s.fine; check = refused 17; loaded = s.loaded; count = s.count; buffer = s.buffer; lent = s.lent }

abbrev pub noted17 : State → State
noted17 s = record { fine = false; check = s.check; loaded = s.loaded; count = s.count; buffer = s.buffer; lent = s.lent }

-- the terms of coefficients from a position on
abbrev pub feed_terms : ℕ → List ℤ → State → State
feed_terms p ks s = fold_left (λ x. feed (term_record x)) (terms p ks) s

unfoldable pub feed_part : Part → State → State
feed_part p s = cond (within17 p) (feed_terms 0 (coefficients p) (feed (output_record (constant p)) s)) (beyond17 s)

abbrev pub feed_tree : Tree → State → State
feed_tree t s = feed_part (part_of t) s

abbrev pub feed_outputs : List Tree → State → State
feed_outputs ts s = fold_left feed_tree ts s

unfoldable pub feed_part_past17 : Part → State → State
feed_part_past17 p s = cond (within17 p) (feed_terms 0 (coefficients p) (feed (output_record (constant p)) s)) (noted17 s)

abbrev pub feed_tree_past17 : Tree → State → State
feed_tree_past17 t s = feed_part_past17 (part_of t) s

abbrev pub feed_outputs_past17 : List Tree → State → State
feed_outputs_past17 ts s = fold_left feed_tree_past17 ts s

-- the ranges of position p, and those of the positions from p on
abbrev pub feed_range : ℕ → Range → State → State
feed_range p r s = feed (range_record p r) s

abbrev pub feed_ranges : ℕ → List Range → State → State
feed_ranges p rs s = fold_left (feed_range p) rs s

abbrev pub feed_items : ℕ → List (List Range) → State → State
feed_items p [] s = s
feed_items p (rs ∷ ps) s = feed_items (suc p) ps (feed_ranges p rs s)

abbrev pub feed_pattern : Pattern → State → State
feed_pattern q s = feed_items 0 q.items (feed (rule_record (length q.items) q.anchored) s)

abbrev pub feed_head : Head → State → State
feed_head (pattern q) s = feed_pattern q s
feed_head otherwise s = feed (default_record unmarked) s

abbrev pub feed_line : Line → State → State
feed_line l s = feed_outputs l.outputs (feed_head l.head s)

abbrev pub feed_lines : List Line → State → State
feed_lines ls s = fold_left feed_line ls s

abbrev pub feed_line_past17 : Line → State → State
feed_line_past17 l s = feed_outputs_past17 l.outputs (feed_head l.head s)

abbrev pub feed_lines_past17 : List Line → State → State
feed_lines_past17 ls s = fold_left feed_line_past17 ls s

-- nothing read yet, into an array that is lent, and into one of zeros
abbrev pub beginning : List ℕ → List ℕ → ℕ → State
beginning loaded buffer lent = record { fine = true; check = accepted started; loaded = loaded; count = 0; buffer = buffer; lent = lent }

abbrev pub nothing_read : List ℕ → ℕ → State
nothing_read buffer lent = beginning (pad loaded_size []) buffer lent

-- a number that each record taken in makes greater, so that no more than 81,539 are
abbrev pub weight : Reader → ℕ
weight r = 2400 * (r.rules + bit (defaulted r)) + 4 * r.last.positions + r.last.slots + 256 * r.last.outputs + r.last.named

-- what holds of every state on the way: of the check and the number of bytes
pub record Held (check : Outcome Reader) (count : ℕ) : Type 0 where
  pub reading : (r : Reader) → check ≡ accepted r → Fitting r × (count ≤ 8 * weight r)

abbrev pub Ready : State → Type 0
Ready s = Held s.check s.count
