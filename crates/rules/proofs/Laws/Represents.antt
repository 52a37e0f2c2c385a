-- A reading as the table check keeps it: a summary of its last group, and its table in one flat array.
-- What holds of every reading on the way makes the two agree: `Admitted` shows that each record keeps it.
use Rattle.std.proofs.Common.{◌≡◌, ℕ, pred, ◌≤◌, false, cond, not, ◌||◌, T, eqb, List, [], ◌∷◌, ◌++◌, length, pos, sym, refl, ap, ◌∙◌, subst, ap₂, true≢false, arith, eqb→eq}
use Rattle.std.specs.Prelude.{Option, None, Some}
use Rattle.lists.specs.Lists.{Each, at_last, last_d, is_some, optional}
use Rattle.lists.proofs.Laws.Tests.{of_T, of_not, or_cases}
use Rattle.lists.proofs.Laws.Each.{each_append, each_front, each_back, each_weaken}
use Rattle.lists.proofs.Laws.Last.{last_at_last}
use Rattle.meaning.specs.Table as Spec
use Rattle.meaning.specs.Table.{sum, Group, Mark, unmarked, marked, Table, present, mode_of, mode, every_character}
use Rattle.meaning.specs.Reader.{Reading, unread, ranging, change_latest}
use Rattle.rules.specs.bridge.Modes.{the_mode, kept_mode}
use Rattle.rules.specs.bridge.Summary.{defaulted, group_number, Fitting}
use Rattle.rules.specs.declared.mode.Mode.{Mode}
use Rattle.rules.specs.declared.reader.Reader.{Reader}
use Rattle.rules.specs.declared.reader.Last.{Last}
use Rattle.meaning.proofs.Laws.Reading.{Begun, Plain, Ended, KeptReading, top, at_last_length, last_each, unread_kept}
use Rattle.meaning.proofs.Laws.Shape.{Within, IsSum}
use Rattle.meaning.proofs.Laws.Narrow.{NarrowGroup, Narrow}
use Rattle.meaning.proofs.Laws.Groups.{mode_present}
use Rattle.meaning.proofs.Laws.Rows.{Grouped, number_of}
use Rattle.rules.proofs.Laws.Positions.{named_by, named_fit}

-- what is kept of a group
abbrev pub last_of : Group → Last
last_of g =
    record {
      size = g.size;
      positions = length g.ranges;
      slots = length (last_d [] g.ranges);
      highest = (last_d (record { lowest = 0; highest = 0 }) (last_d [] g.ranges)).highest;
      outputs = length g.outputs;
      named = named_by (last_d (sum (pos 0) []) g.outputs);
    }

-- the last record's kind, the number of rules, the default's mode, and the group read last
abbrev pub summary_of : ℕ → ℕ → Mode → Group → Reader
summary_of k n d g = record { kind = k; rules = n; mode = d; last = last_of g }

abbrev pub latest_of : Table → Group
latest_of t = top t.rules t.default

abbrev pub summary : Reading → Reader
summary s = summary_of s.kind (length s.table.rules) (kept_mode (mode s.table)) (latest_of s.table)

-- its mode is the table's

pub kept_mode_lem : (m : Spec.Mode) → the_mode (kept_mode m) ≡ m
kept_mode_lem Spec.Absent = refl
kept_mode_lem Spec.Single = refl
kept_mode_lem Spec.Paired = refl

pub summary_defaulted : (s : Reading) → defaulted (summary s) ≡ is_some s.table.default
summary_defaulted s = ap present (kept_mode_lem (mode s.table)) ∙ mode_present s.table.default s.table.mark

pub summary_number : (s : Reading) → group_number (summary s) ≡ number_of s.table.rules s.table.default
summary_number s = ap (λ b. cond b 32 (pred (length s.table.rules))) (summary_defaulted s)

-- what holds of every reading on the way
pub record Read (s : Reading) : Type 0 where
  pub kept : KeptReading s
  pub narrow : Narrow s.table
  pub grouped : T (not (eqb s.kind 0)) → Grouped s.table.rules s.table.default
  pub writing : T (eqb s.kind 3 || eqb s.kind 4) →
      (1 ≤ length (latest_of s.table).outputs) × IsSum (last_d (sum (pos 0) []) (latest_of s.table).outputs)

pub unread_read : Read unread
unfolding unread
unread_read = record { kept = unread_kept; narrow = tt; grouped = λ t. absurd t; writing = λ t. absurd t }

-- the group read last

pub each_last : {A : Type 0} (P : A → Type 0) (d : A) (xs : List A) → P d → Each P xs → P (last_d d xs)
each_last P d [] p a = p
each_last P d (x ∷ xs) p a = each_last P x xs a.0 a.1

each_top : (P : Group → Type 0) (rs : List Group) (d : Option Group) → P (every_character []) → Each P (rs ++ optional d) → P (top rs d)
each_top P rs None p a = each_last P (every_character []) rs p (each_front P rs [] a)
each_top P rs (Some g) p a = (each_back P rs (g ∷ []) a).0

pub every_narrow : NarrowGroup (every_character [])
every_narrow = record { few = (omega arith, tt); narrow = tt }

pub latest_narrow : (s : Reading) → Read s → NarrowGroup (latest_of s.table)
latest_narrow s h = each_top NarrowGroup s.table.rules s.table.default every_narrow h.narrow

every_begun : Begun (every_character [])
every_begun = record { positive = omega arith; small = omega arith; places = omega arith; outputs = (omega arith, tt); filled = ((omega arith, tt), tt) }

pub latest_begun : (s : Reading) → Read s → Begun (latest_of s.table)
latest_begun s h =
    each_top Begun s.table.rules s.table.default every_begun
    (each_append Begun s.table.rules (optional s.table.default) h.kept.rules (each_weaken Plain Begun (optional s.table.default) (λ g p. p.0) h.kept.default))

-- a kind that is not 0
pub kind_there : (k m n : ℕ) → T (eqb k m || eqb k n) → T (not (eqb m 0)) → T (not (eqb n 0)) → T (not (eqb k 0))
kind_there k m n t a b =
    or_cases (eqb k m) (eqb k n) t
    (λ e. subst (λ j. T (not (eqb j 0))) (sym (eqb→eq k m e)) a)
    (λ e. subst (λ j. T (not (eqb j 0))) (sym (eqb→eq k n e)) b)

-- and changed

module _ (F : Group → Group) where
  pub latest_changed : (rs : List Group) (d : Option Group) (m : Mark) → Grouped rs d → latest_of (change_latest F (record { rules = rs; default = d; mark = m })) ≡ F (top rs d)
  unfolding change_latest
  latest_changed rs None m h = last_at_last F (every_character []) rs h
  latest_changed rs (Some g) m h = refl

  pub grouped_changed : (rs : List Group) (d : Option Group) (m : Mark) → Grouped rs d →
      Grouped (change_latest F (record { rules = rs; default = d; mark = m })).rules (change_latest F (record { rules = rs; default = d; mark = m })).default
  unfolding change_latest
  grouped_changed rs None m h = rw at_last_length h
  grouped_changed rs (Some g) m h = tt

  -- the summary with the last group changed
  pub summary_changed : (k : ℕ) (rs : List Group) (d : Option Group) (m : Mark) → Grouped rs d →
      summary (record { table = change_latest F (record { rules = rs; default = d; mark = m }); kind = k }) ≡ summary_of k (length rs) (kept_mode (mode_of d m)) (F (top rs d))
  unfolding change_latest
  summary_changed k rs None m h = ap₂ (λ n g. summary_of k n Mode.Absent g) (at_last_length F rs) (last_at_last F (every_character []) rs h)
  summary_changed k rs (Some g) unmarked h = refl
  summary_changed k rs (Some g) marked h = refl

  pub narrow_changed : (rs : List Group) (d : Option Group) (m : Mark) → (NarrowGroup (top rs d) → NarrowGroup (F (top rs d))) →
      Narrow (record { rules = rs; default = d; mark = m }) → Narrow (change_latest F (record { rules = rs; default = d; mark = m }))
  unfolding change_latest
  narrow_changed rs None m f a = each_append NarrowGroup (at_last F rs) [] (last_each NarrowGroup F (every_character []) rs f (each_front NarrowGroup rs [] a)) tt
  narrow_changed rs (Some g) m f a = each_append NarrowGroup rs (F g ∷ []) (each_front NarrowGroup rs (g ∷ []) a) (f (each_back NarrowGroup rs (g ∷ []) a).0, tt)

-- the summary's numbers are within their limits

pub read_fitting : (s : Reading) → Read s → Fitting (summary s)
read_fitting s h =
    let g = latest_of s.table in
    let b = latest_begun s h in
    let small : g.size ≤ 8 = b.small in
    let places : length g.ranges ≤ g.size = b.places in
    let last = last_d (sum (pos 0) []) g.outputs in
    record {
      rules = h.kept.few;
      last = record {
        size = small;
        positions = omega arith;
        slots = each_last (λ rs. length rs ≤ 4) [] g.ranges (omega arith) (latest_narrow s h).few;
        outputs = b.outputs.0;
        named = named_fit g.size last small (each_last (Within g.size) (sum (pos 0) []) g.outputs (omega arith) b.outputs.1);
      };
      ranging = λ t. let e = without s h t in (there s.table.rules s.table.default (h.grouped (kind_there s.kind 1 2 t tt tt)) e, summary_defaulted s ∙ e);
      grouped = λ t e. there s.table.rules s.table.default (h.grouped t) (sym (summary_defaulted s) ∙ e);
      writing = λ t. (h.writing t).0;
    }
  where
    there : (rs : List Group) (d : Option Group) → Grouped rs d → is_some d ≡ false → 1 ≤ length rs
    there rs None k e = k
    there rs (Some x) k e = absurd (true≢false e)

    without : (s : Reading) → Read s → T (ranging s) → is_some s.table.default ≡ false
    without s h t = of_not (is_some s.table.default) (subst (λ b. Ended b s.table) (of_T (ranging s) t) h.kept.ended).1
