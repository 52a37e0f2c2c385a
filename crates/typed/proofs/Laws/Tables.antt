-- An accepted text's table is that of its lines, and 4 refuses no text.
-- The records of each line lead from the groups before it to those with its own; a line behind `else` is refused.
use mathlib.Core.Bool.{Bool, true, not}
use mathlib.Core.List.{List, [], ◌∷◌, ◌++◌, map, append-nil}
use Rattle.std.specs.Prelude.{is_some, Option, None, Some}
use mathlib.Core.Path.{◌≡◌, refl, sym, ap, subst, ◌∙◌}
use Prim.Native.Nat.{ℕ, ◌*◌, ◌/◌, ◌%◌, ◌<◌}
use native.Mathlib.Nat.{div-add-mod}
use native.Mathlib.Omega.{arith}
use lib.Dec.{T, T_not, eqb, ltb→lt}
use lib.IntN.{ℤ, pos, negsuc}
use lib.ListN.{length}
use lib.Seq.{append_snoc}
use lib.Signed.{mag}
use Rattle.lists.specs.Lists.{Each, all, flat_map}
use Rattle.lists.proofs.Laws.Tests.{to_T, of_T, and_left, and_right, any_more, by_cases, eq→eqb}
use Rattle.lists.proofs.Laws.Each.{all_each, each_weaken, each_both}
use Rattle.meaning.specs.Refusal.{refused, accepted}
use Rattle.meaning.specs.Table.{Group, Mark, unmarked, Table, every_character}
use Rattle.meaning.specs.Record.{rule, default}
use Rattle.meaning.specs.Reader.{Reading, unread, unfilled, misplaced, skipping, taken, read_records, read_end, read_rules, read_table}
use Rattle.meaning.specs.WellFormed.{Signed}
use Rattle.meaning.specs.Records.{rule_record, range_records, default_record}
use Rattle.meaning.proofs.Laws.Refusal.{by_then, Says}
use Rattle.meaning.proofs.Laws.Encoding.{read_rule, read_default}
use Rattle.meaning.proofs.Laws.Described.{is_none}
use Rattle.meaning.proofs.Laws.Readable.{holding}
use Rattle.meaning.proofs.Laws.Direct.{table_rules, rules_refused}
use Rattle.expression.specs.Grammar.{Tree}
use Rattle.typed.specs.Grammar.{Head, pattern, otherwise, Line}
use Rattle.typed.specs.Records.{part_of, constant, short, coefficients, within17, lines_within17, output_records, head_records, line_records, records}
use Rattle.typed.specs.Meaning.{rule_of, default_of, group_of, first_of}
use Rattle.typed.proofs.Laws.Bytes.{ProperHead, ProperTree, ProperLine, LinesProper, head_whole, line_whole, records_whole}
use Rattle.typed.proofs.Laws.Taken.{Goes, goes_nowhere, goes_on, goes_so, goes_one, by_table, filled}
use Rattle.typed.proofs.Laws.Grouped.{known, writing, output_of, Fitting, items_lead, outputs_lead}

-- a line's pattern with the output characters of its expressions, and the table of such groups
abbrev pub line_group : Line → Group
line_group l = writing (group_of l) (map output_of l.outputs)

unfoldable pub table_of : List Line → Table
table_of ls = record { rules = map line_group (flat_map rule_of ls); default = first_of (map line_group (flat_map default_of ls)); mark = unmarked }

-- an expression that 17 does not refuse has numbers as wide as the fields of records

signed_32 : (z : ℤ) → mag z < 2147483648 → Signed 32 z
signed_32 (pos x) h = h
signed_32 (negsuc x) h = h

signed_16 : (z : ℤ) → mag z < 32768 → Signed 16 z
signed_16 (pos x) h = h
signed_16 (negsuc x) h = h

tree_fits : (t : Tree) → ProperTree t × T (within17 (part_of t)) → Fitting t
unfolding within17
tree_fits t w =
    record {
      proper = w.0.proper;
      fine = of_T (is_some (part_of t)) (and_left (is_some (part_of t)) _ w.1);
      constant_32 = signed_32 (constant (part_of t)) (w.0.small.each 0);
      coefficients_16 = all_each short (coefficients (part_of t)) (λ z h. signed_16 z (ltb→lt (mag z) 32768 h)) (and_right (is_some (part_of t)) _ w.1);
    }

pub record LineFits (l : Line) : Type 0 where
  pub head : ProperHead l.head
  pub outputs : Each Fitting l.outputs

line_fits : (l : Line) → ProperLine l × T (all (λ t. within17 (part_of t)) l.outputs) → LineFits l
line_fits l w =
    let ts = l.outputs in
    let each-17 = all_each (λ t. within17 (part_of t)) ts (λ t h. h) w.1 in
    record { head = w.0.head; outputs = each_weaken (λ t. ProperTree t × T (within17 (part_of t))) Fitting ts tree_fits (each_both ProperTree (λ t. T (within17 (part_of t))) ts w.0.outputs each-17) }

pub lines_fit : (ls : List Line) → LinesProper ls → lines_within17 ls ≡ true → Each LineFits ls
unfolding lines_within17
lines_fit ls w e =
    let within : Line → Bool = λ l. all (λ t. within17 (part_of t)) l.outputs in
    each_weaken (λ l. ProperLine l × T (within l)) LineFits ls line_fits
    (each_both ProperLine (λ l. T (within l)) ls w (all_each within ls (λ l h. h) (to_T (all within ls) e)))

-- one line

-- a default's mark, which no text has
abbrev mark_in : Head → Option Mark
mark_in (pattern p) = None
mark_in otherwise = Some unmarked

-- where no default was read before, the group is added
abbrev Added : Reading → Head → Group → Reading → Type 0
Added s h g r = (s.table.default ≡ None) × (r.table ≡ holding (mark_in h) s.table.rules g)

head_goes : (h : Head) → ProperHead h → (s : Reading) → T (not (unfilled s)) → Goes s (head_records h) (Added s h (group_of (record { head = h; outputs = [] })))
unfolding head_records misplaced skipping taken
head_goes (pattern p) w s u =
    let k = length p.items in
    let a = p.anchored in
    let begun = Added s (pattern p) (record { size = k; anchored = a; ranges = []; outputs = [] }) in
    let done = Added s (pattern p) (record { size = k; anchored = a; ranges = p.items; outputs = [] }) in
    goes_on begun done s (rule_record k a) (range_records 0 p.items) (1, refl)
    (goes_one begun s (rule_record k a) (rule k a) refl (known _ _ (read_rule k a w.some_item w.few_items)) (λ m. (u, (is_none s.table.default m, refl))))
    (λ r q. goes_so _ done r (range_records 0 p.items) (λ v e. (q.0, e)) (items_lead None s.table.rules k a [] p.items w.items r q.1))
head_goes otherwise w s u =
    goes_one (Added s otherwise (every_character [])) s (default_record unmarked) (default unmarked) refl (known _ _ (read_default unmarked)) (λ m. (u, (is_none s.table.default m, refl)))

head_full : (h : Head) (ts : List Tree) → length (group_of (record { head = h; outputs = ts })).ranges ≡ (group_of (record { head = h; outputs = ts })).size
head_full (pattern p) ts = refl
head_full otherwise ts = refl

pub head_bare : (h : Head) → group_of (record { head = h; outputs = [] }) ≡ writing (group_of (record { head = h; outputs = [] })) []
head_bare (pattern p) = refl
head_bare otherwise = refl

line_goes : (l : Line) → LineFits l → (s : Reading) → T (not (unfilled s)) → Goes s (line_records l) (Added s l.head (line_group l))
unfolding line_records
line_goes l w s u =
    let h = l.head in
    let ts = l.outputs in
    let written = flat_map (λ t. output_records (part_of t)) ts in
    goes_on (Added s h (group_of l)) (Added s h (line_group l)) s (head_records h) written (head_whole h) (head_goes h w.head s u)
    (λ r q. goes_so _ (Added s h (line_group l)) r written (λ v e. (q.0, e))
    (outputs_lead (mark_in h) s.table.rules (group_of l) (head_full h ts) [] ts w.outputs r (q.1 ∙ ap (holding (mark_in h) s.table.rules) (head_bare h))))

line_filled : (l : Line) (s r : Reading) → Added s l.head (line_group l) r → T (not (unfilled r))
line_filled l s r q =
    by_table (λ v. T (not (unfilled v))) (mark_in l.head) s.table.rules (line_group l)
    (filled (mark_in l.head) s.table.rules (line_group l) (head_full l.head l.outputs)) r q.1

-- line after line

-- behind the default there is none
last_goes : (Q : Reading → Type 0) (ls : List Line) → Each LineFits ls → (s : Reading) (g : Group) → s.table.default ≡ Some g → T (not (unfilled s)) → (ls ≡ [] → Q s) → Goes s (records ls) Q
unfolding records
last_goes Q [] w s g e u h = goes_nowhere Q s (h refl)
last_goes Q (l ∷ ls) w s g e u h =
    goes_on (Added s l.head (line_group l)) Q s (line_records l) (records ls) (line_whole l) (line_goes l w.0 s u)
    (λ r q. absurd (let n : None ≡ Some g = sym q.0 ∙ e in let z : ◌≡◌ {A = ℕ} 0 1 = cc in omega arith))

abbrev Done : List Group → List Line → Reading → Type 0
Done gs ls r = (r.table ≡ record { rules = gs ++ (table_of ls).rules; default = (table_of ls).default; mark = (table_of ls).mark }) × T (not (unfilled r))

abbrev LinesGo : List Line → Type 0
LinesGo ls = (gs : List Group) (s : Reading) → s.table ≡ record { rules = gs; default = None; mark = unmarked } → T (not (unfilled s)) → Goes s (records ls) (Done gs ls)

next_goes : (h : Head) (ts : List Tree) (ls : List Line) → LineFits (record { head = h; outputs = ts }) → Each LineFits ls → LinesGo ls → LinesGo (record { head = h; outputs = ts } ∷ ls)
unfolding table_of records
next_goes (pattern p) ts ls w v onward gs s e u =
    let l : Line = record { head = pattern p; outputs = ts } in
    let g = line_group l in
    goes_on (Added s (pattern p) g) (Done gs (l ∷ ls)) s (line_records l) (records ls) (line_whole l) (line_goes l w s u)
    (λ r q.
    goes_so (Done (gs ++ (g ∷ [])) ls) (Done gs (l ∷ ls)) r (records ls)
    (λ x d. (d.0 ∙ ap (λ rs. record { rules = rs; default = (table_of ls).default; mark = (table_of ls).mark }) (append_snoc gs g (table_of ls).rules), d.1))
    (onward (gs ++ (g ∷ [])) r (q.1 ∙ ap (λ t. record { rules = t.rules ++ (g ∷ []); default = None; mark = unmarked }) e) (line_filled l s r q)))
next_goes otherwise ts ls w v onward gs s e u =
    let l : Line = record { head = otherwise; outputs = ts } in
    let g = line_group l in
    goes_on (Added s otherwise g) (Done gs (l ∷ ls)) s (line_records l) (records ls) (line_whole l) (line_goes l w s u)
    (λ r q.
    let table : r.table ≡ record { rules = gs; default = Some g; mark = unmarked } = q.1 ∙ ap (λ t. record { rules = t.rules; default = Some g; mark = unmarked }) e in
    last_goes (Done gs (l ∷ ls)) ls v r g (ap (λ t. t.default) table) (line_filled l s r q)
    (λ n. (table ∙ ap (λ rs. record { rules = rs; default = Some g; mark = unmarked }) (sym (append-nil gs) ∙ ap (λ xs. gs ++ map line_group (flat_map rule_of xs)) (sym n)), line_filled l s r q)))

lines_go : (ls : List Line) → Each LineFits ls → LinesGo ls
unfolding table_of records
lines_go [] w gs s e u = goes_nowhere (Done gs []) s (e ∙ ap (λ rs. record { rules = rs; default = None; mark = unmarked }) (sym (append-nil gs)), u)
lines_go (l ∷ ls) w gs s e u = next_goes l.head l.outputs ls w.0 w.1 (lines_go ls w.1) gs s e u

-- the table

abbrev IsTable : List Line → Table → Type 0
IsTable ls t = t ≡ table_of ls

table_said : (ls : List Line) → LinesProper ls → lines_within17 ls ≡ true → Says (2 ∷ 3 ∷ 6 ∷ 5 ∷ []) (IsTable ls) (read_rules (records ls))
unfolding read_rules read_end unread unfilled
table_said ls w e =
    let b = records ls in
    let rest : length b % 8 ≡ 0 = records_whole ls in
    let whole : length b ≡ 8 * (length b / 8) = omega (arith, div-add-mod (length b) 8) in
    let said = lines_go ls (lines_fit ls w e) [] unread refl tt (length b / 8) whole in
    by_cases (Says (2 ∷ 3 ∷ 6 ∷ 5 ∷ []) (IsTable ls)) _ _ (
      λ u. absurd (T_not (eqb (length b % 8) 0) u (eq→eqb (length b % 8) 0 rest)),
      λ _.
          by_then (Says (2 ∷ 3 ∷ 6 ∷ 5 ∷ []) (IsTable ls)) (read_records (length b / 8) b unread) read_end
          (λ k q. any_more (eqb k) (2 ∷ 3 ∷ 6 ∷ []) (5 ∷ []) (subst (Says (2 ∷ 3 ∷ 6 ∷ []) (Done [] ls)) q said))
          (λ s q.
          let d = subst (Says (2 ∷ 3 ∷ 6 ∷ []) (Done [] ls)) q said in
          by_cases (Says (2 ∷ 3 ∷ 6 ∷ 5 ∷ []) (IsTable ls)) _ (accepted s.table) (λ u. absurd (T_not (unfilled s) d.1 u), λ _. (λ _. tt, λ _. d.0))),
    )

pub accepted_table : (ls : List Line) → LinesProper ls → lines_within17 ls ≡ true → (t : Table) → read_table (records ls) ≡ accepted t → t ≡ table_of ls
accepted_table ls w e t a = subst (Says (2 ∷ 3 ∷ 6 ∷ 5 ∷ []) (IsTable ls)) (table_rules (records ls) t a) (table_said ls w e)

pub never_4 : (ls : List Line) → LinesProper ls → lines_within17 ls ≡ true → read_table (records ls) ≡ refused 4 → ⊥
never_4 ls w e r = subst (Says (2 ∷ 3 ∷ 6 ∷ 5 ∷ []) (IsTable ls)) (rules_refused (records ls) 4 r (omega arith)) (table_said ls w e)
