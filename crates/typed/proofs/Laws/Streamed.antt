-- Lines fed into a state are their records fed one after another, of eight bytes each, if refusal 17 meets none of their expressions;
-- and whether it does the check says, or it is noted. By recursion on ranges, expressions and lines. Assumes nothing.
use mathlib.Core.Bool.{Bool, true, false, ◌&&◌, cond, and-true, and-false, and_assoc}
use mathlib.Core.List.{List, [], ◌∷◌, ◌++◌, append-nil}
use mathlib.Core.Path.{◌≡◌, refl, sym, ap, ap₂, subst, ◌∙◌}
use Prim.Native.Nat.{ℕ, suc}
use native.Mathlib.Omega.{arith}
use lib.ListN.{length}
use Rattle.lists.specs.Lists.{all, Each, fold_left, flat_map}
use Rattle.lists.proofs.Laws.Tests.{to_T, of_T}
use Rattle.lists.proofs.Laws.Each.{each_append, all_each}
use Rattle.lists.proofs.Laws.Folds.{fold_left_append, flat_map_append}
use Rattle.lists.proofs.Laws.Parts.{flat}
use Rattle.meaning.specs.Refusal.{refused}
use Rattle.meaning.specs.Table.{Range, unmarked}
use Rattle.meaning.specs.Records.{rule_record, range_record, output_record, term_record, range_records, terms, default_record}
use Rattle.expression.specs.Grammar.{Tree}
use Rattle.expression.specs.Parts.{Part}
use Rattle.typed.specs.Grammar.{Head, pattern, otherwise, Line}
use Rattle.typed.specs.Records.{part_of, constant, coefficients, within17, lines_within17, output_records, head_records, line_records, records}
use Rattle.typed.specs.bridge.Stream.{State, feed, beyond17, noted17, feed_terms, feed_part, feed_tree, feed_part_past17, feed_tree_past17, feed_items, feed_head, feed_line, feed_lines, feed_line_past17, feed_lines_past17}
use Rattle.typed.proofs.Laws.Bytes.{each_always, range_long, output_long, term_long}
use Rattle.typed.proofs.Laws.Checked.{Eights, fold_idle, fold_fine}

-- f feeds bytes, as records
pub record Feeds (f : State → State) (bytes : List ℕ) : Type 0 where
  pub chunks : List (List ℕ)
  pub eights : Eights chunks
  pub joined : flat chunks ≡ bytes
  pub fed : (s : State) → f s ≡ fold_left feed chunks s

feeds_none : Feeds (λ s. s) []
feeds_none = record { chunks = []; eights = tt; joined = refl; fed = λ s. refl }

feeds_one : (c : List ℕ) → length c ≡ 8 → Feeds (feed c) c
feeds_one c h = record { chunks = c ∷ []; eights = (h, tt); joined = append-nil c; fed = λ s. refl }

feeds_then : {f g : State → State} {b c : List ℕ} → Feeds f b → Feeds g c → Feeds (λ s. g (f s)) (b ++ c)
feeds_then {g = g} x y =
    record {
      chunks = x.chunks ++ y.chunks;
      eights = each_append (λ c. length c ≡ 8) x.chunks y.chunks x.eights y.eights;
      joined = flat_map_append (λ p. p) x.chunks y.chunks ∙ ap₂ (λ p q. p ++ q) x.joined y.joined;
      fed = λ s. ap g (x.fed s) ∙ y.fed (fold_left feed x.chunks s) ∙ sym (fold_left_append feed x.chunks y.chunks s);
    }

feeds_each : {A : Type 0} (f : A → State → State) (b : A → List ℕ) (xs : List A) → Each (λ x. Feeds (f x) (b x)) xs → Feeds (fold_left f xs) (flat_map b xs)
feeds_each f b [] h = feeds_none
feeds_each f b (x ∷ xs) h = feeds_then h.0 (feeds_each f b xs h.1)

feeds_every : {A : Type 0} (f : A → State → State) (b : A → List ℕ) → ((x : A) → Feeds (f x) (b x)) → (xs : List A) → Feeds (fold_left f xs) (flat_map b xs)
feeds_every f b h xs = feeds_each f b xs (each_always h xs)

feeds_keep : {f : State → State} {b : List ℕ} → Feeds f b → (s : State) → (f s).fine ≡ s.fine
feeds_keep x s = ap (λ t. t.fine) (x.fed s) ∙ fold_fine x.chunks s

-- a check that 17 has ended stays ended
abbrev Stays : (State → State) → Type 0
Stays f = (s : State) → s.check ≡ refused 17 → (f s).check ≡ refused 17

feeds_stay : {f : State → State} {b : List ℕ} → Feeds f b → Stays f
feeds_stay x s e = ap (λ t. t.check) (x.fed s ∙ fold_idle x.chunks s 17 e) ∙ e

-- what stands before `==>`

items_feed : (p : ℕ) (ps : List (List Range)) → Feeds (feed_items p ps) (range_records p ps)
items_feed p [] = feeds_none
items_feed p (rs ∷ ps) = feeds_then (feeds_every (λ r. feed (range_record p r)) (range_record p) (λ r. feeds_one (range_record p r) (range_long p r)) rs) (items_feed (suc p) ps)

head_feeds : (h : Head) → Feeds (feed_head h) (head_records h)
unfolding head_records
head_feeds (pattern q) = feeds_then (feeds_one (rule_record (length q.items) q.anchored) refl) (items_feed 0 q.items)
head_feeds otherwise = feeds_one (default_record unmarked) refl

-- expressions

abbrev within : Part → State → State
within p s = feed_terms 0 (coefficients p) (feed (output_record (constant p)) s)

within_feeds : (p : Part) → Feeds (within p) (output_records p)
unfolding output_records
within_feeds p =
    feeds_then (feeds_one (output_record (constant p)) (output_long (constant p)))
    (feeds_every (λ x. feed (term_record x)) term_record (λ x. feeds_one (term_record x) (term_long x)) (terms 0 (coefficients p)))

tree_feeds : (t : Tree) → within17 (part_of t) ≡ true → Feeds (feed_tree t) (output_records (part_of t))
unfolding feed_part
tree_feeds t e = subst (λ b. Feeds (λ s. cond b (within (part_of t) s) (beyond17 s)) (output_records (part_of t))) (sym e) (within_feeds (part_of t))

tree_feeds_past17 : (t : Tree) → within17 (part_of t) ≡ true → Feeds (feed_tree_past17 t) (output_records (part_of t))
unfolding feed_part_past17
tree_feeds_past17 t e = subst (λ b. Feeds (λ s. cond b (within (part_of t) s) (noted17 s)) (output_records (part_of t))) (sym e) (within_feeds (part_of t))

tree_meets : (t : Tree) (s : State) → within17 (part_of t) ≡ false → (feed_tree t s).check ≡ refused 17
unfolding feed_part
tree_meets t s e = rw e

tree_stays : (t : Tree) → Stays (feed_tree t)
unfolding feed_part
tree_stays t s e = by (within17 (part_of t))
  where
    by : (b : Bool) → (cond b (within (part_of t) s) (beyond17 s)).check ≡ refused 17
    by true = feeds_stay (within_feeds (part_of t)) s e
    by false = refl

tree_notes : (t : Tree) (s : State) → (feed_tree_past17 t s).fine ≡ s.fine && within17 (part_of t)
unfolding feed_part_past17
tree_notes t s = by (within17 (part_of t))
  where
    by : (b : Bool) → (cond b (within (part_of t) s) (noted17 s)).fine ≡ s.fine && b
    by true = feeds_keep (within_feeds (part_of t)) s ∙ sym (and-true s.fine)
    by false = sym (and-false s.fine)

-- the expressions of a line, and lines

feeds_all : {A : Type 0} (f : A → State → State) (b : A → List ℕ) (test : A → Bool) → ((x : A) → test x ≡ true → Feeds (f x) (b x)) →
    (xs : List A) → all test xs ≡ true → Feeds (fold_left f xs) (flat_map b xs)
feeds_all f b test h xs e = feeds_each f b xs (all_each test xs (λ x t. h x (of_T (test x) t)) (to_T (all test xs) e))

abbrev line_within : Line → Bool
line_within l = all (λ t. within17 (part_of t)) l.outputs

module _ (each : Tree → State → State) (tree : (t : Tree) → within17 (part_of t) ≡ true → Feeds (each t) (output_records (part_of t))) where
  line_fed : (l : Line) → line_within l ≡ true → Feeds (λ s. fold_left each l.outputs (feed_head l.head s)) (line_records l)
  unfolding line_records
  line_fed l e = feeds_then (head_feeds l.head) (feeds_all each (λ t. output_records (part_of t)) (λ t. within17 (part_of t)) tree l.outputs e)

  lines_fed : (ls : List Line) → lines_within17 ls ≡ true → Feeds (fold_left (λ (l : Line) (s : State). fold_left each l.outputs (feed_head l.head s)) ls) (records ls)
  unfolding lines_within17 records
  lines_fed ls e = feeds_all (λ (l : Line) (s : State). fold_left each l.outputs (feed_head l.head s)) line_records line_within line_fed ls e

pub lines_feed : (ls : List Line) → lines_within17 ls ≡ true → Feeds (feed_lines ls) (records ls)
lines_feed ls e = lines_fed feed_tree tree_feeds ls e

pub lines_feed_past17 : (ls : List Line) → lines_within17 ls ≡ true → Feeds (feed_lines_past17 ls) (records ls)
lines_feed_past17 ls e = lines_fed feed_tree_past17 tree_feeds_past17 ls e

-- where 17 meets an expression and ends the check, the check says so

module _ {A : Type 0} (f : A → State → State) (stay : (x : A) → Stays (f x)) where
  all_stay : (xs : List A) → Stays (fold_left f xs)
  all_stay [] s e = e
  all_stay (x ∷ xs) s e = all_stay xs (f x s) (stay x s e)

  -- one that fails a test meets it
  one_meets : (test : A → Bool) → ((x : A) (s : State) → test x ≡ false → (f x s).check ≡ refused 17) → (xs : List A) (s : State) → all test xs ≡ false →
      (fold_left f xs s).check ≡ refused 17
  one_meets test meet [] s e = let z : ◌≡◌ {A = ℕ} 1 0 = ap (λ b. cond b 1 0) e in absurd (omega arith)
  one_meets test meet (x ∷ xs) s e = by (test x) refl (λ h. one_meets test meet xs (f x s) (sym (ap (λ b. b && all test xs) h) ∙ e))
    where
      by : (b : Bool) → test x ≡ b → (test x ≡ true → (fold_left f xs (f x s)).check ≡ refused 17) → (fold_left f xs (f x s)).check ≡ refused 17
      by true h more = more h
      by false h more = all_stay xs (f x s) (meet x s h)

line_stays : (l : Line) → Stays (feed_line l)
line_stays l s e = all_stay feed_tree tree_stays l.outputs (feed_head l.head s) (feeds_stay (head_feeds l.head) s e)

line_meets : (l : Line) (s : State) → line_within l ≡ false → (feed_line l s).check ≡ refused 17
line_meets l s e = one_meets feed_tree tree_stays (λ t. within17 (part_of t)) tree_meets l.outputs (feed_head l.head s) e

pub lines_meet : (ls : List Line) (s : State) → lines_within17 ls ≡ false → (feed_lines ls s).check ≡ refused 17
unfolding lines_within17
lines_meet ls s e = one_meets feed_line line_stays line_within line_meets ls s e

-- where it is noted, and the check goes on

notes_all : {A : Type 0} (f : A → State → State) (test : A → Bool) → ((x : A) (s : State) → (f x s).fine ≡ s.fine && test x) →
    (xs : List A) (s : State) → (fold_left f xs s).fine ≡ s.fine && all test xs
notes_all f test h [] s = sym (and-true s.fine)
notes_all f test h (x ∷ xs) s =
    notes_all f test h xs (f x s) ∙ ap (λ b. b && all test xs) (h x s) ∙ and_assoc s.fine (test x) (all test xs)

line_notes : (l : Line) (s : State) → (feed_line_past17 l s).fine ≡ s.fine && line_within l
line_notes l s =
    notes_all feed_tree_past17 (λ t. within17 (part_of t)) tree_notes l.outputs (feed_head l.head s)
    ∙ ap (λ b. b && line_within l) (feeds_keep (head_feeds l.head) s)

pub lines_note : (ls : List Line) (s : State) → (feed_lines_past17 ls s).fine ≡ s.fine && lines_within17 ls
unfolding lines_within17
lines_note ls s = notes_all feed_line_past17 line_within line_notes ls s
