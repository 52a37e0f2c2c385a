-- Request [3] of document 02, "Class starts without the side list": each start put in its place among the machine words as it is met, and what
-- the words hold after each range.
use Rattle.std.specs.Prelude.{cond, ◌⊎◌, ◌↔◌, ◌≡◌, ℕ, min, ◌+◌, ◌≤◌, ◌<◌, ltb, length, take, drop}
use mathlib.Core.List.{List, [], ◌∷◌, ◌++◌, Memᴰ}
use Rattle.lists.specs.Lists.{Each, fold_left, flat_map, pad}
use Rattle.meaning.specs.Table.{Range, Table}
use Rattle.automaton.specs.Classes.{insert, edges, starts}
use Rattle.automaton.specs.Layout.{classes_from, states_from, word_count}

-- the ranges of a pattern, position by position
abbrev pub pattern_ranges : List (List Range) → List Range
pattern_ranges positions = flat_map (λ rs. rs) positions

-- the ranges of a table in the order in which the compiler meets them: rule by rule, as their records stand
abbrev pub ranges_of : Table → List Range
ranges_of t = flat_map (λ g. pattern_ranges g.ranges) t.rules

-- The machine words while starts are put into them, and how many they hold from word 6 on; 65 stands for more than 64.
pub record Gathering : Type 0 where
  pub words : List ℕ
  pub count : ℕ

abbrev pub holding : List ℕ → ℕ → Gathering
holding w n = record { words = w; count = n }

-- the words with other starts from word 6 on
abbrev pub with_starts : List ℕ → List ℕ → List ℕ
with_starts ss w = take classes_from w ++ (ss ++ drop (classes_from + length ss) w)

-- "each is put in its place there as it is met": among the starts that the words hold, where it is not one of them; a 65th has no place
unfoldable pub meet : ℕ → Gathering → Gathering
meet x g =
    let ss = insert x (take g.count (drop classes_from g.words)) in
    cond (ltb 64 (length ss)) (holding g.words 65) (holding (with_starts ss g.words) (length ss))

-- a range met: its lowest, then its highest + 1 up to 65535
abbrev pub meet_range : Range → Gathering → Gathering
meet_range r g = fold_left meet (edges r) g

-- ranges met one after another
abbrev pub meet_ranges : List Range → Gathering → Gathering
meet_ranges rs g = fold_left meet_range rs g

-- each number is above all before it
abbrev pub Rising : List ℕ → Type 0
Rising [] = Unit {0}
Rising (y ∷ l) = Each (λ z. y < z) l × Rising l

-- a range's lowest, or its highest + 1 up to 65535
abbrev pub IsEdge : Range → ℕ → Type 0
IsEdge r x = (x ≡ r.lowest) ⊎ ((x ≡ r.highest + 1) × (x ≤ 65535))

-- 0, or an edge of one of the ranges
abbrev pub IsStart : List Range → ℕ → Type 0
IsStart rs x = (x ≡ 0) ⊎ ((r : Range) × Memᴰ r rs × IsEdge r x)

-- "0 and the starts met so far, rising and without repeats": these numbers and no others, after the ranges rs
pub record StartsMet (rs : List Range) (ss : List ℕ) : Type 0 where
  pub members : (x : ℕ) → Memᴰ x ss ↔ IsStart rs x
  pub rising : Rising ss

-- "until a 65th start, the words from 6 are" these, "with zeros behind", up to word 69; the count says how many they are, or that there was a 65th
pub record InPlace (rs : List Range) (g : Gathering) : Type 0 where
  pub starts : List ℕ
  pub met : StartsMet rs starts
  pub words : length starts ≤ 64 → take 64 (drop classes_from g.words) ≡ pad 64 starts
  pub count : g.count ≡ min 65 (length starts)

-- no word but those from 6 to 69 is another
pub record SameElsewhere (before after : List ℕ) : Type 0 where
  pub front : take classes_from after ≡ take classes_from before
  pub back : drop states_from after ≡ drop states_from before
  pub size : length after ≡ length before

-- words as compiling has them before the first range: long enough, and 0 from word 6 to word 69
pub record Cleared (w : List ℕ) : Type 0 where
  pub room : word_count ≤ length w
  pub zeros : take 64 (drop classes_from w) ≡ pad 64 []

pub record StartsInPlace : Type 0 where
  -- "after each range met, until a 65th start, the words from 6 are 0 and the starts met so far, rising and without repeats, with zeros behind":
  -- after the first r ranges of a table, for every r
  pub after_each : (t : Table) (w : List ℕ) → Cleared w → (r : ℕ) → InPlace (take r (ranges_of t)) (meet_ranges (take r (ranges_of t)) (holding w 1))
  -- these words are on the way to those after all ranges, which the contract of the loop names: the others are met from there
  pub on_the_way : (rs : List Range) (r : ℕ) (g : Gathering) → meet_ranges rs g ≡ meet_ranges (drop r rs) (meet_ranges (take r rs) g)
  -- one range more, whatever was met before and whatever the words
  pub one_more : (rs : List Range) (r : Range) (g : Gathering) → word_count ≤ length g.words → InPlace rs g → InPlace (rs ++ r ∷ []) (meet_range r g)
  -- "no list of them shall stand beside": nor elsewhere among the words
  pub nowhere_else : (rs : List Range) (g : Gathering) → word_count ≤ length g.words → SameElsewhere g.words (meet_ranges rs g).words
  -- the ranges met leave no choice of the starts, and "compiled words ... stay the same": after the last range the starts are those of compiling
  pub no_choice : (rs : List Range) (a b : List ℕ) → StartsMet rs a → StartsMet rs b → a ≡ b
  pub compiled : (t : Table) → StartsMet (ranges_of t) (starts t)
