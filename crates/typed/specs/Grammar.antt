-- Request [4] of document 02, "Rules typed at the station": which text is which list of lines, as a relation, in the request's order of words.
use Rattle.std.specs.Prelude.{Bool, false, cond, ◌||◌, List, [], ◌∷◌, ◌++◌, ◌≡◌, ℕ, ◌≤◌, eqb, length}
use Rattle.lists.specs.Lists.{any}
use Rattle.meaning.specs.Table.{Range}
use Rattle.meaning.specs.Records.{Joined}
use Rattle.expression.specs.Grammar.{Tree, Blanks}
use Rattle.expression.specs.Outputs.{Outputs}

-- "A pattern has 1 to 8 items": the characters that each takes, and whether it is anchored
pub record Pattern : Type 0 where
  pub items : List (List Range)
  pub anchored : Bool

-- what stands before `==>`: a pattern, or "The default's pattern is the bare word `else`"
pub data Head : Type 0 where
  pattern : Pattern → Head
  otherwise : Head

pub record Line : Type 0 where
  pub head : Head
  pub outputs : List Tree

-- one text after another
abbrev pub Several : {A : Type 0} → (List ℕ → A → Type 0) → List ℕ → List A → Type 0
Several R u xs = Joined (λ x v. R v x) xs u

-- "`"`, `\`, `[`, `]` and `$` need it in quotes, and `-` in brackets"
abbrev pub in_quotes : ℕ → Bool
in_quotes c = any (eqb c) (34 ∷ 92 ∷ 91 ∷ 93 ∷ 36 ∷ [])

abbrev pub in_brackets : ℕ → Bool
in_brackets c = eqb c 45 || in_quotes c

-- "A backslash makes the next character plain", where some need it
pub data Plain (special : ℕ → Bool) : List ℕ → ℕ → Type 0 where
  bare : {c : ℕ} → special c ≡ false → Plain special (c ∷ []) c
  escaped : {c : ℕ} → Plain special (92 ∷ (c ∷ [])) c

abbrev pub range : ℕ → ℕ → Range
range a b = record { lowest = a; highest = b }

-- "single characters or ranges"
pub data Element : List ℕ → Range → Type 0 where
  single : {u : List ℕ} {c : ℕ} → Plain in_brackets u c → Element u (range c c)
  ranging : {u v : List ℕ} {a b : ℕ} → Plain in_brackets u a → Plain in_brackets v b → Element (u ++ (45 ∷ v)) (range a b)

-- "each one character (a blank too) or, in square brackets, one or more single characters or ranges, as `[0-9A-F]`"
pub data Item : List ℕ → List Range → Type 0 where
  character : {u : List ℕ} {c : ℕ} → Plain in_quotes u c → Item u (range c c ∷ [])
  bracketed : {u : List ℕ} {r : Range} {rs : List Range} → Several Element u (r ∷ rs) → Item (91 ∷ (u ++ (93 ∷ []))) (r ∷ rs)

-- "a pattern in `"`", of "1 to 8 items"; "`$` after the last item anchors"
pub record PatternText (u : List ℕ) (p : Pattern) : Type 0 where
  pub typed : List ℕ
  pub items : Several Item typed p.items
  pub some_item : 1 ≤ length p.items
  pub few_items : length p.items ≤ 8
  pub whole : u ≡ 34 ∷ (typed ++ (cond p.anchored (36 ∷ []) [] ++ (34 ∷ [])))

-- `else`, `==>` and `;`
abbrev pub else_word : List ℕ
else_word = 101 ∷ 108 ∷ 115 ∷ 101 ∷ []

abbrev pub arrow : List ℕ
arrow = 61 ∷ 61 ∷ 62 ∷ []

abbrev pub semicolon : List ℕ
semicolon = 59 ∷ []

pub data HeadText : List ℕ → Head → Type 0 where
  a_pattern : {b u : List ℕ} {p : Pattern} → Blanks b → PatternText u p → HeadText (b ++ u) (pattern p)
  the_word : {b : List ℕ} → Blanks b → HeadText (b ++ else_word) otherwise

-- "A line is a pattern in `"`, `==>`, output expressions in square brackets with commas between (or none, as `[]`), and a semicolon."
pub data LineText : List ℕ → Line → Type 0 where
  line : {u b v e : List ℕ} {h : Head} {ts : List Tree} → HeadText u h → Blanks b → Outputs v ts → Blanks e →
      LineText (u ++ (b ++ (arrow ++ (v ++ (e ++ semicolon))))) (record { head = h; outputs = ts })

-- "A text is any number of lines"; blanks may follow the last
pub record TypedText (u : List ℕ) (ls : List Line) : Type 0 where
  pub typed : List ℕ
  pub end : List ℕ
  pub lines : Several LineText typed ls
  pub blanks : Blanks end
  pub whole : u ≡ typed ++ end
