-- Typed text read to its lines, or refused by 16: the lines that the grammar gives the text (`lines_sound`, `lines_complete`).
use Rattle.std.specs.Prelude.{Bool, cond, ◌||◌, List, [], ◌∷◌, ℕ, zero, suc, eqb, length}
use Rattle.lists.specs.Lists.{is_empty}
use Rattle.meaning.specs.Table.{Range}
use Rattle.expression.specs.Grammar.{Tree}
use Rattle.expression.specs.bridge.Text.{Read, refused, got, map_read, skip, first, behind, expression_of, bracketed}
use Rattle.typed.specs.Grammar.{Pattern, Head, pattern, otherwise, Line, in_quotes, in_brackets, range, else_word, arrow, semicolon}

-- a refusal stays, and what was read goes on
unfoldable pub then_read : {A B : Type 0} → Read A → (A → List ℕ → Read B) → Read B
then_read refused f = refused
then_read (got a t) f = f a t

-- one after another, fewer than n, until the rest begins with what ends them
unfoldable pub several : {A : Type 0} → (List ℕ → Read A) → (List ℕ → Bool) → ℕ → List ℕ → Read (List A)
several item stop zero t = refused
several item stop (suc n) t =
    let more = then_read (item t) (λ a r. map_read (λ rest. a ∷ rest) (several item stop n r)) in
    cond (stop t) (got [] t) more

-- any number of them: each has a character
unfoldable pub any_number : {A : Type 0} → (List ℕ → Read A) → (List ℕ → Bool) → List ℕ → Read (List A)
any_number item stop t = several item stop (suc (length t)) t

-- the next character, whatever it is
unfoldable pub any_character : List ℕ → Read ℕ
any_character [] = refused
any_character (c ∷ t) = got c t

-- a character that is not special, or any behind a backslash
unfoldable pub plain : (ℕ → Bool) → List ℕ → Read ℕ
plain special [] = refused
plain special (c ∷ t) = cond (eqb c 92) (any_character t) (cond (special c) refused (got c t))

unfoldable pub element : List ℕ → Read Range
element t =
    then_read (plain in_brackets t) (λ a r. cond (eqb (first r) 45) (map_read (range a) (plain in_brackets (behind r))) (got (range a a) r))

abbrev pub ends_bracket : List ℕ → Bool
ends_bracket t = eqb (first t) 93

-- what stands behind the opening bracket
unfoldable pub elements : List ℕ → Read (List Range)
elements t =
    let some = then_read (any_number element ends_bracket t) (λ rs r. got rs (behind r)) in
    cond (ends_bracket t) refused some

abbrev pub alone : ℕ → List Range
alone c = range c c ∷ []

unfoldable pub item : List ℕ → Read (List Range)
item t = cond (eqb (first t) 91) (elements (behind t)) (map_read alone (plain in_quotes t))

abbrev pub ends_items : List ℕ → Bool
ends_items t = eqb (first t) 34 || eqb (first t) 36

-- the end of a pattern behind its items
unfoldable pub closing : List (List Range) → List ℕ → Read Pattern
closing items t =
    let anchored = eqb (first t) 36 in
    let end = cond anchored (behind t) t in
    cond (is_empty items) refused (cond (eqb (first end) 34) (got (record { items = items; anchored = anchored }) (behind end)) refused)

-- what stands behind the opening quotation mark: fewer than 9 items
unfoldable pub pattern_of : List ℕ → Read Pattern
pattern_of t = then_read (several item ends_items 9 t) closing

-- the characters of a word, at once
unfoldable pub letters : List ℕ → List ℕ → Read (Unit {0})
letters [] t = got tt t
letters (c ∷ w) t = cond (eqb (first t) c) (letters w (behind t)) refused

-- a word as the next symbol
unfoldable pub symbol : List ℕ → List ℕ → Read (Unit {0})
symbol w t = letters w (skip t)

unfoldable pub head_of : List ℕ → Read Head
head_of t =
    cond (eqb (first (skip t)) 34) (map_read pattern (pattern_of (behind (skip t)))) (map_read (λ _. otherwise) (symbol else_word t))

-- the outputs behind `==>`, and the semicolon
unfoldable pub right_of : List ℕ → Read (List Tree)
right_of t = then_read (symbol arrow t) (λ _ r. then_read (bracketed expression_of r) (λ ts r. then_read (symbol semicolon r) (λ _ r. got ts r)))

unfoldable pub line_of : List ℕ → Read Line
line_of t = then_read (head_of t) (λ h r. map_read (λ ts. record { head = h; outputs = ts }) (right_of r))

-- nothing but blanks is left
abbrev pub ends_text : List ℕ → Bool
ends_text t = is_empty (skip t)

unfoldable pub lines_of : List ℕ → Read (List Line)
lines_of t = any_number line_of ends_text t
