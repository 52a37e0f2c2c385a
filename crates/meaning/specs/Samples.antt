-- "Examples": the tables T1, T2 and T3 as bytes, two of request [1], and one of request [8].
use mathlib.Core.List as Core
use Rattle.std.specs.Prelude.{List, ◌++◌, ℕ, ◌-◌, ◌/◌, ◌%◌, ◌^◌}
use Prim.Native.Char.{Char, code}
use Prim.Native.String.{String, [], ◌∷◌}

-- a quoted text's characters
unfoldable pub characters : String → List ℕ
characters [] = Core.[]
characters (c ∷ s) = Core.◌∷◌ (code c) (characters s)

-- a record: bytes 0 to 3, then the numbers of bytes 4-5 and 6-7
abbrev pub entry : ℕ → ℕ → ℕ → ℕ → ℕ → List ℕ
entry kind b c lo hi =
    Core.◌∷◌ kind (Core.◌∷◌ b (Core.◌∷◌ c (Core.◌∷◌ 0 (Core.◌∷◌ (lo % 256) (Core.◌∷◌ (lo / 256) (Core.◌∷◌ (hi % 256) (Core.◌∷◌ (hi / 256) Core.[])))))))

-- a rule with K and anchored 0 or 1; a range, by its characters' numbers, of one character only; an output character of a constant, of a
-- character; a term; a hexadecimal digit
abbrev pub rule : ℕ → ℕ → List ℕ
rule k a = entry 1 k a 0 0

abbrev pub span : ℕ → ℕ → ℕ → List ℕ
span p lowest highest = entry 2 p 0 lowest highest

abbrev range : ℕ → Char → Char → List ℕ
range p a b = span p (code a) (code b)

abbrev only : ℕ → Char → List ℕ
only p c = range p c c

abbrev pub out : ℕ → List ℕ
out c = entry 3 0 0 (c % 65536) (c / 65536)

abbrev says : Char → List ℕ
says c = out (code c)

abbrev term : ℕ → ℕ → List ℕ
term p a = entry 4 p 0 a 0

abbrev digit : ℕ → ℕ → List ℕ
digit p shift = entry 6 p shift 0 0

-- a default that writes c + a x0
unfoldable pub default_of : ℕ → ℕ → List ℕ
default_of c a = entry 5 0 0 0 0 ++ out c ++ term 0 a

-- the same with the mark of request [8]
unfoldable pub marked_of : ℕ → ℕ → List ℕ
marked_of c a = entry 5 1 0 0 0 ++ out c ++ term 0 a

-- T1, with the constant -m and the terms of its only sum
abbrev t1_sum : ℕ → List ℕ → List ℕ
t1_sum m terms =
    rule 5 0 ++ only 0 "&" ++ only 1 "#" ++ only 2 "0" ++ only 3 "0" ++ only 4 ";"
    ++ says "&" ++ says "#" ++ says "0" ++ says "0" ++ says ";"
    ++ rule 5 0 ++ only 0 "&" ++ only 1 "#" ++ range 2 "0" "9" ++ range 3 "0" "9" ++ only 4 ";"
    ++ out (2 ^ 32 - m) ++ terms
    ++ rule 2 1 ++ only 0 "&" ++ only 1 "#" ++ says "&" ++ says "#"
    ++ default_of 0 1

-- with -m for its -528
unfoldable pub t1_with : ℕ → List ℕ
t1_with m = t1_sum m (term 2 10 ++ term 3 1)

unfoldable pub t1 : List ℕ
t1 = t1_with 528

-- request [7]: T1 with its terms turned round, and with a position twice
unfoldable pub t1_turned : List ℕ
t1_turned = t1_sum 528 (term 3 1 ++ term 2 10)

unfoldable pub t1_twice : List ℕ
t1_twice = t1_sum 528 (term 2 10 ++ term 3 1 ++ term 2 10)

unfoldable pub t2 : List ℕ
t2 = rule 1 1 ++ only 0 "a" ++ says "X" ++ rule 1 0 ++ only 0 "a" ++ says "Y"

-- T3, with another default
unfoldable pub t3_with : List ℕ → List ℕ
t3_with d =
    rule 2 0 ++ only 0 "a" ++ only 1 "b" ++ says "1"
    ++ rule 3 0 ++ only 0 "a" ++ only 1 "b" ++ only 2 "a" ++ says "2"
    ++ d

unfoldable pub t3 : List ℕ
t3 = t3_with (default_of 0 1)

-- request [1]: "every byte as two digits", and every character as four
unfoldable pub two_digits : List ℕ
two_digits = rule 1 0 ++ span 0 0 255 ++ digit 0 4 ++ digit 0 0

unfoldable pub four_digits : List ℕ
four_digits = rule 1 0 ++ span 0 0 65535 ++ digit 0 12 ++ digit 0 8 ++ digit 0 4 ++ digit 0 0

-- request [8]: T3 with the mark
unfoldable pub t3_marked : List ℕ
t3_marked = t3_with (marked_of 0 1)
