-- A text is at most E times as long as its input.
-- Each choice is made at a character of its own, and no group writes more than E characters; a pair has two characters of its own, and E is
-- at least 1 where one is chosen.
use mathlib.Core.List.{List, [], ◌∷◌}
use Rattle.std.specs.Prelude.{Option, None, Some}
use mathlib.Core.Path.{◌≡◌, refl, ap, subst, ◌∙◌}
use Prim.Native.Nat.{ℕ, zero, suc, pred, ◌+◌, ◌-◌, ◌*◌, ◌≤◌}
use native.Mathlib.Nat.{mul-suc, mul-le-mul_left}
use native.Mathlib.Omega.{arith}
use lib.ListN.{length, take, length-append}
use Rattle.meaning.specs.Table.{Table, least, pair_group, group, expansion}
use Rattle.meaning.specs.Meaning.{choose, written, text_of, convert_by, convert_from, convert, meaning_text}
use Rattle.meaning.proofs.Laws.Shape.{Shaped}
use Rattle.meaning.proofs.Laws.Groups.{group_short, group_pair, least_le, written_length}
use Rattle.meaning.proofs.Laws.Choice.{Numbered, plain, paired, choose_number, pair_there}

-- what the groups of a table write
abbrev pub writes : Table → ℕ → List ℕ → List ℕ
writes t n w = written (group t n) w

-- E times what is left past the first k of n characters
less : (E n k : ℕ) → E * (n - k) ≤ E * n
less E n k = mul-le-mul_left E (omega arith)

text_from : (t : Table) → Shaped t → (skip : ℕ) (rest : List ℕ) →
    length (text_of (writes t) (convert_from t skip rest).log) ≤ expansion t * (length rest - skip)
unfolding convert_from text_of
text_from t s skip [] = omega arith
text_from t s (suc skip) (c ∷ rest) =
    subst (λ m. length (text_of (writes t) (convert_from t skip rest).log) ≤ expansion t * m) (omega arith) (text_from t s skip rest)
text_from t s zero (c ∷ rest) =
    let z : suc (length rest) - 0 ≡ suc (length rest) = omega arith in
    rw z (go (choose t (c ∷ rest)) refl (λ skip. text_from t s skip rest))
  where
    by : (n : ℕ) → Numbered t (c ∷ rest) n → ((skip : ℕ) → length (text_of (writes t) (convert_from t skip rest).log) ≤ expansion t * (length rest - skip)) →
        length (text_of (writes t) (convert_by t (Some n) (c ∷ rest) (λ skip. convert_from t skip rest)).log) ≤ expansion t * suc (length rest)
    by n (plain l) h =
        let E = expansion t in
        let k = (group t n).size in
        let w = take k (c ∷ rest) in
        let onward = text_of (writes t) (convert_from t (pred k) rest).log in
        omega (arith, length-append (writes t n w) onward, written_length (group t n) w, group_short t n (omega arith), h (pred k), less E (length rest) (pred k), mul-suc E (length rest))
    by n (paired e m f) h =
        let E = expansion t in
        let k = (group t n).size in
        let w = take k (c ∷ rest) in
        let is : group t n ≡ pair_group = ap (group t) e ∙ group_pair t in
        let onward = text_of (writes t) (convert_from t (pred k) rest).log in
        let two : k ≡ 2 = ap (λ g. g.size) is in
        let outs : length (group t n).outputs ≡ 2 = ap (λ g. length g.outputs) is in
        let i : length onward ≤ E * (length rest - 1) = subst (λ j. length onward ≤ E * (length rest - j)) (ap pred two) (h (pred k)) in
        let j : 1 ≤ E = subst (λ m. least m ≤ E) m (least_le t) in
        let room : 2 ≤ suc (length rest) = pair_there (c ∷ rest) f in
        let here : length rest ≡ length rest - 1 + 1 = omega arith in
        omega (arith, length-append (writes t n w) onward, written_length (group t n) w, ap (λ z. E * (z + 1)) here)

    go : (o : Option ℕ) → choose t (c ∷ rest) ≡ o → ((skip : ℕ) → length (text_of (writes t) (convert_from t skip rest).log) ≤ expansion t * (length rest - skip)) →
        length (text_of (writes t) (convert_by t o (c ∷ rest) (λ skip. convert_from t skip rest)).log) ≤ expansion t * suc (length rest)
    go None p h = omega arith
    go (Some n) p h = by n (choose_number t s (c ∷ rest) n p) h

pub text_short : (t : Table) → Shaped t → (input : List ℕ) → length (meaning_text t input) ≤ expansion t * length input
unfolding convert
text_short t s input = subst (λ n. length (meaning_text t input) ≤ expansion t * n) (omega arith) (text_from t s 0 input)
