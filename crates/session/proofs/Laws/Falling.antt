-- What a roll-back leads to under the mark, by the text's places; and what is known of the mode where it takes.
-- By cases on the mode and on the characters that are left.
use mathlib.Core.Bool.{Bool, true, false, ◌&&◌, not}
use mathlib.Core.List.{List, [], ◌∷◌}
use mathlib.Core.Logic.{◌≢◌}
use mathlib.Core.Path.{◌≡◌, refl, sym, ap, subst, ◌∙◌}
use Prim.Native.Nat.{ℕ, suc, ◌+◌, ◌≤◌, ◌<◌}
use native.Mathlib.Omega.{arith}
use lib.Dec.{T, eqb}
use lib.ListN.{length, get_or, take, drop, drop_of_length-le, length-drop}
use lib.Seq.{drop-cons}
use Rattle.meaning.specs.Table.{Mode, Absent, Single, Paired, is_first, is_second, least, default_number, pair_number}
use Rattle.meaning.specs.Block.{at}
use Rattle.automaton.specs.Sound.{expansion_word, word_mode, mode_at, sound}
use Rattle.automaton.specs.Automaton.{Automaton}
use Rattle.automaton.proofs.Laws.Words.{sound_header_lem}
use Rattle.reckoning.specs.Machine.{nowhere, taking, fall_one, fall_two, fall}
use Rattle.reckoning.specs.Session.{is_paired, is_left}

module _ (u : List ℕ) (p : ℕ) (ended : Bool) where
  pub two_fall : p + 2 ≤ length u → fall Paired ended (drop p u) ≡ fall_two (is_first (get_or u p 0) && is_second (get_or u (p + 1) 0))
  two_fall h =
      let e : suc p ≡ p + 1 = omega arith in
      ap (fall Paired ended)
      (drop-cons u p 0 (omega arith) ∙ ap (λ k. get_or u p 0 ∷ drop k u) e ∙ ap (λ l. get_or u p 0 ∷ l) (drop-cons u (p + 1) 0 (omega arith)))

  pub one_fall : p < length u → length u ≤ p + 1 → fall Paired ended (drop p u) ≡ fall_one (not ended && is_first (get_or u p 0))
  one_fall h k =
      let l : length u ≤ suc p = omega arith in
      ap (fall Paired ended) (drop-cons u p 0 h ∙ ap (λ l. get_or u p 0 ∷ l) (drop_of_length-le u l))

-- a unit that is no first unit is taken alone
pub alone_fall : (ended : Bool) (u : List ℕ) → is_first (get_or u 0 0) ≡ false → fall Paired ended u ≡ taking default_number 1
alone_fall ended [] e = refl
alone_fall true (x ∷ []) e = refl
alone_fall false (x ∷ []) e = ap fall_one e
alone_fall ended (x ∷ (y ∷ u)) e = ap (λ b. fall_two (b && is_second y)) e

-- a pair is taken only under the mark, and is there
pair_marked : (m : Mode) (ended : Bool) (u : List ℕ) → fall m ended u ≡ taking pair_number 2 → (m ≡ Paired) × (2 ≤ length u)
pair_marked Absent ended u e = let z : ◌≡◌ {A = ℕ} 0 1 = cc in absurd (omega arith)
pair_marked Single ended u e = let z : ◌≡◌ {A = ℕ} 1 2 = cc in absurd (omega arith)
pair_marked Paired ended [] e = let z : ◌≡◌ {A = ℕ} 1 2 = cc in absurd (omega arith)
pair_marked Paired ended (x ∷ []) e = one (not ended && is_first x) e
  where
    one : (b : Bool) → fall_one b ≡ taking pair_number 2 → (Paired ≡ Paired) × (2 ≤ 1)
    one true e = let z : ◌≡◌ {A = ℕ} 0 1 = cc in absurd (omega arith)
    one false e = let z : ◌≡◌ {A = ℕ} 1 2 = cc in absurd (omega arith)
pair_marked Paired ended (x ∷ (y ∷ u)) e = (refl, omega arith)

pub pair_room : (w u : List ℕ) (p : ℕ) (ended : Bool) → T (sound w) → p < length u → fall (mode_at w) ended (drop p u) ≡ taking pair_number 2 →
    (p + 2 ≤ length u) × (1 ≤ expansion_word w)
pair_room w u p ended W h e =
    let k = pair_marked (mode_at w) ended (drop p u) e in
    let j : 1 ≤ expansion_word w = subst (λ m. least m ≤ expansion_word w) k.0 (sound_header_lem w W).at_least in
    (omega (arith, k.1, length-drop p u), j)

-- something is taken only where there is a default
pub default_there : (w u : List ℕ) (ended : Bool) (g k : ℕ) → fall (mode_at w) ended u ≡ taking g k → at w 5 ≢ 0
default_there w u ended g k e z = none (sym (ap (λ n. fall (word_mode n) ended u) z) ∙ e)
  where
    none : nowhere ≡ taking g k → ⊥
    none p = let z : ◌≡◌ {A = ℕ} 0 1 = cc in omega arith

-- a unit that is left, of the characters held

pub left_one : (A : Automaton) (q : ℕ) (held : List ℕ) → 1 ≤ length held →
    is_left A q (take 1 held) ≡ eqb q 0 && (is_paired A.default && (is_first (get_or held 0 0) && eqb (A.target 0 (get_or held 0 0)) 0))
left_one A q [] h = absurd (omega arith)
left_one A q (x ∷ held) h = refl

pub left_other : (A : Automaton) (q : ℕ) (h : List ℕ) → length h ≢ 1 → is_left A q h ≡ false
left_other A q [] d = refl
left_other A q (x ∷ []) d = absurd (d refl)
left_other A q (x ∷ (y ∷ h)) d = refl
