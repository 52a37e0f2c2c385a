-- A block's entries: the sound ones said in numbers, those of a table's output characters, and what a digit's writes.
-- The test is taken apart into its clauses; the words of an entry are read at their places.
use mathlib.Core.List.{List, [], map}
use mathlib.Core.Path.{◌≡◌, refl, sym, ap, subst, ◌∙◌}
use Prim.Native.Nat.{ℕ, suc, ◌+◌, ◌-◌, ◌*◌, ◌%◌, ◌≤◌, ◌<◌}
use native.Mathlib.Decide.{ℕ_discrete}
use native.Mathlib.Nat.{add-zero}
use native.Mathlib.Omega.{arith}
use lib.Dec.{T, eqb, le→leb, leb→le, eqb→eq, lit<}
use lib.IntN.{pos}
use lib.ListN.{length, get_or, take, drop, length-take, get_or-map}
use lib.Seq.{get_or-take, get_or-drop}
use Rattle.lists.specs.Lists.{Each}
use Rattle.lists.proofs.Laws.Tests.{implied, to_implies, holds, to_all_of, eq→eqb}
use Rattle.lists.proofs.Laws.Each.{each_get_d}
use Rattle.lists.proofs.Laws.Parts.{get_d_pad}
use Rattle.meaning.specs.Table.{Output, sum, digit, Group, is_shift}
use Rattle.meaning.specs.Value.{nibble, hex_digit, value}
use Rattle.meaning.specs.Block.{at, word, entry, block, value_by, entry_value, block_size, entry_size}
use Rattle.meaning.proofs.Laws.Shape.{Within}
use Rattle.meaning.proofs.Laws.Exact.{one_at, one_here, one_elsewhere, sum_reads, sum_one, by_shift, nibble_mod, block_size_lem, block_entry}
use Rattle.automaton.specs.Sound.{sound_entry}
use Rattle.automaton.specs.Digits.{sort_at, constant_at, coefficient_at, DigitEntry, EntryOf, KnownEntry}
use Rattle.automaton.proofs.Laws.OneOnly.{One, one_place, place_one}

-- the four shifts in numbers

shift_four : (n : ℕ) → T (is_shift n) → (n ≤ 12) × (n % 4 ≡ 0)
shift_four n t =
    by_shift (λ n. (n ≤ 12) × (n % 4 ≡ 0)) n t (omega arith, refl) (omega arith, refl) (omega arith, refl) (omega arith, refl)

four_shift : (n : ℕ) → (n ≤ 12) × (n % 4 ≡ 0) → T (is_shift n)
four_shift n h =
    let low : n ≤ 12 = h.0 in
    let whole : n % 4 ≡ 0 = h.1 in
    let found : (m : ℕ) → n ≡ m → T (is_shift m) → T (is_shift n) = λ m e t. subst (λ k. T (is_shift k)) (sym e) t in
    elim (ℕ_discrete n 0) [
      | yes e ↦ found 0 e tt
      | no h0 ↦ elim (ℕ_discrete n 4) [
        | yes e ↦ found 4 e tt
        | no h4 ↦ elim (ℕ_discrete n 8) [ yes e ↦ found 8 e tt | no h8 ↦ found 12 (omega arith) tt ]
      ]
    ]

module _ (b : List ℕ) (j : ℕ) where
  abbrev coefficients : List ℕ
  coefficients = take (at b 0) (drop (5 + entry_size * j) b)

  coefficient_read : (i : ℕ) → i < at b 0 → at coefficients i ≡ coefficient_at b j i
  coefficient_read i h = get_or-take (at b 0) (drop (5 + entry_size * j) b) i 0 h ∙ get_or-drop (5 + entry_size * j) b i 0

  below_size : (i : ℕ) → i < length coefficients → i < at b 0
  below_size i h = omega (arith, length-take (at b 0) (drop (5 + entry_size * j) b))

  -- sound entries

  pub entry_known : T (sound_entry b j) → KnownEntry b j
  unfolding sound_entry
  entry_known t =
      let h = holds _ t in
      let digits : sort_at b j ≡ 1 → _ = λ e. holds _ (implied (eqb (sort_at b j) 1) _ h.1.0 (eq→eqb (sort_at b j) 1 e)) in
      record {
        sort = leb→le (sort_at b j) 1 h.0;
        shift = λ e. shift_four (constant_at b j) (digits e).0;
        coefficient = λ e. placed e (one_place coefficients (digits e).1.0);
      }
    where
      placed : sort_at b j ≡ 1 → One coefficients → (p : ℕ) × (p < at b 0) × DigitEntry b j p (constant_at b j)
      placed e o =
          let inside : o.place < at b 0 = below_size o.place o.inside in (
            o.place,
            inside,
            record {
              sort = e;
              constant = refl;
              one = sym (coefficient_read o.place inside) ∙ o.one;
              others = λ i h n. sym (coefficient_read i h) ∙ o.others i n;
            },
          )

  pub known_entry : KnownEntry b j → T (sound_entry b j)
  unfolding sound_entry
  known_entry k =
      to_all_of _ (
        le→leb (sort_at b j) 1 k.sort,
        (
          to_implies (eqb (sort_at b j) 1) _ (λ t.
              let e : sort_at b j ≡ 1 = eqb→eq (sort_at b j) 1 t in
              let q = k.coefficient e in
              let one = coefficient_read q.0 q.1 ∙ q.2.one in
              to_all_of _ (four_shift (constant_at b j) (k.shift e), (place_one coefficients q.0 one (λ i h n. coefficient_read i (below_size i h) ∙ q.2.others i (below_size i h) n), tt))),
          tt,
        ),
      )

  -- a digit's entry writes the digit of the character at its position
  pub digit_writes : (p : ℕ) → KnownEntry b j → DigitEntry b j p (constant_at b j) → (u : List ℕ) → length u ≡ at b 0 →
      pos (entry_value b j u) ≡ value (digit p (constant_at b j)) u
  unfolding entry_value value
  digit_writes p k d u size =
      let c = constant_at b j in
      let shift : T (is_shift c) = four_shift c (k.shift d.sort) in
      let read : (i : ℕ) → i < length u → at coefficients i ≡ at (one_at p) i =
      λ i h.
      let h' : i < at b 0 = omega arith in
      coefficient_read i h' ∙ elim (ℕ_discrete i p) [
        | yes e ↦ ap (coefficient_at b j) e ∙ d.one ∙ sym (one_here p) ∙ ap (at (one_at p)) (sym e)
        | no n ↦ d.others i h' n ∙ sym (one_elsewhere p i n)
      ] in
      ap pos
      (ap (λ s. value_by s c coefficients u) d.sort
      ∙ ap (λ v. hex_digit (nibble c v)) (sum_reads 0 coefficients (one_at p) u (omega arith) read ∙ sum_one p u)
      ∙ ap hex_digit (nibble_mod c (at u p) shift))

  -- the entries of output characters

  -- words that agree with an output character's entry
  pub entry_of : (o : Output) → at b 0 ≤ 8 → Within (at b 0) o → ((i : ℕ) → i < entry_size → at b (3 + entry_size * j + i) ≡ at (entry o) i) → EntryOf b j o
  unfolding entry word
  entry_of (sum c ks) small within is = (
    rw add-zero at (is 0 (lit< tt)),
    ap (at b) (omega arith) ∙ is 1 (lit< tt),
    λ i h. ap (at b) (omega arith) ∙ is (suc (suc i)) (omega arith) ∙ get_d_pad (entry_size - 2) (map word ks) i (omega arith) ∙ get_or-map word ks i (pos 0),
  )
  entry_of (digit p shift) small within is =
      let read : (i : ℕ) → i < 8 → coefficient_at b j i ≡ at (one_at p) i =
      λ i h. ap (at b) (omega arith) ∙ is (suc (suc i)) (omega arith) ∙ get_d_pad (entry_size - 2) (one_at p) i h in
      let below : p < at b 0 = within.0 in
      record {
        sort = rw add-zero at (is 0 (lit< tt));
        constant = ap (at b) (omega arith) ∙ is 1 (lit< tt);
        one = read p (omega arith) ∙ one_here p;
        others = λ i h n. read i (omega arith) ∙ one_elsewhere p i n;
      }

  pub known_of : (o : Output) → Within (at b 0) o → EntryOf b j o → KnownEntry b j
  known_of (sum c ks) within e =
      let z : sort_at b j ≡ 0 = e.0 in
      record { sort = omega arith; shift = λ d. absurd (omega arith); coefficient = λ d. absurd (omega arith) }
  known_of (digit p shift) within e =
      let d : sort_at b j ≡ 1 = e.sort in
      record {
        sort = omega arith;
        shift = λ _. shift_four (constant_at b j) (subst (λ n. T (is_shift n)) (sym e.constant) within.1);
        coefficient = λ _. (p, within.0, record { sort = d; constant = refl; one = e.one; others = e.others });
      }

-- words that agree with a group's block have the entries of its output characters
pub group_entry : (g : Group) (b : List ℕ) → g.size ≤ 8 → length g.outputs ≤ 8 → Each (Within g.size) g.outputs →
    ((i : ℕ) → i < block_size → at b i ≡ at (block g) i) → (j : ℕ) → j < length g.outputs → EntryOf b j (get_or g.outputs j (sum (pos 0) []))
group_entry g b small few within is j h =
    let size : at b 0 ≡ g.size = is 0 (omega arith) ∙ block_size_lem g in
    entry_of b j (get_or g.outputs j (sum (pos 0) [])) (omega arith)
    (rw size (each_get_d (Within g.size) g.outputs j (sum (pos 0) []) within h))
    (λ i k. is (3 + entry_size * j + i) (omega arith) ∙ block_entry g j i (sum (pos 0) []) few h k)
