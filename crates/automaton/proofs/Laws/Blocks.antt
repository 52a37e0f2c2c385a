-- The words of a table hold its groups' blocks, whatever follows them.
-- The blocks follow the parts before them, the default's the 32 of the rules, and all are of one size.
use mathlib.Core.List.{List, [], ◌∷◌, ◌++◌}
use Rattle.std.specs.Prelude.{Some}
use mathlib.Core.Path.{◌≡◌, ap, ◌∙◌}
use Prim.Native.Nat.{ℕ, ◌+◌, ◌*◌, ◌≤◌, ◌<◌}
use native.Mathlib.Omega.{arith}
use lib.ListN.{length, get_or, drop, length-append}
use lib.Seq.{get_or-drop}
use Rattle.lists.specs.Lists.{flat_map, pad, optional}
use Rattle.lists.proofs.Laws.Parts.{length_pad, get_d_pad, get_d_rows}
use Rattle.meaning.specs.Table.{Group, Table, every_character, rule_at}
use Rattle.meaning.specs.Block.{block, at, block_size}
use Rattle.meaning.proofs.Laws.Shape.{Shaped}
use Rattle.meaning.proofs.Laws.Exact.{length_block}
use Rattle.automaton.specs.Layout.{parts, words, blocks_from}
use Rattle.automaton.specs.Sound.{block_at}
use Rattle.automaton.proofs.Laws.Places.{layout_part}

-- word j of block i, where the words m hold the blocks of `gs` as n words from place `from` on
block_of : (m : List ℕ) (from n : ℕ) (gs : List Group) → ((i : ℕ) → i < n → at m (from + i) ≡ at (pad n (flat_map block gs)) i) →
    (i j p : ℕ) → p ≡ from + block_size * i → i < length gs → block_size * i + j < n → j < block_size → at (drop p m) j ≡ at (block (get_or gs i (every_character []))) j
block_of m from n gs e i j p place h below k =
    let there : p + j ≡ from + (block_size * i + j) = omega arith in
    get_or-drop p m j 0
    ∙ ap (at m) there
    ∙ e (block_size * i + j) below
    ∙ get_d_pad n (flat_map block gs) (block_size * i + j) below
    ∙ get_d_rows block block_size length_block gs i j (every_character []) h k

pub block_word : (t : Table) (rest : List ℕ) → Shaped t → (r : ℕ) → r < length t.rules → (j : ℕ) → j < block_size →
    at (block_at (words t ++ rest) r) j ≡ at (block (rule_at t r)) j
unfolding parts
block_word t rest s r h j k =
    let few : length t.rules ≤ 32 = s.few_rules in
    block_of (words t ++ rest) blocks_from (32 * block_size) t.rules
    (λ i l. layout_part t rest 4 blocks_from (simp (length-append, length_pad)) i (rw length_pad l))
    r j (blocks_from + block_size * r) (omega arith) h (omega arith) k

pub default_word : (t : Table) (rest : List ℕ) (g : Group) → t.default ≡ Some g → (j : ℕ) → j < block_size →
    at (block_at (words t ++ rest) 32) j ≡ at (block g) j
unfolding parts
default_word t rest g e j k =
    block_of (words t ++ rest) (blocks_from + 32 * block_size) block_size (g ∷ [])
    (λ i l.
    layout_part t rest 5 (blocks_from + 32 * block_size) (simp (length-append, length_pad)) i (rw length_pad l)
    ∙ ap (λ o. at (pad block_size (flat_map block (optional o))) i) e)
    0 j (blocks_from + block_size * 32) (omega arith) (omega arith) (omega arith) k
