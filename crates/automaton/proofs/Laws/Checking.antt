-- The test of sound words, taken one clause after another, by the answers of the clauses before.
-- By one step of the definitions for each answer.
use mathlib.Core.Bool.{Bool, true, false, not}
use mathlib.Core.List.{List}
use mathlib.Core.Path.{◌≡◌, refl, ap, ◌∙◌}
use Prim.Native.Nat.{ℕ, ◌+◌, ◌*◌, ◌≤◌}
use native.Mathlib.Omega.{arith}
use borrow.Author.Tests.{le-leb, eq-eqb, ne_eqb}
use lib.Dec.{eqb, eqb→eq, leb→le}
use Rattle.lists.specs.Decide.{for_below, implies}
use Rattle.lists.proofs.Laws.Tests.{to_T, of_T, below, to_below, all_next, all_last, holds}
use Rattle.meaning.specs.Block.{at, entry_size}
use Rattle.automaton.specs.Sound.{rule_count, used, sound_entry, names_rule}

-- a test that counts where another passes, and one that another waives
pub counts : {a : Bool} (b : Bool) → a ≡ true → implies a b ≡ b
counts b e = rw e refl

pub waived : {a : Bool} (b : Bool) → a ≡ false → implies a b ≡ true
waived b e = rw e refl

pub unused : {n : ℕ} (b : Bool) → n ≡ 0 → implies (used n) b ≡ true
unused {n} b e = waived b (ap not (eq-eqb n 0 e))

-- an entry of a block that is a sum
module _ (b : List ℕ) (j : ℕ) where
  abbrev sort : ℕ
  sort = at b (3 + entry_size * j)

  pub entry_sum : sort ≡ 0 → sound_entry b j ≡ true
  unfolding sound_entry
  entry_sum e = all_next _ (le-leb sort 1 (omega (arith, e))) ∙ all_last _ ∙ waived _ (ne_eqb sort 1 (λ one. omega (arith, e, one)))

pub only_sums : (b : List ℕ) (n : ℕ) → for_below n (λ j. eqb (at b (3 + entry_size * j)) 0) ≡ true → for_below n (sound_entry b) ≡ true
only_sums b n e =
    of_T (for_below n (sound_entry b))
    (to_below n (sound_entry b) (λ j h. to_T (sound_entry b j) (entry_sum b j (eqb→eq (at b (3 + entry_size * j)) 0 (below n _ (to_T _ e) j h)))))

module _ (w : List ℕ) where
  pub names_small : (depth n : ℕ) → names_rule w depth n ≡ true → n ≤ rule_count w
  unfolding names_rule
  names_small depth n e = leb→le n (rule_count w) (holds _ (to_T (names_rule w depth n) e)).0
