-- Where a plain character is next, Definition 7 chooses the default, a pair or nothing.
-- Each rule has a position, and the first takes another character, so no rule fits.
use Rattle.std.proofs.Common.{◌≡◌, ℕ, zero, suc, ◌+◌, ◌*◌, ◌<◌, ◌≤◌, Bool, true, false, List, [], ◌∷◌, length, get_or, take, set, replicate, sym, refl, ◌∙◌, true≢false, add-zero, add-one, arith, get_or-set_other, get_or-set_same}
use Rattle.std.specs.Prelude.{None}
use native.Mathlib.Decide.{ℕ_discrete}
use Rattle.lists.specs.Lists.{tab_from}
use Rattle.lists.specs.Decide.{for_below}
use Rattle.lists.proofs.Laws.Tests.{to_T, of_not, below}
use Rattle.meaning.specs.Table.{in_ranges, Mode}
use Rattle.meaning.specs.Block.{at, block_size}
use Rattle.meaning.specs.Value.{fits_word}
use Rattle.meaning.specs.Meaning.{fits, or_default, choose}
use Rattle.meaning.specs.bridge.Flat.{ranges_at, pattern_at, group_at, table_at}
use Rattle.meaning.proofs.Laws.Choosing.{KeptOf, kept_none, kept_skip, kept_choose}
use Rattle.rules.specs.bridge.Plain.{passes_by, is_plain, Marked}

-- a group whose first position does not take the next character does not fit
first_fails : (loaded : List ℕ) (g c : ℕ) (rest : List ℕ) → 1 ≤ at loaded (block_size * g) →
    in_ranges (ranges_at loaded (8 * g)) c ≡ false → fits (group_at loaded g) (c ∷ rest) ≡ false
unfolding fits group_at pattern_at fits_word
first_fails loaded g c rest h e = rw (word (at loaded (block_size * g)) h) refl
  where
    word : (size : ℕ) → 1 ≤ size → fits_word (tab_from 0 size (λ p. ranges_at loaded (8 * g + p))) (take size (c ∷ rest)) ≡ false
    word zero h = absurd (omega arith)
    word (suc n) h = rw (add-zero (8 * g), e) refl

module _ (loaded : List ℕ) (n : ℕ) (d : Mode) (positive : (g : ℕ) → g < n → 1 ≤ at loaded (block_size * g)) (c : ℕ) (plain : is_plain loaded n c ≡ true) where
  rule_fails : (rest : List ℕ) (r : ℕ) → r < n → fits (group_at loaded r) (c ∷ rest) ≡ false
  unfolding is_plain
  rule_fails rest r h =
      first_fails loaded r c rest (positive r h)
      (of_not (in_ranges (ranges_at loaded (8 * r)) c) (below n (passes_by loaded c) (to_T (for_below n (passes_by loaded c)) plain) r h))

  -- no rule is kept
  none_kept : (rest : List ℕ) (r : ℕ) → r ≤ n → KeptOf loaded n d (c ∷ rest) r None 9
  none_kept rest zero h = kept_none loaded n d (c ∷ rest)
  none_kept rest (suc r) h =
      let i : r < n = omega arith in
      rw add-one at (kept_skip loaded n d (c ∷ rest) r None 9 i (none_kept rest r (omega arith)) false (sym (rule_fails rest r i)) refl)

  plain_chosen : (rest : List ℕ) → choose (table_at loaded n d) (c ∷ rest) ≡ or_default d (c ∷ rest) None
  plain_chosen rest = kept_choose loaded n d (c ∷ rest) None 9 (none_kept rest n (omega arith))

-- the choice for the rest of an input whose next character is marked
pub marked_chosen : (loaded : List ℕ) (n : ℕ) (d : Mode) (rest : List ℕ) (marks : List Bool) →
    ((g : ℕ) → g < n → 1 ≤ at loaded (block_size * g)) → Marked loaded n marks → 0 < length rest → get_or marks (at rest 0) false ≡ true →
    choose (table_at loaded n d) rest ≡ or_default d rest None
marked_chosen loaded n d [] marks positive right h e = absurd (omega arith)
marked_chosen loaded n d (c ∷ rest) marks positive right h e = plain_chosen loaded n d positive c (right c e) rest

-- the marks at first, none, and after one more character's test

pub none_marked : (loaded : List ℕ) (n k : ℕ) → Marked loaded n (replicate k false)
none_marked loaded n k c e = absurd (true≢false (sym e ∙ unmarked k c))
  where
    unmarked : (k c : ℕ) → get_or (replicate k false) c false ≡ false
    unmarked zero c = refl
    unmarked (suc k) zero = refl
    unmarked (suc k) (suc c) = unmarked k c

pub marked_more : (loaded : List ℕ) (n : ℕ) (marks : List Bool) (c : ℕ) {b : Bool} → Marked loaded n marks → c < length marks →
    b ≡ is_plain loaded n c → Marked loaded n (set marks c b)
marked_more loaded n marks c {b} right h e i t =
    elim (ℕ_discrete i c) [
      | yes p ↦ rw p (sym e ∙ sym (get_or-set_same marks c b false h) ∙ (rw p at t))
      | no p ↦ right i (sym (get_or-set_other marks c i b false p) ∙ t)
    ]
