-- A word that fits a pattern so far can be completed to one that fits it.
-- Each position that is left takes the lowest character of its first range.
use mathlib.Core.List.{List, [], ◌∷◌, ◌++◌}
use Prim.Native.Nat.{ℕ, ◌<◌}
use native.Mathlib.Omega.{arith}
use lib.Dec.{T}
use Rattle.lists.specs.Lists.{Each}
use Rattle.lists.proofs.Laws.Tests.{and_left, and_right, both, or_left, to_between}
use Rattle.meaning.specs.Table.{Characters, Range, within, in_ranges}
use Rattle.meaning.specs.WellFormed.{WellFormedRange, WellFormedPosition}
use Rattle.meaning.specs.Value.{fits_word}
use Rattle.meaning.proofs.Laws.Prefix.{fits_prefix}

pub record Completed (ps : List (List Range)) (w : List ℕ) : Type 0 where
  pub more : List ℕ
  pub characters : Characters more
  pub fits : T (fits_word ps (w ++ more))

lowest_in : (r : Range) (rs : List Range) → WellFormedRange r → T (in_ranges (r ∷ rs) r.lowest)
lowest_in r rs f = or_left (within r.lowest r) (in_ranges rs r.lowest) (to_between r.lowest r.highest r.lowest (omega arith) f.ordered)

pub complete : (ps : List (List Range)) (w : List ℕ) → Each WellFormedPosition ps → T (fits_prefix ps w) → Completed ps w
unfolding fits_prefix fits_word
complete [] [] f t = record { more = []; characters = tt; fits = tt }
complete [] (c ∷ w) f t = absurd t
complete ((r ∷ rs) ∷ ps) [] f t =
    let k = complete ps [] f.1 tt in
    let i : WellFormedRange r = f.0.ranges.0 in
    let low : r.lowest < 65536 = omega (arith, i.ordered, i.character) in
    record {
      more = r.lowest ∷ k.more;
      characters = (low, k.characters);
      fits = both (in_ranges (r ∷ rs) r.lowest) (fits_word ps k.more) (lowest_in r rs i) k.fits;
    }
complete ([] ∷ ps) [] f t = absurd (omega (arith, f.0.some_range))
complete (rs ∷ ps) (c ∷ w) f t =
    let k = complete ps w f.1 (and_right (in_ranges rs c) (fits_prefix ps w) t) in
    record {
      more = k.more;
      characters = k.characters;
      fits = both (in_ranges rs c) (fits_word ps (w ++ k.more)) (and_left (in_ranges rs c) (fits_prefix ps w) t) k.fits;
    }
