-- `sessions::first_characters_have_their_classes` is safe: the table that was filled has as many places as before.
-- Assumes nothing.
use mathlib.Core.Path.{sym}
use native.Mathlib.Omega.{arith}
use lib.Seq.{length-take-le}
use Rattle.calls.proofs.sessions.first_characters_have_their_classes.Goals as goal

pub slice_bounds-assert_eq-end : goal.slice_bounds-assert_eq-end
slice_bounds-assert_eq-end g c = let f = c.fill_classes in sym (length-take-le 97 f.new.classes (omega (arith, f.ensures.0)))
