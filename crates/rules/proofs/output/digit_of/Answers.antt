-- `rules::output::digit_of` meets its contract, by its test.
-- A number below 16 makes a digit that fits a word.
use Rattle.std.proofs.Common.{le-ltb, lt-ltb}
use Rattle.meaning.specs.Value.{hex_digit}
use Rattle.rules.proofs.output.digit_of.Goals as goal

pub returns-then-number-lt10 : goal.returns-then-number-lt10
unfolding hex_digit
returns-then-number-lt10 c = simp (lt-ltb _ _ c.if-number-lt10.true)

pub returns : goal.returns
unfolding hex_digit
returns c = simp (le-ltb _ _ c.if-number-lt10.false)
