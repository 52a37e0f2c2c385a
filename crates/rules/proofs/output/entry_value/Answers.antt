-- `rules::output::entry_value` meets its contract: the entry's sort, constant and coefficients stand at its place in the block.
-- Four bits of a sum are a number below 16.
use Rattle.std.proofs.Common.{ℕ, ◌+◌, ◌*◌, ◌%◌, ◌<◌, sym, ap, ◌∙◌, subst, mod-lt, arith}
use Rattle.meaning.specs.Value.{nibble, hex_digit}
use Rattle.meaning.specs.Block.{at, entry_size}
use Rattle.meaning.proofs.Laws.Writing.{entry_sum, entry_digit}
use Rattle.rules.proofs.output.entry_value.Goals as goal

nibble_below : (shift c : ℕ) → nibble shift c < 16
unfolding nibble
nibble_below shift c = mod-lt _ (omega arith)

pub returns-then-block-from-eq0 : goal.returns-then-block-from-eq0
returns-then-block-from-eq0 c =
    let a = c.args in
    let b = a.block.now in
    let i = 3 + entry_size * a.entry + 1 in
    entry_sum b 0 a.entry a.word.now c.requires.word_len.0 _ c.if-block-from-eq0.true
    (omega (arith, c.type_inv.block i))
    (ap (λ n. (n + at b i) % 65536) c.sum_at-sum.ensures)

pub digit_of-requires : goal.digit_of-requires
digit_of-requires c = subst (λ n. n < 16) (sym c.nibble_of.ensures) (nibble_below _ _)

pub returns : goal.returns
returns c =
    let a = c.args in
    entry_digit a.block.now 0 a.entry a.word.now c.requires.word_len.0 c.digit_of.result c.if-block-from-eq0.false
    (c.digit_of.ensures ∙ ap hex_digit (c.nibble_of.ensures ∙ ap (nibble _) c.sum_at-sum.ensures))
