-- `convert` meets its contract: the two tests are those of refusals 14 and 15, and the text then has room.
-- No group writes more than 8 characters, so the product cannot overflow.
use Rattle.std.proofs.Common.{◌*◌, ◌<◌, ◌≤◌, length, subst, arith}
use Rattle.meaning.specs.bridge.Flat.{expansion_at}
use Rattle.rules.specs.bridge.Modes.{the_mode}
use Rattle.rules.proofs.Laws.Converting.{expansion_eight, flat_long, flat_narrow, flat_converted, expansion_fits}
use Rattle.rules.proofs.loaded.Accepted.convert.Goals as goal
use Rattle.rules.proofs.loaded.Accepted.convert.Goals.{Else-output-expansion}

pub returns-then-input-gt-LIMIT : goal.returns-then-input-gt-LIMIT
returns-then-input-gt-LIMIT c =
    let t = c.args.self.now.table in
    let both = flat_long t.words.now t.rules (the_mode t.mode) c.args.input.now c.args.output.now c.if-input-gt-LIMIT.true in
    record { answer = both.0; text = both.1 }

pub overflow_mul-expansion : goal.overflow_mul-expansion
overflow_mul-expansion c =
    let t = c.args.self.now.table in
    let small = expansion_eight t.words.now t.rules (the_mode t.mode) t.flat t.few in
    rw c.expansion.ensures (omega (arith, expansion_fits t.words.now t.rules (the_mode t.mode) c.args.input.now c.args.output.now c.if-input-gt-LIMIT.false small))

pub returns-then-output-expansion : goal.returns-then-output-expansion
returns-then-output-expansion c =
    let t = c.args.self.now.table in
    let both = flat_narrow t.words.now t.rules (the_mode t.mode) c.args.input.now c.args.output.now c.if-input-gt-LIMIT.false
    (subst (λ x. length c.args.output.now < x * length c.args.input.now) c.expansion.ensures c.if-output-expansion.true) in
    record { answer = both.0; text = both.1 }

-- the text of every input has room
wide : (c : Else-output-expansion) →
    let t = c.args.self.now.table in expansion_at t.words.now t.rules (the_mode t.mode) * length c.args.input.now ≤ length c.args.output.now
wide c = subst (λ x. x * length c.args.input.now ≤ length c.args.output.now) c.expansion.ensures c.if-output-expansion.false

pub convert_flat-requires : goal.convert_flat-requires
convert_flat-requires c = record { input_in_bounds = omega (arith, c.requires.input_len_bound, wide (goal.at.convert_flat-requires c).Else-output-expansion) }

pub returns : goal.returns
returns c =
    let t = c.args.self.now.table in
    let both = flat_converted t.words.now t.rules (the_mode t.mode) c.args.input.now c.args.output.now c.if-input-gt-LIMIT.false (wide (goal.at.returns c).Else-output-expansion)
    (rw c.convert_flat.ensures.answer) c.convert_flat.ensures.text in
    record { answer = both.0; text = both.1 }
