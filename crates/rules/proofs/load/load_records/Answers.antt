-- `rules::load::load_records` meets its contract. The invariant: the records before this one are taken, and leave the work that is left.
-- Assumes nothing.
use Rattle.std.proofs.Common.{◌≡◌, ◌+◌, ◌*◌, ◌/◌, ◌<◌, [], length, get_or, take, drop, sym, ap, ◌∙◌, subst, arith}
use Rattle.std.proofs.lemmas.Result.{err_from_is_err_and}
use Rattle.meaning.specs.Record.{decode}
use Rattle.rules.specs.Answers.{number_of, outcome_of}
use Rattle.rules.specs.bridge.Readings.{record_of}
use Rattle.rules.proofs.Laws.Loading.{chunk_at, each_known, Passed, passed_start, passed_end, passed_stop, passed_on}
use Rattle.rules.proofs.load.load_records.Goals as goal
use Rattle.rules.proofs.load.load_records.Goals.{After-decode}

pub loop-bytes-init : goal.loop-bytes-init
loop-bytes-init c = passed_start c.args.reader c.args.table.now _ c.requires.table_len c.requires.fitting c.told-loaded

-- the record's place, and that it is the next one
inside : (c : After-decode) → 8 * c.loop-bytes.bytes-index < length c.args.table.now
inside c = omega (arith, c.loop-bytes-test.true, c.as_chunks.ensures.front_len)

decoded : (c : After-decode) → record_of c.decode.result ≡ decode (take 8 (drop (8 * c.loop-bytes.bytes-index) c.args.table.now))
decoded c =
    let chunks = c.as_chunks.result.0.now in
    let i = c.loop-bytes.bytes-index in
    let b = c.args.table.now in
    c.decode.ensures ∙ ap decode (ap (λ l. get_or l i []) c.as_chunks.ensures.front ∙ chunk_at (length b / 8) i b (omega (arith, c.loop-bytes-test.true, c.as_chunks.ensures.front_len)))

pub returns-in_err-so_far : goal.returns-in_err-so_far
returns-in_err-so_far c =
    let p = err_from_is_err_and c.from_residual.result c.from_residual.ensures.1 in
    let s = (goal.at.returns-in_err-so_far c).After-decode in
    let done = c.take_record.ensures in
    let both = passed_stop c.loop-bytes.invariant (inside s) (record_of c.decode.result) (decoded s)
    done.loaded_after (number_of c.in_err-so_far.field-0.0) (sym (ap outcome_of c.in_err-so_far.was) ∙ done.result_value) in
    rw (p.1, p.2) (record { answer = both.0; array = both.1 })

pub loop-bytes-preserved : goal.loop-bytes-preserved
loop-bytes-preserved c =
    let s = (goal.at.loop-bytes-preserved c).After-decode in
    let done = c.take_record.ensures in
    let e : 8 * c.loop-bytes.bytes-index + 8 ≡ 8 * (c.loop-bytes.bytes-index + 1) = omega arith in
    subst (Passed c.args.reader c.args.table.now c.args.loaded.now c.take_record.new.loaded c.in_ok-so_far.so_far) e
    (passed_on c.loop-bytes.invariant (inside s) (record_of c.decode.result) (decoded s)
    done.loaded_after c.in_ok-so_far.so_far
    (each_known 256 c.args.table.now (λ i. omega (arith, c.type_inv.table i)))
    (sym (ap outcome_of c.in_ok-so_far.was) ∙ done.result_value))

pub returns : goal.returns
returns c =
    let both = passed_end c.loop-bytes.invariant (omega (arith, c.loop-bytes-test.false, c.as_chunks.ensures.front_len, c.requires.table_len)) in
    record { answer = both.0; array = both.1 }
