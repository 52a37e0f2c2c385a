-- `two::convert` meets its contract: a refusal of compiling or of the first feed ends it, and else the rest goes on from where that has led.
-- The course begins with a fresh session and nothing written.
use mathlib.Core.Path.{refl, ap, ◌∙◌}
use Rattle.std.proofs.lemmas.Result.{err_from_is_err_and}
use Rattle.automaton.specs.Compile.{compile}
use Rattle.session.specs.Keeping.{session_of}
use Rattle.station.specs.Two.{feed_on, rest_of, pieces, in_two}
use Rattle.station.proofs.Laws.Calls.{ends_here, goes_on, not_compiled, compiled}
use Rattle.station.proofs.two.convert.Goals as goal

pub returns-in_err-compile-clause-output_after : goal.returns-in_err-compile-clause-output_after
unfolding in_two
returns-in_err-compile-clause-output_after c =
    let a = c.args in
    let p = err_from_is_err_and c.from_residual.result c.from_residual.ensures.1 in
    rw (p.1, p.2, c.requires.1) (not_compiled (compile a.table.now a.words.now).answer a.course.now.output.now _ _ _ c.in_err-compile.ensures.answer c.requires.0)

pub returns-in_err-feed-clause-output_after : goal.returns-in_err-feed-clause-output_after
unfolding pieces in_two
returns-in_err-feed-clause-output_after c =
    let a = c.args in
    let o = compile a.table.now a.words.now in
    let out = a.course.now.output.now in
    let fed = c.in_err-feed.ensures.output_after ∙ (λ i. feed_on (c.compile.ensures.words i) a.first.now (c.requires.0 i) (c.requires.1 i) out) in
    let p = err_from_is_err_and c.from_residual-in_err-feed.result c.from_residual-in_err-feed.ensures.1 in
    rw (p.1, p.2) (ends_here _ _ (rest_of o.words a.second.now) _ fed refl ∙ compiled o.answer out _ c.in_ok-compile.ensures.answer)

pub returns-clause-output_after : goal.returns-clause-output_after
unfolding pieces in_two
returns-clause-output_after c =
    let a = c.args in
    let o = compile a.table.now a.words.now in
    let out = a.course.now.output.now in
    let fed = c.in_ok-feed.ensures.output_after ∙ (λ i. feed_on (c.compile.ensures.words i) a.first.now (c.requires.0 i) (c.requires.1 i) out) in
    let led = c.feed.new.self in
    c.convert_rest.ensures.output_after
    ∙ ap (λ w. rest_of w a.second.now (session_of led.session) led.written led.output.now) c.compile.ensures.words
    ∙ goes_on _ _ (rest_of o.words a.second.now) fed refl
    ∙ compiled o.answer out _ c.in_ok-compile.ensures.answer
