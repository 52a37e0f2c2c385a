-- `kept::next_state` meets its contract: the target is read by the character's class, and two tests decide whether it counts.
-- A sound machine's targets are states.
use mathlib.Core.Logic.{◌≢◌}
use Rattle.std.specs.Prelude.{Some}
use mathlib.Core.Path.{◌≡◌, sym, ap, subst, ◌∙◌}
use Prim.Native.Nat.{ℕ}
use native.Mathlib.Omega.{arith}
use Rattle.automaton.specs.Sound.{target_word}
use Rattle.words.specs.bridge.Readings.{Leads}
use Rattle.automaton.specs.Automaton.{from_words}
use Rattle.automaton.proofs.Laws.Words.{sound_header_lem, sound_class, sound_good}
use Rattle.reckoning.specs.Session.{settled}
use Rattle.reckoning.proofs.Laws.Keeping.{path_unused, path_settled, path_one}
use Rattle.session.specs.bridge.Later.{path_of}
use Rattle.session.proofs.kept.next_state.Goals as goal
use Rattle.session.proofs.kept.next_state.Goals.{After-settled, After-target, In_ok-next}

-- the target as the definition has it
abbrev word : After-target → ℕ
word t = let s = t.args in (from_words s.machine.words.all.now).target s.state.0 s.c

leads : (t : After-target) → Leads t.target.result (word t)
unfolding from_words
leads t = let s = t.args in
    subst (λ k. Leads t.target.result (target_word s.machine.words.all.now s.state.0 k)) t.class_of.ensures t.target.ensures

reached : (r : In_ok-next) → (r.in_ok-next.next.0 ≡ word (goal.at.In_ok-next r).After-target) × (word (goal.at.In_ok-next r).After-target ≢ 0)
reached r = subst (λ n. Leads n (word (goal.at.In_ok-next r).After-target)) r.in_ok-next.was (leads (goal.at.In_ok-next r).After-target)

-- whether it is settled, as the definition has it
asked : (c : After-settled) → c.settled.result ≡ settled (from_words c.args.machine.words.all.now) (word (goal.at.After-settled c).After-target)
unfolding from_words
asked c = c.settled.ensures ∙ ap (settled (from_words c.args.machine.words.all.now)) (reached (goal.at.After-settled c).In_ok-next).0

pub target-requires : goal.target-requires
target-requires c =
    let w = c.args.machine.words.all.now in
    let h = sound_header_lem w c.args.machine.sound in
    let k = sound_class w c.args.machine.sound c.args.c in
    let e = c.class_of.ensures in
    (omega (arith, h.few_states, c.requires), omega (arith, h.few_classes, k, e))

pub returns-in_err-next : goal.returns-in_err-next
returns-in_err-next c =
    let a = c.args in
    let t = (goal.at.returns-in_err-next c).After-target in
    ap path_of c.from_residual.ensures ∙ sym (path_unused (from_words a.machine.words.all.now) a.state.0 a.c (subst (λ n. Leads n (word t)) c.in_err-next.was (leads t)))

pub settled-requires : goal.settled-requires
settled-requires c =
    let w = c.args.machine.words.all.now in
    let h = sound_header_lem w c.args.machine.sound in
    let b = (sound_good w c.args.machine.sound).inside c.args.state.0 c.args.c c.requires in
    let e = (reached (goal.at.settled-requires c).In_ok-next).0 in
    omega (arith, h.few_states, b, e)

pub returns-then-settled : goal.returns-then-settled
returns-then-settled c =
    let a = c.args in
    let m = from_words a.machine.words.all.now in
    sym (path_settled m a.state.0 a.c (sym (asked (goal.at.returns-then-settled c).After-settled) ∙ c.if-settled.true))

pub returns : goal.returns
returns c =
    let a = c.args in
    let m = from_words a.machine.words.all.now in
    let e = reached (goal.at.returns c).In_ok-next in
    ap Some e.0 ∙ sym (path_one m a.state.0 a.c e.1 (sym (asked (goal.at.returns c).After-settled) ∙ c.if-settled.false))
